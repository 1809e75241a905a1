use Rattle.std.proofs.Common.{◌≡◌, List, length, map, ap, sym, subst, arith}
use Rattle.std.specs.Prelude.{MatchOption, Vec}
use Rattle.reg_checkers.specs.History.{IsAt}
use Rattle.reg_checkers.proofs.Places.{IsAt-map}
use Rattle.reg_outcomes.specs.declared.told.ToldAnswer.{ToldAnswer}
use Rattle.reg_outcomes.specs.declared.interleavings.nevers.TheConstants.{MOST_NEVERS}
use Rattle.reg_outcomes.specs.Interleavings.{Interleaving}
use Rattle.reg_outcomes.specs.Nevers.{AreOver, tells}
use Rattle.reg_outcomes.specs.Combining.{AreCombinations, lists_of}
use Rattle.reg_outcomes.proofs.Growing.{IsCut, is_cut}
use Rattle.reg_outcomes.proofs.Listing.{tells_listed}
use Rattle.reg_outcomes.proofs.interleavings.nevers.nevers_of.Goals as goal

pub returns : goal.returns
returns g c =
    let outcomes = tells c.args.outcomes.now in
    let first : List ToldAnswer = c.first-2.inside.told.items in
    let read = λ (v : Vec ToldAnswer g.row.A.Denot). v.items in
    let ks = c.in-Some-2.combinations.keys in
    let left = c.remove_told.new.combinations.keys in
    let at : IsAt outcomes 0 first = subst (λ t. IsAt outcomes 0 t) (sym (ap (λ (i : Interleaving). i.told) c.first-2.view_is)) (IsAt-map (λ (i : Interleaving). i.told) c.args.outcomes.now 0 c.in-Some.first.now (sym c.in-Some.ensures.value)) in
    let many : c.len.result ≡ length first = (let a = c.first-2.inside.told.ok.0 in let b = c.len.ensures in omega (arith, a, b)) in
    let all : AreCombinations outcomes (length first) (map read ks) = subst (λ n. AreCombinations outcomes n (map read ks)) many (subst (λ o. MatchOption o (AreOver outcomes MOST_NEVERS) (λ found. AreCombinations outcomes c.len.result (lists_of found))) c.in-Some-2.is c.in_ok-combinations.ensures) in
    let is : IsCut read outcomes ks left = subst (λ l. IsCut read outcomes ks l) (sym c.remove_told.ensures.keys) (is_cut read outcomes ks all.once) in
    tells_listed read outcomes first at ks left all is (λ v. v.items) MOST_NEVERS c.listed_within.result c.listed_within.ensures.ordered c.listed_within.ensures.list
