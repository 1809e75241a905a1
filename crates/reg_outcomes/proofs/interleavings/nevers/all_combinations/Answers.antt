use Rattle.std.proofs.Common.{◌≡◌, ◌+◌, ℕ, List, [], Option, MatchOption, sym, subst, arith}
use Rattle.std.specs.Prelude.{Vec}
use Rattle.std.specs.BTreeSet.{BTreeSet}
use Rattle.reg_outcomes.specs.declared.interleavings.nevers.TheConstants.{MOST_NEVERS}
use Rattle.reg_outcomes.specs.declared.told.ToldAnswer.{ToldAnswer}
use Rattle.reg_outcomes.specs.Nevers.{AreOver, tells}
use Rattle.reg_outcomes.specs.Combining.{AreCombinations, lists_of}
use Rattle.reg_outcomes.proofs.Combining.{first_combination}
use Rattle.reg_outcomes.proofs.Growing.{put_first}
use Rattle.reg_outcomes.proofs.interleavings.nevers.all_combinations.Goals as goal

pub loop-place-init : goal.loop-place-init
loop-place-init g c =
    let outcomes = tells c.args.outcomes.now in
    let one = put_first (λ (v : Vec ToldAnswer g.row.A.Denot). v.items) c.new.result [] c.new-combinations.result.keys c.insert.new.self.keys c.new.ensures.items c.new-combinations.ensures.empty c.in_ok-insert.ensures.keys in
    subst (λ (l : List (List ToldAnswer)). AreCombinations outcomes 0 l) (sym one) (first_combination outcomes)

pub next_combinations-requires-clause-whole : goal.next_combinations-requires-clause-whole
next_combinations-requires-clause-whole g c = let many = c.requires.2 in let more = c.loop-place-test.true in (c.requires.0, c.requires.1, omega (arith, many, more))

pub next_combinations-requires-clause-all : goal.next_combinations-requires-clause-all
next_combinations-requires-clause-all g c = c.loop-place.invariant

pub returns-in-None : goal.returns-in-None
returns-in-None g c =
    let outcomes = tells c.args.outcomes.now in
    subst (λ (o : Option (BTreeSet (Vec ToldAnswer g.row.A.Denot))). MatchOption o (AreOver outcomes MOST_NEVERS) (λ next. AreCombinations outcomes (c.loop-place.place + 1) (lists_of next))) c.in-None.is c.in_ok-next.ensures

pub loop-place-preserved : goal.loop-place-preserved
loop-place-preserved g c =
    let outcomes = tells c.args.outcomes.now in
    subst (λ (o : Option (BTreeSet (Vec ToldAnswer g.row.A.Denot))). MatchOption o (AreOver outcomes MOST_NEVERS) (λ next. AreCombinations outcomes (c.loop-place.place + 1) (lists_of next))) c.in-Some.is c.in_ok-next.ensures

pub returns : goal.returns
returns g c =
    let last = c.loop-place-test.false in
    let within = c.loop-place.auto.place-end in
    let all : c.loop-place.place ≡ c.args.places = omega (arith, last, within) in
    subst (λ (k : ℕ). AreCombinations (tells c.args.outcomes.now) k (lists_of c.loop-place.combinations)) all c.loop-place.invariant
