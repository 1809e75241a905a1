use Rattle.std.proofs.Common.{arith, ℕ, length, ◌≡◌, ◌∙◌, ◌<◌, ◌%◌, [], sym, ap, refl, subst, Some}
use Rattle.std.specs.Prelude.{slice_get}
use Rattle.std.proofs.lemmas.Nat.{mod_below}
use Rattle.std.proofs.lemmas.Option.{slice_get-get_or}
use Rattle.reg_workload.specs.declared.choices.Choice.TheVariants.{Tick as PutAgain}
use Rattle.reg_workload.specs.Listed.{IsWithin}
use Rattle.reg_workload.specs.PlayParts.{IsChoice}
use Rattle.reg_workload.specs.Seeded.{choices_of}
use Rattle.reg_workload.proofs.Keeping.{others_listed}
use Rattle.reg_workload.proofs.Listing.{all_still, choices_are, picked_at}
use Rattle.reg_workload.proofs.Placing.{within_play}
use Rattle.reg_workload.proofs.Turning.{nothing_in, turn_none, turn_picks}
use Rattle.reg_workload.proofs.seeded.play_turn.Goals as goal

pub returns-then-all-eq0-clause-value : goal.returns-then-all-eq0-clause-value
returns-then-all-eq0-clause-value g c =
    let none : choices_of g.F.FrontEnd.start c.args.player.now ≡ [] = nothing_in (choices_of g.F.FrontEnd.start c.args.player.now) (sym c.count-all.ensures ∙ c.if-all-eq0.true) in
    sym (turn_none g.F.FrontEnd.start g.R.Words.next_word c.args.odds.loss c.args.odds.repeat c.args.player.now c.args.words.now none)

pub returns-then-all-eq0-clause-ended : goal.returns-then-all-eq0-clause-ended
returns-then-all-eq0-clause-ended g c =
    let none : choices_of g.F.FrontEnd.start c.args.player.now ≡ [] = nothing_in (choices_of g.F.FrontEnd.start c.args.player.now) (sym c.count-all.ensures ∙ c.if-all-eq0.true) in
    λ _. (none, all_still g.F.FrontEnd.start c.args.player.now none, refl)

pub unreachable-requires : goal.unreachable-requires
unreachable-requires g c =
    let cs = choices_of g.F.FrontEnd.start c.args.player.now in
    let k = c.word-word.result % c.count-all.result in
    let some = c.if-all-eq0.false in
    let below : k < c.count-all.result = mod_below c.word-word.result c.count-all.result (omega (arith, some)) in
    let within : k < length cs = let e = c.count-all.ensures in omega (arith, below, e) in
    c.in_default.not-Some _ (c.nth.ensures ∙ slice_get-get_or cs k (PutAgain 0) within)

pub choose-requires-clause-choice : goal.choose-requires-clause-choice
choose-requires-clause-choice g c = choices_are g.F.FrontEnd.start c.args.player.now (c.word-word.result % c.count-all.result) c.in-Some.choice (sym c.nth.ensures ∙ c.in-Some.is)

pub list_again-requires-clause-within : goal.list_again-requires-clause-within
list_again-requires-clause-within g c =
    let here : IsChoice g.F.FrontEnd.start c.args.player.now c.in-Some.choice = choices_are g.F.FrontEnd.start c.args.player.now (c.word-word.result % c.count-all.result) c.in-Some.choice (sym c.nth.ensures ∙ c.in-Some.is) in
    subst (λ (n : ℕ). IsWithin n c.in-Some.choice) (sym c.in_ok-choose.ensures.turns.processes) (within_play g.F.FrontEnd.start c.args.player.now c.in-Some.choice here)

pub list_again-requires-clause-others : goal.list_again-requires-clause-others
list_again-requires-clause-others g c = others_listed g.F.FrontEnd.start g.R.Words.next_word c.args.odds.loss c.args.odds.repeat c.args.player.now c.choose.new.player c.in-Some.choice c.word-word.new.self c.choose.new.words c.args.chances.now c.in_ok-choose.ensures.value c.requires.listed c.in_ok-choose.ensures.turns.processes

pub returns-clause-value : goal.returns-clause-value
returns-clause-value g c =
    let cs = choices_of g.F.FrontEnd.start c.args.player.now in
    let word = c.word-word.result in
    let at : slice_get cs (word % length cs) ≡ Some c.in-Some.choice = ap (λ (k : ℕ). slice_get cs (word % k)) (sym c.count-all.ensures) ∙ (sym c.nth.ensures ∙ c.in-Some.is) in
    c.in_ok-choose.ensures.value
    ∙ sym (turn_picks g.F.FrontEnd.start g.R.Words.next_word c.args.odds.loss c.args.odds.repeat c.args.player.now c.args.words.now c.word-word.new.self c.in-Some.choice cs word refl (picked_at cs word c.in-Some.choice at) c.word-word.ensures)
