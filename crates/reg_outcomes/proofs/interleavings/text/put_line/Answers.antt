use Rattle.std.proofs.Common.{◌++◌, ◌∷◌, [], ap}
use Rattle.std.specs.List.{flat_map}
use Rattle.reg_text.proofs.Sent.{puts_as, puts_two}
use Rattle.reg_outcomes.specs.AllText.{outcome_text, told_text, turns_text}
use Rattle.reg_outcomes.specs.Interleavings.{Interleaving}
use Rattle.reg_outcomes.proofs.interleavings.text.put_line.Goals as goal

pub returns : goal.returns
returns g c =
    let held = g.W.Write.contents in
    let i : Interleaving = record { turns = c.outcome.inside.turns.items; told = c.outcome.inside.told.items } in
    let told = puts_as held c.args.sink.now c.put_outcome.new.sink (flat_map told_text c.as_slice.result.now) (flat_map told_text i.told) (ap (flat_map told_text) c.as_slice.ensures.value) c.put_outcome.ensures in
    let turns = puts_as held c.put_outcome.new.sink c.put_turns.new.sink (turns_text c.as_slice-2.result.now) (turns_text i.turns) (ap turns_text c.as_slice-2.ensures.value) c.put_turns.ensures in
    puts_as held c.args.sink.now c.put.new.self (outcome_text i ++ 10 ∷ []) (outcome_text c.args.outcome.now ++ 10 ∷ []) (ap (λ (j : Interleaving). outcome_text j ++ 10 ∷ []) c.outcome.view_is)
    (puts_two held c.args.sink.now c.put_turns.new.sink c.put.new.self (outcome_text i) (10 ∷ []) (puts_two held c.args.sink.now c.put_outcome.new.sink c.put_turns.new.sink (flat_map told_text i.told) (turns_text i.turns) told turns) c.put.ensures)
