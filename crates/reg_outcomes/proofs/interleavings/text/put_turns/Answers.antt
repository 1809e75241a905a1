use Rattle.std.proofs.Common.{ℕ, List, ◌++◌, codes, ap, take_all}
use Rattle.std.specs.Fmt.{decimal}
use Rattle.std.specs.List.{flat_map}
use Rattle.reg_text.proofs.Sent.{puts_as, puts_two}
use Rattle.reg_outcomes.proofs.Writing.{puts_next}
use Rattle.reg_outcomes.proofs.interleavings.text.put_turns.Goals as goal

pub loop-turn-preserved : goal.loop-turn-preserved
loop-turn-preserved g c =
    puts_next g.W.Write.contents c.put.new.self c.loop-turn.sink c.put_number.new.sink (λ p. codes " " ++ decimal p) c.args.turns.now c.loop-turn.turn-index _ c.loop-turn-test.true c.loop-turn.invariant c.put_number.ensures

pub returns : goal.returns
returns g c =
    let held = g.W.Write.contents in
    let text : List ℕ → List ℕ = flat_map (λ p. codes " " ++ decimal p) in
    puts_two held c.args.sink.now c.put.new.self c.loop-turn.sink (codes "turns") (text c.args.turns.now) c.put.ensures
    (puts_as held c.put.new.self c.loop-turn.sink _ (text c.args.turns.now) (ap text (take_all c.loop-turn.turn-index c.args.turns.now c.loop-turn-test.false)) c.loop-turn.invariant)
