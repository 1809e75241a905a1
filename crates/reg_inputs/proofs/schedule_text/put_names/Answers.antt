use Rattle.std.proofs.Common.{arith, ◌<◌, ◌∷◌, [], length, get_or, ap}
use Rattle.reg_text.proofs.Sent.{puts_as}
use Rattle.reg_inputs.proofs.Writing.{puts_name}
use Rattle.reg_inputs.proofs.schedule_text.put_names.Goals as goal

pub loop-place-preserved : goal.loop-place-preserved
loop-place-preserved g c =
    let held = g.W.Write.contents in
    let names = c.args.names.now in
    let place = c.loop-place.place in
    let within : place < length names = omega arith in
    puts_name held c.args.sink.now c.loop-place.sink c.put_name.new.sink names place within c.loop-place.invariant
    (puts_as held c.loop-place.sink c.put_name.new.sink (32 ∷ c.name_at-name.result.now) (32 ∷ get_or names place []) (ap (λ l. 32 ∷ l) c.name_at-name.ensures) c.put_name.ensures)
