use Rattle.std.proofs.Common.{◌∷◌, ◌++◌, codes}
use Rattle.std.specs.Fmt.{decimal}
use Rattle.reg_text.proofs.Sent.{puts_three}
use Rattle.reg_inputs.proofs.schedule_text.put_take.Goals as goal

pub returns : goal.returns
returns g c =
    puts_three g.W.Write.contents c.args.sink.now c.put_number.new.sink c.put_number-2.new.sink c.put_number-3.new.sink (codes "take " ++ decimal c.args.from) (32 ∷ decimal c.args.to) (32 ∷ decimal c.args.place)
    c.put_number.ensures c.put_number-2.ensures c.put_number-3.ensures
