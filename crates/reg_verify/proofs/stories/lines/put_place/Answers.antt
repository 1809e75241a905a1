use Rattle.std.proofs.Common.{◌∷◌, ◌++◌, [], codes}
use Rattle.std.specs.Fmt.{decimal}
use Rattle.reg_text.proofs.Sent.{puts_three}
use Rattle.reg_verify.proofs.stories.lines.put_place.Goals as goal

pub returns : goal.returns
returns g c =
    puts_three g.W.Write.contents c.args.sink.now c.put_number.new.sink c.put_number-2.new.sink c.put.new.self (codes "p0 #" ++ decimal c.args.number) (codes " should be number " ++ decimal c.args.number) (codes " of the order" ++ 10 ∷ []) c.put_number.ensures c.put_number-2.ensures c.put.ensures
