use Rattle.std.proofs.Common.{◌∷◌, ◌++◌, [], codes}
use Rattle.std.specs.Fmt.{decimal}
use Rattle.reg_text.proofs.Sent.{puts_two}
use Rattle.reg_verify.proofs.stories.lines.put_story.Goals as goal

pub returns : goal.returns
returns g c = puts_two g.W.Write.contents c.args.sink.now c.put_number.new.sink c.put.new.self (codes "one story of " ++ decimal c.args.chapters) (codes " chapters" ++ 10 ∷ []) c.put_number.ensures c.put.ensures
