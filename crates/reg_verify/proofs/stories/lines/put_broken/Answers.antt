use Rattle.std.proofs.Common.{◌++◌, codes}
use Rattle.std.specs.Fmt.{decimal}
use Rattle.reg_text.proofs.Sent.{puts_three}
use Rattle.reg_verify.specs.StoryTexts.{breach_text}
use Rattle.reg_verify.proofs.stories.lines.put_broken.Goals as goal

pub returns : goal.returns
returns g c =
    puts_three g.W.Write.contents c.args.sink.now c.put_number.new.sink c.put.new.self c.put_breach.new.sink (codes "report " ++ decimal c.args.chapter) (codes ": ") (breach_text c.args.names.now c.args.breach) c.put_number.ensures c.put.ensures c.put_breach.ensures
