use Rattle.std.proofs.Common.{refl}
use Rattle.reg_text.proofs.Sent.{puts_rest}
use Rattle.reg_text.proofs.writing.Sink.put.Goals as goal

pub returns-in-Ok-2 : goal.returns-in-Ok-2
returns-in-Ok-2 g c = puts_rest g.W.Write.contents c.args.self.now _ c.put_rest.new.self c.in-Ok.count c.args.bytes.now c.if-self.false c.if-self.false refl c.in-Ok.ensures.bytes c.put_rest.ensures
