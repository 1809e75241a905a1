use Rattle.std.proofs.Common.{sym, arith}
use Rattle.std.proofs.lemmas.List.{length-take-le}
use Rattle.reg_node.proofs.Starts.{message_read}
use Rattle.reg_node.proofs.messages.Message.read.Goals as goal

pub slice_bounds-read-end : goal.slice_bounds-read-end
slice_bounds-read-end c = sym (length-take-le 33 c.args.bytes.now (omega arith))

pub returns : goal.returns
returns c = message_read c.args.bytes.now c.in_ok-start.start c.if-bytes-le-WIDTH.false c.in_ok-start.ensures
