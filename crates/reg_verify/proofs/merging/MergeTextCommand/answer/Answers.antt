use Rattle.std.specs.Prelude.{string_bytes, true}
use Rattle.std.specs.Io.KnownBytes.{Appends}
use Rattle.reg_text.specs.Writing.{AppendsPart}
use Rattle.reg_verify.proofs.Merged.{written_as}
use Rattle.reg_verify.proofs.merging.MergeTextCommand.answer.Goals as goal

pub returns-clause-ok : goal.returns-clause-ok
returns-clause-ok g c =
    written_as (Appends (g.W.Write.contents c.args.writer.now) (g.W.Write.contents c.write_answer.new.writer)) (string_bytes c.args.text) c.in_ok-bytes.bytes.items c.in_ok-bytes.ensures.ok (rw c.deref.ensures.value at c.in_ok-write_answer.ensures)

pub returns-in_err-write_answer-clause-part : goal.returns-in_err-write_answer-clause-part
returns-in_err-write_answer-clause-part g c failed =
    (true, written_as (AppendsPart (g.W.Write.contents c.args.writer.now) (g.W.Write.contents c.write_answer.new.writer)) (string_bytes c.args.text) c.in_ok-bytes.bytes.items c.in_ok-bytes.ensures.ok (rw c.deref.ensures.value at c.in_err-write_answer.ensures.1))
