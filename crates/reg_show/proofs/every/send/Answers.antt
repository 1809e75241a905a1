use Rattle.std.proofs.Common.{◌∙◌, map, refl, sym}
use Rattle.std.specs.Option.{option_map}
use Rattle.reg_outcomes.specs.AllText.{all_text}
use Rattle.reg_commands.proofs.Sending.{writing_failed, flush_failed}
use Rattle.reg_show.proofs.every.send.Goals.{then-is_err-via-then-is_err, then-is_err-via-else-is_err+then-is_err-2}
use Rattle.reg_show.proofs.every.send.Goals as goal

pub returns-then-is_err : goal.returns-then-is_err
returns-then-is_err g c =
    let held = g.W.Write.contents in
    let text = all_text c.args.operations c.args.all.now.stages c.args.all.now.list.items (option_map (λ list. map (λ v. v.items) list.items) c.args.nevers.now) in
    let written = c.write_all.result in
    elim c.then-is_err.branch [
      | then-is_err-via-then-is_err w ↦ (refl, writing_failed held written c.args.writer.now c.write_all.new.writer c.then-is_err.writer text w.writer-is (sym c.is_err.ensures.value ∙ w.if-is_err.true) c.write_all.ensures)
      | then-is_err-via-else-is_err+then-is_err-2 w ↦ (refl, flush_failed held written c.args.writer.now c.write_all.new.writer w.flush.new.self c.then-is_err.writer text w.writer-is (sym c.is_err.ensures.value ∙ w.if-is_err.false) c.write_all.ensures w.flush.ensures.bytes)
    ]
