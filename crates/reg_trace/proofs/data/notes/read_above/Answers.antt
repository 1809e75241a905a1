use Rattle.std.proofs.Common.{◌∙◌, sym, rules}
use Rattle.std.specs.Prelude.{string_bytes}
use Rattle.reg_base.specs.Names.{texts}
use Rattle.reg_text.specs.Lines.{lines_of}
use Rattle.reg_trace.specs.Notes.{notes_above}
use Rattle.reg_trace.proofs.Commenting.{all_noted, one_kept, one_said}
use Rattle.reg_trace.proofs.data.notes.read_above.Goals as goal

pub loop-line-preserved-in_ok-push : goal.loop-line-preserved-in_ok-push
loop-line-preserved-in_ok-push g c = record {
  utf8 = search rules;
  notes = one_kept c.loop-line.above.items c.push.new.self.items c.loop-line.note c.new-note-then-is_kept.result c.in-Some.line.now (lines_of c.loop-line.rest.now) (lines_of c.in-Some.after.now) (notes_above (lines_of c.args.text.now))
      c.in-Some.ensures.lines (sym c.is_kept.ensures ∙ c.if-is_kept.true) c.in_ok-push.ensures.items c.new-note-then-is_kept.ensures.bytes c.loop-line.invariant.notes;
}

pub loop-line-preserved : goal.loop-line-preserved
loop-line-preserved g c = record {
  utf8 = search rules;
  notes = one_said (texts c.loop-line.above.items) (string_bytes c.loop-line.note) c.comment.result.now (string_bytes c.add_comment.new.note) c.in-Some.line.now (lines_of c.loop-line.rest.now) (lines_of c.in-Some.after.now) (notes_above (lines_of c.args.text.now))
      c.in-Some.ensures.lines (sym c.is_kept.ensures ∙ c.if-is_kept.false) c.comment.ensures c.in_ok-add_comment.ensures c.loop-line.invariant.notes;
}

pub returns : goal.returns
returns g c = all_noted (texts c.loop-line.above.items) (string_bytes c.loop-line.note) (lines_of c.loop-line.rest.now) (notes_above (lines_of c.args.text.now)) c.in_default.ensures.lines c.loop-line.invariant.notes
