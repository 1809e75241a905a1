use denote.Shadow.{shadow}
use denote.Text.{Utf8}
use Rattle.std.proofs.Common.{◌≡◌, ◌++◌, length}
use Rattle.std.specs.Prelude.{string_bytes}
use Rattle.reg_base.specs.Names.{texts}
use Rattle.reg_text.specs.Lines.{lines_of}
use Rattle.reg_trace.specs.Notes.{above_first, notes_above}
use Rattle.reg_trace.proofs.data.notes.read_above.Given as goal

-- the notes so far, the comments since, and the notes to come
abbrev pub invariant-loop-line : goal.invariant-loop-line
invariant-loop-line g l = record {
  utf8 : shadow (Utf8 l.rest);
  notes : texts l.above.items ++ above_first (string_bytes l.note) (notes_above (lines_of l.rest)) ≡ notes_above (lines_of l.text);
}

abbrev pub decreases-loop-line : goal.decreases-loop-line
decreases-loop-line g l = length l.rest
