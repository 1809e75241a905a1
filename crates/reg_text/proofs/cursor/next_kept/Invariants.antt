use Rattle.std.proofs.Common.{◌≡◌, ◌+◌, ◌-◌, ◌^◌, ◌<◌, length}
use Rattle.reg_text.specs.Lines.{lines_of, kept}
use Rattle.reg_text.proofs.Counting.{IsPassed}
use Rattle.reg_text.proofs.cursor.next_kept.Given as goal

-- the lines passed were skipped ones, and they were counted
abbrev pub invariant-loop-line : goal.invariant-loop-line
invariant-loop-line l = record {
  lines : kept (lines_of l.text) ≡ kept (lines_of l.rest);
  number : l.fn.number + length (lines_of l.text) < 2 ^ 64 - 1 → IsPassed (lines_of l.text) (lines_of l.rest) l.fn.number l.number;
}

abbrev pub decreases-loop-line : goal.decreases-loop-line
decreases-loop-line l = length l.rest
