use Rattle.std.proofs.Common.{◌+◌, ◌≡◌, length}
use Rattle.reg_observed.specs.Reading.{lines_tell}
use Rattle.reg_observed.proofs.Hearing.{Heard}
use Rattle.reg_observed.proofs.reading.hear.Given as goal

abbrev pub invariant-loop-place : goal.invariant-loop-place
invariant-loop-place l = record {
  heard : Heard l.heard.words l.heard.events.items (lines_tell 1 l.initial.lines.left) (lines_tell (l.place + 1) l.lines.left);
  passed : length l.initial.lines.left ≡ l.place + length l.lines.left;
}
