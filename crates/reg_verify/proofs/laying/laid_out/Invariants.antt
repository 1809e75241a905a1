use Rattle.std.proofs.Common.{◌≡◌, ℕ, length, map, take, Some}
use Rattle.reg_checkers.specs.History.{IsAt}
use Rattle.reg_node.specs.declared.transcripts.recorded.Recorded.{Recorded}
use Rattle.reg_records.specs.Playing.{AreTallied}
use Rattle.reg_records.specs.Records.{entry_of, mentions}
use Rattle.reg_verify.specs.Logs.{order_of}
use Rattle.reg_verify.proofs.laying.laid_out.Given as goal

-- the mentions so far are laid out
abbrev pub invariant-loop-place : goal.invariant-loop-place
invariant-loop-place g l = record {
  tallied : AreTallied l.counts.items l.order l.place;
  len : length l.counts.items ≡ length l.logs;
  processes : order_of l.steps.items ≡ take l.place l.order;
  each : (k : ℕ) (r : Recorded) → IsAt l.steps.items k r → entry_of (map (λ v. v.items) l.logs) r.process (mentions r.process (take k l.order)) ≡ Some r.entry;
}
