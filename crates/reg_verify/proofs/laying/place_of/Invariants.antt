use Rattle.std.proofs.Common.{◌≡◌, ◌≤◌, take}
use Rattle.reg_records.specs.Records.{mentions}
use Rattle.reg_verify.specs.Logs.{order_of}
use Rattle.reg_verify.proofs.laying.place_of.Given as goal

abbrev pub invariant-loop-place : goal.invariant-loop-place
invariant-loop-place l = record {
  count : l.before ≡ mentions l.fn.process (take l.place (order_of l.steps));
  below : l.before ≤ l.fn.number;
}
