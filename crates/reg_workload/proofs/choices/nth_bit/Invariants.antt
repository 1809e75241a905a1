use Rattle.std.proofs.Common.{◌≡◌, ◌+◌, ◌%◌, ◌^◌, count_ones}
use Rattle.reg_workload.proofs.choices.nth_bit.Given as goal

-- so many more than the ones below this place
abbrev pub invariant-loop-place : goal.invariant-loop-place
invariant-loop-place l = l.fn.count ≡ count_ones (l.fn.bits % 2 ^ l.place) + l.left
