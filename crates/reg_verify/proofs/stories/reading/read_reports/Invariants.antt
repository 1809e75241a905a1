use Rattle.std.proofs.Common.{◌-◌, length}
use Rattle.reg_verify.proofs.StoryCuts.{IsReadTo}
use Rattle.reg_verify.proofs.stories.reading.read_reports.Given as goal

abbrev pub invariant-loop-report : goal.invariant-loop-report
invariant-loop-report g l = IsReadTo l.text l.from l.reports.items

abbrev pub decreases-loop-report : goal.decreases-loop-report
decreases-loop-report g l = length l.text - l.from
