use Rattle.std.proofs.Common.{ap}
use Rattle.std.specs.Map.{lookup}
use Rattle.std.specs.BTreeMap.{is_at}
use Rattle.reg_outcomes.specs.Counts.{key_cmp}
use Rattle.reg_outcomes.proofs.Counting.{counted_none}
use Rattle.reg_outcomes.proofs.tables.tallies.Tallies.new.Goals as goal

pub returns : goal.returns
returns g c =
    counted_none (λ v. v.items) c.new.result (λ q. ap (lookup (is_at (key_cmp (λ v. v.items) q))) c.new.ensures.empty)
