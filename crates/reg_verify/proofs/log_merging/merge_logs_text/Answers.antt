use Rattle.std.proofs.Common.{ℕ, List, Bor, map}
use Rattle.reg_verify.proofs.Gathered.{merged_fits}
use Rattle.reg_verify.proofs.log_merging.merge_logs_text.Goals as goal

pub unreachable-requires : goal.unreachable-requires
unreachable-requires g c =
    (rw c.in-Err-Unfit.field-0-is at c.in-Err-Unfit.ensures.fault) (merged_fits (map (λ (t : Bor (List ℕ)). t.now) c.args.texts.now) c.in_ok-record.record c.in_ok-record.ensures.merged)
