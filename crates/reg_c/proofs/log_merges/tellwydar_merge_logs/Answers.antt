use Rattle.std.proofs.Common.{inr, refl}
use Rattle.reg_verify.specs.declared.gathering.LogsFault.TheVariants.{OutOfMemory}
use Rattle.reg_c.proofs.log_merges.tellwydar_merge_logs.Goals as goal

pub returns-in-Err : goal.returns-in-Err
returns-in-Err c =
    inr (c.refuse.ensures.code.1, (OutOfMemory, tt, c.refuse.ensures.code.0, c.refuse.ensures.named, refl))
