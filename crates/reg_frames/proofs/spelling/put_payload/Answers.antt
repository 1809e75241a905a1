use Rattle.std.proofs.Common.{arith}
use Rattle.std.proofs.lemmas.Grind.{common_steps}
use Rattle.reg_frames.proofs.spelling.put_payload.Goals as goal

pub returns-in_ok-extend_from_slice-in-Got : goal.returns-in_ok-extend_from_slice-in-Got
returns-in_ok-extend_from_slice-in-Got g c = grind (arith, common_steps)
