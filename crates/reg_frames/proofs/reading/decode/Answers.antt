use Rattle.std.proofs.Common.{ap, ◌∙◌, arith}
use Rattle.reg_frames.specs.Reading.{frame_of}
use Rattle.reg_frames.proofs.Frames.{again, is_found}
use Rattle.reg_frames.proofs.reading.decode.Goals as goal

pub returns-clause-read : goal.returns-clause-read
returns-clause-read c =
    is_found c.args.bytes.now c.frame.result (λ i. omega (arith, c.type_inv.bytes i)) c.frame.ensures

pub returns-clause-whole : goal.returns-clause-whole
returns-clause-whole c = λ f spells. c.frame.ensures ∙ (ap frame_of spells.1 ∙ again f spells.0)
