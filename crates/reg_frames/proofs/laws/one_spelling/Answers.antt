use Rattle.std.proofs.Common.{sym, ap, ◌∙◌}
use Rattle.reg_frames.specs.Reading.{frame_of}
use Rattle.reg_frames.proofs.Frames.{again, same_frame}
use Rattle.reg_frames.proofs.laws.one_spelling.Goals as goal

pub returns-clause-frame : goal.returns-clause-frame
returns-clause-frame c = λ f a b first second. first.1 ∙ sym second.1

pub returns-clause-bytes : goal.returns-clause-bytes
returns-clause-bytes c = λ f g bytes first second. same_frame f g (sym (ap frame_of first.1 ∙ again f first.0) ∙ (ap frame_of second.1 ∙ again g second.0))
