-- Why an entry has no line. Promises cite it.
use Rattle.std.specs.Prelude.{ℕ, ⊤, List}
use Rattle.reg_frames.specs.declared.bodies.Frame.{Frame}
use Rattle.reg_frames.specs.Spelling.{Fits}
use Rattle.reg_process.specs.declared.steps.Step.{Step}
use Rattle.reg_node.specs.declared.transcripts.recorded.Recorded.{Recorded}
use Rattle.reg_node.specs.declared.transcripts.writing.LineFault.{LineFault}
use Rattle.reg_node.specs.declared.transcripts.writing.LineFault.TheVariants.{OutOfMemory, Unfit}
use Rattle.reg_node.specs.RecordLines.{Account, RecordedFits, StepFits}
use Rattle.reg_text.specs.Lines.{AllFit}

abbrev pub IsFrameFault : Frame → LineFault → Type 0
IsFrameFault frame Unfit = ¬ Fits frame
IsFrameFault frame OutOfMemory = ⊤

abbrev pub IsStepFault : List (List ℕ) → Step → LineFault → Type 0
IsStepFault names step Unfit = ¬ StepFits names step
IsStepFault names step OutOfMemory = ⊤

-- it is not fit for a text: a register without a name, or a frame with a number beyond its limit
abbrev pub IsEntryFault : List (List ℕ) → Recorded → LineFault → Type 0
IsEntryFault names recorded Unfit = ¬ RecordedFits names recorded
IsEntryFault names recorded OutOfMemory = ⊤

-- one of its steps is not fit for a text
abbrev pub IsRecordFault : Account → LineFault → Type 0
IsRecordFault a Unfit = ¬ (AllFit (λ _ r. RecordedFits a.names r) a.steps)
IsRecordFault a OutOfMemory = ⊤
