-- The lines of a record.
use Rattle.std.specs.Prelude.{ℕ, ◌≡◌, ◌<◌, ◌≤◌, ◌^◌, ⊤, List, ◌∷◌, ◌++◌, length, map, codes, Option, None, Some}
use Rattle.std.specs.Fmt.{decimal}
use Rattle.hex.specs.Hex.{encode_lower}
use Rattle.reg_base.specs.declared.limits.TheConstants.{MOST_PROCESSES, MOST_EVENTS}
use Rattle.reg_base.specs.declared.memory.Answer.{Answer}
use Rattle.reg_base.specs.declared.memory.Answer.TheVariants.{Done, Value, Unequal}
use Rattle.reg_base.specs.Shape.{Extent}
use Rattle.reg_base.specs.Names.{names_fault}
use Rattle.reg_frames.specs.declared.bodies.Frame.{Frame}
use Rattle.reg_frames.specs.Spelling.{Fits, spelling}
use Rattle.reg_front.specs.declared.named.Front.{Front}
use Rattle.reg_front.specs.Table.{front_name}
use Rattle.reg_process.specs.declared.steps.Reply.{Reply}
use Rattle.reg_process.specs.declared.steps.Step.{Step}
use Rattle.reg_process.specs.declared.steps.Step.TheVariants.{Call, Take, Tick}
use Rattle.reg_records.specs.declared.entries.LogEntry.{LogEntry}
use Rattle.reg_text.specs.Ops.{op_text, OpFits}
use Rattle.reg_text.specs.Words.{names_text}
use Rattle.reg_text.specs.Lines.{AllFit, lines_of, text_of}
use Rattle.reg_node.specs.declared.transcripts.recorded.Recorded.{Recorded}

-- the bytes of a frame, each as two hexadecimal digits in lower case
abbrev pub frame_text : Frame → List ℕ
frame_text frame = encode_lower (spelling frame)

-- what a process did
abbrev pub step_text : List (List ℕ) → Step → List ℕ
step_text names (Call op) = codes "call " ++ op_text names op
step_text names (Take from frame) = codes "take " ++ (decimal from ++ 32 ∷ frame_text frame)
step_text names Tick = codes "tick"

-- an answer and its place
abbrev pub answer_text : Answer → ℕ → List ℕ
answer_text Done place = codes "done " ++ decimal place
answer_text (Value value) place = codes "value " ++ (decimal value ++ 32 ∷ decimal place)
answer_text Unequal place = codes "unequal " ++ decimal place

abbrev pub reply_text : Reply → List ℕ
reply_text reply = answer_text reply.answer reply.place

-- a step, and after it its reply where it has one
abbrev pub told_text : List ℕ → Option Reply → List ℕ
told_text step None = step
told_text step (Some reply) = step ++ (codes " = " ++ reply_text reply)

abbrev pub entry_text : List (List ℕ) → LogEntry → List ℕ
entry_text names entry = told_text (step_text names entry.step) entry.reply

-- the line of a step that a process made
abbrev pub recorded_text : List (List ℕ) → Recorded → List ℕ
recorded_text names recorded = decimal recorded.process ++ 32 ∷ entry_text names recorded.entry

-- numbers that a line may have: whether there is such a process, or such a frame was put, is no matter of the text
abbrev pub StepFits : List (List ℕ) → Step → Type 0
StepFits names (Call op) = OpFits names op
StepFits names (Take from frame) = (from ≤ 255) × Fits frame
StepFits names Tick = ⊤

abbrev pub AnswerFits : Answer → Type 0
AnswerFits Done = ⊤
AnswerFits (Value value) = value < 2 ^ 64
AnswerFits Unequal = ⊤

abbrev pub ReplyFits : Reply → Type 0
ReplyFits reply = AnswerFits reply.answer × (reply.place < 2 ^ 64)

abbrev pub IsFitting : Option Reply → Type 0
IsFitting None = ⊤
IsFitting (Some reply) = ReplyFits reply

abbrev pub EntryFits : List (List ℕ) → LogEntry → Type 0
EntryFits names entry = StepFits names entry.step × IsFitting entry.reply

abbrev pub RecordedFits : List (List ℕ) → Recorded → Type 0
RecordedFits names recorded = (recorded.process ≤ 255) × EntryFits names recorded.entry

-- what a record holds
pub record Account : Type 0 where
  pub front : Front
  pub shape : Extent
  pub names : List (List ℕ)
  pub steps : List Recorded

-- the four header lines, and then the rest
abbrev pub head_lines : Front → ℕ → List (List ℕ) → List (List ℕ) → List (List ℕ)
head_lines front processes names rest =
    codes "tellwydar record 1" ∷ (codes "front " ++ front_name front) ∷ (codes "processes " ++ decimal processes)
    ∷ (codes "registers" ++ names_text names) ∷ rest

-- the lines of a record, one for each step after the header lines
abbrev pub account_lines : Account → List (List ℕ)
account_lines a = head_lines a.front a.shape.processes a.names (map (recorded_text a.names) a.steps)

-- within the limits of a record
pub record IsAccount (a : Account) : Type 0 where
  pub names : names_fault a.names ≡ None
  pub some_process : 0 < a.shape.processes
  pub processes : a.shape.processes ≤ MOST_PROCESSES
  pub registers : a.shape.registers ≡ length a.names
  pub steps : AllFit (λ _ r. RecordedFits a.names r) a.steps
  pub few : length a.steps ≤ MOST_EVENTS

-- the lines of the text are those of the record
abbrev pub SpellsAccount : List ℕ → Account → Type 0
SpellsAccount text a = lines_of text ≡ account_lines a

-- the text of a record: each line with its line feed
abbrev pub account_text : Account → List ℕ
account_text a = text_of (account_lines a)
