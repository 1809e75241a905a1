-- The text of a trace: what each event of a run did.
use Rattle.std.specs.Prelude.{ℕ, ◌+◌, List, [], ◌∷◌, ◌++◌, map, codes, Option, None, Some, cond, flat_map}
use Rattle.std.specs.Fmt.{decimal}
use Rattle.reg_base.specs.Memory.{register_of, updates}
use Rattle.reg_base.specs.declared.stamps.Stamp.{Stamp}
use Rattle.reg_base.specs.declared.stamps.Delivered.{Delivered}
use Rattle.reg_frames.specs.declared.bodies.Body.{Body}
use Rattle.reg_frames.specs.declared.bodies.Body.TheVariants.{Cast, Ack}
use Rattle.reg_frames.specs.declared.bodies.Frame.{Frame}
use Rattle.reg_frames.specs.declared.bodies.Frame.TheVariants.{Numbered, Got}
use Rattle.reg_process.specs.declared.steps.Reply.{Reply}
use Rattle.reg_text.specs.Lines.{text_of}
use Rattle.reg_text.specs.Ops.{op_text, valued, answer_text}
use Rattle.reg_process.specs.declared.events.Event.{Event}
use Rattle.reg_process.specs.declared.events.Event.TheVariants.{Call, Take, Tick}
use Rattle.reg_inputs.specs.Schedules.{event_text}
use Rattle.reg_trace.specs.declared.moments.Delivery.{Delivery}
use Rattle.reg_trace.specs.declared.moments.Sent.{Sent}
use Rattle.reg_trace.specs.declared.waits.Wait.{Wait}
use Rattle.reg_trace.specs.Moments.{Fact}

-- a stamp: its time and its process
abbrev pub stamp_text : Stamp → List ℕ
stamp_text stamp = codes "(" ++ (decimal stamp.time ++ (codes ", " ++ (decimal stamp.process ++ codes ")")))

-- a cast: its stamp and its operation
abbrev pub cast_text : List (List ℕ) → Delivered → List ℕ
cast_text names cast = stamp_text cast.stamp ++ (codes " " ++ op_text names cast.op)

-- a body that this process made: its time and its process are its stamp
abbrev pub body_text : List (List ℕ) → ℕ → Body → List ℕ
body_text names from (Cast time op) =
    codes "cast " ++ cast_text names (record { stamp = record { time = time; process = from }; op = op })
body_text names from (Ack time) = codes "acknowledgement " ++ stamp_text (record { time = time; process = from })

-- a frame that this process put
abbrev pub frame_text : List (List ℕ) → ℕ → Frame → List ℕ
frame_text names from (Numbered number body) =
    codes "data " ++ (decimal number ++ (codes ": " ++ body_text names from body))
frame_text names from (Got count) = codes "count " ++ decimal count

-- the line of a frame that was taken, where there is one
abbrev pub taken_lines : List (List ℕ) → ℕ → Option Frame → List (List ℕ)
taken_lines names from None = []
taken_lines names from (Some frame) = (codes "    takes " ++ frame_text names from frame) ∷ []

-- a take took its frame, and other events none
abbrev pub takes_lines : List (List ℕ) → Event → Option Frame → List (List ℕ)
takes_lines names (Call p op) frame = []
takes_lines names (Take from to place) frame = taken_lines names from frame
takes_lines names (Tick p) frame = []

-- the line of a frame that was dropped, where one was: with the number that was expected
abbrev pub drops_lines : Option ℕ → List (List ℕ)
drops_lines None = []
drops_lines (Some number) = (codes "    drops it: number " ++ (decimal number ++ codes " is expected")) ∷ []

-- the line of what a copy has of an operation's register after its delivery, where the operation may change that
abbrev pub copy_lines : List (List ℕ) → Delivery → List (List ℕ)
copy_lines names d =
    cond (updates d.cast.op) ((codes "    copy " ++ valued names (register_of d.cast.op) d.value) ∷ []) []

-- the line of a cast that was delivered
abbrev pub delivers_line : List (List ℕ) → Delivered → List ℕ
delivers_line names cast = codes "    delivers " ++ cast_text names cast

-- the lines of a cast that was delivered: with the copy after it
abbrev pub delivers_lines : List (List ℕ) → Delivery → List (List ℕ)
delivers_lines names d = delivers_line names d.cast ∷ copy_lines names d

-- the line of a reply, where there is one
abbrev pub answers_lines : Option Reply → List (List ℕ)
answers_lines None = []
answers_lines (Some reply) =
    (codes "    answers " ++ (answer_text reply.answer ++ (codes ", place " ++ decimal reply.place))) ∷ []

-- the line of a cast that is held back: with the process that it waits for
abbrev pub holds_line : Wait → List ℕ
holds_line wait =
    codes "    holds "
    ++ (stamp_text wait.stamp ++ (codes ": p" ++ (decimal wait.unheard ++ codes " was not heard past it")))

-- the line of a frame that this process put, with the event that takes it
abbrev pub puts_line : List (List ℕ) → ℕ → Sent → List ℕ
puts_line names from sent =
    codes "    puts "
    ++ (frame_text names from sent.frame
    ++ (codes " (" ++ (event_text names (Take from sent.to sent.place) ++ codes ")")))

-- the lines of an event: its number and its words; the frame that it took, and whether it was dropped; its process's
-- clock after it; the casts delivered, each with the copy after it; the reply; the casts held back; and the frames put
abbrev pub moment_lines : List (List ℕ) → ℕ → Fact → List (List ℕ)
moment_lines names number f =
    (decimal number ++ (codes " " ++ event_text names f.event))
    ∷ (takes_lines names f.event f.frame
    ++ (drops_lines f.expected
    ++ ((codes "    clock " ++ decimal f.clock)
    ∷ (flat_map (delivers_lines names) f.delivered
    ++ (answers_lines f.reply ++ (map holds_line f.waits ++ map (puts_line names f.process) f.sent))))))

-- the lines of these events, the first of which has this number
abbrev pub trace_lines : List (List ℕ) → ℕ → List Fact → List (List ℕ)
trace_lines names number [] = []
trace_lines names number (f ∷ fs) = moment_lines names number f ++ trace_lines names (number + 1) fs

-- the text of what the events of a run did, under these names
abbrev pub trace_text : List (List ℕ) → List Fact → List ℕ
trace_text names facts = text_of (trace_lines names 0 facts)

-- the line of a title, and none where it is empty
abbrev pub title_line : List ℕ → List ℕ
title_line [] = []
title_line (b ∷ title) = (b ∷ title) ++ 10 ∷ []
