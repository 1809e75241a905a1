-- The parts of the data of a run: states, frames, events and operations.
use Rattle.std.specs.Prelude.{ℕ, List, [], ◌∷◌, ◌++◌, codes, Option, None, Some}
use Rattle.std.specs.Fmt.{decimal}
use Rattle.reg_frames.specs.declared.bodies.Body.{Body}
use Rattle.reg_frames.specs.declared.bodies.Body.TheVariants.{Cast, Ack}
use Rattle.reg_frames.specs.declared.bodies.Frame.{Frame}
use Rattle.reg_frames.specs.declared.bodies.Frame.TheVariants.{Numbered, Got}
use Rattle.reg_text.specs.Ops.{answer_text, op_text}
use Rattle.reg_trace.specs.declared.figures.Bar.{Bar}
use Rattle.reg_trace.specs.declared.figures.End.{End}
use Rattle.reg_trace.specs.declared.moments.Sent.{Sent}
use Rattle.reg_process.specs.declared.known.Known.{Known}
use Rattle.reg_process.specs.declared.steps.Reply.{Reply}
use Rattle.reg_process.specs.Process.{Running, Own, Held}
use Rattle.reg_inputs.specs.Schedules.{event_text}
use Rattle.reg_trace.specs.declared.data.looks.Kept.{Kept}
use Rattle.reg_trace.specs.Json.{list_text, numbers_text, quoted}
use Rattle.reg_trace.specs.Looks.{Look}
use Rattle.reg_trace.specs.Noted.{Noted}
use Rattle.reg_trace.specs.Rows.{cast_row, delivery_row}
use Rattle.reg_trace.specs.Strings.{string_text}

-- what a process knows of another: the time of the last body accepted from it, the number of the next one, the first
-- number that it has not acknowledged, and that of the next body to it
abbrev pub peer_part : List (List ℕ) → Option Known → List ℕ
peer_part names None = codes "null"
peer_part names (Some k) = numbers_text (k.seen ∷ k.expected ∷ k.first ∷ k.next ∷ [])

-- a register that is not 0, with its value as a string
abbrev pub kept_part : List (List ℕ) → Kept → List ℕ
kept_part names k = (codes "[" ++ decimal k.register) ++ ((codes ",\"" ++ decimal k.value) ++ codes "\"]")

-- what runs: until the own cast of this time is delivered, or until every own cast is
abbrev pub running_part : Option Running → List ℕ
running_part None = codes "null"
running_part (Some (Own stamp op)) = (codes "[\"cast\"," ++ decimal stamp.time) ++ codes "]"
running_part (Some (Held op)) = codes "[\"held\"]"

-- a state
abbrev pub look_part : List (List ℕ) → Look → List ℕ
look_part names l =
    (codes "{\"peers\":" ++ list_text (peer_part names) l.peers)
    ++ ((codes ",\"held\":" ++ list_text (cast_row names) l.held)
    ++ ((codes ",\"copy\":" ++ list_text (kept_part names) l.copy)
    ++ ((codes ",\"delivered\":" ++ decimal l.delivered)
    ++ (codes ",\"running\":" ++ (running_part l.running ++ codes "}")))))

-- a data frame: its number, and its body's time and operation
abbrev pub body_part : List (List ℕ) → ℕ → Body → List ℕ
body_part names number (Cast time op) =
    (codes "[\"cast\"," ++ decimal number)
    ++ ((codes "," ++ decimal time) ++ (codes "," ++ (quoted (op_text names op) ++ codes "]")))
body_part names number (Ack time) = (codes "[\"ack\"," ++ decimal number) ++ ((codes "," ++ decimal time) ++ codes "]")

-- a frame
abbrev pub frame_part : List (List ℕ) → Frame → List ℕ
frame_part names (Numbered number body) = body_part names number body
frame_part names (Got count) = (codes "[\"count\"," ++ decimal count) ++ codes "]"

-- the frame that an event took, where it took one
abbrev pub taken_part : List (List ℕ) → Option Frame → List ℕ
taken_part names None = codes "null"
taken_part names (Some frame) = frame_part names frame

-- a frame that was put: for whom, its place on that wire, and the frame
abbrev pub sent_part : List (List ℕ) → Sent → List ℕ
sent_part names s =
    (codes "[" ++ decimal s.to)
    ++ ((codes "," ++ decimal s.place) ++ (codes "," ++ (frame_part names s.frame ++ codes "]")))

-- a reply: its answer, and how many casts the process had delivered before it
abbrev pub reply_part : Option Reply → List ℕ
reply_part None = codes "null"
reply_part (Some reply) =
    codes "{\"answer\":"
    ++ (quoted (answer_text reply.answer) ++ ((codes ",\"place\":" ++ decimal reply.place) ++ codes "}"))

-- an event, what it did, and its note
abbrev pub moment_part : List (List ℕ) → Noted → List ℕ
moment_part names n =
    codes "{\"event\":" ++ (quoted (event_text names n.fact.event)
    ++ ((codes ",\"process\":" ++ decimal n.fact.process)
    ++ (codes ",\"frame\":" ++ (taken_part names n.fact.frame
    ++ ((codes ",\"clock\":" ++ decimal n.fact.clock)
    ++ ((codes ",\"delivered\":" ++ list_text (delivery_row names) n.fact.delivered)
    ++ (codes ",\"reply\":" ++ (reply_part n.fact.reply
    ++ ((codes ",\"sent\":" ++ list_text (sent_part names) n.fact.sent)
    ++ (codes ",\"note\":" ++ (string_text n.note ++ codes "}")))))))))))

-- the answer of an operation, where it has one
abbrev pub end_part : Option End → List ℕ
end_part None = codes "null"
end_part (Some end) =
    (codes "{\"at\":" ++ decimal end.at) ++ (codes ",\"text\":" ++ (quoted (answer_text end.answer) ++ codes "}"))

-- an operation, from its call to its answer
abbrev pub bar_part : List (List ℕ) → Bar → List ℕ
bar_part names b =
    (codes "{\"process\":" ++ decimal b.id.process)
    ++ ((codes ",\"number\":" ++ decimal b.id.number)
    ++ (codes ",\"op\":" ++ (quoted (op_text names b.op)
    ++ ((codes ",\"call\":" ++ decimal b.call)
    ++ (codes ",\"answer\":" ++ (end_part b.end
    ++ codes "}"))))))
