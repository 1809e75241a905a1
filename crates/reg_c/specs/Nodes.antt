-- A node that a caller holds, under the front end that its log names. Promises cite it.
use Rattle.std.specs.Prelude.{ℕ, ◌≡◌, ◌==◌, ◌<◌, ◌≤◌, ◌⊎◌, MatchOption, Bool, false, List, [], length, replicate}
use Rattle.std.specs.Prelude.{Option, None, Some, option_map, cond, if◌then◌else◌}
use Rattle.reg_base.specs.declared.memory.Op.{Op}
use Rattle.reg_frames.specs.Spelling.{Spells}
use Rattle.reg_frames.specs.declared.bodies.Frame.{Frame}
use Rattle.reg_frames.specs.declared.puts.Put.{Put}
use Rattle.reg_front.specs.declared.named.Front.TheVariants as fronts
use Rattle.reg_front.specs.declared.starts.Start.{Start}
use Rattle.reg_front.specs.Table.{linear, local_read, local_write, start_of}
use Rattle.reg_process.specs.Process.{State}
use Rattle.reg_process.specs.declared.steps.Reply.{Reply}
use Rattle.reg_process.specs.declared.steps.Step.{Step}
use Rattle.reg_process.specs.declared.steps.Step.TheVariants.{Call, Take}
use Rattle.reg_node.specs.declared.transcripts.logs.LogFault.{LogFault}
use Rattle.reg_node.specs.LogFaults.{IsLogFault}
use Rattle.reg_node.specs.LogTexts.{IsJournal, Journal, SpellsLog, log_text}
use Rattle.reg_node.specs.declared.faults.HelloFault.{HelloFault}
use Rattle.reg_node.specs.declared.faults.LoggedFault.{LoggedFault}
use Rattle.reg_node.specs.declared.faults.OpenFault.{OpenFault}
use Rattle.reg_node.specs.Logged.{IsSpelled, LoggedHandsOut, LoggedHandsOutNothing, LoggedState, Writes, WritesNothing}
use Rattle.reg_node.specs.Chapters.{ChapterState}
use Rattle.reg_node.specs.Logs.{Outgoing, first_state}
use Rattle.reg_node.specs.Meetings.{Hears, HearsNothing, all_heard, heard_at_first}
use Rattle.reg_node.specs.Nodes.{marked}
use Rattle.reg_node.specs.Opening.{IsOpened, IsOpenFault, opened_with}
use Rattle.reg_node.specs.Peers.{first_watched}
use Rattle.reg_commands.specs.Lent.{filled}
use Rattle.reg_c.specs.declared.nodes.HeldNode.{HeldNode}
use Rattle.reg_c.specs.declared.nodes.KeptNode.{KeptNode}
use Rattle.reg_c.specs.declared.nodes.KeptNode.TheVariants.{Linear, LocalRead, LocalWrite, Closed}
use Rattle.reg_c.specs.declared.node_parts.NodeLook.{NodeLook}
use Rattle.reg_c.specs.declared.node_parts.NodeLook.TheVariants.{OfProcess, OfNode, Whole, Place}
use Rattle.reg_c.specs.declared.node_parts.NodePart.{NodePart}
use Rattle.reg_c.specs.declared.node_parts.NodePart.TheVariants.{Logged, Durable, Calls, Stopped, Lost, HeardAll}
use Rattle.reg_c.specs.declared.parts.ProcessLook.TheVariants.{OfState, ReplyValue, ReplyPlace}
use Rattle.reg_c.specs.Events.{no_event, no_frame, no_world}
use Rattle.reg_c.specs.NodeCodes.{handed_code, hello_code, log_code, log_place, logged_code, not_logged, open_code}
use Rattle.reg_c.specs.NodeCodes.{open_place}
use Rattle.reg_c.specs.Processes.{process_look_of, state_part}
use Rattle.reg_c.specs.Worlds.{reply_place, reply_value, seen}

-- what is held at first: no node, no bytes, and nothing that was handed out
abbrev pub IsNothing : HeldNode → Type 0
IsNothing h =
    (h.node ≡ Closed) × (h.bytes.items ≡ []) × (h.output ≡ None) × (h.chapter ≡ None) × (h.peers ≡ None)
    × (h.course ≡ None) × (h.whole ≡ 0) × (h.place ≡ 0)

-- Opening

-- a node that goes on after this log, and has heard from no other process
pub record GoesOnAfter (start : Op → ℕ → Start) (j : Journal) (l : LoggedState) : Type 0 where
  pub opened : IsOpened j.entries l.meeting.node
  pub heard : l.meeting.heard ≡ heard_at_first j.shape.processes j.id.process
  pub found : l.meeting.lost ≡ false
  pub goes_on : l.stopped ≡ false
  pub spelled : IsSpelled start (first_state j.shape j.id.process) j (opened_with j.entries) l

-- the chapter of this log, of which nobody told anything
abbrev pub first_chapter : Journal → ChapterState
first_chapter j = record { me = j.id.process; told = replicate j.shape.processes None }

-- such a node is held, under the front end that the log names
abbrev pub KeptAfter : Journal → KeptNode → Type 0
KeptAfter j (Linear l) = (j.front ≡ fronts.Linear) × GoesOnAfter linear j l
KeptAfter j (LocalRead l) = (j.front ≡ fronts.LocalRead) × GoesOnAfter local_read j l
KeptAfter j (LocalWrite l) = (j.front ≡ fronts.LocalWrite) × GoesOnAfter local_write j l
KeptAfter j Closed = ⊥

-- the text is this log, and then what a crash left, and the log has the entries that were told durable
pub record IsReadAs (text : List ℕ) (durable : ℕ) (j : Journal) : Type 0 where
  pub tail : List ℕ
  pub good : IsJournal j
  pub spelled : SpellsLog text j tail
  pub enough : durable ≤ length j.entries

-- a node goes on after the log that the text is, of which this many bytes are the log; no bytes of a step are held,
-- nothing was handed out, no peer was heard, and its chapter has no course
pub record OpensNode (text : List ℕ) (durable : ℕ) (h : HeldNode) : Type 0 where
  pub journal : Journal
  pub read : IsReadAs text durable journal
  pub kept : KeptAfter journal h.node
  pub whole : h.whole ≡ length (log_text journal)
  pub bytes : h.bytes.items ≡ []
  pub output : h.output ≡ None
  pub chapter : h.chapter ≡ Some (first_chapter journal)
  pub peers : h.peers ≡ Some (first_watched journal.shape.processes)
  pub course : h.course ≡ None

-- no log is read, for this fault
pub record IsUnread (text : List ℕ) (durable code place : ℕ) : Type 0 where
  pub fault : LogFault
  pub why : IsLogFault text durable fault
  pub told : code ≡ log_code fault
  pub at : place ≡ log_place fault

-- no node is opened with the log that the text is, for this fault
pub record IsUnopened (text : List ℕ) (durable code place : ℕ) : Type 0 where
  pub journal : Journal
  pub fault : OpenFault
  pub read : IsReadAs text durable journal
  pub why : IsOpenFault (start_of journal.front) journal.shape journal.id.process journal.entries fault
  pub told : code ≡ open_code fault
  pub at : place ≡ open_place fault

-- a node is opened with a text, of which so many entries were told durable; or the fault is told, and the rest is kept
abbrev pub Opens : List ℕ → ℕ → HeldNode → HeldNode → ℕ → Type 0
Opens text durable old new code =
    ((code ≡ 0) × OpensNode text durable new)
    ⊎ ((0 < code) × (IsUnread text durable code new.place ⊎ IsUnopened text durable code new.place)
    × (new ≡ record old { place = new.place }))

-- Steps

-- a step was made, and these bytes spell its entry behind the log; or none is written, for this fault, and there are no
-- bytes
abbrev pub Steps : (Op → ℕ → Start) → Step → LoggedState → LoggedState → List ℕ → ℕ → Type 0
Steps start e old new bytes code =
    (Writes start old e bytes new × (code ≡ 0))
    ⊎ ((fault : LoggedFault) × WritesNothing start old e fault new × (bytes ≡ []) × (code ≡ logged_code fault))

abbrev pub StepsIn : Step → KeptNode → KeptNode → List ℕ → ℕ → Type 0
StepsIn e (Linear old) new bytes code =
    (after : LoggedState) × (new ≡ Linear after) × Steps linear e old after bytes code
StepsIn e (LocalRead old) new bytes code =
    (after : LoggedState) × (new ≡ LocalRead after) × Steps local_read e old after bytes code
StepsIn e (LocalWrite old) new bytes code =
    (after : LoggedState) × (new ≡ LocalWrite after) × Steps local_write e old after bytes code
StepsIn e Closed new bytes code = (new ≡ Closed) × (bytes ≡ []) × (code ≡ no_world)

-- a step of the node that is held, whose bytes are held; nothing else changes
abbrev pub NodeSteps : Step → HeldNode → HeldNode → ℕ → Type 0
NodeSteps e old new code =
    StepsIn e old.node new.node new.bytes.items code × (new ≡ record old { node = new.node; bytes = new.bytes })

-- no step: no bytes are held, and nothing else changes
abbrev pub NoStep : HeldNode → HeldNode → Type 0
NoStep old new = (new.bytes.items ≡ []) × (new ≡ record old { bytes = new.bytes })

-- the call of an operation, or no step if the numbers say none
abbrev pub NodeCalls : Option Op → HeldNode → HeldNode → ℕ → Type 0
NodeCalls None old new code = (code ≡ no_event) × NoStep old new
NodeCalls (Some op) old new code = NodeSteps (Call op) old new code

-- the take of the frame that the bytes spell, or no step if they spell none
abbrev pub NodeTakes : ℕ → List ℕ → HeldNode → HeldNode → ℕ → Type 0
NodeTakes from bytes old new code =
    ((frame : Frame) × Spells frame bytes × NodeSteps (Take from frame) old new code)
    ⊎ (((frame : Frame) → ¬ Spells frame bytes) × (code ≡ no_frame) × NoStep old new)

-- the room holds the front of these bytes, and it is told how many they are
abbrev pub TellsBytes : List ℕ → ℕ → List ℕ → List ℕ → Type 0
TellsBytes bytes count old new = (count ≡ length bytes) × (new ≡ filled bytes old)

-- What another process says, and what is durable

abbrev pub HearsAs : ℕ → ℕ → LoggedState → LoggedState → ℕ → Type 0
HearsAs other count old new code =
    ((Hears old.meeting other count new.meeting × (code ≡ 0))
    ⊎ ((fault : HelloFault) × HearsNothing old.meeting other count fault new.meeting × (code ≡ hello_code fault)))
    × (new ≡ record old { meeting = new.meeting })

abbrev pub HearsIn : ℕ → ℕ → KeptNode → KeptNode → ℕ → Type 0
HearsIn other count (Linear old) new code =
    (after : LoggedState) × (new ≡ Linear after) × HearsAs other count old after code
HearsIn other count (LocalRead old) new code =
    (after : LoggedState) × (new ≡ LocalRead after) × HearsAs other count old after code
HearsIn other count (LocalWrite old) new code =
    (after : LoggedState) × (new ≡ LocalWrite after) × HearsAs other count old after code
HearsIn other count Closed new code = (new ≡ Closed) × (code ≡ no_world)

-- the node that is held hears that another process accepted so many bodies
abbrev pub NodeHears : ℕ → ℕ → HeldNode → HeldNode → ℕ → Type 0
NodeHears other count old new code = HearsIn other count old.node new.node code × (new ≡ record old { node = new.node })

abbrev pub MarksAs : ℕ → LoggedState → LoggedState → ℕ → Type 0
MarksAs count old new code =
    ((count ≤ old.meeting.node.logged)
    × (new ≡ record old { meeting = record old.meeting { node = marked old.meeting.node count } }) × (code ≡ 0))
    ⊎ ((old.meeting.node.logged < count) × (new ≡ old) × (code ≡ not_logged))

abbrev pub MarksIn : ℕ → KeptNode → KeptNode → ℕ → Type 0
MarksIn count (Linear old) new code = (after : LoggedState) × (new ≡ Linear after) × MarksAs count old after code
MarksIn count (LocalRead old) new code = (after : LoggedState) × (new ≡ LocalRead after) × MarksAs count old after code
MarksIn count (LocalWrite old) new code =
    (after : LoggedState) × (new ≡ LocalWrite after) × MarksAs count old after code
MarksIn count Closed new code = (new ≡ Closed) × (code ≡ no_world)

-- the node that is held notes that the first entries are durable
abbrev pub NodeMarks : ℕ → HeldNode → HeldNode → ℕ → Type 0
NodeMarks count old new code = MarksIn count old.node new.node code × (new ≡ record old { node = new.node })

-- What is handed out

abbrev pub HandsAs : LoggedState → LoggedState → Option Outgoing → ℕ → Type 0
HandsAs old new output code =
    MatchOption output (LoggedHandsOutNothing old new) (λ o. LoggedHandsOut old o new) × (code ≡ handed_code output)

abbrev pub HandsIn : KeptNode → KeptNode → Option Outgoing → ℕ → Type 0
HandsIn (Linear old) new output code = (after : LoggedState) × (new ≡ Linear after) × HandsAs old after output code
HandsIn (LocalRead old) new output code =
    (after : LoggedState) × (new ≡ LocalRead after) × HandsAs old after output code
HandsIn (LocalWrite old) new output code =
    (after : LoggedState) × (new ≡ LocalWrite after) × HandsAs old after output code
HandsIn Closed new output code = (new ≡ Closed) × (output ≡ None) × (code ≡ no_world)

-- the node that is held hands something out, which is held, or nothing
abbrev pub NodeHands : HeldNode → HeldNode → ℕ → Type 0
NodeHands old new code =
    HandsIn old.node new.node new.output code × (new ≡ record old { node = new.node; output = new.output })

-- What a caller looks at, by a number

abbrev pub logged_in : KeptNode → Option LoggedState
logged_in (Linear l) = Some l
logged_in (LocalRead l) = Some l
logged_in (LocalWrite l) = Some l
logged_in Closed = None

abbrev pub node_state_in : KeptNode → Option State
node_state_in (Linear l) = Some l.meeting.node.process.state
node_state_in (LocalRead l) = Some l.meeting.node.process.state
node_state_in (LocalWrite l) = Some l.meeting.node.process.state
node_state_in Closed = None

abbrev pub reply_handed : Option Outgoing → Option Reply
reply_handed None = None
reply_handed (Some output) = output.reply

abbrev pub flag : Bool → ℕ
flag is = cond is 1 0

abbrev pub node_part : NodePart → LoggedState → ℕ
node_part Logged l = l.meeting.node.logged
node_part Durable l = l.meeting.node.durable
node_part Calls l = l.meeting.node.calls
node_part Stopped l = flag l.stopped
node_part Lost l = flag l.meeting.lost
node_part HeardAll l = flag (all_heard l.meeting.heard)

abbrev pub node_looked : HeldNode → ℕ → NodeLook → ℕ
node_looked h register (OfProcess (OfState part)) = seen (state_part part register) (node_state_in h.node)
node_looked h register (OfProcess ReplyValue) = seen reply_value (reply_handed h.output)
node_looked h register (OfProcess ReplyPlace) = seen reply_place (reply_handed h.output)
node_looked h register (OfNode part) = seen (node_part part) (logged_in h.node)
node_looked h register Whole = h.whole
node_looked h register Place = h.place

abbrev pub node_look_of : ℕ → Option NodeLook
node_look_of what =
    (if what == 8 then Some (OfNode Logged) else
    (if what == 9 then Some (OfNode Durable) else
    (if what == 10 then Some (OfNode Stopped) else
    (if what == 11 then Some (OfNode Lost) else
    (if what == 12 then Some (OfNode HeardAll) else
    (if what == 13 then Some Whole else
    (if what == 14 then Some Place else
    (if what == 15 then Some (OfNode Calls) else option_map OfProcess (process_look_of what)))))))))

-- the number that a caller gets: 0 where it asks for nothing that there is
abbrev pub node_number : HeldNode → ℕ → ℕ → ℕ
node_number h what register = seen (node_looked h register) (node_look_of what)

-- the frames that were handed out last
abbrev pub frames_handed : Option Outgoing → List Put
frames_handed None = []
frames_handed (Some output) = output.frames
