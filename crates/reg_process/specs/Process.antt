-- One process: what each event does. Promises cite it.
use Rattle.std.specs.Prelude.{ℕ, suc, ◌+◌, ◌-◌, max, Bool, not, ◌&&◌, ◌==◌, cond, if◌then◌else◌, List, [], ◌∷◌, ◌++◌}
use Rattle.std.specs.Prelude.{length, map, take, drop, Option, Some, None, slice_set, slice_index_or, count_by}
use Rattle.std.specs.List.{filter, list_any}
use Rattle.reg_base.specs.declared.stamps.Stamp.{Stamp}
use Rattle.reg_base.specs.declared.stamps.Delivered.{Delivered}
use Rattle.reg_base.specs.declared.memory.Op.{Op}
use Rattle.reg_base.specs.declared.memory.Answer.TheVariants.{Done}
use Rattle.reg_frames.specs.declared.bodies.Body.{Body}
use Rattle.reg_frames.specs.declared.bodies.Body.TheVariants.{Cast, Ack}
use Rattle.reg_frames.specs.declared.bodies.Frame.{Frame}
use Rattle.reg_frames.specs.declared.bodies.Frame.TheVariants.{Numbered, Got}
use Rattle.reg_front.specs.declared.starts.Start.{Start}
use Rattle.reg_front.specs.declared.starts.Start.TheVariants.{Cast as Casts, CastAndAnswer as CastsAndAnswers}
use Rattle.reg_front.specs.declared.starts.Start.TheVariants.{Look as Looks, Hold as Holds}
use Rattle.reg_process.specs.declared.steps.Reply.{Reply}
use Rattle.reg_process.specs.declared.steps.Step.{Step}
use Rattle.reg_process.specs.declared.steps.Step.TheVariants.{Call, Take, Tick}
use Rattle.reg_base.specs.declared.limits.TheConstants.{MOST_RESENT}
use Rattle.reg_base.specs.Order.{below, at_most, insert}
pub use Rattle.reg_base.specs.Order.{stamp_at, cast_at}
use Rattle.reg_base.specs.Order as order
use Rattle.reg_base.specs.Memory.{Memory, answer_of, memory_after}

abbrev pub time_of : Body → ℕ
time_of (Cast t op) = t
time_of (Ack t) = t

-- What a process keeps for another: the time of the last body accepted from it and the number of the next,
-- the number of the first unacknowledged body to it, and these bodies.
pub record Peer : Type 0 where
  pub seen : ℕ
  pub expected : ℕ
  pub first : ℕ
  pub pending : List Body

abbrev pub no_peer : Peer
no_peer = record { seen = 0; expected = 0; first = 0; pending = [] }

-- the number of the next body
abbrev pub next_of : Peer → ℕ
next_of p = p.first + length p.pending

-- how many bodies are not acknowledged, over all links
abbrev pub pending_of : List Peer → ℕ
pending_of [] = 0
pending_of (p ∷ ps) = length p.pending + pending_of ps

-- an operation that runs until its cast is delivered, or a held read
pub data Running : Type 0 where
  Own : (stamp : Stamp) (op : Op) → Running
  Held : (op : Op) → Running

-- A process. `held` has the casts that wait, in the order of their stamps; the own place of `peers` stays unused.
pub record State : Type 0 where
  pub me : ℕ
  pub clock : ℕ
  pub peers : List Peer
  pub held : List Delivered
  pub copy : Memory
  pub delivered : ℕ
  pub running : Option Running
  pub calls : ℕ

pub record Outcome : Type 0 where
  -- what was queued for every other process
  pub body : Option Body
  -- the frames put for each process
  pub frames : ℕ → List Frame
  pub cast : Option Stamp
  pub delivered : List Delivered
  pub reply : Option Reply

abbrev pub peer_at : State → ℕ → Peer
peer_at s r = slice_index_or s.peers r no_peer

abbrev pub seen_at : State → ℕ → ℕ
seen_at s r = (peer_at s r).seen

-- whether a stamp is clear, by what the process has seen of the others; and that as a test
abbrev pub IsClear : State → Stamp → Type 0
IsClear s stamp = order.IsClear s.me (seen_at s) (length s.peers) stamp

abbrev pub is_clear : State → Stamp → Bool
is_clear s stamp = order.is_clear s.me (seen_at s) (length s.peers) stamp

abbrev pub is_own : State → Delivered → Bool
is_own s c = c.stamp.process == s.me

-- the own casts that aren't delivered here
abbrev pub unsettled : State → ℕ
unsettled s = count_by (is_own s) s.held

-- Delivery: all clear casts of the held ones, in order.
abbrev pub clear_casts : State → List Delivered
clear_casts s = filter (λ c. is_clear s c.stamp) s.held

abbrev pub ops_of : List Delivered → List Op
ops_of cs = map (λ (c : Delivered). c.op) cs

-- the casts before the stamp, and those up to the last own one
abbrev pub casts_before : Stamp → List Delivered → List Delivered
casts_before stamp cs = filter (λ c. below c.stamp stamp) cs

abbrev pub up_to_own : State → List Delivered → List Delivered
up_to_own s cs = filter (λ c. list_any (λ d. is_own s d && at_most c.stamp d.stamp) cs) cs

abbrev pub reply_after : State → List Delivered → Op → Reply
reply_after s cs op =
    record { answer = answer_of op (memory_after (ops_of cs) s.copy); place = s.delivered + length cs }

abbrev pub is_stamp : Stamp → Delivered → Bool
is_stamp stamp c = (c.stamp.time == stamp.time) && (c.stamp.process == stamp.process)

-- the reply to what runs, where these casts are delivered
abbrev pub reply_of : State → List Delivered → Option Running → Option Reply
reply_of s cs None = None
reply_of s cs (Some (Own stamp op)) =
    if list_any (is_stamp stamp) cs then Some (reply_after s (casts_before stamp cs) op) else None
reply_of s cs (Some (Held op)) =
    if count_by (is_own s) cs == unsettled s then Some (reply_after s (up_to_own s cs) op) else None

abbrev pub due : State → Option Reply
due s = reply_of s (clear_casts s) s.running

abbrev pub still : Option Reply → Option Running → Option Running
still None running = running
still (Some reply) running = None

abbrev pub delivered_state : State → State
delivered_state s = record s {
  held = filter (λ c. not (is_clear s c.stamp)) s.held;
  copy = memory_after (ops_of (clear_casts s)) s.copy;
  delivered = s.delivered + length (clear_casts s);
  running = still (due s) s.running;
}

-- What an event does before delivery runs.
abbrev pub queue_from : ℕ → ℕ → Body → List Peer → List Peer
queue_from r me body [] = []
queue_from r me body (p ∷ ps) =
    cond (r == me) p (record p { pending = p.pending ++ body ∷ [] }) ∷ queue_from (suc r) me body ps

-- the clock moves on, a body of that time is queued for every other process
abbrev pub queues : ℕ → Body → State → State
queues clock body s = record s { clock = clock; peers = queue_from 0 s.me body s.peers }

abbrev pub data_frames : State → Option Body → ℕ → List Frame
data_frames s None r = []
data_frames s (Some body) r = cond (r == s.me) [] (Numbered (next_of (peer_at s r)) body ∷ [])

abbrev pub no_frames : ℕ → List Frame
no_frames r = []

abbrev pub got_frames : ℕ → ℕ → ℕ → List Frame
got_frames to count r = cond (r == to) (Got count ∷ []) []

-- an own cast, and then what runs
abbrev pub cast_made : State → Op → Option Running → State
cast_made s op running = record (queues (s.clock + 1) (Cast (s.clock + 1) op) s) {
  held = insert (cast_at (s.clock + 1) s.me op) s.held;
  running = running;
  calls = s.calls + 1;
}

abbrev pub look : State → Op → Reply
look s op = reply_after s [] op

-- the reply that doesn't wait for the cast's delivery
abbrev pub done_at_once : State → Reply
done_at_once s = record { answer = Done; place = s.delivered }

-- what an event gives once delivery has run, from the state before it
abbrev pub delivering : State → Option Body → (ℕ → List Frame) → Option Stamp → Option Reply → State × Outcome
delivering s body frames cast reply = (
  delivered_state s,
  record {
    body = body;
    frames = frames;
    cast = cast;
    delivered = clear_casts s;
    reply = elim reply [ None ↦ due s | Some r ↦ Some r ];
  },
)

abbrev pub quiet : State → (ℕ → List Frame) → State × Outcome
quiet s frames = (s, record { body = None; frames = frames; cast = None; delivered = []; reply = None })

abbrev pub called : State → Op → Start → State × Outcome
called s op Casts =
    delivering (cast_made s op (Some (Own (stamp_at (s.clock + 1) s.me) op))) (Some (Cast (s.clock + 1) op))
    (data_frames s (Some (Cast (s.clock + 1) op))) (Some (stamp_at (s.clock + 1) s.me)) None
called s op CastsAndAnswers =
    delivering (cast_made s op None) (Some (Cast (s.clock + 1) op)) (data_frames s (Some (Cast (s.clock + 1) op)))
    (Some (stamp_at (s.clock + 1) s.me)) (Some (done_at_once s))
called s op Looks = (
  record s { calls = s.calls + 1; running = None },
  record {
    body = None;
    frames = no_frames;
    cast = None;
    delivered = [];
    reply = Some (look s op);
  },
)
called s op Holds = (
  record s { calls = s.calls + 1; running = Some (Held op) },
  record {
    body = None;
    frames = no_frames;
    cast = None;
    delivered = [];
    reply = None;
  },
)

-- the peer's entry after a body of that time was accepted
abbrev pub accepts : ℕ → ℕ → State → State
accepts from time s =
    record s {
      clock = max s.clock time + 1;
      peers = slice_set s.peers from
          (record (peer_at s from) { seen = time; expected = (peer_at s from).expected + 1 });
    }

abbrev pub both_frames : (ℕ → List Frame) → (ℕ → List Frame) → ℕ → List Frame
both_frames f g r = f r ++ g r

abbrev pub accepted : State → ℕ → Body → State × Outcome
accepted s from (Cast t op) =
    delivering
    (record (queues (max s.clock t + 1) (Ack (max s.clock t + 1)) (accepts from t s)) {
      held = insert
          (cast_at t from op) s.held;
    })
    (Some (Ack (max s.clock t + 1)))
    (both_frames (got_frames from ((peer_at s from).expected + 1)) (data_frames s (Some (Ack (max s.clock t + 1)))))
    None None
accepted s from (Ack t) =
    delivering (accepts from t s) None (got_frames from ((peer_at s from).expected + 1)) None None

abbrev pub acknowledged : State → ℕ → ℕ → State
acknowledged s from count = record s {
  peers = slice_set s.peers from (record (peer_at s from) {
    first = max (peer_at s from).first count;
    pending = drop (count - (peer_at s from).first) (peer_at s from).pending;
  });
}

abbrev pub taken : State → ℕ → Frame → State × Outcome
taken s from (Numbered number body) =
    cond (number == (peer_at s from).expected)
    (accepted s from body)
    (quiet s (got_frames from (peer_at s from).expected))
taken s from (Got count) = quiet (acknowledged s from count) no_frames

-- the bodies with their numbers
abbrev pub numbered_from : ℕ → List Body → List Frame
numbered_from i [] = []
numbered_from i (b ∷ bs) = Numbered i b ∷ numbered_from (i + 1) bs

abbrev pub resent : State → ℕ → List Frame
resent s r = cond (r == s.me) [] (numbered_from (peer_at s r).first (take MOST_RESENT (peer_at s r).pending))

-- One event at a process.
abbrev pub step : (Op → ℕ → Start) → State → Step → State × Outcome
step start s (Call op) = called s op (start op (unsettled s))
step start s (Take from frame) = taken s from frame
step start s Tick = quiet s (resent s)
