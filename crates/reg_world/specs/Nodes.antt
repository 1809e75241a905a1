-- All processes and wires, over a list of events.
use Rattle.std.specs.List.{filter, list_any}
use Rattle.reg_base.specs.declared.limits.TheConstants.{MOST_OPERATIONS}
use Rattle.std.specs.Prelude.{ℕ, not, ◌&&◌, ◌==◌, nat_lt, cond, List, [], ◌∷◌, ◌++◌, replicate, Option, Some, None}
use Rattle.std.specs.Prelude.{slice_get}
use Rattle.std.specs.Option.{option_to_list, is_some}
use Rattle.reg_base.specs.declared.stamps.Delivered.{Delivered}
use Rattle.reg_base.specs.declared.memory.Op.{Op}
use Rattle.reg_base.specs.declared.memory.Op.TheVariants.{Read}
use Rattle.reg_frames.specs.declared.bodies.Body.{Body}
use Rattle.reg_frames.specs.declared.bodies.Frame.{Frame}
use Rattle.reg_process.specs.declared.steps.Reply.{Reply}
use Rattle.reg_front.specs.declared.starts.Start.{Start}
use Rattle.reg_process.specs.declared.steps.Step.{Step}
use Rattle.reg_process.specs.declared.steps.Step.TheVariants.{Call as CallStep, Take as TakeStep, Tick as TickStep}
use Rattle.reg_process.specs.declared.events.Event.{Event}
use Rattle.reg_process.specs.declared.events.Event.TheVariants.{Call, Take, Tick}
use Rattle.reg_base.specs.Memory.{register_of}
use Rattle.reg_process.specs.Process.{State, Outcome, Running, Own, Held, no_peer, step}

-- A reply with its operation.
pub record Said : Type 0 where
  pub op : Op
  pub reply : Reply

-- A process with what is known of its past: the casts that it delivered, the bodies that it queued, which are the same
-- for every other process, all frames ever put from it to each other process, and its replies.
pub record Node : Type 0 where
  pub state : State
  pub deliveries : List Delivered
  pub queued : List Body
  pub wire : ℕ → List Frame
  pub replies : List Said

abbrev pub Nodes : Type 0
Nodes = ℕ → Node

-- the function with another value at i
abbrev pub put : {A : Type 0} → (ℕ → A) → ℕ → A → ℕ → A
put at i x j = cond (j == i) x (at j)

abbrev pub first_state : ℕ → ℕ → ℕ → State
first_state n registers p = record {
  me = p;
  clock = 0;
  peers = replicate n no_peer;
  held = [];
  copy = replicate registers 0;
  delivered = 0;
  running = None;
  calls = 0;
}

abbrev pub empty : ℕ → ℕ → Nodes
empty n registers p =
    record { state = first_state n registers p; deliveries = []; queued = []; wire = λ b. []; replies = [] }

-- the operation that a reply in this step is for: the one called, or the one that runs
abbrev pub running_op : Option Running → Op
running_op None = Read 0
running_op (Some (Own stamp op)) = op
running_op (Some (Held op)) = op

abbrev pub op_in : State → Step → Op
op_in s (CallStep op) = op
op_in s (TakeStep from frame) = running_op s.running
op_in s TickStep = running_op s.running

abbrev pub said : Op → Option Reply → List Said
said op None = []
said op (Some reply) = record { op = op; reply = reply } ∷ []

-- the process made a step
abbrev pub after_result : Node → Op → State × Outcome → Node
after_result x op r = record {
  state = r.0;
  deliveries = x.deliveries ++ r.1.delivered;
  queued = x.queued ++ option_to_list r.1.body;
  wire = λ b. x.wire b ++ r.1.frames b;
  replies = x.replies ++ said op r.1.reply;
}

abbrev pub after_step : (Op → ℕ → Start) → Node → Step → Node
after_step start x e = after_result x (op_in x.state e) (step start x.state e)

-- which process makes which step in an event, or None where the event is refused
abbrev pub take_step : ℕ → ℕ → Option Frame → Option (ℕ × Step)
take_step from to None = None
take_step from to (Some frame) = Some (to, TakeStep from frame)

abbrev pub step_of : ℕ → ℕ → Nodes → Event → Option (ℕ × Step)
step_of n registers w (Call p op) =
    cond (nat_lt p n &&
    (not (is_some (w p).state.running) &&
    (nat_lt (register_of op) registers && nat_lt (w p).state.calls MOST_OPERATIONS)))
    (Some (p, CallStep op)) None
step_of n registers w (Take from to number) =
    cond (nat_lt from n && (nat_lt to n && not (from == to))) (take_step from to (slice_get ((w from).wire to) number))
    None
step_of n registers w (Tick p) = cond (nat_lt p n) (Some (p, TickStep)) None

-- those of the casts whose stamps don't stand in the list
abbrev pub unseen : List Delivered → List Delivered → List Delivered
unseen known casts =
    filter
    (λ c. not
    (list_any (λ (d : Delivered). (d.stamp.time == c.stamp.time) && (d.stamp.process == c.stamp.process)) known))
    casts
