-- The parts of one process, and its state made of them. Promises cite it.
use Rattle.std.specs.Prelude.{ℕ, List, [], ◌∷◌, Option, None, replicate}
use Rattle.reg_base.specs.Memory.{Memory}
use Rattle.reg_process.specs.Process.{State, Peer, Running}
use Rattle.reg_links.specs.Link.{Unacknowledged}
use Rattle.reg_holdback.specs.Waiting.{Waiting}

pub record Parts : Type 0 where
  pub me : ℕ
  pub clock : ℕ
  pub waiting : Waiting
  pub expected : List ℕ
  pub outs : List Unacknowledged
  pub copy : Memory
  pub delivered : ℕ
  pub unsettled : ℕ
  pub running : Option Running
  pub calls : ℕ

-- what is kept for every process, in one list
abbrev pub merged : List ℕ → List ℕ → List Unacknowledged → List Peer
merged [] es os = []
merged (t ∷ ts) [] os = []
merged (t ∷ ts) (e ∷ es) [] = []
merged (t ∷ ts) (e ∷ es) (o ∷ os) =
    record { seen = t; expected = e; first = o.first; pending = o.pending } ∷ merged ts es os

abbrev pub state_of : Parts → State
state_of p = record {
  me = p.me;
  clock = p.clock;
  peers = merged p.waiting.seen p.expected p.outs;
  held = p.waiting.held;
  copy = p.copy;
  delivered = p.delivered;
  running = p.running;
  calls = p.calls;
}

abbrev pub nothing : Unacknowledged
nothing = record { first = 0; pending = [] }

-- a process that did nothing yet
abbrev pub first_parts : ℕ → ℕ → ℕ → Parts
first_parts me processes registers = record {
  me = me;
  clock = 0;
  waiting = record { me = me; seen = replicate processes 0; held = [] };
  expected = replicate processes 0;
  outs = replicate processes nothing;
  copy = replicate registers 0;
  delivered = 0;
  unsettled = 0;
  running = None;
  calls = 0;
}
