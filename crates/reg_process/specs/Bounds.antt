-- What holds of the parts of a process between events. They carry a proof: no promise speaks of them.
use Rattle.std.specs.Prelude.{ℕ, ◌≡◌, ◌<◌, ◌≤◌, ◌+◌, Bool, ◌==◌, List, length, Option, Some, None, slice_index_or}
use Rattle.std.specs.Prelude.{count_by}
use Rattle.reg_base.specs.declared.stamps.Delivered.{Delivered}
use Rattle.reg_base.specs.declared.limits.TheConstants.{LAST_TIME, MOST_OPERATIONS, MOST_PROCESSES}
use Rattle.reg_base.specs.Memory.{register_of}
use Rattle.reg_base.specs.Order.{In}
use Rattle.reg_process.specs.Process.{Running, Own, Held}
use Rattle.reg_process.specs.Parts.{Parts, nothing}
use Rattle.reg_links.specs.Link.{next_of}

abbrev pub is_from : ℕ → Delivered → Bool
is_from me c = c.stamp.process == me

-- the running operation names a register, and a held read waits for own casts
abbrev pub RunsWell : ℕ → ℕ → Option Running → Type 0
RunsWell registers unsettled None = Unit {0}
RunsWell registers unsettled (Some (Own stamp op)) = register_of op < registers
RunsWell registers unsettled (Some (Held op)) = (register_of op < registers) × (0 < unsettled)

abbrev pub HeldWell : ℕ → ℕ → List Delivered → Type 0
HeldWell clock registers held = (c : Delivered) → In c held → (c.stamp.time ≤ clock) × (register_of c.op < registers)

pub record Good (p : Parts) : Type 0 where
  pub same : p.waiting.me ≡ p.me
  pub me : p.me < length p.waiting.seen
  pub processes : length p.waiting.seen ≤ MOST_PROCESSES
  pub ins : length p.expected ≡ length p.waiting.seen
  pub out : length p.outs ≡ length p.waiting.seen
  pub unsettled : p.unsettled ≡ count_by (is_from p.me) p.waiting.held
  pub few : p.unsettled ≤ p.calls
  pub calls : p.calls ≤ MOST_OPERATIONS
  pub clock : p.clock ≤ LAST_TIME
  pub counted : p.delivered + length p.waiting.held ≤ p.clock
  pub held : HeldWell p.clock (length p.copy) p.waiting.held
  pub runs : RunsWell (length p.copy) p.unsettled p.running
  pub numbers : (i : ℕ) → next_of (slice_index_or p.outs i nothing) ≤ p.clock
  pub counts : (i : ℕ) → slice_index_or p.expected i 0 ≤ p.clock
