-- Delivery of one cast. It carries a proof: no promise speaks of it.
use Rattle.std.specs.Prelude.{ℕ, ◌+◌, ◌<◌, ◌==◌, cond, List, Option, Some, None, count_by}
use Rattle.reg_base.specs.declared.stamps.Delivered.{Delivered}
use Rattle.reg_process.specs.declared.steps.Reply.{Reply}
use Rattle.reg_base.specs.Memory.{Memory, answer_of, after}
use Rattle.reg_process.specs.Process.{State, Running, Own, Held, is_own, is_stamp, still, unsettled}
pub use Rattle.reg_process.specs.Faults.{first_of}
use Rattle.reg_process.specs.Parts.{Parts}

-- the reply that is due when the cast c is delivered on the memory m, where `left` own casts stay held
abbrev pub reply_by : Memory → ℕ → ℕ → Delivered → Option Running → Option Reply
reply_by m place left c None = None
reply_by m place left c (Some (Own stamp op)) =
    cond (is_stamp stamp c) (Some (record { answer = answer_of op m; place = place })) None
reply_by m place left c (Some (Held op)) =
    cond (left == 0) (Some (record { answer = answer_of op (after c.op m); place = place + 1 })) None

-- the reply that is due when the cast c is delivered, where the rest stays held
abbrev pub reply_one : State → Delivered → List Delivered → Option Running → Option Reply
reply_one s c rest running = reply_by s.copy s.delivered (count_by (is_own s) rest) c running

-- the state after the cast c was delivered alone
abbrev pub popped : State → Delivered → List Delivered → State
popped s c rest = record s {
  held = rest;
  copy = after c.op s.copy;
  delivered = s.delivered + 1;
  running = still (reply_one s c rest s.running) s.running;
}

-- the parts after the cast c was delivered, where the rest stays held, with the given number of own casts
abbrev pub delivered_parts : Parts → Delivered → List Delivered → ℕ → Parts
delivered_parts p c rest left = record p {
  waiting = record p.waiting { held = rest };
  copy = after c.op p.copy;
  delivered = p.delivered + 1;
  unsettled = left;
  running = still (reply_by p.copy p.delivered left c p.running) p.running;
}

-- a held read waits for own casts
abbrev pub Waits : State → Option Running → Type 0
Waits s None = Unit {0}
Waits s (Some (Own stamp op)) = Unit {0}
Waits s (Some (Held op)) = 0 < unsettled s
