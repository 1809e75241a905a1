-- The bounds of a queue between its calls. They carry a proof: no promise speaks of them.
use Rattle.std.specs.Prelude.{ℕ, ◌≡◌, ◌<◌, ◌≤◌, List, length, slice_index}
use Rattle.reg_base.specs.declared.stamps.Delivered.{Delivered}
use Rattle.reg_base.specs.declared.limits.TheConstants.{MOST_PROCESSES}
use Rattle.reg_base.specs.Order.{In}
use Rattle.reg_holdback.specs.Waiting.{Waiting}

-- what is held of another process was heard of
abbrev pub IsHeard : ℕ → List ℕ → List Delivered → Type 0
IsHeard me seen held =
    (c : Delivered) → In c held → (c.stamp.process ≡ me → ⊥) → c.stamp.time ≤ slice_index seen c.stamp.process

pub record InRange (w : Waiting) : Type 0 where
  pub me : w.me < length w.seen
  pub processes : length w.seen ≤ MOST_PROCESSES
  pub heard : IsHeard w.me w.seen w.held
