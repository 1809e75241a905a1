-- The casts that a process holds back, and whom each waits for.
use Rattle.std.specs.Prelude.{ℕ, zero, suc, Bool, ◌==◌, ◌&&◌, not, cond, List, [], ◌∷◌, ◌++◌, Option, None, Some}
use Rattle.reg_base.specs.declared.stamps.Stamp.{Stamp}
use Rattle.reg_base.specs.declared.stamps.Delivered.{Delivered}
use Rattle.reg_base.specs.Order.{below, stamp_at}
use Rattle.reg_process.specs.Process.{State, seen_at}
use Rattle.reg_trace.specs.declared.waits.Wait.{Wait}

-- whether r is another process, and was not heard past this stamp
abbrev pub is_unheard : State → Stamp → ℕ → Bool
is_unheard s stamp r = not (r == s.me) && below (stamp_at (seen_at s r) r) stamp

-- the process found before, or else the process r, where the test holds
abbrev pub none_before : Option ℕ → Bool → ℕ → Option ℕ
none_before None test r = cond test (Some r) None
none_before (Some q) test r = Some q

-- the lowest of the first n processes that is another one, and was not heard past this stamp
abbrev pub first_unheard : State → Stamp → ℕ → Option ℕ
first_unheard s stamp zero = None
first_unheard s stamp (suc r) = none_before (first_unheard s stamp r) (is_unheard s stamp r) r

-- a cast that waits for a process
abbrev pub wait_for : Stamp → Option ℕ → List Wait
wait_for stamp None = []
wait_for stamp (Some r) = record { stamp = stamp; unheard = r } ∷ []

-- these casts, each with the lowest process that the holder hasn't heard past it
abbrev pub waits_of : ℕ → State → List Delivered → List Wait
waits_of n s [] = []
waits_of n s (c ∷ cs) = wait_for c.stamp (first_unheard s c.stamp n) ++ waits_of n s cs
