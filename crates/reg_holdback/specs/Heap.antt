-- The held casts as a heap keeps them. It carries a proof: no promise speaks of it.
use Rattle.std.specs.Prelude.{ℕ, ◌≤◌, ◌==◌, ◌&&◌, List, [], ◌∷◌, cond}
use Rattle.std.specs.List.{sum_by}
use Rattle.std.specs.Ordering.{on, flip_args, then_cmp, nat_cmp}
use Rattle.std.specs.declared.cmp.Ordering.{Ordering}
use Rattle.reg_base.specs.declared.stamps.Stamp.{Stamp}
use Rattle.reg_base.specs.declared.stamps.Delivered.{Delivered}
use Rattle.reg_base.specs.Order.{insert}
use Rattle.reg_holdback.specs.declared.held.HeldCast.{HeldCast}

-- the one with the earlier stamp is the greater
abbrev pub later_cmp : HeldCast → HeldCast → Ordering
later_cmp =
    then_cmp (flip_args (on (λ h. h.cast.stamp.time) nat_cmp)) (flip_args (on (λ h. h.cast.stamp.process) nat_cmp))

-- the casts of a heap in the order of their stamps
abbrev pub in_order : List HeldCast → List Delivered
in_order [] = []
in_order (h ∷ hs) = insert h.cast (in_order hs)

-- 1 where both are the same stamp
abbrev pub same : Stamp → Stamp → ℕ
same s t = cond (s.time == t.time && s.process == t.process) 1 0

-- how many of them have this stamp
abbrev pub many : Stamp → List HeldCast → ℕ
many s hs = sum_by (λ h. same s h.cast.stamp) hs

-- no two of them have the same stamp
abbrev pub AreApart : List HeldCast → Type 0
AreApart hs = (s : Stamp) → many s hs ≤ 1
