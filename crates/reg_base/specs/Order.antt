-- The order of stamps, lists of casts in that order, and what is clear.
use Rattle.std.specs.Prelude.{◌≡◌, ℕ, zero, suc, true, ◌<◌, ◌≤◌, Bool, ◌&&◌, ◌||◌, ◌==◌, nat_lt, nat_le, cond, ◌⊎◌}
use Rattle.std.specs.Prelude.{List, [], ◌∷◌, ◌++◌}
use Rattle.reg_base.specs.declared.stamps.Stamp.{Stamp}
use Rattle.reg_base.specs.declared.stamps.Delivered.{Delivered}
use Rattle.reg_base.specs.declared.memory.Op.{Op}

abbrev pub stamp_at : ℕ → ℕ → Stamp
stamp_at t p = record { time = t; process = p }

abbrev pub cast_at : ℕ → ℕ → Op → Delivered
cast_at t p op = record { stamp = stamp_at t p; op = op }

-- a test holds of every number below n
abbrev pub all_below : (ℕ → Bool) → ℕ → Bool
all_below test zero = true
all_below test (suc n) = test n && all_below test n

-- (t, p) < (u, q) when t < u, or t = u and p < q
abbrev pub Below : Stamp → Stamp → Type 0
Below a b = (a.time < b.time) ⊎ ((a.time ≡ b.time) × (a.process < b.process))

abbrev pub AtMost : Stamp → Stamp → Type 0
AtMost a b = (a.time < b.time) ⊎ ((a.time ≡ b.time) × (a.process ≤ b.process))

-- whether (t, p) < (u, q), as a test
abbrev pub below : Stamp → Stamp → Bool
below a b = nat_lt a.time b.time || (a.time == b.time && nat_lt a.process b.process)

abbrev pub at_most : Stamp → Stamp → Bool
at_most a b = nat_lt a.time b.time || (a.time == b.time && nat_le a.process b.process)

-- c stands in the list
abbrev pub In : {X : Type 0} → X → List X → Type 0
In c [] = ⊥
In c (x ∷ xs) = (c ≡ x) ⊎ In c xs

-- the stamps rise strictly
abbrev pub Rising : List Delivered → Type 0
Rising [] = Unit {0}
Rising (x ∷ xs) = ((c : Delivered) → In c xs → Below x.stamp c.stamp) × Rising xs

-- the list with one more cast, at its place
abbrev pub insert : Delivered → List Delivered → List Delivered
insert c [] = c ∷ []
insert c (x ∷ xs) = cond (below c.stamp x.stamp) (c ∷ x ∷ xs) (x ∷ insert c xs)

-- A stamp is clear for one of n processes when every other process is known to have passed it: the stamp of the last
-- body from that process, whose time is `seen` of it, is not below.
abbrev pub IsClear : ℕ → (ℕ → ℕ) → ℕ → Stamp → Type 0
IsClear me seen n stamp = (r : ℕ) → r < n → (r ≡ me → ⊥) → AtMost stamp (stamp_at (seen r) r)

-- whether a stamp is clear, as a test
abbrev pub is_clear : ℕ → (ℕ → ℕ) → ℕ → Stamp → Bool
is_clear me seen n stamp = all_below (λ r. (r == me) || at_most stamp (stamp_at (seen r) r)) n

-- no cast of the list is clear
abbrev pub NoneClear : ℕ → (ℕ → ℕ) → ℕ → List Delivered → Type 0
NoneClear me seen n cs = (c : Delivered) → In c cs → IsClear me seen n c.stamp → ⊥

abbrev pub IsPrefixOf : List Delivered → List Delivered → Type 0
IsPrefixOf xs ys = (rest : List Delivered) × (xs ++ rest ≡ ys)
