-- The laws of the order of stamps, and of what is clear.
use Rattle.std.proofs.Common.{◌≡◌, ℕ, ◌⊎◌, refl, inl, inr, arith}
use Rattle.std.specs.Prelude.{◌==◌, ◌||◌}
use Rattle.std.specs.Bool.{Decides}
use Rattle.std.proofs.lemmas.Bool.{leb-true, le-leb, cases_eq, cases_order}
use Rattle.std.proofs.lemmas.Bool.Decides.{Decides-eqb, Decides-ltb, Decides-and, Decides-or, Decides-like}
use Rattle.std.proofs.lemmas.Bool.Decides.{Decides-below_and}
use Rattle.reg_base.specs.declared.stamps.Stamp.{Stamp}
use Rattle.reg_base.specs.declared.stamps.Delivered.{Delivered}
use Rattle.reg_base.specs.Order.{stamp_at, all_below, Below, AtMost, below, at_most, IsClear, is_clear}

pub Decides-below : (a b : Stamp) → Decides (below a b) (Below a b)
Decides-below a b = Decides-or _ _ (Decides-ltb a.time b.time) (Decides-and _ _ (Decides-eqb a.time b.time) (Decides-ltb a.process b.process))

pub Decides-at_most : (a b : Stamp) → Decides (at_most a b) (AtMost a b)
Decides-at_most a b = Decides-or _ _ (Decides-ltb a.time b.time) (Decides-and _ _ (Decides-eqb a.time b.time) (leb-true a.process b.process, le-leb a.process b.process))

pub below_trans : (a b c : Stamp) → Below a b → Below b c → Below a c
below_trans a b c h k = grind arith

pub below_at_most : (a b c : Stamp) → Below a b → AtMost b c → AtMost a c
below_at_most a b c h k = grind arith

pub at_most_trans : (a b c : Stamp) → AtMost a b → AtMost b c → AtMost a c
at_most_trans a b c h k = grind arith

pub below_irrefl : (a : Stamp) → Below a a → ⊥
below_irrefl a h = grind arith

pub below_asym : (a b : Stamp) → Below a b → Below b a → ⊥
below_asym a b h k = grind arith

pub below_or : (a b : Stamp) → Below a b ⊎ AtMost b a
below_or a b = grind arith

pub not_below : (a b : Stamp) → (Below a b → ⊥) → AtMost b a
not_below a b h = grind (arith, below_or)

pub same_stamp : (a b : Stamp) → a.time ≡ b.time → a.process ≡ b.process → a ≡ b
same_stamp a b p q = λ i. record { time = p i; process = q i }

-- one is before the other, or they are one
pub cases_stamps : (a b : Stamp) → (a ≡ b) ⊎ (Below a b ⊎ Below b a)
cases_stamps a b = grind (arith, same_stamp, cases_order)

pub same_cast : (a b : Delivered) → a.stamp ≡ b.stamp → a.op ≡ b.op → a ≡ b
same_cast a b p q = λ i. record { stamp = p i; op = q i }

pub Decides-clear : (me : ℕ) (seen : ℕ → ℕ) (n : ℕ) (stamp : Stamp)
    → Decides (is_clear me seen n stamp) (IsClear me seen n stamp)
Decides-clear me seen n stamp =
    let test = λ (r : ℕ). (r == me) || at_most stamp (stamp_at (seen r) r) in
    let P : ℕ → Type 0 = λ r. (r ≡ me) ⊎ AtMost stamp (stamp_at (seen r) r) in
    Decides-like (is_clear me seen n stamp)
    (λ h r l ne. elim (h r l) [ inl e ↦ absurd (ne e) | inr a ↦ a ])
    (λ h k l. elim (cases_eq k me) [ inl e ↦ inl e | inr ne ↦ inr (h k l ne) ])
    (Decides-below_and test P (all_below test) (λ k. Decides-or _ _ (Decides-eqb k me) (Decides-at_most stamp (stamp_at (seen k) k))) refl (λ _. refl) n)

-- what stands below a clear stamp is clear
pub clear_down : (me : ℕ) (seen : ℕ → ℕ) (n : ℕ) (a b : Stamp) → AtMost a b → IsClear me seen n b → IsClear me seen n a
clear_down me seen n a b h c = λ r l ne. at_most_trans a b (stamp_at (seen r) r) h (c r l ne)

pub clear_below : (me : ℕ) (seen : ℕ → ℕ) (n : ℕ) (a b : Stamp) → Below a b → IsClear me seen n b → IsClear me seen n a
clear_below me seen n a b h c = λ r l ne. below_at_most a b (stamp_at (seen r) r) h (c r l ne)
