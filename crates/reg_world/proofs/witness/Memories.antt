-- Memories after the first casts of an order.
use Rattle.std.proofs.Common.{◌≡◌, ℕ, zero, suc, ◌+◌, ◌-◌, ◌<◌, ◌≤◌, List, [], ◌∷◌, map, take, length, refl, ap, ◌∙◌}
use Rattle.std.proofs.Common.{arith}
use Rattle.std.proofs.lemmas.Option.{same_Some}
use Rattle.reg_base.specs.declared.memory.Op.{Op}
use Rattle.reg_base.specs.declared.memory.Op.TheVariants.{Read, Write, Swap, CompareAndSwap}
use Rattle.reg_world.specs.declared.order.First.{First}
use Rattle.reg_base.specs.Memory.{Memory, IsUpdate, after, memory_after, blank}
use Rattle.reg_checkers.specs.History.{IsAt}
use Rattle.reg_world.specs.Runs.{Run, memory_of}
use Rattle.reg_checkers.proofs.Places.{element_at}

-- what is no update leaves the memory as it is
pub unchanged : (m : Memory) (op : Op) → (IsUpdate op → ⊥) → after op m ≡ m
unchanged m (Read register) h = refl
unchanged m (Write register value) h = absurd (h refl)
unchanged m (Swap register value) h = absurd (h refl)
unchanged m (CompareAndSwap register expected value) h = absurd (h refl)

more : (m : Memory) (xs : List First) (k : ℕ) (c : First) → IsAt xs k c
    → memory_after (map (λ c. c.op) (take (suc k) xs)) m ≡ after c.op (memory_after (map (λ c. c.op) (take k xs)) m)
more m [] k c h = absurd cc
more m (x ∷ xs) zero c h = ap (λ (y : First). after y.op m) (same_Some x c h)
more m (x ∷ xs) (suc k) c h = more (after x.op m) xs k c h

-- one more cast
pub memory_of_more : (r : Run) (k : ℕ) (c : First) → IsAt r.order k c → memory_of r (suc k) ≡ after c.op (memory_of r k)
memory_of_more r k c h = more (blank r.registers) r.order k c h

-- casts that are no updates leave the memory as it is
pub gap : (r : Run) (c n : ℕ) → c + n ≤ length r.order
    → ((j : ℕ) (d : First) → c ≤ j → j < c + n → IsAt r.order j d → IsUpdate d.op → ⊥)
    → memory_of r (c + n) ≡ memory_of r c
gap r c zero h calm = let e : c + 0 ≡ c = omega arith in ap (λ (k : ℕ). memory_of r k) e
gap r c (suc n) h calm =
    let here : (d : First) × IsAt r.order (c + n) d = element_at r.order (c + n) (omega arith) in
    let e : c + suc n ≡ suc (c + n) = omega arith in
    ap (λ (k : ℕ). memory_of r k) e
    ∙ (memory_of_more r (c + n) here.0 here.1
    ∙ (unchanged (memory_of r (c + n)) here.0.op (calm (c + n) here.0 (omega arith) (omega arith) here.1)
    ∙ gap r c n (omega arith) (λ j d low high at up. calm j d low (omega arith) at up)))

pub gap_to : (r : Run) (c p : ℕ) → c ≤ p → p ≤ length r.order
    → ((j : ℕ) (d : First) → c ≤ j → j < p → IsAt r.order j d → IsUpdate d.op → ⊥)
    → memory_of r p ≡ memory_of r c
gap_to r c p le h calm =
    let e : p ≡ c + (p - c) = omega arith in
    ap (λ (k : ℕ). memory_of r k) e ∙ gap r c (p - c) (omega arith) (λ j d low high at up. calm j d low (omega arith) at up)
