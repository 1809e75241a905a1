-- Which answers an operation can have, and what it leaves of a memory.
use Rattle.std.proofs.Common.{◌≡◌, ℕ, zero, suc, Bool, true, false, cond, [], ◌∷◌, ◌==◌, refl, sym, ap, ◌∙◌, length}
use Rattle.std.proofs.Common.{length-set, arith}
use Rattle.std.specs.Prelude.{slice_index, slice_set}
use Rattle.std.proofs.lemmas.Bool.{eq-eqb, ne_eqb}
use Rattle.reg_base.specs.declared.memory.Op.TheVariants.{Read, Write, Swap, CompareAndSwap}
use Rattle.reg_base.specs.declared.memory.Answer.TheVariants.{Done, Value, Unequal}
use Rattle.reg_base.specs.Memory.{Memory, answer_of, after, tells, IsBlind}
use Rattle.reg_base.specs.declared.memory.Op.{Op}
use Rattle.reg_base.specs.declared.memory.Answer.{Answer}

-- an answer that the operation can have
abbrev pub Fits : Op → Answer → Type 0
Fits op answer = (m : Memory) × (answer ≡ answer_of op m)

-- a memory with this value at the register
abbrev with_value : ℕ → ℕ → Memory
with_value zero value = value ∷ []
with_value (suc register) value = 0 ∷ with_value register value

value_there : (register value : ℕ) → slice_index (with_value register value) register ≡ value
value_there zero value = refl
value_there (suc register) value = value_there register value

pub read_fits : (register value : ℕ) → Fits (Read register) (Value value)
read_fits register value = (with_value register value, ap Value (sym (value_there register value)))

pub write_fits : (register value : ℕ) → Fits (Write register value) Done
write_fits register value = ([], refl)

pub swap_fits : (register value old : ℕ) → Fits (Swap register value) (Value old)
swap_fits register value old = (with_value register old, ap Value (sym (value_there register old)))

told : (register expected value : ℕ) (m : Memory) (b : Bool) → (slice_index m register == expected) ≡ b
    → answer_of (CompareAndSwap register expected value) m ≡ cond b Done Unequal
told register expected value m b e = ap (λ (x : Bool). cond x Done Unequal) e

pub equal_fits : (register expected value : ℕ) → Fits (CompareAndSwap register expected value) Done
equal_fits register expected value = (
  with_value register expected,
  sym (told register expected value (with_value register expected) true (eq-eqb (slice_index (with_value register expected) register) expected (value_there register expected))),
)

pub unequal_fits : (register expected value : ℕ) → Fits (CompareAndSwap register expected value) Unequal
unequal_fits register expected value = (
  with_value register (suc expected),
  sym (told register expected value (with_value register (suc expected)) false (ne_eqb (slice_index (with_value register (suc expected)) register) expected (λ e. let n : suc expected ≡ expected = sym (value_there register (suc expected)) ∙ e in omega (arith, n)))),
)

-- the answer of a compare-and-swap tells of the memory
pub compare_and_swap_tells : (register expected value : ℕ) → IsBlind (CompareAndSwap register expected value) → ⊥
compare_and_swap_tells register expected value blind =
    let equal = equal_fits register expected value in
    let unequal = unequal_fits register expected value in
    let e : Done ≡ Unequal = equal.1 ∙ blind equal.0 unequal.0 ∙ sym unequal.1 in
    let bad : ⊥ = cc in bad

-- a swap's answer tells of the memory
pub swap_tells : (register value : ℕ) → IsBlind (Swap register value) → ⊥
swap_tells register value blind =
    let e : Value 0 ≡ Value 1 = ap Value (sym (value_there register 0)) ∙ blind (with_value register 0) (with_value register 1) ∙ ap Value (value_there register 1) in
    let bad : ⊥ = cc in bad

pub value_fits : (op : Op) (a : Answer) (r v : ℕ) → op ≡ Read r → a ≡ Value v → Fits op a
value_fits op a r v e1 e2 = let h = read_fits r v in (h.0, e2 ∙ h.1 ∙ ap (λ (o : Op). answer_of o h.0) (sym e1))

pub done_fits : (op : Op) (a : Answer) (r v : ℕ) → op ≡ Write r v → a ≡ Done → Fits op a
done_fits op a r v e1 e2 = let h = write_fits r v in (h.0, e2 ∙ h.1 ∙ ap (λ (o : Op). answer_of o h.0) (sym e1))

pub old_fits : (op : Op) (a : Answer) (r v old : ℕ) → op ≡ Swap r v → a ≡ Value old → Fits op a
old_fits op a r v old e1 e2 = let h = swap_fits r v old in (h.0, e2 ∙ h.1 ∙ ap (λ (o : Op). answer_of o h.0) (sym e1))

pub compared_fits : (op : Op) (a : Answer) (r e v : ℕ) → op ≡ CompareAndSwap r e v → a ≡ Done → Fits op a
compared_fits op a r e v e1 e2 = let h = equal_fits r e v in (h.0, e2 ∙ h.1 ∙ ap (λ (o : Op). answer_of o h.0) (sym e1))

pub differing_fits : (op : Op) (a : Answer) (r e v : ℕ) → op ≡ CompareAndSwap r e v → a ≡ Unequal → Fits op a
differing_fits op a r e v e1 e2 =
    let h = unequal_fits r e v in (h.0, e2 ∙ h.1 ∙ ap (λ (o : Op). answer_of o h.0) (sym e1))

length-either : (b : Bool) (r v : ℕ) (m : Memory) → length (cond b (slice_set m r v) m) ≡ length m
length-either true r v m = length-set m r v
length-either false r v m = refl

pub length-after : (op : Op) (m : Memory) → length (after op m) ≡ length m
length-after (Read r) m = refl
length-after (Write r v) m = length-set m r v
length-after (Swap r v) m = length-set m r v
length-after (CompareAndSwap r e v) m = length-either (slice_index m r == e) r v m

read_tells : (register : ℕ) → IsBlind (Read register) → ⊥
read_tells register blind =
    let e : Value 0 ≡ Value 1 = ap Value (sym (value_there register 0)) ∙ blind (with_value register 0) (with_value register 1) ∙ ap Value (value_there register 1) in
    let bad : ⊥ = cc in bad

-- the answer of an operation tells of the memory exactly where it isn't one answer on every memory
pub telling : (op : Op) → IsBlind op → tells op ≡ false
telling (Read r) blind = absurd (read_tells r blind)
telling (Write r v) blind = refl
telling (Swap r v) blind = absurd (swap_tells r v blind)
telling (CompareAndSwap r e v) blind = absurd (compare_and_swap_tells r e v blind)

pub silent : (op : Op) → tells op ≡ false → IsBlind op
silent (Read r) e = absurd (let bad : ⊥ = cc in bad)
silent (Write r v) e = λ m n. refl
silent (Swap r v) e = absurd (let bad : ⊥ = cc in bad)
silent (CompareAndSwap r x v) e = absurd (let bad : ⊥ = cc in bad)
