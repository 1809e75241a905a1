-- What a front end never answers before its delivery.
use Rattle.std.proofs.Common.{◌≡◌, ℕ, Bool, true, false, [], sym, ◌∙◌, subst}
use Rattle.std.specs.Prelude.{◌==◌, cond}
use Rattle.reg_base.specs.declared.memory.Op.{Op}
use Rattle.reg_base.specs.declared.memory.Op.TheVariants.{Read, Write, Swap, CompareAndSwap}
use Rattle.reg_base.specs.Memory.{IsBlind}
use Rattle.reg_base.proofs.Operations.{compare_and_swap_tells}
use Rattle.reg_front.specs.declared.starts.Start.{Start}
use Rattle.reg_front.specs.declared.starts.Start.TheVariants.{CastAndAnswer as CastsAndAnswers, Look as Looks}
use Rattle.reg_front.specs.declared.starts.Start.TheVariants.{Hold as Holds}
use Rattle.reg_front.specs.Fronts.{MayStart, KeepsLaws}
use Rattle.reg_front.specs.Table.{linear, local_read}
use Rattle.reg_world.specs.RealTime.{WaitsForDelivery, AnswersNothingFirst}

pub tells_waits : (start : Op → ℕ → Start) → KeepsLaws start → (op : Op) → (IsBlind op → ⊥) → WaitsForDelivery start op
tells_waits start laws op tells u first =
    let done = subst (MayStart op u) first (laws op u) in
    tells (λ m n. done m ∙ sym (done n))

pub read_waits : (start : Op → ℕ → Start) → KeepsLaws start → (register : ℕ) → WaitsForDelivery start (Read register)
read_waits start laws register u first =
    let done = subst (MayStart (Read register) u) first (laws (Read register) u) in
    let bad = done [] in absurd (let z : ⊥ = cc in z)

pub swap_waits : (start : Op → ℕ → Start) → KeepsLaws start → (register value : ℕ)
    → WaitsForDelivery start (Swap register value)
swap_waits start laws register value u first =
    let done = subst (MayStart (Swap register value) u) first (laws (Swap register value) u) in
    let bad = done [] in absurd (let z : ⊥ = cc in z)

pub compare_and_swap_waits : (start : Op → ℕ → Start) → KeepsLaws start → (register expected value : ℕ)
    → WaitsForDelivery start (CompareAndSwap register expected value)
compare_and_swap_waits start laws register expected value =
    tells_waits start laws (CompareAndSwap register expected value) (compare_and_swap_tells register expected value)

pub linear_waits : AnswersNothingFirst linear
linear_waits op u first = absurd (let z : ⊥ = cc in z)

looks : (b : Bool) → cond b Looks Holds ≡ CastsAndAnswers → ⊥
looks true e = cc
looks false e = cc

pub local_read_waits : AnswersNothingFirst local_read
local_read_waits (Read r) u first = looks (u == 0) first
local_read_waits (Write r v) u first = absurd (let z : ⊥ = cc in z)
local_read_waits (Swap r v) u first = absurd (let z : ⊥ = cc in z)
local_read_waits (CompareAndSwap r e v) u first = absurd (let z : ⊥ = cc in z)
