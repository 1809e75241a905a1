-- What updates and tells is cast.
use Rattle.std.proofs.Common.{◌≡◌, ℕ, refl, sym, ◌∙◌}
use Rattle.std.proofs.lemmas.Bool.{false≢true}
use Rattle.reg_base.specs.declared.memory.Op.{Op}
use Rattle.reg_base.specs.declared.memory.Op.TheVariants.{Swap, CompareAndSwap}
use Rattle.reg_base.proofs.Operations.{swap_tells, compare_and_swap_tells}
use Rattle.reg_front.specs.declared.starts.Start.{Start}
use Rattle.reg_front.specs.declared.starts.Start.TheVariants.{Cast as Casts, CastAndAnswer as CastsAndAnswers}
use Rattle.reg_front.specs.declared.starts.Start.TheVariants.{Look as Looks, Hold as Holds}
use Rattle.reg_front.specs.Fronts.{MayStart, KeepsLaws, CastsWhatTells}

pub telling_cast : (start : Op → ℕ → Start) → KeepsLaws start → CastsWhatTells start
telling_cast start keeps op u update tells = go (start op u) refl (keeps op u)
  where
    go : (s : Start) → start op u ≡ s → MayStart op u s → start op u ≡ Casts
    go Casts e may = e
    go CastsAndAnswers e may = absurd (tells (λ m n. may m ∙ sym (may n)))
    go Looks e may = absurd (false≢true (sym may.0 ∙ update))
    go Holds e may = absurd (false≢true (sym may.0 ∙ update))

pub swap_cast : (start : Op → ℕ → Start) → KeepsLaws start → (register value u : ℕ)
    → start (Swap register value) u ≡ Casts
swap_cast start keeps register value u =
    telling_cast start keeps (Swap register value) u refl (swap_tells register value)

pub compare_and_swap_cast : (start : Op → ℕ → Start) → KeepsLaws start → (register expected value u : ℕ)
    → start (CompareAndSwap register expected value) u ≡ Casts
compare_and_swap_cast start keeps register expected value u = telling_cast start keeps (CompareAndSwap register expected value) u refl (compare_and_swap_tells register expected value)
