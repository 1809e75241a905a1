-- One more entry.
use Rattle.std.proofs.Common.{◌≡◌, ℕ, zero, suc, ◌<◌, ◌≤◌, ◌⊎◌, inl, inr, List, [], ◌∷◌, ◌++◌, take, length, refl, ap}
use Rattle.std.proofs.Common.{sym, subst, arith}
use Rattle.std.proofs.lemmas.Option.{same_Some, slice_get_within}
use Rattle.std.proofs.lemmas.List.{take-append-le, take_at}
use Rattle.reg_checkers.specs.declared.entries.Entry.{Entry}
use Rattle.reg_checkers.specs.History.{IsAt, IsInPlace, IsHistory}

-- an element of the list, or the new one
pub at_push : {X : Type 0} (xs : List X) (k : ℕ) (v x : X) → IsAt (xs ++ v ∷ []) k x
    → IsAt xs k x ⊎ ((k ≡ length xs) × (x ≡ v))
at_push [] zero v x h = inr (refl, sym (same_Some v x h))
at_push [] (suc k) v x h = absurd cc
at_push (y ∷ xs) zero v x h = inl h
at_push (y ∷ xs) (suc k) v x h = go (at_push xs k v x h)
  where
    go : IsAt xs k x ⊎ ((k ≡ length xs) × (x ≡ v)) → IsAt xs k x ⊎ ((suc k ≡ suc (length xs)) × (x ≡ v))
    go (inl a) = inl a
    go (inr (e, f)) = inr (ap suc e, f)

pub history_more : (n registers : ℕ) (es : List Entry) (e : Entry) → IsHistory n registers es
    → IsInPlace n registers es e → IsHistory n registers (es ++ e ∷ [])
history_more n registers es e good place k x at = go (at_push es k e x at)
  where
    go : IsAt es k x ⊎ ((k ≡ length es) × (x ≡ e)) → IsInPlace n registers (take k (es ++ e ∷ [])) x
    go (inl here) =
        let lt : k < length es = slice_get_within es k x here in
        let le : k ≤ length es = omega arith in
        subst (λ (ys : List Entry). IsInPlace n registers ys x) (sym (take-append-le k es (e ∷ []) le)) (good k x here)
    go (inr (last, same)) =
        let front : take k (es ++ e ∷ []) ≡ es = take_at es (e ∷ []) k (sym last) in
        subst (λ (ys : List Entry). IsInPlace n registers ys x) (sym front) (subst (λ (y : Entry). IsInPlace n registers es y) (sym same) place)
