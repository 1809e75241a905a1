-- One more entry of a history.
use Rattle.std.proofs.Common.{◌≡◌, ℕ, zero, suc, ◌<◌, ◌⊎◌, inl, inr, List, [], ◌∷◌, ◌++◌, take, length, slice_get, refl}
use Rattle.std.proofs.Common.{ap, sym, ◌∙◌, arith}
use Rattle.std.proofs.lemmas.Option.{same_Some}
use Rattle.std.proofs.lemmas.Bool.{cases_order}
use Rattle.reg_checkers.specs.declared.entries.Entry.{Entry}
use Rattle.reg_checkers.specs.History.{IsAt}
use Rattle.reg_checkers.proofs.Places.{at_take, in_take, get_push_same}
use Rattle.reg_checkers.proofs.Pushing.{at_push}

-- ys holds what xs holds, and e
pub record IsOneMore (xs : List Entry) (e : Entry) (ys : List Entry) : Type 0 where
  pub old : (x : Entry) → ((k : ℕ) × IsAt xs k x) → (k : ℕ) × IsAt ys k x
  pub new : (k : ℕ) × IsAt ys k e
  pub cases : (x : Entry) → ((k : ℕ) × IsAt ys k x) → ((k : ℕ) × IsAt xs k x) ⊎ (x ≡ e)

pub one_more : (xs : List Entry) (i : ℕ) (e : Entry) → IsAt xs i e → IsOneMore (take i xs) e (take (suc i) xs)
one_more xs i e here = record {
  old = λ x (k, at). (let r = in_take xs i k x at in (k, at_take xs (suc i) k (omega (arith, r.0)) ∙ r.1));
  new = (i, at_take xs (suc i) i (omega arith) ∙ here);
  cases = λ x (k, at). (let r = in_take xs (suc i) k x at in split x k r.0 r.1);
}
  where
    split : (x : Entry) (k : ℕ) → k < suc i → IsAt xs k x → ((k : ℕ) × IsAt (take i xs) k x) ⊎ (x ≡ e)
    split x k lt at = go (cases_order k i)
      where
        go : (k ≡ i) ⊎ ((k < i) ⊎ (i < k)) → ((k : ℕ) × IsAt (take i xs) k x) ⊎ (x ≡ e)
        go (inl same) = inr (same_Some x e (sym at ∙ (ap (λ (j : ℕ). slice_get xs j) same ∙ here)))
        go (inr (inl less)) = inl (k, at_take xs i k less ∙ at)
        go (inr (inr more)) = absurd (omega arith)

at_left : {X : Type 0} (xs : List X) (k : ℕ) (v x : X) → IsAt xs k x → IsAt (xs ++ v ∷ []) k x
at_left [] k v x h = absurd cc
at_left (y ∷ xs) zero v x h = h
at_left (y ∷ xs) (suc k) v x h = at_left xs k v x h

pub pushed : (es : List Entry) (e : Entry) → IsOneMore es e (es ++ e ∷ [])
pushed es e = record {
  old = λ x (k, at). (k, at_left es k e x at);
  new = (length es, get_push_same es (length es) e refl);
  cases = λ x (k, at). go x (at_push es k e x at);
}
  where
    go : (x : Entry) {k : ℕ} → IsAt es k x ⊎ ((k ≡ length es) × (x ≡ e)) → ((k : ℕ) × IsAt es k x) ⊎ (x ≡ e)
    go x {k} (inl at) = inl (k, at)
    go x (inr (k, e)) = inr e
