-- Delivery one cast after another, as code does it, against delivery at once.
use Rattle.std.proofs.Common.{◌≡◌, true, false, List, [], ◌∷◌, refl, sym, ap, ◌∙◌, subst, inl, inr}
use Rattle.std.specs.List.{filter}
use Rattle.std.proofs.lemmas.Bool.{cond-true, false≢true, false_from_ne_true}
use Rattle.reg_base.specs.declared.stamps.Delivered.{Delivered}
use Rattle.reg_base.specs.Order.{In, Rising}
use Rattle.reg_process.specs.Process.{State, is_clear, clear_casts}
use Rattle.reg_base.proofs.Lists.{DownIn, none_kept}
use Rattle.reg_process.proofs.Peers.{Decides-clear, clear_below}

-- to be clear is closed below
pub clear_downwards : (s : State) (xs : List Delivered) → DownIn (λ c. is_clear s c.stamp) xs
clear_downwards s xs a b i j h e =
    (Decides-clear s a.stamp).1 (clear_below s a.stamp b.stamp h ((Decides-clear s b.stamp).0 e))

-- where the first isn't clear, none is: the loop ends
pub none_clear : (s : State) (c : Delivered) (rest : List Delivered) → s.held ≡ c ∷ rest → Rising s.held
    → is_clear s c.stamp ≡ false → clear_casts s ≡ []
none_clear s c rest e r n =
    let r' : Rising (c ∷ rest) = subst Rising e r in
    let each : (b : Delivered) → In b (c ∷ rest) → is_clear s b.stamp ≡ false = λ b i. elim i [
      | inl q ↦ ap (λ (d : Delivered). is_clear s d.stamp) q ∙ n
      | inr j ↦ false_from_ne_true (is_clear s b.stamp) (λ t. false≢true (sym n ∙ clear_downwards s (c ∷ rest) c b (inl refl) (inr j) (r'.0 b j) t))
    ] in
    ap (filter (λ c. is_clear s c.stamp)) e ∙ none_kept (λ c. is_clear s c.stamp) (c ∷ rest) each

-- where it is, it is the first of those delivered: the loop goes on with the rest
pub first_clear : (s : State) (c : Delivered) (rest : List Delivered) → s.held ≡ c ∷ rest → is_clear s c.stamp ≡ true
    → clear_casts s ≡ c ∷ clear_casts (record s { held = rest })
first_clear s c rest e t = ap (filter (λ c. is_clear s c.stamp)) e ∙ cond-true (is_clear s c.stamp) _ _ t
