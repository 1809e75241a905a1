-- Which frames a step puts.
use Rattle.std.proofs.Common.{◌≡◌, ℕ, zero, suc, ◌+◌, List, [], ◌∷◌, take, drop, Some, ap, ◌∙◌, inl, inr, arith}
use Rattle.std.specs.Prelude.{slice_get, ◌==◌}
use Rattle.std.proofs.lemmas.Bool.{cond_both, eqb-true, eqb-false}
use Rattle.reg_frames.specs.declared.bodies.Body.{Body}
use Rattle.reg_base.specs.declared.limits.TheConstants.{MOST_RESENT}
use Rattle.reg_frames.specs.declared.bodies.Frame.{Frame}
use Rattle.reg_frames.specs.declared.bodies.Frame.TheVariants.{Numbered, Got}
use Rattle.reg_base.specs.Order.{In}
use Rattle.reg_process.specs.Process.{State, peer_at, next_of, data_frames, got_frames, numbered_from, resent}

pub data_no_got : (s : State) (body : Body) (r c : ℕ) → In (Got c) (data_frames s (Some body) r) → ⊥
data_no_got s body r c = cond_both (r == s.me) [] (Numbered (next_of (peer_at s r)) body ∷ []) (λ fs. In (Got c) fs → ⊥) (λ _ h. h) (λ _ h. elim h [ inl e ↦ cc | inr f ↦ f ])

pub data_numbered : (s : State) (body : Body) (r i : ℕ) (b : Body) → In (Numbered i b) (data_frames s (Some body) r)
    → (i ≡ next_of (peer_at s r)) × (b ≡ body)
data_numbered s body r i b = cond_both (r == s.me) [] (Numbered (next_of (peer_at s r)) body ∷ []) (λ fs. In (Numbered i b) fs → (i ≡ next_of (peer_at s r)) × (b ≡ body)) (λ _ h. absurd h) (λ _ h. elim h [ inl e ↦ (cc, cc) | inr f ↦ absurd f ])

pub data_there : (s : State) (body : Body) (r i : ℕ) (b : Body) → (r ≡ s.me → ⊥) → i ≡ next_of (peer_at s r) → b ≡ body
    → In (Numbered i b) (data_frames s (Some body) r)
data_there s body r i b ne at is =
    cond_both (r == s.me) [] (Numbered (next_of (peer_at s r)) body ∷ []) (λ fs. In (Numbered i b) fs)
    (λ e. absurd (ne (eqb-true r s.me e)))
    (λ _. inl (ap (λ j. Numbered j b) at ∙ ap (Numbered (next_of (peer_at s r))) is))

pub got_no_numbered : (to count r i : ℕ) (b : Body) → In (Numbered i b) (got_frames to count r) → ⊥
got_no_numbered to count r i b = cond_both (r == to) (Got count ∷ []) [] (λ fs. In (Numbered i b) fs → ⊥) (λ _ h. elim h [ inl e ↦ cc | inr f ↦ f ]) (λ _ h. h)

pub got_count : (to count r c : ℕ) → In (Got c) (got_frames to count r) → (c ≡ count) × (r ≡ to)
got_count to count r c = cond_both (r == to) (Got count ∷ []) [] (λ fs. In (Got c) fs → (c ≡ count) × (r ≡ to)) (λ e h. elim h [ inl q ↦ (cc, eqb-true r to e) | inr f ↦ absurd f ]) (λ _ h. absurd h)

pub numbered_in : (j : ℕ) (bs : List Body) (i : ℕ) (b : Body) → In (Numbered i b) (numbered_from j bs)
    → (m : ℕ) × (i ≡ j + m) × (slice_get bs m ≡ Some b)
numbered_in j [] i b h = absurd h
numbered_in j (x ∷ bs) i b (inl e) = (0, (let z : i ≡ j = cc in omega (arith, z)), cc)
numbered_in j (x ∷ bs) i b (inr h) =
    let r = numbered_in (j + 1) bs i b h in (suc r.0, (let z = r.1 in omega (arith, z)), r.2)

pub numbered_no_got : (j : ℕ) (bs : List Body) (c : ℕ) → In (Got c) (numbered_from j bs) → ⊥
numbered_no_got j [] c h = h
numbered_no_got j (x ∷ bs) c (inl e) = cc
numbered_no_got j (x ∷ bs) c (inr h) = numbered_no_got (j + 1) bs c h

pub resent_no_got : (s : State) (r c : ℕ) → In (Got c) (resent s r) → ⊥
resent_no_got s r c =
    cond_both (r == s.me) [] (numbered_from (peer_at s r).first (take MOST_RESENT (peer_at s r).pending)) (λ fs. In (Got c) fs → ⊥) (λ _ h. h) (λ _ h. numbered_no_got _ _ c h)

pub none_to_me : (s : State) (r : ℕ) (f : Frame) → r ≡ s.me → In f (resent s r) → ⊥
none_to_me s r f e =
    cond_both (r == s.me) [] (numbered_from (peer_at s r).first (take MOST_RESENT (peer_at s r).pending)) (λ fs. In f fs → ⊥) (λ _ h. h) (λ other _. eqb-false r s.me other e)

pub place_take : {X : Type 0} (m : ℕ) (xs : List X) (i : ℕ) (x : X) → slice_get (take m xs) i ≡ Some x
    → slice_get xs i ≡ Some x
place_take zero [] i x h = cc
place_take zero (y ∷ xs) i x h = cc
place_take (suc m) [] i x h = cc
place_take (suc m) (y ∷ xs) zero x h = h
place_take (suc m) (y ∷ xs) (suc i) x h = place_take m xs i x h

pub place_drop : {X : Type 0} (f : ℕ) (xs : List X) (i m : ℕ) (x : X) → i ≡ f + m → slice_get (drop f xs) m ≡ Some x
    → slice_get xs i ≡ Some x
place_drop zero [] i m x e h = cc
place_drop zero (y ∷ xs) i m x e h = ap (slice_get (y ∷ xs)) (let q : i ≡ m = omega arith in q) ∙ h
place_drop (suc f) [] i m x e h = cc
place_drop (suc f) (y ∷ xs) zero m x e h = absurd (omega arith)
place_drop (suc f) (y ∷ xs) (suc i) m x e h = place_drop f xs i m x (omega arith) h
