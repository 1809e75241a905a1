-- A body on all outboxes.
use Rattle.std.proofs.Common.{◌≡◌, ℕ, zero, suc, ◌+◌, ◌<◌, ◌≤◌, Bool, true, false, List, [], ◌∷◌, ◌++◌, length, map}
use Rattle.std.proofs.Common.{inl, inr, refl, ap, ◌∙◌, arith, length-append}
use Rattle.std.proofs.lemmas.List.{length-map}
use Rattle.std.proofs.lemmas.Bool.{cases_lt}
use Rattle.std.specs.Prelude.{cond, ◌==◌, slice_index_or}
use Rattle.reg_frames.specs.declared.bodies.Body.{Body}
use Rattle.reg_links.specs.Link.{Unacknowledged, next_of, with_queued}
use Rattle.reg_frames.specs.declared.bodies.Frame.{Frame}
use Rattle.reg_process.specs.Parts.{nothing}
use Rattle.reg_process.specs.Puts.{puts, put_to}
use Rattle.reg_process.specs.Queued.{queued_at, queue_outs, IsGrown}

grown_at : (me : ℕ) (body : Body) (r : ℕ) (o : Unacknowledged) → next_of (queued_at me body r o) ≤ next_of o + 1
grown_at me body r o = go (r == me)
  where
    go : (b : Bool) → next_of (cond b o (with_queued o body)) ≤ next_of o + 1
    go true = omega arith
    go false = let z = length-append o.pending (body ∷ []) in omega (arith, z)

pub queued_grown : (r me : ℕ) (body : Body) (outs : List Unacknowledged) → IsGrown outs (queue_outs r me body outs)
queued_grown r me body [] i = omega arith
queued_grown r me body (o ∷ os) zero = grown_at me body r o
queued_grown r me body (o ∷ os) (suc i) = queued_grown (suc r) me body os i

pub all_queued : (r me : ℕ) (body : Body) (outs init : List Unacknowledged) → length outs ≡ length init
    → ((i : ℕ) → i < length init
    → slice_index_or outs i nothing ≡ queued_at me body (r + i) (slice_index_or init i nothing))
    → outs ≡ queue_outs r me body init
all_queued r me body [] [] e h = refl
all_queued r me body [] (x ∷ xs) e h = absurd (omega arith)
all_queued r me body (o ∷ os) [] e h = absurd (omega arith)
all_queued r me body (o ∷ os) (x ∷ xs) e h =
    let z : r + 0 ≡ r = omega arith in
    let head : o ≡ queued_at me body r x = h 0 (omega arith) ∙ ap (λ k. queued_at me body k x) z in
    let tail : os ≡ queue_outs (suc r) me body xs = all_queued (suc r) me body os xs (omega arith) (λ i l.
    let k : r + suc i ≡ suc r + i = omega arith in h (suc i) (omega arith) ∙ ap (λ n. queued_at me body n (slice_index_or xs i nothing)) k) in
    ap (λ q. q ∷ os) head ∙ ap (λ qs. queued_at me body r x ∷ qs) tail

-- the frames of the processes below n
pub puts_below : (f g : ℕ → List Frame) (n : ℕ) → ((r : ℕ) → r < n → f r ≡ g r) → puts f n ≡ puts g n
puts_below f g zero h = refl
puts_below f g (suc n) h =
    ap (λ l. l ++ map (put_to n) (f n)) (puts_below f g n (λ r l. h r (omega arith)))
    ∙ ap (λ x. puts g n ++ map (put_to n) x) (h n (omega arith))

-- the frames for one process more are put after all of those before
pub puts_grow : (frames : ℕ → List Frame) (r n : ℕ) → r < n
    → length (puts frames r) + length (frames r) ≤ length (puts frames n)
puts_grow frames r zero l = absurd (omega arith)
puts_grow frames r (suc n) l =
    let all = length-append (puts frames n) (map (put_to n) (frames n)) in
    let each = length-map (frames n) (put_to n) in
    elim (cases_lt r n) [
      | inl less ↦ let before = puts_grow frames r n less in omega (arith, all, each, before)
      | inr not_less ↦
          let same : r ≡ n = omega (arith, l, not_less) in
          let a = ap (λ k. length (puts frames k)) same in
          let b = ap (λ k. length (frames k)) same in
          omega (arith, all, each, a, b)
    ]
