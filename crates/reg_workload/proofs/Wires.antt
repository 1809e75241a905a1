-- What frames bring to their two ends, and that a step of one process keeps both in step.
use Rattle.std.proofs.Common.{◌≡◌, ℕ, zero, suc, ◌+◌, ◌<◌, ◌≤◌, ◌≢◌, max, List, [], ◌∷◌, ◌++◌, length, drop, Some, refl}
use Rattle.std.proofs.Common.{sym, ap, ◌∙◌, subst, inl, inr, arith, length-append}
use Rattle.std.specs.Prelude.{cond, ◌==◌, slice_get}
use Rattle.std.proofs.lemmas.Bool.{cond-true, cond-false, eq-eqb, ne_eqb, cond_both, cases_eq}
use Rattle.std.proofs.lemmas.List.{drop-append-le, drop_all}
use Rattle.reg_frames.specs.declared.bodies.Body.{Body}
use Rattle.reg_frames.specs.declared.bodies.Frame.{Frame}
use Rattle.reg_frames.specs.declared.bodies.Frame.TheVariants.{Numbered, Got}
use Rattle.reg_process.specs.Process.{peer_at, got_frames}
use Rattle.reg_world.specs.NodeParts.{NothingPending}
use Rattle.reg_world.specs.Nodes.{Node, Nodes, put}
use Rattle.reg_world.proofs.one_order.Acts.{put_cases}
use Rattle.reg_world.proofs.one_order.Worlds.{Inv}
use Rattle.reg_workload.specs.FairParts.{expected_after, counted_after, InStep}

pub expected_both : (e : ℕ) (fs gs : List Frame) → expected_after e (fs ++ gs) ≡ expected_after (expected_after e fs) gs
expected_both e [] gs = refl
expected_both e (Numbered i body ∷ fs) gs = expected_both (cond (i == e) (e + 1) e) fs gs
expected_both e (Got count ∷ fs) gs = expected_both e fs gs

pub counted_both : (c : ℕ) (fs gs : List Frame) → counted_after c (fs ++ gs) ≡ counted_after (counted_after c fs) gs
counted_both c [] gs = refl
counted_both c (Numbered i body ∷ fs) gs = counted_both c fs gs
counted_both c (Got count ∷ fs) gs = counted_both (max c count) fs gs

-- the body that is expected
pub next_expected : (e i : ℕ) (body : Body) → i ≡ e → expected_after e (Numbered i body ∷ []) ≡ e + 1
next_expected e i body q = cond-true (i == e) (e + 1) e (eq-eqb i e q)

pub other_expected : (e i : ℕ) (body : Body) → (i ≡ e → ⊥) → expected_after e (Numbered i body ∷ []) ≡ e
other_expected e i body ne = cond-false (i == e) (e + 1) e (ne_eqb i e ne)

pub got_expected : (e a count b : ℕ) → expected_after e (got_frames a count b) ≡ e
got_expected e a count b =
    cond_both (b == a) (Got count ∷ []) [] (λ fs. expected_after e fs ≡ e) (λ _. refl) (λ _. refl)

pub got_counted : (c a count b : ℕ) → b ≡ a → counted_after c (got_frames a count b) ≡ max c count
got_counted c a count b e = ap (counted_after c) (cond-true (b == a) (Got count ∷ []) [] (eq-eqb b a e))

pub none_counted : (c a count b : ℕ) → (b ≡ a → ⊥) → counted_after c (got_frames a count b) ≡ c
none_counted c a count b ne = ap (counted_after c) (cond-false (b == a) (Got count ∷ []) [] (ne_eqb b a ne))

-- the frame at the front of those left
pub first_left : (k : ℕ) (xs : List Frame) (f : Frame) → slice_get xs k ≡ Some f → drop k xs ≡ f ∷ drop (k + 1) xs
first_left k [] f h = cc
first_left zero (x ∷ xs) f h = let e : x ≡ f = cc in ap (λ z. z ∷ xs) e
first_left (suc k) (x ∷ xs) f h =
    let q : suc (k + 1) ≡ suc k + 1 = omega arith in first_left k xs f h ∙ ap (λ j. f ∷ drop j (x ∷ xs)) q

-- What a step of p does to its ends of the wires: the frames put and the frames taken.
pub record Moves (n p : ℕ) (x y : Node) (put_frames got : ℕ → List Frame) : Type 0 where
  pub wire : (b : ℕ) → b < n → p ≢ b → y.wire b ≡ x.wire b ++ put_frames b
  pub bodies : (b : ℕ) → b < n → p ≢ b → expected_after (length x.queued) (put_frames b) ≡ length y.queued
  pub counts : (b : ℕ) → b < n → p ≢ b
      → counted_after (peer_at x.state b).expected (put_frames b) ≡ (peer_at y.state b).expected
  pub accepts : (b : ℕ) → b < n → p ≢ b
      → expected_after (peer_at x.state b).expected (got b) ≡ (peer_at y.state b).expected
  pub knows : (b : ℕ) → b < n → p ≢ b → counted_after (peer_at x.state b).first (got b) ≡ (peer_at y.state b).first

-- the frames that p took are behind now
pub record Takes (n p : ℕ) (w : Nodes) (got : ℕ → List Frame) (behind behind1 : ℕ → ℕ → ℕ) : Type 0 where
  pub within : (b : ℕ) → b < n → p ≢ b → behind1 b p ≤ length ((w b).wire p)
  pub taken : (b : ℕ) → b < n → p ≢ b → drop (behind b p) ((w b).wire p) ≡ got b ++ drop (behind1 b p) ((w b).wire p)
  pub same : (a b : ℕ) → p ≢ b → behind1 a b ≡ behind a b

pub moves_on : (n p : ℕ) (w : Nodes) (y : Node) (put_frames got : ℕ → List Frame) (behind behind1 : ℕ → ℕ → ℕ) → p < n
    → InStep n w behind → Moves n p (w p) y put_frames got → Takes n p w got behind behind1
    → InStep n (put w p y) behind1
moves_on n p w y put_frames got behind behind1 lp S M T = record {
  within = λ a b la lb ne. put_cases (λ (z : Node). behind1 a b ≤ length (z.wire b)) w p y a
      (λ e.
      let pb : p ≢ b = λ q. ne (e ∙ q) in
      let u = S.within a b la lb ne in
      let v = ap (λ z. length ((w z).wire b)) e in
      let s = T.same a b pb in
      let g = ap length (M.wire b lb pb) in
      let h = length-append ((w p).wire b) (put_frames b) in
      omega (arith, u, v, s, g, h))
      (λ e. within_other a b la lb ne e);
  bodies = λ a b la lb ne. put_cases (λ (z : Node). expected_after (peer_at z.state a).expected (drop (behind1 a b) ((put w p y a).wire b)) ≡ length (put w p y a).queued) w p y b
      (λ e. put_cases (λ (z : Node). expected_after (peer_at y.state a).expected (drop (behind1 a b) (z.wire b)) ≡ length z.queued) w p y a
      (λ f. absurd (ne (f ∙ sym e)))
      (λ f. subst (λ z. expected_after (peer_at y.state a).expected (drop (behind1 a z) ((w a).wire z)) ≡ length (w a).queued) (sym e) (body_in a la (λ q. f (sym q)))))
      (λ e. put_cases (λ (z : Node). expected_after (peer_at (w b).state a).expected (drop (behind1 a b) (z.wire b)) ≡ length z.queued) w p y a
      (λ f. subst (λ z. expected_after (peer_at (w b).state z).expected (drop (behind1 z b) (y.wire b)) ≡ length y.queued) (sym f) (body_out b lb (λ q. e (sym q))))
      (λ f. ap (λ k. expected_after (peer_at (w b).state a).expected (drop k ((w a).wire b))) (T.same a b (λ q. e (sym q))) ∙ S.bodies a b la lb ne));
  counts = λ a b la lb ne. put_cases (λ (z : Node). counted_after (peer_at (put w p y a).state b).first (drop (behind1 b a) (z.wire a)) ≡ (peer_at z.state a).expected) w p y b
      (λ e. put_cases (λ (z : Node). counted_after (peer_at z.state b).first (drop (behind1 b a) (y.wire a)) ≡ (peer_at y.state a).expected) w p y a
      (λ f. absurd (ne (f ∙ sym e)))
      (λ f. subst (λ z. counted_after (peer_at (w a).state z).first (drop (behind1 z a) (y.wire a)) ≡ (peer_at y.state a).expected) (sym e) (count_out a la (λ q. f (sym q)))))
      (λ e. put_cases (λ (z : Node). counted_after (peer_at z.state b).first (drop (behind1 b a) ((w b).wire a)) ≡ (peer_at (w b).state a).expected) w p y a
      (λ f. subst (λ z. counted_after (peer_at y.state b).first (drop (behind1 b z) ((w b).wire z)) ≡ (peer_at (w b).state z).expected) (sym f) (count_in b lb (λ q. e (sym q))))
      (λ f. ap (λ k. counted_after (peer_at (w a).state b).first (drop k ((w b).wire a))) (T.same b a (λ q. f (sym q))) ∙ S.counts a b la lb ne));
}
  where
    left_out : (b : ℕ) → b < n → p ≢ b → drop (behind1 p b) (y.wire b) ≡ drop (behind p b) ((w p).wire b) ++ put_frames b
    left_out b lb ne =
        ap (λ k. drop k (y.wire b)) (T.same p b ne) ∙ (ap (drop (behind p b)) (M.wire b lb ne) ∙ drop-append-le (behind p b) ((w p).wire b) (put_frames b) (S.within p b lp lb ne))

    body_out : (b : ℕ) → b < n → p ≢ b → expected_after (peer_at (w b).state p).expected (drop (behind1 p b) (y.wire b)) ≡ length y.queued
    body_out b lb ne =
        ap (expected_after (peer_at (w b).state p).expected) (left_out b lb ne)
        ∙ (expected_both (peer_at (w b).state p).expected (drop (behind p b) ((w p).wire b)) (put_frames b)
        ∙ (ap (λ e. expected_after e (put_frames b)) (S.bodies p b lp lb ne) ∙ M.bodies b lb ne))

    count_out : (b : ℕ) → b < n → p ≢ b → counted_after (peer_at (w b).state p).first (drop (behind1 p b) (y.wire b)) ≡ (peer_at y.state b).expected
    count_out b lb ne =
        ap (counted_after (peer_at (w b).state p).first) (left_out b lb ne)
        ∙ (counted_both (peer_at (w b).state p).first (drop (behind p b) ((w p).wire b)) (put_frames b)
        ∙ (ap (λ c. counted_after c (put_frames b)) (S.counts b p lb lp (λ q. ne (sym q))) ∙ M.counts b lb ne))

    body_in : (a : ℕ) → a < n → p ≢ a → expected_after (peer_at y.state a).expected (drop (behind1 a p) ((w a).wire p)) ≡ length (w a).queued
    body_in a la ne =
        let rest = drop (behind1 a p) ((w a).wire p) in
        ap (λ e. expected_after e rest) (sym (M.accepts a la ne))
        ∙ (sym (expected_both (peer_at (w p).state a).expected (got a) rest)
        ∙ (ap (expected_after (peer_at (w p).state a).expected) (sym (T.taken a la ne)) ∙ S.bodies a p la lp (λ q. ne (sym q))))

    count_in : (b : ℕ) → b < n → p ≢ b → counted_after (peer_at y.state b).first (drop (behind1 b p) ((w b).wire p)) ≡ (peer_at (w b).state p).expected
    count_in b lb ne =
        let rest = drop (behind1 b p) ((w b).wire p) in
        ap (λ c. counted_after c rest) (sym (M.knows b lb ne))
        ∙ (sym (counted_both (peer_at (w p).state b).first (got b) rest)
        ∙ (ap (counted_after (peer_at (w p).state b).first) (sym (T.taken b lb ne)) ∙ S.counts p b lp lb ne))

    within_other : (a b : ℕ) → a < n → b < n → a ≢ b → (a ≡ p → ⊥) → behind1 a b ≤ length ((w a).wire b)
    within_other a b la lb ne away = elim (cases_eq b p) [
      | inl e ↦ subst (λ z. behind1 a z ≤ length ((w a).wire z)) (sym e) (T.within a la (λ q. away (sym q)))
      | inr f ↦ let u = S.within a b la lb ne in let s = T.same a b (λ q. f (sym q)) in omega (arith, u, s)
    ]

-- Where all frames are behind, nothing is pending.
pub all_behind : (n registers k : ℕ) (w : Nodes) (behind : ℕ → ℕ → ℕ) → Inv n registers k w → InStep n w behind
    → ((p q : ℕ) → p < n → q < n → p ≢ q → length ((w p).wire q) ≤ behind p q) → NothingPending n w
all_behind n registers k w behind I S all p q lp lq ne =
    let K = I.link p q lp lq ne in
    let a : (peer_at (w q).state p).expected ≡ length (w p).queued =
    ap (expected_after (peer_at (w q).state p).expected) (sym (drop_all (behind p q) ((w p).wire q) (all p q lp lq ne))) ∙ S.bodies p q lp lq ne in
    let b : (peer_at (w p).state q).first ≡ (peer_at (w q).state p).expected =
    ap (counted_after (peer_at (w p).state q).first) (sym (drop_all (behind q p) ((w q).wire p) (all q p lq lp (λ e. ne (sym e))))) ∙ S.counts p q lp lq ne in
    K.pending ∙ drop_all (peer_at (w p).state q).first (w p).queued (omega (arith, a, b))
