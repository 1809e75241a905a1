-- How many takes are left to be made in a fair play: each event spends one, and a call brings a bounded number.
use Rattle.std.proofs.Common.{◌≡◌, ℕ, zero, suc, ◌+◌, ◌-◌, ◌*◌, ◌<◌, ◌≤◌, ◌≢◌, List, [], ◌∷◌, ◌++◌, length, drop, Some}
use Rattle.std.proofs.Common.{refl, sym, ap, ◌∙◌, subst, inl, inr, arith, length-append, max}
use Rattle.std.specs.Prelude.{cond, ◌==◌}
use Rattle.std.specs.List.{sum_by}
use Rattle.std.proofs.lemmas.Bool.{cases_eq, cond-true, cond-false, cond_both, eq-eqb, ne_eqb}
use Rattle.std.proofs.lemmas.List.{append-nil, drop-append-le, length-take}
use Rattle.std.proofs.lemmas.List.Sums.{sum_by-append, sum_by-cons}
use Rattle.std.proofs.lemmas.Grind.{flat_map-append}
use Rattle.std.proofs.Math.Nat.{mul-suc, suc-mul, mul-le-mul_right}
use Rattle.reg_base.specs.declared.memory.Op.{Op}
use Rattle.reg_frames.specs.declared.bodies.Body.{Body}
use Rattle.reg_frames.specs.declared.bodies.Body.TheVariants.{Cast, Ack}
use Rattle.reg_frames.specs.declared.bodies.Frame.{Frame}
use Rattle.reg_frames.specs.declared.bodies.Frame.TheVariants.{Numbered, Got}
use Rattle.reg_front.specs.declared.starts.Start.{Start}
use Rattle.reg_front.specs.declared.starts.Start.TheVariants.{Cast as Casts, CastAndAnswer as CastsAndAnswers}
use Rattle.reg_front.specs.declared.starts.Start.TheVariants.{Look as Looks, Hold as Holds}
use Rattle.reg_process.specs.Process.{State, peer_at, data_frames, got_frames, called, taken, accepted, quiet}
use Rattle.reg_process.specs.declared.events.Event.{Event}
use Rattle.reg_process.specs.declared.events.Event.TheVariants.{Call, Take}
use Rattle.reg_world.specs.Nodes.{Node, Nodes, put}
use Rattle.reg_world.proofs.one_order.Worlds.{Inv}
use Rattle.reg_workload.specs.Plays.{call_at, calls_of, script_of, FollowsScript}
use Rattle.reg_workload.specs.Fair.{most_for_call, most_fair_events}
use Rattle.reg_workload.specs.FairParts.{takes_for, takes_for_all, left_on, left_in, InStep}
use Rattle.reg_base.specs.Sums.{total}
use Rattle.reg_base.proofs.Totals.{total_same, total_both, total_least, total_one, total_zero, total_at, total_others}
use Rattle.reg_base.proofs.Totals.{total_along}
use Rattle.reg_workload.proofs.Wires.{Takes}
use Rattle.reg_workload.proofs.Moving.{data_is, one_got}

-- the takes that these frames ask for, where they go from p to another process
abbrev for_others : ℕ → ℕ → (ℕ → List Frame) → ℕ → ℕ
for_others n p frames q = cond (p == q) 0 (takes_for_all n (frames q))

abbrev pub for_all : ℕ → ℕ → (ℕ → List Frame) → ℕ
for_all n p frames = total n (for_others n p frames)

-- What a step of p puts is left more, and what it took is left no more.
pub left_after : (n p : ℕ) (w : Nodes) (y : Node) (put_frames got : ℕ → List Frame) (behind behind1 : ℕ → ℕ → ℕ) → p < n
    → InStep n w behind → ((b : ℕ) → b < n → p ≢ b → y.wire b ≡ (w p).wire b ++ put_frames b)
    → Takes n p w got behind behind1
    → left_in n (put w p y) behind1 + for_all n p got ≡ left_in n w behind + for_all n p put_frames
left_after n p w y put_frames got behind behind1 lp S wires T =
    let a = total_both n row1 (for_others n p got) (λ q. row1 q + for_others n p got q) (λ q _. refl) in
    let b = total_both n row more (λ q. row q + more q) (λ q _. refl) in
    let c = total_same n (λ q. row1 q + for_others n p got q) (λ q. row q + more q) each in
    let d = total_at n p more lp (λ q _ away. cond-false (q == p) (for_all n p put_frames) 0 (ne_eqb q p away)) in
    let e = cond-true (p == p) (for_all n p put_frames) 0 (eq-eqb p p refl) in
    omega (arith, a, b, c, d, e)
  where
    row : ℕ → ℕ
    row a = total n (left_on n w behind a)

    row1 : ℕ → ℕ
    row1 a = total n (left_on n (put w p y) behind1 a)

    more : ℕ → ℕ
    more a = cond (a == p) (for_all n p put_frames) 0

    after_put : (a : ℕ) → (a ≡ p → ⊥) → put w p y a ≡ w a
    after_put a away = cond-false (a == p) y (w a) (ne_eqb a p away)

    out : (b : ℕ) → b < n → left_on n (put w p y) behind1 p b ≡ left_on n w behind p b + for_others n p put_frames b
    out b lb = elim (cases_eq p b) [
      | inl e ↦
          let t = eq-eqb p b e in
          let x = cond-true (p == b) 0 (takes_for_all n (drop (behind1 p b) ((put w p y p).wire b))) t in
          let z = cond-true (p == b) 0 (takes_for_all n (drop (behind p b) ((w p).wire b))) t in
          let u = cond-true (p == b) 0 (takes_for_all n (put_frames b)) t in
          omega (arith, x, z, u)
      | inr ne ↦
          let t = ne_eqb p b ne in
          let here : put w p y p ≡ y = cond-true (p == p) y (w p) (eq-eqb p p refl) in
          let frames : drop (behind1 p b) ((put w p y p).wire b) ≡ drop (behind p b) ((w p).wire b) ++ put_frames b =
          ap (λ (z : Node). drop (behind1 p b) (z.wire b)) here
          ∙ (ap (λ k. drop k (y.wire b)) (T.same p b ne) ∙ (ap (drop (behind p b)) (wires b lb ne) ∙ drop-append-le (behind p b) ((w p).wire b) (put_frames b) (S.within p b lp lb ne))) in
          let x = cond-false (p == b) 0 (takes_for_all n (drop (behind1 p b) ((put w p y p).wire b))) t in
          let z = cond-false (p == b) 0 (takes_for_all n (drop (behind p b) ((w p).wire b))) t in
          let u = cond-false (p == b) 0 (takes_for_all n (put_frames b)) t in
          let v = ap (takes_for_all n) frames ∙ sum_by-append (takes_for n) (drop (behind p b) ((w p).wire b)) (put_frames b) in
          omega (arith, x, z, u, v)
    ]

    other : (a b : ℕ) → (a ≡ p → ⊥) → (b ≡ p → ⊥) → left_on n w behind a b ≡ left_on n (put w p y) behind1 a b
    other a b away ne =
        ap (λ (z : Node). cond (a == b) 0 (takes_for_all n (drop (behind a b) (z.wire b)))) (sym (after_put a away))
        ∙ ap (λ k. cond (a == b) 0 (takes_for_all n (drop k ((put w p y a).wire b)))) (sym (T.same a b (λ e. ne (sym e))))

    into : (a : ℕ) → a < n → (a ≡ p → ⊥) → left_on n w behind a p ≡ left_on n (put w p y) behind1 a p + for_others n p got a
    into a la away =
        let t = ne_eqb a p away in
        let s = ne_eqb p a (λ e. away (sym e)) in
        let x = cond-false (a == p) 0 (takes_for_all n (drop (behind a p) ((w a).wire p))) t in
        let z = cond-false (a == p) 0 (takes_for_all n (drop (behind1 a p) ((put w p y a).wire p))) t in
        let u = cond-false (p == a) 0 (takes_for_all n (got a)) s in
        let v = ap (takes_for_all n) (T.taken a la (λ e. away (sym e))) ∙ sum_by-append (takes_for n) (got a) (drop (behind1 a p) ((w a).wire p)) in
        let k = ap (λ (z : Node). takes_for_all n (drop (behind1 a p) (z.wire p))) (after_put a away) in
        omega (arith, x, z, u, v, k)

    each : (a : ℕ) → a < n → row1 a + for_others n p got a ≡ row a + more a
    each a la = elim (cases_eq a p) [
      | inl e ↦ subst (λ z. row1 z + for_others n p got z ≡ row z + more z) (sym e)
          (let s = total_both n (left_on n w behind p) (for_others n p put_frames) (left_on n (put w p y) behind1 p) out in
          let g = cond-true (p == p) 0 (takes_for_all n (got p)) (eq-eqb p p refl) in
          let m = cond-true (p == p) (for_all n p put_frames) 0 (eq-eqb p p refl) in
          omega (arith, s, g, m))
      | inr away ↦
          let s = total_one n p (left_on n w behind a) (left_on n (put w p y) behind1 a) lp (λ b _ ne. other a b away ne) in
          let i = into a la away in
          let m = cond-false (a == p) (for_all n p put_frames) 0 (ne_eqb a p away) in
          omega (arith, s, i, m)
    ]

for_frame : (n : ℕ) (f : Frame) → takes_for_all n (f ∷ []) ≡ takes_for n f
for_frame n f = let a = sum_by-cons (takes_for n) f [] in let z : takes_for_all n [] ≡ 0 = refl in omega (arith, a, z)

-- none at all, and one frame of one process
pub for_none : (n p : ℕ) → for_all n p (λ _. []) ≡ 0
for_none n p = total_same n (for_others n p (λ _. [])) (λ _. 0) (λ q _. cond_both (p == q) 0 0 (λ z. z ≡ 0) (λ _. refl) (λ _. refl)) ∙ total_zero n

pub for_one : (n p a : ℕ) (f : Frame) → a < n → a ≢ p → for_all n p (one_got a f) ≡ takes_for n f
for_one n p a f la ne =
    let s = total_at n a (for_others n p (one_got a f)) la (λ q _ away.
    cond_both (p == q) 0 (takes_for_all n (one_got a f q)) (λ z. z ≡ 0) (λ _. refl)
    (λ _. ap (takes_for_all n) (cond-false (q == a) (f ∷ []) [] (ne_eqb q a away)))) in
    let x = cond-false (p == a) 0 (takes_for_all n (one_got a f a)) (ne_eqb p a (λ e. ne (sym e))) in
    let y = ap (takes_for_all n) (cond-true (a == a) (f ∷ []) [] (eq-eqb a a refl)) in
    let z = for_frame n f in
    omega (arith, s, x, y, z)

-- one frame for each other process
for_each_other : (n p c : ℕ) (frames : ℕ → List Frame) → p < n
    → ((q : ℕ) → q < n → p ≢ q → takes_for_all n (frames q) ≡ c) → for_all n p frames + c ≡ n * c
for_each_other n p c frames lp is =
    let s = total_same n (for_others n p frames) (λ q. cond (p == q) 0 c) (λ q lq. same q lq) in
    let t = total_others n p c lp in
    omega (arith, s, t)
  where
    same : (q : ℕ) → q < n → for_others n p frames q ≡ cond (p == q) 0 c
    same q lq = elim (cases_eq p q) [
      | inl e ↦ cond-true (p == q) 0 (takes_for_all n (frames q)) (eq-eqb p q e) ∙ sym (cond-true (p == q) 0 c (eq-eqb p q e))
      | inr ne ↦ cond-false (p == q) 0 (takes_for_all n (frames q)) (ne_eqb p q ne) ∙ (is q lq ne ∙ sym (cond-false (p == q) 0 c (ne_eqb p q ne)))
    ]

-- a cast for each other process asks for all that a call brings
for_cast : (n c : ℕ) → 0 < n → c + 2 * n ≡ n * (2 * n) → c ≡ 2 * n * (n - 1)
for_cast zero c l e = absurd (omega (arith, l))
for_cast (suc m) c l e =
    let a = mul-suc (2 * suc m) m in
    let b = suc-mul m (2 * suc m) in
    let d = mul_swap (suc m) (2 * suc m) in
    let k = ap (λ z. 2 * suc m * z) (less m) in
    omega (arith, e, a, b, d, k)
  where
    mul_swap : (x y : ℕ) → x * y ≡ y * x
    mul_swap x y = grind arith

    less : (m : ℕ) → suc m - 1 ≡ m
    less m = omega arith

module _ (n registers k : ℕ) (w : Nodes) (I : Inv n registers k w) (p : ℕ) (l : p < n) where
  abbrev s : State
  s = (w p).state

  cast_left : (op : Op) → for_all n p (data_frames s (Some (Cast (s.clock + 1) op))) ≤ 2 * n * (n - 1)
  cast_left op =
      let body = Cast (s.clock + 1) op in
      let a = for_each_other n p (2 * n) (data_frames s (Some body)) l (λ q lq ne. ap (takes_for_all n) (data_is n registers k w I p l body q lq ne) ∙ for_frame n (Numbered (length (w p).queued) body)) in
      let b = for_cast n (for_all n p (data_frames s (Some body))) (omega (arith, l)) a in
      omega (arith, b)

  pub called_left : (op : Op) (st : Start) → for_all n p (called s op st).1.frames ≤ 2 * n * (n - 1)
  called_left op Casts = cast_left op
  called_left op CastsAndAnswers = cast_left op
  called_left op Looks = let z = for_none n p in omega (arith, z)
  called_left op Holds = let z = for_none n p in omega (arith, z)

  module _ (a : ℕ) (la : a < n) (ne : a ≢ p) where
    got_left : (count : ℕ) → for_all n p (got_frames a count) ≡ 1
    got_left count = for_one n p a (Got count) la ne

    both_left : (count : ℕ) (body : Body) → takes_for n (Numbered (length (w p).queued) body) ≡ 2 → for_all n p (λ b. got_frames a count b ++ data_frames s (Some body) b) + 1 ≡ 2 * n
    both_left count body two =
        let x = total_both n (for_others n p (got_frames a count)) (for_others n p (data_frames s (Some body))) (for_others n p (λ b. got_frames a count b ++ data_frames s (Some body) b)) each in
        let y = got_left count in
        let z = for_each_other n p 2 (data_frames s (Some body)) l (λ q lq away. ap (takes_for_all n) (data_is n registers k w I p l body q lq away) ∙ (for_frame n (Numbered (length (w p).queued) body) ∙ two)) in
        omega (arith, x, y, z)
      where
        each : (q : ℕ) → q < n → for_others n p (λ b. got_frames a count b ++ data_frames s (Some body) b) q ≡ for_others n p (got_frames a count) q + for_others n p (data_frames s (Some body)) q
        each q lq = elim (cases_eq p q) [
          | inl e ↦
              let t = eq-eqb p q e in
              let x = cond-true (p == q) 0 (takes_for_all n (got_frames a count q ++ data_frames s (Some body) q)) t in
              let y = cond-true (p == q) 0 (takes_for_all n (got_frames a count q)) t in
              let z = cond-true (p == q) 0 (takes_for_all n (data_frames s (Some body) q)) t in
              omega (arith, x, y, z)
          | inr away ↦
              let t = ne_eqb p q away in
              let x = cond-false (p == q) 0 (takes_for_all n (got_frames a count q ++ data_frames s (Some body) q)) t in
              let y = cond-false (p == q) 0 (takes_for_all n (got_frames a count q)) t in
              let z = cond-false (p == q) 0 (takes_for_all n (data_frames s (Some body) q)) t in
              let v = sum_by-append (takes_for n) (got_frames a count q) (data_frames s (Some body) q) in
              omega (arith, x, y, z, v)
        ]

    pub taken_left : (f : Frame) → for_all n p (taken s a f).1.frames + 1 ≤ takes_for n f
    taken_left (Got count) = let z = for_none n p in omega (arith, z)
    taken_left (Numbered i body) =
        cond_both (i == (peer_at s a).expected) (accepted s a body) (quiet s (got_frames a (peer_at s a).expected)) (λ r. for_all n p r.1.frames + 1 ≤ takes_for n (Numbered i body))
        (λ _. body_left body)
        (λ _. let z = got_left (peer_at s a).expected in let t = two body in omega (arith, z, t))
      where
        two : (body : Body) → 2 ≤ takes_for n (Numbered i body)
        two (Cast t op) = omega (arith, l)
        two (Ack t) = omega arith

        body_left : (body : Body) → for_all n p (accepted s a body).1.frames + 1 ≤ takes_for n (Numbered i body)
        body_left (Cast t op) = let z = both_left ((peer_at s a).expected + 1) (Ack (max s.clock t + 1)) refl in omega (arith, z)
        body_left (Ack t) = let z = got_left ((peer_at s a).expected + 1) in omega (arith, z)

-- the calls of all processes after one more event
abbrev pub calls_in : ℕ → List Event → ℕ
calls_in n es = total n (λ q. length (calls_of q es))

calls_more : (q : ℕ) (es : List Event) (e : Event)
    → length (calls_of q (es ++ e ∷ [])) ≡ length (calls_of q es) + length (call_at q e)
calls_more q es e =
    ap length (flat_map-append (call_at q) es (e ∷ []) ∙ ap (λ l. calls_of q es ++ l) (append-nil (call_at q e))) ∙ length-append (calls_of q es) (call_at q e)

pub calls_of_call : (n p : ℕ) (op : Op) (es : List Event) → p < n
    → calls_in n (es ++ Call p op ∷ []) ≡ calls_in n es + 1
calls_of_call n p op es lp =
    let a = total_one n p (λ q. length (calls_of q (es ++ Call p op ∷ []))) (λ q. length (calls_of q es)) lp (λ q _ away.
    let m = calls_more q es (Call p op) in
    let z = ap length (cond-false (p == q) (op ∷ []) [] (ne_eqb p q (λ e. away (sym e)))) in
    omega (arith, m, z)) in
    let m = calls_more p es (Call p op) in
    let z = ap length (cond-true (p == p) (op ∷ []) [] (eq-eqb p p refl)) in
    omega (arith, a, m, z)

pub calls_of_take : (n a p k : ℕ) (es : List Event) → calls_in n (es ++ Take a p k ∷ []) ≡ calls_in n es
calls_of_take n a p k es =
    total_same n (λ q. length (calls_of q (es ++ Take a p k ∷ []))) (λ q. length (calls_of q es)) (λ q _. let m = calls_more q es (Take a p k) in omega (arith, m))

-- there are no more calls than operations
pub calls_few : (n : ℕ) (scripts : List (List Op)) (es : List Event) → length scripts ≡ n
    → ((p : ℕ) → p < length scripts → FollowsScript scripts es p) → calls_in n es ≤ sum_by length scripts
calls_few n scripts es is follows =
    let a = total_least n (λ q. length (calls_of q es)) (λ q. length (script_of scripts q)) (λ q lq. few q (omega (arith, lq, is))) in
    let b = total_along length scripts [] in
    let c = ap (λ m. total m (λ q. length (script_of scripts q))) is in
    omega (arith, a, b, c)
  where
    few : (q : ℕ) → q < length scripts → length (calls_of q es) ≤ length (script_of scripts q)
    few q lq = let e = ap length (follows q lq) ∙ length-take (length (calls_of q es)) (script_of scripts q) in omega (arith, e)

-- what one more call may bring
pub more_calls : (n calls : ℕ) → (calls + 1) * most_for_call n ≡ calls * most_for_call n + most_for_call n
more_calls n calls =
    let e : calls + 1 ≡ suc calls = omega arith in ap (λ c. c * most_for_call n) e ∙ suc-mul calls (most_for_call n)

pub few_events : (n : ℕ) (scripts : List (List Op)) (es : List Event) (count left : ℕ) → length scripts ≡ n
    → ((p : ℕ) → p < length scripts → FollowsScript scripts es p) → count + left ≤ calls_in n es * most_for_call n
    → count ≤ most_fair_events n scripts
few_events n scripts es count left is follows spent =
    let a = mul-le-mul_right (most_for_call n) (calls_few n scripts es is follows) in
    omega (arith, a, spent)
