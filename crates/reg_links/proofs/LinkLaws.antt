-- What a step of a link keeps.
use Rattle.std.proofs.Common.{◌≡◌, ℕ, ◌+◌, ◌-◌, ◌≤◌, suc, zero, max, true, false, cond, nat_eq, nat_lt, List, [], ◌∷◌}
use Rattle.std.proofs.Common.{◌++◌, length, drop, take, Option, Some, None, slice_get, MatchOption, refl, ap, sym}
use Rattle.std.proofs.Common.{subst, ◌∙◌, arith, length-append, length-drop}
use Rattle.std.specs.List.{AllByRecursion}
use Rattle.std.proofs.lemmas.List.{drop-append-le, take-append-le}
use Rattle.std.proofs.lemmas.Option.{slice_get_within}
use Rattle.std.proofs.lemmas.Bool.Decides.{nat_tests}
use Rattle.std.proofs.lemmas.Bool.{and_parts}
use Rattle.std.specs.Prelude.{◌&&◌}
use Rattle.reg_frames.specs.declared.bodies.Body.{Body}
use Rattle.reg_links.specs.Link.{next_of, with_queued}
use Rattle.reg_base.specs.declared.limits.TheConstants.{FRAME_NUMBERS}
use Rattle.reg_links.specs.Laws.{queued, unused, after_all, AcceptsPrefix, Link, IsLink, LinkStep, Put, Resend, Take}
use Rattle.reg_links.specs.Laws.{Count, after, resent, taken, counted, IsNotAhead}

module _ {X : Type 0} where
  all_push : (P : X → Type 0) (xs : List X) (x : X) → AllByRecursion P xs → P x → AllByRecursion P (xs ++ x ∷ [])
  all_push P [] x a p = (p, tt)
  all_push P (y ∷ ys) x a p = (a.0, all_push P ys x a.1 p)

  all_map : (P Q : X → Type 0) → ((x : X) → P x → Q x) → (xs : List X) → AllByRecursion P xs → AllByRecursion Q xs
  all_map P Q f [] a = tt
  all_map P Q f (y ∷ ys) a = (f y a.0, all_map P Q f ys a.1)

  all_at : (P : X → Type 0) (xs : List X) (i : ℕ) (x : X) → AllByRecursion P xs → slice_get xs i ≡ Some x → P x
  all_at P [] i x a h = absurd (cc)
  all_at P (y ∷ ys) zero x a h = let e : y ≡ x = cc in subst P e a.0
  all_at P (y ∷ ys) (suc i) x a h = all_at P ys i x a.1 h

  get_push : (xs : List X) (i : ℕ) (x y : X) → slice_get xs i ≡ Some y → slice_get (xs ++ x ∷ []) i ≡ Some y
  get_push [] i x y h = absurd (cc)
  get_push (z ∷ zs) zero x y h = h
  get_push (z ∷ zs) (suc i) x y h = get_push zs i x y h

  get_pushed : (xs : List X) (x : X) → slice_get (xs ++ x ∷ []) (length xs) ≡ Some x
  get_pushed [] x = refl
  get_pushed (z ∷ zs) x = get_pushed zs x

  pub get_drop : (n : ℕ) (xs : List X) (i : ℕ) → slice_get (drop n xs) i ≡ slice_get xs (n + i)
  get_drop zero xs i = let e : i ≡ 0 + i = omega arith in ap (slice_get xs) e
  get_drop (suc n) [] i = refl
  get_drop (suc n) (x ∷ xs) i = let e : suc (n + i) ≡ suc n + i = omega arith in get_drop n xs i ∙ ap (slice_get (x ∷ xs)) e

  take_one : (xs : List X) (n : ℕ) (x : X) → slice_get xs n ≡ Some x → take (suc n) xs ≡ take n xs ++ x ∷ []
  take_one [] n x h = absurd (cc)
  take_one (y ∷ ys) zero x h = let e : y ≡ x = cc in ap (λ z. z ∷ []) e
  take_one (y ∷ ys) (suc n) x h = ap (λ z. y ∷ z) (take_one ys n x h)

  pub drop_on : (n m : ℕ) (xs : List X) → drop m (drop n xs) ≡ drop (n + m) xs
  drop_on zero m xs = let e : m ≡ 0 + m = omega arith in ap (λ k. drop k xs) e
  drop_on (suc n) zero [] = let e : suc n ≡ suc n + 0 = omega arith in ap (λ k. drop k []) e
  drop_on (suc n) (suc m) [] = let e : suc (n + suc m) ≡ suc n + suc m = omega arith in ap (λ k. drop k []) e
  drop_on (suc n) m (x ∷ xs) = let e : suc (n + m) ≡ suc n + m = omega arith in drop_on n m xs ∙ ap (λ k. drop k (x ∷ xs)) e

put_keeps : (l : Link) (b : Body) → IsLink l
    → IsLink
    (record l { queued = l.queued ++ b ∷ []; out = with_queued l.out b; wire = l.wire ++ (next_of l.out, b) ∷ [] })
put_keeps l b h =
    let first : l.out.first ≤ length l.queued = omega (arith, h.acknowledged, h.within) in
    record {
      next = omega (arith, h.next, length-append l.out.pending (b ∷ []), length-append l.queued (b ∷ []));
      pending = ap (λ t. t ++ b ∷ []) h.pending ∙ sym (drop-append-le l.out.first l.queued (b ∷ []) first);
      acknowledged = h.acknowledged;
      within = omega (arith, h.within, length-append l.queued (b ∷ []));
      accepted = h.accepted ∙ sym (take-append-le l.expected l.queued (b ∷ []) h.within);
      wire = all_push (λ f. slice_get (l.queued ++ b ∷ []) f.0 ≡ Some f.1) l.wire (next_of l.out, b)
          (all_map (λ f. slice_get l.queued f.0 ≡ Some f.1) (λ f. slice_get (l.queued ++ b ∷ []) f.0 ≡ Some f.1) (λ f e. get_push l.queued f.0 b f.1 e) l.wire h.wire)
          (ap (slice_get (l.queued ++ b ∷ [])) h.next ∙ get_pushed l.queued b);
      back = h.back;
    }

queue_keeps : (l : Link) (b : Body) → IsLink l → IsLink (queued l b)
queue_keeps l b h = elim (nat_eq (next_of l.out) FRAME_NUMBERS) as (λ t. IsLink (cond t l (record l { queued = l.queued ++ b ∷ []; out = with_queued l.out b; wire = l.wire ++ (next_of l.out, b) ∷ [] }))) [
  | true ↦ h
  | false ↦ put_keeps l b h
]

resend_keeps : (l : Link) (i : ℕ) (o : Option Body) → slice_get l.out.pending i ≡ o → IsLink l → IsLink (resent l i o)
resend_keeps l i None e h = h
resend_keeps l i (Some b) e h = record {
  next = h.next;
  pending = h.pending;
  acknowledged = h.acknowledged;
  within = h.within;
  accepted = h.accepted;
  wire = all_push (λ f. slice_get l.queued f.0 ≡ Some f.1) l.wire (l.out.first + i, b) h.wire
      (sym (get_drop l.out.first l.queued i) ∙ ap (λ t. slice_get t i) (sym h.pending) ∙ e);
  back = h.back;
}

take_keeps : (l : Link) (k : ℕ) (o : Option (ℕ × Body)) → slice_get l.wire k ≡ o → IsLink l → IsLink (taken l o)
take_keeps l k None e h = h
take_keeps l k (Some f) e h =
    elim (nat_eq f.0 l.expected && nat_lt l.expected FRAME_NUMBERS) as (λ t. (nat_eq f.0 l.expected && nat_lt l.expected FRAME_NUMBERS) ≡ t → IsLink (cond t (record l { expected = l.expected + 1; accepted = l.accepted ++ f.1 ∷ []; back = l.back ++ (l.expected + 1) ∷ [] }) (record l { back = l.back ++ l.expected ∷ [] }))) [
      | true ↦ λ t.
          let test : nat_eq f.0 l.expected ≡ true = (and_parts (nat_eq f.0 l.expected) (nat_lt l.expected FRAME_NUMBERS) t).0 in
          let same : f.0 ≡ l.expected = grind (arith, nat_tests) in
          let there : slice_get l.queued l.expected ≡ Some f.1 = ap (slice_get l.queued) (sym same) ∙ all_at (λ f. slice_get l.queued f.0 ≡ Some f.1) l.wire k f h.wire e in
          let lt = slice_get_within l.queued l.expected f.1 there in
          let one : suc l.expected ≡ l.expected + 1 = omega arith in
          record {
            next = h.next;
            pending = h.pending;
            acknowledged = omega (arith, h.acknowledged);
            within = omega (arith, lt);
            accepted = ap (λ t. t ++ f.1 ∷ []) h.accepted ∙ sym (take_one l.queued l.expected f.1 there) ∙ ap (λ n. take n l.queued) one;
            wire = h.wire;
            back = all_push (λ n. n ≤ l.expected + 1) l.back (l.expected + 1) (all_map (λ n. n ≤ l.expected) (λ n. n ≤ l.expected + 1) (λ n m. omega arith) l.back h.back) (omega arith);
          }
      | false ↦ λ t. record {
        next = h.next;
        pending = h.pending;
        acknowledged = h.acknowledged;
        within = h.within;
        accepted = h.accepted;
        wire = h.wire;
        back = all_push (λ n. n ≤ l.expected) l.back l.expected h.back (omega arith);
      }
    ] refl

count_keeps : (l : Link) (k : ℕ) (o : Option ℕ) → slice_get l.back k ≡ o → IsLink l → IsLink (counted l o)
count_keeps l k None e h = h
count_keeps l k (Some n) e h =
    let low : n ≤ l.expected = all_at (λ n. n ≤ l.expected) l.back k n h.back e in
    let sum : l.out.first + (n - l.out.first) ≡ max l.out.first n = omega arith in
    record {
      next = omega (arith, h.next, h.within, low, length-drop (n - l.out.first) l.out.pending);
      pending = ap (drop (n - l.out.first)) h.pending ∙ drop_on l.out.first (n - l.out.first) l.queued ∙ ap (λ k. drop k l.queued) sum;
      acknowledged = omega (arith, h.acknowledged, low);
      within = h.within;
      accepted = h.accepted;
      wire = h.wire;
      back = h.back;
    }

pub step_keeps : (l : Link) (s : LinkStep) → IsLink l → IsLink (after l s)
step_keeps l (Put b) h = queue_keeps l b h
step_keeps l (Resend i) h = resend_keeps l i (slice_get l.out.pending i) refl h
step_keeps l (Take k) h = take_keeps l k (slice_get l.wire k) refl h
step_keeps l (Count k) h = count_keeps l k (slice_get l.back k) refl h

not_above : (l : Link) (k : ℕ) (o : Option ℕ) → slice_get l.back k ≡ o → IsLink l
    → MatchOption o (Unit {0}) (λ n. n ≤ next_of l.out)
not_above l k None e h = tt
not_above l k (Some n) e h =
    let low : n ≤ l.expected = all_at (λ n. n ≤ l.expected) l.back k n h.back e in omega (arith, low, h.within, h.next)

pub step_not_ahead : (l : Link) (s : LinkStep) → IsLink l → IsNotAhead l s
step_not_ahead l (Put b) h = tt
step_not_ahead l (Resend i) h = tt
step_not_ahead l (Take k) h = tt
step_not_ahead l (Count k) h = not_above l k (slice_get l.back k) refl h

unused_is_link : IsLink unused
unused_is_link = record { next = refl; pending = refl; acknowledged = omega arith; within = omega arith; accepted = refl; wire = tt; back = tt }

all_keep : (l : Link) (steps : List LinkStep) → IsLink l → IsLink (after_all l steps)
all_keep l [] h = h
all_keep l (s ∷ steps) h = all_keep (after l s) steps (step_keeps l s h)

pub every_link : (steps : List LinkStep) → IsLink (after_all unused steps)
every_link steps = all_keep unused steps unused_is_link

pub every_prefix : (steps : List LinkStep) → AcceptsPrefix (after_all unused steps)
every_prefix steps =
    let l : Link = after_all unused steps in
    let h : IsLink l = every_link steps in
    (drop l.expected l.queued, ap (λ a. a ++ drop l.expected l.queued) h.accepted ∙ take-drop l.expected l.queued)
  where
    take-drop : (n : ℕ) (xs : List Body) → take n xs ++ drop n xs ≡ xs
    take-drop zero xs = refl
    take-drop (suc n) [] = refl
    take-drop (suc n) (x ∷ xs) = ap (λ l. x ∷ l) (take-drop n xs)

pub never_ahead : (steps : List LinkStep) (s : LinkStep) → IsNotAhead (after_all unused steps) s
never_ahead steps s = step_not_ahead (after_all unused steps) s (every_link steps)
