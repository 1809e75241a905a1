-- The links of one process after a body was queued and after a count.
use Rattle.std.proofs.Common.{◌≡◌, ℕ, zero, suc, ◌+◌, ◌-◌, ◌<◌, ◌≤◌, List, [], ◌∷◌, ◌++◌, length, drop, max, refl, sym}
use Rattle.std.proofs.Common.{ap, subst, ◌∙◌, inl, inr, arith, length-append, length-drop, length-set, get_or-set_same}
use Rattle.std.proofs.Common.{get_or-set_other, replicate}
use Rattle.std.specs.Prelude.{Option, Some, None, slice_index, slice_index_or, slice_set, slice_get, option_map}
use Rattle.reg_frames.specs.declared.bodies.Frame.{Frame}
use Rattle.reg_frames.specs.declared.bodies.Frame.TheVariants.{Numbered}
use Rattle.std.proofs.lemmas.Bool.{cases_eq}
use Rattle.std.proofs.lemmas.Option.{slice_get_past, slice_get_read}
use Rattle.reg_frames.specs.declared.bodies.Body.{Body}
use Rattle.reg_base.specs.declared.limits.TheConstants.{FRAME_NUMBERS}
use Rattle.reg_links.specs.Link.{Unacknowledged, next_of, acknowledged}
use Rattle.reg_links.specs.Sending.{Sending, next_all, link_at, link_to, IsCounted}
use Rattle.reg_links.specs.Bounds.{InStep, least_from}
use Rattle.reg_links.proofs.LinkLaws.{drop_on, get_drop}
use Rattle.reg_links.proofs.Leasts.{least_top, least_low, least_within, least_up, least_stays}

-- a process has acknowledged at least what is no longer kept
pub first_low : (s : Sending) → InStep s → (r : ℕ) → r < length s.counts → s.first ≤ slice_index s.counts r
first_low s good r l = let a = least_low (next_all s) s.counts r l in let b = good.first in omega (arith, a, b)

pub next_same : (s : Sending) → InStep s → (r : ℕ) → r < length s.counts → next_of (link_to s r) ≡ next_all s
next_same s good r l =
    let c = slice_index s.counts r in
    let a = first_low s good r l in
    let b = good.counts r in
    let d = length-drop (c - s.first) s.bodies in
    omega (arith, a, b, d)

pub pending_is : (s : Sending) → InStep s → (r : ℕ) → r < length s.counts
    → next_all s - slice_index s.counts r ≡ length (link_to s r).pending
pending_is s good r l = let a = next_same s good r l in omega (arith, a)

-- the i-th body that a process has not acknowledged
abbrev pub resent : Sending → ℕ → ℕ → Option Frame
resent s r i = option_map (λ body. Numbered ((link_to s r).first + i) body) (slice_get (link_to s r).pending i)

pub none_resent : (s : Sending) (r i : ℕ) → length (link_to s r).pending ≤ i → None ≡ resent s r i
none_resent s r i le =
    sym (ap (option_map (λ body. Numbered ((link_to s r).first + i) body)) (slice_get_past (link_to s r).pending i le))

pub one_resent : (s : Sending) (r i at : ℕ) (body : Body) → at ≡ slice_index s.counts r - s.first + i
    → at < length s.bodies → body ≡ slice_index_or s.bodies at body
    → Some (Numbered (slice_index s.counts r + i) body) ≡ resent s r i
one_resent s r i at body e l b =
    let there : slice_get s.bodies at ≡ Some body = slice_get_read s.bodies (length s.bodies) at body refl l b in
    sym (ap (option_map (λ body. Numbered ((link_to s r).first + i) body)) (get_drop (slice_index s.counts r - s.first) s.bodies i ∙ ap (slice_get s.bodies) (sym e) ∙ there))

-- fewer bodies kept are the same link
kept_less : (s : Sending) (l c : ℕ) → s.first ≤ l → l ≤ c
    → link_at (record s { first = l; bodies = drop (l - s.first) s.bodies }) c ≡ link_at s c
kept_less s l c a b =
    let n : (l - s.first) + (c - l) ≡ c - s.first = omega (arith, a, b) in
    ap (λ bs. record { first = c; pending = bs }) (drop_on (l - s.first) (c - l) s.bodies ∙ ap (λ k. drop k s.bodies) n)

acknowledged_at : (s : Sending) (c n : ℕ) → s.first ≤ c → c ≤ n → link_at s n ≡ acknowledged (link_at s c) n
acknowledged_at s c n a b =
    let m : n ≡ max c n = omega (arith, b) in
    let k : (c - s.first) + (n - c) ≡ n - s.first = omega (arith, a, b) in
    ap (λ (o : Unacknowledged). record o { pending = drop (n - s.first) s.bodies }) (ap (λ f. record { first = f; pending = [] }) m)
    ∙ ap (λ bs. record { first = max c n; pending = bs }) (sym (drop_on (c - s.first) (n - c) s.bodies ∙ ap (λ k. drop k s.bodies) k))

module _ (s : Sending) (good : InStep s) (from n : ℕ) (l : from < length s.counts) (more : slice_index s.counts from < n) (queued : n ≤ next_all s) where
  abbrev counts : List ℕ
  counts = slice_set s.counts from n

  abbrev after : ℕ → Sending
  after first = record { first = first; bodies = drop (first - s.first) s.bodies; counts = counts }

  abbrev next : ℕ
  next = next_all s

  pub rises : s.first ≤ least_from next counts
  rises = let a = least_up next n s.counts from l (omega (arith, more)) in let b = good.first in omega (arith, a, b)

  next_is : (first : ℕ) → s.first ≤ first → first ≤ least_from next counts → next_all (after first) ≡ next_all s
  next_is first a b = let t = least_top next counts in let d = length-drop (first - s.first) s.bodies in omega (arith, a, b, t, d)

  low : (first r : ℕ) → first ≤ least_from next counts → r < length s.counts → first ≤ slice_index counts r
  low first r b k = let len = length-set s.counts from n in let a = least_low next counts r (omega (arith, len, k)) in omega (arith, a, b)

  counted : (first : ℕ) → s.first ≤ first → first ≤ least_from next counts → IsCounted s from n (after first)
  counted first a b =
      let own : slice_index counts from ≡ n = get_or-set_same s.counts from n 0 l in
      record {
        next = next_is first a b;
        link =
            kept_less s first (slice_index counts from) a (low first from b l)
            ∙ ap (link_at s) own
            ∙ acknowledged_at s (slice_index s.counts from) n (first_low s good from l) (omega (arith, more));
        others = λ r k ne. kept_less s first (slice_index counts r) a (low first r b k) ∙ ap (link_at s) (get_or-set_other s.counts from r n 0 ne);
      }

  counted_good : (first : ℕ) → s.first ≤ first → first ≡ least_from next counts → InStep (after first)
  counted_good first a e =
      let same : next_all (after first) ≡ next_all s = next_is first a (omega (arith, e)) in
      record {
        next = let z = good.next in omega (arith, same, z);
        counts = λ r. elim (cases_eq r from) [
          | inl q ↦ let d : slice_index counts r ≡ n = ap (slice_index counts) q ∙ get_or-set_same s.counts from n 0 l in omega (arith, d, same, queued)
          | inr ne ↦ let d : slice_index counts r ≡ slice_index s.counts r = get_or-set_other s.counts from r n 0 ne in let z = good.counts r in omega (arith, d, same, z)
        ];
        first = e ∙ ap (λ k. least_from k counts) (sym same);
      }

  -- where the count before was not the least
  stays : (slice_index s.counts from ≡ s.first → ⊥) → s.first ≡ least_from next counts
  stays ne =
      let a = first_low s good from l in
      let b = good.first in
      let above : least_from next s.counts < slice_index s.counts from = elim (cases_eq (slice_index s.counts from) s.first) [
        | inl q ↦ absurd (ne q)
        | inr other ↦ omega (arith, a, b, other)
      ] in
      let e = least_stays next n s.counts from l (omega (arith, more)) above (good.counts from) in
      omega (arith, e, b)

  -- where the code found the least and the bodies that are left
  pub moved : (first : ℕ) (bodies : List Body) → first ≡ least_from next counts
      → bodies ≡ drop (first - s.first) s.bodies
      → IsCounted s from n (record { first = first; bodies = bodies; counts = counts })
  moved first bodies e b = subst (λ (bs : List Body). IsCounted s from n (record { first = first; bodies = bs; counts = counts })) (sym b) (let r = rises in counted first (omega (arith, r, e)) (omega (arith, e)))

  pub moved_good : (first : ℕ) (bodies : List Body) → first ≡ least_from next counts
      → bodies ≡ drop (first - s.first) s.bodies → InStep (record { first = first; bodies = bodies; counts = counts })
  moved_good first bodies e b = subst (λ (bs : List Body). InStep (record { first = first; bodies = bs; counts = counts })) (sym b) (let r = rises in counted_good first (omega (arith, r, e)) e)

  all_kept : drop (s.first - s.first) s.bodies ≡ s.bodies
  all_kept = let z : s.first - s.first ≡ 0 = omega arith in ap (λ k. drop k s.bodies) z

  pub counted_all : IsCounted s from n (record s { counts = counts })
  counted_all = subst (λ (bs : List Body). IsCounted s from n (record s { bodies = bs; counts = counts })) all_kept (counted s.first (omega arith) rises)

  pub counted_all_good : (slice_index s.counts from ≡ s.first → ⊥) → InStep (record s { counts = counts })
  counted_all_good ne = subst (λ (bs : List Body). InStep (record s { bodies = bs; counts = counts })) all_kept (counted_good s.first (omega arith) (stays ne))

abbrev with_body : Sending → Body → Sending
with_body s body = record s { bodies = s.bodies ++ body ∷ [] }

module _ (s : Sending) (good : InStep s) (me : ℕ) (body : Body) (l : me < length s.counts) where
  grown : next_all (with_body s body) ≡ next_all s + 1
  grown = let z = length-append s.bodies (body ∷ []) in omega (arith, z)

  pub body_good : next_all s < FRAME_NUMBERS → InStep (with_body s body)
  body_good room =
      let g = grown in
      record {
        next = omega (arith, g, room);
        counts = λ r. let z = good.counts r in omega (arith, g, z);
        first = good.first ∙ sym (least_within (next_all s) (next_all (with_body s body)) s.counts me l (good.counts me) (omega (arith, g)));
      }

pub nothing_queued : (n : ℕ) → InStep (record { first = 0; bodies = []; counts = replicate n 0 })
nothing_queued n = record {
  next = omega arith;
  counts = λ r. zeros n r;
  first = let z = least_top 0 (replicate n 0) in omega (arith, z);
}
  where
    zeros : (n r : ℕ) → slice_index (replicate n 0) r ≤ 0
    zeros zero r = omega arith
    zeros (suc n) zero = omega arith
    zeros (suc n) (suc r) = zeros n r
