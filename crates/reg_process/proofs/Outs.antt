-- The links of a process as a list.
use Rattle.std.proofs.Common.{◌≡◌, ℕ, zero, suc, ◌+◌, ◌-◌, ◌<◌, ◌≤◌, Bool, true, false, List, [], ◌∷◌, ◌++◌, length}
use Rattle.std.proofs.Common.{drop, take, replicate, refl, sym, ap, ◌∙◌, inl, inr, arith, length-drop, length-set}
use Rattle.std.proofs.Common.{get_or-set_same, get_or-set_other}
use Rattle.std.specs.Prelude.{Option, Result, Ok, Err, IfOk, OnOk, OnErr, OkIff, is_ok, cond, ◌==◌, slice_index}
use Rattle.std.specs.Prelude.{slice_index_or, slice_set}
use Rattle.std.proofs.lemmas.Bool.{cases_eq, eq-eqb, ne_eqb}
use Rattle.std.proofs.lemmas.List.{ext_get_or, length-replicate}
use Rattle.std.proofs.lemmas.List.FromFn.{length-map-range_with_len, get_or-map-range_with_len}
use Rattle.reg_frames.specs.declared.bodies.Body.{Body}
use Rattle.reg_frames.specs.declared.bodies.Frame.TheVariants.{Numbered}
use Rattle.reg_links.specs.Link.{Unacknowledged, next_of, with_queued, acknowledged}
use Rattle.reg_links.specs.Sending.{Sending, link_to, next_all, IsQueued, IsCounted}
use Rattle.reg_process.specs.Parts.{nothing}
use Rattle.reg_process.specs.Queued.{out_to, outs_of, body_frames, all_frames, queued_at, queue_outs, again_at, IsGrown}
use Rattle.reg_process.specs.Queued.{IsNumbered, HasNumbers}
use Rattle.reg_process.specs.Process.{numbered_from}
use Rattle.reg_base.specs.declared.limits.TheConstants.{FRAME_NUMBERS, MOST_RESENT}
use Rattle.reg_process.specs.Puts.{puts}
use Rattle.reg_process.specs.Sending.{owed, frame_to, sent_frames}
use Rattle.reg_process.proofs.Queues.{all_queued, queued_grown, puts_below}
use Rattle.reg_process.proofs.Again.{replicate_at}

pub length-outs : (me : ℕ) (s : Sending) → length (outs_of me s) ≡ length s.counts
unfolding outs_of
length-outs me s = length-map-range_with_len (out_to me s) 0 (length s.counts)

pub out_at : (me : ℕ) (s : Sending) (r : ℕ) → r < length s.counts
    → slice_index_or (outs_of me s) r nothing ≡ out_to me s r
unfolding outs_of
out_at me s r l = get_or-map-range_with_len (out_to me s) 0 (length s.counts) r r nothing l (omega arith)

pub own_out : (me : ℕ) (s : Sending) (r : ℕ) → r ≡ me → out_to me s r ≡ nothing
own_out me s r e = ap (λ b. cond b nothing (link_to s r)) (eq-eqb r me e)

pub other_out : (me : ℕ) (s : Sending) (r : ℕ) → (r ≡ me → ⊥) → out_to me s r ≡ link_to s r
other_out me s r ne = ap (λ b. cond b nothing (link_to s r)) (ne_eqb r me ne)

pub link_is : (me : ℕ) (s : Sending) (r : ℕ) → r < length s.counts → (r ≡ me → ⊥)
    → slice_index_or (outs_of me s) r nothing ≡ link_to s r
link_is me s r l ne = out_at me s r l ∙ other_out me s r ne

-- nothing was queued
pub no_outs : (me n : ℕ) → outs_of me (record { first = 0; bodies = []; counts = replicate n 0 }) ≡ replicate n nothing
no_outs me n =
    let s : Sending = record { first = 0; bodies = []; counts = replicate n 0 } in
    let zeros : length s.counts ≡ n = length-replicate n 0 in
    let x = length-outs me s in
    let y : length (replicate n nothing) ≡ n = length-replicate n nothing in
    ext_get_or nothing (outs_of me s) (replicate n nothing) (omega (arith, x, y, zeros)) (λ r l.
    out_at me s r (omega (arith, x, l)) ∙ go (r == me) r ∙ sym (replicate_at n r nothing))
  where
    none : (n r : ℕ) → slice_index (replicate n 0) r ≡ 0
    none zero r = refl
    none (suc n) zero = refl
    none (suc n) (suc r) = none n r

    empty : (k : ℕ) → k ≡ 0 → record { first = k; pending = drop (k - 0) [] } ≡ nothing
    empty k e = ap (λ (j : ℕ). record { first = j; pending = drop (j - 0) [] }) e

    go : (b : Bool) (r : ℕ) → cond b nothing (link_to (record { first = 0; bodies = []; counts = replicate n 0 }) r) ≡ nothing
    go true r = refl
    go false r = empty (slice_index (replicate n 0) r) (none n r)

pub fresh_outs : {E : Type 0} (me n : ℕ) (r : Result Sending E)
    → IfOk r (λ s. s ≡ record { first = 0; bodies = []; counts = replicate n 0 })
    → IfOk r (λ s. outs_of me s ≡ replicate n nothing)
fresh_outs me n (Ok s) h = ap (outs_of me) h ∙ no_outs me n
fresh_outs me n (Err e) h = tt

module _ (me : ℕ) (body : Body) (old new : Sending) (number : ℕ) (queued : IsQueued old me body number new) (processes : length new.counts ≡ length old.counts) where
  queued_to : (r : ℕ) → r < length old.counts → out_to me new r ≡ queued_at me body r (out_to me old r)
  queued_to r l = elim (cases_eq r me) [
    | inl e ↦
        own_out me new r e ∙ sym (own_out me old r e)
        ∙ sym (ap (λ b. cond b (out_to me old r) (with_queued (out_to me old r) body)) (eq-eqb r me e))
    | inr ne ↦
        other_out me new r ne ∙ queued.links r l ne ∙ ap (λ o. with_queued o body) (sym (other_out me old r ne))
        ∙ sym (ap (λ b. cond b (out_to me old r) (with_queued (out_to me old r) body)) (ne_eqb r me ne))
  ]

  pub outs_queued : outs_of me new ≡ queue_outs 0 me body (outs_of me old)
  outs_queued =
      let x = length-outs me new in
      let y = length-outs me old in
      all_queued 0 me body (outs_of me new) (outs_of me old) (omega (arith, x, y, processes)) (λ i l.
      let z : i ≡ 0 + i = omega arith in
      out_at me new i (omega (arith, processes, y, l)) ∙ queued_to i (omega (arith, y, l))
      ∙ ap (queued_at me body i) (sym (out_at me old i (omega (arith, y, l))))
      ∙ ap (λ k. queued_at me body k (slice_index_or (outs_of me old) i nothing)) z)

  pub outs_grown : IsGrown (outs_of me old) (outs_of me new)
  outs_grown i = let e = ap (λ (os : List Unacknowledged). next_of (slice_index_or os i nothing)) outs_queued in let g = queued_grown 0 me body (outs_of me old) i in omega (arith, e, g)

-- one process has no other
pub none_queued : (me : ℕ) (body : Body) (s : Sending) → me < length s.counts → length s.counts ≡ 1
    → outs_of me s ≡ queue_outs 0 me body (outs_of me s)
none_queued me body s m n =
    let y = length-outs me s in
    all_queued 0 me body (outs_of me s) (outs_of me s) refl (λ i l.
    let e : 0 + i ≡ me = omega (arith, y, l, m, n) in
    sym (ap (λ b. cond b (slice_index_or (outs_of me s) i nothing) (with_queued (slice_index_or (outs_of me s) i nothing) body)) (eq-eqb (0 + i) me e)))

-- another process has numbers left, and so all have
pub not_all_used : (me : ℕ) (s : Sending) → me < length s.counts → (length s.counts ≡ 1 → ⊥) → HasNumbers (outs_of me s)
    → ((r : ℕ) → r < length s.counts → next_of (link_to s r) ≡ next_all s) → next_all s < FRAME_NUMBERS
not_all_used me s m n has h = elim (cases_eq me 0) [
  | inl e ↦ by 1 (omega (arith, e, m, n)) (λ q. absurd (omega (arith, q, e)))
  | inr ne ↦ by 0 (omega (arith, m)) (λ q. ne (sym q))
]
  where
    by : (r : ℕ) → r < length s.counts → (r ≡ me → ⊥) → next_all s < FRAME_NUMBERS
    by r l ne = let a = has r in let b = h r l in let c = ap next_of (link_is me s r l ne) in omega (arith, a, b, c)

pub frame_same : (me number : ℕ) (body : Body) (s : Sending) (r : ℕ) → IsNumbered me number s → r < length s.counts
    → frame_to me number body r ≡ body_frames me body r (slice_index_or (outs_of me s) r nothing)
frame_same me number body s r h l = elim (cases_eq r me) [
  | inl e ↦
      ap (λ b. cond b [] (Numbered number body ∷ [])) (eq-eqb r me e)
      ∙ sym (ap (λ b. cond b [] (Numbered (next_of (slice_index_or (outs_of me s) r nothing)) body ∷ [])) (eq-eqb r me e))
  | inr ne ↦ ap (λ n. cond (r == me) [] (Numbered n body ∷ [])) (h r l ne ∙ ap next_of (sym (link_is me s r l ne)))
]

-- the frames put are those of the outboxes
pub sent_all : (got : Option (ℕ × ℕ)) (me number : ℕ) (body : Body) (s : Sending) (n : ℕ) → n ≡ length s.counts
    → IsNumbered me number s
    → puts (sent_frames (record { me = me; number = number; body = body; got = got })) n
    ≡ puts (all_frames got me body (outs_of me s)) (length (outs_of me s))
sent_all got me number body s n e h =
    puts_below (sent_frames (record { me = me; number = number; body = body; got = got })) (all_frames got me body (outs_of me s)) n
    (λ r l. ap (λ x. owed got r ++ x) (frame_same me number body s r h (omega (arith, e, l))))
    ∙ ap (puts (all_frames got me body (outs_of me s))) (e ∙ sym (length-outs me s))

-- one process has acknowledged more
pub outs_counted : (me : ℕ) (s t : Sending) (from : ℕ) → (from ≡ me → ⊥) → from < length s.counts
    → length t.counts ≡ length s.counts → ((r : ℕ) → r < length s.counts → (r ≡ from → ⊥) → link_to t r ≡ link_to s r)
    → outs_of me t ≡ slice_set (outs_of me s) from (link_to t from)
outs_counted me s t from ne within len others =
    let x = length-outs me s in
    let y = length-outs me t in
    let z = length-set (outs_of me s) from (link_to t from) in
    ext_get_or nothing (outs_of me t) (slice_set (outs_of me s) from (link_to t from)) (omega (arith, x, y, z, len)) (λ r l.
    let k : r < length s.counts = omega (arith, y, len, l) in
    out_at me t r (omega (arith, y, l)) ∙ at r k)
  where
    kept : (b : Bool) (r : ℕ) → link_to t r ≡ link_to s r → cond b nothing (link_to t r) ≡ cond b nothing (link_to s r)
    kept b r e = ap (λ (o : Unacknowledged). cond b nothing o) e

    at : (r : ℕ) → r < length s.counts → out_to me t r ≡ slice_index_or (slice_set (outs_of me s) from (link_to t from)) r nothing
    at r k = elim (cases_eq r from) [
      | inl e ↦
          let m : from < length (outs_of me s) = let x = length-outs me s in omega (arith, x, within) in
          other_out me t r (λ q. ne (sym e ∙ q)) ∙ ap (link_to t) e
          ∙ sym (ap (λ i. slice_index_or (slice_set (outs_of me s) from (link_to t from)) i nothing) e ∙ get_or-set_same (outs_of me s) from (link_to t from) nothing m)
      | inr other ↦
          kept (r == me) r (others r k other) ∙ sym (out_at me s r k) ∙ sym (get_or-set_other (outs_of me s) from r (link_to t from) nothing other)
    ]

-- a count takes no number from a link
pub next_counted : (o : Unacknowledged) (n : ℕ) → n ≤ next_of o → next_of (acknowledged o n) ≡ next_of o
next_counted o n le = let d = length-drop (n - o.first) o.pending in omega (arith, d, le)

module _ {T E : Type 0} (s t : Sending) (from count : ℕ) where
  pub got_link : (r : Result T E) → OnOk r (IsCounted s from count t) → OnErr r (t ≡ s)
      → link_to t from ≡ cond (is_ok r) (acknowledged (link_to s from) count) (link_to s from)
  got_link (Ok x) a b = a.link
  got_link (Err x) a b = ap (λ (u : Sending). link_to u from) b

  pub got_others : (r : Result T E) → OnOk r (IsCounted s from count t) → OnErr r (t ≡ s) → (i : ℕ)
      → i < length s.counts → (i ≡ from → ⊥) → link_to t i ≡ link_to s i
  got_others (Ok x) a b i l ne = a.others i l ne
  got_others (Err x) a b i l ne = ap (λ (u : Sending). link_to u i) b

  pub got_next : (r : Result T E) (v : T) → OkIff r (count ≤ next_of (link_to s from)) v
      → OnOk r (IsCounted s from count t) → OnErr r (t ≡ s) → next_of (link_to t from) ≡ next_of (link_to s from)
  got_next (Ok x) v h a b = ap next_of a.link ∙ next_counted (link_to s from) count h.0
  got_next (Err x) v h a b = ap (λ (u : Sending). next_of (link_to u from)) b

pub again_same : (me : ℕ) (s : Sending) (r : ℕ) → r < length s.counts
    → again_at me r (link_to s r) ≡ again_at me r (slice_index_or (outs_of me s) r nothing)
again_same me s r l = elim (cases_eq r me) [
  | inl e ↦ own (link_to s r) e ∙ sym (own (slice_index_or (outs_of me s) r nothing) e)
  | inr ne ↦ ap (again_at me r) (sym (link_is me s r l ne))
]
  where
    own : (o : Unacknowledged) → r ≡ me → again_at me r o ≡ []
    own o e = ap (λ b. cond b [] (numbered_from o.first (take MOST_RESENT o.pending))) (eq-eqb r me e)
