-- An acknowledgement accepted, and a count.
use Rattle.std.proofs.Common.{◌≡◌, ℕ, zero, suc, ◌+◌, ◌<◌, ◌≤◌, Bool, true, false, not, List, [], ◌∷◌, ◌++◌, length}
use Rattle.std.proofs.Common.{map, max, None, refl, sym, ap, ◌∙◌, subst, inl, inr, arith, length-set, get_or-set_same}
use Rattle.std.proofs.Common.{get_or-set_other}
use Rattle.std.specs.Prelude.{cond, slice_index, slice_index_or, slice_set, nat_lt, Result, Ok, Err, is_ok, OkIff}
use Rattle.std.proofs.lemmas.Bool.{cases_eq, eq-eqb, ne_eqb}
use Rattle.std.proofs.lemmas.Bool.Decides.{nat_tests}
use Rattle.std.proofs.lemmas.List.{append-nil}
use Rattle.reg_frames.specs.declared.bodies.Frame.TheVariants.{Got}
use Rattle.reg_base.specs.declared.limits.TheConstants.{LAST_TIME}
use Rattle.reg_process.specs.Process.{State, Peer, no_peer, peer_at, got_frames, stamp_at, acknowledged}
use Rattle.reg_process.specs.Process as process
use Rattle.reg_links.specs.Link.{Unacknowledged, next_of}
use Rattle.reg_links.specs.Link as link
use Rattle.reg_holdback.specs.Waiting.{Waiting}
use Rattle.reg_holdback.specs.Waiting as waiting
use Rattle.reg_frames.specs.declared.puts.Put.{Put}
use Rattle.reg_process.specs.Parts.{Parts, state_of, merged, nothing}
use Rattle.reg_process.specs.Bounds.{Good}
use Rattle.reg_process.specs.Puts.{puts, put_to}
use Rattle.reg_process.specs.Steps.{TakesAck}
use Rattle.reg_process.proofs.Deliveries.{length-merged}
use Rattle.reg_process.proofs.Sending.{grown_good, merged_set, merged_expected, merged_next}

pub clock_good : (p : Parts) → Good p → (k : ℕ) → p.clock < k → k ≤ LAST_TIME → Good (record p { clock = k })
clock_good p good k up top = grown_good p good k p.outs up top (λ i. omega arith) refl

no_put : (from n k : ℕ) → k ≤ from → puts (got_frames from n) k ≡ []
no_put from n zero l = refl
no_put from n (suc k) l =
    let ne : k ≡ from → ⊥ = λ q. absurd (omega (arith, q)) in
    ap (λ b. puts (got_frames from n) k ++ map (put_to k) (cond b (Got n ∷ []) [])) (ne_eqb k from ne) ∙ append-nil (puts (got_frames from n) k) ∙ no_put from n k (omega arith)

pub one_put : (from n k : ℕ) → from < k → puts (got_frames from n) k ≡ put_to from (Got n) ∷ []
one_put from n zero l = absurd (omega arith)
one_put from n (suc k) l = elim (cases_eq k from) [
  | inl q ↦
      ap (λ b. puts (got_frames from n) k ++ map (put_to k) (cond b (Got n ∷ []) [])) (eq-eqb k from q)
      ∙ ap (λ fs. fs ++ put_to k (Got n) ∷ []) (no_put from n k (omega (arith, q)))
      ∙ ap (λ r. put_to r (Got n) ∷ []) q
  | inr ne ↦
      ap (λ b. puts (got_frames from n) k ++ map (put_to k) (cond b (Got n ∷ []) [])) (ne_eqb k from ne) ∙ append-nil (puts (got_frames from n) k) ∙ one_put from n k (omega (arith, ne))
]

module _ (p : Parts) (good : Good p) (from t : ℕ) (peer : from < length p.waiting.seen) where
  counts_more : (k : ℕ) → p.clock + 1 ≤ k → (i : ℕ) → slice_index_or (slice_set p.expected from (slice_index p.expected from + 1)) i 0 ≤ k
  counts_more k up i = elim (cases_eq i from) [
    | inl q ↦
        let l : from < length p.expected = let z = good.ins in omega (arith, z, peer) in
        let a : slice_index_or (slice_set p.expected from (slice_index p.expected from + 1)) i 0 ≡ slice_index p.expected from + 1 = ap (λ k. slice_index_or (slice_set p.expected from (slice_index p.expected from + 1)) k 0) q ∙ get_or-set_same p.expected from (slice_index p.expected from + 1) 0 l in
        let b = good.counts from in omega (arith, a, b, up)
    | inr ne ↦
        let a : slice_index_or (slice_set p.expected from (slice_index p.expected from + 1)) i 0 ≡ slice_index_or p.expected i 0 = get_or-set_other p.expected from i (slice_index p.expected from + 1) 0 ne in
        let b = good.counts i in omega (arith, a, b, up)
  ]

  abbrev pub ack_parts : ℕ → Parts
  ack_parts k = record p { clock = k; waiting = waiting.received p.waiting (stamp_at t from) None; expected = slice_set p.expected from (slice_index p.expected from + 1) }

  ack_good : (k : ℕ) → p.clock < k → k ≤ LAST_TIME → Good (ack_parts k)
  ack_good k up top = let c = clock_good p good k up top in record {
    same = good.same;
    me = let z = length-set p.waiting.seen from t in let y = good.me in omega (arith, z, y);
    processes = let z = length-set p.waiting.seen from t in let y = good.processes in omega (arith, z, y);
    ins = let z = length-set p.waiting.seen from t in let x = length-set p.expected from (slice_index p.expected from + 1) in let y = good.ins in omega (arith, z, x, y);
    out = let z = length-set p.waiting.seen from t in let y = good.out in omega (arith, z, y);
    unsettled = good.unsettled;
    few = good.few;
    calls = good.calls;
    clock = top;
    counted = c.counted;
    held = c.held;
    runs = good.runs;
    numbers = c.numbers;
    counts = counts_more k (omega (arith, up));
  }

  ack_takes : max p.clock t < LAST_TIME → TakesAck (state_of p) from t (put_to from (Got (slice_index p.expected from + 1)) ∷ []) (state_of (ack_parts (max p.clock t + 1)))
  ack_takes room =
      let e : slice_index p.expected from + 1 ≡ (peer_at (state_of p) from).expected + 1 = ap (λ n. n + 1) (sym (merged_expected p.waiting.seen p.expected p.outs from good.ins good.out)) in
      record {
        room = room;
        state =
            let s = state_of p in
            let final : List Peer → State = λ l. record (state_of (ack_parts (max p.clock t + 1))) { peers = l } in
            ap final (merged_set p.waiting.seen p.expected p.outs from t (slice_index p.expected from + 1) good.ins good.out peer
            ∙ ap (λ k. slice_set s.peers from (record (peer_at s from) { seen = t; expected = k })) e);
        put =
            sym (one_put from (slice_index p.expected from + 1) (length (state_of p).peers) (let z = length-merged p.waiting.seen p.expected p.outs good.ins good.out in omega (arith, z, peer)))
            ∙ ap (λ n. puts (got_frames from n) (length (state_of p).peers)) e;
      }

  module _ (clock count : ℕ) (w : Waiting) (ins : List ℕ) (frames : List Put) (room : max p.clock t < LAST_TIME) (clocked : clock ≡ max p.clock t + 1) (counted : count ≡ slice_index p.expected from + 1)
      (held : w ≡ waiting.received p.waiting (stamp_at t from) None) (inned : ins ≡ slice_set p.expected from (slice_index p.expected from + 1)) (put : frames ≡ put_to from (Got count) ∷ []) where
    acked_is : ack_parts (max p.clock t + 1) ≡ record p { clock = clock; waiting = w; expected = ins }
    acked_is =
        ap ack_parts (sym clocked)
        ∙ ap (λ (x : Waiting). record p { clock = clock; waiting = x; expected = slice_set p.expected from (slice_index p.expected from + 1) }) (sym held)
        ∙ ap (λ (x : List ℕ). record p { clock = clock; waiting = w; expected = x }) (sym inned)

    pub acked_good : Good (record p { clock = clock; waiting = w; expected = ins })
    acked_good = subst Good acked_is (ack_good (max p.clock t + 1) (omega arith) (omega (arith, room)))

    pub acked_takes : TakesAck (state_of p) from t frames (state_of (record p { clock = clock; waiting = w; expected = ins }))
    acked_takes =
        subst (λ (x : Parts). TakesAck (state_of p) from t frames (state_of x)) acked_is
        (subst (λ (fs : List Put). TakesAck (state_of p) from t fs (state_of (ack_parts (max p.clock t + 1)))) (sym (put ∙ ap (λ n. put_to from (Got n) ∷ []) counted)) (ack_takes room))

-- a count
merged_out : (ts es : List ℕ) (os : List Unacknowledged) (i : ℕ) (o : Unacknowledged) → length es ≡ length ts
    → length os ≡ length ts → i < length ts →
    merged ts es (slice_set os i o) ≡ slice_set (merged ts es os) i (record (slice_index_or (merged ts es os) i no_peer) { first = o.first; pending = o.pending })
merged_out [] es os i o a b l = absurd (omega arith)
merged_out (x ∷ ts) [] os i o a b l = absurd (omega arith)
merged_out (x ∷ ts) (y ∷ es) [] i o a b l = absurd (omega arith)
merged_out (x ∷ ts) (y ∷ es) (z ∷ os) zero o a b l = refl
merged_out (x ∷ ts) (y ∷ es) (z ∷ os) (suc i) o a b l = ap (λ (l : List Peer). record { seen = x; expected = y; first = z.first; pending = z.pending } ∷ l) (merged_out ts es os i o (omega arith) (omega arith) (omega arith))

pub merged_out_at : (ts es : List ℕ) (os : List Unacknowledged) (i : ℕ) → length es ≡ length ts → length os ≡ length ts
    → (slice_index_or os i nothing)
    ≡ record {
      first = (slice_index_or (merged ts es os) i no_peer).first;
      pending = (slice_index_or (merged ts es os) i no_peer).pending;
    }
merged_out_at [] [] [] i a b = refl
merged_out_at [] (e ∷ es) os i a b = absurd (omega arith)
merged_out_at [] [] (o ∷ os) i a b = absurd (omega arith)
merged_out_at (t ∷ ts) [] os i a b = absurd (omega arith)
merged_out_at (t ∷ ts) (e ∷ es) [] i a b = absurd (omega arith)
merged_out_at (t ∷ ts) (e ∷ es) (o ∷ os) zero a b = refl
merged_out_at (t ∷ ts) (e ∷ es) (o ∷ os) (suc i) a b = merged_out_at ts es os i (omega arith) (omega arith)

-- the links changed, and none has a later number
pub same_good : (p : Parts) → Good p → (outs : List Unacknowledged) → length outs ≡ length p.outs
    → ((i : ℕ) → next_of (slice_index_or outs i nothing) ≤ next_of (slice_index_or p.outs i nothing))
    → Good (record p { outs = outs })
same_good p good outs len low = record {
  same = good.same;
  me = good.me;
  processes = good.processes;
  ins = good.ins;
  out = len ∙ good.out;
  unsettled = good.unsettled;
  few = good.few;
  calls = good.calls;
  clock = good.clock;
  counted = good.counted;
  held = good.held;
  runs = good.runs;
  numbers = λ i. let a = low i in let b = good.numbers i in omega (arith, a, b);
  counts = good.counts;
}

pub set_good : (p : Parts) → Good p → (from : ℕ) (o : Unacknowledged) → from < length p.outs
    → next_of o ≤ next_of (slice_index_or p.outs from nothing) → Good (record p { outs = slice_set p.outs from o })
set_good p good from o l low =
    same_good p good (slice_set p.outs from o) (length-set p.outs from o) (λ i. elim (cases_eq i from) [
      | inl q ↦
          let a = ap next_of (ap (λ k. slice_index_or (slice_set p.outs from o) k nothing) q ∙ get_or-set_same p.outs from o nothing l) in
          let b = ap (λ k. next_of (slice_index_or p.outs k nothing)) q in
          omega (arith, a, b, low)
      | inr ne ↦ let a = ap next_of (get_or-set_other p.outs from i o nothing ne) in omega (arith, a)
    ])

set_same : {X : Type 0} (xs : List X) (i : ℕ) (x d : X) → x ≡ slice_index_or xs i d → i < length xs
    → slice_set xs i x ≡ xs
set_same [] i x d e l = absurd (omega arith)
set_same (y ∷ ys) zero x d e l = ap (λ z. z ∷ ys) e
set_same (y ∷ ys) (suc i) x d e l = ap (λ zs. y ∷ zs) (set_same ys i x d e (omega arith))

module _ (p : Parts) (good : Good p) (from count : ℕ) (peer : from < length p.waiting.seen) (old : Unacknowledged) (is : old ≡ slice_index_or p.outs from nothing) where
  next_is : process.next_of (peer_at (state_of p) from) ≡ next_of old
  next_is = merged_next p.waiting.seen p.expected p.outs from good.ins good.out ∙ ap next_of (sym is)

  pub count_fits : (b : Bool) → (b ≡ true → count ≤ next_of old) → (b ≡ false → next_of old < count)
      → b ≡ not (nat_lt (process.next_of (peer_at (state_of p) from)) count)
  count_fits true h k = let a = h refl in let z = next_is in let e : nat_lt (process.next_of (peer_at (state_of p) from)) count ≡ false = grind (arith, nat_tests) in sym (ap not e)
  count_fits false h k = let a = k refl in let z = next_is in let e : nat_lt (process.next_of (peer_at (state_of p) from)) count ≡ true = grind (arith, nat_tests) in sym (ap not e)

  pub counted_state : (b : Bool) (new : Unacknowledged) → new ≡ cond b (link.acknowledged old count) old
      → state_of (record p { outs = slice_set p.outs from new })
      ≡ cond b (acknowledged (state_of p) from count) (state_of p)
  counted_state true new e =
      let s = state_of p in
      let at : old ≡ record { first = (peer_at s from).first; pending = (peer_at s from).pending } = is ∙ merged_out_at p.waiting.seen p.expected p.outs from good.ins good.out in
      ap (λ (l : List Peer). record s { peers = l }) (merged_out p.waiting.seen p.expected p.outs from new good.ins good.out peer
      ∙ ap (λ (o : Unacknowledged). slice_set s.peers from (record (peer_at s from) { first = o.first; pending = o.pending })) (e ∙ ap (λ (o : Unacknowledged). link.acknowledged o count) at))
  counted_state false new e = ap (λ (os : List Unacknowledged). state_of (record p { outs = os })) (set_same p.outs from new nothing (e ∙ is) (let z = good.out in omega (arith, z, peer)))

pub ok_means : {T E : Type 0} (r : Result T E) (P : Type 0) (v : T) → OkIff r P v → is_ok r ≡ true → P
ok_means (Ok x) P v h e = h.0
ok_means (Err x) P v h e = absurd (cc)

pub err_means : {T E : Type 0} (r : Result T E) (P : Type 0) (v : T) → OkIff r P v → is_ok r ≡ false → P → ⊥
err_means (Ok x) P v h e = absurd (cc)
err_means (Err x) P v h e = h
