-- What is queued and accepted, by the parts of a process.
use Rattle.std.proofs.Common.{◌≡◌, ℕ, zero, suc, ◌+◌, ◌<◌, ◌≤◌, Bool, true, false, List, [], ◌∷◌, ◌++◌, length, max}
use Rattle.std.proofs.Common.{Option, Some, None, refl, sym, ap, ◌∙◌, subst, inl, inr, arith, length-set}
use Rattle.std.proofs.Common.{get_or-set_same, get_or-set_other}
use Rattle.std.specs.Prelude.{cond, ◌==◌, slice_index, slice_index_or, slice_set, count_by}
use Rattle.std.proofs.lemmas.Bool.{cases_eq, eq-eqb, ne_eqb}
use Rattle.reg_base.specs.declared.stamps.Stamp.{Stamp}
use Rattle.reg_base.specs.declared.memory.Op.{Op}
use Rattle.reg_frames.specs.declared.bodies.Body.{Body}
use Rattle.reg_frames.specs.declared.bodies.Body.TheVariants.{Cast, Ack}
use Rattle.reg_frames.specs.declared.bodies.Frame.{Frame}
use Rattle.reg_frames.specs.declared.bodies.Frame.TheVariants.{Numbered, Got}
use Rattle.reg_base.specs.declared.stamps.Delivered.{Delivered}
use Rattle.reg_process.specs.Process.{Running, State, Peer, no_peer, peer_at, queue_from, data_frames, both_frames}
use Rattle.reg_process.specs.Process.{got_frames, stamp_at}
use Rattle.reg_base.specs.declared.limits.TheConstants.{LAST_TIME, MOST_OPERATIONS}
use Rattle.reg_base.specs.Memory.{register_of}
use Rattle.reg_base.specs.Order.{In, insert, below}
use Rattle.reg_process.specs.Process as process
use Rattle.reg_base.proofs.Lists.{in_insert}
use Rattle.reg_process.proofs.Deliver.{count_cons}
use Rattle.reg_links.specs.Link.{Unacknowledged, next_of, with_queued}
use Rattle.reg_holdback.specs.Waiting.{Waiting, cast_of}
use Rattle.reg_holdback.specs.Waiting as waiting
use Rattle.reg_frames.specs.declared.puts.Put.{Put}
use Rattle.reg_process.specs.Parts.{Parts, state_of, merged, nothing}
use Rattle.reg_process.specs.Bounds.{Good, is_from, RunsWell}
use Rattle.reg_process.specs.Puts.{puts}
use Rattle.reg_process.specs.Queued.{body_frames, all_frames, queue_outs, IsGrown}
use Rattle.reg_process.specs.Steps.{MakesCast, TakesCast, own_running}
use Rattle.reg_process.proofs.Deliveries.{length-merged}

abbrev one : Bool → ℕ
one b = cond b 1 0

pub puts_same : (f g : ℕ → List Frame) (n : ℕ) → ((r : ℕ) → f r ≡ g r) → puts f n ≡ puts g n
puts_same f g n h = let e : f ≡ g = λ i r. h r i in ap (λ (t : ℕ → List Frame). puts t n) e

pub merged_queue : (r me : ℕ) (body : Body) (ts es : List ℕ) (os : List Unacknowledged)
    → merged ts es (queue_outs r me body os) ≡ queue_from r me body (merged ts es os)
merged_queue r me body [] es os = refl
merged_queue r me body (t ∷ ts) [] os = refl
merged_queue r me body (t ∷ ts) (e ∷ es) [] = refl
merged_queue r me body (t ∷ ts) (e ∷ es) (o ∷ os) = go (r == me) (merged_queue (suc r) me body ts es os)
  where
    go : (b : Bool) → merged ts es (queue_outs (suc r) me body os) ≡ queue_from (suc r) me body (merged ts es os) →
        record { seen = t; expected = e; first = (cond b o (with_queued o body)).first; pending = (cond b o (with_queued o body)).pending } ∷ merged ts es (queue_outs (suc r) me body os)
        ≡ cond b (record { seen = t; expected = e; first = o.first; pending = o.pending }) (record { seen = t; expected = e; first = o.first; pending = o.pending ++ body ∷ [] }) ∷ queue_from (suc r) me body (merged ts es os)
    go true h = ap (λ (l : List Peer). record { seen = t; expected = e; first = o.first; pending = o.pending } ∷ l) h
    go false h = ap (λ (l : List Peer). record { seen = t; expected = e; first = o.first; pending = o.pending ++ body ∷ [] } ∷ l) h

pub merged_next : (ts es : List ℕ) (os : List Unacknowledged) (r : ℕ) → length es ≡ length ts → length os ≡ length ts
    → process.next_of (slice_index_or (merged ts es os) r no_peer) ≡ next_of (slice_index_or os r nothing)
merged_next [] [] [] r a b = refl
merged_next [] (e ∷ es) os r a b = absurd (omega arith)
merged_next [] [] (o ∷ os) r a b = absurd (omega arith)
merged_next (t ∷ ts) [] os r a b = absurd (omega arith)
merged_next (t ∷ ts) (e ∷ es) [] r a b = absurd (omega arith)
merged_next (t ∷ ts) (e ∷ es) (o ∷ os) zero a b = refl
merged_next (t ∷ ts) (e ∷ es) (o ∷ os) (suc r) a b = merged_next ts es os r (omega arith) (omega arith)

pub merged_expected : (ts es : List ℕ) (os : List Unacknowledged) (r : ℕ) → length es ≡ length ts
    → length os ≡ length ts → (slice_index_or (merged ts es os) r no_peer).expected ≡ slice_index es r
merged_expected [] [] os r a b = refl
merged_expected [] (e ∷ es) os r a b = absurd (omega arith)
merged_expected (t ∷ ts) [] os r a b = absurd (omega arith)
merged_expected (t ∷ ts) (e ∷ es) [] r a b = absurd (omega arith)
merged_expected (t ∷ ts) (e ∷ es) (o ∷ os) zero a b = refl
merged_expected (t ∷ ts) (e ∷ es) (o ∷ os) (suc r) a b = merged_expected ts es os r (omega arith) (omega arith)

pub merged_set : (ts es : List ℕ) (os : List Unacknowledged) (i t e : ℕ) → length es ≡ length ts → length os ≡ length ts
    → i < length ts →
    merged (slice_set ts i t) (slice_set es i e) os ≡ slice_set (merged ts es os) i (record (slice_index_or (merged ts es os) i no_peer) { seen = t; expected = e })
merged_set [] es os i t e a b l = absurd (omega arith)
merged_set (x ∷ ts) [] os i t e a b l = absurd (omega arith)
merged_set (x ∷ ts) (y ∷ es) [] i t e a b l = absurd (omega arith)
merged_set (x ∷ ts) (y ∷ es) (o ∷ os) zero t e a b l = refl
merged_set (x ∷ ts) (y ∷ es) (o ∷ os) (suc i) t e a b l = ap (λ (l : List Peer). record { seen = x; expected = y; first = o.first; pending = o.pending } ∷ l) (merged_set ts es os i t e (omega arith) (omega arith) (omega arith))

pub count_insert : (f : Delivered → Bool) (c : Delivered) (xs : List Delivered)
    → count_by f (insert c xs) ≡ count_by f (c ∷ xs)
count_insert f c [] = refl
count_insert f c (x ∷ xs) = go (below c.stamp x.stamp) (count_insert f c xs)
  where
    go : (b : Bool) → count_by f (insert c xs) ≡ count_by f (c ∷ xs) → count_by f (cond b (c ∷ x ∷ xs) (x ∷ insert c xs)) ≡ count_by f (c ∷ x ∷ xs)
    go true e = refl
    go false e = let a = count_cons f x (insert c xs) in let b = count_cons f c xs in let d = count_cons f c (x ∷ xs) in let g = count_cons f x xs in omega (arith, a, b, d, g, e)

pub length-insert : (c : Delivered) (xs : List Delivered) → length (insert c xs) ≡ suc (length xs)
length-insert c [] = refl
length-insert c (x ∷ xs) = go (below c.stamp x.stamp) (length-insert c xs)
  where
    go : (b : Bool) → length (insert c xs) ≡ suc (length xs) → length (cond b (c ∷ x ∷ xs) (x ∷ insert c xs)) ≡ suc (suc (length xs))
    go true e = refl
    go false e = ap suc e

module _ (p : Parts) (good : Good p) where
  -- a body on some outboxes, and the clock moved on
  pub grown_good : (clock : ℕ) (outs : List Unacknowledged) → p.clock < clock → clock ≤ LAST_TIME → IsGrown p.outs outs
      → length outs ≡ length p.outs → Good (record p { clock = clock; outs = outs })
  grown_good clock outs up top grown len = record {
    same = good.same;
    me = good.me;
    processes = good.processes;
    ins = good.ins;
    out = len ∙ good.out;
    unsettled = good.unsettled;
    few = good.few;
    calls = good.calls;
    clock = top;
    counted = let z = good.counted in omega (arith, z, up);
    held = λ c i. let z = good.held c i in let y = z.0 in (omega (arith, y, up), z.1);
    runs = good.runs;
    numbers = λ i. let a = grown i in let b = good.numbers i in omega (arith, a, b, up);
    counts = λ i. let b = good.counts i in omega (arith, b, up);
  }

  pub own_frames : (body : Body)
      → puts (all_frames None p.me body p.outs) (length p.outs)
      ≡ puts (data_frames (state_of p) (Some body)) (length (state_of p).peers)
  own_frames body =
      puts_same (all_frames None p.me body p.outs) (data_frames (state_of p) (Some body)) (length p.outs) (λ r.
      ap (λ n. cond (r == p.me) [] (Numbered n body ∷ [])) (sym (merged_next p.waiting.seen p.expected p.outs r good.ins good.out)))
      ∙ ap (puts (data_frames (state_of p) (Some body))) (good.out ∙ sym (length-merged p.waiting.seen p.expected p.outs good.ins good.out))

  pub none_later : (s : Stamp) → s.process ≡ p.me → p.clock < s.time → (c : Delivered) → In c p.waiting.held
      → c.stamp.process ≡ s.process → c.stamp.time < s.time
  none_later s e up c i q = let z = (good.held c i).0 in omega (arith, z, up)

  module _ (op : Op) (runs : Bool) (room : p.clock < LAST_TIME) (few : p.calls < MOST_OPERATIONS) (register : register_of op < length p.copy) where
    abbrev stamp : Stamp
    stamp = stamp_at (p.clock + 1) p.me

    abbrev pub cast_parts : Parts
    cast_parts = record p {
      clock = p.clock + 1;
      waiting = waiting.with_cast p.waiting (stamp_at (p.clock + 1) p.me) op;
      outs = queue_outs 0 p.me (Cast (p.clock + 1) op) p.outs;
      unsettled = p.unsettled + 1;
      running = own_running runs (stamp_at (p.clock + 1) p.me) op;
      calls = p.calls + 1;
    }

    own_runs : (b : Bool) → RunsWell (length p.copy) (p.unsettled + 1) (own_running b (stamp_at (p.clock + 1) p.me) op)
    own_runs true = register
    own_runs false = tt

    -- with the outboxes grown
    pub cast_good : IsGrown p.outs (queue_outs 0 p.me (Cast (p.clock + 1) op) p.outs) → length (queue_outs 0 p.me (Cast (p.clock + 1) op) p.outs) ≡ length p.outs → Good cast_parts
    cast_good grown len = record {
      same = good.same;
      me = good.me;
      processes = good.processes;
      ins = good.ins;
      out = len ∙ good.out;
      unsettled =
          let c : Delivered = cast_of (stamp_at (p.clock + 1) p.me, op) in
          let a = count_insert (is_from p.me) c p.waiting.held in
          let b = count_cons (is_from p.me) c p.waiting.held in
          let d : one (p.me == p.me) ≡ 1 = ap one (eq-eqb p.me p.me refl) in
          let e = good.unsettled in
          omega (arith, a, b, d, e);
      few = let z = good.few in omega (arith, z);
      calls = omega (arith, few);
      clock = omega (arith, room);
      counted = let z = length-insert (cast_of (stamp_at (p.clock + 1) p.me, op)) p.waiting.held in let y = good.counted in omega (arith, z, y);
      held = λ c i. elim (in_insert c (cast_of (stamp_at (p.clock + 1) p.me, op)) p.waiting.held i) [
        | inl q ↦
            let t : c.stamp.time ≡ p.clock + 1 = ap (λ (d : Delivered). d.stamp.time) q in
            let r : register_of c.op ≡ register_of op = ap (λ (d : Delivered). register_of d.op) q in
            (omega (arith, t), omega (arith, r, register))
        | inr j ↦ let z = good.held c j in let y = z.0 in (omega (arith, y), z.1)
      ];
      runs = own_runs runs;
      numbers = λ i. let a = grown i in let b = good.numbers i in omega (arith, a, b);
      counts = λ i. let b = good.counts i in omega (arith, b);
    }

    pub cast_made_is : MakesCast (state_of p) op runs (stamp_at (p.clock + 1) p.me) (puts (all_frames None p.me (Cast (p.clock + 1) op) p.outs) (length p.outs)) (state_of cast_parts)
    cast_made_is = record {
      room = room;
      stamp = refl;
      state = ap (λ (l : List Peer). record (state_of cast_parts) { peers = l }) (merged_queue 0 p.me (Cast (p.clock + 1) op) p.waiting.seen p.expected p.outs);
      put = own_frames (Cast (p.clock + 1) op);
    }

abbrev pub cast_at_time : Parts → Op → Bool → ℕ → Parts
cast_at_time p op runs t = record p {
  clock = t;
  waiting = waiting.with_cast p.waiting (stamp_at t p.me) op;
  outs = queue_outs 0 p.me (Cast t op) p.outs;
  unsettled = p.unsettled + 1;
  running = own_running runs (stamp_at t p.me) op;
  calls = p.calls + 1;
}

-- the parts that the code made
abbrev pub made_cast : Parts → ℕ → Waiting → List Unacknowledged → Option Running → Parts
made_cast p clock w outs running = record p { clock = clock; waiting = w; outs = outs; unsettled = p.unsettled + 1; running = running; calls = p.calls + 1 }

module _ (p : Parts) (good : Good p) (op : Op) (runs : Bool) (room : p.clock < LAST_TIME) (few : p.calls < MOST_OPERATIONS) (register : register_of op < length p.copy)
    (t clock : ℕ) (w : Waiting) (outs : List Unacknowledged) (running : Option Running) (frames : List Put)
    (time : t ≡ p.clock + 1) (clocked : clock ≡ p.clock + 1) (held : w ≡ waiting.with_cast p.waiting (stamp_at t p.me) op) (queued : outs ≡ queue_outs 0 p.me (Cast t op) p.outs)
    (run : running ≡ own_running runs (stamp_at t p.me) op) (put : frames ≡ puts (all_frames None p.me (Cast t op) p.outs) (length p.outs)) (grown : IsGrown p.outs outs) (len : length outs ≡ length p.outs) where
  made_cast_is : cast_parts p good op runs room few register ≡ made_cast p clock w outs running
  made_cast_is =
      ap (cast_at_time p op runs) (sym time)
      ∙ ap (λ k. record (cast_at_time p op runs t) { clock = k }) (time ∙ sym clocked)
      ∙ ap (λ (x : Waiting). record (cast_at_time p op runs t) { clock = clock; waiting = x }) (sym held)
      ∙ ap (λ (x : List Unacknowledged). record (cast_at_time p op runs t) { clock = clock; waiting = w; outs = x }) (sym queued)
      ∙ ap (λ (x : Option Running). made_cast p clock w outs x) (sym run)

  outs_is : outs ≡ queue_outs 0 p.me (Cast (p.clock + 1) op) p.outs
  outs_is = queued ∙ ap (λ k. queue_outs 0 p.me (Cast k op) p.outs) time

  pub made_cast_good : Good (made_cast p clock w outs running)
  made_cast_good = subst Good made_cast_is (cast_good p good op runs room few register (subst (IsGrown p.outs) outs_is grown) (sym (ap length outs_is) ∙ len))

  pub made_cast_makes : MakesCast (state_of p) op runs (stamp_at t p.me) frames
      (state_of (made_cast p clock w outs running))
  made_cast_makes =
      let m = cast_made_is p good op runs room few register in
      subst (λ (x : Parts). MakesCast (state_of p) op runs (stamp_at t p.me) frames (state_of x)) made_cast_is
      (subst (λ (fs : List Put). MakesCast (state_of p) op runs (stamp_at t p.me) fs (state_of (cast_parts p good op runs room few register))) (sym (put ∙ ap (λ k. puts (all_frames None p.me (Cast k op) p.outs) (length p.outs)) time))
      (subst (λ k. MakesCast (state_of p) op runs (stamp_at k p.me) (puts (all_frames None p.me (Cast (p.clock + 1) op) p.outs) (length p.outs)) (state_of (cast_parts p good op runs room few register))) (sym time) m))

-- Where a body of another process is accepted.
module _ (p : Parts) (good : Good p) (from t : ℕ) (op : Op) (peer : from < length p.waiting.seen) (register : register_of op < length p.copy) where
  abbrev e : ℕ
  e = slice_index p.expected from + 1

  abbrev pub accept_at : ℕ → ℕ → Parts
  accept_at now count = record p {
    clock = now;
    waiting = waiting.received p.waiting (stamp_at t from) (Some op);
    expected = slice_set p.expected from count;
    outs = queue_outs 0 p.me (Ack now) p.outs;
  }

  abbrev pub later : ℕ
  later = max p.clock t + 1

  pub more_counts : (k : ℕ) → p.clock + 1 ≤ k → (i : ℕ)
      → slice_index_or (slice_set p.expected from (slice_index p.expected from + 1)) i 0 ≤ k
  more_counts k up i = elim (cases_eq i from) [
    | inl q ↦
        let l : from < length p.expected = let z = good.ins in omega (arith, z, peer) in
        let a : slice_index_or (slice_set p.expected from (slice_index p.expected from + 1)) i 0 ≡ slice_index p.expected from + 1 = ap (λ k. slice_index_or (slice_set p.expected from (slice_index p.expected from + 1)) k 0) q ∙ get_or-set_same p.expected from (slice_index p.expected from + 1) 0 l in
        let b = good.counts from in omega (arith, a, b, up)
    | inr ne ↦
        let a : slice_index_or (slice_set p.expected from (slice_index p.expected from + 1)) i 0 ≡ slice_index_or p.expected i 0 = get_or-set_other p.expected from i (slice_index p.expected from + 1) 0 ne in
        let b = good.counts i in omega (arith, a, b, up)
  ]

  pub accept_good : (now : ℕ) → now ≡ max p.clock t + 1 → now ≤ LAST_TIME → (from ≡ p.me → ⊥)
      → IsGrown p.outs (queue_outs 0 p.me (Ack now) p.outs)
      → length (queue_outs 0 p.me (Ack now) p.outs) ≡ length p.outs
      → Good (accept_at now (slice_index p.expected from + 1))
  accept_good now is top other grown len = record {
    same = good.same;
    me = let z = length-set p.waiting.seen from t in let y = good.me in omega (arith, z, y);
    processes = let z = length-set p.waiting.seen from t in let y = good.processes in omega (arith, z, y);
    ins = let z = length-set p.waiting.seen from t in let x = length-set p.expected from (slice_index p.expected from + 1) in let y = good.ins in omega (arith, z, x, y);
    out = let z = length-set p.waiting.seen from t in let y = good.out in omega (arith, z, y, len);
    unsettled =
        let c : Delivered = cast_of (stamp_at t from, op) in
        let a = count_insert (is_from p.me) c p.waiting.held in
        let b = count_cons (is_from p.me) c p.waiting.held in
        let d : one (from == p.me) ≡ 0 = ap one (ne_eqb from p.me other) in
        let e = good.unsettled in
        omega (arith, a, b, d, e);
    few = good.few;
    calls = good.calls;
    clock = top;
    counted = let z = length-insert (cast_of (stamp_at t from, op)) p.waiting.held in let y = good.counted in omega (arith, z, y, is);
    held = λ c i. elim (in_insert c (cast_of (stamp_at t from, op)) p.waiting.held i) [
      | inl q ↦
          let a : c.stamp.time ≡ t = ap (λ (d : Delivered). d.stamp.time) q in
          let r : register_of c.op ≡ register_of op = ap (λ (d : Delivered). register_of d.op) q in
          (omega (arith, a, is), omega (arith, r, register))
      | inr j ↦ let z = good.held c j in let y = z.0 in (omega (arith, y, is), z.1)
    ];
    runs = good.runs;
    numbers = λ i. let a = grown i in let b = good.numbers i in omega (arith, a, b, is);
    counts = more_counts now (omega (arith, is));
  }

  pub expected_is : slice_index p.expected from + 1 ≡ (peer_at (state_of p) from).expected + 1
  expected_is = ap (λ n. n + 1) (sym (merged_expected p.waiting.seen p.expected p.outs from good.ins good.out))

  pub accept_takes : max p.clock t < LAST_TIME
      → TakesCast (state_of p) from t op
      (puts (all_frames (Some (from, slice_index p.expected from + 1)) p.me (Ack (max p.clock t + 1)) p.outs)
      (length p.outs))
      (state_of (accept_at (max p.clock t + 1) (slice_index p.expected from + 1)))
  accept_takes room = record {
    room = room;
    state =
        let s = state_of p in
        let now : ℕ = max p.clock t + 1 in
        let final : List Peer → State = λ l. record (state_of (accept_at now (slice_index p.expected from + 1))) { peers = l } in
        ap final (merged_queue 0 p.me (Ack now) (slice_set p.waiting.seen from t) (slice_set p.expected from (slice_index p.expected from + 1)) p.outs
        ∙ ap (queue_from 0 p.me (Ack now)) (merged_set p.waiting.seen p.expected p.outs from t (slice_index p.expected from + 1) good.ins good.out peer
        ∙ ap (λ k. slice_set s.peers from (record (peer_at s from) { seen = t; expected = k })) expected_is));
    put =
        let s = state_of p in
        let now : ℕ = max p.clock t + 1 in
        puts_same (all_frames (Some (from, slice_index p.expected from + 1)) p.me (Ack now) p.outs) (both_frames (got_frames from ((peer_at s from).expected + 1)) (data_frames s (Some (Ack now)))) (length p.outs) (λ r.
        ap (λ k. cond (r == from) (Got k ∷ []) [] ++ body_frames p.me (Ack now) r (slice_index_or p.outs r nothing)) expected_is
        ∙ ap (λ n. cond (r == from) (Got ((peer_at s from).expected + 1) ∷ []) [] ++ cond (r == p.me) [] (Numbered n (Ack now) ∷ [])) (sym (merged_next p.waiting.seen p.expected p.outs r good.ins good.out)))
        ∙ ap (puts (both_frames (got_frames from ((peer_at s from).expected + 1)) (data_frames s (Some (Ack now))))) (good.out ∙ sym (length-merged p.waiting.seen p.expected p.outs good.ins good.out));
  }

  module _ (now clock count : ℕ) (w : Waiting) (outs : List Unacknowledged) (ins : List ℕ) (frames : List Put)
      (room : max p.clock t < LAST_TIME) (other : from ≡ p.me → ⊥) (time : now ≡ max p.clock t + 1) (clocked : clock ≡ max p.clock t + 1) (counted : count ≡ slice_index p.expected from + 1)
      (held : w ≡ waiting.received p.waiting (stamp_at t from) (Some op)) (queued : outs ≡ queue_outs 0 p.me (Ack now) p.outs) (inned : ins ≡ slice_set p.expected from (slice_index p.expected from + 1))
      (put : frames ≡ puts (all_frames (Some (from, count)) p.me (Ack now) p.outs) (length p.outs)) (grown : IsGrown p.outs outs) (len : length outs ≡ length p.outs) where
    accepted_is : accept_at (max p.clock t + 1) (slice_index p.expected from + 1) ≡ record p { clock = clock; waiting = w; expected = ins; outs = outs }
    accepted_is =
        ap (λ k. record p { clock = k; waiting = waiting.received p.waiting (stamp_at t from) (Some op); expected = slice_set p.expected from (slice_index p.expected from + 1); outs = queue_outs 0 p.me (Ack (max p.clock t + 1)) p.outs }) (sym clocked)
        ∙ ap (λ (x : Waiting). record p { clock = clock; waiting = x; expected = slice_set p.expected from (slice_index p.expected from + 1); outs = queue_outs 0 p.me (Ack (max p.clock t + 1)) p.outs }) (sym held)
        ∙ ap (λ (x : List ℕ). record p { clock = clock; waiting = w; expected = x; outs = queue_outs 0 p.me (Ack (max p.clock t + 1)) p.outs }) (sym inned)
        ∙ ap (λ (x : List Unacknowledged). record p { clock = clock; waiting = w; expected = ins; outs = x }) (ap (λ k. queue_outs 0 p.me (Ack k) p.outs) (sym time) ∙ sym queued)

    outs_now : outs ≡ queue_outs 0 p.me (Ack (max p.clock t + 1)) p.outs
    outs_now = queued ∙ ap (λ k. queue_outs 0 p.me (Ack k) p.outs) time

    pub accepted_good : Good (record p { clock = clock; waiting = w; expected = ins; outs = outs })
    accepted_good = subst Good accepted_is (accept_good (max p.clock t + 1) refl (omega (arith, room)) other (subst (IsGrown p.outs) outs_now grown) (sym (ap length outs_now) ∙ len))

    pub accepted_takes : TakesCast (state_of p) from t op frames (state_of (record p { clock = clock; waiting = w; expected = ins; outs = outs }))
    accepted_takes =
        subst (λ (x : Parts). TakesCast (state_of p) from t op frames (state_of x)) accepted_is
        (subst (λ (fs : List Put). TakesCast (state_of p) from t op fs (state_of (accept_at (max p.clock t + 1) (slice_index p.expected from + 1))))
        (sym (put ∙ ap (λ n. puts (all_frames (Some (from, n)) p.me (Ack now) p.outs) (length p.outs)) counted ∙ ap (λ k. puts (all_frames (Some (from, slice_index p.expected from + 1)) p.me (Ack k) p.outs) (length p.outs)) time))
        (accept_takes room))
