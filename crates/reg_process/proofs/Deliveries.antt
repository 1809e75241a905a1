-- One delivery, by the parts of a process.
use Rattle.std.proofs.Common.{◌≡◌, ℕ, zero, suc, ◌+◌, ◌-◌, ◌<◌, Bool, true, false, List, [], ◌∷◌, length, Option, Some}
use Rattle.std.proofs.Common.{None, refl, sym, ap, ◌∙◌, subst, inl, inr, arith}
use Rattle.std.specs.List.{filter}
use Rattle.std.specs.Prelude.{cond, ◌==◌, slice_index, slice_index_or, count_by}
use Rattle.std.proofs.lemmas.Bool.{eq-eqb, false≢true}
use mir.Val.{bool_byte}
use Rattle.reg_base.specs.declared.stamps.Stamp.{Stamp}
use Rattle.reg_base.specs.declared.stamps.Delivered.{Delivered}
use Rattle.reg_process.specs.declared.steps.Reply.{Reply}
use Rattle.reg_process.specs.Process.{Running, Own, Held, State, no_peer, seen_at, is_clear, clear_casts, still}
use Rattle.reg_process.specs.Process.{delivered_state, is_stamp, due}
use Rattle.reg_base.specs.Memory.{Memory, after, register_of, answer_of}
use Rattle.reg_base.proofs.Operations.{length-after}
use Rattle.reg_base.specs.Order.{In, Rising}
use Rattle.reg_base.specs.Order as order
use Rattle.reg_process.specs.Delivery.{reply_one, popped, Waits, reply_by, delivered_parts}
use Rattle.reg_process.specs.Faults.{first_of}
use Rattle.reg_process.proofs.Pops.{none_clear}
use Rattle.reg_process.proofs.Deliver.{count_cons, one_clear, one_state, one_due, end_due, end_state}
use Rattle.reg_links.specs.Link.{Unacknowledged}
use Rattle.reg_holdback.specs.Waiting.{Waiting, ready_in, ready_of, tail_of, without_first}
use Rattle.reg_process.specs.Parts.{Parts, state_of, merged}
use Rattle.reg_process.specs.Bounds.{Good, RunsWell, is_from}
use Rattle.reg_process.specs.Steps.{DeliversOne, DeliversNone}

pub merged_seen : (ts es : List ℕ) (os : List Unacknowledged) (r : ℕ) → length es ≡ length ts → length os ≡ length ts
    → (slice_index_or (merged ts es os) r no_peer).seen ≡ slice_index ts r
merged_seen [] es os r a b = refl
merged_seen (t ∷ ts) [] os r a b = absurd (omega arith)
merged_seen (t ∷ ts) (e ∷ es) [] r a b = absurd (omega arith)
merged_seen (t ∷ ts) (e ∷ es) (o ∷ os) zero a b = refl
merged_seen (t ∷ ts) (e ∷ es) (o ∷ os) (suc r) a b = merged_seen ts es os r (omega arith) (omega arith)

pub length-merged : (ts es : List ℕ) (os : List Unacknowledged) → length es ≡ length ts → length os ≡ length ts
    → length (merged ts es os) ≡ length ts
length-merged [] es os a b = refl
length-merged (t ∷ ts) [] os a b = absurd (omega arith)
length-merged (t ∷ ts) (e ∷ es) [] a b = absurd (omega arith)
length-merged (t ∷ ts) (e ∷ es) (o ∷ os) a b = ap suc (length-merged ts es os (omega arith) (omega arith))

module _ (p : Parts) (good : Good p) where
  -- the queue's test is the definition's
  pub clear_is : (stamp : Stamp)
      → order.is_clear p.waiting.me (slice_index p.waiting.seen) (length p.waiting.seen) stamp
      ≡ is_clear (state_of p) stamp
  clear_is stamp =
      let seen : slice_index p.waiting.seen ≡ seen_at (state_of p) = λ i r. sym (merged_seen p.waiting.seen p.expected p.outs r good.ins good.out) i in
      ap (λ me. order.is_clear me (slice_index p.waiting.seen) (length p.waiting.seen) stamp) good.same
      ∙ ap (λ (f : ℕ → ℕ). order.is_clear p.me f (length p.waiting.seen) stamp) seen
      ∙ ap (λ n. order.is_clear p.me (seen_at (state_of p)) n stamp) (sym (length-merged p.waiting.seen p.expected p.outs good.ins good.out))

  pub waits : Waits (state_of p) p.running
  waits = go p.running good.runs
    where
      go : (r : Option Running) → RunsWell (length p.copy) p.unsettled r → Waits (state_of p) r
      go None h = tt
      go (Some (Own stamp op)) h = tt
      go (Some (Held op)) h = let e = good.unsettled in let z = h.1 in omega (arith, e, z)

pub ready_parts : (w : Waiting) (c : Delivered) → Some c ≡ ready_of w
    → (rest : List Delivered) × (w.held ≡ c ∷ rest)
    × (order.is_clear w.me (slice_index w.seen) (length w.seen) c.stamp ≡ true)
ready_parts w c h = go w.held h
  where
    go : (held : List Delivered) → Some c ≡ ready_in w.me w.seen held → (rest : List Delivered) × (held ≡ c ∷ rest) × (order.is_clear w.me (slice_index w.seen) (length w.seen) c.stamp ≡ true)
    go [] k = absurd (cc)
    go (d ∷ ds) k = elim (order.is_clear w.me (slice_index w.seen) (length w.seen) d.stamp) as (λ b. order.is_clear w.me (slice_index w.seen) (length w.seen) d.stamp ≡ b → Some c ≡ cond b (Some d) None → (rest : List Delivered) × ((d ∷ ds) ≡ c ∷ rest) × (order.is_clear w.me (slice_index w.seen) (length w.seen) c.stamp ≡ true)) [
      | true ↦ λ e q. let same : d ≡ c = cc in (ds, ap (λ (x : Delivered). x ∷ ds) same, ap (λ (x : Delivered). order.is_clear w.me (slice_index w.seen) (length w.seen) x.stamp) (sym same) ∙ e)
      | false ↦ λ e q. absurd (cc)
    ] refl k

module _ (p : Parts) (good : Good p) (c : Delivered) (rest : List Delivered) (left : ℕ) (held : p.waiting.held ≡ c ∷ rest) (less : left ≡ p.unsettled - cond (is_from p.me c) 1 0) where
  counted : p.unsettled ≡ cond (is_from p.me c) 1 0 + count_by (is_from p.me) rest
  counted = good.unsettled ∙ ap (count_by (is_from p.me)) held ∙ count_cons (is_from p.me) c rest

  pub left_is : left ≡ count_by (is_from p.me) rest
  left_is = let z = counted in omega (arith, less, z)

  runs : (r : Option Running) → RunsWell (length p.copy) p.unsettled r → RunsWell (length (after c.op p.copy)) left (still (reply_by p.copy p.delivered left c r) r)
  runs None h = tt
  runs (Some (Own stamp op)) h = go (is_stamp stamp c)
    where
      go : (b : Bool) → RunsWell (length (after c.op p.copy)) left (still (cond b (Some (record { answer = answer_of op p.copy; place = p.delivered })) None) (Some (Own stamp op)))
      go true = tt
      go false = let z = length-after c.op p.copy in omega (arith, z, h)
  runs (Some (Held op)) h = go (left == 0) refl
    where
      go : (b : Bool) → (left == 0) ≡ b → RunsWell (length (after c.op p.copy)) left (still (cond b (Some (record { answer = answer_of op (after c.op p.copy); place = p.delivered + 1 })) None) (Some (Held op)))
      go true e = tt
      go false e =
          let nz : left ≡ 0 → ⊥ = λ q. false≢true (sym e ∙ eq-eqb left 0 q) in
          (let z = length-after c.op p.copy in let y = h.0 in omega (arith, z, y), omega (arith, nz))

  pub good_next : Good (delivered_parts p c rest left)
  good_next = record {
    same = good.same;
    me = good.me;
    processes = good.processes;
    ins = good.ins;
    out = good.out;
    unsettled = left_is;
    few = let f = good.few in omega (arith, less, f);
    calls = good.calls;
    clock = good.clock;
    counted = let n : length p.waiting.held ≡ suc (length rest) = ap length held in let k = good.counted in omega (arith, n, k);
    held = λ d i.
        let h = good.held d (subst (λ (l : List Delivered). In d l) (sym held) (inr i)) in
        (h.0, (let z = length-after c.op p.copy in let y = h.1 in omega (arith, z, y)));
    runs = runs p.running good.runs;
    numbers = good.numbers;
    counts = good.counts;
  }

  reply_is : (r : Option Running) → reply_by p.copy p.delivered left c r ≡ reply_one (state_of p) c rest r
  reply_is r = ap (λ n. reply_by p.copy p.delivered n c r) left_is

  next_is : popped (state_of p) c rest ≡ state_of (delivered_parts p c rest left)
  next_is = ap (λ (o : Option Reply). record (popped (state_of p) c rest) { running = still o p.running }) (sym (reply_is p.running))

  pub delivers_one : Rising p.waiting.held
      → order.is_clear p.waiting.me (slice_index p.waiting.seen) (length p.waiting.seen) c.stamp ≡ true
      → DeliversOne (state_of p) c (reply_by p.copy p.delivered left c p.running)
      (state_of (delivered_parts p c rest left))
  delivers_one r k =
      let clear : is_clear (state_of p) c.stamp ≡ true = sym (clear_is p good c.stamp) ∙ k in
      let w = waits p good in
      record {
        casts = one_clear (state_of p) c rest held r clear ∙ ap (λ (s : State). c ∷ clear_casts s) next_is;
        state = one_state (state_of p) c rest held r clear w ∙ ap delivered_state next_is;
        answer =
            one_due (state_of p) c rest held r clear w
            ∙ ap (λ (o : Option Reply). first_of o (due (popped (state_of p) c rest))) (sym (reply_is p.running))
            ∙ ap (λ (s : State). first_of (reply_by p.copy p.delivered left c p.running) (due s)) next_is;
      }

-- nothing is ready
pub delivers_none : (p : Parts) → Good p → Rising p.waiting.held → None ≡ ready_of p.waiting → DeliversNone (state_of p)
delivers_none p good r h =
    let s = state_of p in
    let e : clear_casts s ≡ [] = go p.waiting.held refl h in
    record { casts = e; state = end_state s e (waits p good); answer = end_due s e (waits p good) }
  where
    go : (held : List Delivered) → p.waiting.held ≡ held → None ≡ ready_in p.waiting.me p.waiting.seen held → clear_casts (state_of p) ≡ []
    go [] q k = ap (filter (λ c. is_clear (state_of p) c.stamp)) q
    go (c ∷ cs) q k = none_clear (state_of p) c cs q r (sym (clear_is p good c.stamp) ∙ no (order.is_clear p.waiting.me (slice_index p.waiting.seen) (length p.waiting.seen) c.stamp) k)
      where
        no : (b : Bool) → None ≡ cond b (Some c) None → b ≡ false
        no true x = absurd (cc)
        no false x = refl

pub byte_is : (b : Bool) → bool_byte b ≡ cond b 1 0
byte_is true = refl
byte_is false = refl

-- the parts that the code made
abbrev pub made : Parts → Waiting → Memory → ℕ → Option Running → Parts
made p w m left running =
    record p { waiting = w; copy = m; delivered = p.delivered + 1; unsettled = left; running = running }

module _ (p : Parts) (good : Good p) (c : Delivered) (w : Waiting) (m : Memory) (n : ℕ) (reply : Option Reply) (running : Option Running)
    (ready : Some c ≡ ready_of p.waiting) (first : w ≡ without_first p.waiting) (byte : n ≡ bool_byte (is_from p.me c)) (copied : m ≡ after c.op p.copy)
    (replied : reply ≡ reply_by p.copy p.delivered (p.unsettled - n) c p.running) (runs_on : running ≡ still reply p.running) where
  abbrev rest : List Delivered
  rest = (ready_parts p.waiting c ready).0

  held_is : p.waiting.held ≡ c ∷ rest
  held_is = (ready_parts p.waiting c ready).1

  less : p.unsettled - n ≡ p.unsettled - cond (is_from p.me c) 1 0
  less = ap (λ k. p.unsettled - k) (byte ∙ byte_is (is_from p.me c))

  made_is : delivered_parts p c rest (p.unsettled - n) ≡ made p w m (p.unsettled - n) running
  made_is =
      let e : record p.waiting { held = rest } ≡ w = ap (λ l. record p.waiting { held = tail_of l }) (sym held_is) ∙ sym first in
      let r : still (reply_by p.copy p.delivered (p.unsettled - n) c p.running) p.running ≡ running = ap (λ (o : Option Reply). still o p.running) (sym replied) ∙ sym runs_on in
      ap (λ (x : Waiting). made p x (after c.op p.copy) (p.unsettled - n) (still (reply_by p.copy p.delivered (p.unsettled - n) c p.running) p.running)) e
      ∙ ap (λ (x : Memory). made p w x (p.unsettled - n) (still (reply_by p.copy p.delivered (p.unsettled - n) c p.running) p.running)) (sym copied)
      ∙ ap (made p w m (p.unsettled - n)) r

  pub made_good : Good (made p w m (p.unsettled - n) running)
  made_good = subst Good made_is (good_next p good c rest (p.unsettled - n) held_is less)

  pub made_one : Rising p.waiting.held
      → DeliversOne (state_of p) c reply (state_of (made p w m (p.unsettled - n) running))
  made_one r =
      let d = delivers_one p good c rest (p.unsettled - n) held_is less r (ready_parts p.waiting c ready).2 in
      subst (λ (x : Option Reply). DeliversOne (state_of p) c x (state_of (made p w m (p.unsettled - n) running))) (sym replied)
      (subst (λ (x : Parts). DeliversOne (state_of p) c (reply_by p.copy p.delivered (p.unsettled - n) c p.running) (state_of x)) made_is d)

pub ready_well : (p : Parts) → Good p → (c : Delivered) → Some c ≡ ready_of p.waiting → register_of c.op < length p.copy
ready_well p good c h =
    let r = ready_parts p.waiting c h in (good.held c (subst (λ (l : List Delivered). In c l) (sym r.1) (inl refl))).1
