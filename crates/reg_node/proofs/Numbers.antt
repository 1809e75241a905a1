-- The bodies that went out have numbers below the next one.
use Rattle.std.proofs.Common.{◌≡◌, ℕ, zero, suc, ◌+◌, ◌-◌, ◌<◌, ◌≤◌, Bool, true, false, List, [], ◌∷◌, ◌++◌, length}
use Rattle.std.proofs.Common.{take, drop, map, Option, None, Some, refl, ap, sym, ◌∙◌, subst, arith, inl, inr}
use Rattle.std.proofs.Common.{length-append, length-drop, length-set}
use Rattle.std.specs.Prelude.{cond, max, slice_index_or, slice_set, nat_lt, nat_le, ◌==◌, ◌||◌}
use Rattle.std.proofs.lemmas.Bool.{cond_both, ltb-false, eq-eqb}
use Rattle.std.proofs.lemmas.Option.{slice_get_within}
use Rattle.reg_base.specs.declared.memory.Op.{Op}
use Rattle.reg_base.specs.declared.limits.TheConstants.{MOST_RESENT}
use Rattle.reg_base.specs.Order.{In}
use Rattle.reg_base.proofs.Lists.{in_cases}
use Rattle.reg_frames.specs.declared.bodies.Body.{Body}
use Rattle.reg_frames.specs.declared.bodies.Body.TheVariants.{Cast, Ack}
use Rattle.reg_frames.specs.declared.bodies.Frame.{Frame}
use Rattle.reg_frames.specs.declared.bodies.Frame.TheVariants.{Numbered, Got}
use Rattle.reg_frames.specs.declared.puts.Put.{Put}
use Rattle.reg_front.specs.declared.starts.Start.{Start}
use Rattle.reg_front.specs.declared.starts.Start.TheVariants.{Cast as Casts, CastAndAnswer as CastsAndAnswers}
use Rattle.reg_front.specs.declared.starts.Start.TheVariants.{Look as Looks, Hold as Holds}
use Rattle.reg_process.specs.declared.faults.ProcessFault.{ProcessFault}
use Rattle.reg_process.specs.declared.faults.ProcessFault.TheVariants.{NoProcess, Ahead}
use Rattle.reg_process.specs.declared.steps.Step.{Step}
use Rattle.reg_process.specs.declared.steps.Step.TheVariants.{Call, Take, Tick}
use Rattle.reg_process.specs.Process.{State, Peer, no_peer, peer_at, next_of, unsettled, queue_from, data_frames}
use Rattle.reg_process.specs.Process.{got_frames, accepted, accepts, acknowledged, called, quiet, resent, numbered_from}
use Rattle.reg_process.specs.Process.{step}
use Rattle.reg_process.specs.Faults.{step_fault, frame_fault}
use Rattle.reg_process.specs.Puts.{put_to, puts}
use Rattle.reg_process.proofs.Peers.{queue_other}
use Rattle.reg_records.specs.declared.entries.LogEntry.{LogEntry}
use Rattle.reg_world.proofs.one_order.Frames.{data_numbered, got_no_numbered, numbered_in, place_take}
use Rattle.reg_node.specs.Logs.{Outgoing, AreSteps, state_after, outputs_of}

-- a frame that an event puts for a process is one of those for it
in_mapped : (m : ℕ) (x : Put) (fs : List Frame) → In x (map (put_to m) fs) → In x.frame fs × (x.to ≡ m)
in_mapped m x [] h = absurd h
in_mapped m x (f ∷ fs) (inl e) = (inl (ap (λ (p : Put). p.frame) e), ap (λ (p : Put). p.to) e)
in_mapped m x (f ∷ fs) (inr h) = let r = in_mapped m x fs h in (inr r.0, r.1)

pub in_puts : (frames : ℕ → List Frame) (n : ℕ) (x : Put) → In x (puts frames n) → (x.to < n) × In x.frame (frames x.to)
in_puts frames zero x h = absurd h
in_puts frames (suc m) x h = elim (in_cases x (puts frames m) (map (put_to m) (frames m)) h) [
  | inl a ↦ let r = in_puts frames m x a in (omega arith, r.1)
  | inr b ↦ let r = in_mapped m x (frames m) b in ((let e = r.1 in omega arith), subst (λ (k : ℕ). In x.frame (frames k)) (sym r.1) r.0)
]

-- queueing a body makes the next number no lower, and for another process one higher
grown : (b : Bool) (p : Peer) (body : Body)
    → next_of p ≤ next_of (cond b p (record p { pending = p.pending ++ body ∷ [] }))
grown true p body = omega arith
grown false p body = let e = length-append p.pending (body ∷ []) in omega arith

queue_grows : (body : Body) (q me : ℕ) (ps : List Peer) (i : ℕ)
    → next_of (slice_index_or ps i no_peer) ≤ next_of (slice_index_or (queue_from q me body ps) i no_peer)
queue_grows body q me [] i = omega arith
queue_grows body q me (p ∷ ps) zero = grown (q == me) p body
queue_grows body q me (p ∷ ps) (suc i) = queue_grows body (suc q) me ps i

queue_next : (body : Body) (me : ℕ) (ps : List Peer) (i : ℕ) → i < length ps → (i ≡ me → ⊥)
    → next_of (slice_index_or (queue_from 0 me body ps) i no_peer) ≡ next_of (slice_index_or ps i no_peer) + 1
queue_next body me ps i within other =
    ap next_of (queue_other body 0 me ps i within (λ e. other (let f : i ≡ me = omega arith in f)))
    ∙ (let e = length-append (slice_index_or ps i no_peer).pending (body ∷ []) in
    let f : (slice_index_or ps i no_peer).first + length ((slice_index_or ps i no_peer).pending ++ body ∷ []) ≡ next_of (slice_index_or ps i no_peer) + 1 = omega arith in f)

-- a changed entry with the same next number leaves all of them
set_next : (ps : List Peer) (from : ℕ) (p : Peer) (r : ℕ) → next_of p ≡ next_of (slice_index_or ps from no_peer)
    → next_of (slice_index_or (slice_set ps from p) r no_peer) ≡ next_of (slice_index_or ps r no_peer)
set_next [] from p r e = refl
set_next (x ∷ xs) zero p zero e = e
set_next (x ∷ xs) zero p (suc r) e = refl
set_next (x ∷ xs) (suc from) p zero e = refl
set_next (x ∷ xs) (suc from) p (suc r) e = set_next xs from p r e

pub none_if : (b : Bool) (x : ProcessFault) (o : Option ProcessFault) → cond b (Some x) o ≡ None
    → (b ≡ false) × (o ≡ None)
none_if true x o h = absurd (let bad : ⊥ = cc in bad)
none_if false x o h = (refl, h)

module _ (s : State) (r : ℕ) where
  accepts_next : (from time : ℕ) → next_of (peer_at (accepts from time s) r) ≡ next_of (peer_at s r)
  accepts_next from time = set_next s.peers from (record (peer_at s from) { seen = time; expected = (peer_at s from).expected + 1 }) r refl

  acknowledged_next : (from count : ℕ) → count ≤ next_of (peer_at s from) → next_of (peer_at (acknowledged s from count) r) ≡ next_of (peer_at s r)
  acknowledged_next from count few =
      set_next s.peers from (record (peer_at s from) { first = max (peer_at s from).first count; pending = drop (count - (peer_at s from).first) (peer_at s from).pending }) r
      (let e = length-drop (count - (peer_at s from).first) (peer_at s from).pending in
      let f : max (peer_at s from).first count + length (drop (count - (peer_at s from).first) (peer_at s from).pending) ≡ next_of (peer_at s from) = omega arith in f)

  called_grows : (op : Op) (start : Start) → next_of (peer_at s r) ≤ next_of (peer_at (called s op start).0 r)
  called_grows op Casts = queue_grows (Cast (s.clock + 1) op) 0 s.me s.peers r
  called_grows op CastsAndAnswers = queue_grows (Cast (s.clock + 1) op) 0 s.me s.peers r
  called_grows op Looks = omega arith
  called_grows op Holds = omega arith

  accepted_grows : (from : ℕ) (body : Body) → next_of (peer_at s r) ≤ next_of (peer_at (accepted s from body).0 r)
  accepted_grows from (Cast t op) =
      let a = accepts_next from t in
      let b = queue_grows (Ack (max s.clock t + 1)) 0 s.me (accepts from t s).peers r in
      omega arith
  accepted_grows from (Ack t) = let a = accepts_next from t in omega arith

  numbered_grows : (from : ℕ) (body : Body) (frames : ℕ → List Frame) (b : Bool) → next_of (peer_at s r) ≤ next_of (peer_at (cond b (accepted s from body) (quiet s frames)).0 r)
  numbered_grows from body frames true = accepted_grows from body
  numbered_grows from body frames false = omega arith

  -- no step makes a next number lower
  step_grows : (start : Op → ℕ → Start) (e : Step) → step_fault start s e ≡ None → next_of (peer_at s r) ≤ next_of (peer_at (step start s e).0 r)
  step_grows start (Call op) none = called_grows op (start op (unsettled s))
  step_grows start (Take from (Numbered number body)) none = numbered_grows from body (got_frames from (peer_at s from).expected) (number == (peer_at s from).expected)
  step_grows start (Take from (Got count)) none =
      let ahead = none_if (nat_le (length s.peers) from || from == s.me) NoProcess (frame_fault s from (Got count)) none in
      let few = none_if (nat_lt (next_of (peer_at s from)) count) Ahead None ahead.1 in
      let e = acknowledged_next from count (ltb-false (next_of (peer_at s from)) count few.0) in
      omega arith
  step_grows start Tick none = omega arith

  data_other : (body : Body) (f : Frame) → In f (data_frames s (Some body) r) → r ≡ s.me → ⊥
  data_other body f = cond_both (r == s.me) [] (Numbered (next_of (peer_at s r)) body ∷ []) (λ fs. In f fs → r ≡ s.me → ⊥) (λ _ h is. h) (λ e h is. let t = eq-eqb r s.me is in let bad : ⊥ = cc in bad)

  module _ (within : r < length s.peers) (k : ℕ) (b : Body) where
    called_queues : (op : Op) (start : Start) → In (Numbered k b) ((called s op start).1.frames r) → k < next_of (peer_at (called s op start).0 r)
    called_queues op Casts h =
        let is = data_numbered s (Cast (s.clock + 1) op) r k b h in
        let e = queue_next (Cast (s.clock + 1) op) s.me s.peers r within (data_other (Cast (s.clock + 1) op) (Numbered k b) h) in
        let i = is.0 in omega arith
    called_queues op CastsAndAnswers h =
        let is = data_numbered s (Cast (s.clock + 1) op) r k b h in
        let e = queue_next (Cast (s.clock + 1) op) s.me s.peers r within (data_other (Cast (s.clock + 1) op) (Numbered k b) h) in
        let i = is.0 in omega arith
    called_queues op Looks h = absurd h
    called_queues op Holds h = absurd h

    accepted_queues : (from : ℕ) (body : Body) → In (Numbered k b) ((accepted s from body).1.frames r) → k < next_of (peer_at (accepted s from body).0 r)
    accepted_queues from (Cast t op) h = elim (in_cases (Numbered k b) (got_frames from ((peer_at s from).expected + 1) r) (data_frames s (Some (Ack (max s.clock t + 1))) r) h) [
      | inl a ↦ absurd (got_no_numbered from ((peer_at s from).expected + 1) r k b a)
      | inr d ↦
          let is = data_numbered s (Ack (max s.clock t + 1)) r k b d in
          let same = accepts_next from t in
          let inside : r < length (accepts from t s).peers = let e = length-set s.peers from (record (peer_at s from) { seen = t; expected = (peer_at s from).expected + 1 }) in omega arith in
          let e = queue_next (Ack (max s.clock t + 1)) s.me (accepts from t s).peers r inside (data_other (Ack (max s.clock t + 1)) (Numbered k b) d) in
          let i = is.0 in omega arith
    ]
    accepted_queues from (Ack t) h = absurd (got_no_numbered from ((peer_at s from).expected + 1) r k b h)

    numbered_queues : (from count : ℕ) (body : Body) (c : Bool) → In (Numbered k b) ((cond c (accepted s from body) (quiet s (got_frames from count))).1.frames r) → k < next_of (peer_at (cond c (accepted s from body) (quiet s (got_frames from count))).0 r)
    numbered_queues from count body true h = accepted_queues from body h
    numbered_queues from count body false h = absurd (got_no_numbered from count r k b h)

    resent_queues : In (Numbered k b) (resent s r) → k < next_of (peer_at s r)
    resent_queues = cond_both (r == s.me) [] (numbered_from (peer_at s r).first (take MOST_RESENT (peer_at s r).pending)) (λ fs. In (Numbered k b) fs → k < next_of (peer_at s r)) (λ _ h. absurd h)
        (λ _ h.
        let is = numbered_in (peer_at s r).first (take MOST_RESENT (peer_at s r).pending) k b h in
        let inside = slice_get_within (peer_at s r).pending is.0 b (place_take MOST_RESENT (peer_at s r).pending is.0 b is.2) in
        let at = is.1 in omega arith)

    -- a body that a step puts for a process has a number below the next one after it
    step_queues : (start : Op → ℕ → Start) (e : Step) → In (Numbered k b) ((step start s e).1.frames r) → k < next_of (peer_at (step start s e).0 r)
    step_queues start (Call op) h = called_queues op (start op (unsettled s)) h
    step_queues start (Take from (Numbered number body)) h = numbered_queues from (peer_at s from).expected body (number == (peer_at s from).expected) h
    step_queues start (Take from (Got count)) h = absurd h
    step_queues start Tick h = resent_queues h

module _ (start : Op → ℕ → Start) (r : ℕ) where
  -- nor does a log
  log_grows : (s : State) (log : List LogEntry) → AreSteps start s log → next_of (peer_at s r) ≤ next_of (peer_at (state_after start s log) r)
  log_grows s [] is = omega arith
  log_grows s (e ∷ es) is =
      let a = step_grows s r start e.step is.0.accepted in
      let b = log_grows (step start s e.step).0 es is.1 in
      omega arith

  -- and a body that went out of one of its steps has a number below the next one after it
  pub log_queues : (k : ℕ) (b : Body) (o : Outgoing) → In (put_to r (Numbered k b)) o.frames
      → (s : State) (log : List LogEntry) → AreSteps start s log → In o (outputs_of start s log)
      → k < next_of (peer_at (state_after start s log) r)
  log_queues k b o put s [] is h = absurd h
  log_queues k b o put s (e ∷ es) is (inl same) =
      let there : In (put_to r (Numbered k b)) (puts (step start s e.step).1.frames (length s.peers)) = subst (λ (x : Outgoing). In (put_to r (Numbered k b)) x.frames) same put in
      let frame = in_puts (step start s e.step).1.frames (length s.peers) (put_to r (Numbered k b)) there in
      let a = step_queues s r frame.0 k b start e.step frame.1 in
      let c = log_grows (step start s e.step).0 es is.1 in
      omega arith
  log_queues k b o put s (e ∷ es) is (inr h) = log_queues k b o put (step start s e.step).0 es is.1 h
