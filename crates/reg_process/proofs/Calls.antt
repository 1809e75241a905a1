-- A call, from its cast and its deliveries.
use Rattle.std.proofs.Common.{◌≡◌, ℕ, ◌<◌, ◌≤◌, ◌+◌, Bool, true, false, zero, suc, [], ◌∷◌, List, length, Option, Some}
use Rattle.std.proofs.Common.{None, refl, sym, ap, ◌∙◌, subst, arith}
use Rattle.std.specs.Prelude.{◌≢◌, Result, Ok, Err, IfOk, IfErr, IsErrOf, OnOk, MatchResult, cond, ◌==◌, ◌||◌, not}
use Rattle.std.specs.Prelude.{nat_lt, nat_le, nat_eq, slice_get, slice_index}
use Rattle.std.proofs.lemmas.Bool.Decides.{nat_tests}
use Rattle.std.proofs.lemmas.Bool.{cond-false, eq-eqb, ne_eqb, lt-ltb, or_right}
use Rattle.std.proofs.lemmas.List.{append-nil}
use Rattle.reg_base.specs.declared.stamps.Stamp.{Stamp}
use Rattle.reg_base.specs.declared.memory.Op.{Op}
use Rattle.reg_base.specs.declared.limits.TheConstants.{LAST_TIME}
use Rattle.reg_base.specs.declared.stamps.Delivered.{Delivered}
use Rattle.reg_process.specs.declared.steps.Reply.{Reply}
use Rattle.reg_frames.specs.declared.bodies.Body.{Body}
use Rattle.reg_frames.specs.declared.bodies.Body.TheVariants.{Cast, Ack}
use Rattle.reg_front.specs.declared.starts.Start.{Start}
use Rattle.reg_front.specs.declared.starts.Start.TheVariants.{Look as Looks, Hold as Holds}
use Rattle.reg_process.specs.declared.steps.Step.TheVariants.{Call, Take}
use Rattle.reg_frames.specs.declared.bodies.Frame.{Frame}
use Rattle.reg_process.specs.Process.{Held, State, called, no_frames, look, unsettled, seen_at, time_of, peer_at, taken}
use Rattle.reg_process.specs.Process.{accepted, quiet, got_frames, clear_casts, accepts, delivered_state, due}
use Rattle.reg_process.specs.Faults.{first_of, early_fault, full_at, call_fault, is_out, early_body, frame_fault}
use Rattle.reg_process.specs.Faults.{take_fault, full_by, is_cast, is_numbered, is_stop, takes_memory, body_memory}
use Rattle.reg_holdback.specs.Waiting.{seen_of}
use Rattle.reg_process.specs.Parts.{Parts, state_of}
use Rattle.reg_process.specs.Bounds.{Good}
use Rattle.reg_process.proofs.Deliveries.{merged_seen}
use Rattle.reg_process.specs.Puts.{puts, put_to}
use Rattle.reg_frames.specs.declared.bodies.Frame.TheVariants.{Numbered, Got}
use Rattle.reg_process.proofs.Acks.{one_put}
use Rattle.reg_process.specs.declared.faults.ProcessFault.{ProcessFault}
use Rattle.reg_process.specs.declared.faults.ProcessFault.TheVariants.{Failed, NoProcess, Busy, NoRegister}
use Rattle.reg_process.specs.declared.faults.ProcessFault.TheVariants.{TooManyOperations, Ahead, Stale, ClockFull}
use Rattle.reg_process.specs.declared.faults.ProcessFault.TheVariants.{OutOfMemory}
use Rattle.reg_process.specs.Steps.{Stops, StopsAt, FrameRefused, is_peer, Goes, TakesBody, Delivers}
use Rattle.reg_frames.specs.declared.puts.Put.{Put}
use Rattle.reg_process.specs.Events.{Steps, Briefs, Refused, process_fault}

pub nothing_put : (n : ℕ) → puts no_frames n ≡ []
nothing_put zero = refl
nothing_put (suc n) = append-nil (puts no_frames n) ∙ nothing_put n

-- what is said of a start that casts
pub room_at : {T E : Type 0} (r : Result T E) (clock : ℕ) (start : Start) → is_cast start ≡ true
    → OnOk r (clock < LAST_TIME) → OnOk r (full_at clock start ≡ None)
room_at (Ok x) clock start casts less =
    let h : nat_le LAST_TIME clock ≡ false = grind (arith, nat_tests) in
    ap (λ b. cond b (cond (nat_le LAST_TIME clock) (Some ClockFull) None) None) casts ∙ ap (λ b. cond b (Some ClockFull) None) h
room_at (Err f) clock start casts less = tt

stops : (full : Bool) (fault : ProcessFault) → Stops full fault → StopsAt (cond full (Some ClockFull) None) fault
stops full Failed h = absurd h
stops full NoProcess h = absurd h
stops full Busy h = absurd h
stops full NoRegister h = absurd h
stops full TooManyOperations h = absurd h
stops full Ahead h = absurd h
stops full Stale h = absurd h
stops full ClockFull h = ap (λ b. cond b (Some ClockFull) None) h
stops full OutOfMemory h = ap (λ b. cond b (Some ClockFull) None) h

pub stops_at : {T : Type 0} (r : Result T ProcessFault) (clock : ℕ) (start : Start) → is_cast start ≡ true
    → IfErr r (λ f. Stops (nat_le LAST_TIME clock) f) → IfErr r (λ f. StopsAt (full_at clock start) f)
stops_at (Ok x) clock start casts h = tt
stops_at (Err f) clock start casts h = subst (λ b. StopsAt (cond b (cond (nat_le LAST_TIME clock) (Some ClockFull) None) None) f) (sym casts) (stops (nat_le LAST_TIME clock) f h)

pub any_err : {T E P : Type 0} (r : Result T E) → P → IfErr r (λ _. P)
any_err (Ok x) p = tt
any_err (Err f) p = p

pub any_ok : {T E P : Type 0} (r : Result T E) → P → OnOk r P
any_ok (Ok x) p = p
any_ok (Err f) p = tt

pub both_ok : {T E P Q R : Type 0} (r : Result T E) → (P → Q → R) → OnOk r P → OnOk r Q → OnOk r R
both_ok (Ok x) f p q = f p q
both_ok (Err e) f p q = tt

pub looks : (s : State) (op : Op) (start : Start) (frames : List Put) (cast : Option Stamp) (ds : List Delivered)
    (reply : Option Reply) (s' : State)
    → start ≡ Looks → frames ≡ [] → cast ≡ None → ds ≡ [] → reply ≡ Some (look s op)
    → s' ≡ record s { calls = s.calls + 1; running = None }
    → Goes (length s.peers) (called s op start) frames cast ds reply s'
looks s op start frames cast ds reply s' e f m d r q =
    subst (λ st. Goes (length s.peers) (called s op st) frames cast ds reply s') (sym e) (record {
      state = q;
      outcome = record { put = f ∙ sym (nothing_put (length s.peers)); made = m; casts = d; answer = r };
    })

pub holds : (s : State) (op : Op) (start : Start) (frames : List Put) (cast : Option Stamp) (ds : List Delivered)
    (reply : Option Reply) (s' : State)
    → start ≡ Holds → frames ≡ [] → cast ≡ None → ds ≡ [] → reply ≡ None
    → s' ≡ record s { calls = s.calls + 1; running = Some (Held op) }
    → Goes (length s.peers) (called s op start) frames cast ds reply s'
holds s op start frames cast ds reply s' e f m d r q =
    subst (λ st. Goes (length s.peers) (called s op st) frames cast ds reply s') (sym e) (record {
      state = q;
      outcome = record { put = f ∙ sym (nothing_put (length s.peers)); made = m; casts = d; answer = r };
    })

module _ (start : Op → ℕ → Start) (f : Bool) (s : State) (room : ℕ) (op : Op) (st : Start) (s' : State) (runs : f ≡ false) (early : None ≡ early_fault s op s.running) (is : st ≡ start op (unsettled s)) where
  faults : process_fault start (record { failed = f; state = s; room = room }) (Call op) ≡ full_at s.clock st
  faults =
      ap (λ b. cond b (Some Failed) (call_fault start s op)) runs
      ∙ ap (λ o. first_of o (full_at s.clock (start op (unsettled s)))) (sym early)
      ∙ ap (full_at s.clock) (sym is)

  pub call_briefs : (frames : List Put) (cast : Option Stamp) (ds : List Delivered) (reply : Option Reply)
      → full_at s.clock st ≡ None → Goes (length s.peers) (called s op st) frames cast ds reply s'
      → Briefs start (record { failed = f; state = s; room = room }) (Call op) frames cast ds reply
      (record { failed = f; state = s'; room = room })
  call_briefs frames cast ds reply due g =
      let h : Goes (length s.peers) (called s op (start op (unsettled s))) frames cast ds reply s' = subst (λ x. Goes (length s.peers) (called s op x) frames cast ds reply s') is g in
      record {
        no_fault = faults ∙ due;
        state = (runs, h.state);
        room = refl;
        outcome = h.outcome;
      }

  pub call_refused : (fault : ProcessFault) → StopsAt (full_at s.clock st) fault
      → Refused start (record { failed = f; state = s; room = room }) (Call op) fault
      (record { failed = true; state = s'; room = room })
  call_refused Failed h = absurd h
  call_refused NoProcess h = absurd h
  call_refused Busy h = absurd h
  call_refused NoRegister h = absurd h
  call_refused TooManyOperations h = absurd h
  call_refused Ahead h = absurd h
  call_refused Stale h = absurd h
  call_refused ClockFull h = (faults ∙ h, refl)
  call_refused OutOfMemory h = (faults ∙ h, refl)

get_some : (xs : List ℕ) (i x : ℕ) → Some x ≡ slice_get xs i → x ≡ slice_index xs i
get_some [] i x h = absurd (cc)
get_some (y ∷ ys) zero x h = cc
get_some (y ∷ ys) (suc i) x h = get_some ys i x h

get_none : (xs : List ℕ) (i : ℕ) → i < length xs → None ≡ slice_get xs i → ⊥
get_none [] i l h = omega arith
get_none (y ∷ ys) zero l h = cc
get_none (y ∷ ys) (suc i) l h = get_none ys i (omega arith) h

module _ (p : Parts) (good : Good p) (from : ℕ) (peer : from < length p.waiting.seen) (other : from ≡ p.me → ⊥) where
  seen_is : seen_of p.waiting from ≡ slice_get p.waiting.seen from
  seen_is = cond-false (nat_eq from p.waiting.me) None (slice_get p.waiting.seen from) (ne_eqb from p.waiting.me (λ q. other (q ∙ good.same)))

  pub seen_some : (x : ℕ) → Some x ≡ seen_of p.waiting from → x ≡ seen_at (state_of p) from
  seen_some x h = get_some p.waiting.seen from x (h ∙ seen_is) ∙ sym (merged_seen p.waiting.seen p.expected p.outs from good.ins good.out)

  pub seen_none : None ≡ seen_of p.waiting from → ⊥
  seen_none h = get_none p.waiting.seen from peer (h ∙ seen_is)

pub late : (s : State) (from x t : ℕ) (body : Body) → is_out s body ≡ false → x ≡ seen_at s from → t ≡ time_of body
    → t ≤ x → Some Stale ≡ early_body s from body
late s from x t body o e q l =
    let h : nat_le (time_of body) (seen_at s from) ≡ true = grind (arith, nat_tests) in
    sym (ap (λ b. cond b (Some NoRegister) (cond (nat_le (time_of body) (seen_at s from)) (Some Stale) None)) o ∙ ap (λ b. cond b (Some Stale) None) h)

pub in_time : (s : State) (from x t : ℕ) (body : Body) → is_out s body ≡ false → x ≡ seen_at s from → t ≡ time_of body
    → x < t → None ≡ early_body s from body
in_time s from x t body o e q l =
    let h : nat_le (time_of body) (seen_at s from) ≡ false = grind (arith, nat_tests) in
    sym (ap (λ b. cond b (Some NoRegister) (cond (nat_le (time_of body) (seen_at s from)) (Some Stale) None)) o ∙ ap (λ b. cond b (Some Stale) None) h)

-- Frames.
pub drop_goes : (s : State) (from number expected : ℕ) (body : Body) (frames : List Put) (cast : Option Stamp)
    (ds : List Delivered) (reply : Option Reply)
    → expected ≡ (peer_at s from).expected → (number ≡ expected → ⊥) → from < length s.peers
    → frames ≡ put_to from (Got expected) ∷ [] → cast ≡ None → ds ≡ [] → reply ≡ None
    → Goes (length s.peers) (taken s from (Numbered number body)) frames cast ds reply s
drop_goes s from number expected body frames cast ds reply e ne l f m d a =
    let no : (number == (peer_at s from).expected) ≡ false = ne_eqb number (peer_at s from).expected (λ q. ne (q ∙ sym e)) in
    let r : quiet s (got_frames from (peer_at s from).expected) ≡ taken s from (Numbered number body) = sym (ap (λ b. cond b (accepted s from body) (quiet s (got_frames from (peer_at s from).expected))) no) in
    subst (λ x. Goes (length s.peers) x frames cast ds reply s) r (record {
      state = refl;
      outcome = record { put = f ∙ sym (one_put from expected (length s.peers) l) ∙ ap (λ n. puts (got_frames from n) (length s.peers)) e; made = m; casts = d; answer = a };
    })

-- a body under the expected number, and under another one
module _ (s : State) (from number expected : ℕ) (body : Body) (is : expected ≡ (peer_at s from).expected) where
  pub next_taken : number ≡ expected → accepted s from body ≡ taken s from (Numbered number body)
  next_taken same = sym (ap (λ b. cond b (accepted s from body) (quiet s (got_frames from (peer_at s from).expected))) (eq-eqb number (peer_at s from).expected (same ∙ is)))

  pub next_fault : number ≡ expected → None ≡ early_body s from body
      → frame_fault s from (Numbered number body) ≡ full_by s body
  next_fault same early =
      ap (λ b. cond b (first_of (early_body s from body) (full_by s body)) None) (eq-eqb number (peer_at s from).expected (same ∙ is)) ∙ ap (λ o. first_of o (full_by s body)) (sym early)

  pub next_memory : (room : ℕ) → number ≡ expected → body_memory s room from body ≡ true
      → takes_memory s room from (Numbered number body) ≡ true
  next_memory room same wants = ap (λ b. cond b (body_memory s room from body) (room == 0)) (eq-eqb number (peer_at s from).expected (same ∙ is)) ∙ wants

  pub other_fault : (number ≡ expected → ⊥) → frame_fault s from (Numbered number body) ≡ None
  other_fault other = ap (λ b. cond b (first_of (early_body s from body) (full_by s body)) None) (ne_eqb number (peer_at s from).expected (λ q. other (q ∙ sym is)))

stopped : (fault : ProcessFault) (why full : Option ProcessFault) (old new : State) → why ≡ full → StopsAt full fault
    → FrameRefused why old fault new
stopped Failed why full old new e h = absurd h
stopped NoProcess why full old new e h = absurd h
stopped Busy why full old new e h = absurd h
stopped NoRegister why full old new e h = absurd h
stopped TooManyOperations why full old new e h = absurd h
stopped Ahead why full old new e h = absurd h
stopped Stale why full old new e h = absurd h
stopped ClockFull why full old new e h = e ∙ h
stopped OutOfMemory why full old new e h = e ∙ h

pub stop_refused : {T : Type 0} (r : Result T ProcessFault) (why full : Option ProcessFault) (old new : State)
    → why ≡ full → IfErr r (λ f. StopsAt full f) → IfErr r (λ f. FrameRefused why old f new)
stop_refused (Ok x) why full old new e h = tt
stop_refused (Err f) why full old new e h = stopped f why full old new e h

pub err_says : {T E P : Type 0} (r : Result T E) (e : E) → IsErrOf r e → IfErr r (λ _. P) → P
err_says (Ok x) e is p = absurd cc
err_says (Err f) e is p = p

-- what an accepted body makes clear can want memory
pub accepted_memory : (s : State) (from : ℕ) (body : Body) (frames : List Put) (s1 : State) (room : ℕ)
    → TakesBody s from body frames s1 → clear_casts s1 ≢ [] → body_memory s room from body ≡ true
accepted_memory s from (Cast t op) frames s1 room took some = refl
accepted_memory s from (Ack t) frames s1 room took some =
    or_right (room == 0) _ (lt-ltb 0 (length (clear_casts (accepts from t s))) (least (clear_casts (accepts from t s)) (λ none. some (ap clear_casts took.state ∙ none))))
  where
    least : (xs : List Delivered) → xs ≢ [] → 0 < length xs
    least [] empty = absurd (empty refl)
    least (x ∷ xs) empty = omega arith

-- a body was accepted, and what is clear was delivered
pub accepted_goes : (s : State) (from : ℕ) (body : Body) (put frames : List Put) (s1 s2 : State) (cast : Option Stamp)
    (ds : List Delivered) (reply : Option Reply)
    → TakesBody s from body put s1 → frames ≡ put → cast ≡ None → Delivers s1 ds reply s2
    → Goes (length s.peers) (accepted s from body) frames cast ds reply s2
accepted_goes s from (Cast t op) put frames s1 s2 cast ds reply took same made d = record {
  state = d.state ∙ ap delivered_state took.state;
  outcome = record { put = same ∙ took.put; made = made; casts = d.casts ∙ ap clear_casts took.state; answer = d.answer ∙ ap due took.state };
}
accepted_goes s from (Ack t) put frames s1 s2 cast ds reply took same made d = record {
  state = d.state ∙ ap delivered_state took.state;
  outcome = record { put = same ∙ took.put; made = made; casts = d.casts ∙ ap clear_casts took.state; answer = d.answer ∙ ap due took.state };
}

pub within_peer : (n from me : ℕ) → from < n → not (nat_eq from me) ≡ not (nat_le n from || from == me)
within_peer n from me l =
    let e : nat_le n from ≡ false = grind (arith, nat_tests) in sym (ap (λ b. not (b || from == me)) e)

pub past_peer : (n from me : ℕ) → n ≤ from → nat_lt from n ≡ not (nat_le n from || from == me)
past_peer n from me l =
    let e : nat_le n from ≡ true = grind (arith, nat_tests) in
    let d : nat_lt from n ≡ false = grind (arith, nat_tests) in
    d ∙ sym (ap (λ b. not (b || from == me)) e)

not_true : (b : Bool) → not b ≡ true → b ≡ false
not_true true h = absurd (cc)
not_true false h = refl

module _ (start : Op → ℕ → Start) (f : Bool) (s : State) (room : ℕ) (from : ℕ) (frame : Frame) (runs : f ≡ false) where
  module _ (peer : is_peer s from ≡ true) (s' : State) where
    take_faults : process_fault start (record { failed = f; state = s; room = room }) (Take from frame) ≡ frame_fault s from frame
    take_faults = ap (λ b. cond b (Some Failed) (take_fault s from frame)) runs ∙ ap (λ b. cond b (Some NoProcess) (frame_fault s from frame)) (not_true (nat_le (length s.peers) from || from == s.me) peer)

    pub take_briefs : (frames : List Put) (cast : Option Stamp) (ds : List Delivered) (reply : Option Reply) → frame_fault s from frame ≡ None → Goes (length s.peers) (taken s from frame) frames cast ds reply s' → Briefs start (record { failed = f; state = s; room = room }) (Take from frame) frames cast ds reply (record { failed = f; state = s'; room = room })
    take_briefs frames cast ds reply due g = record {
      no_fault = take_faults ∙ due;
      state = (runs, g.state);
      room = refl;
      outcome = g.outcome;
    }
