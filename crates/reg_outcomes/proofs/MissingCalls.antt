-- What the history of a run that uses scripts up has: each operation of a script, and no other, finished.
use Rattle.std.proofs.Common.{◌≡◌, ℕ, ◌<◌, cond, List, [], ◌∷◌, ◌++◌, map, length, Option, Some, None, refl, ap, ap₂}
use Rattle.std.proofs.Common.{sym, ◌∙◌, subst, arith, append-nil}
use Rattle.std.specs.Prelude.{◌==◌, ◌&&◌, not, nat_lt, slice_get}
use Rattle.std.specs.Option.{is_some}
use Rattle.std.proofs.lemmas.Bool.{cond_both, cond-true, cond-false, eq-eqb, ne_eqb}
use Rattle.std.proofs.lemmas.Option.{same_Some, none-some}
use Rattle.reg_base.specs.declared.limits.TheConstants.{MOST_OPERATIONS}
use Rattle.reg_base.specs.declared.memory.Op.{Op}
use Rattle.reg_base.specs.declared.memory.OpId.{OpId}
use Rattle.reg_base.specs.declared.stamps.Stamp.{Stamp}
use Rattle.reg_base.specs.Memory.{register_of}
use Rattle.reg_front.specs.declared.starts.Start.{Start}
use Rattle.reg_front.specs.Fronts.{KeepsLaws}
use Rattle.reg_process.specs.declared.events.Event.{Event}
use Rattle.reg_process.specs.declared.events.Event.TheVariants.{Call, Take, Tick}
use Rattle.reg_process.specs.declared.steps.Step.{Step}
use Rattle.reg_process.specs.declared.steps.Step.TheVariants.{Call as CallStep, Take as TakeStep, Tick as TickStep}
use Rattle.reg_process.specs.Process.{step}
use Rattle.reg_checkers.specs.declared.entries.Entry.{Entry}
use Rattle.reg_checkers.specs.declared.entries.Entry.TheVariants.{Called, Answered}
use Rattle.reg_checkers.specs.History.{IsAt, IsCalled, IsFinished, IsHistory}
use Rattle.reg_checkers.specs.Progress.{op_of}
use Rattle.reg_checkers.proofs.Places.{IsAt-map, at_map}
use Rattle.reg_world.specs.Nodes.{Nodes, step_of, take_step}
use Rattle.reg_world.specs.World.{World, move_of, moved, whole}
use Rattle.reg_world.proofs.lists.Bodies.{place_within}
use Rattle.reg_world.proofs.lists.Members.{at_in, in_at, from_end, map_append}
use Rattle.reg_world.proofs.one_memory.Turns.{done_calls}
use Rattle.reg_world.proofs.one_order.Acts.{put_cases}
use Rattle.reg_world.proofs.run.Along.{move_is, one_more, traced_more}
use Rattle.reg_world.proofs.run.Traced.{Called as PastCall, Past, Trace, called_in, past_after, after, traced}
use Rattle.reg_world.proofs.witness.Premises.{V, J, K, G}
use Rattle.reg_workload.specs.Plays.{call_at, calls_of}
use Rattle.reg_outcomes.specs.Finishing.{UsesUp}
use Rattle.reg_outcomes.specs.Interleavings.{script_of}
use Rattle.reg_outcomes.proofs.Stepping.{has_script}
use Rattle.reg_workload.proofs.Scripts.{calls_more}

-- Each operation that was called is that of its process's script with its number, and each operation of a script is
-- finished.
pub record HasScripts (scripts : List (List Op)) (registers : ℕ) (h : List Entry) : Type 0 where
  pub history : IsHistory (length scripts) registers h
  pub called : (id : OpId) (at : ℕ) (op : Op) → IsCalled h id at op → IsAt (script_of scripts id.process) id.number op
  pub finished : (p m : ℕ) (op : Op) → IsAt (script_of scripts p) m op → IsFinished h (op_of p m)

-- the operation that a step calls
abbrev ops_in : Step → List Op
ops_in (CallStep op) = op ∷ []
ops_in (TakeStep from frame) = []
ops_in TickStep = []

abbrev Calls : Event → ℕ × Step → Type 0
Calls e m = (p : ℕ) → call_at p e ≡ cond (m.0 == p) (ops_in m.1) []

calls_none : (q p : ℕ) → [] ≡ cond {A = List Op} (q == p) [] []
calls_none q p = cond_both (q == p) [] [] (λ l. [] ≡ l) (λ e. refl) (λ e. refl)

-- the step of a call calls its operation, and no other step calls any
step_calls : (n registers : ℕ) (w : Nodes) (e : Event) (m : ℕ × Step) → step_of n registers w e ≡ Some m → Calls e m
step_calls n registers w (Call q op) m =
    cond_both (nat_lt q n && (not (is_some (w q).state.running) && (nat_lt (register_of op) registers && nat_lt (w q).state.calls MOST_OPERATIONS))) (Some (q, CallStep op)) None (λ o. o ≡ Some m → Calls (Call q op) m)
    (λ b e. let same : (q, CallStep op) ≡ m = same_Some (q, CallStep op) m e in subst (Calls (Call q op)) same (λ p. refl))
    (λ b e. absurd (none-some m e))
step_calls n registers w (Take from to number) m =
    cond_both (nat_lt from n && (nat_lt to n && not (from == to))) (take_step from to (slice_get ((w from).wire to) number)) None (λ o. o ≡ Some m → Calls (Take from to number) m)
    (λ b. elim (slice_get ((w from).wire to) number) as (λ o. take_step from to o ≡ Some m → Calls (Take from to number) m) [
      | None ↦ λ e. absurd (none-some m e)
      | Some frame ↦ λ e. let same : (to, TakeStep from frame) ≡ m = same_Some (to, TakeStep from frame) m e in subst (Calls (Take from to number)) same (calls_none to)
    ])
    (λ b e. absurd (none-some m e))
step_calls n registers w (Tick q) m =
    cond_both (nat_lt q n) (Some (q, TickStep)) None (λ o. o ≡ Some m → Calls (Tick q) m)
    (λ b e. let same : (q, TickStep) ≡ m = same_Some (q, TickStep) m e in subst (Calls (Tick q)) same (calls_none q))
    (λ b e. absurd (none-some m e))

abbrev pub ops_called : List PastCall → List Op
ops_called calls = map (λ (d : PastCall). d.op) calls

past_calls : (at : ℕ) (st : Step) (cast : Option Stamp) → ops_called (called_in at st cast) ≡ ops_in st
past_calls at (CallStep op) cast = refl
past_calls at (TakeStep from frame) cast = refl
past_calls at TickStep cast = refl

module _ (start : Op → ℕ → Start) (n registers : ℕ) where
  abbrev pub IsNoted : List Event → Type 0
  IsNoted es = (p : ℕ) → ops_called ((traced start n registers es).pasts p).calls ≡ calls_of p (whole start n registers es).accepted

  noted_step : (es : List Event) (e : Event) → IsNoted es → (m : Option (ℕ × Step)) → move_of n registers (whole start n registers es) e ≡ m
      → (p : ℕ) → ops_called ((after start (traced start n registers es) m).pasts p).calls ≡ calls_of p (moved start (whole start n registers es) e m).accepted
  noted_step es e h None is p = h p
  noted_step es e h (Some m) is p =
      let w : World = whole start n registers es in
      let v : Trace = traced start n registers es in
      let calls = step_calls n registers w.nodes e m (move_is n registers w e m is).1 p in
      let r = step start (w.nodes m.0).state m.1 in
      let past : Past = past_after v.count (w.nodes m.0).state (v.pasts m.0) m.1 r in
      let more : calls_of p (w.accepted ++ e ∷ []) ≡ calls_of p w.accepted ++ cond (m.0 == p) (ops_in m.1) [] = calls_more p w.accepted e ∙ ap (λ l. calls_of p w.accepted ++ l) calls in
      put_cases (λ (x : Past). ops_called x.calls ≡ calls_of p (w.accepted ++ e ∷ [])) v.pasts m.0 past p
      (λ same.
      map_append (λ (d : PastCall). d.op) (v.pasts m.0).calls (called_in v.count m.1 r.1.cast)
      ∙ ap₂ (λ (k l : List Op). k ++ l) (h m.0 ∙ ap (λ q. calls_of q w.accepted) (sym same)) (past_calls v.count m.1 r.1.cast)
      ∙ sym (more ∙ ap (λ l. calls_of p w.accepted ++ l) (cond-true (m.0 == p) (ops_in m.1) [] (eq-eqb m.0 p (sym same)))))
      (λ away. h p ∙ sym (more ∙ ap (λ l. calls_of p w.accepted ++ l) (cond-false (m.0 == p) (ops_in m.1) [] (ne_eqb m.0 p (λ z. away (sym z)))) ∙ append-nil (calls_of p w.accepted)))

  -- the calls noted of a process are those of the events
  pub noted : (events : List Event) → IsNoted events
  noted = from_end IsNoted (λ p. refl) (λ es e h p.
      ap (λ (t : Trace). ops_called (t.pasts p).calls) (traced_more start n registers es e)
      ∙ noted_step es e h (move_of n registers (whole start n registers es) e) refl p
      ∙ sym (ap (λ (z : World). calls_of p z.accepted) (one_more start n registers es e)))

module _ (start : Op → ℕ → Start) (scripts : List (List Op)) (registers : ℕ) (laws : KeepsLaws start) (events : List Event) (used : UsesUp start scripts registers events) where
  abbrev n : ℕ
  n = length scripts

  abbrev w : World
  w = whole start n registers events

  abbrev v : Trace
  v = V start n registers laws events

  all_called : (p : ℕ) → p < n → ops_called (v.pasts p).calls ≡ script_of scripts p
  all_called p lt = noted start n registers events p ∙ ap (calls_of p) used.accepted ∙ used.called p lt

  called : (id : OpId) (at : ℕ) (op : Op) → IsCalled w.history id at op → IsAt (script_of scripts id.process) id.number op
  called id at op is =
      let d = (J start n registers laws events).called at id op (at_in (Called at id op) w.history is) in
      let there : IsAt (script_of scripts id.process) id.number d.0.op = subst (λ l. IsAt l id.number d.0.op) (all_called id.process d.1.0) (IsAt-map (λ (c : PastCall). c.op) (v.pasts id.process).calls id.number d.0 d.1.1) in
      subst (λ o. IsAt (script_of scripts id.process) id.number o) d.2 there

  finished : (p m : ℕ) (op : Op) → IsAt (script_of scripts p) m op → IsFinished w.history (op_of p m)
  finished p m op is =
      let lt : p < n = has_script scripts p m op is in
      let calls = (v.pasts p).calls in
      let d = at_map (λ (c : PastCall). c.op) calls m op (subst (λ l. IsAt l m op) (sym (all_called p lt)) is) in
      let inside : m < length calls = place_within calls m d.0 d.1 in
      let count = ((G start n registers laws events).pasts p lt).0.count in
      let done : done_calls (w.nodes p).state (w.nodes p).state.running ≡ (w.nodes p).state.calls = ap (done_calls (w.nodes p).state) (used.idle p lt) in
      let a = (G start n registers laws events).answered p m lt (omega (arith, inside, count, done)) in
      (a.0.at, a.0.reply.answer, in_at (Answered a.0.at (op_of p m) a.0.reply.answer) w.history ((J start n registers laws events).answers (op_of p m) a.0 (lt, a.1, a.2)))

  pub has_scripts : HasScripts scripts registers w.history
  has_scripts = record { history = (K start n registers laws events).history; called = called; finished = finished }
