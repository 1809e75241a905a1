-- A turn from rest to rest: one process calls an operation, which is accepted, and the run comes to rest again.
use Rattle.std.proofs.Common.{◌≡◌, ◌⊎◌, ℕ, ◌+◌, ◌-◌, ◌*◌, ◌≤◌, Bool, true, false, List, [], ◌∷◌, ◌++◌, length, Option}
use Rattle.std.proofs.Common.{Some, None, refl, sym, ap, ◌∙◌, inl, inr, arith, length-append, append_assoc, append-nil}
use Rattle.std.specs.Prelude.{cond, ◌&&◌, not, nat_lt}
use Rattle.std.specs.Option.{is_some}
use Rattle.std.proofs.lemmas.Bool.{lt-ltb}
use Rattle.std.proofs.lemmas.Option.{same_Some, none-some}
use Rattle.reg_base.specs.declared.limits.TheConstants.{MOST_EVENTS, MOST_OPERATIONS}
use Rattle.reg_base.specs.declared.memory.Answer.{Answer}
use Rattle.reg_base.specs.declared.memory.Op.{Op}
use Rattle.reg_base.specs.declared.memory.OpId.{OpId}
use Rattle.reg_base.specs.Memory.{register_of}
use Rattle.reg_front.specs.declared.starts.Start.{Start}
use Rattle.reg_front.specs.Fronts.{KeepsLaws}
use Rattle.reg_process.specs.declared.events.Event.{Event}
use Rattle.reg_process.specs.declared.events.Event.TheVariants.{Call}
use Rattle.reg_process.specs.declared.steps.Reply.{Reply}
use Rattle.reg_process.specs.declared.steps.Step.{Step}
use Rattle.reg_process.specs.declared.steps.Step.TheVariants.{Call as CallStep}
use Rattle.reg_process.specs.Process.{State, Outcome, step, unsettled}
use Rattle.reg_checkers.specs.declared.entries.Entry.{Entry}
use Rattle.reg_checkers.specs.declared.entries.Entry.TheVariants.{Called, Answered}
use Rattle.reg_world.specs.Laws.{IsQuiescent}
use Rattle.reg_world.specs.Nodes.{Node, after_step}
use Rattle.reg_world.specs.declared.faults.WorldFault.TheVariants.{Failed, TooManyEvents, NoProcess, Busy, NoRegister}
use Rattle.reg_world.specs.declared.faults.WorldFault.TheVariants.{TooManyOperations}
use Rattle.reg_world.specs.World.{World, op_id, answers_in, move_of, moved, whole, world_fault}
use Rattle.reg_world.proofs.one_order.NodeEvents.{put_same, put_other}
use Rattle.reg_world.proofs.one_order.NodeLaws.{inv_of}
use Rattle.reg_world.proofs.run.Along.{one_more}
use Rattle.reg_world.proofs.witness.Promised.{rests}
use Rattle.reg_records.specs.Rest.{CanRest, distance, put_for}
use Rattle.reg_records.proofs.Able.{can_rest}
use Rattle.reg_records.proofs.AtRest.{rests_at_none}
use Rattle.reg_outcomes.specs.Turning.{MayTurn}
use Rattle.reg_outcomes.proofs.TurningCalls.{later_quiet}
use Rattle.reg_outcomes.proofs.TurningFar.{distance_more}
use Rattle.reg_outcomes.proofs.TurningMoves.{Follows, IsTold, IsUntold, all_follow}
use Rattle.reg_outcomes.proofs.TurningSteps.{Begins, called_begins}

-- the history grew by the call and the answer of the operation, which is that of the call's own step if that replied
pub record TurnTold (p : ℕ) (op : Op) (reply : Option Reply) (w v : World) : Type 0 where
  pub later : ℕ
  pub answer : Answer
  pub history : v.history
      ≡ w.history ++ Called (length w.accepted) (op_id p (w.nodes p).state.calls) op
      ∷ Answered later (op_id p (w.nodes p).state.calls) answer ∷ []
  pub now : (y : Reply) → reply ≡ Some y → answer ≡ y.answer

call_tests : (few within busy known fits : Bool) (o : Option (ℕ × Step)) → few ≡ true → within ≡ true → busy ≡ false
    → known ≡ true → fits ≡ true → cond few (cond (within && (not busy && (known && fits))) o None) None ≡ o
call_tests few within busy known fits o a b c d e = rw (a, b, c, d, e) refl

call_passed : (failed few within busy known fits : Bool) → failed ≡ false → few ≡ true → within ≡ true → busy ≡ false
    → known ≡ true → fits ≡ true
    → cond failed (Some Failed) (cond few (cond within (cond busy (Some Busy) (cond known (cond fits None (Some TooManyOperations)) (Some NoRegister))) (Some NoProcess)) (Some TooManyEvents)) ≡ None
call_passed failed few within busy known fits a b c d e f = rw (a, b, c, d, e, f) refl

module _ (start : Op → ℕ → Start) (n registers : ℕ) (laws : KeepsLaws start) (events : List Event) (p : ℕ) (op : Op) (M : MayTurn start n registers events p op) where
  abbrev w : World
  w = whole start n registers events

  abbrev u : World
  u = whole start n registers (events ++ Call p op ∷ [])

  abbrev S : State
  S = (w.nodes p).state

  abbrev r : State × Outcome
  r = step start S (CallStep op)

  Q : IsQuiescent n w.nodes
  Q = rests start n registers laws events M.none

  move : move_of n registers w (Call p op) ≡ Some (p, CallStep op)
  move = call_tests (nat_lt (length w.accepted) MOST_EVENTS) (nat_lt p n) (is_some S.running) (nat_lt (register_of op) registers) (nat_lt S.calls MOST_OPERATIONS) (Some (p, CallStep op))
      (lt-ltb (length w.accepted) MOST_EVENTS (let m = M.room in omega (arith, m)))
      (lt-ltb p n M.process) (ap is_some (Q.idle p M.process)) (lt-ltb (register_of op) registers M.known) (lt-ltb S.calls MOST_OPERATIONS M.fits)

  -- no fault applies to the call
  pub none_applies : (failed : Bool) → failed ≡ false
      → cond failed (Some Failed) (world_fault n registers w (Call p op)) ≡ None
  none_applies failed going = call_passed failed (nat_lt (length w.accepted) MOST_EVENTS) (nat_lt p n) (is_some S.running) (nat_lt (register_of op) registers) (nat_lt S.calls MOST_OPERATIONS) going
      (lt-ltb (length w.accepted) MOST_EVENTS (let m = M.room in omega (arith, m)))
      (lt-ltb p n M.process) (ap is_some (Q.idle p M.process)) (lt-ltb (register_of op) registers M.known) (lt-ltb S.calls MOST_OPERATIONS M.fits)

  pub called_is : u ≡ moved start w (Call p op) (Some (p, CallStep op))
  called_is = one_more start n registers events (Call p op) ∙ ap (moved start w (Call p op)) move

  pub called_accepted : u.accepted ≡ w.accepted ++ Call p op ∷ []
  called_accepted = ap (λ (z : World). z.accepted) called_is

  node_own : u.nodes p ≡ after_step start (w.nodes p) (CallStep op)
  node_own = ap (λ (z : World). z.nodes p) called_is ∙ put_same w.nodes p (after_step start (w.nodes p) (CallStep op)) p refl

  node_other : (q : ℕ) → (q ≡ p → ⊥) → u.nodes q ≡ w.nodes q
  node_other q ne = ap (λ (z : World). z.nodes q) called_is ∙ put_other w.nodes p (after_step start (w.nodes p) (CallStep op)) q ne

  B : Begins S r
  B = called_begins S op (start op (unsettled S))

  pub own_count : (u.nodes p).state.calls ≡ S.calls + 1
  own_count = ap (λ (x : Node). x.state.calls) node_own ∙ B.calls

  pub other_count : (q : ℕ) → (q ≡ p → ⊥) → (u.nodes q).state.calls ≡ (w.nodes q).state.calls
  other_count q ne = ap (λ (x : Node). x.state.calls) (node_other q ne)

  -- it is no further from rest than by what a turn makes needed
  pub near : distance n u.nodes ≤ n * (n - 1)
  near =
      let L = (inv_of start n registers events).local p M.process in
      let same = ap (λ (z : World). distance n z.nodes) called_is in
      let more = distance_more start n p w.nodes op M.process L.me L.size in
      let zero = (rests_at_none start n registers events).0 M.none in
      omega (arith, same, more, zero)

  -- the run can come to rest again
  pub again : (R : CanRest start n registers (events ++ Call p op ∷ [])) × (length R.more ≤ 3 * (n * (n - 1)))
  again =
      let count = ap length called_accepted in
      let one = length-append w.accepted (Call p op ∷ []) in
      let m = M.room in
      let d = near in
      let R = can_rest start n registers (events ++ Call p op ∷ []) laws (omega (arith, count, one, m, d)) in
      (R, let few = R.few in omega (arith, few, d))

  module _ (R : CanRest start n registers (events ++ Call p op ∷ [])) where
    abbrev v : World
    v = whole start n registers ((events ++ Call p op ∷ []) ++ R.more)

    pub quiet_more : Follows n p u v
    quiet_more = all_follow start n p u registers (events ++ Call p op ∷ []) R.more (λ e i. later_quiet (put_for u.nodes) e (R.later e i)) (record {
      casts = refl;
      order = ([], sym (append-nil u.order));
      calls = λ q. refl;
      idle = λ q l ne. ap (λ (x : Node). x.state.running) (node_other q ne) ∙ Q.idle q l;
      told = inl (record { history = refl; running = refl });
    })

    abbrev id : OpId
    id = op_id p S.calls

    -- the history with the call
    abbrev asked : List Entry
    asked = w.history ++ Called (length w.accepted) id op ∷ []

    same_id : (k : ℕ) → k ≡ S.calls + 1 → op_id p (k - 1) ≡ id
    same_id k e = ap (op_id p) (omega (arith, e))

    running_is : (u.nodes p).state.running ≡ r.0.running
    running_is = ap (λ (x : Node). x.state.running) node_own

    history_is : u.history ≡ asked ++ answers_in (length w.accepted) (op_id p (r.0.calls - 1)) r.1.reply
    history_is = ap (λ (z : World). z.history) called_is

    joined : (later : ℕ) (a : Answer) → asked ++ Answered later id a ∷ [] ≡ w.history ++ Called (length w.accepted) id op ∷ Answered later id a ∷ []
    joined later a = append_assoc w.history (Called (length w.accepted) id op ∷ []) (Answered later id a ∷ [])

    -- the operation waits, and is answered on the way to rest
    told_later : r.1.reply ≡ None → (r.0.running ≡ None → ⊥) → IsUntold p u v ⊎ IsTold p u v → TurnTold p op r.1.reply w v
    told_later silent runs (inl U) = absurd (runs (sym running_is ∙ (sym U.running ∙ R.quiescent.idle p M.process)))
    told_later silent runs (inr T) = record {
      later = T.at;
      answer = T.answer;
      history = T.history
          ∙ ap (λ h. h ++ Answered T.at (op_id p ((u.nodes p).state.calls - 1)) T.answer ∷ []) (history_is ∙ ap (λ o. asked ++ answers_in (length w.accepted) (op_id p (r.0.calls - 1)) o) silent ∙ append-nil asked)
          ∙ ap (λ i. asked ++ Answered T.at i T.answer ∷ []) (same_id (u.nodes p).state.calls own_count)
          ∙ joined T.at T.answer;
      now = λ y e. absurd (none-some y (sym silent ∙ e));
    }

    -- or is answered at its call
    told_now : (y : Reply) → r.1.reply ≡ Some y → r.0.running ≡ None → IsUntold p u v ⊎ IsTold p u v → TurnTold p op r.1.reply w v
    told_now y says free (inl U) = record {
      later = length w.accepted;
      answer = y.answer;
      history = U.history ∙ history_is
          ∙ ap (λ o. asked ++ answers_in (length w.accepted) (op_id p (r.0.calls - 1)) o) says
          ∙ ap (λ i. asked ++ Answered (length w.accepted) i y.answer ∷ []) (same_id r.0.calls B.calls)
          ∙ joined (length w.accepted) y.answer;
      now = λ z e. ap (λ (x : Reply). x.answer) (same_Some y z (sym says ∙ e));
    }
    told_now y says free (inr T) = absurd (T.ran (running_is ∙ free))

    pub told : TurnTold p op r.1.reply w v
    told = elim B.now [ inl h ↦ told_later h.0 h.1 quiet_more.told | inr h ↦ told_now h.0 h.1 h.2 quiet_more.told ]
