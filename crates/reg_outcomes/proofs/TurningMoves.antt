-- What events that call nothing do to a run in which one process alone is busy: no cast is made, and that process
-- may be answered.
use Rattle.std.proofs.Common.{◌≡◌, ◌⊎◌, ℕ, ◌-◌, ◌<◌, List, [], ◌∷◌, ◌++◌, length, map, Option, Some, None, refl, sym}
use Rattle.std.proofs.Common.{ap, ◌∙◌, subst, inl, inr, append_assoc}
use Rattle.std.specs.Prelude.{◌==◌, ◌&&◌, not, nat_lt, slice_get}
use Rattle.std.proofs.lemmas.Bool.{cases_eq, cond_both}
use Rattle.std.proofs.lemmas.List.{append-nil}
use Rattle.std.proofs.lemmas.Option.{none-some}
use Rattle.reg_base.specs.declared.memory.Answer.{Answer}
use Rattle.reg_base.specs.declared.memory.Op.{Op}
use Rattle.reg_base.specs.Order.{In}
use Rattle.reg_frames.specs.declared.bodies.Frame.{Frame}
use Rattle.reg_front.specs.declared.starts.Start.{Start}
use Rattle.reg_process.specs.declared.events.Event.{Event}
use Rattle.reg_process.specs.declared.events.Event.TheVariants.{Call, Take, Tick}
use Rattle.reg_process.specs.declared.steps.Reply.{Reply}
use Rattle.reg_process.specs.declared.steps.Step.{Step}
use Rattle.reg_process.specs.declared.steps.Step.TheVariants.{Call as CallStep, Take as TakeStep, Tick as TickStep}
use Rattle.reg_process.specs.Process.{State, Outcome, still, step}
use Rattle.reg_checkers.specs.declared.entries.Entry.TheVariants.{Answered}
use Rattle.reg_world.specs.declared.order.First.{First}
use Rattle.reg_world.specs.Nodes.{Node, Nodes, after_step, step_of, take_step, unseen}
use Rattle.reg_world.specs.World.{World, op_id, calls_in, answers_in, casts_in, first_of, delivered_of, move_of, moved}
use Rattle.reg_world.specs.World.{whole}
use Rattle.reg_world.proofs.one_order.Acts.{put_cases}
use Rattle.reg_world.proofs.one_order.NodeEvents.{put_same}
use Rattle.reg_world.proofs.one_order.NodeLaws.{run_ok}
use Rattle.reg_world.proofs.one_order.Runs.{StepKept}
use Rattle.reg_world.proofs.run.Along.{moves, one_more}
use Rattle.reg_outcomes.proofs.TurningSteps.{CallsNothing, GoesOn, step_goes}

-- an event that calls nothing
abbrev pub IsQuiet : Event → Type 0
IsQuiet (Call p op) = ⊥
IsQuiet (Take from to number) = Unit {0}
IsQuiet (Tick p) = Unit {0}

abbrev IsQuietMove : Option (ℕ × Step) → Type 0
IsQuietMove None = Unit {0}
IsQuietMove (Some m) = CallsNothing m.1

take_quiet : (from to : ℕ) (o : Option Frame) → IsQuietMove (take_step from to o)
take_quiet from to None = tt
take_quiet from to (Some f) = tt

event_quiet : (n registers : ℕ) (w : Nodes) (e : Event) → IsQuiet e → IsQuietMove (step_of n registers w e)
event_quiet n registers w (Call p op) h = absurd h
event_quiet n registers w (Take from to number) h =
    cond_both (nat_lt from n && (nat_lt to n && not (from == to))) (take_step from to (slice_get ((w from).wire to) number)) None IsQuietMove
    (λ _. take_quiet from to (slice_get ((w from).wire to) number)) (λ _. tt)
event_quiet n registers w (Tick p) h = cond_both (nat_lt p n) (Some (p, TickStep)) None IsQuietMove (λ _. tt) (λ _. tt)

-- the process p was answered
pub record IsTold (p : ℕ) (u w : World) : Type 0 where
  pub at : ℕ
  pub answer : Answer
  pub history : w.history ≡ u.history ++ Answered at (op_id p ((u.nodes p).state.calls - 1)) answer ∷ []
  pub free : (w.nodes p).state.running ≡ None
  pub ran : (u.nodes p).state.running ≡ None → ⊥

-- nothing was told, and p is as busy as it was
pub record IsUntold (p : ℕ) (u w : World) : Type 0 where
  pub history : w.history ≡ u.history
  pub running : (w.nodes p).state.running ≡ (u.nodes p).state.running

-- w came after u by events that call nothing, with no other process than p busy
pub record Follows (n p : ℕ) (u w : World) : Type 0 where
  pub casts : w.casts ≡ u.casts
  pub order : (rest : List First) × (w.order ≡ u.order ++ rest)
  pub calls : (q : ℕ) → (w.nodes q).state.calls ≡ (u.nodes q).state.calls
  pub idle : (q : ℕ) → q < n → (q ≡ p → ⊥) → (w.nodes q).state.running ≡ None
  pub told : IsUntold p u w ⊎ IsTold p u w

no_calls : (at : ℕ) (p : ℕ) (k : ℕ) (e : Step) → CallsNothing e → calls_in at (op_id p k) e ≡ []
no_calls at p k (CallStep op) h = absurd h
no_calls at p k (TakeStep from f) h = refl
no_calls at p k TickStep h = refl

no_casts : (p k : ℕ) (e : Step) → CallsNothing e → (r : State × Outcome) → casts_in (op_id p k) e r.1.cast ≡ []
no_casts p k (CallStep op) h r = absurd h
no_casts p k (TakeStep from f) h r = refl
no_casts p k TickStep h r = refl

module _ (start : Op → ℕ → Start) (n p : ℕ) (u : World) where
  -- one step, of process m.0
  module _ (w : World) (e : Event) (m : ℕ × Step) (l : m.0 < n) (quiet : CallsNothing m.1) (F : Follows n p u w) where
    abbrev S : State
    S = (w.nodes m.0).state

    abbrev R : State × Outcome
    R = step start S m.1

    abbrev v : World
    v = moved start w e (Some m)

    G : GoesOn S R
    G = step_goes start S m.1 quiet

    calls_same : (q : ℕ) → (v.nodes q).state.calls ≡ (w.nodes q).state.calls
    calls_same q = put_cases (λ (x : Node). x.state.calls ≡ (w.nodes q).state.calls) w.nodes m.0 (after_step start (w.nodes m.0) m.1) q
        (λ e. G.calls ∙ ap (λ r. (w.nodes r).state.calls) (sym e)) (λ _. refl)

    -- a process that was not busy is not
    free_same : (q : ℕ) → (w.nodes q).state.running ≡ None → (v.nodes q).state.running ≡ None
    free_same q none = put_cases (λ (x : Node). x.state.running ≡ None) w.nodes m.0 (after_step start (w.nodes m.0) m.1) q
        (λ e.
        let here : S.running ≡ None = ap (λ r. (w.nodes r).state.running) (sym e) ∙ none in
        G.running ∙ ap (λ o. still o S.running) (G.free here) ∙ here)
        (λ _. none)

    history_is : v.history ≡ w.history ++ answers_in (length w.accepted) (op_id m.0 (R.0.calls - 1)) R.1.reply
    history_is = ap (λ l. (w.history ++ l) ++ answers_in (length w.accepted) (op_id m.0 (R.0.calls - 1)) R.1.reply) (no_calls (length w.accepted) m.0 S.calls m.1 quiet)
        ∙ ap (λ l. l ++ answers_in (length w.accepted) (op_id m.0 (R.0.calls - 1)) R.1.reply) (append-nil w.history)

    -- a step of a process that was not busy tells nothing
    none_told : S.running ≡ None → v.history ≡ w.history
    none_told none = history_is ∙ ap (λ o. w.history ++ answers_in (length w.accepted) (op_id m.0 (R.0.calls - 1)) o) (G.free none) ∙ append-nil w.history

    other_same : (m.0 ≡ p → ⊥) → (v.nodes p).state.running ≡ (w.nodes p).state.running
    other_same ne = put_cases (λ (x : Node). x.state.running ≡ (w.nodes p).state.running) w.nodes m.0 (after_step start (w.nodes m.0) m.1) p
        (λ e. absurd (ne (sym e))) (λ _. refl)

    running_own : m.0 ≡ p → (v.nodes p).state.running ≡ R.0.running
    running_own e = ap (λ (x : Node). x.state.running) (put_same w.nodes m.0 (after_step start (w.nodes m.0) m.1) p (sym e))

    same_id : m.0 ≡ p → op_id m.0 (R.0.calls - 1) ≡ op_id p ((u.nodes p).state.calls - 1)
    same_id e = ap (λ k. op_id m.0 (k - 1)) (G.calls ∙ ap (λ r. (w.nodes r).state.calls) e ∙ F.calls p) ∙ ap (λ r. op_id r ((u.nodes p).state.calls - 1)) e

    -- where p makes the step, and was not told yet
    own_told : m.0 ≡ p → IsUntold p u w → (o : Option Reply) → R.1.reply ≡ o → IsUntold p u v ⊎ IsTold p u v
    own_told e U None is = inl (record {
      history = history_is ∙ ap (λ o. w.history ++ answers_in (length w.accepted) (op_id m.0 (R.0.calls - 1)) o) is ∙ append-nil w.history ∙ U.history;
      running = running_own e ∙ G.running ∙ ap (λ o. still o S.running) is ∙ ap (λ r. (w.nodes r).state.running) e ∙ U.running;
    })
    own_told e U (Some y) is = inr (record {
      at = length w.accepted;
      answer = y.answer;
      history = history_is ∙ ap (λ o. w.history ++ answers_in (length w.accepted) (op_id m.0 (R.0.calls - 1)) o) is
          ∙ ap (λ h. h ++ Answered (length w.accepted) (op_id m.0 (R.0.calls - 1)) y.answer ∷ []) U.history
          ∙ ap (λ i. u.history ++ Answered (length w.accepted) i y.answer ∷ []) (same_id e);
      free = running_own e ∙ G.running ∙ ap (λ o. still o S.running) is;
      ran = λ none. none-some y (sym (G.free (ap (λ r. (w.nodes r).state.running) e ∙ U.running ∙ none)) ∙ is);
    })

    still_told : IsTold p u w → S.running ≡ None → IsTold p u v
    still_told T none = record { at = T.at; answer = T.answer; history = none_told none ∙ T.history; free = free_same p T.free; ran = T.ran }

    told_now : IsUntold p u w ⊎ IsTold p u w → IsUntold p u v ⊎ IsTold p u v
    told_now (inl U) = elim (cases_eq m.0 p) [
      | inl e ↦ own_told e U R.1.reply refl
      | inr ne ↦ inl (record { history = none_told (F.idle m.0 l ne) ∙ U.history; running = other_same ne ∙ U.running })
    ]
    told_now (inr T) = inr (still_told T (elim (cases_eq m.0 p) [
      | inl e ↦ ap (λ r. (w.nodes r).state.running) e ∙ T.free
      | inr ne ↦ F.idle m.0 l ne
    ]))

    moved_follows : Follows n p u v
    moved_follows =
        let Casts = w.casts ++ casts_in (op_id m.0 S.calls) m.1 R.1.cast in
        let more = map (first_of Casts (length w.accepted)) (unseen (map delivered_of w.order) R.1.delivered) in
        record {
          casts = ap (λ l. w.casts ++ l) (no_casts m.0 S.calls m.1 quiet R) ∙ append-nil w.casts ∙ F.casts;
          order = (F.order.0 ++ more, ap (λ l. l ++ more) F.order.1 ∙ append_assoc u.order F.order.0 more);
          calls = λ q. calls_same q ∙ F.calls q;
          idle = λ q lq ne. free_same q (F.idle q lq ne);
          told = told_now F.told;
        }

  move_follows : (registers : ℕ) (w : World) (e : Event) (m : Option (ℕ × Step)) → IsQuietMove m → StepKept start n registers (length w.accepted) w.nodes m → Follows n p u w → Follows n p u (moved start w e m)
  move_follows registers w e None quiet K F = F
  move_follows registers w e (Some m) quiet K F = moved_follows w e m K.0 quiet F

  -- all events, one after another
  pub all_follow : (registers : ℕ) (events more : List Event) → ((e : Event) → In e more → IsQuiet e)
      → Follows n p u (whole start n registers events) → Follows n p u (whole start n registers (events ++ more))
  all_follow registers events [] quiet F = subst (λ es. Follows n p u (whole start n registers es)) (sym (append-nil events)) F
  all_follow registers events (e ∷ more) quiet F =
      let w = whole start n registers events in
      let move = move_of n registers w e in
      let silent : IsQuietMove move = moves n registers w e IsQuietMove (event_quiet n registers w.nodes e (quiet e (inl refl))) tt in
      let next : Follows n p u (whole start n registers (events ++ e ∷ [])) = subst (Follows n p u) (sym (one_more start n registers events e)) (move_follows registers w e move silent (run_ok start n registers events e) F) in
      subst (λ es. Follows n p u (whole start n registers es)) (append_assoc events (e ∷ []) more)
      (all_follow registers (events ++ e ∷ []) more (λ x i. quiet x (inr i)) next)
