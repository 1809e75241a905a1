-- Each interleaving has a run: its turns are made one after another, each from rest to rest.
use Rattle.std.proofs.Common.{◌≡◌, ℕ, zero, suc, ◌+◌, ◌-◌, ◌*◌, ◌<◌, ◌≤◌, List, [], ◌∷◌, ◌++◌, length, map, take}
use Rattle.std.proofs.Common.{replicate, refl, sym, ap, ◌∙◌, subst, inl, inr, arith, length-append}
use Rattle.std.specs.Prelude.{slice_index}
use Rattle.std.proofs.lemmas.Bool.{cases_eq}
use Rattle.std.proofs.lemmas.Option.{slice_get_within}
use Rattle.std.proofs.Math.Nat.{suc-mul}
use Rattle.reg_base.specs.declared.limits.TheConstants.{MOST_EVENTS}
use Rattle.reg_base.specs.declared.memory.Op.{Op}
use Rattle.reg_base.specs.Memory.{answer_of}
use Rattle.reg_base.specs.Order.{In}
use Rattle.reg_front.specs.declared.starts.Start.{Start}
use Rattle.reg_front.specs.Fronts.{KeepsLaws}
use Rattle.reg_process.specs.declared.events.Event.{Event}
use Rattle.reg_process.specs.declared.events.Event.TheVariants.{Call}
use Rattle.reg_process.proofs.Again.{replicate_at}
use Rattle.reg_checkers.specs.History.{IsAt}
use Rattle.reg_world.specs.Laws.{AllAcknowledged, IsQuiescent}
use Rattle.reg_world.specs.World.{World, op_id, whole}
use Rattle.reg_world.proofs.witness.Promised.{rests}
use Rattle.reg_workload.specs.Plays.{calls_of}
use Rattle.reg_outcomes.specs.Told.{outcome_of}
use Rattle.reg_outcomes.proofs.TellingHistory.{outcome_none}
use Rattle.reg_records.specs.Rest.{CanRest}
use Rattle.reg_outcomes.specs.Finishing.{HasRoom, IsOutcome, UsesUp}
use Rattle.reg_outcomes.specs.Interleavings.{ArePlayable, Interleaving, IsInterleaving, Leads, Nothing, Turn, Stage}
use Rattle.reg_outcomes.specs.Interleavings.{first_stage, script_of, stage_after, told_after}
use Rattle.reg_outcomes.specs.Layers.{IsReady}
use Rattle.reg_outcomes.specs.Showing.{callers}
use Rattle.reg_outcomes.specs.Turning.{MayTurn, turn_events}
use Rattle.reg_outcomes.proofs.Leading.{Keeps, keeps, ready, turns_of_all}
use Rattle.reg_outcomes.proofs.Stepping.{as_many, has_script}
use Rattle.reg_outcomes.proofs.TurningAnswers.{memory_after_run, turn_right}
use Rattle.reg_outcomes.proofs.TurningCalls.{later_quiet, index_set, index_other, own_calls, other_calls, take_none}
use Rattle.reg_outcomes.proofs.TurningCalls.{all_called, none_pending, turn_callers}
use Rattle.reg_outcomes.proofs.TurningMoves.{Follows, IsQuiet}
use Rattle.reg_outcomes.proofs.TurningTold.{outcome_more, turn_told}
use Rattle.reg_outcomes.proofs.TurningTurn.{again, called_accepted, own_count, other_count, quiet_more, told}

-- these events made the turns, and the run is at rest
pub record Turned (start : Op → ℕ → Start) (scripts : List (List Op)) (registers : ℕ) (turns : List ℕ) (s : Stage) (events : List Event) : Type 0 where
  pub accepted : (whole start (length scripts) registers events).accepted ≡ events
  pub called : (q : ℕ) → q < length scripts → calls_of q events ≡ take (slice_index s.next q) (script_of scripts q)
  pub counts : (q : ℕ) → q < length scripts
      → ((whole start (length scripts) registers events).nodes q).state.calls ≡ slice_index s.next q
  pub none : AllAcknowledged (length scripts) (whole start (length scripts) registers events).nodes
  pub memory : memory_after_run registers (whole start (length scripts) registers events) ≡ s.memory
  pub told : outcome_of (length scripts) (whole start (length scripts) registers events).history ≡ s.told
  pub by_turn : callers events ≡ turns
  pub few : length events ≤ length turns * turn_events (length scripts)

no_outcome : (n : ℕ) → outcome_of n [] ≡ []
no_outcome zero = sym (outcome_none [])
no_outcome (suc n) = outcome_more n [] ∙ ap (λ l. l ++ []) (no_outcome n)

module _ (start : Op → ℕ → Start) (scripts : List (List Op)) (registers : ℕ) (laws : KeepsLaws start) (playable : ArePlayable scripts registers) where
  abbrev n : ℕ
  n = length scripts

  abbrev run_by : List Event → World
  run_by events = whole start n registers events

  -- nothing happened
  pub first_turned : Turned start scripts registers [] (first_stage n registers) []
  first_turned = record {
    accepted = refl;
    called = λ q l. take_none (script_of scripts q) (slice_index (replicate n 0) q) (replicate_at n q 0);
    counts = λ q l. sym (replicate_at n q 0);
    none = λ q l. none_pending n;
    memory = refl;
    told = no_outcome n;
    by_turn = refl;
    few = omega arith;
  }

  -- a turn more
  module _ (turns : List ℕ) (s : Stage) (leads : Leads scripts registers turns s) (p : ℕ) (op : Op) (at : IsAt (script_of scripts p) (slice_index s.next p) op) (events : List Event) (old : Turned start scripts registers turns s events) (room : (length turns + 1) * turn_events n ≤ MOST_EVENTS) where
    l : p < n
    l = has_script scripts p (slice_index s.next p) op at

    K : Keeps scripts registers turns s
    K = keeps scripts registers turns s leads

    can_go : IsReady scripts s
    can_go = ready scripts registers turns s playable leads

    grows : (length turns + 1) * turn_events n ≡ length turns * turn_events n + turn_events n
    grows = ap (λ k. k * turn_events n) (let e : length turns + 1 ≡ suc (length turns) = omega arith in e) ∙ suc-mul (length turns) (turn_events n)

    pub may_turn : MayTurn start n registers events p op
    may_turn = record {
      process = l;
      known = let known = can_go.known p (slice_index s.next p) op at in let size = K.memory in omega (arith, known, size);
      fits = let within = slice_get_within (script_of scripts p) (slice_index s.next p) op at in let short = can_go.short p in let count = old.counts p l in omega (arith, within, short, count);
      none = old.none;
      room = let few = old.few in let size = ap length old.accepted in let more = grows in let all = room in omega (arith, few, size, more, all);
    }

    inside : p < length s.next
    inside = let many = as_many s.next scripts K.behind in let h = l in omega (arith, many, h)

    next_own : slice_index (stage_after p op s).next p ≡ slice_index s.next p + 1
    next_own = index_set s.next p (slice_index s.next p + 1) inside

    next_other : (q : ℕ) → (q ≡ p → ⊥) → slice_index (stage_after p op s).next q ≡ slice_index s.next q
    next_other q ne = index_other s.next p q (slice_index s.next p + 1) ne

    module _ (R : CanRest start n registers (events ++ Call p op ∷ [])) (short : length R.more ≤ 3 * (n * (n - 1))) where
      abbrev all : List Event
      all = (events ++ Call p op ∷ []) ++ R.more

      quiet : (e : Event) → In e R.more → IsQuiet e
      quiet e i = later_quiet _ e (R.later e i)

      F : Follows n p (run_by (events ++ Call p op ∷ [])) (run_by all)
      F = quiet_more start n registers laws events p op may_turn R

      calls_more : (q : ℕ) → q < n → calls_of q all ≡ take (slice_index (stage_after p op s).next q) (script_of scripts q)
      calls_more q lq = elim (cases_eq q p) [
        | inl e ↦ subst (λ z. calls_of z all ≡ take (slice_index (stage_after p op s).next z) (script_of scripts z)) (sym e)
            (own_calls p op events R.more (script_of scripts p) (slice_index s.next p) (slice_index (stage_after p op s).next p) quiet (old.called p l) at next_own)
        | inr ne ↦ other_calls p q op events R.more (take (slice_index s.next q) (script_of scripts q)) quiet (old.called q lq) ne ∙ ap (λ k. take k (script_of scripts q)) (sym (next_other q ne))
      ]

      counts_more : (q : ℕ) → q < n → ((run_by all).nodes q).state.calls ≡ slice_index (stage_after p op s).next q
      counts_more q lq = elim (cases_eq q p) [
        | inl e ↦ subst (λ z. ((run_by all).nodes z).state.calls ≡ slice_index (stage_after p op s).next z) (sym e)
            (F.calls p ∙ own_count start n registers laws events p op may_turn ∙ ap (λ k. k + 1) (old.counts p l) ∙ sym next_own)
        | inr ne ↦ F.calls q ∙ other_count start n registers laws events p op may_turn q ne ∙ old.counts q lq ∙ sym (next_other q ne)
      ]

      accepted_more : (run_by all).accepted ≡ all
      accepted_more = R.accepted ∙ ap (λ es. es ++ R.more) (called_accepted start n registers laws events p op may_turn ∙ ap (λ es. es ++ Call p op ∷ []) old.accepted)

      few_more : length all ≤ length (turns ++ p ∷ []) * turn_events n
      few_more =
          let a = length-append (events ++ Call p op ∷ []) R.more in
          let b = length-append events (Call p op ∷ []) in
          let more = short in
          let few = old.few in
          let e : length (turns ++ p ∷ []) * turn_events n ≡ (length turns + 1) * turn_events n = ap (λ k. k * turn_events n) (length-append turns (p ∷ [])) in
          let g = grows in
          omega (arith, a, b, more, few, e, g)

      told_more : outcome_of n (run_by all).history ≡ (stage_after p op s).told
      told_more =
          let h = (run_by events).history in
          let id = op_id p ((run_by events).nodes p).state.calls in
          let T = told start n registers laws events p op may_turn R in
          let right = turn_right start n registers laws events p op may_turn R s.memory old.memory in
          ap (outcome_of n) T.history
          ∙ turn_told n h (length (run_by events).accepted) T.later id op T.answer l
          ∙ ap (λ l. told_after op id T.answer l) old.told
          ∙ ap (λ a. told_after op id a s.told) right.0
          ∙ ap (λ k. told_after op (op_id p k) (answer_of op s.memory) s.told) (old.counts p l)

      pub turned_more : Turned start scripts registers (turns ++ p ∷ []) (stage_after p op s) all
      turned_more = record {
        accepted = accepted_more;
        called = calls_more;
        counts = counts_more;
        none = R.acknowledged;
        memory = (turn_right start n registers laws events p op may_turn R s.memory old.memory).1;
        told = told_more;
        by_turn = turn_callers p op events R.more turns quiet old.by_turn;
        few = few_more;
      }

  all_turned : (turns : List ℕ) (s : Stage) → Leads scripts registers turns s → length turns * turn_events n ≤ MOST_EVENTS → (events : List Event) × Turned start scripts registers turns s events
  all_turned turns s Nothing room = ([], first_turned)
  all_turned turns s (Turn {turns = before} {s = from} p op leads at) room =
      let e : length (before ++ p ∷ []) * turn_events n ≡ (length before + 1) * turn_events n = ap (λ k. k * turn_events n) (length-append before (p ∷ [])) in
      let more = ap (λ k. k * turn_events n) (let e : length before + 1 ≡ suc (length before) = omega arith in e) ∙ suc-mul (length before) (turn_events n) in
      let old = all_turned before from leads (omega (arith, room, e, more)) in
      let fits : (length before + 1) * turn_events n ≤ MOST_EVENTS = omega (arith, room, e) in
      let R = again start n registers laws old.0 p op (may_turn before from leads p op at old.0 old.1 fits) in
      ((old.0 ++ Call p op ∷ []) ++ R.0.more, turned_more before from leads p op at old.0 old.1 fits R.0 R.1)

-- where the turns use the scripts up, the events do
pub uses_up : (start : Op → ℕ → Start) (scripts : List (List Op)) (registers : ℕ) → KeepsLaws start
    → (turns : List ℕ) (s : Stage) (events : List Event) → Turned start scripts registers turns s events
    → s.next ≡ map length scripts → UsesUp start scripts registers events
uses_up start scripts registers laws turns s events run used =
    let Q : IsQuiescent (length scripts) (whole start (length scripts) registers events).nodes = rests start (length scripts) registers laws events run.none in
    record {
      accepted = run.accepted;
      called = λ p l. run.called p l ∙ all_called scripts s.next p used;
      idle = λ p l. Q.idle p l;
    }

pub each_has_a_run : (start : Op → ℕ → Start) (scripts : List (List Op)) (registers : ℕ) (i : Interleaving)
    → KeepsLaws start → ArePlayable scripts registers → HasRoom scripts → IsInterleaving scripts registers i
    → IsOutcome start scripts registers i.told
each_has_a_run start scripts registers i laws playable room is =
    let count = ap (λ k. k * turn_events (length scripts)) (turns_of_all scripts registers i.turns is.last is.leads is.used_up) in
    let run = all_turned start scripts registers laws playable i.turns is.last is.leads (omega (arith, room, count)) in
    (run.0, uses_up start scripts registers laws i.turns is.last run.0 run.1 is.used_up, run.1.told ∙ is.tells)
