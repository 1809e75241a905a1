-- The run of an outcome under way: some turns were made, and the others lead to the end of the scripts.
use Rattle.std.proofs.Common.{◌≡◌, ℕ, ◌+◌, ◌-◌, ◌*◌, ◌<◌, ◌≤◌, false, List, [], ◌∷◌, ◌++◌, drop, get_or, length, map}
use Rattle.std.proofs.Common.{take, None, Result, Ok, Err, refl, sym, ap, ◌∙◌, subst, arith, length-append}
use Rattle.std.specs.Prelude.{MatchResult, slice_get, slice_index, ◌^◌}
use Rattle.std.proofs.lemmas.List.{drop_all, drop_more, length-take-le, take_all, take_more}
use Rattle.std.proofs.lemmas.Option.{none-some, same_Some}
use Rattle.std.proofs.Math.Nat.{mul-le-mul}
use Rattle.reg_base.specs.declared.limits.TheConstants.{MOST_EVENTS}
use Rattle.reg_base.specs.declared.memory.Op.{Op}
use Rattle.reg_base.specs.Memory.{register_of}
use Rattle.reg_base.specs.Shape.{Extent}
use Rattle.reg_front.specs.declared.starts.Start.{Start}
use Rattle.reg_front.specs.Fronts.{KeepsLaws}
use Rattle.reg_process.specs.declared.events.Event.{Event}
use Rattle.reg_process.specs.declared.events.Event.TheVariants.{Call}
use Rattle.reg_checkers.specs.History.{IsAt}
use Rattle.reg_world.specs.Laws.{AllAcknowledged, IsQuiescent}
use Rattle.reg_world.specs.World.{whole}
use Rattle.reg_world.specs.Worlds.{Accepts, Made, after_events, new_world, refusal, run_in, with_event}
use Rattle.reg_records.specs.Rest.{Settles, most_to_rest}
use Rattle.reg_records.specs.RestParts.{IsGoingOn}
use Rattle.reg_outcomes.specs.Finishing.{HasRoom}
use Rattle.reg_outcomes.specs.Interleavings.{ArePlayable, Interleaving, IsInterleaving, Leads, Nothing, Turn, Stage}
use Rattle.reg_outcomes.specs.Interleavings.{first_stage, script_of, stage_after}
use Rattle.reg_outcomes.specs.Showing.{IsRunOf}
use Rattle.reg_outcomes.specs.Turning.{GoesTo, IsTurn, MayTurn, turn_events}
use Rattle.reg_outcomes.specs.Layers.{IsReady}
use Rattle.reg_outcomes.proofs.Leading.{keeps, ready, turns_of_all}
use Rattle.reg_outcomes.proofs.Stepping.{as_many, has_script, number_fits}
use Rattle.reg_outcomes.proofs.TurningRuns.{Turned, first_turned, may_turn, turned_more, uses_up}
use Rattle.reg_outcomes.proofs.TurningTurn.{called_accepted, near, none_applies}

-- what follows from the value
pub on_value : {X E P R : Type 0} (Q : E → Type 0) (r : Result X E) → (P → R) → MatchResult r (λ _. P) Q
    → MatchResult r (λ _. R) Q
on_value Q (Ok x) to h = to h
on_value Q (Err e) to h = h

-- the call of a turn is not refused, and the run can come to rest after it
module _ (start : Op → ℕ → Start) (laws : KeepsLaws start) (m : Made) (on : IsGoingOn start m) (p : ℕ) (op : Op) (M : MayTurn start m.processes m.registers m.accepted p op) where
  pub may_call : refusal start m (Call p op) ≡ None
  may_call = none_applies start m.processes m.registers laws m.accepted p op M m.failed on.going

  module _ (mid : Made) (A : Accepts start m (Call p op) mid) where
    abbrev called : List Event
    called = m.accepted ++ Call p op ∷ []

    pub goes : mid.failed ≡ false
    goes = ap Made.failed A.after ∙ on.going

    call_is : (whole start m.processes m.registers called).accepted ≡ called
    call_is = called_accepted start m.processes m.registers laws m.accepted p op M ∙ ap (λ es. es ++ Call p op ∷ []) on.accepted

    far : most_to_rest m.processes (whole start m.processes m.registers called).nodes ≤ 3 * (m.processes * (m.processes - 1))
    far = let d = near start m.processes m.registers laws m.accepted p op M in omega (arith, d)

    pub has_space : length mid.accepted + most_to_rest mid.processes (run_in start mid).nodes ≤ MOST_EVENTS
    has_space = subst (λ (z : Made). length z.accepted + most_to_rest z.processes (run_in start z).nodes ≤ MOST_EVENTS) (sym A.after)
        (let one = length-append m.accepted (Call p op ∷ []) in let same = ap length on.accepted in let d = far in let room = M.room in omega (arith, one, same, d, room))

    -- so it is a turn
    turn_from : (new : Made) (count : ℕ) → Settles start (with_event start m (Call p op)) count new → IsTurn start m.processes m.registers m.accepted p op new
    turn_from new count S =
        let more = S.goes.more in
        let accepted : new.accepted ≡ called ++ more = ap Made.accepted S.goes.after in
        let as_many : new.processes ≡ m.processes = ap Made.processes S.goes.after in
        let as_wide : new.registers ≡ m.registers = ap Made.registers S.goes.after in
        let size = length-append called more in
        let made = S.made in
        let is = ap length accepted in
        let count_is : length more ≡ count = omega (arith, size, made, is) in
        let few = S.few in
        let least = far in
        record {
          rest = record {
            more = more;
            later = S.goes.later;
            few = omega (arith, count_is, few);
            accepted = subst (λ (z : Made). (run_in start z).accepted ≡ z.accepted) S.goes.after S.goes.accepted ∙ ap (λ es. es ++ more) (sym call_is);
            acknowledged = subst (λ (z : Made). AllAcknowledged z.processes (run_in start z).nodes) S.goes.after S.acknowledged;
            quiescent = subst (λ (z : Made). IsQuiescent z.processes (run_in start z).nodes) S.goes.after S.quiescent;
          };
          few = omega (arith, count_is, few, least);
          on = record {
            going = ap Made.failed S.goes.after ∙ on.going;
            accepted = S.goes.accepted;
            history = ap Made.history S.goes.after ∙ (λ i. (whole start (sym as_many i) (sym as_wide i) (sym accepted i)).history);
          };
          as_many = as_many;
          as_wide = as_wide;
          accepted = accepted;
        }

    pub is_turn : (new : Made) (count : ℕ) → Settles start mid count new → IsTurn start m.processes m.registers m.accepted p op new
    is_turn new count S = turn_from new count (subst (λ (z : Made). Settles start z count new) A.after S)

goes_more : (scripts : List (List Op)) (s : Stage) (turns : List ℕ) (t : Stage) (p : ℕ) (op : Op)
    → GoesTo scripts s turns t → IsAt (script_of scripts p) (slice_index t.next p) op
    → GoesTo scripts s (turns ++ p ∷ []) (stage_after p op t)
goes_more scripts s [] t p op e at = (op, subst (λ (z : Stage). IsAt (script_of scripts p) (slice_index z.next p) op) (sym e) at, ap (stage_after p op) e)
goes_more scripts s (q ∷ turns) t p op (x, here, rest) at =
    (x, here, goes_more scripts (stage_after q x s) turns t p op rest at)

goes_all : (scripts : List (List Op)) (registers : ℕ) (turns : List ℕ) (s : Stage) → Leads scripts registers turns s
    → GoesTo scripts (first_stage (length scripts) registers) turns s
goes_all scripts registers turns s Nothing = refl
goes_all scripts registers turns s (Turn {turns = before} {s = from} p op leads at) = goes_more scripts (first_stage (length scripts) registers) before from p op (goes_all scripts registers before from leads) at

-- The first k turns were made, and the others lead to the end of the scripts, where the outcome is told.
pub record IsUnderWay (start : Op → ℕ → Start) (scripts : List (List Op)) (registers : ℕ) (i : Interleaving) (k : ℕ) (s : Stage) (w : Made) : Type 0 where
  pub leads : Leads scripts registers (take k i.turns) s
  pub last : Stage
  pub ahead : GoesTo scripts s (drop k i.turns) last
  pub used : last.next ≡ map length scripts
  pub tells : last.told ≡ i.told
  pub count : length i.turns * turn_events (length scripts) ≤ MOST_EVENTS
  pub on : IsGoingOn start w
  pub as_many : w.processes ≡ length scripts
  pub as_wide : w.registers ≡ registers
  pub turned : Turned start scripts registers (take k i.turns) s w.accepted

-- the k-th turn is one of this process
pub record IsTurnAt (i : Interleaving) (k p : ℕ) : Type 0 where
  pub inside : k < length i.turns
  pub is : p ≡ get_or i.turns k p

pub turn_at : (i : Interleaving) (turns : List ℕ) (k p count : ℕ) → turns ≡ i.turns → count ≡ length turns → k < count
    → p ≡ get_or turns k p → IsTurnAt i k p
turn_at i turns k p count same all inside is = record {
  inside = let e = ap length same in omega (arith, e, all, inside);
  is = is ∙ ap (λ l. get_or l k p) same;
}

module _ (start : Op → ℕ → Start) (scripts : List (List Op)) (registers : ℕ) (laws : KeepsLaws start) (playable : ArePlayable scripts registers) (i : Interleaving) where
  abbrev n : ℕ
  n = length scripts

  first_under_way : IsInterleaving scripts registers i → HasRoom scripts → (shape : Extent) → shape.processes ≡ n → shape.registers ≡ registers → IsUnderWay start scripts registers i 0 (first_stage n registers) (new_world shape)
  first_under_way is room shape as_many as_wide = record {
    leads = Nothing;
    last = is.last;
    ahead = goes_all scripts registers i.turns is.last is.leads;
    used = is.used_up;
    tells = is.tells;
    count = let e = ap (λ k. k * turn_events n) (turns_of_all scripts registers i.turns is.last is.leads is.used_up) in omega (arith, e, room);
    on = record { going = refl; accepted = refl; history = refl };
    as_many = as_many;
    as_wide = as_wide;
    turned = first_turned start scripts registers laws playable;
  }

  pub begins : IsInterleaving scripts registers i → HasRoom scripts → (shape : Extent) (w : Made) → shape.processes ≡ n
      → shape.registers ≡ registers → w ≡ new_world shape → (s : Stage) → s ≡ first_stage n registers
      → IsUnderWay start scripts registers i 0 s w
  begins is room shape w as_many as_wide new s first =
      subst (λ (t : Stage). IsUnderWay start scripts registers i 0 t w) (sym first)
      (subst (λ (z : Made). IsUnderWay start scripts registers i 0 (first_stage n registers) z) (sym new) (first_under_way is room shape as_many as_wide))

  module _ (k : ℕ) (s : Stage) (w : Made) (U : IsUnderWay start scripts registers i k s w) where
    -- the next turn
    module _ (p : ℕ) (turn : IsTurnAt i k p) where
      next : GoesTo scripts s (p ∷ drop (k + 1) i.turns) U.last
      next = subst (λ l. GoesTo scripts s l U.last) (drop_more i.turns k p turn.inside ∙ ap (λ q. q ∷ drop (k + 1) i.turns) (sym turn.is)) U.ahead

      -- the process has an operation left
      pub is_left : slice_get (script_of scripts p) (slice_index s.next p) ≡ None → ⊥
      is_left none = none-some next.0 (sym none ∙ next.1)

      pub has_script_here : p < n
      has_script_here = has_script scripts p (slice_index s.next p) next.0 next.1

      pub has_number : p < length s.next
      has_number = let many = as_many s.next scripts (keeps scripts registers (take k i.turns) s U.leads).behind in let l = has_script_here in omega (arith, many, l)

      turns_more : take (k + 1) i.turns ≡ take k i.turns ++ p ∷ []
      turns_more = take_more i.turns k p turn.inside ∙ ap (λ q. take k i.turns ++ q ∷ []) (sym turn.is)

      room : (length (take k i.turns) + 1) * turn_events n ≤ MOST_EVENTS
      room =
          let inside = turn.inside in
          let few = length-take-le k i.turns (omega (arith, inside)) in
          let same : turn_events n ≤ turn_events n = omega arith in
          let count = U.count in
          let more : length (take k i.turns) + 1 ≤ length i.turns = omega (arith, few, inside) in
          let less : (length (take k i.turns) + 1) * turn_events n ≤ length i.turns * turn_events n = mul-le-mul more same in
          omega (arith, less, count)

      module _ (op : Op) (at : IsAt (script_of scripts p) (slice_index s.next p) op) where
        can_go : IsReady scripts s
        can_go = ready scripts registers (take k i.turns) s playable U.leads

        pub register_there : register_of op < length s.memory
        register_there = can_go.known p (slice_index s.next p) op at

        pub number_next : slice_index s.next p < 2 ^ 32 - 1
        number_next = number_fits scripts s p op can_go at

        may_here : MayTurn start n registers w.accepted p op
        may_here = may_turn start scripts registers laws playable (take k i.turns) s U.leads p op at w.accepted U.turned room

        pub may_go : MayTurn start w.processes w.registers w.accepted p op
        may_go = subst (λ m. MayTurn start m w.registers w.accepted p op) (sym U.as_many) (subst (λ r. MayTurn start n r w.accepted p op) (sym U.as_wide) may_here)

        module _ (v : Made) (T : IsTurn start n registers w.accepted p op v) where
          rest_ahead : GoesTo scripts (stage_after p op s) (drop (k + 1) i.turns) U.last
          rest_ahead = let same : next.0 ≡ op = same_Some next.0 op (sym next.1 ∙ at) in subst (λ o. GoesTo scripts (stage_after p o s) (drop (k + 1) i.turns) U.last) same next.2

          turned : Turned start scripts registers (take (k + 1) i.turns) (stage_after p op s) v.accepted
          turned =
              let T0 = turned_more start scripts registers laws playable (take k i.turns) s U.leads p op at w.accepted U.turned room T.rest T.few in
              subst (λ l. Turned start scripts registers l (stage_after p op s) v.accepted) (sym turns_more) (subst (λ es. Turned start scripts registers (take k i.turns ++ p ∷ []) (stage_after p op s) es) (sym T.accepted) T0)

          one_more : IsUnderWay start scripts registers i (k + 1) (stage_after p op s) v
          one_more = record {
            leads = subst (λ l. Leads scripts registers l (stage_after p op s)) (sym turns_more) (Turn p op U.leads at);
            last = U.last;
            ahead = rest_ahead;
            used = U.used;
            tells = U.tells;
            count = U.count;
            on = T.on;
            as_many = T.as_many;
            as_wide = T.as_wide;
            turned = turned;
          }

        pub goes_further : (v : Made) → IsTurn start w.processes w.registers w.accepted p op v → (t : Stage) → t ≡ stage_after p op s → IsUnderWay start scripts registers i (k + 1) t v
        goes_further v T t after =
            subst (λ (z : Stage). IsUnderWay start scripts registers i (k + 1) z v) (sym after)
            (one_more v (subst (λ m. IsTurn start m registers w.accepted p op v) U.as_many (subst (λ r. IsTurn start w.processes r w.accepted p op v) U.as_wide T)))

    -- no turn is left
    module _ (end : length i.turns ≤ k) where
      at_end : s ≡ U.last
      at_end = subst (λ l. GoesTo scripts s l U.last) (drop_all k i.turns end) U.ahead

      whole_turns : take k i.turns ≡ i.turns
      whole_turns = take_all k i.turns end

      run_is : w ≡ after_events start (record { processes = n; registers = registers }) w.accepted
      run_is =
          let history : w.history ≡ (whole start n registers w.accepted).history = U.on.history ∙ (λ j. (whole start (U.as_many j) (U.as_wide j) w.accepted).history) in
          λ j. record { failed = U.on.going j; processes = U.as_many j; registers = U.as_wide j; accepted = w.accepted; history = history j }

      pub is_run : IsRunOf start scripts registers i w
      is_run = record {
        made = run_is;
        uses_up = uses_up start scripts registers laws (take k i.turns) s w.accepted U.turned (ap Stage.next at_end ∙ U.used);
        turns = U.turned.by_turn ∙ whole_turns;
        told = U.turned.told ∙ ap Stage.told at_end ∙ U.tells;
      }
