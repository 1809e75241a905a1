-- One event of a world, from its parts.
use Rattle.std.proofs.Common.{◌≡◌, ℕ, zero, suc, ◌<◌, Bool, true, false, not, cond, List, [], ◌∷◌, ◌++◌, length, Option}
use Rattle.std.proofs.Common.{Some, None, Result, Ok, Err, refl, sym, ap, ◌∙◌, subst, inl, inr, arith}
use Rattle.std.specs.Prelude.{nat_lt, ◌==◌, ◌&&◌, slice_get, MatchResult}
use Rattle.std.specs.Option.{is_some}
use Rattle.std.proofs.lemmas.Bool.{cond_both, cases_lt, cases_eq}
use Rattle.reg_base.specs.declared.limits.TheConstants.{MOST_EVENTS, MOST_OPERATIONS}
use Rattle.reg_base.specs.declared.memory.Op.{Op}
use Rattle.reg_base.specs.Memory.{register_of}
use Rattle.reg_frames.specs.declared.bodies.Frame.{Frame}
use Rattle.reg_front.specs.declared.starts.Start.{Start}
use Rattle.reg_process.specs.declared.steps.Step.{Step}
use Rattle.reg_process.specs.declared.steps.Step.TheVariants.{Call as CallStep, Tick as TickStep}
use Rattle.reg_process.specs.declared.events.Event.{Event}
use Rattle.reg_process.specs.declared.events.Event.TheVariants.{Call, Take, Tick}
use Rattle.reg_world.specs.declared.faults.WorldFault.{WorldFault}
use Rattle.reg_world.specs.declared.faults.WorldFault.TheVariants.{Failed, TooManyEvents, NoProcess, Busy, NoRegister}
use Rattle.reg_world.specs.declared.faults.WorldFault.TheVariants.{TooManyOperations, NoFrame, OutOfMemory}
use Rattle.reg_world.specs.Nodes.{Nodes, step_of, take_step}
use Rattle.reg_world.specs.World.{World, frame_fault, event_fault, world_fault, move_of, whole}
use Rattle.reg_world.specs.Books.{tally_of}
use Rattle.reg_world.specs.Pages.{Pages, tally_at}
use Rattle.reg_world.specs.Members.{Standing, listed}
use Rattle.reg_world.specs.WorldParts.{Tells, Stand, tally_fault, call_refusal, wire_in, frame_or, frame_in, call_or}
use Rattle.reg_world.specs.WorldParts.{take_or, found_step, found}
use Rattle.reg_world.proofs.lists.Bodies.{place_first, place_last}
use Rattle.reg_world.proofs.code.Tallied.{at_or}
use Rattle.reg_world.proofs.code.Sending.{length-listed}
use Rattle.reg_world.proofs.code.Found.{not_less}

-- a step was found, or the fault that applies
abbrev pub IsFound : Option WorldFault → Option (ℕ × Step) → Result (ℕ × Step) WorldFault → Type 0
IsFound fault move result = MatchResult result (λ m. (fault ≡ None) × (move ≡ Some m)) (λ f. fault ≡ Some f)

call_found : (a b c d : Bool) (p : ℕ) (op : Op)
    → IsFound
    (cond a (cond b (Some Busy) (cond c (cond d None (Some TooManyOperations)) (Some NoRegister))) (Some NoProcess))
    (cond (a && (not b && (c && d))) (Some (p, CallStep op)) None)
    (call_or (cond a (cond b (Some Busy) (cond c (cond d None (Some TooManyOperations)) (Some NoRegister))) (Some NoProcess)) p op)
call_found false b c d p op = refl
call_found true true c d p op = refl
call_found true false false d p op = refl
call_found true false true false p op = refl
call_found true false true true p op = (refl, refl)

take_found : (a b c : Bool) (o : Option Frame) (from to : ℕ)
    → IsFound (cond a (cond b (cond c (Some NoFrame) (frame_fault o)) (Some NoProcess)) (Some NoProcess))
    (cond (a && (b && not c)) (take_step from to o) None)
    (take_or (cond a (cond b (cond c (Err NoFrame) (frame_or o)) (Err NoProcess)) (Err NoProcess)) from to)
take_found false b c o from to = refl
take_found true false c o from to = refl
take_found true true true o from to = refl
take_found true true false None from to = refl
take_found true true false (Some f) from to = (refl, refl)

tick_found : (a : Bool) (p : ℕ)
    → IsFound (cond a None (Some NoProcess)) (cond a (Some (p, TickStep)) None)
    (cond a (Ok (p, TickStep)) (Err NoProcess))
tick_found false p = refl
tick_found true p = (refl, refl)

events_found : (a : Bool) (fault : Option WorldFault) (move : Option (ℕ × Step)) (result : Result (ℕ × Step) WorldFault)
    → IsFound fault move result
    → IsFound (cond a fault (Some TooManyEvents)) (cond a move None) (cond a result (Err TooManyEvents))
events_found true fault move result h = h
events_found false fault move result h = refl

pub at_listed : {X : Type 0} (f : ℕ → X) (n k : ℕ) → k < n → slice_get (listed f n) k ≡ Some (f k)
at_listed f zero k l = absurd (omega arith)
at_listed f (suc n) k l = elim (cases_eq k n) [
  | inl e ↦ ap (slice_get (listed f n ++ f n ∷ [])) (e ∙ sym (length-listed f n)) ∙ (place_last (listed f n) (f n) ∙ ap (λ z. Some (f z)) (sym e))
  | inr ne ↦ place_first (listed f n) (f n ∷ []) k (f k) (at_listed f n k (omega (arith, l, ne)))
]

module _ (start : Op → ℕ → Start) (b : Pages) (members : List Standing) (size : length members ≡ b.shape.processes) (T : Tells start b) (S : Stand start b members) where
  abbrev n : ℕ
  n = b.shape.processes

  abbrev w : World
  w = whole start b.shape.processes b.shape.registers b.accepted

  call_right : (p : ℕ) (op : Op) → IsFound (event_fault n b.shape.registers w.nodes (Call p op)) (step_of n b.shape.registers w.nodes (Call p op)) (found_step members b (Call p op))
  call_right p op =
      let s = (w.nodes p).state in
      let a = nat_lt p n in
      let d = nat_lt s.calls MOST_OPERATIONS in
      let c = nat_lt (register_of op) b.shape.registers in
      let it = call_found a (is_some s.running) c d p op in
      let same : cond a (cond (is_some s.running) (Some Busy) (cond c (cond d None (Some TooManyOperations)) (Some NoRegister))) (Some NoProcess) ≡ call_refusal b.tallies b.shape.registers p op = elim (cases_lt p n) [
        | inl l ↦
            let here : nat_lt p n ≡ nat_lt p (length b.tallies) = ap (nat_lt p) (sym T.tallies.size) in
            let tally : tally_at b.tallies p ≡ tally_of w p = at_or b.tallies p (tally_of w p) _ (T.tallies.each p l) in
            ap (λ z. cond z (cond (is_some s.running) (Some Busy) (cond c (cond d None (Some TooManyOperations)) (Some NoRegister))) (Some NoProcess)) here
            ∙ ap (λ t. cond (nat_lt p (length b.tallies)) (tally_fault t b.shape.registers op) (Some NoProcess)) (sym tally)
        | inr h ↦
            ap (λ z. cond z (cond (is_some s.running) (Some Busy) (cond c (cond d None (Some TooManyOperations)) (Some NoRegister))) (Some NoProcess)) (not_less p n h)
            ∙ sym (ap (λ z. cond z (tally_fault (tally_at b.tallies p) b.shape.registers op) (Some NoProcess)) (ap (nat_lt p) T.tallies.size ∙ not_less p n h))
      ] in
      subst (λ o. IsFound (event_fault n b.shape.registers w.nodes (Call p op)) (step_of n b.shape.registers w.nodes (Call p op)) (call_or o p op)) same it

  wire_is : (from to : ℕ) → from < n → to < n → wire_in (slice_get members from) to ≡ (w.nodes from).wire to
  wire_is from to lf lt =
      ap (λ o. wire_in o to) (S.each from lf) ∙ at_or (listed (w.nodes from).wire n) to ((w.nodes from).wire to) [] (at_listed (w.nodes from).wire n to lt)

  take_right : (from to number : ℕ) → IsFound (event_fault n b.shape.registers w.nodes (Take from to number)) (step_of n b.shape.registers w.nodes (Take from to number)) (found_step members b (Take from to number))
  take_right from to number =
      let o = slice_get ((w.nodes from).wire to) number in
      let it = take_found (nat_lt from n) (nat_lt to n) (from == to) o from to in
      let same : cond (nat_lt from n) (cond (nat_lt to n) (cond (from == to) (Err NoFrame) (frame_or o)) (Err NoProcess)) (Err NoProcess) ≡ frame_in members from to number =
      ap (λ m. cond (nat_lt from m) (cond (nat_lt to m) (cond (from == to) (Err NoFrame) (frame_or o)) (Err NoProcess)) (Err NoProcess)) (sym size)
      ∙ elim (cases_lt from n) [
        | inl lf ↦ elim (cases_lt to n) [
          | inl lt ↦ ap (λ l. cond (nat_lt from (length members)) (cond (nat_lt to (length members)) (cond (from == to) (Err NoFrame) (frame_or (slice_get l number))) (Err NoProcess)) (Err NoProcess)) (sym (wire_is from to lf lt))
          | inr h ↦
              let no_to : nat_lt to (length members) ≡ false = not_less to (length members) (omega (arith, h, size)) in
              ap (λ z. cond (nat_lt from (length members)) (cond z (cond (from == to) (Err NoFrame) (frame_or o)) (Err NoProcess)) (Err NoProcess)) no_to
              ∙ sym (ap (λ z. cond (nat_lt from (length members)) (cond z (cond (from == to) (Err NoFrame) (frame_or (slice_get (wire_in (slice_get members from) to) number))) (Err NoProcess)) (Err NoProcess)) no_to)
        ]
        | inr h ↦
            let no_from : nat_lt from (length members) ≡ false = not_less from (length members) (omega (arith, h, size)) in
            ap (λ z. cond z (cond (nat_lt to (length members)) (cond (from == to) (Err NoFrame) (frame_or o)) (Err NoProcess)) (Err NoProcess)) no_from
            ∙ sym (ap (λ z. cond z (cond (nat_lt to (length members)) (cond (from == to) (Err NoFrame) (frame_or (slice_get (wire_in (slice_get members from) to) number))) (Err NoProcess)) (Err NoProcess)) no_from)
      ] in
      subst (λ x. IsFound (event_fault n b.shape.registers w.nodes (Take from to number)) (step_of n b.shape.registers w.nodes (Take from to number)) (take_or x from to)) same it

  step_right : (e : Event) → IsFound (event_fault n b.shape.registers w.nodes e) (step_of n b.shape.registers w.nodes e) (found_step members b e)
  step_right (Call p op) = call_right p op
  step_right (Take from to number) = take_right from to number
  step_right (Tick p) = subst (λ m. IsFound (cond (nat_lt p n) None (Some NoProcess)) (cond (nat_lt p n) (Some (p, TickStep)) None) (cond (nat_lt p m) (Ok (p, TickStep)) (Err NoProcess))) (sym size) (tick_found (nat_lt p n) p)

  pub found_right : (e : Event)
      → IsFound (world_fault n b.shape.registers w e) (move_of n b.shape.registers w e) (found members b e)
  found_right e =
      subst (λ l. IsFound (world_fault n b.shape.registers w e) (move_of n b.shape.registers w e) (cond (nat_lt (length l) MOST_EVENTS) (found_step members b e) (Err TooManyEvents))) T.accepted
      (events_found (nat_lt (length w.accepted) MOST_EVENTS) (event_fault n b.shape.registers w.nodes e) (step_of n b.shape.registers w.nodes e) (found_step members b e) (step_right e))

-- no fault of an event is want of memory, or that the world has stopped
abbrev IsOrdinary : Option WorldFault → Type 0
IsOrdinary o = (o ≡ Some OutOfMemory → ⊥) × (o ≡ Some Failed → ⊥)

ordinary_call : (a b c d : Bool)
    → IsOrdinary
    (cond a (cond b (Some Busy) (cond c (cond d None (Some TooManyOperations)) (Some NoRegister))) (Some NoProcess))
ordinary_call false b c d = (λ e. cc, λ e. cc)
ordinary_call true true c d = (λ e. cc, λ e. cc)
ordinary_call true false false d = (λ e. cc, λ e. cc)
ordinary_call true false true false = (λ e. cc, λ e. cc)
ordinary_call true false true true = (λ e. cc, λ e. cc)

ordinary_take : (a b c : Bool) (o : Option Frame)
    → IsOrdinary (cond a (cond b (cond c (Some NoFrame) (frame_fault o)) (Some NoProcess)) (Some NoProcess))
ordinary_take false b c o = (λ e. cc, λ e. cc)
ordinary_take true false c o = (λ e. cc, λ e. cc)
ordinary_take true true true o = (λ e. cc, λ e. cc)
ordinary_take true true false None = (λ e. cc, λ e. cc)
ordinary_take true true false (Some f) = (λ e. cc, λ e. cc)

ordinary_tick : (a : Bool) → IsOrdinary (cond a None (Some NoProcess))
ordinary_tick false = (λ e. cc, λ e. cc)
ordinary_tick true = (λ e. cc, λ e. cc)

ordinary_event : (n registers : ℕ) (w : Nodes) (e : Event) → IsOrdinary (event_fault n registers w e)
ordinary_event n registers w (Call p op) = ordinary_call (nat_lt p n) (is_some (w p).state.running) (nat_lt (register_of op) registers) (nat_lt (w p).state.calls MOST_OPERATIONS)
ordinary_event n registers w (Take from to number) =
    ordinary_take (nat_lt from n) (nat_lt to n) (from == to) (slice_get ((w from).wire to) number)
ordinary_event n registers w (Tick p) = ordinary_tick (nat_lt p n)

pub ordinary : (n registers : ℕ) (w : World) (e : Event) → IsOrdinary (world_fault n registers w e)
ordinary n registers w e =
    cond_both (nat_lt (length w.accepted) MOST_EVENTS) (event_fault n registers w.nodes e) (Some TooManyEvents) IsOrdinary (λ _. ordinary_event n registers w.nodes e) (λ _. (λ e. cc, λ e. cc))
