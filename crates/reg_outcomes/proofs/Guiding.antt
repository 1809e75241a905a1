-- What has to come before an operation need not be placed after it.
use Rattle.std.proofs.Common.{inl, inr, ℕ, ◌<◌, ◌≤◌, List, [], ◌∷◌, ◌++◌, length, refl, sym, subst, arith}
use Rattle.std.proofs.Common.{length-append}
use Rattle.std.specs.Prelude.{slice_index}
use Rattle.reg_base.specs.declared.memory.OpId.{OpId}
use Rattle.reg_checkers.specs.declared.entries.Entry.{Entry}
use Rattle.reg_checkers.specs.History.{IsAt, IsHistory}
use Rattle.reg_checkers.specs.Progress.{op_of}
use Rattle.reg_checkers.proofs.Pushing.{at_push}
use Rattle.reg_world.proofs.lists.Bodies.{place_first, place_last}
use Rattle.reg_outcomes.specs.declared.orders.choices.Choice.{Choice}
use Rattle.reg_outcomes.specs.declared.orders.kinds.OrderKind.{OrderKind}
use Rattle.reg_outcomes.specs.declared.orders.walk.Step.{Step}
use Rattle.reg_outcomes.specs.Finding.{Next, Places, placed_after}
use Rattle.reg_outcomes.specs.Guiding.{IsBlocked}
use Rattle.reg_outcomes.specs.Interleavings.{Stage}
use Rattle.reg_outcomes.specs.Placing.{IsComplete, IsPlaced}
use Rattle.reg_outcomes.specs.Sought.{Sought}
use Rattle.reg_outcomes.specs.Walking.{AreTried, Ends, Goes, IsChoice, IsPath, On, ids_of}
use Rattle.reg_outcomes.proofs.Serial.{first_of, serial_is}
use Rattle.reg_outcomes.proofs.Walking.{places_of}

module _ (kind : OrderKind) (n registers : ℕ) (h : List Entry) where
  -- one operation more is placed
  one_more : (ids : List OpId) (p : ℕ) (s t : Stage) → Places kind n registers h ids s → IsPlaced kind h p s t → Places kind n registers h (ids ++ op_of p (slice_index s.next p) ∷ []) t
  one_more ids p s t places step =
      subst (λ (x : Stage). Places kind n registers h (ids ++ op_of p (slice_index s.next p) ∷ []) x) (sym step.stage) (Next (op_of p (slice_index s.next p)) step.op step.at places refl step.called step.comes step.follows)

  -- operations that begin with these are placed, with all finished ones
  record IsEnded (ids : List OpId) : Type 0 where
    all : List OpId
    last : Stage
    places : Places kind n registers h all last
    complete : IsComplete h last.next
    kept : (k : ℕ) (id : OpId) → IsAt ids k id → IsAt all k id
    only : (k : ℕ) (id : OpId) → k < length ids → IsAt all k id → IsAt ids k id

  ended : (ids : List OpId) (s : Stage) → Places kind n registers h ids s → Goes kind h s → IsEnded ids
  ended ids s places (Ends complete) = record { all = ids; last = s; places = places; complete = complete; kept = λ k id here. here; only = λ k id less here. here }
  ended ids s places (On p t step go) =
      let next : OpId = op_of p (slice_index s.next p) in
      let end = ended (ids ++ next ∷ []) t (one_more ids p s t places step) go in
      let long = length-append ids (next ∷ []) in
      record {
        all = end.all;
        last = end.last;
        places = end.places;
        complete = end.complete;
        kept = λ k id here. end.kept k id (place_first ids (next ∷ []) k id here);
        only = λ k id less here. elim (at_push ids k next id (end.only k id (omega (arith, less, long)) here)) [
          | inl old ↦ old
          | inr new ↦ let e = new.0 in absurd (omega (arith, less, e))
        ];
      }

-- where a finished operation that is not placed has to come before another, that one leads to no order
pub blocked : (s : Sought) → IsHistory s.shape.processes s.shape.registers s.entries
    → (ids : List OpId) (here t : Stage) (p : ℕ) → Places s.kind s.shape.processes s.shape.registers s.entries ids here
    → IsBlocked s here.next (op_of p (slice_index here.next p)) → IsPlaced s.kind s.entries p here t
    → ¬ Goes s.kind s.entries t
blocked s good ids here t p places is step go =
    let id : OpId = op_of p (slice_index here.next p) in
    let first : OpId = op_of is.process (slice_index here.next is.process) in
    let end = ended s.kind s.shape.processes s.shape.registers s.entries (ids ++ id ∷ []) t (one_more s.kind s.shape.processes s.shape.registers s.entries ids p here t places step) go in
    let serial = serial_is s.kind s.shape.processes s.shape.registers s.entries good end.all end.last end.places end.complete in
    let there = serial.selection.finished first is.finished in
    let less = is.comes end.all there.0 (length ids) serial there.1 (end.kept (length ids) id (place_last ids id)) in
    let long = length-append ids (id ∷ []) in
    elim (at_push ids there.0 id first (end.only there.0 first (omega (arith, less, long)) there.1)) [
      | inl old ↦ let bad : slice_index here.next is.process < slice_index here.next is.process = (first_of s.kind s.shape.processes s.shape.registers s.entries good ids here places).below there.0 first old in omega (arith, bad)
      | inr new ↦ let e = new.0 in omega (arith, less, e)
    ]

module _ (s : Sought) (good : IsHistory s.shape.processes s.shape.registers s.entries) (steps : List Step) (here : Stage) (path : IsPath s.kind s.shape.processes s.shape.registers s.entries steps here) (was tried : ℕ) (most : was ≤ tried) (are : AreTried s.kind s.entries here tried) where
  -- a choice that is blocked is tried
  pub passed_by : (c : Choice) → IsChoice s.kind s.shape.processes s.shape.registers s.entries tried here c
      → IsBlocked s here.next (op_of c.process (slice_index here.next c.process))
      → (was ≤ c.tried) × AreTried s.kind s.entries here c.tried
  passed_by c is blocks =
      let more = is.more in
      (omega (arith, most, more), is.rest are (blocked s good (ids_of steps) here (placed_after c.process c.op here) c.process (places_of s.kind s.shape.processes s.shape.registers s.entries steps here path) blocks is.placed))

  -- one of the rest is the next choice
  pub choice_beyond : (c : Choice) → IsChoice s.kind s.shape.processes s.shape.registers s.entries tried here c
      → IsChoice s.kind s.shape.processes s.shape.registers s.entries was here c
  choice_beyond c is =
      let more = is.more in
      record { process = is.process; register = is.register; more = omega (arith, most, more); top = is.top; placed = is.placed; rest = λ before none. is.rest are none }
