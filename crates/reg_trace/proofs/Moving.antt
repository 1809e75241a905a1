-- Which events of a world make a step, and which are refused.
use Rattle.std.proofs.Common.{ℕ, ◌≡◌, ◌≢◌, ◌+◌, ◌<◌, ◌≤◌, List, [], ◌∷◌, ◌++◌, length, Option, None, Some, refl, sym}
use Rattle.std.proofs.Common.{ap, ◌∙◌, arith, append_assoc, length-append}
use Rattle.std.specs.Prelude.{◌==◌, ◌&&◌, not, nat_lt, slice_get}
use Rattle.std.proofs.lemmas.Bool.{and_parts, cond_both, ltb-true}
use Rattle.std.proofs.lemmas.Option.{none-some}
use Rattle.reg_base.specs.declared.memory.Op.{Op}
use Rattle.reg_front.specs.declared.starts.Start.{Start}
use Rattle.reg_process.specs.declared.steps.Step.{Step}
use Rattle.reg_process.specs.declared.steps.Step.TheVariants.{Call as CallStep, Tick as TickStep}
use Rattle.reg_process.specs.declared.events.Event.{Event}
use Rattle.reg_process.specs.declared.events.Event.TheVariants.{Call, Take, Tick}
use Rattle.reg_world.specs.declared.faults.WorldFault.{WorldFault}
use Rattle.reg_world.specs.declared.faults.WorldFault.TheVariants.{Failed, TooManyEvents, NoProcess, Busy, NoRegister}
use Rattle.reg_world.specs.declared.faults.WorldFault.TheVariants.{TooManyOperations, NoFrame, OutOfMemory}
use Rattle.reg_world.specs.Histories.{process_of}
use Rattle.reg_world.specs.Nodes.{Nodes, step_of, take_step}
use Rattle.reg_world.specs.World.{World, move_of, moved, happens, run}
use Rattle.reg_world.specs.Worlds.{Made, Refuses, refusal}

step_grows : (start : Op → ℕ → Start) (w : World) (e : Event) (m : Option (ℕ × Step))
    → length (moved start w e m).accepted ≤ length w.accepted + 1
step_grows start w e None = omega arith
step_grows start w e (Some m) = let l : length (w.accepted ++ e ∷ []) ≡ length w.accepted + 1 = length-append w.accepted (e ∷ []) in omega (arith, l)

run_grows : (start : Op → ℕ → Start) (n registers : ℕ) (es : List Event) (w : World)
    → length (run start n registers es w).accepted ≤ length w.accepted + length es
run_grows start n registers [] w = omega arith
run_grows start n registers (e ∷ es) w =
    let a = step_grows start w e (move_of n registers w e) in
    let b = run_grows start n registers es (happens start n registers w e) in
    omega (arith, a, b)

-- where a run accepts its first event, and all others, some process makes a step in it
pub first_moved : (start : Op → ℕ → Start) (n registers : ℕ) (x : Event) (es : List Event) (w : World)
    (m : Option (ℕ × Step))
    → move_of n registers w x ≡ m
    → (run start n registers es (moved start w x m)).accepted ≡ w.accepted ++ x ∷ es → (s : ℕ × Step) × (m ≡ Some s) × ((run start n registers es (moved start w x m)).accepted ≡ (moved start w x m).accepted ++ es)
first_moved start n registers x es w None is all =
    let a : length (run start n registers es w).accepted ≡ length w.accepted + length (x ∷ es) = ap length all ∙ length-append w.accepted (x ∷ es) in
    let b = run_grows start n registers es w in
    absurd (omega (arith, a, b))
first_moved start n registers x es w (Some m) is all = (m, refl, all ∙ sym (append_assoc w.accepted (x ∷ []) es))

-- the process of an event that makes a step is there
mover_there : (n registers : ℕ) (w : Nodes) (e : Event) (m : ℕ × Step) → step_of n registers w e ≡ Some m
    → process_of e < n
mover_there n registers w (Call p op) m =
    cond_both (nat_lt p n && _) (Some (p, CallStep op)) None (λ (o : Option (ℕ × Step)). o ≡ Some m → p < n) (λ e h. ltb-true p n (and_parts (nat_lt p n) _ e).0) (λ _ h. absurd (none-some m h))
mover_there n registers w (Take from to place) m =
    cond_both (nat_lt from n && (nat_lt to n && not (from == to))) (take_step from to (slice_get ((w from).wire to) place)) None (λ (o : Option (ℕ × Step)). o ≡ Some m → to < n)
    (λ e h. ltb-true to n (and_parts (nat_lt to n) _ (and_parts (nat_lt from n) _ e).1).0) (λ _ h. absurd (none-some m h))
mover_there n registers w (Tick p) m =
    cond_both (nat_lt p n) (Some (p, TickStep)) None (λ (o : Option (ℕ × Step)). o ≡ Some m → p < n) (λ e h. ltb-true p n e) (λ _ h. absurd (none-some m h))

-- an event to which a fault applies is refused by it
pub fault_refuses : (start : Op → ℕ → Start) (w : Made) (e : Event) (fault : WorldFault) → fault ≢ OutOfMemory
    → refusal start w e ≡ Some fault → Refuses start w e fault w
fault_refuses start w e Failed other is = (is, refl)
fault_refuses start w e TooManyEvents other is = (is, refl)
fault_refuses start w e NoProcess other is = (is, refl)
fault_refuses start w e Busy other is = (is, refl)
fault_refuses start w e NoRegister other is = (is, refl)
fault_refuses start w e TooManyOperations other is = (is, refl)
fault_refuses start w e NoFrame other is = (is, refl)
fault_refuses start w e OutOfMemory other is = absurd (other refl)
