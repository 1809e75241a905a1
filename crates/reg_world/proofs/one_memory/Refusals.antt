-- Where an event is refused.
use Rattle.std.proofs.Common.{◌≡◌, ℕ, Bool, true, false, not, length, Option, Some, None, refl}
use Rattle.reg_base.specs.declared.limits.TheConstants.{MOST_EVENTS, MOST_OPERATIONS}
use Rattle.std.specs.Prelude.{cond, ◌==◌, ◌&&◌, nat_lt, slice_get}
use Rattle.std.specs.Option.{is_some}
use Rattle.reg_base.specs.Memory.{register_of}
use Rattle.reg_frames.specs.declared.bodies.Frame.{Frame}
use Rattle.reg_process.specs.declared.steps.Step.{Step}
use Rattle.reg_process.specs.declared.steps.Step.TheVariants.{Call as CallStep, Tick as TickStep}
use Rattle.reg_process.specs.declared.events.Event.{Event}
use Rattle.reg_process.specs.declared.events.Event.TheVariants.{Call, Take, Tick}
use Rattle.reg_world.specs.declared.faults.WorldFault.{WorldFault}
use Rattle.reg_world.specs.declared.faults.WorldFault.TheVariants.{TooManyEvents, NoProcess, Busy, NoRegister}
use Rattle.reg_world.specs.declared.faults.WorldFault.TheVariants.{TooManyOperations, NoFrame}
use Rattle.reg_world.specs.Nodes.{Nodes, take_step, step_of}
use Rattle.reg_world.specs.World.{World, move_of, frame_fault, event_fault, world_fault}

abbrev Agrees : Option (ℕ × Step) → Option WorldFault → Type 0
Agrees m f = is_some m ≡ not (is_some f)

call_agrees : (m : ℕ × Step) (a b c d : Bool)
    → Agrees (cond (a && (not b && (c && d))) (Some m) None)
    (cond a (cond b (Some Busy) (cond c (cond d None (Some TooManyOperations)) (Some NoRegister))) (Some NoProcess))
call_agrees m false b c d = refl
call_agrees m true true c d = refl
call_agrees m true false false d = refl
call_agrees m true false true false = refl
call_agrees m true false true true = refl

take_agrees : (from to : ℕ) (a b c : Bool) (o : Option Frame)
    → Agrees (cond (a && (b && not c)) (take_step from to o) None)
    (cond a (cond b (cond c (Some NoFrame) (frame_fault o)) (Some NoProcess)) (Some NoProcess))
take_agrees from to false b c o = refl
take_agrees from to true false c o = refl
take_agrees from to true true true o = refl
take_agrees from to true true false None = refl
take_agrees from to true true false (Some f) = refl

tick_agrees : (m : ℕ × Step) (a : Bool) → Agrees (cond a (Some m) None) (cond a None (Some NoProcess))
tick_agrees m false = refl
tick_agrees m true = refl

event_agrees : (n registers : ℕ) (w : Nodes) (e : Event)
    → Agrees (step_of n registers w e) (event_fault n registers w e)
event_agrees n registers w (Call p op) = call_agrees (p, CallStep op) (nat_lt p n) (is_some (w p).state.running) (nat_lt (register_of op) registers) (nat_lt (w p).state.calls MOST_OPERATIONS)
event_agrees n registers w (Take from to number) =
    take_agrees from to (nat_lt from n) (nat_lt to n) (from == to) (slice_get ((w from).wire to) number)
event_agrees n registers w (Tick p) = tick_agrees (p, TickStep) (nat_lt p n)

few_agrees : (m : Option (ℕ × Step)) (f : Option WorldFault) (b : Bool) → Agrees m f
    → Agrees (cond b m None) (cond b f (Some TooManyEvents))
few_agrees m f true h = h
few_agrees m f false h = refl

pub refused_by_fault : (n registers : ℕ) (w : World) (e : Event)
    → is_some (move_of n registers w e) ≡ not (is_some (world_fault n registers w e))
refused_by_fault n registers w e = few_agrees (step_of n registers w.nodes e) (event_fault n registers w.nodes e) (nat_lt (length w.accepted) MOST_EVENTS) (event_agrees n registers w.nodes e)
