-- Events without the values of their operations, and these values apart. They carry a proof: no promise speaks of them.
use Rattle.std.specs.Prelude.{ℕ, ◌≡◌, List, [], ◌∷◌, map, drop, slice_index_or}
use Rattle.std.specs.List.{flat_map}
use Rattle.reg_base.specs.declared.memory.Op.{Op}
use Rattle.reg_base.specs.declared.memory.Op.TheVariants.{Read, Write, Swap, CompareAndSwap}
use Rattle.reg_base.specs.Memory.{register_of}
use Rattle.reg_process.specs.declared.events.Event.{Event}
use Rattle.reg_process.specs.declared.events.Event.TheVariants.{Call, Take, Tick}
use Rattle.reg_world.specs.declared.outlines.Kind.{Kind}
use Rattle.reg_world.specs.declared.outlines.Kind.TheVariants.{Read as Reads, Write as Writes, Swap as Swaps}
use Rattle.reg_world.specs.declared.outlines.Kind.TheVariants.{CompareAndSwap as ComparesAndSwaps}
use Rattle.reg_world.specs.declared.outlines.Outline.{Outline}
use Rattle.reg_world.specs.declared.outlines.Outline.TheVariants.{Call as Called, Take as Taken, Tick as Ticked}

-- an operation, and an event, without its values
abbrev pub kind_of : Op → Kind
kind_of (Read r) = Reads
kind_of (Write r v) = Writes
kind_of (Swap r v) = Swaps
kind_of (CompareAndSwap r e v) = ComparesAndSwaps

abbrev pub outline_of : Event → Outline
outline_of (Call p op) = Called p (kind_of op) (register_of op)
outline_of (Take from to number) = Taken from to number
outline_of (Tick p) = Ticked p

-- the values of an operation, and of an event
abbrev pub values_in : Op → List ℕ
values_in (Read r) = []
values_in (Write r v) = v ∷ []
values_in (Swap r v) = v ∷ []
values_in (CompareAndSwap r e v) = e ∷ v ∷ []

abbrev pub values_of : Event → List ℕ
values_of (Call p op) = values_in op
values_of (Take from to number) = []
values_of (Tick p) = []

-- the operation, and the event, whose values are the first of these
abbrev pub op_of : Kind → ℕ → List ℕ → Op
op_of Reads r vs = Read r
op_of Writes r vs = Write r (slice_index_or vs 0 0)
op_of Swaps r vs = Swap r (slice_index_or vs 0 0)
op_of ComparesAndSwaps r vs = CompareAndSwap r (slice_index_or vs 0 0) (slice_index_or vs 1 0)

abbrev pub event_of : Outline → List ℕ → Event
event_of (Called p kind r) vs = Call p (op_of kind r vs)
event_of (Taken from to number) vs = Take from to number
event_of (Ticked p) vs = Tick p

-- the values that are left for the next event
abbrev pub left_by : Kind → List ℕ → List ℕ
left_by Reads vs = vs
left_by Writes vs = drop 1 vs
left_by Swaps vs = drop 1 vs
left_by ComparesAndSwaps vs = drop 2 vs

abbrev pub left_after : Outline → List ℕ → List ℕ
left_after (Called p kind r) vs = left_by kind vs
left_after (Taken from to number) vs = vs
left_after (Ticked p) vs = vs

-- the events that outlines and values tell
abbrev pub events_of : List Outline → List ℕ → List Event
events_of [] vs = []
events_of (o ∷ os) vs = event_of o vs ∷ events_of os (left_after o vs)

-- outlines and values are those of these events
pub record AreOf (os : List Outline) (vs : List ℕ) (events : List Event) : Type 0 where
  pub outlines : os ≡ map outline_of events
  pub values : vs ≡ flat_map values_of events
