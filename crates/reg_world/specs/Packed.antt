-- The wires of one process as words. They carry a proof: no promise speaks of them.
use Rattle.std.specs.Prelude.{ℕ, ◌≡◌, ◌<◌, List, [], length, map, slice_index_or}
use Rattle.reg_base.specs.Order.{In}
use Rattle.reg_frames.specs.declared.bodies.Body.{Body}
use Rattle.reg_frames.specs.declared.bodies.Body.TheVariants.{Ack}
use Rattle.reg_frames.specs.declared.bodies.Frame.{Frame}
use Rattle.reg_frames.specs.declared.bodies.Frame.TheVariants.{Numbered, Got}
use Rattle.reg_world.specs.declared.words.Slot.{Slot}
use Rattle.reg_world.specs.declared.words.Slot.TheVariants.{Data, Count, Other}
use Rattle.reg_world.specs.Sharing.{IsLonger}

-- the bodies of a process by number, and the frames that no number and no count tells
pub record Kept : Type 0 where
  pub bodies : List Body
  pub others : List Frame

-- the frame that a word says
abbrev pub frame_of : Kept → Slot → Frame
frame_of k (Data number) = Numbered number (slice_index_or k.bodies number (Ack 0))
frame_of k (Count count) = Got count
frame_of k (Other place) = slice_index_or k.others place (Got 0)

-- what a word speaks of is there
abbrev pub IsKept : Kept → Slot → Type 0
IsKept k (Data number) = number < length k.bodies
IsKept k (Count count) = Unit {0}
IsKept k (Other place) = place < length k.others

-- a word says this frame
pub record Says (k : Kept) (s : Slot) (frame : Frame) : Type 0 where
  pub kept : IsKept k s
  pub is : frame_of k s ≡ frame

-- nothing that was there has changed
pub record Grows (old new : Kept) : Type 0 where
  pub bodies : IsLonger old.bodies new.bodies
  pub others : IsLonger old.others new.others

abbrev pub frames_on : Kept → List (List Slot) → List (List Frame)
frames_on k wires = map (map (frame_of k)) wires

abbrev pub AreKept : Kept → List (List Slot) → Type 0
AreKept k wires = (r : ℕ) (s : Slot) → In s (slice_index_or wires r []) → IsKept k s
