-- What an event puts, in short, and the frames that follow from it. Promises cite it.
use Rattle.std.specs.Prelude.{ℕ, ◌≡◌, ◌==◌, cond, List, [], ◌∷◌, ◌++◌, Option, Some, None}
use Rattle.reg_base.specs.declared.stamps.Stamp.{Stamp}
use Rattle.reg_base.specs.declared.stamps.Delivered.{Delivered}
use Rattle.reg_frames.specs.declared.bodies.Body.{Body}
use Rattle.reg_frames.specs.declared.bodies.Frame.{Frame}
use Rattle.reg_frames.specs.declared.bodies.Frame.TheVariants.{Numbered, Got}
use Rattle.reg_frames.specs.declared.puts.Put.{Put}
use Rattle.reg_process.specs.declared.sends.Sent.{Sent}
use Rattle.reg_process.specs.declared.sends.Sends.{Sends}
use Rattle.reg_process.specs.declared.sends.Sends.TheVariants.{Nothing, Count, Broadcast}
use Rattle.reg_process.specs.declared.steps.Reply.{Reply}
use Rattle.reg_process.specs.Puts.{put_to, puts}

-- a count for one process, or none
abbrev pub owed : Option (ℕ × ℕ) → ℕ → List Frame
owed None r = []
owed (Some got) r = cond (r == got.0) (Got got.1 ∷ []) []

-- the frame of a body for a process, where the body's number is known
abbrev pub frame_to : ℕ → ℕ → Body → ℕ → List Frame
frame_to me number body r = cond (r == me) [] (Numbered number body ∷ [])

-- the frames of a body and of the count that is owed
abbrev pub sent_frames : Sent → ℕ → List Frame
sent_frames s r = owed s.got r ++ frame_to s.me s.number s.body r

-- the frames that are put
abbrev pub puts_of : Sends → List Put
puts_of Nothing = []
puts_of (Count to count) = put_to to (Got count) ∷ []
puts_of (Broadcast processes sent) = puts (sent_frames sent) processes

-- the frames are listed, and the rest is the same
pub record IsListed (frames : List Put) (cast : Option Stamp) (delivered : List Delivered) (reply : Option Reply)
    (frames' : List Put) (cast' : Option Stamp) (delivered' : List Delivered) (reply' : Option Reply) : Type 0 where
  pub put : frames' ≡ frames
  pub made : cast' ≡ cast
  pub casts : delivered' ≡ delivered
  pub answer : reply' ≡ reply
