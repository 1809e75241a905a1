-- The frames of one event, as a list. Promises cite it.
use Rattle.std.specs.Prelude.{ℕ, zero, suc, List, [], ◌++◌, map}
use Rattle.reg_frames.specs.declared.bodies.Frame.{Frame}
use Rattle.reg_frames.specs.declared.puts.Put.{Put}

abbrev pub put_to : ℕ → Frame → Put
put_to r frame = record { to = r; frame = frame }

-- by rising receiver
abbrev pub puts : (ℕ → List Frame) → ℕ → List Put
puts frames zero = []
puts frames (suc r) = puts frames r ++ map (put_to r) (frames r)
