-- The wires of one process as lists: all frames that it ever put for each process.
use Rattle.std.specs.Prelude.{List, [], ◌∷◌, ◌++◌, slice_set, slice_index_or}
use Rattle.reg_base.specs.Order.{In}
use Rattle.reg_frames.specs.declared.bodies.Frame.{Frame}
use Rattle.reg_frames.specs.declared.puts.Put.{Put}

-- the wires after these frames were put
abbrev pub sent : List Put → List (List Frame) → List (List Frame)
sent [] wires = wires
sent (p ∷ ps) wires = sent ps (slice_set wires p.to (slice_index_or wires p.to [] ++ p.frame ∷ []))

-- each of these frames was put on the wire
abbrev pub AreOn : List Frame → List Frame → Type 0
AreOn wire frames = (f : Frame) → In f frames → In f wire
