-- The bodies that a process queued, as they are kept. They carry a proof: no promise speaks of them.
use Rattle.std.specs.Prelude.{ℕ, ◌<◌, List, length, map, slice_index_or}
use Rattle.reg_base.specs.declared.memory.Op.TheVariants.{Read}
use Rattle.reg_checkers.specs.History.{IsAt}
use Rattle.reg_frames.specs.declared.bodies.Body.{Body}
use Rattle.reg_frames.specs.declared.bodies.Body.TheVariants as body
use Rattle.reg_world.specs.declared.bodies.ShortBody.{ShortBody}
use Rattle.reg_world.specs.declared.bodies.ShortBody.TheVariants.{Ack, Cast}
use Rattle.reg_world.specs.declared.bodies.KeptCast.{KeptCast}

abbrev pub cast_of : KeptCast → Body
cast_of cast = body.Cast cast.time cast.op

-- the body that a short one says, where these casts are kept
abbrev pub body_of : List KeptCast → ShortBody → Body
body_of casts (Ack time) = body.Ack time
body_of casts (Cast place) = cast_of (slice_index_or casts place (record { time = 0; op = Read 0 }))

abbrev pub bodies_of : List ShortBody → List KeptCast → List Body
bodies_of shorts casts = map (body_of casts) shorts

-- the cast that a short body speaks of is kept
abbrev pub IsThere : List KeptCast → ShortBody → Type 0
IsThere casts (Ack time) = Unit {0}
IsThere casts (Cast place) = place < length casts

abbrev pub AreThere : List ShortBody → List KeptCast → Type 0
AreThere shorts casts = (k : ℕ) (short : ShortBody) → IsAt shorts k short → IsThere casts short
