use Rattle.std.proofs.Common.{◌≡◌, drop}
use Rattle.reg_world.specs.Pages.{number_at}
use Rattle.reg_world.proofs.callers.number_among.Given as goal

abbrev pub invariant-loop-note : goal.invariant-loop-note
invariant-loop-note l = number_at (drop l.note-index l.casts) l.time ≡ number_at l.casts l.time
