use Rattle.std.proofs.Common.{◌≡◌, ℕ, ◌<◌, length}
use Rattle.std.specs.Prelude.{slice_index}
use Rattle.reg_world.specs.Worlds.{run_in}
use Rattle.reg_trace.proofs.moments.lengths.Given as goal

-- the lengths of the wires so far
abbrev pub invariant-loop-to : goal.invariant-loop-to
invariant-loop-to g l =
    (length l.lengths ≡ 64) × ((to : ℕ) → to < l.to → (to ≡ l.process → ⊥) → slice_index l.lengths to ≡ length (((run_in g.F.FrontEnd.start l.world).nodes l.process).wire to))
