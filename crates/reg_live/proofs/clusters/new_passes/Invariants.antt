use Rattle.std.proofs.Common.{◌≡◌, ℕ, vec_len}
use Rattle.reg_checkers.specs.History.{IsAt}
use Rattle.reg_live.specs.Passes.{Held, new_pass}
use Rattle.reg_live.proofs.clusters.new_passes.Given as goal

abbrev pub invariant-loop-me : goal.invariant-loop-me
invariant-loop-me g l = record {
  each : (p : ℕ) (h : Held) → IsAt l.passes.items p h → h ≡ new_pass l.fn.shape p;
  len : vec_len l.passes ≡ l.me;
}
