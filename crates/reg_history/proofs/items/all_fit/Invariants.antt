use Rattle.std.proofs.Common.{ℕ, ◌≡◌, ◌<◌, Some, slice_get}
use Rattle.reg_history.proofs.items.all_fit.Given as goal

-- those passed fit
abbrev pub invariant-loop-item : goal.invariant-loop-item
invariant-loop-item g l =
    (k : ℕ) (x : _) → k < l.item-index → slice_get l.items k ≡ Some x → g.T.Listed.Fits l.version x
