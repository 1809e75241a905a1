use Rattle.std.proofs.Common.{◌≡◌, ℕ, ◌+◌, List, drop, map, vec_len}
use Rattle.std.specs.Vec.Iter.{into_iter_items, into_iter_len}
use Rattle.reg_base.specs.declared.memory.Op.{Op}
use Rattle.reg_checkers.specs.History.{IsAt}
use Rattle.reg_live.proofs.scripts.start_callers.Given as goal

abbrev pub invariant-loop-script : goal.invariant-loop-script
invariant-loop-script g l =
    let done = vec_len l.handles in
    let threads = map (λ h. (h.promise.process, h.promise.script.value.items)) l.handles.items in
    (into_iter_items l.passes ≡ drop done l.fn.passes.items)
    × (into_iter_items l.script-iterator ≡ drop done l.fn.scripts.items)
    × (done + into_iter_len l.script-iterator ≡ vec_len l.fn.scripts)
    × ((k : ℕ) (t : ℕ × List Op) → IsAt threads k t → (t.0 ≡ k) × IsAt (map (λ s. s.items) l.fn.scripts.items) k t.1)
