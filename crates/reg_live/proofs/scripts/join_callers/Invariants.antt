use Rattle.std.proofs.Common.{◌≡◌, ◌+◌, drop, map, vec_len, OnOk}
use Rattle.std.specs.Vec.Iter.{into_iter_items, into_iter_len}
use Rattle.reg_live.proofs.Performing.{AreBack}
use Rattle.reg_live.proofs.scripts.join_callers.Given as goal

abbrev pub invariant-loop-caller : goal.invariant-loop-caller
invariant-loop-caller g l =
    OnOk l.told (
    (into_iter_items l.caller-iterator ≡ drop (vec_len l.passes) l.fn.callers.items)
    × (vec_len l.passes + into_iter_len l.caller-iterator ≡ vec_len l.fn.callers)
    × AreBack (map (λ h. (h.promise.process, h.promise.script.value.items)) l.fn.callers.items) l.passes.items
    )
