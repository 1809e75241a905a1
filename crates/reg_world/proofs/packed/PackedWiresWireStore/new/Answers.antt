use Rattle.std.proofs.Common.{List, ap, sym, subst, ◌∙◌}
use Rattle.reg_world.specs.declared.words.Slot.{Slot}
use Rattle.reg_world.specs.Packed.{AreKept, frames_on}
use Rattle.reg_world.proofs.Packing.{no_frames, none_kept}
use Rattle.reg_world.proofs.packed.PackedWiresWireStore.new.Goals as goal

pub returns : goal.returns
returns g c =
    ap (frames_on c.new-tables.result) c.in_ok-strips.ensures
    ∙ no_frames c.new-tables.result c.args.count

pub invariant_of-result : goal.invariant_of-result
invariant_of-result g c =
    subst (λ (strips : List (List Slot)). AreKept c.new-tables.result strips) (sym c.in_ok-strips.ensures) (none_kept c.new-tables.result c.args.count)
