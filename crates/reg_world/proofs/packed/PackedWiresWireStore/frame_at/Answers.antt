use Rattle.std.proofs.Common.{[], get_or, refl, sym, ap, ◌∙◌, subst}
use Rattle.std.specs.Prelude.{slice_get}
use Rattle.reg_world.specs.Packed.{frame_of, IsKept}
use Rattle.reg_world.proofs.Packing.{frame_found, none_found}
use Rattle.reg_world.proofs.packed.PackedWiresWireStore.frame_at.Goals as goal
use Rattle.reg_world.proofs.lists.Bodies.{place_in}

pub frame-requires : goal.frame-requires
frame-requires g c =
    let strip = get_or c.self.inside.strips c.from.result [] in
    let word = c.in-Some.word in
    subst (IsKept c.self.inside.tables) (sym c.unpack.ensures) (c.self.invariant c.from.result word (place_in strip c.args.number word (sym {b = slice_get strip c.args.number} c.in-Some.ensures)))

pub returns-in-Some : goal.returns-in-Some
returns-in-Some g c =
    let tables = c.self.inside.tables in
    frame_found tables c.self.inside.strips c.args.self.now c.from.result c.args.to c.args.number (get_or c.self.inside.strips c.from.result []) c.in-Some.word c.frame.result c.self.view_is c.from.ensures refl c.in-Some.ensures (◌∙◌ {b = frame_of tables c.unpack.result} c.frame.ensures (ap (frame_of tables) c.unpack.ensures))

pub returns-in-None : goal.returns-in-None
returns-in-None g c = none_found c.self.inside.tables c.self.inside.strips c.args.self.now c.from.result c.args.to c.args.number c.self.view_is c.from.ensures c.in-None.ensures
