use Rattle.std.proofs.Common.{[], sym}
use Rattle.std.proofs.lemmas.Option.{get_or_from_slice_get}
use Rattle.reg_text.proofs.Spelling.{missing}
use Rattle.reg_text.proofs.ops.name_at.Goals as goal

pub returns-in-None : goal.returns-in-None
returns-in-None g c = missing c.args.names.now c.args.register (sym c.in-None.ensures)

pub returns-in-Some : goal.returns-in-Some
returns-in-Some g c =
    sym (get_or_from_slice_get c.args.names.now c.args.register c.in-Some.name.now [] (sym c.in-Some.ensures))
