use Rattle.std.proofs.Common.{◌∙◌, arith}
use Rattle.reg_node.proofs.Starts.{names_more}
use Rattle.reg_node.proofs.messages.names_crc.Goals as goal

pub loop-place-preserved : goal.loop-place-preserved
loop-place-preserved g c =
    names_more c.args.names.now c.loop-place.place c.loop-place.crc c.over_name-crc.result c.as_bytes.result.now (omega (arith, c.count-place-end.ensures.value)) c.loop-place.invariant
    (c.as_bytes.ensures.value ∙ c.name_at.ensures) c.over_name-crc.ensures
