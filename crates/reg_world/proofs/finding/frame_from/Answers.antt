use Rattle.std.proofs.Common.{◌∙◌, ap, sym}
use Rattle.std.specs.Prelude.{slice_get}
use Rattle.reg_world.specs.WorldParts.{wire_in}
use Rattle.reg_world.proofs.code.Noted.{at_index}
use Rattle.reg_world.proofs.code.Found.{past_none}
use Rattle.reg_world.proofs.finding.frame_from.Goals as goal

pub returns-in-Some : goal.returns-in-Some
returns-in-Some g c =
    let found = c.in-Some.ensures.lookup in
    let at = at_index c.args.members.now c.from.result c.in-Some.member.now found.3.0 found.1 in
    c.frame_at.ensures ∙ ap (λ o. slice_get (wire_in o c.args.to) c.args.number) (sym (sym (ap (slice_get c.args.members.now) c.from.ensures) ∙ at))

pub returns-in-None : goal.returns-in-None
returns-in-None g c =
    let past = past_none c.args.members.now c.from.result c.in-None.ensures.lookup.3 in
    ap (λ o. slice_get (wire_in o c.args.to) c.args.number) (sym (sym (ap (slice_get c.args.members.now) c.from.ensures) ∙ past))
