use Rattle.std.proofs.Common.{◌∙◌, ap, length, arith}
use Rattle.reg_world.proofs.code.Found.{none_more, one_more}
use Rattle.reg_world.proofs.finding.found.Goals as goal

pub returns : goal.returns
returns g c =
    let a = c.len.ensures ∙ ap length c.accepted.ensures in let l = c.if-len.false in
    c.found_step.ensures ∙ one_more c.args.members.now c.args.book.now c.args.event.now (omega (arith, a, l))

pub returns-then-len : goal.returns-then-len
returns-then-len g c =
    let a = c.len.ensures ∙ ap length c.accepted.ensures in let l = c.if-len.true in
    none_more c.args.members.now c.args.book.now c.args.event.now (omega (arith, a, l))
