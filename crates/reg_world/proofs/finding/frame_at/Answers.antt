use Rattle.std.proofs.Common.{◌∙◌, ap, arith}
use Rattle.reg_world.specs.WorldParts.{frame_or}
use Rattle.reg_world.proofs.code.Found.{frame_is, no_sender, no_receiver, no_wire}
use Rattle.reg_world.proofs.finding.frame_at.Goals as goal

pub returns-then-from-count : goal.returns-then-from-count
returns-then-from-count g c =
    let a = c.from.ensures in let l = c.if-from-count.true in
    no_sender c.args.members.now c.args.from c.args.to c.args.number (omega (arith, a, l))

pub returns-then-from-count-2 : goal.returns-then-from-count-2
returns-then-from-count-2 g c =
    let a = c.from.ensures in let l = c.if-from-count.false in
    let b = c.from-2.ensures in let k = c.if-from-count-2.true in
    no_receiver c.args.members.now c.args.from c.args.to c.args.number (omega (arith, a, l)) (omega (arith, b, k))

pub returns-then-from-to : goal.returns-then-from-to
returns-then-from-to g c =
    let a = c.from.ensures in let l = c.if-from-count.false in
    let b = c.from-2.ensures in let k = c.if-from-count-2.false in
    no_wire c.args.members.now c.args.from c.args.to c.args.number (omega (arith, a, l)) (omega (arith, b, k)) c.if-from-to.true

pub returns : goal.returns
returns g c =
    let a = c.from.ensures in
    let b = c.from-2.ensures in
    c.frame_or_fault.ensures ∙ (ap frame_or c.frame_from.ensures
    ∙ frame_is c.args.members.now c.args.from c.args.to c.args.number (omega (arith, a)) (omega (arith, b)) c.if-from-to.false)
