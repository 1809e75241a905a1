use Rattle.std.proofs.Common.{◌≡◌, ◌∙◌, rules}
use Rattle.reg_c.proofs.Rowwise.{say_all, say_more, say_none, unread_here}
use Rattle.reg_c.proofs.reading.read.Goals as goal

pub loop-place-init : goal.loop-place-init
loop-place-init c =
    let shape : c.in-Ok-new.history.shape ≡ record { processes = c.args.size.processes; registers = c.args.size.registers } = search rules in
    (shape, say_none c.args.rows.now c.args.expected.now c.in-Ok-new.history.entries c.in-Ok-new.ensures.1)

pub loop-place-preserved : goal.loop-place-preserved
loop-place-preserved c = let j = c.loop-place.invariant in
    (c.add.ensures.shape ∙ j.0, say_more c.args.rows.now c.args.expected.now c.loop-place.history.entries c.add.new.history.entries c.loop-place.place _ c.expected_at.result c.expected_at.ensures c.loop-place-test.true j.1 c.in-Ok-add.ensures.ok)

pub returns-in-Err : goal.returns-in-Err
returns-in-Err c = let j = c.loop-place.invariant in
    unread_here c.args.size.processes c.args.size.registers c.args.rows.now c.args.expected.now c.loop-place.history.entries c.loop-place.history.shape c.loop-place.place _ c.expected_at.result c.in-Err.why c.expected_at.ensures j.0 c.loop-place-test.true j.1 c.in-Err.ensures.ok

pub returns : goal.returns
returns c = (c.loop-place.invariant.0, say_all c.args.rows.now c.args.expected.now c.loop-place.history.entries c.loop-place.place c.loop-place-test.false c.loop-place.invariant.1)
