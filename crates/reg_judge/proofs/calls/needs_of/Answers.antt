use Rattle.std.proofs.Common.{arith}
use Rattle.reg_judge.proofs.Keeping.{at_get}
use Rattle.reg_judge.proofs.Needs.{needs_all, needs_more}
use Rattle.reg_judge.proofs.calls.needs_of.Goals as goal

pub loop-place-preserved : goal.loop-place-preserved
loop-place-preserved g c = needs_more c.args.entries.now c.args.rows.now c.loop-place.place _ c.loop-place.needs c.note_entry.new.needs (at_get c.args.entries.now c.loop-place.place _ (let lt = c.loop-place-test.true in omega (arith, lt))) c.in_ok-note_entry.ensures.noted c.in_ok-note_entry.ensures.kept c.loop-place.invariant

pub returns : goal.returns
returns g c = needs_all c.args.entries.now c.args.rows.now c.loop-place.place c.loop-place.needs c.requires (let end = c.loop-place-test.false in omega (arith, end)) c.loop-place.invariant
