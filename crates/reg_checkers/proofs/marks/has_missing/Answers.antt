use Rattle.std.proofs.Common.{sym, ◌∙◌, arith, rules}
use Rattle.std.proofs.lemmas.Option.{slice_get_within, get_or_from_slice_get}
use Rattle.reg_base.specs.declared.memory.Op.TheVariants.{Read}
use Rattle.reg_checkers.specs.declared.entries.Entry.{Entry}
use Rattle.reg_checkers.specs.declared.entries.Entry.TheVariants.{Called}
use Rattle.reg_checkers.proofs.Marking.{finished_more, same_marked}
use Rattle.reg_checkers.proofs.Noting.{read_at}
use Rattle.reg_checkers.proofs.Placing.{no_truth}
use Rattle.reg_checkers.proofs.marks.has_missing.Goals as goal
use Rattle.reg_checkers.proofs.marks.has_missing.Goals.{in-Answered+else-not-is_marked, in_default}

-- what a read past the end would give
blank_entry : Entry
blank_entry = Called 0 (record { process = 0; number = 0 }) (Read 0)

pub loop-i-init : goal.loop-i-init
loop-i-init g c = search rules

pub returns-then-not-is_marked : goal.returns-then-not-is_marked
unfolding blank_entry
returns-then-not-is_marked g c =
    let here = read_at c.args.entries.now c.loop-i.i blank_entry _ c.in-Answered.is c.loop-i-test.true in
    (c.in-Answered.id, (c.in-Answered.at, c.in-Answered.answer, (c.loop-i.i, here)), λ marked. no_truth (c.if-not-is_marked.ensures.1 marked))

pub loop-i-preserved : goal.loop-i-preserved
unfolding blank_entry
loop-i-preserved g c =
    let es = c.args.entries.now in
    let i = c.loop-i.i in
    finished_more c.args.rows.now es i c.loop-i.invariant
    (λ t id a at.
    let read = get_or_from_slice_get es i _ blank_entry at in
    elim c.match-entries-i.branch [
      | in-Answered+else-not-is_marked w ↦ same_marked c.args.rows.now w.in-Answered.at t w.in-Answered.id id w.in-Answered.answer a (w.is_marked.ensures.0 w.if-not-is_marked.false) (sym w.in-Answered.is ∙ read)
      | in_default w ↦ absurd (w.in_default.not-Answered t id a read)
    ])

pub returns : goal.returns
returns g c = λ id finished.
    let inside = slice_get_within c.args.entries.now finished.2.0 _ finished.2.1 in
    c.loop-i.invariant finished.2.0 finished.0 id finished.1 (omega (arith, inside, c.loop-i-test.false)) finished.2.1
