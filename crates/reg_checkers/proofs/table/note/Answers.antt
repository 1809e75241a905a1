use Rattle.std.proofs.Common.{◌≡◌, suc, take, Some, arith, ap, sym, ◌∙◌, refl, add-one}
use Rattle.std.proofs.lemmas.Result.{on_ok_weaker}
use Rattle.reg_base.specs.declared.memory.Op.TheVariants.{Read}
use Rattle.reg_checkers.specs.declared.entries.Entry.{Entry}
use Rattle.reg_checkers.specs.declared.entries.Entry.TheVariants.{Called, Answered}
use Rattle.reg_checkers.specs.Table.{Rows, cell}
use Rattle.reg_checkers.proofs.OneMore.{one_more}
use Rattle.reg_checkers.proofs.Noting.{called_step, answered_step, history_front, read_at, next_fits, unmarked_kept}
use Rattle.reg_checkers.proofs.table.note.Goals as goal

-- what a read past the end would give
blank_entry : Entry
blank_entry = Called 0 (record { process = 0; number = 0 }) (Read 0)

pub add_fact-requires-clause-process : goal.add_fact-requires-clause-process
unfolding blank_entry
add_fact-requires-clause-process g c =
    let may = c.requires.history c.args.i (Called c.in-Called.at c.in-Called.id c.in-Called.op) (read_at c.args.entries.now c.args.i blank_entry _ c.in-Called.is c.requires.place) in
    omega (arith, may.process, c.requires.rows)

pub add_fact-requires-clause-next : goal.add_fact-requires-clause-next
unfolding blank_entry
add_fact-requires-clause-next g c =
    let may = c.requires.history c.args.i (Called c.in-Called.at c.in-Called.id c.in-Called.op) (read_at c.args.entries.now c.args.i blank_entry _ c.in-Called.is c.requires.place) in
    next_fits c.args.shape.processes c.args.shape.registers (take c.args.i c.args.entries.now) c.args.rows.now.items c.in-Called.at c.in-Called.id c.in-Called.op c.requires.table may

pub returns-in-Called-clause-table : goal.returns-in-Called-clause-table
unfolding blank_entry
returns-in-Called-clause-table g c =
    let es = c.args.entries.now in
    let i = c.args.i in
    let at = c.in-Called.at in
    let id = c.in-Called.id in
    let op = c.in-Called.op in
    let here = read_at es i blank_entry (Called at id op) c.in-Called.is c.requires.place in
    let good = c.requires.history in
    on_ok_weaker c.add_fact.result
    (λ changed. rw add-one (called_step c.args.shape.processes c.args.shape.registers (take i es) (take (suc i) es) c.args.rows.now.items c.add_fact.new.rows.items at id c.requires.table op (history_front c.args.shape.processes c.args.shape.registers es i good) (good i (Called at id op) here) (one_more es i (Called at id op) here) changed))
    c.add_fact.ensures.changed

pub returns-in-Some-clause-table : goal.returns-in-Some-clause-table
unfolding blank_entry
returns-in-Some-clause-table g c =
    let es = c.args.entries.now in
    let i = c.args.i in
    let at = c.in-Answered.at in
    let id = c.in-Answered.id in
    let answer = c.in-Answered.answer in
    let here = read_at es i blank_entry (Answered at id answer) c.in-Answered.is c.requires.place in
    let was : cell c.args.rows.now.items id ≡ Some c.in-Some.fact = ap (λ (r : Rows _). cell r id) (sym c.deref.ensures.value) ∙ sym c.in-Some.ensures in
    rw add-one (answered_step c.args.shape.processes c.args.shape.registers (take i es) (take (suc i) es) c.args.rows.now.items c.set_fact.new.rows.items at id c.requires.table answer c.in-Some.fact (one_more es i (Answered at id answer) here) was c.set_fact.ensures.changed)

pub returns-in_default-clause-table : goal.returns-in_default-clause-table
unfolding blank_entry
returns-in_default-clause-table g c =
    let es = c.args.entries.now in
    let i = c.args.i in
    let at = c.in-Answered.at in
    let id = c.in-Answered.id in
    let answer = c.in-Answered.answer in
    let here = read_at es i blank_entry (Answered at id answer) c.in-Answered.is c.requires.place in
    let may = c.requires.history i (Answered at id answer) here in
    let had = c.requires.table.all id (may.called_at, may.op, may.called) in
    absurd (c.in_default.not-Some had.0 (c.fact_of.ensures ∙ (ap (λ (r : Rows _). cell r id) c.deref.ensures.value ∙ had.1)))

pub returns-in-Called-clause-unmarked : goal.returns-in-Called-clause-unmarked
returns-in-Called-clause-unmarked g c =
    on_ok_weaker c.add_fact.result (λ changed. unmarked_kept c.args.rows.now.items c.add_fact.new.rows.items c.in-Called.id _ c.requires.unmarked refl changed) c.add_fact.ensures.changed

pub returns-in-Some-clause-unmarked : goal.returns-in-Some-clause-unmarked
returns-in-Some-clause-unmarked g c = unmarked_kept c.args.rows.now.items c.set_fact.new.rows.items c.in-Answered.id _ c.requires.unmarked refl c.set_fact.ensures.changed
