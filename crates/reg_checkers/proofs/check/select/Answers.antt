use Rattle.reg_checkers.proofs.Marking.{unmarked_are}
use Rattle.reg_checkers.proofs.Bridges.{unknown_here, none_unknown, selected, missing_here, none_of_three, not_twice}
use Rattle.reg_checkers.proofs.check.select.Goals as goal

pub returns-in-Ok-None : goal.returns-in-Ok-None
returns-in-Ok-None g c =
    let h = c.args.entries.now in
    let rows = c.in-Ok.rows.items in
    let found = rw (c.in-Ok-None.field-0-is, c.deref.ensures.value) at c.in-Ok-None.ensures in
    unknown_here c.args.shape.processes c.args.shape.registers h c.requires rows c.in-Ok.ensures.table c.args.ids.now found

pub has_twice-requires-clause-unmarked : goal.has_twice-requires-clause-unmarked
has_twice-requires-clause-unmarked g c = unmarked_are c.in-Ok.rows.items c.in-Ok.ensures.unmarked

pub returns-then-has_twice : goal.returns-then-has_twice
returns-then-has_twice g c =
    let h = c.args.entries.now in
    let rows = c.in-Ok.rows.items in
    let found = rw (c.in-Ok-Some.field-0-is, c.deref.ensures.value) at c.in-Ok-Some.ensures in
    (none_unknown c.args.shape.processes c.args.shape.registers h c.requires rows c.in-Ok.ensures.table c.args.ids.now c.in-Ok-Some.facts.items found, c.if-has_twice.ensures)

pub returns-then-has_missing : goal.returns-then-has_missing
returns-then-has_missing g c =
    let h = c.args.entries.now in
    let ids = c.args.ids.now in
    let rows = c.in-Ok.rows.items in
    let found = rw (c.in-Ok-Some.field-0-is, c.deref.ensures.value) at c.in-Ok-Some.ensures in
    let marked = c.if-has_twice.ensures in
    let none = rw c.deref-2.ensures.value at c.if-has_missing.ensures in
    (none_unknown c.args.shape.processes c.args.shape.registers h c.requires rows c.in-Ok.ensures.table ids c.in-Ok-Some.facts.items found, not_twice ids marked.0, missing_here h ids c.has_twice.new.rows.items marked.1 none)

pub returns : goal.returns
returns g c =
    let h = c.args.entries.now in
    let ids = c.args.ids.now in
    let rows = c.in-Ok.rows.items in
    let found = rw (c.in-Ok-Some.field-0-is, c.deref.ensures.value) at c.in-Ok-Some.ensures in
    let marked = c.if-has_twice.ensures in
    let all = rw c.deref-2.ensures.value at c.if-has_missing.ensures in
    let sel = selected c.args.shape.processes c.args.shape.registers h c.requires rows c.in-Ok.ensures.table ids c.in-Ok-Some.facts.items c.has_twice.new.rows.items found marked.0 marked.1 all in
    (sel, none_of_three h ids sel.selection)
