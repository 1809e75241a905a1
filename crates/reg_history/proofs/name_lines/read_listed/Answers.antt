use Rattle.std.proofs.Common.{◌≡◌, Some, None, sym, ap, ◌∙◌, ◌++◌, arith}
use Rattle.reg_base.specs.Names.{names_fault, texts}
use Rattle.reg_history.proofs.Listed.{listed, map_same}
use Rattle.reg_history.proofs.Repeats.{repeated, repeat_fails, spelt_fails}
use Rattle.reg_history.proofs.name_lines.read_listed.Goals as goal

pub returns-in-Ok-clause-whole : goal.returns-in-Ok-clause-whole
returns-in-Ok-clause-whole g c = λ ns rest ok size e.
    let both = (rw c.in-None.is at (c.read_spelt-names.ensures.whole ns rest (listed ns c.args.lines.now.left rest c.args.count ok size e))) in
    (c.in-Ok.ensures.0 ∙ both.0, both.1)

pub returns-in-Err-clause-whole : goal.returns-in-Err-clause-whole
returns-in-Err-clause-whole g c = λ ns rest ok size e.
    let both = (rw c.in-None.is at (c.read_spelt-names.ensures.whole ns rest (listed ns c.args.lines.now.left rest c.args.count ok size e))) in
    let bad : Some c.in-Err.fault ≡ None = sym c.in-Err.ensures ∙ ap names_fault both.0 ∙ ok in
    absurd (cc)

pub returns-in-Some-clause-whole : goal.returns-in-Some-clause-whole
returns-in-Some-clause-whole g c = λ ns rest ok size e.
    let stopped = (rw c.in-Some.is at (c.read_spelt-names.ensures.whole ns rest (listed ns c.args.lines.now.left rest c.args.count ok size e))) in
    c.stopped_at.ensures.memory stopped

pub returns-in-Err-clause-read : goal.returns-in-Err-clause-read
returns-in-Err-clause-read g c = tt

pub returns-in-Some-clause-read : goal.returns-in-Some-clause-read
returns-in-Some-clause-read g c = tt

pub returns-in-Err-clause-stopped : goal.returns-in-Err-clause-stopped
returns-in-Err-clause-stopped g c = λ some few.
    let b = (rw c.in-None.is at c.read_spelt-names.ensures.read) in
    let names = texts c.read_spelt-names.result.names.items in
    let r = repeated names c.in-Err.fault b.fit (omega (arith, b.count, some)) (omega (arith, b.count, few)) c.in-Err.ensures in
    let told = c.first_fault.ensures.same r.0 r.1 in
    repeat_fails c.args.lines.now names c.read_spelt-names.new.lines.left c.args.count r.0 told.0 c.first_fault.result (b.lines ∙ ap (λ l. l ++ c.read_spelt-names.new.lines.left) (map_same names)) (omega (arith, b.count)) told.1
    (λ small. let is = told.2 (omega (arith, small, c.number-before.ensures)) in omega (arith, is, c.number-before.ensures)) r.2

pub returns-in-Some-clause-stopped : goal.returns-in-Some-clause-stopped
returns-in-Some-clause-stopped g c = λ some few.
    let wrong = (rw c.in-Some.is at c.read_spelt-names.ensures.wrong) in
    spelt_fails c.args.lines.now (texts c.read_spelt-names.result.names.items) c.args.count c.in-Some.stop c.stopped_at.result few c.stopped_at.ensures.memory
    (λ place stopped named. let told = c.stopped_at.ensures.same place stopped named in (told.0, told.1, λ small. let is = told.2 (omega (arith, small, c.number-before.ensures)) in omega (arith, is, c.number-before.ensures)))
    c.stopped_at.ensures.other wrong

pub returns-in-Ok-clause-on : goal.returns-in-Ok-clause-on
returns-in-Ok-clause-on g c = (rw c.in-None.is at c.read_spelt-names.ensures.on)
