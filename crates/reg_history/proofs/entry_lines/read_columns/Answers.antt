use Rattle.std.proofs.Common.{◌++◌, codes, sym, ap, ◌∙◌, arith}
use Rattle.std.specs.Fmt.{decimal}
use Rattle.reg_text.specs.Columns.{to_left, to_right}
use Rattle.reg_text.proofs.Formed.{no_truth}
use Rattle.reg_history.specs.EntryLines.{ColumnsFit}
use Rattle.reg_history.proofs.Fewer.{few_processes}
use Rattle.reg_text.proofs.Widths.{in_eight, in_three, in_six}
use Rattle.reg_history.proofs.entry_lines.read_columns.Goals as goal

pub returns-in_err-at-clause-whole : goal.returns-in_err-at-clause-whole
returns-in_err-at-clause-whole c = λ at process number rest fits e.
    let a = in_eight at (omega arith) in
    absurd (c.in_err-at.ensures.whole at _ a.0 a.1 e)

pub returns-in_err-process-clause-whole : goal.returns-in_err-process-clause-whole
returns-in_err-process-clause-whole c = λ at process number rest fits e.
    let a = in_eight at (omega arith) in
    let p = in_three process (omega (arith, fits.process_fits, few_processes c.args.version)) in
    let first = c.in_ok-at.ensures.whole at _ a.0 a.1 e in
    absurd (c.in_err-process.ensures.whole process _ p.0 p.1 first.1)

pub returns-in_err-number-clause-whole : goal.returns-in_err-number-clause-whole
returns-in_err-number-clause-whole c = λ at process number rest fits e.
    let a = in_eight at (omega arith) in
    let p = in_three process (omega (arith, fits.process_fits, few_processes c.args.version)) in
    let n = in_six number (omega arith) in
    let first = c.in_ok-at.ensures.whole at _ a.0 a.1 e in
    let second = c.in_ok-process.ensures.whole process _ p.0 p.1 first.1 in
    absurd (c.in_err-number.ensures.whole number _ n.0 n.1 second.1)

pub returns-then-not-are_within-clause-whole : goal.returns-then-not-are_within-clause-whole
returns-then-not-are_within-clause-whole c = λ at process number rest fits e.
    let a = in_eight at (omega arith) in
    let p = in_three process (omega (arith, fits.process_fits, few_processes c.args.version)) in
    let n = in_six number (omega arith) in
    let first = c.in_ok-at.ensures.whole at _ a.0 a.1 e in
    let second = c.in_ok-process.ensures.whole process _ p.0 p.1 first.1 in
    let third = c.in_ok-number.ensures.whole number _ n.0 n.1 second.1 in
    let fit : ColumnsFit c.args.version c.in_ok-at.at c.in_ok-process.process c.in_ok-number.number = record { at_fits = omega (arith, first.0); process_fits = omega (arith, second.0, fits.process_fits); number_fits = omega (arith, third.0) } in
    no_truth (sym c.if-not-are_within.true ∙ c.are_within.ensures.1 fit)

pub returns-clause-read : goal.returns-clause-read
returns-clause-read c =
    let at = to_right 8 (decimal c.in_ok-at.at) in
    let process = to_left 3 (decimal c.in_ok-process.process) in
    (c.in_ok-at.ensures.read.0 ∙ ap (λ l. at ++ (codes "  p" ++ l)) (c.in_ok-process.ensures.read.0 ∙ ap (λ l. process ++ (codes "  #" ++ l)) c.in_ok-number.ensures.read.0), c.are_within.ensures.0 c.if-not-are_within.false)

pub returns-clause-whole : goal.returns-clause-whole
returns-clause-whole c = λ at process number rest fits e.
    let a = in_eight at (omega arith) in
    let p = in_three process (omega (arith, fits.process_fits, few_processes c.args.version)) in
    let n = in_six number (omega arith) in
    let first = c.in_ok-at.ensures.whole at _ a.0 a.1 e in
    let second = c.in_ok-process.ensures.whole process _ p.0 p.1 first.1 in
    let third = c.in_ok-number.ensures.whole number _ n.0 n.1 second.1 in
    (first.0, second.0, third.0, third.1)
