use Rattle.std.proofs.Common.{◌≡◌, List, ℕ, true, false, Option, Some, None, MatchOption, string_bytes, subst}
use Rattle.std.specs.Io.KnownBytes.{Appends}
use Rattle.std.proofs.lemmas.Result.{err_from_is_err_and}
use Rattle.reg_text.specs.Writing.{AppendsPart}
use Rattle.reg_history.specs.Reports.{Contents, SpellsReport}
use Rattle.reg_outcomes.specs.declared.orders.kinds.OrderKind.{OrderKind}
use Rattle.reg_show.specs.Finding.{HasNone, IsReordered}
use Rattle.reg_show.proofs.Reordering.{blamed, found_any, none_any}
use Rattle.reg_show.proofs.finding.FindOrderTextCommand.answer.Goals as goal

-- what was found of the report, by whether there is an order
is_found : (kind : OrderKind) (r found : Contents) (o : Option Contents)
    → MatchOption o (HasNone kind r) (λ x. IsReordered kind r x) → o ≡ Some found → IsReordered kind r found
is_found kind r found o h e =
    subst (λ (x : Option Contents). MatchOption x (HasNone kind r) (λ y. IsReordered kind r y)) e h

is_none : (kind : OrderKind) (r : Contents) (o : Option Contents)
    → MatchOption o (HasNone kind r) (λ x. IsReordered kind r x) → o ≡ None → HasNone kind r
is_none kind r o h e = subst (λ (x : Option Contents). MatchOption x (HasNone kind r) (λ y. IsReordered kind r y)) e h

pub returns-in_err-found-clause-why : goal.returns-in_err-found-clause-why
returns-in_err-found-clause-why g c =
    let report = c.in_ok-report.report in
    let read : SpellsReport (string_bytes c.args.text) report = subst (λ (t : List ℕ). SpellsReport t report) c.as_str.ensures.value c.in_ok-report.ensures.read.0 in
    let p = err_from_is_err_and c.from_residual-in_err-found.result c.from_residual-in_err-found.ensures.1 in
    rw (p.1, p.2) (blamed c.args.self.kind report (string_bytes c.args.text) c.in_err-found.field-0.0 read c.in_err-found.ensures.why)

pub returns-in_err-write_out-in-Some-clause-why : goal.returns-in_err-write_out-in-Some-clause-why
returns-in_err-write_out-in-Some-clause-why g c =
    let report = c.in_ok-report.report in
    let read : SpellsReport (string_bytes c.args.text) report = subst (λ (t : List ℕ). SpellsReport t report) c.as_str.ensures.value c.in_ok-report.ensures.read.0 in
    let p = err_from_is_err_and c.from_residual-in_err-write_out-in-Some.result c.from_residual-in_err-write_out-in-Some.ensures.1 in
    rw (p.1, p.2, c.in_err-write_out-in-Some.ensures.0) (report, read)

pub returns-in_err-write_out-in-Some-clause-part : goal.returns-in_err-write_out-in-Some-clause-part
returns-in_err-write_out-in-Some-clause-part g c = λ failed.
    let held = g.W.Write.contents in
    let report = c.in_ok-report.report in
    let read : SpellsReport (string_bytes c.args.text) report = subst (λ (t : List ℕ). SpellsReport t report) c.as_str.ensures.value c.in_ok-report.ensures.read.0 in (
      true,
      found_any c.args.self.kind (AppendsPart (held c.args.writer.now) (held c.write_out.new.writer)) (string_bytes c.args.text) report c.in-Some.found read
          (is_found c.args.self.kind report c.in-Some.found c.in_ok-found.field-0 c.in_ok-found.ensures.found c.in-Some.is) c.in_err-write_out-in-Some.ensures.1,
    )

pub returns-in_ok-write_out-in-Some-clause-ok : goal.returns-in_ok-write_out-in-Some-clause-ok
returns-in_ok-write_out-in-Some-clause-ok g c =
    let held = g.W.Write.contents in
    let report = c.in_ok-report.report in
    let read : SpellsReport (string_bytes c.args.text) report = subst (λ (t : List ℕ). SpellsReport t report) c.as_str.ensures.value c.in_ok-report.ensures.read.0 in
    found_any c.args.self.kind (Appends (held c.args.writer.now) (held c.write_out.new.writer)) (string_bytes c.args.text) report c.in-Some.found read
    (is_found c.args.self.kind report c.in-Some.found c.in_ok-found.field-0 c.in_ok-found.ensures.found c.in-Some.is) c.in_ok-write_out-in-Some.ensures

pub returns-in_err-write_none-in-None-clause-why : goal.returns-in_err-write_none-in-None-clause-why
returns-in_err-write_none-in-None-clause-why g c =
    let report = c.in_ok-report.report in
    let read : SpellsReport (string_bytes c.args.text) report = subst (λ (t : List ℕ). SpellsReport t report) c.as_str.ensures.value c.in_ok-report.ensures.read.0 in
    let p = err_from_is_err_and c.from_residual-in_err-write_none-in-None.result c.from_residual-in_err-write_none-in-None.ensures.1 in
    rw (p.1, p.2, c.in_err-write_none-in-None.ensures.0) (report, read)

pub returns-in_err-write_none-in-None-clause-part : goal.returns-in_err-write_none-in-None-clause-part
returns-in_err-write_none-in-None-clause-part g c = λ failed.
    let held = g.W.Write.contents in
    let report = c.in_ok-report.report in
    let read : SpellsReport (string_bytes c.args.text) report = subst (λ (t : List ℕ). SpellsReport t report) c.as_str.ensures.value c.in_ok-report.ensures.read.0 in (
      false,
      none_any c.args.self.kind (AppendsPart (held c.args.writer.now) (held c.write_none.new.writer)) (string_bytes c.args.text) report read
          (is_none c.args.self.kind report c.in_ok-found.field-0 c.in_ok-found.ensures.found c.in-None.is) c.in_err-write_none-in-None.ensures.1,
    )

pub returns-in_ok-write_none-in-None-clause-ok : goal.returns-in_ok-write_none-in-None-clause-ok
returns-in_ok-write_none-in-None-clause-ok g c =
    let held = g.W.Write.contents in
    let report = c.in_ok-report.report in
    let read : SpellsReport (string_bytes c.args.text) report = subst (λ (t : List ℕ). SpellsReport t report) c.as_str.ensures.value c.in_ok-report.ensures.read.0 in
    none_any c.args.self.kind (Appends (held c.args.writer.now) (held c.write_none.new.writer)) (string_bytes c.args.text) report read
    (is_none c.args.self.kind report c.in_ok-found.field-0 c.in_ok-found.ensures.found c.in-None.is) c.in_ok-write_none-in-None.ensures
