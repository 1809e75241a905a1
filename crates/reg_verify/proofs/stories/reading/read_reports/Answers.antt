use Rattle.std.proofs.Common.{◌≡◌, ◌∷◌, ◌++◌, ◌<◌, [], List, length, not, true, sym, ap, ◌∙◌, subst, arith}
use Rattle.std.specs.Result.{is_ok}
use Rattle.reg_history.specs.Reports.{Contents}
use Rattle.reg_verify.proofs.StoryCuts.{IsReadTo, read_last, read_none, read_to, unread_behind}
use Rattle.reg_verify.proofs.stories.reading.read_reports.Goals as goal

pub loop-report-init : goal.loop-report-init
loop-report-init g c = subst (λ (l : List Contents). IsReadTo c.args.text.now 0 l) (sym c.new-reports.ensures.items) (read_none c.args.text.now c.utf8.text)

pub returns-in-Err-clause-why : goal.returns-in-Err-clause-why
returns-in-Err-clause-why g c =
    unread_behind c.args.text.now c.as_bytes.result.now c.range.result.now c.loop-report.from c.end_behind-end.result c.loop-report.reports.items c.in-Err.fault c.as_bytes.ensures.value c.range.ensures.value c.loop-report.invariant c.end_behind-end.ensures.first c.in-Err.ensures.why

pub returns-then-end-text-clause-read : goal.returns-then-end-text-clause-read
returns-then-end-text-clause-read g c =
    let ok : is_ok c.push.result ≡ true = c.is_err.ensures.negation ∙ ap not c.if-is_err.false in
    let items : c.push.new.self.items ≡ c.loop-report.reports.items ++ c.in-Ok.report ∷ [] = rw ok at c.push.ensures.items in
    (read_last c.args.text.now c.loop-report.from c.end_behind-end.result c.loop-report.reports.items c.push.new.self.items c.in-Ok.report c.loop-report.invariant c.if-end-text.true (c.end_behind-end.ensures.last c.if-end-text.true) (rw c.range.ensures.value at c.in-Ok.ensures.read) items).0

pub returns-then-end-text-clause-whole : goal.returns-then-end-text-clause-whole
returns-then-end-text-clause-whole g c =
    let ok : is_ok c.push.result ≡ true = c.is_err.ensures.negation ∙ ap not c.if-is_err.false in
    let items : c.push.new.self.items ≡ c.loop-report.reports.items ++ c.in-Ok.report ∷ [] = rw ok at c.push.ensures.items in
    (read_last c.args.text.now c.loop-report.from c.end_behind-end.result c.loop-report.reports.items c.push.new.self.items c.in-Ok.report c.loop-report.invariant c.if-end-text.true (c.end_behind-end.ensures.last c.if-end-text.true) (rw c.range.ensures.value at c.in-Ok.ensures.read) items).1

pub loop-report-smaller : goal.loop-report-smaller
loop-report-smaller g c =
    let short : c.end_behind-end.result < length c.args.text.now = omega (arith, c.if-end-text.false, c.end_behind-end.ensures.within) in
    let grows = (c.end_behind-end.ensures.more short).0 in
    omega (arith, short, grows)

pub loop-report-preserved : goal.loop-report-preserved
loop-report-preserved g c =
    let ok : is_ok c.push.result ≡ true = c.is_err.ensures.negation ∙ ap not c.if-is_err.false in
    let items : c.push.new.self.items ≡ c.loop-report.reports.items ++ c.in-Ok.report ∷ [] = rw ok at c.push.ensures.items in
    let short : c.end_behind-end.result < length c.args.text.now = omega (arith, c.if-end-text.false, c.end_behind-end.ensures.within) in
    read_to c.args.text.now c.loop-report.from c.end_behind-end.result c.loop-report.reports.items c.push.new.self.items c.in-Ok.report c.loop-report.invariant c.end_behind-end.ensures.after c.end_behind-end.ensures.within (c.end_behind-end.ensures.more short).1 (rw c.range.ensures.value at c.in-Ok.ensures.read) items c.end_behind-end.ensures.boundary
