use Rattle.std.proofs.Common.{◌≡◌, length, ap, sym, ◌∙◌, arith}
use Rattle.std.proofs.lemmas.Result.{err_from_is_err_and}
use Rattle.std.specs.Vec.{vec_len}
use Rattle.reg_text.specs.Lines.{lines_of}
use Rattle.reg_node.specs.LogTexts.{Journal}
use Rattle.reg_node.proofs.Journals.{lines_are, no_log, spelled}
use Rattle.reg_node.proofs.transcripts.logs.read_log.Goals as goal

pub returns-in_err-log-clause-whole : goal.returns-in_err-log-clause-whole
returns-in_err-log-clause-whole g c = λ j tail good s durable.
    let u = c.in-Ok.unsealed in
    let left = c.new.ensures.lines.0 ∙ ap lines_of c.deref.ensures.value in
    let memory = c.in_err-log.ensures.whole j good (left ∙ lines_are c.args.bytes.now u.text.items u.crc u.whole c.in-Ok.ensures j tail good s) in
    let p = err_from_is_err_and c.from_residual.result c.from_residual.ensures.1 in
    rw (p.1, p.2) memory

pub returns-in_err-log-clause-fault : goal.returns-in_err-log-clause-fault
returns-in_err-log-clause-fault g c =
    let u = c.in-Ok.unsealed in
    let left = c.new.ensures.lines.0 ∙ ap lines_of c.deref.ensures.value in
    let p = err_from_is_err_and c.from_residual.result c.from_residual.ensures.1 in
    rw (p.1, p.2) (no_log c.args.bytes.now u.text.items u.crc u.whole c.in-Ok.ensures c.args.durable c.new.result.left left c.in_err-log.field-0.0 c.in_err-log.ensures.whole c.in_err-log.ensures.kind)

pub returns-then-count-durable-clause-whole : goal.returns-then-count-durable-clause-whole
returns-then-count-durable-clause-whole g c = λ j tail good s durable.
    let u = c.in-Ok.unsealed in
    let left = c.new.ensures.lines.0 ∙ ap lines_of c.deref.ensures.value in
    let same = c.log.view_is ∙ c.in_ok-log.ensures.whole j good (left ∙ lines_are c.args.bytes.now u.text.items u.crc u.whole c.in-Ok.ensures j tail good s) in
    let long = ap (λ (k : Journal). length k.entries) same in
    absurd (omega (arith, durable, long, c.len-count.ensures, c.if-count-durable.true))

pub returns-then-count-durable-clause-fault : goal.returns-then-count-durable-clause-fault
returns-then-count-durable-clause-fault g c =
    let u = c.in-Ok.unsealed in
    let left = c.new.ensures.lines.0 ∙ ap lines_of c.deref.ensures.value in
    let entries = c.log.inside.entries in
    let long : vec_len entries ≡ length entries.items = omega (arith, entries.ok.0) in
    let told = spelled c.args.bytes.now u.text.items u.crc u.whole c.in-Ok.ensures c.in_ok-log.log (sym left ∙ c.in_ok-log.ensures.read.0) in
    record {
      journal = c.in_ok-log.log;
      tail = told.0;
      good = c.in_ok-log.ensures.read.1;
      spelled = told.1;
      ends = c.len-count.ensures ∙ long ∙ ap (λ (k : Journal). length k.entries) c.log.view_is;
      lost = c.if-count-durable.true;
    }

pub returns-clause-read : goal.returns-clause-read
returns-clause-read g c =
    let u = c.in-Ok.unsealed in
    let left = c.new.ensures.lines.0 ∙ ap lines_of c.deref.ensures.value in
    spelled c.args.bytes.now u.text.items u.crc u.whole c.in-Ok.ensures c.in_ok-log.log (sym left ∙ c.in_ok-log.ensures.read.0)

pub returns-clause-whole : goal.returns-clause-whole
returns-clause-whole g c = λ j tail good s durable.
    let u = c.in-Ok.unsealed in
    let left = c.new.ensures.lines.0 ∙ ap lines_of c.deref.ensures.value in
    c.in_ok-log.ensures.whole j good (left ∙ lines_are c.args.bytes.now u.text.items u.crc u.whole c.in-Ok.ensures j tail good s)
