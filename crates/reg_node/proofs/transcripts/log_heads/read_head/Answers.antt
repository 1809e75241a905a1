use Rattle.std.proofs.Common.{[], ap, sym, ◌∙◌, subst, lit≤}
use Rattle.reg_node.specs.LogHeads.{BeginsWith, head_of}
use Rattle.reg_node.specs.LogTexts.{IsJournal}
use Rattle.reg_node.proofs.Begins.{head_begins, head_good, head_spelled, none_begins}
use Rattle.reg_node.proofs.transcripts.log_heads.read_head.Goals as goal

pub returns-in-Err-clause-whole : goal.returns-in-Err-clause-whole
returns-in-Err-clause-whole g c = λ j good begins.
    c.in-Err.ensures.whole (head_of j) [] (head_good j good) (head_spelled c.args.bytes.now c.first_part.result.now c.first_part.ensures.whole j good begins) (lit≤ tt)

pub returns-in-Err-clause-fault : goal.returns-in-Err-clause-fault
returns-in-Err-clause-fault g c =
    none_begins c.args.bytes.now c.first_part.result.now (head_spelled c.args.bytes.now c.first_part.result.now c.first_part.ensures.whole) c.in-Err.fault c.in-Err.ensures.fault

pub returns-clause-read : goal.returns-clause-read
returns-clause-read g c =
    let part = c.first_part.ensures.part in
    let told = c.in-Ok.ensures.read in
    let same = sym (ap head_of (c.log.view_is)) in (
      subst (BeginsWith c.args.bytes.now) same (head_begins c.args.bytes.now c.first_part.result.now part.0 told.0 c.in-Ok.field-0.log part.1 told.1),
      subst IsJournal same (head_good c.in-Ok.field-0.log c.in-Ok.ensures.good.0),
    )

pub returns-clause-whole : goal.returns-clause-whole
returns-clause-whole g c = λ j good begins.
    let spelled = head_spelled c.args.bytes.now c.first_part.result.now c.first_part.ensures.whole j good begins in
    ap head_of (c.log.view_is ∙ c.in-Ok.ensures.whole (head_of j) [] (head_good j good) spelled (lit≤ tt))
