use Rattle.reg_verify.proofs.StoryCuts.{boundary_at, first_behind, last_behind, more_behind, rest_is}
use Rattle.reg_verify.proofs.stories.reading.end_behind.Goals as goal

pub returns-clause-boundary : goal.returns-clause-boundary
returns-clause-boundary c =
    boundary_at c.args.text.now _ c.args.from c.end_of_report.result c.utf8.text (rest_is c.as_bytes.result.now c.args.text.now c.args.from c.as_bytes.ensures.value) c.requires.within c.end_of_report.ensures.within c.end_of_report.ensures.more

pub returns-clause-first : goal.returns-clause-first
returns-clause-first c = first_behind c.args.text.now _ c.args.from c.end_of_report.result (rest_is c.as_bytes.result.now c.args.text.now c.args.from c.as_bytes.ensures.value) c.end_of_report.ensures.first

pub returns-clause-last : goal.returns-clause-last
returns-clause-last c = last_behind c.args.text.now _ c.args.from c.end_of_report.result (rest_is c.as_bytes.result.now c.args.text.now c.args.from c.as_bytes.ensures.value) c.requires.within c.end_of_report.ensures.last

pub returns-clause-more : goal.returns-clause-more
returns-clause-more c = more_behind c.args.text.now _ c.args.from c.end_of_report.result (rest_is c.as_bytes.result.now c.args.text.now c.args.from c.as_bytes.ensures.value) c.requires.within c.end_of_report.ensures.more
