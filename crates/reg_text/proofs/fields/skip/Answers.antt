use Rattle.reg_text.proofs.Marks.{skip_read, skip_whole}
use Rattle.reg_text.proofs.fields.skip.Goals as goal

pub returns-clause-read : goal.returns-clause-read
returns-clause-read c = skip_read c.strip_prefix.result c.args.bytes.now c.args.mark.now c.strip_prefix.ensures.cases

pub returns-clause-whole : goal.returns-clause-whole
returns-clause-whole c =
    λ rest e. skip_whole c.strip_prefix.result c.args.bytes.now c.args.mark.now rest c.strip_prefix.ensures.cases e
