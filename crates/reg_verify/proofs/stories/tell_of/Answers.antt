use Rattle.std.proofs.Common.{refl}
use Rattle.reg_verify.specs.StoryTexts.{is_story}
use Rattle.reg_verify.proofs.Gathered.{at_index}
use Rattle.reg_verify.proofs.stories.tell_of.Goals as goal

pub returns-in-Ok-clause-ok : goal.returns-in-Ok-clause-ok
returns-in-Ok-clause-ok g c = record {
  ruling = c.in_ok-ruling.ruling;
  ruled = c.in_ok-ruling.ensures.ruling;
  says = c.is_story.ensures;
  first = c.index-reports-0.result;
  begins = at_index c.args.reports.now 0 c.index-reports-0.result c.requires c.index-reports-0.is;
  written = rw c.names.ensures at c.in-Ok.ensures;
}

pub returns-in-Err-clause-part : goal.returns-in-Err-clause-part
returns-in-Err-clause-part g c = λ failed. (
  is_story c.in_ok-ruling.ruling,
  record {
    ruling = c.in_ok-ruling.ruling;
    ruled = c.in_ok-ruling.ensures.ruling;
    says = refl;
    first = c.index-reports-0.result;
    begins = at_index c.args.reports.now 0 c.index-reports-0.result c.requires c.index-reports-0.is;
    written = rw c.names.ensures at c.in-Err.ensures.1;
  },
)
