use Rattle.reg_history.proofs.Numerals.{behind_only, behind_whole}
use Rattle.reg_history.proofs.column_forms.behind.Goals as goal

pub returns-clause-only : goal.returns-clause-only
returns-clause-only c = behind_only c.args.bytes.now c.spaces_before-start.result c.spaces_before-start.ensures.within c.spaces_before-start.ensures.count

pub returns-clause-whole : goal.returns-clause-whole
returns-clause-whole c = λ digits h e. behind_whole c.args.bytes.now digits c.spaces_before-start.result c.spaces_before-start.ensures.count h e
