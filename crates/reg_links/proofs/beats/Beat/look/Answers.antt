use Rattle.std.proofs.Common.{rules}
use Rattle.reg_links.proofs.beats.Beat.look.Goals as goal

pub returns-then-mail-clause-beat : goal.returns-then-mail-clause-beat
returns-then-mail-clause-beat c = search rules

pub returns-clause-beat : goal.returns-clause-beat
returns-clause-beat c = search rules

pub returns-clause-tick : goal.returns-clause-tick
returns-clause-tick c = search rules
