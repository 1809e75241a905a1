use Rattle.reg_links.proofs.LinkLaws.{every_link, every_prefix, never_ahead}
use Rattle.reg_links.proofs.laws.links_keep_order.Goals as goal

pub returns-clause-kept : goal.returns-clause-kept
returns-clause-kept c = every_link

pub returns-clause-prefix : goal.returns-clause-prefix
returns-clause-prefix c = every_prefix

pub returns-clause-not_ahead : goal.returns-clause-not_ahead
returns-clause-not_ahead c = never_ahead
