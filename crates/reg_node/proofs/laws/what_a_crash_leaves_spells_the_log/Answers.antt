use Rattle.std.proofs.Common.{refl}
use Rattle.reg_node.specs.LogTexts.{log_crc}
use Rattle.reg_node.proofs.Sealed.{torn_without_feed}
use Rattle.reg_node.proofs.laws.what_a_crash_leaves_spells_the_log.Goals as goal

pub returns : goal.returns
returns c = λ j tail lacks. record { all = refl; torn = torn_without_feed (log_crc j) tail lacks }
