use Rattle.std.proofs.Common.{rules, tests}
use Rattle.std.specs.Char.{is_ascii_lowercase}
use Rattle.std.proofs.lemmas.Iterator.{YieldsList-from_slice}
use Rattle.std.proofs.lemmas.Iterator.Search.{all_from_yields_List}
use Rattle.reg_base.proofs.naming.are_letters.Goals as goal

pub returns : goal.returns
returns c =
    all_from_yields_List is_ascii_lowercase _ _ _ c.all.ensures.ran (YieldsList-from_slice c.args.letters.now cc) (λ x b q k. search (rules, tests))
