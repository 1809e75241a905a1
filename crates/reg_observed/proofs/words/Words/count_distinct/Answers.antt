use Rattle.std.proofs.Common.{List, ℕ, subst}
use Rattle.reg_observed.specs.Heard.{AreDistinct}
use Rattle.reg_observed.proofs.Numbering.{distinct}
use Rattle.reg_observed.proofs.words.Words.count_distinct.Goals as goal

pub returns-clause-distinct : goal.returns-clause-distinct
returns-clause-distinct c = let P : List (List ℕ) → Type 0 = AreDistinct in subst P c.self.view_is (distinct c.self.inside.set.keys c.self.invariant)
