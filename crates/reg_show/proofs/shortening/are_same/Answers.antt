use Rattle.std.proofs.Common.{rules}
use Rattle.std.proofs.lemmas.Slice.Eq.{slice_eq-Decides}
use Rattle.reg_show.specs.declared.shortening.Finished.{Finished}
use Rattle.reg_show.proofs.shortening.are_same.Goals as goal

pub returns : goal.returns
returns c =
    slice_eq-Decides (λ (a b : Finished). search rules) c.args.list.now c.args.others.now c.eq.result c.eq.ensures
