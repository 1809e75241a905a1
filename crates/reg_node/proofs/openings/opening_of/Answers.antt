use Rattle.std.proofs.Common.{List, ◌++◌, get_or, sym, ap, ◌∙◌}
use Rattle.reg_base.specs.declared.memory.Op.{Op}
use Rattle.reg_node.specs.Openings.{write_of}
use Rattle.reg_node.proofs.Restoring.{opening_more}
use Rattle.reg_node.proofs.openings.opening_of.Goals as goal

pub loop-register-preserved : goal.loop-register-preserved
loop-register-preserved g c =
    let at = c.loop-register.register in
    c.in_ok-add.ensures
    ∙ (ap (λ (ops : List Op). ops ++ write_of at (get_or c.args.values.now at 0)) c.loop-register.invariant
    ∙ sym (opening_more c.args.values.now at c.loop-register-test.true))
