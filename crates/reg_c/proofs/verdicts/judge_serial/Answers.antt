use Rattle.std.proofs.Common.{ℕ, List, ◌∙◌}
use Rattle.reg_base.specs.declared.memory.OpId.{OpId}
use Rattle.reg_checkers.specs.declared.entries.Entry.{Entry}
use Rattle.reg_checkers.specs.Checks.{IsSerialFault}
use Rattle.reg_c.proofs.Rowwise.{judged}
use Rattle.reg_c.proofs.verdicts.judge_serial.Goals as goal

pub returns : goal.returns
returns c =
    judged (λ (r : ℕ) (es : List Entry) (found : List OpId). IsSerialFault r es found c.in-Err-check_serial.fault) c.args.size.processes c.args.size.registers c.args.entries.now c.args.expected.now c.in-Ok.history.entries c.in-Ok.history.shape
    c.deref.result.now _ c.in-Ok.ensures.0 c.in-Ok.ensures.1 c.entries.ensures.in_place (c.deref.ensures.value ∙ c.in-Ok-ids_of.ensures) c.in-Err-check_serial.ensures
