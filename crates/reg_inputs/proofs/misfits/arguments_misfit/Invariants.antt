use Rattle.std.specs.Prelude.{◌≡◌, ◌+◌, take}
use Rattle.reg_inputs.specs.Arguments.{Reached}
use Rattle.reg_inputs.proofs.misfits.arguments_misfit.Given as goal

abbrev pub invariant-loop-argument : goal.invariant-loop-argument
invariant-loop-argument g l =
    (l.word ≡ l.before + l.argument-index) × Reached l.rule l.names (take l.argument-index l.arguments) l.text l.rest
