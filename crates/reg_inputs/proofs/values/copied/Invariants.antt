use Rattle.std.proofs.Common.{◌≡◌, map, take}
use Rattle.toml.specs.View.{view}
use Rattle.reg_base.specs.Names.{texts}
use Rattle.reg_inputs.specs.Judged.{text_of}
use Rattle.reg_inputs.proofs.values.copied.Given as goal

abbrev pub invariant-loop-value : goal.invariant-loop-value
invariant-loop-value g l = texts l.copies.items ≡ map (λ x. text_of (view x)) (take l.value-index l.values)
