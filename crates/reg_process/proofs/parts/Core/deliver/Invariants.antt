use Rattle.std.proofs.Common.{◌≡◌, ◌++◌, length}
use Rattle.reg_process.specs.Process.{clear_casts, delivered_state, due}
use Rattle.reg_process.specs.Faults.{first_of}
use Rattle.reg_process.proofs.parts.Core.deliver.Given as goal

-- what was delivered and what is still to be make up the whole
abbrev pub invariant-loop-cast : goal.invariant-loop-cast
invariant-loop-cast g l = record {
  casts : l.delivered.items ++ clear_casts l.self ≡ clear_casts l.initial.self;
  state : delivered_state l.self ≡ delivered_state l.initial.self;
  answer : first_of l.reply (due l.self) ≡ due l.initial.self;
}

abbrev pub decreases-loop-cast : goal.decreases-loop-cast
decreases-loop-cast g l = length (clear_casts l.self)
