use Rattle.std.proofs.Common.{◌≡◌, length}
use Rattle.reg_judge.specs.Searching.{AreFirst}
use Rattle.reg_judge.proofs.search.first_layers.Given as goal

abbrev pub invariant-loop-register : goal.invariant-loop-register
invariant-loop-register g l = record {
  first : AreFirst l.layers.items;
  count : length l.layers.items ≡ l._register;
}
