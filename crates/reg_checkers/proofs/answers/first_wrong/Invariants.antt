use Rattle.std.proofs.Common.{◌≡◌, ℕ, ◌<◌, map, take, length}
use Rattle.reg_base.specs.Memory.{memory}
use Rattle.reg_checkers.specs.Facts.{IsWrongFact}
use Rattle.reg_checkers.proofs.answers.first_wrong.Given as goal

abbrev pub invariant-loop-place : goal.invariant-loop-place
invariant-loop-place g l = record {
  memory : l.values ≡ memory l.fn.shape.registers (map (λ f. f.op) (take l.place l.facts));
  right : (k : ℕ) → k < l.place → ¬ IsWrongFact l.fn.shape.registers l.facts k;
  room : length l.values ≡ l.fn.shape.registers;
}
