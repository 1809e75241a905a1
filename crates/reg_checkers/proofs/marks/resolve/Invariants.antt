use Rattle.std.proofs.Common.{◌≡◌, ℕ, ◌<◌, ◌≤◌, length, take, Some}
use Rattle.std.specs.Prelude.{vec_capacity}
use Rattle.std.specs.List.{AllZip}
use Rattle.reg_base.specs.declared.memory.OpId.{OpId}
use Rattle.reg_checkers.specs.History.{IsAt}
use Rattle.reg_checkers.specs.Table.{cell, Stands}
use Rattle.reg_checkers.proofs.marks.resolve.Given as goal

abbrev pub invariant-loop-k : goal.invariant-loop-k
invariant-loop-k g l = record {
  each : AllZip (λ id f. cell l.rows id ≡ Some f) (take l.k l.ids) l.facts.items;
  stand : (k : ℕ) (id : OpId) → k < l.k → IsAt l.ids k id → Stands l.rows id;
  size : length l.facts.items ≡ l.k;
  room : length l.ids ≤ vec_capacity l.facts;
}
