use Rattle.std.proofs.Common.{◌≡◌, List, drop, length}
use Rattle.reg_checkers.specs.declared.entries.Point.{Point}
use Rattle.reg_checkers.specs.Orders.{IsPointOrder}
use Rattle.reg_judge.specs.Acts.{act_in}
use Rattle.reg_judge.specs.Searching.{AreAlive, AreWaiting, run_of}
use Rattle.reg_judge.proofs.search.go_through.Given as goal

-- where there is a point order, some stage of each register goes on
abbrev pub invariant-loop-place : goal.invariant-loop-place
invariant-loop-place g l = record {
  processes : length l.search.running.items ≡ l.fn.shape.processes;
  registers : length l.search.layers.items ≡ l.fn.shape.registers;
  waiting : AreWaiting l.entries (act_in l.rows) l.place l.search.running.items;
  alive : (ps : List Point) → IsPointOrder l.fn.shape.registers l.entries ps → AreAlive (act_in l.rows) (run_of l.search.running.items) (drop l.place l.entries) l.search.layers.items;
}
