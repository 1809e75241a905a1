use Rattle.std.proofs.Common.{◌≡◌, take, length}
use Rattle.reg_checkers.specs.Log.{IsLog}
use Rattle.reg_judge.specs.Standing.{Stands}
use Rattle.reg_judge.proofs.rulings.seats.add_rows.Given as goal

abbrev pub invariant-loop-row : goal.invariant-loop-row
invariant-loop-row g l = record {
  stands : Stands l.naming l.processes (take l.row-index l.rows) l.seats.held.items l.history.entries;
  count : length l.seats.held.items ≡ l.processes;
  log : IsLog l.history;
  shape : l.history.shape ≡ l.fn.history.shape;
}
