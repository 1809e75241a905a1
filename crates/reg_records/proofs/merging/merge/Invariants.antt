use Rattle.std.proofs.Common.{◌≡◌, ◌≤◌, length, map}
use Rattle.reg_records.specs.Placing.{IsPlacing, shape_of}
use Rattle.reg_records.proofs.merging.merge.Given as goal

abbrev pub invariant-loop-round : goal.invariant-loop-round
invariant-loop-round g l = record {
  placing : IsPlacing g.F.FrontEnd.start (map (λ v. v.items) l.logs) l.placing;
  shape : shape_of l.placing.world ≡ l.fn.shape;
  longer : l._round ≤ length l.placing.order;
}
