use Rattle.std.proofs.Common.{◌≡◌, ◌<◌, ℕ, map}
use Rattle.reg_records.specs.Placing.{CannotGo}
use Rattle.reg_records.proofs.placing.Placing.place_any.Given as goal

abbrev pub invariant-loop-process : goal.invariant-loop-process
invariant-loop-process g l = record {
  same : l.self ≡ l.fn.self;
  cannot : (p : ℕ) → p < l.process → CannotGo g.F.FrontEnd.start (map (λ v. v.items) l.logs) l.fn.self p;
}
