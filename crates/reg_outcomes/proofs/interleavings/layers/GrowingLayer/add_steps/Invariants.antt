use Rattle.std.proofs.Common.{◌≡◌, ◌≤◌, length, map}
use Rattle.reg_outcomes.specs.Layers.{Adds, IsFirstStep, stage_of, entries_of}
use Rattle.reg_outcomes.proofs.interleavings.layers.GrowingLayer.add_steps.Given as goal

-- the steps of the processes so far were added, within the limit, which stays
abbrev pub invariant-loop-process : goal.invariant-loop-process
invariant-loop-process g l = record {
  added : Adds (IsFirstStep (map (λ v. v.items) l.scripts) l.process (stage_of l.stage, l.turns)) (entries_of l.initial.self.layer) (entries_of l.self.layer);
  narrow : length l.initial.self.layer.entries ≤ l.initial.self.limit → length l.self.layer.entries ≤ l.initial.self.limit;
  limit : l.self.limit ≡ l.initial.self.limit;
}
