-- A search for an order: where it stands, and what each turn of it does. They carry a proof: no promise speaks of them.
use Rattle.std.specs.Prelude.{ℕ, zero, suc, ◌≡◌, ◌+◌, ◌-◌, ◌*◌, ◌<◌, List, [], ◌∷◌, length}
use Rattle.reg_base.specs.declared.memory.OpId.{OpId}
use Rattle.reg_outcomes.specs.declared.orders.choices.Choice.{Choice}
use Rattle.reg_outcomes.specs.declared.orders.failed.Failed.{Failed}
use Rattle.reg_outcomes.specs.declared.orders.finding.Turn.{Turn}
use Rattle.reg_outcomes.specs.declared.orders.finding.Turn.TheVariants.{On, Complete, Over}
use Rattle.reg_outcomes.specs.declared.orders.walk.Step.{Step}
use Rattle.reg_outcomes.specs.declared.orders.walk.Walk.{Walk}
use Rattle.reg_outcomes.specs.Finding.{Places}
use Rattle.reg_outcomes.specs.Interleavings.{Stage, first_stage}
use Rattle.reg_outcomes.specs.Layers.{stage_of}
use Rattle.reg_outcomes.specs.Placing.{IsComplete}
use Rattle.reg_outcomes.specs.Sought.{Sought}
use Rattle.reg_outcomes.specs.Walking.{AreTried, Goes, HasFailed, IsChoice, IsPath, Layers}

-- each stage that is kept leads to no order, and so many operations lead to it
abbrev pub AreFailed : {A : Type 0} → Sought → Layers A → Type 0
AreFailed s layers =
    (k : ℕ) (f : Stage) → HasFailed layers k f
    → (¬ Goes s.kind s.entries f)
    × ((ids : List OpId) × Places s.kind s.shape.processes s.shape.registers s.entries ids f × (length ids ≡ k))

-- where a search stands: what was tried and what failed leads to no order
pub record IsSearch {A : Type 0} (s : Sought) (walk : Walk A) (failed : Failed A) : Type 0 where
  pub path : IsPath s.kind s.shape.processes s.shape.registers s.entries walk.path.items (stage_of walk.stage)
  pub tried : AreTried s.kind s.entries (stage_of walk.stage) walk.tried
  pub fails : AreFailed s failed.layers.items
  pub limit : failed.limit ≡ s.limit

-- what each choice counts for, with at most d operations more: more than all that can follow it
abbrev pub weight : ℕ → ℕ
weight zero = 1
weight (suc d) = 18446744073709551618 * weight d

-- how much can be tried still along a path, with at most d operations
abbrev pub left : ℕ → List Step → ℕ → ℕ
left d [] tried = (18446744073709551616 - tried + 1) * weight d
left d (x ∷ steps) tried = (18446744073709551616 - x.tried + 1) * weight d + left (d - 1) steps tried

abbrev pub left_of : {A : Type 0} → Sought → Walk A → ℕ
left_of s walk = left (length s.entries) walk.path.items walk.tried

-- the choice, by which something more is tried
abbrev pub IsNextChoice : {A : Type 0} → Sought → Walk A → Choice → Type 0
IsNextChoice s walk c = IsChoice s.kind s.shape.processes s.shape.registers s.entries walk.tried (stage_of walk.stage) c

-- what a turn does
abbrev pub IsTurned : {A : Type 0} → Sought → Walk A → Walk A → Failed A → Turn → Type 0
IsTurned s old new failed On = IsSearch s new failed × (left_of s new < left_of s old)
IsTurned s old new failed Complete = IsSearch s new failed × IsComplete s.entries new.stage.next.items
IsTurned s old new failed Over = ¬ Goes s.kind s.entries (first_stage s.shape.processes s.shape.registers)
