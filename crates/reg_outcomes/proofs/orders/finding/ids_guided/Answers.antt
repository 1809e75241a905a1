use Rattle.std.proofs.Common.{◌≡◌, Bool, ℕ, ap, ap₂, ◌∙◌, subst}
use Rattle.reg_base.specs.Shape.{Extent}
use Rattle.std.specs.Prelude.{MatchBool}
use Rattle.reg_outcomes.specs.Interleavings.{first_stage}
use Rattle.reg_outcomes.specs.Placing.{IsComplete}
use Rattle.reg_outcomes.specs.Searching.{IsSearch}
use Rattle.reg_outcomes.specs.Walking.{Goes}
use Rattle.reg_outcomes.proofs.Searching.{order_is, starts}
use Rattle.reg_outcomes.proofs.Walking.{no_order}
use Rattle.reg_outcomes.proofs.orders.finding.ids_guided.Goals as goal

pub walk_on-requires-clause-search : goal.walk_on-requires-clause-search
walk_on-requires-clause-search g c =
    let s = c.args.finder.now in
    let processes : c.processes.result ≡ s.shape.processes = c.processes.ensures.value ∙ ap (λ (x : Extent). x.processes) c.shape-shape.ensures in
    let registers : c.registers.result ≡ s.shape.registers = c.registers.ensures.value ∙ ap (λ (x : Extent). x.registers) c.shape-shape.ensures in
    starts s c.in_ok-walk.walk c.new-failed.result (c.in_ok-walk.ensures.stage ∙ ap₂ (λ (n r : ℕ). first_stage n r) processes registers) c.in_ok-walk.ensures.tried c.in_ok-walk.ensures.path c.new-failed.ensures.none (c.new-failed.ensures.limit ∙ c.limit.ensures)

pub returns-then-branch-clause-found : goal.returns-then-branch-clause-found
returns-then-branch-clause-found g c =
    let s = c.args.finder.now in
    let walk = c.walk_on.new.walk in
    let failed = c.walk_on.new.failed in
    let placed = subst (λ (b : Bool). MatchBool b (IsSearch s walk failed × IsComplete s.entries walk.stage.next.items) (¬ Goes s.kind s.entries (first_stage s.shape.processes s.shape.registers))) c.if-branch.true c.in_ok-walk_on.ensures.placed in
    order_is s c.requires.history walk failed placed.0 c.in_ok-ids.field-0.items c.in_ok-ids.ensures placed.1

pub returns-clause-found : goal.returns-clause-found
returns-clause-found g c =
    let s = c.args.finder.now in
    let walk = c.walk_on.new.walk in
    let failed = c.walk_on.new.failed in
    let none = subst (λ (b : Bool). MatchBool b (IsSearch s walk failed × IsComplete s.entries walk.stage.next.items) (¬ Goes s.kind s.entries (first_stage s.shape.processes s.shape.registers))) c.if-branch.false c.in_ok-walk_on.ensures.placed in
    no_order s.kind s.shape.processes s.shape.registers s.entries c.requires.history none
