use Rattle.std.proofs.Common.{◌≡◌, refl, sym, subst, List, ◌∙◌}
use Rattle.std.proofs.lemmas.Bool.{false≢true}
use Rattle.reg_checkers.specs.declared.entries.Entry.{Entry}
use Rattle.reg_checkers.specs.History.{IsHistory}
use Rattle.reg_world.specs.RealTime.{KeepsRealTime}
use Rattle.reg_outcomes.specs.declared.faults.InterleavingFault.TheVariants.{TooManyStages}
use Rattle.reg_outcomes.proofs.Linear.{found_is, in_time_is, whatever_fault}
use Rattle.reg_outcomes.proofs.tables.timing.is_linearizable.Goals as goal

pub keeps_real_time-requires-clause-distinct : goal.keeps_real_time-requires-clause-distinct
keeps_real_time-requires-clause-distinct g c = c.requires.selection.distinct

pub keeps_real_time-requires-clause-history : goal.keeps_real_time-requires-clause-history
keeps_real_time-requires-clause-history g c =
    let h = c.args.history.now in
    (h.shape.processes, h.shape.registers, subst (λ (es : List Entry). IsHistory h.shape.processes h.shape.registers es) (sym c.entries.ensures.value) c.entries.ensures.in_place)

pub returns-then-branch-clause-found : goal.returns-then-branch-clause-found
returns-then-branch-clause-found g c =
    let h = c.args.history.now in
    let ids = c.args.order.now in
    let keeps = subst (λ (es : List Entry). KeepsRealTime es ids) c.entries.ensures.value (c.in_ok-keeps_real_time.ensures.0 c.if-branch.true) in
    (λ _. in_time_is h.shape.processes h.shape.registers h.entries c.entries.ensures.in_place ids c.requires keeps, λ _. refl)

pub returns-clause-found : goal.returns-clause-found
returns-clause-found g c =
    let h = c.args.history.now in
    found_is h.shape.registers h.entries c.in_ok-points.points c.is_some.result c.is_some.ensures c.in_ok-points.ensures.found

pub returns-in_err-points-clause-late : goal.returns-in_err-points-clause-late
returns-in_err-points-clause-late g c =
    let h = c.args.history.now in
    let ids = c.args.order.now in
    let keeps_not : ¬ KeepsRealTime h.entries ids = λ keeps. false≢true (sym c.if-branch.false ∙ c.in_ok-keeps_real_time.ensures.1 (subst (λ (es : List Entry). KeepsRealTime es ids) (sym c.entries.ensures.value) keeps)) in
    whatever_fault c.from_residual-in_err-points.result (λ f. f ≡ TooManyStages) (¬ KeepsRealTime h.entries ids) keeps_not
