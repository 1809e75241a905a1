use Rattle.std.proofs.Common.{List, ℕ, subst}
use Rattle.std.specs.Prelude.{slice_index}
use Rattle.reg_checkers.specs.Progress.{op_of}
use Rattle.reg_outcomes.specs.Guiding.{IsBlocked}
use Rattle.reg_outcomes.specs.Layers.{stage_of}
use Rattle.reg_outcomes.specs.Walking.{ids_of}
use Rattle.reg_outcomes.proofs.Guiding.{choice_beyond, passed_by}
use Rattle.reg_outcomes.proofs.Placed.{room}
use Rattle.reg_outcomes.proofs.Walking.{none_past, places_of}
use Rattle.reg_outcomes.proofs.orders.finding.free_choice.Goals as goal

pub choose-requires-clause-room : goal.choose-requires-clause-room
choose-requires-clause-room g c =
    let s = c.args.finder.now in
    let steps = c.args.walk.now.path.items in
    let here = stage_of c.args.walk.now.stage in
    room s.kind s.shape.processes s.shape.registers s.entries (ids_of steps) here (places_of s.kind s.shape.processes s.shape.registers s.entries steps here c.requires.path)

pub returns-in_err-choice : goal.returns-in_err-choice
returns-in_err-choice g c =
    let s = c.args.finder.now in
    rw c.from_residual.ensures (none_past s.kind s.shape.processes s.shape.registers s.entries c.requires.history (stage_of c.args.walk.now.stage) c.choices.tried c.requires.open c.choices.invariant.1 c.in_err-choice.ensures)

pub returns-then-not-blocks : goal.returns-then-not-blocks
returns-then-not-blocks g c = choice_beyond c.args.finder.now c.requires.history c.args.walk.now.path.items (stage_of c.args.walk.now.stage) c.requires.path c.args.walk.now.tried c.choices.tried c.choices.invariant.0 c.choices.invariant.1 c.in_ok-choice.choice c.in_ok-choice.ensures

pub choices-preserved : goal.choices-preserved
choices-preserved g c =
    let s = c.args.finder.now in
    let p = c.in_ok-choice.choice.process in
    let blocks = subst (λ (next : List ℕ). IsBlocked s next (op_of p (slice_index next p))) c.deref.ensures.value (c.blocks-in-choices.ensures c.if-not-blocks.false) in
    passed_by s c.requires.history c.args.walk.now.path.items (stage_of c.args.walk.now.stage) c.requires.path c.args.walk.now.tried c.choices.tried c.choices.invariant.0 c.choices.invariant.1 c.in_ok-choice.choice c.in_ok-choice.ensures blocks
