use Rattle.std.proofs.Common.{◌≡◌, ◌∙◌, ℕ, length, map, refl, sym, ap, arith}
use Rattle.std.proofs.lemmas.List.{length-map}
use Rattle.reg_outcomes.specs.Interleavings.{Interleaving, first_stage}
use Rattle.reg_outcomes.specs.Layers.{stage_of}
use Rattle.reg_outcomes.proofs.Turns.{IsTurnAt, begins, goes_further, has_number, has_script_here, is_left, is_run}
use Rattle.reg_outcomes.proofs.Turns.{may_go, number_next, register_there, turn_at}
use Rattle.reg_outcomes.proofs.turning.take_turns.Goals as goal

pub loop-turn-init : goal.loop-turn-init
loop-turn-init g c =
    let scripts = map (λ v. v.items) c.args.scripts.now in
    let same : length scripts ≡ length c.args.scripts.now = length-map c.args.scripts.now (λ v. v.items) in
    let first : stage_of c.in_ok-stage.stage ≡ first_stage (length scripts) c.args.registers = c.in_ok-stage.ensures ∙ ap (λ (n : ℕ). first_stage n c.args.registers) (sym same) in
    begins g.F.FrontEnd.start scripts c.args.registers g.met.F.FrontEnd.lawful c.requires.playable c.args.outcome.now c.requires.outcome c.requires.room
    (record { processes = length c.args.scripts.now; registers = c.args.registers }) c.args.world.now (sym same) refl c.requires.new (stage_of c.in_ok-stage.stage) first

pub next_op-requires-clause-script : goal.next_op-requires-clause-script
next_op-requires-clause-script g c =
    let scripts = map (λ v. v.items) c.args.scripts.now in
    let p : ℕ = c.index-process.result.now in
    let size = c.len-turn-end.ensures in
    let stored = c.outcome.inside.turns.ok.0 in
    let count : c.len-turn-end.result ≡ length c.outcome.inside.turns.items = omega (arith, size, stored) in
    let turn : IsTurnAt c.args.outcome.now c.loop-turn.turn p = turn_at c.args.outcome.now c.outcome.inside.turns.items c.loop-turn.turn p c.len-turn-end.result (ap (λ (o : Interleaving). o.turns) c.outcome.view_is) count c.loop-turn-test.true c.index-process.ensures in
    let same = length-map c.args.scripts.now (λ v. v.items) in
    let there = has_script_here g.F.FrontEnd.start scripts c.args.registers g.met.F.FrontEnd.lawful c.requires.playable c.args.outcome.now c.loop-turn.turn (stage_of c.loop-turn.stage) c.loop-turn.world c.loop-turn.invariant p turn in
    omega (arith, same, there)

pub next_op-requires-clause-process : goal.next_op-requires-clause-process
next_op-requires-clause-process g c =
    let scripts = map (λ v. v.items) c.args.scripts.now in
    let p : ℕ = c.index-process.result.now in
    let size = c.len-turn-end.ensures in
    let stored = c.outcome.inside.turns.ok.0 in
    let count : c.len-turn-end.result ≡ length c.outcome.inside.turns.items = omega (arith, size, stored) in
    let turn : IsTurnAt c.args.outcome.now c.loop-turn.turn p = turn_at c.args.outcome.now c.outcome.inside.turns.items c.loop-turn.turn p c.len-turn-end.result (ap (λ (o : Interleaving). o.turns) c.outcome.view_is) count c.loop-turn-test.true c.index-process.ensures in
    has_number g.F.FrontEnd.start scripts c.args.registers g.met.F.FrontEnd.lawful c.requires.playable c.args.outcome.now c.loop-turn.turn (stage_of c.loop-turn.stage) c.loop-turn.world c.loop-turn.invariant p turn

pub unreachable-requires : goal.unreachable-requires
unreachable-requires g c =
    let scripts = map (λ v. v.items) c.args.scripts.now in
    let p : ℕ = c.index-process.result.now in
    let size = c.len-turn-end.ensures in
    let stored = c.outcome.inside.turns.ok.0 in
    let count : c.len-turn-end.result ≡ length c.outcome.inside.turns.items = omega (arith, size, stored) in
    let turn : IsTurnAt c.args.outcome.now c.loop-turn.turn p = turn_at c.args.outcome.now c.outcome.inside.turns.items c.loop-turn.turn p c.len-turn-end.result (ap (λ (o : Interleaving). o.turns) c.outcome.view_is) count c.loop-turn-test.true c.index-process.ensures in
    is_left g.F.FrontEnd.start scripts c.args.registers g.met.F.FrontEnd.lawful c.requires.playable c.args.outcome.now c.loop-turn.turn (stage_of c.loop-turn.stage) c.loop-turn.world c.loop-turn.invariant p turn (sym c.next_op.ensures ∙ c.in_default.is)

pub take_turn-requires-clause-on : goal.take_turn-requires-clause-on
take_turn-requires-clause-on g c = c.loop-turn.invariant.on

pub take_turn-requires-clause-may : goal.take_turn-requires-clause-may
take_turn-requires-clause-may g c =
    let scripts = map (λ v. v.items) c.args.scripts.now in
    let p : ℕ = c.index-process.result.now in
    let size = c.len-turn-end.ensures in
    let stored = c.outcome.inside.turns.ok.0 in
    let count : c.len-turn-end.result ≡ length c.outcome.inside.turns.items = omega (arith, size, stored) in
    let turn : IsTurnAt c.args.outcome.now c.loop-turn.turn p = turn_at c.args.outcome.now c.outcome.inside.turns.items c.loop-turn.turn p c.len-turn-end.result (ap (λ (o : Interleaving). o.turns) c.outcome.view_is) count c.loop-turn-test.true c.index-process.ensures in
    may_go g.F.FrontEnd.start scripts c.args.registers g.met.F.FrontEnd.lawful c.requires.playable c.args.outcome.now c.loop-turn.turn (stage_of c.loop-turn.stage) c.loop-turn.world c.loop-turn.invariant p turn c.in-Some.op (sym c.next_op.ensures ∙ c.in-Some.is)

pub after-requires-clause-process : goal.after-requires-clause-process
after-requires-clause-process g c =
    let scripts = map (λ v. v.items) c.args.scripts.now in
    let p : ℕ = c.index-process.result.now in
    let size = c.len-turn-end.ensures in
    let stored = c.outcome.inside.turns.ok.0 in
    let count : c.len-turn-end.result ≡ length c.outcome.inside.turns.items = omega (arith, size, stored) in
    let turn : IsTurnAt c.args.outcome.now c.loop-turn.turn p = turn_at c.args.outcome.now c.outcome.inside.turns.items c.loop-turn.turn p c.len-turn-end.result (ap (λ (o : Interleaving). o.turns) c.outcome.view_is) count c.loop-turn-test.true c.index-process.ensures in
    has_number g.F.FrontEnd.start scripts c.args.registers g.met.F.FrontEnd.lawful c.requires.playable c.args.outcome.now c.loop-turn.turn (stage_of c.loop-turn.stage) c.loop-turn.world c.loop-turn.invariant p turn

pub after-requires-clause-register : goal.after-requires-clause-register
after-requires-clause-register g c =
    let scripts = map (λ v. v.items) c.args.scripts.now in
    let p : ℕ = c.index-process.result.now in
    let size = c.len-turn-end.ensures in
    let stored = c.outcome.inside.turns.ok.0 in
    let count : c.len-turn-end.result ≡ length c.outcome.inside.turns.items = omega (arith, size, stored) in
    let turn : IsTurnAt c.args.outcome.now c.loop-turn.turn p = turn_at c.args.outcome.now c.outcome.inside.turns.items c.loop-turn.turn p c.len-turn-end.result (ap (λ (o : Interleaving). o.turns) c.outcome.view_is) count c.loop-turn-test.true c.index-process.ensures in
    register_there g.F.FrontEnd.start scripts c.args.registers g.met.F.FrontEnd.lawful c.requires.playable c.args.outcome.now c.loop-turn.turn (stage_of c.loop-turn.stage) c.loop-turn.world c.loop-turn.invariant p turn c.in-Some.op (sym c.next_op.ensures ∙ c.in-Some.is)

pub after-requires-clause-number : goal.after-requires-clause-number
after-requires-clause-number g c =
    let scripts = map (λ v. v.items) c.args.scripts.now in
    let p : ℕ = c.index-process.result.now in
    let size = c.len-turn-end.ensures in
    let stored = c.outcome.inside.turns.ok.0 in
    let count : c.len-turn-end.result ≡ length c.outcome.inside.turns.items = omega (arith, size, stored) in
    let turn : IsTurnAt c.args.outcome.now c.loop-turn.turn p = turn_at c.args.outcome.now c.outcome.inside.turns.items c.loop-turn.turn p c.len-turn-end.result (ap (λ (o : Interleaving). o.turns) c.outcome.view_is) count c.loop-turn-test.true c.index-process.ensures in
    number_next g.F.FrontEnd.start scripts c.args.registers g.met.F.FrontEnd.lawful c.requires.playable c.args.outcome.now c.loop-turn.turn (stage_of c.loop-turn.stage) c.loop-turn.world c.loop-turn.invariant p turn c.in-Some.op (sym c.next_op.ensures ∙ c.in-Some.is)

pub loop-turn-preserved : goal.loop-turn-preserved
loop-turn-preserved g c =
    let scripts = map (λ v. v.items) c.args.scripts.now in
    let p : ℕ = c.index-process.result.now in
    let size = c.len-turn-end.ensures in
    let stored = c.outcome.inside.turns.ok.0 in
    let count : c.len-turn-end.result ≡ length c.outcome.inside.turns.items = omega (arith, size, stored) in
    let turn : IsTurnAt c.args.outcome.now c.loop-turn.turn p = turn_at c.args.outcome.now c.outcome.inside.turns.items c.loop-turn.turn p c.len-turn-end.result (ap (λ (o : Interleaving). o.turns) c.outcome.view_is) count c.loop-turn-test.true c.index-process.ensures in
    goes_further g.F.FrontEnd.start scripts c.args.registers g.met.F.FrontEnd.lawful c.requires.playable c.args.outcome.now c.loop-turn.turn (stage_of c.loop-turn.stage) c.loop-turn.world c.loop-turn.invariant p turn c.in-Some.op (sym c.next_op.ensures ∙ c.in-Some.is) c.take_turn.new.world c.in_ok-take_turn.ensures (stage_of c.in_ok-stage-2.stage) c.in_ok-stage-2.ensures

pub returns : goal.returns
returns g c =
    let scripts = map (λ v. v.items) c.args.scripts.now in
    let e = ap (λ (o : Interleaving). length o.turns) c.outcome.view_is in
    let all = c.len-turn-end.ensures in
    let stored = c.outcome.inside.turns.ok.0 in
    let end = c.loop-turn-test.false in
    is_run g.F.FrontEnd.start scripts c.args.registers g.met.F.FrontEnd.lawful c.requires.playable c.args.outcome.now c.loop-turn.turn (stage_of c.loop-turn.stage) c.loop-turn.world c.loop-turn.invariant (omega (arith, e, all, stored, end))
