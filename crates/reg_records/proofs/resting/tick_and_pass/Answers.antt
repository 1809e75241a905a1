use Rattle.std.proofs.Common.{◌≡◌, ◌<◌, ◌+◌, ℕ, sym, subst, arith}
use Rattle.std.proofs.lemmas.Result.{err_from_is_err_and}
use Rattle.reg_world.specs.Worlds.{Made}
use Rattle.reg_records.specs.Rest.{put_for}
use Rattle.reg_records.specs.RestParts.{nodes_in, Ticked}
use Rattle.reg_records.proofs.GoingOn.{few_going}
use Rattle.reg_records.proofs.Ticking.{ticked_first, ticked_more, ticked_skip, ticked_halts, some_pending, tick_halts}
use Rattle.reg_records.proofs.resting.tick_and_pass.Goals.{then-to-process+in_ok-pass_on, else-to-process}
use Rattle.reg_records.proofs.resting.tick_and_pass.Goals as goal

-- a process of the world as it is now
in_old : (old new count to : ℕ) → new ≡ old → count ≡ new → to < count → to < old
in_old old new count to a b l = omega (arith, a, b, l)

pub returns-in_err-make-clause-halts : goal.returns-in_err-make-clause-halts
returns-in_err-make-clause-halts g c =
    let start = g.F.FrontEnd.start in
    let old = c.args.world.now in
    let p = err_from_is_err_and c.from_residual.result c.from_residual.ensures.1 in
    rw (p.1, p.2) (tick_halts start old c.args.process c.args.first c.make.new.world c.in_err-make.field-0.0 c.requires.on (few_going start old c.requires.on) c.requires.pending c.in_err-make.ensures)

pub loop-to-init : goal.loop-to-init
loop-to-init g c = ticked_first g.F.FrontEnd.start c.args.world.now c.args.process c.args.first c.make.new.world c.requires.on c.requires.pending c.in_ok-make.ensures

pub returns-in_err-pass_on-clause-halts : goal.returns-in_err-pass_on-clause-halts
returns-in_err-pass_on-clause-halts g c =
    let start = g.F.FrontEnd.start in
    let old = c.args.world.now in
    let T = c.loop-to.invariant in
    let n = c.processes-to-end.ensures in
    let m = T.moves.processes in
    let l = c.loop-to-test.true in
    let A = T.again c.loop-to.to (omega arith) (in_old old.processes c.make.new.world.processes c.processes-to-end.result c.loop-to.to (ticked_first start old c.args.process c.args.first c.make.new.world c.requires.on c.requires.pending c.in_ok-make.ensures).moves.processes n l) c.if-to-process.true in
    let p = err_from_is_err_and c.from_residual-in_err-pass_on.result c.from_residual-in_err-pass_on.ensures.1 in
    rw (p.1, p.2) (ticked_halts start old c.args.process c.args.first c.loop-to.to c.loop-to.world T c.loop-to.auto.to c.pass_on.new.world c.in_err-pass_on.field-0.0 c.requires.pending.sender (some_pending start old c.args.process c.args.first c.requires.pending)
    (c.in_err-pass_on.ensures (put_for (nodes_in start old)) A))

pub loop-to-preserved : goal.loop-to-preserved
loop-to-preserved g c =
    let start = g.F.FrontEnd.start in
    let old = c.args.world.now in
    let T = c.loop-to.invariant in
    let n = c.processes-to-end.ensures in
    let l = c.loop-to-test.true in
    let within : c.loop-to.to < old.processes = in_old old.processes c.make.new.world.processes c.processes-to-end.result c.loop-to.to (ticked_first start old c.args.process c.args.first c.make.new.world c.requires.on c.requires.pending c.in_ok-make.ensures).moves.processes n l in
    elim c.if-to-process.branch [
      | then-to-process+in_ok-pass_on w ↦ subst (λ (z : Made). Ticked start old c.args.process c.args.first (c.loop-to.to + 1) z) (sym w.world-is)
          (ticked_more start old c.args.process c.args.first c.loop-to.to c.loop-to.world T c.loop-to.auto.to w.pass_on.new.world within (λ e. w.if-to-process.true (sym e))
          (w.in_ok-pass_on.ensures (put_for (nodes_in start old)) (T.again c.loop-to.to (omega arith) within w.if-to-process.true)))
      | else-to-process w ↦ subst (λ (z : Made). Ticked start old c.args.process c.args.first (c.loop-to.to + 1) z) (sym w.world-is)
          (ticked_skip start old c.args.process c.args.first c.loop-to.to c.loop-to.world T c.loop-to.auto.to w.if-to-process.false c.requires.pending.apart)
    ]
