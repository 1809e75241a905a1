use Rattle.std.proofs.Common.{None, length, ap, ◌∙◌, subst}
use Rattle.std.proofs.lemmas.List.{length-replicate}
use Rattle.reg_judge.specs.declared.search.Stepped.{Stepped}
use Rattle.reg_judge.specs.Acts.{act_in}
use Rattle.reg_judge.specs.Searching.{IsStep}
use Rattle.reg_judge.proofs.Beginning.{alive_first, waiting_first}
use Rattle.reg_judge.proofs.search.go_through.Goals as goal

pub loop-place-init : goal.loop-place-init
loop-place-init g c =
    let search = c.in_ok-search.search in
    let shape = c.args.shape in
    let first = c.in_ok-search.ensures in
    record {
      processes = ap length first.idle ∙ length-replicate shape.processes None;
      registers = first.registers;
      waiting = waiting_first shape.processes c.args.entries.now c.args.rows.now search.running.items first.idle;
      alive = alive_first shape.processes shape.registers c.args.entries.now c.args.rows.now search.running.items search.layers.items c.requires.history c.requires.table first.idle first.registers first.first;
    }

pub loop-place-preserved : goal.loop-place-preserved
loop-place-preserved g c =
    let old = c.loop-place.search in
    let new = c.step.new.self in
    let was = c.loop-place.invariant in
    let step = subst (λ (s : Stepped). IsStep (act_in c.args.rows.now) c.loop-place.place c.args.entries.now old.running.items old.layers.items new.running.items new.layers.items s) c.in-On.is c.in_ok-step.ensures.step in
    record {
      processes = c.in_ok-step.ensures.processes c.in-On.is ∙ was.processes;
      registers = c.in_ok-step.ensures.registers c.in-On.is ∙ was.registers;
      waiting = c.in_ok-step.ensures.waiting c.in-On.is;
      alive = λ ps order. step (was.alive ps order);
    }

pub returns-in-Stuck : goal.returns-in-Stuck
returns-in-Stuck g c =
    let old = c.loop-place.search in
    let new = c.step.new.self in
    let stuck = subst (λ (s : Stepped). IsStep (act_in c.args.rows.now) c.loop-place.place c.args.entries.now old.running.items old.layers.items new.running.items new.layers.items s) c.in-Stuck.is c.in_ok-step.ensures.step in
    (c.loop-place-test.true, λ ps order. stuck (c.loop-place.invariant.alive ps order))
