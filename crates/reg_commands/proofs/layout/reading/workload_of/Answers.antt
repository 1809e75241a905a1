use Rattle.std.proofs.Common.{◌≡◌, length, map, ap, ◌∙◌, arith}
use Rattle.std.proofs.lemmas.List.{length-map}
use Rattle.reg_text.proofs.Shaped.{shape_is}
use Rattle.reg_commands.proofs.layout.reading.workload_of.Goals as goal

pub invariant_of-result : goal.invariant_of-result
invariant_of-result g c =
    let shape = shape_is c.new.result c.len-processes.result c.count.result c.in-Ok.shape c.in-Ok.is c.new.ensures in
    let many : c.len-processes.result ≡ length (map (λ s. s.items) c.in_ok-scripts.scripts.items) = rw length-map (omega (arith, c.len-processes.ensures, c.in_ok-scripts.scripts.ok.0)) in
    let few = c.in_ok-scripts.ensures.few in
    record {
      names = c.count.ensures.well;
      registers = ap (λ s. s.registers) shape ∙ c.count.ensures.value;
      processes = ap (λ s. s.processes) shape ∙ many;
      some_process = let some = c.if-processes-eq0.false in omega (arith, many, some);
      few_processes = rw length-map few;
      scripts = c.in_ok-scripts.ensures.known;
      seed = c.in_ok-seed.ensures.1;
      loss = let l = c.in_ok-loss.ensures.1 in omega (arith, l);
      repeat = let l = c.in_ok-repeat.ensures.1 in omega (arith, l);
      some_event = c.in_ok-budget.ensures.0;
      budget = let l = c.in_ok-budget.ensures.1 in let e = c.from.ensures in omega (arith, l, e);
    }

pub returns : goal.returns
returns g c = invariant_of-result g c
