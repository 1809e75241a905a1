-- What was read is within the limits of a workload.
use Rattle.std.proofs.Common.{◌≡◌, ℕ, ◌<◌, ◌≤◌, None, List, length, map, sym, ap, ◌∙◌, arith}
use Rattle.std.proofs.lemmas.List.{length-map}
use Rattle.toml.specs.View.{view}
use Rattle.toml.specs.declared.value.Value.{Value}
use Rattle.reg_base.specs.declared.limits.TheConstants.{MOST_PROCESSES, MOST_EVENTS, MOST_ODDS, LAST_SEED}
use Rattle.reg_base.specs.Names.{names_fault}
use Rattle.reg_text.specs.Lines.{AllFit}
use Rattle.reg_inputs.specs.Loads.{Load, IsLoad, IsScript, script_data}

-- the numbers of a workload are in their ranges
pub record HasNumbers (w : Load) : Type 0 where
  pub seed : w.seed ≤ LAST_SEED
  pub loss : w.loss ≤ MOST_ODDS
  pub repeat : w.repeat ≤ MOST_ODDS
  pub some_event : 0 < w.budget
  pub budget : w.budget ≤ MOST_EVENTS

pub loaded : (w : Load) (vs : List Value) (p r : ℕ) → names_fault w.names ≡ None
    → w.shape ≡ record { processes = p; registers = r } → p ≡ length w.scripts → r ≡ length w.names
    → map view vs ≡ map (script_data w.names) w.scripts → 0 < length vs → length vs ≤ MOST_PROCESSES → AllFit (λ _ ops. IsScript w.names ops) w.scripts → HasNumbers w → IsLoad w
loaded w vs p r names shape processes registers same some few scripts numbers =
    let count : length vs ≡ length w.scripts = sym (length-map vs view) ∙ ap length same ∙ length-map w.scripts (script_data w.names) in
    record {
      names = names;
      registers = ap (λ s. s.registers) shape ∙ registers;
      processes = ap (λ s. s.processes) shape ∙ processes;
      some_process = omega arith;
      few_processes = omega arith;
      scripts = scripts;
      seed = numbers.seed;
      loss = numbers.loss;
      repeat = numbers.repeat;
      some_event = numbers.some_event;
      budget = numbers.budget;
    }
