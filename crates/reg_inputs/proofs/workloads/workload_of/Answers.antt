use Rattle.std.proofs.Common.{rules, ◌<◌, ◌≤◌, inl, inr, ◌≡◌, ℕ, List, Some, map, sym, ap, subst, ◌∙◌, arith}
use Rattle.std.proofs.lemmas.List.{length-map}
use Rattle.std.proofs.lemmas.Result.{err_from_is_err_and}
use Rattle.toml.specs.Data.{array}
use Rattle.toml.specs.View.{items_of, table_view, view}
use Rattle.reg_base.specs.declared.limits.TheConstants.{MOST_PROCESSES}
use Rattle.reg_text.specs.Lines.{AllFit}
use Rattle.reg_inputs.specs.Loads.{IsScript, script_data}
use Rattle.reg_inputs.proofs.Whole.{loads_same, names_same, scripts_read}
use Rattle.reg_text.proofs.Shaped.{shape_is}
use Rattle.reg_inputs.proofs.Loaded.{loaded}
use Rattle.reg_inputs.proofs.Refused.{unknown_key, wrong_front, wrong_names, wrong_scripts, none_wrong, counted}
use Rattle.reg_inputs.proofs.Refused.{shape_fits}
use Rattle.reg_inputs.proofs.workloads.workload_of.Goals as goal

pub invariant_of-result : goal.invariant_of-result
invariant_of-result g c =
    let shape = shape_is c.new.result c.len.result c.count.result c.in-Ok.shape c.in-Ok.is c.new.ensures in
    loaded _ c.in_ok-lines.lines.now c.len.result c.count.result c.count.ensures.well shape (rw length-map (omega (arith, c.len.ensures, c.in_ok-scripts.scripts.ok.0))) c.count.ensures.value c.in_ok-scripts.ensures.read.0 c.in_ok-lines.ensures.some c.in_ok-lines.ensures.few c.in_ok-scripts.ensures.read.1
    (record { seed = c.in_ok-numbers.ensures.seed.1; loss = c.in_ok-numbers.ensures.loss.1; repeat = c.in_ok-numbers.ensures.repeat.1; some_event = c.in_ok-numbers.ensures.budget.1; budget = c.in_ok-numbers.ensures.budget.2 })

pub returns-clause-read : goal.returns-clause-read
returns-clause-read g c = (
  record {
    known = sym c.if-not-has_known_keys.ensures;
    front = c.in_ok-front.ensures.fault.0;
    registers = c.in_ok-names.ensures.0;
    scripts = c.in_ok-lines.ensures.fault.0 ∙ ap (λ ds. Some (array (items_of ds))) c.in_ok-scripts.ensures.read.0;
    seed = c.in_ok-numbers.ensures.seed.0;
    loss = c.in_ok-numbers.ensures.loss.0;
    repeat = c.in_ok-numbers.ensures.repeat.0;
    budget = c.in_ok-numbers.ensures.budget.0;
  },
  invariant_of-result g c,
)

pub returns-clause-only : goal.returns-clause-only
returns-clause-only g c = λ w s l.
    let ms = table_view c.args.table.now in
    let read = returns-clause-read g c in
    let front : c.in_ok-front.front ≡ w.front = (let ok = c.in_ok-front.ensures.whole w.front s.front in cc) in
    let names : c.in_ok-names.names ≡ w.names = names_same ms _ w read.0 s in
    let fit = subst (λ (n : List (List ℕ)). AllFit (λ _ ops. IsScript n ops) w.scripts) (sym names) l.scripts in
    let lines = scripts_read ms w (map view c.in_ok-lines.lines.now) c.in_ok-lines.ensures.fault.0 s in
    let mine = subst (λ (n : List (List ℕ)). map view c.in_ok-lines.lines.now ≡ map (script_data n) w.scripts) (sym names) lines in
    loads_same ms _ w read.0 read.1 s l front names (c.in_ok-scripts.ensures.only w.scripts fit mine)

pub overflow_cast-len : goal.overflow_cast-len
overflow_cast-len g c =
    let same = counted c.in_ok-lines.lines.now c.in_ok-names.names (map (λ s. s.items) c.in_ok-scripts.scripts.items) c.in_ok-scripts.ensures.read.0 in
    let items = length-map c.in_ok-scripts.scripts.items (λ s. s.items) in
    let count = c.in_ok-scripts.scripts.ok.0 in
    let len = c.len.ensures in
    let few = c.in_ok-lines.ensures.few in
    omega (arith, same, items, count, len, few)

pub unreachable-requires : goal.unreachable-requires
unreachable-requires g c =
    let same = counted c.in_ok-lines.lines.now c.in_ok-names.names (map (λ s. s.items) c.in_ok-scripts.scripts.items) c.in_ok-scripts.ensures.read.0 in
    let items = length-map c.in_ok-scripts.scripts.items (λ s. s.items) in
    let count = c.in_ok-scripts.scripts.ok.0 in
    let len = c.len.ensures in
    let some : 0 < c.len.result = let l = c.in_ok-lines.ensures.some in omega (arith, same, items, count, len, l) in
    let few : c.len.result ≤ MOST_PROCESSES = let l = c.in_ok-lines.ensures.few in omega (arith, same, items, count, len, l) in
    c.in_default.not-Ok (record { processes = c.len.result; registers = c.count.result }) (c.new.ensures ∙ shape_fits c.len.result c.count.result c.in_ok-names.names some few c.count.ensures.well c.count.ensures.value)

pub returns-then-not-has_known_keys-clause-refused : goal.returns-then-not-has_known_keys-clause-refused
returns-then-not-has_known_keys-clause-refused g c =
    inr (inl (unknown_key (table_view c.args.table.now) (sym c.if-not-has_known_keys.ensures)))

pub returns-in_err-front-clause-refused : goal.returns-in_err-front-clause-refused
returns-in_err-front-clause-refused g c =
    let p = err_from_is_err_and c.from_residual.result c.from_residual.ensures.1 in
    rw (p.1, p.2) (inr (inl (wrong_front (table_view c.args.table.now) c.in_err-front.field-0.0 (sym c.if-not-has_known_keys.ensures) c.in_err-front.ensures.fault)))

pub returns-in_err-names-clause-refused : goal.returns-in_err-names-clause-refused
returns-in_err-names-clause-refused g c =
    let p = err_from_is_err_and c.from_residual-in_err-names.result c.from_residual-in_err-names.ensures.1 in
    rw (p.1, p.2) (elim c.in_err-names.ensures [
      | inl memory ↦ inl memory
      | inr fault ↦ inr (inl (wrong_names (table_view c.args.table.now) c.in_err-names.field-0.0 (sym c.if-not-has_known_keys.ensures) c.in_ok-front.ensures.fault.1 fault))
    ])

pub returns-in_err-lines-clause-refused : goal.returns-in_err-lines-clause-refused
returns-in_err-lines-clause-refused g c =
    let p = err_from_is_err_and c.from_residual-in_err-lines.result c.from_residual-in_err-lines.ensures.1 in
    rw (p.1, p.2) (inr (inl (wrong_scripts (table_view c.args.table.now) c.in_err-lines.field-0.0 (sym c.if-not-has_known_keys.ensures) c.in_ok-front.ensures.fault.1 c.in_ok-names.ensures.2 c.in_err-lines.ensures.fault)))

pub returns-in_err-numbers-clause-refused : goal.returns-in_err-numbers-clause-refused
returns-in_err-numbers-clause-refused g c = search rules

pub returns-in_err-scripts-clause-refused : goal.returns-in_err-scripts-clause-refused
returns-in_err-scripts-clause-refused g c =
    let p = err_from_is_err_and c.from_residual-in_err-scripts.result c.from_residual-in_err-scripts.ensures.1 in
    rw (p.1, p.2) (elim c.in_err-scripts.ensures.refused [
      | inl memory ↦ inl memory
      | inr w ↦ inr (inr (record {
        no_fault = none_wrong (table_view c.args.table.now) (sym c.if-not-has_known_keys.ensures) c.in_ok-front.ensures.fault.1 c.in_ok-names.ensures.2 c.in_ok-lines.ensures.fault.1 c.in_ok-numbers.ensures.fault;
        names = c.in_ok-names.names;
        registers = c.in_ok-names.ensures.0;
        ds = map view c.in_ok-lines.lines.now;
        scripts = c.in_ok-lines.ensures.fault.0;
        process = w.0;
        place = w.1;
        refused = w.3;
        told = w.2;
      }))
    ])
