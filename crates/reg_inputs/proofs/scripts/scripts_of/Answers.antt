use Rattle.std.proofs.Common.{◌≡◌, ◌<◌, ◌≤◌, [], ◌∷◌, ◌++◌, length, map, refl, sym, ap, ◌∙◌, inl, inr, arith, rules}
use Rattle.std.proofs.lemmas.List.{map-append}
use Rattle.std.proofs.lemmas.Result.{err_from_is_err_and}
use Rattle.toml.specs.Data.{array}
use Rattle.toml.specs.View.{view, items_of}
use Rattle.reg_inputs.specs.Loads.{IsScript, op_data, script_data}
use Rattle.reg_inputs.specs.Judged.{is_script, is_short}
use Rattle.reg_inputs.proofs.Spelled.{spelled_none, spelled_more, spelled_all, spelled_only, script_at, first_refused}
use Rattle.reg_inputs.proofs.Whole.{items_same}
use Rattle.reg_inputs.proofs.scripts.scripts_of.Goals as goal

pub lines_of-requires : goal.lines_of-requires
lines_of-requires g c = record {
  kind = script_at is_script c.args.scripts.now c.loop-value.value-index c.value-item.result (omega arith) c.value-item.is c.requires.kind;
  short = script_at is_short c.args.scripts.now c.loop-value.value-index c.value-item.result (omega arith) c.value-item.is c.requires.short;
}

pub loop-value-init : goal.loop-value-init
loop-value-init g c =
    let none : c.new-all.result.items ≡ [] = c.new-all.ensures.items in
    (refl, rw none (spelled_none (script_data c.args.names.now) (IsScript c.args.names.now) c.args.scripts.now))

pub returns-in_err-script-clause-refused : goal.returns-in_err-script-clause-refused
returns-in_err-script-clause-refused g c =
    let within : c.loop-value.value-index < length c.args.scripts.now = omega arith in
    let p = err_from_is_err_and c.from_residual.result c.from_residual.ensures.1 in
    rw (p.1, p.2) (elim c.in_err-script.ensures.refused [
      | inl memory ↦ inl memory
      | inr w ↦ inr (c.loop-value.process, w.0, w.1, rw c.loop-value.invariant.0 (first_refused c.args.names.now c.args.scripts.now c.loop-value.value-index w.0 _ c.value-item.result c.lines_of.result.now within c.value-item.is c.lines_of.ensures.value w.2 c.loop-value.invariant.1))
    ])

pub loop-value-preserved : goal.loop-value-preserved
loop-value-preserved g c =
    let grown : c.push.new.self.items ≡ c.loop-value.all.items ++ c.in_ok-script.script ∷ [] = search rules in
    let within : c.loop-value.value-index < length c.args.scripts.now = omega arith in (
      omega arith,
      spelled_more (script_data c.args.names.now) (IsScript c.args.names.now) c.args.scripts.now c.loop-value.value-index _ _ c.value-item.result c.in_ok-script.script.items
          within c.value-item.is (c.lines_of.ensures.value ∙ ap (λ ds. array (items_of ds)) c.in_ok-script.ensures.read.0) c.in_ok-script.ensures.read.1 (λ y fits e. c.in_ok-script.ensures.only y fits (items_same (map view c.lines_of.result.now) (map (op_data c.args.names.now) y) (sym c.lines_of.ensures.value ∙ e))) (rw (grown, map-append)) c.loop-value.invariant.1,
    )

pub returns-clause-read : goal.returns-clause-read
returns-clause-read g c =
    let all : length c.args.scripts.now ≤ c.loop-value.value-index = omega arith in
    (spelled_all (script_data c.args.names.now) (IsScript c.args.names.now) c.args.scripts.now c.loop-value.value-index _ all c.loop-value.invariant.1, c.loop-value.invariant.1.known)

pub returns-clause-only : goal.returns-clause-only
returns-clause-only g c = λ scripts fit e.
    let all : length c.args.scripts.now ≤ c.loop-value.value-index = omega arith in
    spelled_only (script_data c.args.names.now) (IsScript c.args.names.now) c.args.scripts.now c.loop-value.value-index _ scripts all c.loop-value.invariant.1 fit e
