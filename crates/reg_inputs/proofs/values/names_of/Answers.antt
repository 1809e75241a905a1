use Rattle.std.proofs.Common.{◌≡◌, List, map, None, true, sym, ap, ◌∙◌, inr}
use Rattle.std.specs.List.{list_all}
use Rattle.toml.specs.Data.{string}
use Rattle.toml.specs.View.{view}
use Rattle.toml.specs.declared.value.Value.{Value}
use Rattle.reg_base.specs.Names.{texts, names_fault}
use Rattle.reg_inputs.specs.declared.keys.Key.TheVariants as key
use Rattle.reg_inputs.specs.declared.faults.WorkloadFault.TheVariants.{Range}
use Rattle.reg_inputs.specs.Judged.{is_text, text_of, is_no_fault, unless}
use Rattle.reg_inputs.proofs.Lists.{no_texts, names_judged, restored}
use Rattle.reg_inputs.proofs.values.names_of.Goals as goal

pub returns-then-not-are_strings : goal.returns-then-not-are_strings
returns-then-not-are_strings g c = inr (no_texts c.args.values.now (sym c.if-not-are_strings.ensures))

pub returns-in-Ok-new : goal.returns-in-Ok-new
returns-in-Ok-new g c =
    let vs : List Value = c.args.values.now in
    let kind : list_all (λ v. is_text (view v)) vs ≡ true = sym c.if-not-are_strings.ensures in
    let same : c.in-Ok-new.names ≡ map (λ v. text_of (view v)) vs = c.in-Ok-new.ensures.0 ∙ c.in-Ok.ensures in
    let good : names_fault c.in-Ok-new.names ≡ None = ap names_fault c.in-Ok-new.ensures.0 ∙ c.in-Ok-new.ensures.1 in
    (restored vs kind ∙ ap (map string) (sym same), good, names_judged vs c.in-Ok-new.names kind same ∙ ap (λ f. unless (is_no_fault f) (Range key.Registers)) good)

pub returns-in-Err : goal.returns-in-Err
returns-in-Err g c =
    let kind : list_all (λ v. is_text (view v)) c.args.values.now ≡ true = sym c.if-not-are_strings.ensures in
    inr (names_judged c.args.values.now (texts c.in-Ok.copies.items) kind c.in-Ok.ensures ∙ ap (λ f. unless (is_no_fault f) (Range key.Registers)) c.in-Err.ensures)
