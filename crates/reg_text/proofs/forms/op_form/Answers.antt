use Rattle.std.proofs.Common.{refl, sym, ◌∙◌}
use Rattle.reg_text.proofs.Formed.{no_truth}
use Rattle.reg_text.proofs.OpForms.{read_bad, read_good, write_told, write_form, swap_told, swap_form, cas_told}
use Rattle.reg_text.proofs.OpForms.{cas_form, IsNoWord, none_told, no_form}
use Rattle.reg_text.proofs.forms.op_form.Goals as goal

pub returns-then-not-is_word : goal.returns-then-not-is_word
returns-then-not-is_word g c =
    let t = read_bad c.args.names.now c.args.text.now c.in-Some.name.now c.in-Some.ensures.read (λ good. no_truth (sym c.if-not-is_word.true ∙ (c.is_word.ensures ∙ good))) in
    record {
      form = t.0.form;
      whole = λ h. absurd (t.1 h);
      read = t.0.read;
      known = t.0.known;
      unknown = t.0.unknown;
      known_swap = t.0.known_swap;
      unknown_swap = t.0.unknown_swap;
      known_cas = t.0.known_cas;
      unknown_cas = t.0.unknown_cas;
    }

pub returns-in-Some : goal.returns-in-Some
returns-in-Some g c =
    let t = read_good c.args.names.now c.args.text.now c.in-Some.name.now c.in-Some.ensures.read (sym c.is_word.ensures ∙ c.if-not-is_word.false) in
    record {
      form = t.form;
      whole = λ h. refl;
      read = t.read;
      known = t.known;
      unknown = t.unknown;
      known_swap = t.known_swap;
      unknown_swap = t.unknown_swap;
      known_cas = t.known_cas;
      unknown_cas = t.unknown_cas;
    }

pub returns-in-Some-skip : goal.returns-in-Some-skip
returns-in-Some-skip g c =
    let v = c.valued_form.ensures in
    let e = c.in-Some-skip.ensures.read in
    let t = write_told c.args.names.now c.args.text.now c.in-Some-skip.rest.now c.valued_form.result e (record { form = v.form; known = v.known; unknown = v.unknown }) in
    record {
      form = t.form;
      whole = λ h. let form = write_form c.args.text.now c.in-Some-skip.rest.now e h in v.whole form.0 form.1.0 form.1.1;
      read = t.read;
      known = t.known;
      unknown = t.unknown;
      known_swap = t.known_swap;
      unknown_swap = t.unknown_swap;
      known_cas = t.known_cas;
      unknown_cas = t.unknown_cas;
    }

pub returns-in-Some-skip-2 : goal.returns-in-Some-skip-2
returns-in-Some-skip-2 g c =
    let v = c.valued_form-in-Some-skip-2.ensures in
    let e = c.in-Some-skip-2.ensures.read in
    let t = swap_told c.args.names.now c.args.text.now c.in-Some-skip-2.rest.now c.valued_form-in-Some-skip-2.result e (record { form = v.form; known = v.known; unknown = v.unknown }) in
    record {
      form = t.form;
      whole = λ h. let form = swap_form c.args.text.now c.in-Some-skip-2.rest.now e h in v.whole form.0 form.1.0 form.1.1;
      read = t.read;
      known = t.known;
      unknown = t.unknown;
      known_swap = t.known_swap;
      unknown_swap = t.unknown_swap;
      known_cas = t.known_cas;
      unknown_cas = t.unknown_cas;
    }

pub returns-in_err-skip : goal.returns-in_err-skip
returns-in_err-skip g c =
    let none : IsNoWord c.args.text.now = record { read = c.in_default.ensures.whole; write = c.in_default-skip.ensures.whole; swap = c.in_default-skip-2.ensures.whole; cas = c.in_err-skip.ensures.whole } in
    let t = none_told c.args.names.now c.args.text.now c.from_residual.result c.from_residual.ensures none in
    record {
      form = t.form;
      whole = λ h. absurd (no_form c.args.text.now none h);
      read = t.read;
      known = t.known;
      unknown = t.unknown;
      known_swap = t.known_swap;
      unknown_swap = t.unknown_swap;
      known_cas = t.known_cas;
      unknown_cas = t.unknown_cas;
    }

pub returns : goal.returns
returns g c =
    let v = c.compared_form.ensures in
    let e = c.in_ok-skip.ensures.read in
    let t = cas_told c.args.names.now c.args.text.now c.in_ok-skip.field-0.now c.compared_form.result e (record { form = v.form; known = v.known; unknown = v.unknown }) in
    record {
      form = t.form;
      whole = λ h. let form = cas_form c.args.text.now c.in_ok-skip.field-0.now e h in v.whole form.0 form.1 form.2 form.3;
      read = t.read;
      known = t.known;
      unknown = t.unknown;
      known_swap = t.known_swap;
      unknown_swap = t.unknown_swap;
      known_cas = t.known_cas;
      unknown_cas = t.unknown_cas;
    }
