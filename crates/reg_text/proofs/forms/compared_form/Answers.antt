use Rattle.std.proofs.Common.{◌∙◌, ap, sym, refl, Some, inl, inr}
use Rattle.reg_text.proofs.OpForms.{compared_none}
use Rattle.reg_text.proofs.forms.compared_form.Goals as goal

pub returns-in_err-name : goal.returns-in_err-name
returns-in_err-name g c =
    let never = c.in_err-name.ensures.whole in
    let t = compared_none c.args.names.now c.args.text.now c.from_residual.result c.from_residual.ensures never in
    record { form = t.form; whole = λ w x d h. absurd (never w x d h); known = t.known; unknown = t.unknown }

pub returns-in-Some : goal.returns-in-Some
returns-in-Some g c =
    record {
      form = ((c.in_ok-name.name.now, c.in_ok-name.field-0-1.now, c.in_ok-name.field-0-2.now, c.in_ok-name.ensures.read), inl refl);
      whole = λ w x d h. refl;
      known = λ w x d i h here. refl;
      unknown = λ w x d h none. absurd (none c.in-Some.field-0 ((c.in-Some.ensures c.in-Some.field-0).0 refl ∙ ap Some (c.in_ok-name.ensures.whole w x d h).0));
    }

pub returns-in-None : goal.returns-in-None
returns-in-None g c =
    record {
      form = ((c.in_ok-name.name.now, c.in_ok-name.field-0-1.now, c.in_ok-name.field-0-2.now, c.in_ok-name.ensures.read), inr refl);
      whole = λ w x d h. refl;
      known = λ w x d i h here. absurd (let bad = (c.in-None.ensures i).1 (here ∙ ap Some (sym (c.in_ok-name.ensures.whole w x d h).0)) in cc);
      unknown = λ w x d h none. refl;
    }
