use Rattle.std.proofs.Common.{ℕ, ◌≡◌, ◌∙◌, List, ap, sym, refl, Some, true, inl, inr}
use Rattle.std.proofs.lemmas.Option.{none-some}
use Rattle.reg_text.specs.Forms.{is_word, is_numeral}
use Rattle.reg_text.specs.Reading.{IsValuedForm}
use Rattle.reg_text.proofs.Formed.{valued_parts, word_lacks, no_truth}
use Rattle.reg_text.proofs.OpForms.{valued_none}
use Rattle.reg_text.proofs.forms.valued_form.Goals as goal

pub returns-in_err-name : goal.returns-in_err-name
returns-in_err-name g c =
    let t = valued_none c.args.names.now c.args.text.now c.from_residual.result c.from_residual.ensures (λ w d h. c.in_err-name.ensures.whole w d (word_lacks w h.0) h.2) in
    record { form = t.form; whole = λ w d h. absurd (c.in_err-name.ensures.whole w d (word_lacks w h.0) h.2); known = t.known; unknown = t.unknown }

pub returns-then-not-is_word : goal.returns-then-not-is_word
returns-then-not-is_word g c =
    let bad : (w d : List ℕ) → IsValuedForm c.args.text.now w d → ⊥ = λ w d h.
    let parts = valued_parts c.args.text.now c.in_ok-name.name.now c.in_ok-name.digits.now w d c.in_ok-name.ensures.whole h in
    let good : c.is_word.result ≡ true = c.is_word.ensures ∙ ap is_word parts.0 ∙ h.0 in
    no_truth (sym c.if-not-is_word.true ∙ good) in
    record { form = tt; whole = λ w d h. absurd (bad w d h); known = λ w d i h here. absurd (bad w d h); unknown = λ w d h none. absurd (bad w d h) }

pub returns-then-not-is_numeral : goal.returns-then-not-is_numeral
returns-then-not-is_numeral g c =
    let bad : (w d : List ℕ) → IsValuedForm c.args.text.now w d → ⊥ = λ w d h.
    let parts = valued_parts c.args.text.now c.in_ok-name.name.now c.in_ok-name.digits.now w d c.in_ok-name.ensures.whole h in
    let good : c.is_numeral.result ≡ true = c.is_numeral.ensures ∙ ap is_numeral parts.1 ∙ h.1 in
    no_truth (sym c.if-not-is_numeral.true ∙ good) in
    record { form = tt; whole = λ w d h. absurd (bad w d h); known = λ w d i h here. absurd (bad w d h); unknown = λ w d h none. absurd (bad w d h) }

pub returns-in-Some : goal.returns-in-Some
returns-in-Some g c =
    let word = sym c.is_word.ensures ∙ c.if-not-is_word.false in
    let digits = sym c.is_numeral.ensures ∙ c.if-not-is_numeral.false in
    record {
      form = ((c.in_ok-name.name.now, (c.in_ok-name.digits.now, (word, digits, c.in_ok-name.ensures.read.0))), inl refl);
      whole = λ w d h. refl;
      known = λ w d i h here. refl;
      unknown = λ w d h none.
          let parts = valued_parts c.args.text.now c.in_ok-name.name.now c.in_ok-name.digits.now w d c.in_ok-name.ensures.whole h in
          absurd (none c.in-Some.field-0 ((c.in-Some.ensures c.in-Some.field-0).0 refl ∙ ap Some parts.0));
    }

pub returns-in-None : goal.returns-in-None
returns-in-None g c =
    let word = sym c.is_word.ensures ∙ c.if-not-is_word.false in
    let digits = sym c.is_numeral.ensures ∙ c.if-not-is_numeral.false in
    record {
      form = ((c.in_ok-name.name.now, (c.in_ok-name.digits.now, (word, digits, c.in_ok-name.ensures.read.0))), inr refl);
      whole = λ w d h. refl;
      known = λ w d i h here.
          let parts = valued_parts c.args.text.now c.in_ok-name.name.now c.in_ok-name.digits.now w d c.in_ok-name.ensures.whole h in
          absurd (none-some i ((c.in-None.ensures i).1 (here ∙ ap Some (sym parts.0))));
      unknown = λ w d h none. refl;
    }
