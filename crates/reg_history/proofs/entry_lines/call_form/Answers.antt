use Rattle.std.proofs.Common.{sym, ◌∙◌, inl, inr}
use Rattle.reg_history.proofs.Tails.{any_form, no_older, call_told}
use Rattle.reg_history.proofs.entry_lines.call_form.Goals as goal

pub returns-then-compares : goal.returns-then-compares
returns-then-compares g c =
    let t = c.op_form.ensures in
    record {
      read = call_told c.args.version c.args.names.now c.args.text.now c.op_form.result (inl (sym c.compares.ensures ∙ c.if-compares.true))
          (record { form = t.form; read = t.read; known = t.known; unknown = t.unknown; known_swap = t.known_swap; unknown_swap = t.unknown_swap; known_cas = t.known_cas; unknown_cas = t.unknown_cas });
      whole = λ h. t.whole (any_form c.args.version c.args.text.now h);
    }

pub returns-in-Some : goal.returns-in-Some
returns-in-Some g c = record {
  read = tt;
  whole = λ h. absurd (no_older c.args.version c.args.text.now c.in-Some.field-0.now (sym c.compares.ensures ∙ c.if-compares.false) c.in-Some.ensures.read h);
}

pub returns-in-None : goal.returns-in-None
returns-in-None g c =
    let t = c.op_form-in-None.ensures in
    record {
      read = call_told c.args.version c.args.names.now c.args.text.now c.op_form-in-None.result (inr c.in-None.ensures.whole)
          (record { form = t.form; read = t.read; known = t.known; unknown = t.unknown; known_swap = t.known_swap; unknown_swap = t.unknown_swap; known_cas = t.known_cas; unknown_cas = t.unknown_cas });
      whole = λ h. t.whole (any_form c.args.version c.args.text.now h);
    }
