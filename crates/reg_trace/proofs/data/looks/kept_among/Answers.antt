use Rattle.std.proofs.Common.{◌≡◌, List, [], ◌∷◌, ◌++◌, ap, sym, ◌∙◌, unwrap_or}
use Rattle.std.specs.Prelude.{slice_index}
use Rattle.reg_trace.specs.declared.data.looks.Kept.{Kept}
use Rattle.reg_trace.proofs.Behind.{value_is}
use Rattle.reg_trace.proofs.Looking.{kept_more, kept_same}
use Rattle.reg_trace.proofs.data.looks.kept_among.Goals as goal
use Rattle.reg_trace.proofs.data.looks.kept_among.Goals.{then-value-ne0+in_ok-push, else-value-ne0}

pub loop-register-preserved : goal.loop-register-preserved
loop-register-preserved g c =
    let values = c.args.values.now in
    let r = c.loop-register.register in
    let is : c.unwrap_or-value.result ≡ slice_index values r = c.unwrap_or-value.ensures ∙ (ap (λ o. unwrap_or o 0) c.get.ensures ∙ value_is values r) in
    let last : List Kept = record { register = r; value = c.unwrap_or-value.result } ∷ [] in
    elim c.if-value-ne0.branch [
      | then-value-ne0+in_ok-push w ↦
          ap (λ v. v.items) w.kept-is ∙ (w.in_ok-push.ensures.items ∙ (ap (λ l. l ++ last) c.loop-register.invariant ∙ sym (kept_more values r c.unwrap_or-value.result is w.if-value-ne0.true)))
      | else-value-ne0 w ↦
          ap (λ v. v.items) w.kept-is ∙ (c.loop-register.invariant ∙ sym (kept_same values r c.unwrap_or-value.result is w.if-value-ne0.false))
    ]
