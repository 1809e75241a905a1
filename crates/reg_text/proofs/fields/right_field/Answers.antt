use Rattle.std.proofs.Common.{ℕ, ◌≡◌, ◌-◌, ◌++◌, length, replicate, length-append, refl, ap, sym, subst, ◌∙◌, ◌≤◌}
use Rattle.std.proofs.Common.{arith}
use Rattle.std.proofs.lemmas.List.{length-replicate}
use Rattle.std.specs.Fmt.{decimal}
use Rattle.reg_text.specs.Columns.{to_right}
use Rattle.reg_text.proofs.Widths.{right_fits}
use Rattle.reg_text.proofs.Zipped.{zip_read, zip_whole}
use Rattle.reg_text.proofs.fields.right_field.Goals as goal

pub returns-clause-read : goal.returns-clause-read
returns-clause-read c =
    let split = c.in_ok-digits.ensures.read in
    rw c.zip.ensures (zip_read _ c.right_column.result c.skip.result c.right_column.ensures.read c.skip.ensures.read
    (λ n rest number after. (split.0 ∙ (ap (λ l. l ++ c.in_ok-digits.after.now) (number.0 ∙ ap (λ k. to_right k (decimal n)) split.1) ∙ ap (λ l. to_right c.args.places (decimal n) ++ l) after), number.1)))

pub returns-clause-fits : goal.returns-clause-fits
returns-clause-fits c =
    let split = c.in_ok-digits.ensures.read in
    rw c.zip.ensures (zip_read _ c.right_column.result c.skip.result c.right_column.ensures.read c.skip.ensures.read
    (λ n rest number after. let Fits : ℕ → Type 0 = λ k. length (decimal n) ≤ k in subst Fits split.1 (right_fits c.in_ok-digits.digits.now (decimal n) number.0)))

pub returns-clause-whole : goal.returns-clause-whole
returns-clause-whole c = λ n rest small short e.
    let spaces = length-replicate {A = ℕ} (c.args.places - length (decimal n)) 32 in
    let wide : length (to_right c.args.places (decimal n)) ≡ c.args.places = omega (arith, length-append (replicate (c.args.places - length (decimal n)) 32) (decimal n), spaces) in
    let parts = c.in_ok-digits.ensures.whole (to_right c.args.places (decimal n)) (c.args.mark.now ++ rest) e wide in
    let places = sym (ap length parts.0 ∙ wide) in
    let some = c.right_column.ensures.whole n small (parts.0 ∙ ap (λ m. to_right m (decimal n)) places) in
    rw c.zip.ensures (zip_whole _ c.right_column.result c.skip.result n some (c.skip.ensures.whole rest parts.1) (λ after same. (refl, same)))
