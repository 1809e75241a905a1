-- The lines of points by their form.
use Rattle.std.proofs.Common.{ℕ, ◌≡◌, true, List, ◌∷◌, ◌++◌, codes, ap, ◌∙◌}
use Rattle.reg_text.specs.Forms.{is_numeral}
use Rattle.reg_history.specs.LineForms.{HasIdForm, HasPointForm}

pub id_formed : (line process number : List ℕ) → is_numeral process ≡ true
    → line ≡ codes "p" ++ (process ++ 32 ∷ (codes "#" ++ number)) → is_numeral number ≡ true → HasIdForm line
id_formed line process number p e n = (process, (number, (p, n, e)))

pub point_formed : (line process rest number last at : List ℕ) → is_numeral process ≡ true
    → line ≡ codes "p" ++ (process ++ 32 ∷ (codes "#" ++ rest)) → rest ≡ number ++ 32 ∷ last → last ≡ codes "at " ++ at
    → is_numeral number ≡ true → is_numeral at ≡ true → HasPointForm line
point_formed line process rest number last at p e f h n a =
    (process, (number, (at, (p, n, a, e ∙ ap (λ l. codes "p" ++ (process ++ 32 ∷ (codes "#" ++ l))) (f ∙ ap (λ l. number ++ 32 ∷ l) h)))))
