-- The number of the operation that made a cast, by its time.
use Rattle.std.proofs.Common.{◌≡◌, ℕ, zero, suc, ◌<◌, cond, List, [], ◌∷◌, length, get_or, Some, refl, sym, ap, ◌∙◌}
use Rattle.std.proofs.Common.{arith}
use Rattle.std.specs.Prelude.{◌==◌}
use Rattle.std.proofs.lemmas.Bool.{cond_both, eqb-true, eq-eqb}
use Rattle.std.proofs.lemmas.Option.{same_Some}
use Rattle.reg_checkers.specs.History.{IsAt}
use Rattle.reg_world.specs.declared.callers.Note.{Note}
use Rattle.reg_world.specs.Pages.{number_at, TimesDiffer}

pub number_found : (casts : List Note) (k : ℕ) (note : Note)
    → ((i : ℕ) (a : Note) → IsAt casts i a → a.time ≡ note.time → i ≡ k) → IsAt casts k note
    → number_at casts note.time ≡ note.number
number_found [] k note one at = absurd cc
number_found (x ∷ xs) zero note one at =
    let same = same_Some x note at in
    ap (λ b. cond b x.number (number_at xs note.time)) (eq-eqb x.time note.time (ap (λ (z : Note). z.time) same)) ∙ ap (λ (z : Note). z.number) same
number_found (x ∷ xs) (suc k) note one at =
    cond_both (x.time == note.time) x.number (number_at xs note.time) (λ z. z ≡ note.number)
    (λ e. let q = one 0 x refl (eqb-true x.time note.time e) in absurd (omega (arith, q)))
    (λ e. number_found xs k note (λ i a h t. let q = one (suc i) a h t in omega (arith, q)) at)

pub number_next : (casts : List Note) (k : ℕ) (note : Note) (time : ℕ) → TimesDiffer casts → IsAt casts k note
    → note.time ≡ time → note.number ≡ number_at casts time
number_next casts k note time differ at e =
    sym (number_found casts k note (λ i a h t. differ i k a note h at t) at) ∙ ap (number_at casts) e

pub at_index : {X : Type 0} (xs : List X) (k : ℕ) (x : X) → k < length xs → x ≡ get_or xs k x → IsAt xs k x
at_index [] k x l e = absurd (omega arith)
at_index (y ∷ xs) zero x l e = ap Some (sym e)
at_index (y ∷ xs) (suc k) x l e = at_index xs k x (omega arith) e
