-- What stands after the columns of a history line.
use Rattle.std.proofs.Common.{ℕ, ◌≡◌, ◌++◌, ◌∷◌, ◌⊎◌, true, false, List, codes, inl, inr, Option, None, Some, IfSome}
use Rattle.std.proofs.Common.{IsSome, sym, ◌∙◌, subst, rules, arith}
use Rattle.reg_text.specs.declared.faults.Why.{Why}
use Rattle.reg_text.specs.declared.faults.Why.TheVariants.{Range, Name}
use Rattle.reg_text.specs.Forms.{HasOpForm, IsOpWhy}
use Rattle.reg_text.proofs.Formed.{first_same}
use Rattle.reg_text.proofs.OpWhys.{Told, op_why}
use Rattle.reg_history.specs.declared.versions.Version.{Version}
use Rattle.reg_history.specs.Versions.{compares}
use Rattle.reg_history.specs.LineForms.{HasCallForm, HasTailForm, IsTailWhy}

pub no_answer : (rest text other : List ℕ) → rest ≡ codes "call    " ++ text → rest ≡ codes "answer  " ++ other → ⊥
no_answer rest text other e f = let clash = sym e ∙ f in search (rules, clash)

-- the form of any version is that of an operation
pub any_form : (version : Version) (text : List ℕ) → HasCallForm version text → HasOpForm text
any_form version text (inl older) = inl older
any_form version text (inr (newer, form)) = inr form

-- a text that begins with `cas` has the form of none of the older operations
pub no_older : (version : Version) (text rest : List ℕ) → compares version ≡ false → text ≡ codes "cas " ++ rest
    → HasCallForm version text → ⊥
no_older version text rest old e (inl (inl (n, (word, here)))) = omega (arith, first_same (sym e ∙ here))
no_older version text rest old e (inl (inr (inl (n, (d, (word, digits, here)))))) =
    omega (arith, first_same (sym e ∙ here))
no_older version text rest old e (inl (inr (inr (n, (d, (word, digits, here)))))) =
    omega (arith, first_same (sym e ∙ here))
no_older version text rest old e (inr (newer, form)) = let bad : false ≡ true = sym old ∙ newer in absurd (cc)

-- another form may stand in a report of the version: it has no `cas`, or the version has
versioned : (version : Version) (text : List ℕ)
    → (compares version ≡ true) ⊎ ((rest : List ℕ) → text ≡ codes "cas " ++ rest → ⊥) → HasOpForm text
    → HasCallForm version text
versioned version text may (inl older) = inl older
versioned version text (inl newer) (inr form) = inr (newer, form)
versioned version text (inr none) (inr (n, x, d, (word, low, digits, here))) =
    absurd (none (n ++ 32 ∷ (x ++ 32 ∷ d)) here)

pub call_told : (version : Version) (names : List (List ℕ)) (text : List ℕ) (r : Option Why)
    → (compares version ≡ true) ⊎ ((rest : List ℕ) → text ≡ codes "cas " ++ rest → ⊥) → Told names text r
    → IfSome r (λ why. HasCallForm version text × IsOpWhy names text why × ((why ≡ Range) ⊎ (why ≡ Name)))
call_told version names text None may t = tt
call_told version names text (Some why) may t = (versioned version text may t.form.0, op_why names text why t, t.form.1)

pub behind_call : (version : Version) (names : List (List ℕ)) (rest text : List ℕ) (r : Option Why)
    → rest ≡ codes "call    " ++ text → ((other : List ℕ) → rest ≡ codes "call    " ++ other → text ≡ other)
    → IfSome r (λ why. HasCallForm version text × IsOpWhy names text why × ((why ≡ Range) ⊎ (why ≡ Name)))
    → IfSome r (λ why. HasTailForm version rest × IsTailWhy names rest why × ((why ≡ Range) ⊎ (why ≡ Name)))
behind_call version names rest text None e only t = tt
behind_call version names rest text (Some why) e only t = (
  inl (text, (e, t.0)),
  record {
    answer = λ other f. absurd (no_answer rest text other e f);
    call = λ other f. let P : List ℕ → Type 0 = λ l. IsOpWhy names l why in subst P (only other f) t.1;
  },
  t.2,
)

pub call_whole : (version : Version) (rest text : List ℕ) (r : Option Why) → rest ≡ codes "call    " ++ text
    → ((other : List ℕ) → rest ≡ codes "call    " ++ other → text ≡ other) → (HasCallForm version text → IsSome r)
    → HasTailForm version rest → IsSome r
call_whole version rest text r e only good (inl h) =
    let P : List ℕ → Type 0 = λ l. HasCallForm version l in good (subst P (sym (only h.0 h.1.0)) h.1.1)
call_whole version rest text r e only good (inr h) = absurd (no_answer rest text h.0 e h.1.0)
