-- What is told of the form of an operation, by the word that the text begins with.
use Rattle.std.proofs.Common.{ℕ, ◌≡◌, ◌⊎◌, true, List, ◌∷◌, ◌++◌, codes, drop, refl, ap, sym, subst, ◌∙◌, inl, inr}
use Rattle.std.proofs.Common.{arith, Option, Some, None, IfSome, slice_get}
use Rattle.std.proofs.lemmas.Option.{IfSome_then}
use Rattle.reg_text.specs.declared.faults.Why.{Why}
use Rattle.reg_text.specs.declared.faults.Why.TheVariants.{Range, Name}
use Rattle.reg_text.specs.Forms.{HasOpForm, IsWriteForm, IsSwapForm, IsCasForm, is_word}
use Rattle.reg_text.specs.Reading.{IsValuedForm, IsComparedForm}
use Rattle.reg_text.proofs.Formed.{first_same}
use Rattle.reg_text.proofs.OpWhys.{Told}

only_read : (text name : List ℕ) → text ≡ codes "read " ++ name → HasOpForm text → is_word name ≡ true
only_read text name e (inl (inl (n, (word, here)))) =
    let same : name ≡ n = ap (drop 5) (sym e ∙ here) in
    ap is_word same ∙ word
only_read text name e (inl (inr (inl (n, (d, (word, digits, here)))))) =
    absurd (omega (arith, first_same (sym e ∙ here)))
only_read text name e (inl (inr (inr (n, (d, (word, digits, here)))))) =
    absurd (omega (arith, first_same (sym e ∙ here)))
only_read text name e (inr (n, x, d, (word, low, digits, here))) = absurd (omega (arith, first_same (sym e ∙ here)))

-- `read` and what is no word
read_none : (names : List (List ℕ)) (text name : List ℕ) → text ≡ codes "read " ++ name → (is_word name ≡ true → ⊥)
    → Told names text None
read_none names text name e bad = record {
  form = tt;
  read = λ n h. absurd (bad (only_read text name e (inl (inl (n, h)))));
  known = λ n d i h here. absurd (omega (arith, first_same (sym e ∙ h.2)));
  unknown = λ n d h none. absurd (omega (arith, first_same (sym e ∙ h.2)));
  known_swap = λ n d i h here. absurd (omega (arith, first_same (sym e ∙ h.2)));
  unknown_swap = λ n d h none. absurd (omega (arith, first_same (sym e ∙ h.2)));
  known_cas = λ n x d i h here. absurd (omega (arith, first_same (sym e ∙ h.3)));
  unknown_cas = λ n x d h none. absurd (omega (arith, first_same (sym e ∙ h.3)));
}

pub read_bad : (names : List (List ℕ)) (text name : List ℕ) → text ≡ codes "read " ++ name → (is_word name ≡ true → ⊥)
    → Told names text None × (HasOpForm text → ⊥)
read_bad names text name e bad = (read_none names text name e bad, λ h. bad (only_read text name e h))

-- `read` and a word
pub read_good : (names : List (List ℕ)) (text name : List ℕ) → text ≡ codes "read " ++ name → is_word name ≡ true
    → Told names text (Some Name)
read_good names text name e word = record {
  form = (inl (inl (name, (word, e))), inr refl);
  read = λ n h. refl;
  known = λ n d i h here. absurd (omega (arith, first_same (sym e ∙ h.2)));
  unknown = λ n d h none. absurd (omega (arith, first_same (sym e ∙ h.2)));
  known_swap = λ n d i h here. absurd (omega (arith, first_same (sym e ∙ h.2)));
  unknown_swap = λ n d h none. absurd (omega (arith, first_same (sym e ∙ h.2)));
  known_cas = λ n x d i h here. absurd (omega (arith, first_same (sym e ∙ h.3)));
  unknown_cas = λ n x d h none. absurd (omega (arith, first_same (sym e ∙ h.3)));
}

-- what is told of a register and a value
pub record ValuedTold (names : List (List ℕ)) (text : List ℕ) (r : Option Why) : Type 0 where
  pub form : IfSome r
      (λ why. ((name : List ℕ) × ((digits : List ℕ) × IsValuedForm text name digits)) × ((why ≡ Range) ⊎ (why ≡ Name)))
  pub known : (name digits : List ℕ) (i : ℕ) → IsValuedForm text name digits → slice_get names i ≡ Some name
      → r ≡ Some Range
  pub unknown : (name digits : List ℕ) → IsValuedForm text name digits → ((i : ℕ) → ¬ (slice_get names i ≡ Some name))
      → r ≡ Some Name

pub valued_none : (names : List (List ℕ)) (text : List ℕ) (r : Option Why) → r ≡ None
    → ((name digits : List ℕ) → IsValuedForm text name digits → ⊥) → ValuedTold names text r
valued_none names text r is never = subst (ValuedTold names text) (sym is) (record { form = tt; known = λ n d i h here. absurd (never n d h); unknown = λ n d h none. absurd (never n d h) })

pub write_valued : (text rest n d : List ℕ) → text ≡ codes "write " ++ rest → IsWriteForm text n d
    → IsValuedForm rest n d
write_valued text rest n d e h = (h.0, h.1, ap (drop 6) (sym e ∙ h.2))

pub swap_valued : (text rest n d : List ℕ) → text ≡ codes "swap " ++ rest → IsSwapForm text n d → IsValuedForm rest n d
swap_valued text rest n d e h = (h.0, h.1, ap (drop 5) (sym e ∙ h.2))

-- `write` and the rest
pub write_told : (names : List (List ℕ)) (text rest : List ℕ) (r : Option Why) → text ≡ codes "write " ++ rest
    → ValuedTold names rest r → Told names text r
write_told names text rest r e t = record {
  form = IfSome_then r t.form (λ why p. (inl (inr (inl (p.0.0, (p.0.1.0, (p.0.1.1.0, p.0.1.1.1, e ∙ ap (λ l. codes "write " ++ l) p.0.1.1.2))))), p.1));
  read = λ n h. absurd (omega (arith, first_same (sym e ∙ h.1)));
  known = λ n d i h here. t.known n d i (write_valued text rest n d e h) here;
  unknown = λ n d h none. t.unknown n d (write_valued text rest n d e h) none;
  known_swap = λ n d i h here. absurd (omega (arith, first_same (sym e ∙ h.2)));
  unknown_swap = λ n d h none. absurd (omega (arith, first_same (sym e ∙ h.2)));
  known_cas = λ n x d i h here. absurd (omega (arith, first_same (sym e ∙ h.3)));
  unknown_cas = λ n x d h none. absurd (omega (arith, first_same (sym e ∙ h.3)));
}

-- `swap` and the rest
pub swap_told : (names : List (List ℕ)) (text rest : List ℕ) (r : Option Why) → text ≡ codes "swap " ++ rest
    → ValuedTold names rest r → Told names text r
swap_told names text rest r e t = record {
  form = IfSome_then r t.form (λ why p. (inl (inr (inr (p.0.0, (p.0.1.0, (p.0.1.1.0, p.0.1.1.1, e ∙ ap (λ l. codes "swap " ++ l) p.0.1.1.2))))), p.1));
  read = λ n h. absurd (omega (arith, first_same (sym e ∙ h.1)));
  known = λ n d i h here. absurd (omega (arith, first_same (sym e ∙ h.2)));
  unknown = λ n d h none. absurd (omega (arith, first_same (sym e ∙ h.2)));
  known_swap = λ n d i h here. t.known n d i (swap_valued text rest n d e h) here;
  unknown_swap = λ n d h none. t.unknown n d (swap_valued text rest n d e h) none;
  known_cas = λ n x d i h here. absurd (omega (arith, first_same (sym e ∙ h.3)));
  unknown_cas = λ n x d h none. absurd (omega (arith, first_same (sym e ∙ h.3)));
}

-- what is told of a register and two values
pub record ComparedTold (names : List (List ℕ)) (text : List ℕ) (r : Option Why) : Type 0 where
  pub form : IfSome r
      (λ why. ((name expected digits : List ℕ) × IsComparedForm text name expected digits)
      × ((why ≡ Range) ⊎ (why ≡ Name)))
  pub known : (name expected digits : List ℕ) (i : ℕ) → IsComparedForm text name expected digits
      → slice_get names i ≡ Some name → r ≡ Some Range
  pub unknown : (name expected digits : List ℕ) → IsComparedForm text name expected digits
      → ((i : ℕ) → ¬ (slice_get names i ≡ Some name)) → r ≡ Some Name

pub compared_none : (names : List (List ℕ)) (text : List ℕ) (r : Option Why) → r ≡ None
    → ((name expected digits : List ℕ) → IsComparedForm text name expected digits → ⊥) → ComparedTold names text r
compared_none names text r is never =
    subst (ComparedTold names text) (sym is) (record { form = tt; known = λ n x d i h here. absurd (never n x d h); unknown = λ n x d h none. absurd (never n x d h) })

pub cas_compared : (text rest n x d : List ℕ) → text ≡ codes "cas " ++ rest → IsCasForm text n x d
    → IsComparedForm rest n x d
cas_compared text rest n x d e h = (h.0, h.1, h.2, ap (drop 4) (sym e ∙ h.3))

-- `cas` and the rest
pub cas_told : (names : List (List ℕ)) (text rest : List ℕ) (r : Option Why) → text ≡ codes "cas " ++ rest
    → ComparedTold names rest r → Told names text r
cas_told names text rest r e t = record {
  form = IfSome_then r t.form (λ why p. (inr (p.0.0, p.0.1, p.0.2, (p.0.3.0, p.0.3.1, p.0.3.2, e ∙ ap (λ l. codes "cas " ++ l) p.0.3.3)), p.1));
  read = λ n h. absurd (omega (arith, first_same (sym e ∙ h.1)));
  known = λ n d i h here. absurd (omega (arith, first_same (sym e ∙ h.2)));
  unknown = λ n d h none. absurd (omega (arith, first_same (sym e ∙ h.2)));
  known_swap = λ n d i h here. absurd (omega (arith, first_same (sym e ∙ h.2)));
  unknown_swap = λ n d h none. absurd (omega (arith, first_same (sym e ∙ h.2)));
  known_cas = λ n x d i h here. t.known n x d i (cas_compared text rest n x d e h) here;
  unknown_cas = λ n x d h none. t.unknown n x d (cas_compared text rest n x d e h) none;
}

-- the text begins with none of the four words
pub record IsNoWord (text : List ℕ) : Type 0 where
  pub read : (rest : List ℕ) → text ≡ codes "read " ++ rest → ⊥
  pub write : (rest : List ℕ) → text ≡ codes "write " ++ rest → ⊥
  pub swap : (rest : List ℕ) → text ≡ codes "swap " ++ rest → ⊥
  pub cas : (rest : List ℕ) → text ≡ codes "cas " ++ rest → ⊥

none_of : (names : List (List ℕ)) (text : List ℕ) → IsNoWord text → Told names text None
none_of names text none = record {
  form = tt;
  read = λ n h. absurd (none.read n h.1);
  known = λ n d i h here. absurd (none.write (n ++ 32 ∷ d) h.2);
  unknown = λ n d h _. absurd (none.write (n ++ 32 ∷ d) h.2);
  known_swap = λ n d i h here. absurd (none.swap (n ++ 32 ∷ d) h.2);
  unknown_swap = λ n d h _. absurd (none.swap (n ++ 32 ∷ d) h.2);
  known_cas = λ n x d i h here. absurd (none.cas (n ++ 32 ∷ (x ++ 32 ∷ d)) h.3);
  unknown_cas = λ n x d h _. absurd (none.cas (n ++ 32 ∷ (x ++ 32 ∷ d)) h.3);
}

pub none_told : (names : List (List ℕ)) (text : List ℕ) (r : Option Why) → r ≡ None → IsNoWord text → Told names text r
none_told names text r is none = subst (Told names text) (sym is) (none_of names text none)

pub no_form : (text : List ℕ) → IsNoWord text → HasOpForm text → ⊥
no_form text none (inl (inl (n, (word, here)))) = none.read n here
no_form text none (inl (inr (inl (n, (d, (word, digits, here)))))) = none.write (n ++ 32 ∷ d) here
no_form text none (inl (inr (inr (n, (d, (word, digits, here)))))) = none.swap (n ++ 32 ∷ d) here
no_form text none (inr (n, x, d, (word, low, digits, here))) = none.cas (n ++ 32 ∷ (x ++ 32 ∷ d)) here

-- the form of an operation that begins with such a word
pub write_form : (text rest : List ℕ) → text ≡ codes "write " ++ rest → HasOpForm text
    → (n : List ℕ) × ((d : List ℕ) × IsValuedForm rest n d)
write_form text rest e (inl (inl (n, (word, here)))) = absurd (omega (arith, first_same (sym e ∙ here)))
write_form text rest e (inl (inr (inl (n, (d, h))))) = (n, (d, write_valued text rest n d e h))
write_form text rest e (inl (inr (inr (n, (d, (word, digits, here)))))) =
    absurd (omega (arith, first_same (sym e ∙ here)))
write_form text rest e (inr (n, x, d, (word, low, digits, here))) = absurd (omega (arith, first_same (sym e ∙ here)))

pub swap_form : (text rest : List ℕ) → text ≡ codes "swap " ++ rest → HasOpForm text
    → (n : List ℕ) × ((d : List ℕ) × IsValuedForm rest n d)
swap_form text rest e (inl (inl (n, (word, here)))) = absurd (omega (arith, first_same (sym e ∙ here)))
swap_form text rest e (inl (inr (inl (n, (d, (word, digits, here)))))) =
    absurd (omega (arith, first_same (sym e ∙ here)))
swap_form text rest e (inl (inr (inr (n, (d, h))))) = (n, (d, swap_valued text rest n d e h))
swap_form text rest e (inr (n, x, d, (word, low, digits, here))) = absurd (omega (arith, first_same (sym e ∙ here)))

pub cas_form : (text rest : List ℕ) → text ≡ codes "cas " ++ rest → HasOpForm text
    → (n x d : List ℕ) × IsComparedForm rest n x d
cas_form text rest e (inl (inl (n, (word, here)))) = absurd (omega (arith, first_same (sym e ∙ here)))
cas_form text rest e (inl (inr (inl (n, (d, (word, digits, here)))))) =
    absurd (omega (arith, first_same (sym e ∙ here)))
cas_form text rest e (inl (inr (inr (n, (d, (word, digits, here)))))) =
    absurd (omega (arith, first_same (sym e ∙ here)))
cas_form text rest e (inr (n, x, d, h)) = (n, x, d, cas_compared text rest n x d e h)
