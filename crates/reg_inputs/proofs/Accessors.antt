-- What a value is, by what its accessors answer.
use Rattle.std.proofs.Common.{◌≡◌, ℕ, true, false, List, Some, refl, sym, subst, inl, inr}
use Rattle.std.proofs.lemmas.Bool.{cases_Bool}
use Rattle.std.proofs.lemmas.Slice.Eq.{bytes_eq-Decides}
use Rattle.std.specs.Prelude.{codes}
use Rattle.std.specs.Str.{bytes_eq}
use Rattle.toml.specs.Data.{Data, string, integer, float, boolean, datetime, array, table, as_str}
use Rattle.reg_front.specs.declared.named.Front.{Front}
use Rattle.reg_front.specs.declared.named.Front.TheVariants.{Linear, LocalRead, LocalWrite}
use Rattle.reg_front.specs.Table.{front_name}
use Rattle.reg_inputs.specs.Judged.{is_front}

pub text_is : (d : Data) (s : List ℕ) → Some s ≡ as_str d → d ≡ string s
text_is (string t) s e = cc
text_is (integer z) s e = absurd (cc)
text_is (float x) s e = absurd (cc)
text_is (boolean b) s e = absurd (cc)
text_is (datetime t) s e = absurd (cc)
text_is (array ds) s e = absurd (cc)
text_is (table ms) s e = absurd (cc)

differs : (s t : List ℕ) → (t ≡ s → ⊥) → bytes_eq s t ≡ false
differs s t h =
    elim (cases_Bool (bytes_eq s t)) [
      | inl same ↦ absurd (h (sym ((bytes_eq-Decides s t).0 same)))
      | inr other ↦ other
    ]

pub front_known : (f : Front) (s : List ℕ) → front_name f ≡ s → is_front s ≡ true
front_known Linear s e = subst (λ t. is_front t ≡ true) e refl
front_known LocalRead s e = subst (λ t. is_front t ≡ true) e refl
front_known LocalWrite s e = subst (λ t. is_front t ≡ true) e refl

pub front_unknown : (s : List ℕ) → ((f : Front) → front_name f ≡ s → ⊥) → is_front s ≡ false
front_unknown s h = rw (differs s (codes "linear") (h Linear), differs s (codes "local-read") (h LocalRead), differs s (codes "local-write") (h LocalWrite))
