-- What is told of a text that has the form of an operation.
use Rattle.std.proofs.Common.{ℕ, ◌≡◌, ◌⊎◌, List, inl, inr, Option, Some, IfSome, slice_get}
use Rattle.reg_text.specs.declared.faults.Why.{Why}
use Rattle.reg_text.specs.declared.faults.Why.TheVariants.{Range, Name}
use Rattle.reg_text.specs.Forms.{HasOpForm, IsReadForm, IsWriteForm, IsSwapForm, IsCasForm, IsOpWhy}

of_some : (a b : Why) → Some a ≡ Some b → a ≡ b
of_some a b h = cc

-- what `op_form` answers
pub record Told (names : List (List ℕ)) (text : List ℕ) (r : Option Why) : Type 0 where
  pub form : IfSome r (λ why. HasOpForm text × ((why ≡ Range) ⊎ (why ≡ Name)))
  pub read : (name : List ℕ) → IsReadForm text name → r ≡ Some Name
  pub known : (name digits : List ℕ) (i : ℕ) → IsWriteForm text name digits → slice_get names i ≡ Some name
      → r ≡ Some Range
  pub unknown : (name digits : List ℕ) → IsWriteForm text name digits → ((i : ℕ) → ¬ (slice_get names i ≡ Some name))
      → r ≡ Some Name
  pub known_swap : (name digits : List ℕ) (i : ℕ) → IsSwapForm text name digits → slice_get names i ≡ Some name
      → r ≡ Some Range
  pub unknown_swap : (name digits : List ℕ) → IsSwapForm text name digits
      → ((i : ℕ) → ¬ (slice_get names i ≡ Some name)) → r ≡ Some Name
  pub known_cas : (name expected digits : List ℕ) (i : ℕ) → IsCasForm text name expected digits
      → slice_get names i ≡ Some name → r ≡ Some Range
  pub unknown_cas : (name expected digits : List ℕ) → IsCasForm text name expected digits
      → ((i : ℕ) → ¬ (slice_get names i ≡ Some name)) → r ≡ Some Name

known_as : (names : List (List ℕ)) (text : List ℕ) (why : Why) (name digits : List ℕ) (i : ℕ)
    → Told names text (Some why) → IsWriteForm text name digits ⊎ IsSwapForm text name digits
    → slice_get names i ≡ Some name → why ≡ Range
known_as names text why name digits i t (inl h) here = of_some why Range (t.known name digits i h here)
known_as names text why name digits i t (inr h) here = of_some why Range (t.known_swap name digits i h here)

unknown_as : (names : List (List ℕ)) (text : List ℕ) (why : Why) (name digits : List ℕ) → Told names text (Some why)
    → IsWriteForm text name digits ⊎ IsSwapForm text name digits → ((i : ℕ) → ¬ (slice_get names i ≡ Some name))
    → why ≡ Name
unknown_as names text why name digits t (inl h) none = of_some why Name (t.unknown name digits h none)
unknown_as names text why name digits t (inr h) none = of_some why Name (t.unknown_swap name digits h none)

pub op_why : (names : List (List ℕ)) (text : List ℕ) (why : Why) → Told names text (Some why) → IsOpWhy names text why
op_why names text why t = record {
  read = λ name h. of_some why Name (t.read name h);
  known = λ name digits i h here. known_as names text why name digits i t h here;
  unknown = λ name digits h none. unknown_as names text why name digits t h none;
  known_cas = λ name expected digits i h here. of_some why Range (t.known_cas name expected digits i h here);
  unknown_cas = λ name expected digits h none. of_some why Name (t.unknown_cas name expected digits h none);
}
