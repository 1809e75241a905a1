-- Which signs the text of a step lacks: there is no equals sign in it, and no line feed.
use Rattle.std.proofs.Common.{ℕ, zero, suc, ◌≡◌, ◌<◌, length, ◌/◌, ◌%◌, ◌==◌, ◌^◌, not, true, List, [], ◌∷◌, ◌++◌}
use Rattle.std.proofs.Common.{get_or, codes, None, refl, arith, rules}
use Rattle.std.specs.Fmt.{decimal}
use Rattle.std.specs.List.{list_all}
use Rattle.std.specs.Str.Parse.{AllDigits}
use Rattle.std.proofs.lemmas.Str.Parse.{digit_from_value}
use Rattle.std.proofs.lemmas.Fmt.{digits_decimal}
use Rattle.hex.specs.Hex.{encode_lower, encode_with, lower_digits}
use Rattle.reg_base.specs.declared.memory.Op.{Op}
use Rattle.reg_base.specs.declared.memory.Op.TheVariants.{Read, Write, Swap, CompareAndSwap}
use Rattle.reg_base.specs.Names.{names_fault}
use Rattle.reg_frames.specs.Spelling.{spelling}
use Rattle.reg_process.specs.declared.steps.Step.{Step}
use Rattle.reg_process.specs.declared.steps.Step.TheVariants.{Call, Take, Tick}
use Rattle.reg_text.specs.Ops.{compared, name_of, valued, op_text, OpFits}
use Rattle.reg_text.specs.Parts.{Lacks}
use Rattle.reg_text.proofs.Decimals.{own}
use Rattle.reg_text.proofs.Joining.{joined, number}
use Rattle.reg_text.proofs.NamesLack.{both_true, nth_lacks}
use Rattle.reg_node.specs.RecordLines.{StepFits, step_text}

abbrev pub IsClear : List ℕ → Type 0
IsClear text = Lacks 61 text × Lacks 10 text

pub both : (a b : List ℕ) → IsClear a → IsClear b → IsClear (a ++ b)
both a b h k = (joined 61 a b h.0 k.0, joined 10 a b h.1 k.1)

digits_lack : (ds : List ℕ) → AllDigits 10 ds → Lacks 61 ds
digits_lack [] h = refl
digits_lack (d ∷ ds) h =
    let digit = digit_from_value d h.0 in
    let other : not (d == 61) ≡ true = search (rules, digit) in
    rw other (digits_lack ds h.1)

pub clear_number : (n : ℕ) → n < 2 ^ 64 → IsClear (decimal n)
clear_number n small = (digits_lack (decimal n) (digits_decimal own n small), number n small)

-- a sign that a text lacks is at no place of it
at_place : (sign : ℕ) (xs : List ℕ) (i : ℕ) → not (0 == sign) ≡ true → Lacks sign xs
    → not (get_or xs i 0 == sign) ≡ true
at_place sign [] i none h = none
at_place sign (x ∷ xs) zero none h = (both_true (not (x == sign)) (list_all (λ b. not (b == sign)) xs) h).0
at_place sign (x ∷ xs) (suc i) none h =
    at_place sign xs i none (both_true (not (x == sign)) (list_all (λ b. not (b == sign)) xs) h).1

pub clear_hex : (bytes : List ℕ) → IsClear (encode_lower bytes)
unfolding encode_with
clear_hex [] = (refl, refl)
clear_hex (b ∷ bytes) =
    let rest = clear_hex bytes in (
      rw (at_place 61 lower_digits (b / 16) refl refl, at_place 61 lower_digits (b % 16) refl refl) rest.0,
      rw (at_place 10 lower_digits (b / 16) refl refl, at_place 10 lower_digits (b % 16) refl refl) rest.1,
    )

clear_name : (names : List (List ℕ)) (r : ℕ) → names_fault names ≡ None → r < length names → IsClear (name_of names r)
clear_name names r ok fits = (nth_lacks 61 names r (omega arith) ok fits, nth_lacks 10 names r (omega arith) ok fits)

clear_valued : (names : List (List ℕ)) (r v : ℕ) → names_fault names ≡ None → r < length names → v < 2 ^ 64
    → IsClear (valued names r v)
clear_valued names r v ok fits small = both (name_of names r) (32 ∷ decimal v) (clear_name names r ok fits) (both (32 ∷ []) (decimal v) (refl, refl) (clear_number v small))

clear_compared : (names : List (List ℕ)) (r e v : ℕ) → names_fault names ≡ None → r < length names → e < 2 ^ 64
    → v < 2 ^ 64 → IsClear (compared names r e v)
clear_compared names r e v ok fits first second =
    both (name_of names r) (32 ∷ (decimal e ++ 32 ∷ decimal v)) (clear_name names r ok fits)
    (both (32 ∷ []) (decimal e ++ 32 ∷ decimal v) (refl, refl) (both (decimal e) (32 ∷ decimal v) (clear_number e first) (both (32 ∷ []) (decimal v) (refl, refl) (clear_number v second))))

clear_op : (names : List (List ℕ)) (op : Op) → names_fault names ≡ None → OpFits names op → IsClear (op_text names op)
clear_op names (Read r) ok fits = both (codes "read ") (name_of names r) (refl, refl) (clear_name names r ok fits)
clear_op names (Write r v) ok fits =
    both (codes "write ") (valued names r v) (refl, refl) (clear_valued names r v ok fits.0 fits.1)
clear_op names (Swap r v) ok fits =
    both (codes "swap ") (valued names r v) (refl, refl) (clear_valued names r v ok fits.0 fits.1)
clear_op names (CompareAndSwap r e v) ok fits =
    both (codes "cas ") (compared names r e v) (refl, refl) (clear_compared names r e v ok fits.0 fits.1 fits.2)

pub clear_step : (names : List (List ℕ)) (step : Step) → names_fault names ≡ None → StepFits names step
    → IsClear (step_text names step)
clear_step names (Call op) ok fits = both (codes "call ") (op_text names op) (refl, refl) (clear_op names op ok fits)
clear_step names (Take from frame) ok fits =
    both (codes "take ") (decimal from ++ 32 ∷ encode_lower (spelling frame)) (refl, refl)
    (both (decimal from) (32 ∷ encode_lower (spelling frame)) (clear_number from (let l = fits.0 in omega (arith, l)))
    (both (32 ∷ []) (encode_lower (spelling frame)) (refl, refl) (clear_hex (spelling frame))))
clear_step names Tick ok fits = (refl, refl)
