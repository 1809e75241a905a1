-- Words of letters are text.
use Rattle.std.proofs.Common.{ℕ, zero, suc, ◌≡◌, ◌<◌, ◌==◌, ◌||◌, ◌&&◌, nat_lt, nat_le, Bool, true, false, List, []}
use Rattle.std.proofs.Common.{◌∷◌, length, refl, arith, rules}
use Rattle.std.specs.List.{list_all}
use Rattle.std.specs.Str.{IsAscii, IsUtf8}
use Rattle.std.specs.Char.{is_ascii_lowercase}
use Rattle.std.proofs.lemmas.Str.{IsUtf8-from_ascii}
use Rattle.reg_base.specs.Names.{is_name}
use Rattle.reg_base.specs.declared.limits.TheConstants.{LONGEST_NAME}
use Rattle.reg_text.specs.Words.{is_front_letter}
use Rattle.reg_text.proofs.NamesLack.{both_true}

pub ascii_all : (p : ℕ → Bool) → ((b : ℕ) → p b ≡ true → b < 128) → (bs : List ℕ) → list_all p bs ≡ true → IsAscii bs
ascii_all p low [] h i = omega arith
ascii_all p low (b ∷ bs) h zero = low b (both_true (p b) (list_all p bs) h).0
ascii_all p low (b ∷ bs) h (suc i) = ascii_all p low bs (both_true (p b) (list_all p bs) h).1 i

lower_low : (b : ℕ) → is_ascii_lowercase b ≡ true → b < 128
lower_low b h = search (rules, h)

front_low : (b : ℕ) → is_front_letter b ≡ true → b < 128
front_low b h =
    elim (is_ascii_lowercase b) as (λ t. is_ascii_lowercase b ≡ t → (t || (b == 45)) ≡ true → b < 128) [
      | true ↦ λ e g. lower_low b e
      | false ↦ λ e g. let n : b ≡ 45 = search (rules, g) in omega (arith, n)
    ] refl h

pub letters_text : (w : List ℕ) → list_all is_front_letter w ≡ true → IsUtf8 w
letters_text w h = IsUtf8-from_ascii w (ascii_all is_front_letter front_low w h)

pub name_text : (w : List ℕ) → is_name w ≡ true → IsUtf8 w
name_text w h =
    let rest = both_true (nat_lt 0 (length w)) (nat_le (length w) LONGEST_NAME && list_all is_ascii_lowercase w) h in
    IsUtf8-from_ascii w (ascii_all is_ascii_lowercase lower_low w (both_true (nat_le (length w) LONGEST_NAME) (list_all is_ascii_lowercase w) rest.1).1)
