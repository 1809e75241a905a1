-- What numbers lack.
use Rattle.std.proofs.Common.{ℕ, ◌≡◌, ◌<◌, ◌^◌, ◌==◌, not, true, List, [], ◌∷◌, refl, rules}
use Rattle.std.specs.Fmt.{decimal}
use Rattle.std.specs.Str.Parse.{AllDigits}
use Rattle.std.proofs.lemmas.Str.Parse.{digit_from_value}
use Rattle.std.proofs.lemmas.Fmt.{digits_decimal}
use Rattle.reg_text.specs.Parts.{Lacks}
use Rattle.reg_text.proofs.Decimals.{own}

digits_lack : (m : ℕ) (ds : List ℕ) → m < 48 → AllDigits 10 ds → Lacks m ds
digits_lack m [] low h = refl
digits_lack m (d ∷ ds) low h =
    let digit = digit_from_value d h.0 in
    let other : not (d == m) ≡ true = search (rules, digit, low) in
    rw other (digits_lack m ds low h.1)

pub decimal_lacks : (m n : ℕ) → m < 48 → n < 2 ^ 64 → Lacks m (decimal n)
decimal_lacks m n low small = digits_lack m (decimal n) low (digits_decimal own n small)
