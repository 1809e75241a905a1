-- The numbers of lines.
use Rattle.std.proofs.Common.{ℕ, suc, ◌≡◌, ◌+◌, ◌-◌, ◌<◌, ◌^◌, min, Bool, true, false, List, [], ◌∷◌, ◌++◌, length}
use Rattle.std.proofs.Common.{refl, sym, ap, ◌∙◌, arith, append_assoc, length-append}
use Rattle.reg_text.specs.Lines.{shown, is_kept}
use Rattle.reg_text.specs.Reading.{IsFound}
use Rattle.reg_text.proofs.Split.{none_kept}

-- the lines from `old` up to `new` were passed, and counted
pub record IsPassed (old new : List (List ℕ)) (from to : ℕ) : Type 0 where
  pub passed : List (List ℕ)
  pub lines : old ≡ passed ++ new
  pub number : to ≡ from + length passed

pub none_passed : (old : List (List ℕ)) (from : ℕ) → IsPassed old old from from
none_passed old from = record { passed = []; lines = refl; number = omega arith }

module _ (old now new : List (List ℕ)) (line : List ℕ) (from at next : ℕ) (few : from + length old < 2 ^ 64 - 1) (p : IsPassed old now from at) (e : now ≡ line ∷ new) (more : next ≡ min (at + 1) (2 ^ 64 - 1)) where
  whole : old ≡ p.passed ++ line ∷ new
  whole = p.lines ∙ ap (λ l. p.passed ++ l) e

  short : length p.passed + suc (length new) ≡ length old
  short = sym (ap length whole ∙ length-append p.passed (line ∷ new))

  counted : next ≡ from + length p.passed + 1
  counted = (let a = short in let b = p.number in omega (arith, a, b))

  -- one more line is passed
  pub one_passed : IsPassed old new from next
  one_passed = record {
    passed = p.passed ++ line ∷ [];
    lines = whole ∙ sym (append_assoc p.passed (line ∷ []) new);
    number = (let a = length-append p.passed (line ∷ []) in let b = counted in omega (arith, a, b));
  }

  -- it is one that is kept
  pub one_found : is_kept line ≡ true → IsFound line old new from next
  one_found kept = record { skipped = p.passed; lines = whole; kept = kept; number = counted }

-- the end is after the last line
pub counted_end : (old now : List (List ℕ)) (from at next : ℕ) → from + length old < 2 ^ 64 - 1
    → IsPassed old now from at → now ≡ [] → next ≡ min (at + 1) (2 ^ 64 - 1) → next ≡ from + length old + 1
counted_end old now from at next few p e more =
    let all : length p.passed + length now ≡ length old = sym (ap length p.lines ∙ length-append p.passed now) in
    let none : length now ≡ 0 = ap length e in
    let b = p.number in
    omega (arith, all, none, b)

-- nothing is shown of no lines
pub none_shown : (skips : Bool) → shown skips [] ≡ []
none_shown true = none_kept
none_shown false = refl
