-- What well spelt names lack.
use Rattle.std.proofs.Common.{ℕ, zero, suc, ◌≡◌, ◌+◌, ◌<◌, ◌==◌, nat_lt, nat_le, nat_eq, not, ◌&&◌, Bool, true, false}
use Rattle.std.proofs.Common.{cond, List, [], ◌∷◌, length, get_or, refl, arith, rules, Option, None, Some, slice_get}
use Rattle.std.specs.List.{list_all, position_from}
use Rattle.std.specs.Char.{is_ascii_lowercase}
use Rattle.reg_base.specs.Names.{is_name, names_fault, first_bad, first_repeat, worst_place}
use Rattle.reg_base.specs.declared.limits.TheConstants.{MOST_REGISTERS, LONGEST_NAME}
use Rattle.reg_base.specs.declared.naming.NamesFault.TheVariants.{NoName, TooManyNames}
use Rattle.reg_text.specs.Parts.{Lacks}

pub parts : (a b : Bool) (p q : Option ℕ) → cond a (Some NoName) (cond b (Some TooManyNames) (worst_place p q)) ≡ None
    → p ≡ None
parts true b p q h = absurd (cc)
parts false true p q h = absurd (cc)
parts false false (Some i) q h = absurd (cc)
parts false false None (Some i) h = refl
parts false false None None h = refl

each_is : (k : ℕ) (ns : List (List ℕ)) → position_from (λ n. not (is_name n)) k ns ≡ None → (r : ℕ) → r < length ns
    → is_name (get_or ns r []) ≡ true
each_is k [] h r l = absurd (omega arith)
each_is k (n ∷ ns) h zero l =
    elim (is_name n) as (λ b. cond (not b) (Some k) (position_from (λ m. not (is_name m)) (k + 1) ns) ≡ None → b ≡ true) [
      | true ↦ λ e. refl
      | false ↦ λ e. absurd (cc)
    ] h
each_is k (n ∷ ns) h (suc r) l =
    elim (is_name n) as (λ b. cond (not b) (Some k) (position_from (λ m. not (is_name m)) (k + 1) ns) ≡ None → is_name (get_or ns r []) ≡ true) [
      | true ↦ λ e. each_is (k + 1) ns e r (omega arith)
      | false ↦ λ e. absurd (cc)
    ] h

pub well_spelt : (ns : List (List ℕ)) (r : ℕ) → names_fault ns ≡ None → r < length ns → is_name (get_or ns r []) ≡ true
well_spelt ns r h l = each_is 0 ns (parts (nat_eq (length ns) 0) (nat_lt MOST_REGISTERS (length ns)) (first_bad ns) (first_repeat ns) h) r l

pub both_true : (a b : Bool) → (a && b) ≡ true → (a ≡ true) × (b ≡ true)
both_true true true h = (refl, refl)
both_true true false h = absurd (cc)
both_true false b h = absurd (cc)

no_mark : (m b : ℕ) → m < 97 → is_ascii_lowercase b ≡ true → not (b == m) ≡ true
no_mark m b low h = search (rules, low, h)

letters_lack : (m : ℕ) (l : List ℕ) → m < 97 → list_all is_ascii_lowercase l ≡ true → Lacks m l
letters_lack m [] low h = refl
letters_lack m (b ∷ l) low h =
    let both = both_true (is_ascii_lowercase b) (list_all is_ascii_lowercase l) h in
    let first : not (b == m) ≡ true = no_mark m b low both.0 in
    rw first (letters_lack m l low both.1)

-- a name has neither spaces nor line feeds
pub name_lacks : (m : ℕ) (n : List ℕ) → m < 97 → is_name n ≡ true → Lacks m n
name_lacks m n low h =
    let rest = both_true (nat_lt 0 (length n)) (nat_le (length n) LONGEST_NAME && list_all is_ascii_lowercase n) h in
    letters_lack m n low (both_true (nat_le (length n) LONGEST_NAME) (list_all is_ascii_lowercase n) rest.1).1

pub nth_lacks : (m : ℕ) (ns : List (List ℕ)) (r : ℕ) → m < 97 → names_fault ns ≡ None → r < length ns
    → Lacks m (get_or ns r [])
nth_lacks m ns r low h l = name_lacks m (get_or ns r []) low (well_spelt ns r h l)

-- what stands at a place
pub got_is : (ns : List (List ℕ)) (r : ℕ) (n : List ℕ) → slice_get ns r ≡ Some n
    → (r < length ns) × (n ≡ get_or ns r [])
got_is [] r n h = absurd (cc)
got_is (m ∷ ns) zero n h = (omega arith, cc)
got_is (m ∷ ns) (suc r) n h = let g = got_is ns r n h in (omega (arith, g.0), g.1)

pub is_got : (ns : List (List ℕ)) (r : ℕ) → r < length ns → slice_get ns r ≡ Some (get_or ns r [])
is_got [] r l = absurd (omega arith)
is_got (m ∷ ns) zero l = refl
is_got (m ∷ ns) (suc r) l = is_got ns r (omega arith)
