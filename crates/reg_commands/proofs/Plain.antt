-- A text of letters, digits, spaces and hyphens needs no escape between quotes.
use Rattle.std.proofs.Common.{ℕ, ◌≡◌, ◌≢◌, ◌<◌, ◌≤◌, ◌^◌, ◌&&◌, ◌==◌, not, nat_le, nat_lt, Bool, true, false, List, []}
use Rattle.std.proofs.Common.{◌∷◌, ◌++◌, length, get_or, codes, None, Some, refl, sym, ap, subst, arith}
use Rattle.std.specs.Prelude.{slice_get}
use Rattle.std.specs.List.{list_all, list_any}
use Rattle.std.specs.Char.{is_ascii_lowercase}
use Rattle.std.specs.Fmt.{decimal}
use Rattle.std.specs.Char.{digit_value}
use Rattle.std.specs.Str.Parse.{AllDigits}
use Rattle.std.proofs.lemmas.Bool.Decides.{nat_tests}
use Rattle.std.proofs.lemmas.Fmt.{decimal_is_IsNumeral}
use Rattle.std.proofs.lemmas.Option.{get_or_from_slice_get, slice_get_within}
use Rattle.std.proofs.lemmas.Str.Parse.{digit_from_value}
use Rattle.toml_writer.specs.Text.{basic, encoding_of, escaped, has, is_control, needs_escape, quotes_after}
use Rattle.toml_writer.specs.Text.{string_text}
use Rattle.reg_base.specs.declared.limits.TheConstants.{LONGEST_NAME}
use Rattle.reg_base.specs.declared.memory.Op.{Op}
use Rattle.reg_base.specs.declared.memory.Op.TheVariants.{Read, Write, Swap, CompareAndSwap}
use Rattle.reg_base.specs.Names.{is_name, names_fault}
use Rattle.reg_front.specs.declared.named.Front.{Front}
use Rattle.reg_front.specs.declared.named.Front.TheVariants.{Linear, LocalRead, LocalWrite}
use Rattle.reg_front.specs.Table.{front_name}
use Rattle.reg_text.specs.Ops.{OpFits, name_of, op_text, valued, compared}
use Rattle.reg_text.proofs.NamesLack.{both_true, well_spelt}
use Rattle.reg_commands.specs.Layout.{quoted}

-- neither a control character, nor a quote, nor a backslash
abbrev IsByte : ℕ → Type 0
IsByte c = (32 ≤ c) × (c < 127) × (c ≢ 34) × (c ≢ 92)

abbrev pub IsPlain : List ℕ → Type 0
IsPlain [] = Unit {0}
IsPlain (c ∷ text) = IsByte c × IsPlain text

no_quote : (c : ℕ) → IsByte c → (c == 34) ≡ false
no_quote c is = let n = is.2 in grind (arith, nat_tests)

no_backslash : (c : ℕ) → IsByte c → (c == 92) ≡ false
no_backslash c is = let n = is.3 in grind (arith, nat_tests)

no_feed : (c : ℕ) → IsByte c → (c == 10) ≡ false
no_feed c is = let l = is.0 in grind (arith, nat_tests)

no_tab : (c : ℕ) → IsByte c → (c == 9) ≡ false
no_tab c is = let l = is.0 in grind (arith, nat_tests)

no_delete : (c : ℕ) → IsByte c → (c == 127) ≡ false
no_delete c is = let l = is.1 in grind (arith, nat_tests)

shown : (c : ℕ) → IsByte c → nat_le 32 c ≡ true
shown c is = let l = is.0 in grind (arith, nat_tests)

has_not : (k : ℕ) (text : List ℕ) → ((c : ℕ) → IsByte c → (c == k) ≡ false) → IsPlain text → has k text ≡ false
has_not k [] lacks is = refl
has_not k (c ∷ text) lacks is = rw (lacks c is.0) (has_not k text lacks is.1)

no_control : (text : List ℕ) → IsPlain text → list_any is_control text ≡ false
no_control [] is = refl
no_control (c ∷ text) is = rw (no_tab c is.0, shown c is.0, no_delete c is.0) (no_control text is.1)

kept : (text : List ℕ) → IsPlain text → escaped false 0 text ≡ text
unfolding escaped needs_escape quotes_after
kept [] is = refl
kept (c ∷ text) is = rw (no_quote c is.0, no_feed c is.0, no_backslash c is.0, no_tab c is.0, shown c is.0, no_delete c is.0) (ap (λ t. c ∷ t) (kept text is.1))

is_basic : (text : List ℕ) → IsPlain text → encoding_of text ≡ basic
unfolding encoding_of
is_basic text is = rw (no_control text is, has_not 92 text no_backslash is, has_not 34 text no_quote is, has_not 10 text no_feed is) refl

pub between_quotes : (text : List ℕ) → IsPlain text → quoted text ≡ string_text text
unfolding string_text
between_quotes text is = rw (is_basic text is) (ap (λ t. 34 ∷ t ++ 34 ∷ []) (sym (kept text is)))

-- texts that are plain

after : (a b : List ℕ) → IsPlain a → IsPlain b → IsPlain (a ++ b)
after [] b p q = q
after (c ∷ a) b p q = (p.0, after a b p.1 q)

letter : (c : ℕ) → is_ascii_lowercase c ≡ true → IsByte c
letter c h = let low : 97 ≤ c = grind (arith, nat_tests) in let high : c ≤ 122 = grind (arith, nat_tests) in (omega arith, omega arith, (λ e. let f : ⊥ = omega arith in f), (λ e. let f : ⊥ = omega arith in f))

letters : (l : List ℕ) → list_all is_ascii_lowercase l ≡ true → IsPlain l
letters [] h = tt
letters (c ∷ l) h =
    let b = both_true (is_ascii_lowercase c) (list_all is_ascii_lowercase l) h in (letter c b.0, letters l b.1)

digit : (c : ℕ) → digit_value c < 10 → IsByte c
digit c h = let (low, high) = digit_from_value c h in (omega arith, omega arith, (λ e. let f : ⊥ = omega arith in f), (λ e. let f : ⊥ = omega arith in f))

digits : (ds : List ℕ) → AllDigits 10 ds → IsPlain ds
digits [] h = tt
digits (c ∷ ds) h = (digit c h.0, digits ds h.1)

number : (n : ℕ) → n < 2 ^ 64 → IsPlain (decimal n)
number n h = digits (decimal n) (decimal_is_IsNumeral n h).0.1

pub name_plain : (name : List ℕ) → is_name name ≡ true → IsPlain name
name_plain name h =
    let a = both_true (nat_lt 0 (length name)) (nat_le (length name) LONGEST_NAME && list_all is_ascii_lowercase name) h in
    letters name (both_true (nat_le (length name) LONGEST_NAME) (list_all is_ascii_lowercase name) a.1).1

nth : (names : List (List ℕ)) (r : ℕ) → names_fault names ≡ None → r < length names → IsPlain (name_of names r)
nth names r well within = name_plain (get_or names r []) (well_spelt names r well within)

pub each_name : (names : List (List ℕ)) → names_fault names ≡ None → (k : ℕ) (name : List ℕ)
    → slice_get names k ≡ Some name → IsPlain name
each_name names well k name there =
    let within : k < length names = slice_get_within names k name there in
    subst IsPlain (get_or_from_slice_get names k name [] there) (nth names k well within)

-- the test of such a byte, for texts that are written out
abbrev is_word : ℕ → Bool
is_word c = nat_le 32 c && (nat_lt c 127 && (not (c == 34) && not (c == 92)))

word : (c : ℕ) → is_word c ≡ true → IsByte c
word c h =
    let a = both_true (nat_le 32 c) (nat_lt c 127 && (not (c == 34) && not (c == 92))) h in
    let b = both_true (nat_lt c 127) (not (c == 34) && not (c == 92)) a.1 in
    let d = both_true (not (c == 34)) (not (c == 92)) b.1 in
    let low : 32 ≤ c = let e = a.0 in grind (arith, nat_tests) in let high : c < 127 = let e = b.0 in grind (arith, nat_tests) in
    let no_34 : c ≢ 34 = λ same. absurd (subst (λ k. not (k == 34) ≡ true → ⊥) (sym same) (λ t. cc) d.0) in
    let no_92 : c ≢ 92 = λ same. absurd (subst (λ k. not (k == 92) ≡ true → ⊥) (sym same) (λ t. cc) d.1) in
    (low, high, no_34, no_92)

literal : (text : List ℕ) → list_all is_word text ≡ true → IsPlain text
literal [] h = tt
literal (c ∷ text) h = let b = both_true (is_word c) (list_all is_word text) h in (word c b.0, literal text b.1)

valued_plain : (names : List (List ℕ)) (r v : ℕ) → names_fault names ≡ None → r < length names → v < 2 ^ 64
    → IsPlain (valued names r v)
valued_plain names r v well within small = after (name_of names r) (32 ∷ decimal v) (nth names r well within) (after (32 ∷ []) (decimal v) (literal (32 ∷ []) refl) (number v small))

compared_plain : (names : List (List ℕ)) (r e v : ℕ) → names_fault names ≡ None → r < length names → e < 2 ^ 64
    → v < 2 ^ 64 → IsPlain (compared names r e v)
compared_plain names r e v well within low small =
    after (name_of names r) (32 ∷ (decimal e ++ 32 ∷ decimal v)) (nth names r well within)
    (after (32 ∷ []) (decimal e ++ 32 ∷ decimal v) (literal (32 ∷ []) refl) (after (decimal e) (32 ∷ decimal v) (number e low) (after (32 ∷ []) (decimal v) (literal (32 ∷ []) refl) (number v small))))

pub op_plain : (names : List (List ℕ)) (op : Op) → names_fault names ≡ None → OpFits names op
    → IsPlain (op_text names op)
op_plain names (Read r) well fits =
    after (codes "read ") (name_of names r) (literal (codes "read ") refl) (nth names r well fits)
op_plain names (Write r v) well fits = after (codes "write ") (valued names r v) (literal (codes "write ") refl) (valued_plain names r v well fits.0 fits.1)
op_plain names (Swap r v) well fits =
    after (codes "swap ") (valued names r v) (literal (codes "swap ") refl) (valued_plain names r v well fits.0 fits.1)
op_plain names (CompareAndSwap r e v) well fits = after (codes "cas ") (compared names r e v) (literal (codes "cas ") refl) (compared_plain names r e v well fits.0 fits.1 fits.2)

pub front_plain : (front : Front) → IsPlain (front_name front)
front_plain Linear = literal (front_name Linear) refl
front_plain LocalRead = literal (front_name LocalRead) refl
front_plain LocalWrite = literal (front_name LocalWrite) refl
