-- Names are words, and words are text.
use Rattle.std.proofs.Common.{ℕ, ◌≡◌, ◌+◌, ◌<◌, ◌==◌, nat_lt, nat_le, nat_eq, not, ◌&&◌, true, false, cond, List, []}
use Rattle.std.proofs.Common.{◌∷◌, length, refl, rules, None, Some}
use Rattle.std.specs.List.{list_all, position_from}
use Rattle.std.specs.Char.{is_ascii, is_ascii_lowercase}
use Rattle.std.specs.Str.{IsUtf8}
use Rattle.std.proofs.lemmas.Str.{IsUtf8-from_ascii}
use Rattle.reg_base.specs.Names.{is_name, names_fault, first_bad, first_repeat}
use Rattle.reg_base.specs.declared.limits.TheConstants.{MOST_REGISTERS, LONGEST_NAME}
use Rattle.reg_text.specs.Forms.{is_word, is_word_byte}
use Rattle.reg_text.proofs.NamesLack.{both_true, parts}
use Rattle.reg_text.proofs.Texts.{ascii_all}

letters_word : (l : List ℕ) → list_all is_ascii_lowercase l ≡ true → list_all is_word_byte l ≡ true
letters_word [] h = refl
letters_word (b ∷ l) h =
    let both = both_true (is_ascii_lowercase b) (list_all is_ascii_lowercase l) h in
    let first : is_word_byte b ≡ true = search (rules, both.0) in
    rw first (letters_word l both.1)

name_word : (n : List ℕ) → is_name n ≡ true → is_word n ≡ true
name_word [] h = absurd (cc)
name_word (b ∷ n) h =
    let rest = both_true (nat_lt 0 (length (b ∷ n))) (nat_le (length (b ∷ n)) LONGEST_NAME && list_all is_ascii_lowercase (b ∷ n)) h in
    let some : not (length (b ∷ n) == 0) ≡ true = search rules in
    rw some (letters_word (b ∷ n) (both_true (nat_le (length (b ∷ n)) LONGEST_NAME) (list_all is_ascii_lowercase (b ∷ n)) rest.1).1)

all_words : (k : ℕ) (ns : List (List ℕ)) → position_from (λ n. not (is_name n)) k ns ≡ None → list_all is_word ns ≡ true
all_words k [] h = refl
all_words k (n ∷ ns) h =
    elim (is_name n) as (λ b. is_name n ≡ b → cond (not b) (Some k) (position_from (λ m. not (is_name m)) (k + 1) ns) ≡ None → (is_word n && list_all is_word ns) ≡ true) [
      | true ↦ λ e g. rw (name_word n e) (all_words (k + 1) ns g)
      | false ↦ λ e g. absurd (cc)
    ] refl h

-- names that differ are words
pub names_words : (ns : List (List ℕ)) → names_fault ns ≡ None → list_all is_word ns ≡ true
names_words ns h =
    all_words 0 ns (parts (nat_eq (length ns) 0) (nat_lt MOST_REGISTERS (length ns)) (first_bad ns) (first_repeat ns) h)

word_low : (b : ℕ) → is_word_byte b ≡ true → b < 128
word_low b h = let both = both_true (is_ascii b) (not (b == 32)) h in search (rules, both.0)

pub word_text : (w : List ℕ) → is_word w ≡ true → IsUtf8 w
word_text w h = IsUtf8-from_ascii w (ascii_all is_word_byte word_low w (both_true (not (length w == 0)) (list_all is_word_byte w) h).1)
