-- The words that a subcommand passes: none, or the flag `--fair` where it has it.
use Rattle.std.proofs.Common.{◌≡◌, ◌∙◌, ◌==◌, ◌||◌, ◌⊎◌, inl, inr, ℕ, Bool, true, false, cond, List, [], ◌∷◌, Option}
use Rattle.std.proofs.Common.{Some, None, refl, sym, ap, ap₂, subst, codes, eqb-true, one-add}
use Rattle.std.specs.List.{after_first, before_first, list_any}
use Rattle.std.specs.Option.{option_and_then}
use Rattle.std.specs.Str.{bytes_eq}
use Rattle.std.proofs.lemmas.Bool.{or_parts}
use Rattle.std.proofs.lemmas.Slice.Eq.{bytes_eq-Decides}
use Rattle.clap.specs.Lexer.{has_byte, long_of, long_of_rest, name_and_value, short_of, strip_byte}
use Rattle.clap.specs.Kinds.{Kinds, or_else}
use Rattle.clap.specs.Walk.{Held, Names, Row, Rule, Text, arg_by_index, arg_by_short, idle, nothing_held, reacted}
use Rattle.clap.specs.Walk.{subcommand_met, walk_from, walked}
use Rattle.clap.specs.Simple.{Shape, built_leaf, filled, help_rule, new_shape}
use Rattle.clap.specs.Faults.{level_fault, long_fault, react_fault, short_fault, stray_fault, turn_fault, walk_fault}
use Rattle.clap.specs.declared.error.ErrorKind.{ErrorKind}
use Rattle.reg_cli.specs.Subcommands.{fair_app, fair_rule, is_dashes, is_flag}
use Rattle.reg_cli.proofs.Strays.{both_none, held, long_word, some_kind, stray_word}

-- ---- what a long flag's word is

-- a text with no `=` is its own name
whole : (text : Text) → has_byte 61 text ≡ false → before_first (λ x. x == 61) text ≡ text
whole [] e = refl
whole (x ∷ xs) e =
    let parts = or_parts (x == 61) (has_byte 61 xs) e in
    let head : (x == 61) ≡ false = parts.0 in
    rw (head, one-add) (ap (λ rest. x ∷ rest) (whole xs parts.1))

name_is : (text name : Text) → Some (name_and_value text) ≡ Some (name, None) → text ≡ name
name_is text name e = go (has_byte 61 text) refl (ap value_of e)
  where
    value_of : Option (Text × Option Text) → Option Text
    value_of None = None
    value_of (Some p) = p.1

    name_of : Option (Text × Option Text) → Text
    name_of None = []
    name_of (Some p) = p.0

    go : (b : Bool) → has_byte 61 text ≡ b → cond b (Some (after_first (λ x. x == 61) text)) None ≡ None → text ≡ name
    go true is none = cc
    go false is none = sym (whole text is) ∙ ap name_of e

second : (rest name : Text) → option_and_then long_of_rest (strip_byte 45 rest) ≡ Some (name, None) → rest ≡ 45 ∷ name
second [] name e = cc
second (x ∷ xs) name e = go (x == 45) refl e
  where
    end : (text : Text) → long_of_rest text ≡ Some (name, None) → text ≡ name
    end [] e = cc
    end (y ∷ ys) e = name_is (y ∷ ys) name e

    go : (b : Bool) → (x == 45) ≡ b → option_and_then long_of_rest (cond b (Some xs) None) ≡ Some (name, None) → x ∷ xs ≡ 45 ∷ name
    go true is e = ap₂ (λ y ys. y ∷ ys) (eqb-true x 45 is) (end xs e)
    go false is e = cc

-- the word of a long flag with no value
flag_word : (word name : Text) → long_of word ≡ Some (name, None) → word ≡ 45 ∷ 45 ∷ name
flag_word [] name e = cc
flag_word (x ∷ xs) name e = go (x == 45) refl e
  where
    go : (b : Bool) → (x == 45) ≡ b → option_and_then long_of_rest (option_and_then (strip_byte 45) (cond b (Some xs) None)) ≡ Some (name, None)
        → x ∷ xs ≡ 45 ∷ 45 ∷ name
    go true is e = ap₂ (λ y ys. y ∷ ys) (eqb-true x 45 is) (second xs name e)
    go false is e = cc

-- ---- the flags

abbrev pub help : Rule
help = filled help_rule

abbrev fair : Rule
fair = filled fair_rule

pub help_short : (b : Bool) (c : List Rule) (rest : Text) (rows : List Row) (next : Held → Kinds)
    → short_fault c false (cond (b || false) (Some help) None) rest (held rows) next ≡ [] → ⊥
help_short true c rest rows next e = some_kind _ _ e
help_short false c rest rows next e = some_kind _ _ e

pub help_long : (b : Bool) (c : List Rule) (v : Option Text) (rows : List Row)
    → long_fault c false (cond (b || false) (Some help) None) v (held rows) ≡ [] → ⊥
help_long true c (Some v) rows e = some_kind _ _ e
help_long true c None rows e = some_kind _ _ e
help_long false c v rows e = some_kind _ _ e

-- only `--fair` with no value passes
fair_long : (a b : Bool) (c : List Rule) (v : Option Text) (rows : List Row)
    → long_fault c false (cond (a || false) (Some fair) (cond (b || false) (Some help) None)) v (held rows) ≡ []
    → (a ≡ true) × (v ≡ None) × (react_fault c false fair [] (held rows) ≡ [])
fair_long true b c (Some v) rows e = absurd (some_kind _ _ e)
fair_long true b c None rows e = (refl, refl, e)
fair_long false b c v rows e = absurd (help_long b c v rows e)

-- ---- the subcommands

abbrev pub plain_leaf : Text → Shape
plain_leaf name = built_leaf (new_shape name)

abbrev pub fair_leaf : Text → Shape
fair_leaf name = built_leaf (fair_app name).top

-- no word is `--`
abbrev pub has_none : List Text → Type 0
has_none words = list_any is_dashes words ≡ false

first_turn : (s : Shape) (word : Text) (words : List Text) → level_fault s [] nothing_held (word ∷ words) false [] ≡ []
    → (turn_fault s [] (walk_from nothing_held) word ≡ []) × (walk_fault s [] (walked s.rules [] (walk_from nothing_held) word) words ≡ [])
unfolding walk_fault
first_turn s word words e = both_none _ _ (both_none _ _ e).0

-- a subcommand with no flag takes no word
pub plain_words : (name : Text) (words : List Text) → level_fault (plain_leaf name) [] nothing_held words false [] ≡ []
    → has_none words → words ≡ []
plain_words name [] e none = refl
plain_words name (word ∷ words) e none =
    let bad : ⊥ = long_word (plain_leaf name) [] refl (λ x rest next h. help_short (104 == x) (plain_leaf name).rules rest [] next h) word
    (λ p is h. help_long (bytes_eq (codes "help") p.0) (plain_leaf name).rules p.1 [] h) [] refl (or_parts _ _ none).0
    (first_turn (plain_leaf name) word words e).0 in
    absurd bad

-- the first word of a subcommand with the flag
fair_first : (name word : Text) → bytes_eq word (codes "--") ≡ false
    → turn_fault (fair_leaf name) [] (walk_from nothing_held) word ≡ [] → word ≡ codes "--fair"
fair_first name word differs e = long_word (fair_leaf name) [] refl (λ x rest next h. help_short (104 == x) (fair_leaf name).rules rest [] next h) word
    (λ p is h.
    let passed = fair_long (bytes_eq (codes "fair") p.0) (bytes_eq (codes "help") p.0) (fair_leaf name).rules p.1 [] h in
    let named : codes "fair" ≡ p.0 = (bytes_eq-Decides (codes "fair") p.0).0 passed.0 in
    flag_word word (codes "fair") (is ∙ ap₂ (λ n v. Some (n, v)) (sym named) passed.1))
    [] refl differs e

-- the rows after `--fair`
abbrev given : List Row
given = (reacted (fair ∷ help ∷ []) fair [] nothing_held).rows

-- and it takes no second one
fair_second : (name word : Text) → bytes_eq word (codes "--") ≡ false
    → turn_fault (fair_leaf name) [] (walk_from (held given)) word ≡ [] → ⊥
fair_second name word differs e = long_word (fair_leaf name) given refl (λ x rest next h. help_short (104 == x) (fair_leaf name).rules rest given next h) word
    (λ p is h. some_kind _ _ (fair_long (bytes_eq (codes "fair") p.0) (bytes_eq (codes "help") p.0) (fair_leaf name).rules p.1 given h).2)
    [] refl differs e

after_fair : (name : Text) (words : List Text)
    → walk_fault (fair_leaf name) [] (walked (fair_leaf name).rules [] (walk_from nothing_held) (codes "--fair")) words
    ≡ []
    → has_none words → words ≡ []
unfolding walk_fault walked
after_fair name [] e none = refl
after_fair name (word ∷ words) e none = absurd (fair_second name word (or_parts _ _ none).0 (both_none _ _ e).0)

-- a subcommand with the flag takes nothing else
pub fair_words : (name : Text) (words : List Text) → level_fault (fair_leaf name) [] nothing_held words false [] ≡ []
    → has_none words
    → (words ≡ []) ⊎ (words ≡ codes "--fair" ∷ [])
fair_words name [] e none = inl refl
fair_words name (word ∷ words) e none =
    let turns = first_turn (fair_leaf name) word words e in
    let dashes = or_parts (is_dashes word) _ none in
    let is : word ≡ codes "--fair" = fair_first name word dashes.0 turns.0 in
    let rest = subst (λ w. walk_fault (fair_leaf name) [] (walked (fair_leaf name).rules [] (walk_from nothing_held) w) words ≡ []) is turns.1 in
    inr (ap₂ (λ w ws. w ∷ ws) is (after_fair name words rest dashes.1))

-- ---- words that are no flags

no_long : (word : Text) → is_flag word ≡ false → long_of word ≡ None
no_long [] e = refl
no_long (x ∷ xs) e = rw e refl

no_short : (word : Text) → is_flag word ≡ false → short_of word ≡ None
no_short [] e = refl
no_short (x ∷ xs) e = rw e refl

no_dashes : (word : Text) → is_flag word ≡ false → bytes_eq word (45 ∷ 45 ∷ []) ≡ false
no_dashes [] e = refl
no_dashes (x ∷ xs) e = rw e refl

-- a word that is no flag and names nothing is a stray one
pub stray_turn : (s : Shape) (unplaced : arg_by_index s.rules 1 ≡ None)
    → ((x : ℕ) (rest : Text) (next : Held → Kinds) → short_fault s.rules s.args_override_self (arg_by_short s.rules x) rest nothing_held next ≡ [] → ⊥)
    → (word : Text) (names : Names) → subcommand_met names idle word ≡ None → is_flag word ≡ false → turn_fault s names (walk_from nothing_held) word ≡ stray_fault s
stray_turn s unplaced shorts word names none flag =
    stray_word s [] unplaced shorts word names none (no_dashes word flag) (no_long word flag) (no_short word flag)

pub first_fails : (a b c : Kinds) (k : ErrorKind) (ks : Kinds) → a ≡ k ∷ ks → or_else (or_else a b) c ≡ k ∷ ks
first_fails a b c k ks e = rw e refl
