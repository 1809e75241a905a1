-- Words by their places, and what the words ask for.
use Rattle.std.proofs.Common.{◌≡◌, inl, inr, ℕ, zero, suc, ◌+◌, ◌<◌, ◌≤◌, get_or, Bool, true, false, List, [], ◌∷◌}
use Rattle.std.proofs.Common.{length, drop, map, Option, Some, String, string_bytes, refl, ap, sym, ◌∙◌, arith}
use Rattle.std.specs.Prelude.{option_copied, slice_get}
use Rattle.std.specs.Str.{bytes_eq}
use Rattle.std.proofs.lemmas.Slice.Eq.{bytes_eq-Decides}
use Rattle.std.proofs.lemmas.Option.{same_Some}
use Rattle.reg_cli.specs.Subcommands.{Text}
use Rattle.reg_outcomes.specs.declared.tables.plays.TheConstants.{MOST_PLAYS}
use Rattle.reg_show_cli.specs.declared.topics.Topic.{Topic}
use Rattle.reg_show_cli.specs.declared.words.Asked.{Asked}
use Rattle.reg_show_cli.specs.declared.words.Asked.TheVariants.{AllOutcomes, Find, Help, Judge, Merge, Outcome}
use Rattle.reg_show_cli.specs.declared.words.Asked.TheVariants.{Outcomes, Schedule, ShortSchedule, Show, Story}
use Rattle.reg_show_cli.specs.declared.words.Asked.TheVariants.{Text as OfText, Verify, Version, Why}
use Rattle.reg_outcomes.specs.declared.orders.kinds.OrderKind.{OrderKind}
use Rattle.reg_outcomes.specs.declared.orders.kinds.OrderKind.TheVariants.{Serial, Points}
use Rattle.reg_show.specs.declared.Player.{Player}
use Rattle.reg_show_cli.specs.Lines.{IsAllLine, IsFindLine, IsHelpLine, IsJudgeLine, IsLineOf, IsMergeLine}
use Rattle.reg_show_cli.specs.Lines.{IsOneOutcomeLine, IsOutcomesLine, IsScheduleLine, IsShortLine, IsShowLine}
use Rattle.reg_show_cli.specs.Lines.{IsStoryLine, IsVerifyLine, IsVersionLine, IsWhyLine, NumbersFit, SaysPlays}
use Rattle.reg_show_cli.specs.Lines.{text_line}
use Rattle.reg_show.specs.declared.showing.View.{View}
use Rattle.reg_commands.specs.declared.command.Command.{Command}
use Rattle.reg_commands.specs.declared.command.Command.TheVariants.{Check, Play, Replay}

-- the bytes of the word at a place
pub bytes_at : {A : Type 0} (words : List (String A)) (place : ℕ) (x : String A) → place < length words
    → x ≡ get_or words place x → slice_get (map string_bytes words) place ≡ Some (string_bytes x)
bytes_at [] place x lt e = absurd (omega arith)
bytes_at (y ∷ words) zero x lt e = ap (λ s. Some (string_bytes s)) (sym e)
bytes_at (y ∷ words) (suc place) x lt e = bytes_at words place x (omega arith) e

pub no_bytes : {A : Type 0} (words : List (String A)) (place : ℕ) (w : Text) → length words ≤ place
    → slice_get (map string_bytes words) place ≡ Some w → ⊥
no_bytes [] place w le h = absurd cc
no_bytes (y ∷ words) zero w le h = omega arith
no_bytes (y ∷ words) (suc place) w le h = no_bytes words place w (omega arith) h

-- whether the word that stands there is this one
pub tells_word : (r : Bool) (a x w : Text) (o : Option Text) → r ≡ bytes_eq a w → a ≡ x → o ≡ Some x
    → (r ≡ true → o ≡ Some w) × (o ≡ Some w → r ≡ true)
tells_word r a x w o is e there =
    let test = bytes_eq-Decides a w in
    (λ t. there ∙ ap Some (sym e ∙ test.0 (sym is ∙ t)), λ h. is ∙ test.1 (e ∙ same_Some x w (sym there ∙ h)))

-- words after the program's name, by their places
pub one_word : (ws : List Text) (x : Text) → length ws ≡ 2 → slice_get ws 1 ≡ Some x → drop 1 ws ≡ x ∷ []
one_word [] x n h = absurd cc
one_word (a ∷ []) x n h = absurd cc
one_word (a ∷ b ∷ []) x n h = ap (λ y. y ∷ []) (same_Some b x h)
one_word (a ∷ b ∷ c ∷ ws) x n h = absurd (omega arith)

pub two_words : (ws : List Text) (x y : Text) → length ws ≡ 3 → slice_get ws 1 ≡ Some x → slice_get ws 2 ≡ Some y
    → drop 1 ws ≡ x ∷ y ∷ []
two_words [] x y n h i = absurd cc
two_words (a ∷ []) x y n h i = absurd cc
two_words (a ∷ b ∷ []) x y n h i = absurd cc
two_words (a ∷ b ∷ c ∷ []) x y n h i = ap (λ t. t ∷ c ∷ []) (same_Some b x h) ∙ ap (λ t. x ∷ t ∷ []) (same_Some c y i)
two_words (a ∷ b ∷ c ∷ d ∷ ws) x y n h i = absurd (omega arith)

-- a word of the line has its place after the program's name
pub word_at : (ws line : List Text) (k : ℕ) (x : Text) → drop 1 ws ≡ line → slice_get line k ≡ Some x
    → slice_get ws (suc k) ≡ Some x
word_at [] line k x e h = ap (λ l. slice_get l k) e ∙ h
word_at (a ∷ ws) line k x e h = ap (λ l. slice_get l k) e ∙ h

-- the length of such a line
pub long_as : (ws line : List Text) (x : Text) (rest : List Text) → drop 1 ws ≡ line → line ≡ x ∷ rest
    → length ws ≡ length line + 1
long_as [] line x rest e f = absurd (none (e ∙ f))
  where
    none : [] ≡ x ∷ rest → ⊥
    none g = absurd cc
long_as (a ∷ ws) line x rest e f = let n = ap length e in omega (arith, n)

-- no such line asks for a command of awreg
pub no_text : (line : List Text) → ¬ (line ≡ text_line Replay) → ¬ (line ≡ text_line Check)
    → ¬ (line ≡ text_line (Play false)) → ¬ (line ≡ text_line (Play true)) → (command : Command)
    → ¬ (line ≡ text_line command)
no_text line replay check play fair Replay h = replay h
no_text line replay check play fair Check h = check h
no_text line replay check play fair (Play false) h = play h
no_text line replay check play fair (Play true) h = fair h

-- words that ask for none of these ask for nothing
module _ (line : List Text)
    (why : ¬ IsWhyLine line)
    (verified : ¬ IsVerifyLine line)
    (merged : ¬ IsMergeLine line)
    (storied : ¬ IsStoryLine line)
    (judged : (first : Option Text) (report : Bool) → ¬ IsJudgeLine line first report)
    (version : ¬ IsVersionLine line)
    (every : ¬ IsAllLine line)
    (help : (topic : Option Topic) → ¬ IsHelpLine line topic)
    (texts : (command : Command) → ¬ (line ≡ text_line command))
    (shown : (view : View) → ¬ IsShowLine line view)
    (one : (number : ℕ) → ¬ IsOneOutcomeLine line number)
    (found : (kind : OrderKind) → ¬ IsFindLine line kind)
    (scheduled : (player : Player) → ¬ IsScheduleLine line player)
    (shortened : (player : Player) → ¬ IsShortLine line player)
    (counted : (plays : ℕ) (seed : Option ℕ) → ¬ IsOutcomesLine line plays seed) where
  pub asks_nothing : (asked : Asked) → ¬ IsLineOf asked line
  asks_nothing (OfText command) h = texts command h
  asks_nothing (Show view) h = shown view h
  asks_nothing (Schedule player) h = scheduled player h
  asks_nothing (ShortSchedule player) h = shortened player h
  asks_nothing (Outcomes plays seed) h = counted plays seed h
  asks_nothing AllOutcomes h = every h
  asks_nothing (Outcome number) h = one number h
  asks_nothing (Find kind) h = found kind h
  asks_nothing Why h = why h
  asks_nothing Verify h = verified h
  asks_nothing Merge h = merged h
  asks_nothing Story h = storied h
  asks_nothing (Judge flags) h = judged (option_copied flags.first) flags.report h
  asks_nothing (Help topic) h = help topic h
  asks_nothing Version h = version h

-- a word stands alone just where there are two, and the second one is that
pub alone_length : (ws : List Text) (word : Text) → drop 1 ws ≡ word ∷ [] → length ws ≡ 2
alone_length ws word e = let n = long_as ws (word ∷ []) word [] e refl in omega (arith, n)

pub alone_named : (ws : List Text) (word : Text) → drop 1 ws ≡ word ∷ [] → slice_get ws 1 ≡ Some word
alone_named ws word e = word_at ws (word ∷ []) 0 word e refl

-- so do two words
pub two_length : (ws : List Text) (x y : Text) → drop 1 ws ≡ x ∷ y ∷ [] → length ws ≡ 3
two_length ws x y e = let n = long_as ws (x ∷ y ∷ []) x (y ∷ []) e refl in omega (arith, n)

pub first_word : (ws : List Text) (x y : Text) → drop 1 ws ≡ x ∷ y ∷ [] → slice_get ws 1 ≡ Some x
first_word ws x y e = word_at ws (x ∷ y ∷ []) 0 x e refl

pub second_word : (ws : List Text) (x y : Text) → drop 1 ws ≡ x ∷ y ∷ [] → slice_get ws 2 ≡ Some y
second_word ws x y e = word_at ws (x ∷ y ∷ []) 1 y e refl

-- no order is asked for where neither is
pub no_order : (line : List Text) → ¬ IsFindLine line Serial → ¬ IsFindLine line Points → (kind : OrderKind)
    → ¬ IsFindLine line kind
no_order line serial points Serial h = serial h
no_order line serial points Points h = points h

few_plays : (flags : List Text) (plays : ℕ) (seed : Option ℕ) → SaysPlays flags plays seed → plays ≤ MOST_PLAYS
few_plays flags plays seed (inl (usual, e)) = omega (arith, usual)
few_plays flags plays seed (inr (some, few, e)) = few

-- the numbers of what is asked for fit
pub numbers_fit : (line : List Text) (asked : Asked) → IsLineOf asked line → NumbersFit asked
numbers_fit line (OfText command) h = tt
numbers_fit line (Show view) h = tt
numbers_fit line (Schedule player) h = h.1
numbers_fit line (ShortSchedule player) h = h.2.1
numbers_fit line (Outcomes plays seed) h = (few_plays h.0 plays seed h.2, h.3)
numbers_fit line AllOutcomes h = tt
numbers_fit line (Outcome number) h = h.1
numbers_fit line (Find kind) h = tt
numbers_fit line Why h = tt
numbers_fit line Verify h = tt
numbers_fit line Merge h = tt
numbers_fit line Story h = tt
numbers_fit line (Judge flags) h = tt
numbers_fit line (Help topic) h = tt
numbers_fit line Version h = tt
