-- What clap's clauses say of a program's words, where its proofs give which lines it takes.
use Rattle.std.proofs.Common.{◌≡◌, ◌∙◌, ◌&&◌, ◌⊎◌, Bool, true, List, [], drop, Option, Some, None, sym, ap, inl, inr}
use Rattle.clap.specs.Words.{App, HasMatchesOf, Row, Text, fault_of, is_simple, is_simple_and_free, subcommand_of}
use Rattle.clap.specs.Words.{subcommand_rows_of, takes}
use Rattle.clap.specs.Simple.{argument_words, built, entered, names_of}
use Rattle.clap.specs.Takes.{built_takes}
use Rattle.clap.specs.Walk.{nothing_held, stop_after}
use Rattle.clap.specs.Faults.{built_fault, is_free_app}
use Rattle.clap.specs.declared.ArgMatches.{ArgMatches}
use Rattle.std.proofs.lemmas.Bool.{and_parts}
use Rattle.reg_cli.specs.Subcommands.{met_of, named_line}
use Rattle.reg_cli.proofs.Getters.{some_parts}
use Rattle.reg_cli.proofs.Leaves.{has_none}

abbrev pub met_at : App → List Text → Option (Text × Option Bool)
met_at program line =
    met_of (entered (built program) (stop_after (built program).top.rules (names_of (built program)) line))

-- each x has a name and may be fair
module _ {X : Type 0} (name_of : X → Text) (is_fair : X → Bool) where
  abbrev pub line_of : X → List Text
  line_of x = named_line (name_of x) (is_fair x)

  abbrev pub HasLine : List Text → Type 0
  HasLine line = (x : X) × (line ≡ line_of x)

  -- the program takes just the lines of the xs, and meets their names
  pub record TakesLines (program : App) : Type 0 where
    pub simple : is_simple_and_free program ≡ true
    pub named : (words : List Text) → argument_words program words ≡ drop 1 words
    pub taken : (x : X) → built_takes (built program) nothing_held (line_of x) ≡ true
    pub met : (x : X) → met_at program (line_of x) ≡ Some (name_of x, Some (is_fair x))
    pub nowhere : met_at program [] ≡ None
    pub only : (line : List Text) → built_fault (built program) nothing_held line ≡ [] → has_none line → (line ≡ []) ⊎ HasLine line

  module _ (program : App) (lines : TakesLines program) where
    is_plain : is_simple program ≡ true
    is_plain = (and_parts (is_simple program) (is_free_app (built program)) lines.simple).0

    -- a line of an x is refused for want of memory only
    pub takes_line : (words : List Text) (x : X) → drop 1 words ≡ line_of x → takes program words ≡ true
    takes_line words x e =
        ap (λ line. is_simple program && built_takes (built program) nothing_held line) (lines.named words ∙ e)
        ∙ ap (λ b. b && built_takes (built program) nothing_held (line_of x)) is_plain ∙ lines.taken x

    -- of the command as it was made
    pub rows_found : (a : App) (words : List Text) (m : ArgMatches) → a ≡ program → HasMatchesOf a words m → subcommand_rows_of m ≡ subcommand_of program words
    rows_found a words m is matches = (matches (ap is_simple is ∙ is_plain)).1 ∙ ap (λ p. subcommand_of p words) is

    pub no_fault : (a : App) (words : List Text) → a ≡ program → (is_simple_and_free a ≡ true → fault_of a words ≡ []) → fault_of program words ≡ []
    no_fault a words is none = sym (ap (λ p. fault_of p words) is) ∙ none (ap is_simple_and_free is ∙ lines.simple)

    module _ (words : List Text) (found : Option (Text × List Row)) (is : found ≡ subcommand_of program words) (met : Option (Text × Bool))
        (meets : (name : Text) (fair : Bool) → met_of found ≡ Some (name, Some fair) → met ≡ Some (name, fair)) where
      met_is : met_of found ≡ met_at program (drop 1 words)
      met_is = ap met_of is ∙ ap (met_at program) (lines.named words)

      met_line : (x : X) → drop 1 words ≡ line_of x → met ≡ Some (name_of x, is_fair x)
      met_line x e = meets (name_of x) (is_fair x) (met_is ∙ ap (met_at program) e ∙ lines.met x)

      -- where no subcommand is met, the line is of no x
      pub none_met : met ≡ None → HasLine (drop 1 words) → ⊥
      none_met none line =
          let some : met ≡ Some (name_of line.0, is_fair line.0) = met_line line.0 line.1 in
          cc

      -- where one is met, the line is that of an x with this name
      pub one_met : (name : Text) (fair : Bool) → fault_of program words ≡ [] → has_none (drop 1 words) → (met_of found ≡ None → met ≡ None) → met ≡ Some (name, fair)
          → (x : X) × (drop 1 words ≡ line_of x) × (name_of x ≡ name) × (is_fair x ≡ fair)
      one_met name fair passes dashes none some = elim (lines.only (drop 1 words) (ap (built_fault (built program) nothing_held) (sym (lines.named words)) ∙ passes) dashes) [
        | inl empty ↦
            let nowhere : met ≡ None = none (met_is ∙ ap (met_at program) empty ∙ lines.nowhere) in
            let bad : ⊥ = cc in
            absurd bad
        | inr line ↦
            let both : Some (name_of line.0, is_fair line.0) ≡ Some (name, fair) = sym (met_line line.0 line.1) ∙ some in
            let same = some_parts (name_of line.0) name (is_fair line.0) fair both in
            (line.0, line.1, same.0, same.1)
      ]
