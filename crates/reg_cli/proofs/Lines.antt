-- Which words clap's parse takes, and what it meets there.
use Rattle.std.proofs.Common.{◌≡◌, ◌⊎◌, inl, inr, true, false, List, [], ◌∷◌, Some, None, refl, ap, codes}
use Rattle.std.specs.List.{list_any}
use Rattle.std.specs.Str.{bytes_eq}
use Rattle.std.proofs.lemmas.Bool.{cases_Bool, or_parts}
use Rattle.clap.specs.Words.{Shape, Text}
use Rattle.clap.specs.Simple.{built, names_of}
use Rattle.clap.specs.Takes.{built_takes}
use Rattle.clap.specs.Walk.{idle, nothing_held, subcommand_met, walked}
use Rattle.clap.specs.Faults.{built_fault, entered_fault}
use Rattle.clap.proofs.OnLiterals.{clap_on_literals}
use Rattle.reg_commands.specs.declared.Command.TheVariants.{Check, Play, Replay}
use Rattle.reg_cli.specs.Subcommands.{is_dashes}
use Rattle.reg_cli.proofs.Chosen.{TakesLines, met_at}
use Rattle.reg_cli.proofs.Strays.{some_kind}
use Rattle.reg_cli.proofs.Leaves.{fair_words, has_none, plain_words}
use Rattle.reg_cli.proofs.Programs.{at_name, below, first_turn, no_subcommand, start}
use Rattle.reg_cli.specs.Lines.{IsCommandLine, is_fair, line_of, name_of}
use Rattle.reg_cli.specs.Apps.{awreg}
use Rattle.reg_cli.specs.declared.words.Asked.{Asked}
use Rattle.reg_cli.specs.declared.words.Asked.TheVariants.{Live, Text as OverText}

taken : (asked : Asked) → built_takes (built awreg) nothing_held (line_of asked) ≡ true
unfolding clap_on_literals
taken Live = refl
taken (OverText Replay) = refl
taken (OverText Check) = refl
taken (OverText (Play true)) = refl
taken (OverText (Play false)) = refl

met : (asked : Asked) → met_at awreg (line_of asked) ≡ Some (name_of asked, Some (is_fair asked))
unfolding clap_on_literals
met Live = refl
met (OverText Replay) = refl
met (OverText Check) = refl
met (OverText (Play true)) = refl
met (OverText (Play false)) = refl

-- ---- no other line passes

abbrev subs : List Shape
subs = (built awreg).subs

abbrev passes : List Text → Type 0
passes line = built_fault (built awreg) nothing_held line ≡ []

rest_of : (name : Text) (rest : List Text)
    → walked (built awreg).top.rules (names_of (built awreg)) start name ≡ record start { stopped = Some (name, []) }
    → passes (name ∷ rest) → entered_fault (built awreg) (Some (name, rest)) ≡ []
rest_of = below (codes "awreg") subs

replay_line : (rest : List Text) → has_none rest → passes (codes "replay" ∷ rest)
    → IsCommandLine (codes "replay" ∷ rest)
unfolding walked
replay_line rest none e = (OverText Replay, ap (λ ws. codes "replay" ∷ ws) (plain_words (codes "replay") rest (rest_of (codes "replay") rest refl e) none))

check_line : (rest : List Text) → has_none rest → passes (codes "check" ∷ rest) → IsCommandLine (codes "check" ∷ rest)
unfolding walked
check_line rest none e = (OverText Check, ap (λ ws. codes "check" ∷ ws) (plain_words (codes "check") rest (rest_of (codes "check") rest refl e) none))

live_line : (rest : List Text) → has_none rest → passes (codes "live" ∷ rest) → IsCommandLine (codes "live" ∷ rest)
unfolding walked
live_line rest none e =
    (Live, ap (λ ws. codes "live" ∷ ws) (plain_words (codes "live") rest (rest_of (codes "live") rest refl e) none))

play_line : (rest : List Text) → has_none rest → passes (codes "play" ∷ rest) → IsCommandLine (codes "play" ∷ rest)
unfolding walked
play_line rest none e = elim (fair_words (codes "play") rest (rest_of (codes "play") rest refl e) none) [
  | inl is ↦ (OverText (Play false), ap (λ ws. codes "play" ∷ ws) is)
  | inr is ↦ (OverText (Play true), ap (λ ws. codes "play" ∷ ws) is)
]

help_line : (rest : List Text) → passes (codes "help" ∷ rest) → ⊥
help_line rest e = some_kind _ _ (first_turn (codes "awreg") subs (codes "help") rest e)

no_name : (word : Text) → bytes_eq (codes "replay") word ≡ false → bytes_eq (codes "check") word ≡ false
    → bytes_eq (codes "live") word ≡ false
    → bytes_eq (codes "play") word ≡ false → bytes_eq (codes "help") word ≡ false → subcommand_met (names_of (built awreg)) idle word ≡ None
no_name word replay check live play help = rw (replay, check, live, play, help) refl

module _ (word : Text) (rest : List Text) (e : passes (word ∷ rest)) (dashes : has_none (word ∷ rest)) where
  none : (is_dashes word ≡ false) × has_none rest
  none = or_parts (is_dashes word) (list_any is_dashes rest) dashes

  at : (name : Text) → bytes_eq name word ≡ true → (passes (name ∷ rest) → IsCommandLine (name ∷ rest)) → IsCommandLine (word ∷ rest)
  at name is line = at_name (codes "awreg") subs IsCommandLine word rest name is line e

  named_line : IsCommandLine (word ∷ rest)
  named_line = elim (cases_Bool (bytes_eq (codes "replay") word)) [
    | inl is ↦ at (codes "replay") is (replay_line rest none.1)
    | inr replay ↦ elim (cases_Bool (bytes_eq (codes "check") word)) [
      | inl is ↦ at (codes "check") is (check_line rest none.1)
      | inr check ↦ elim (cases_Bool (bytes_eq (codes "live") word)) [
        | inl is ↦ at (codes "live") is (live_line rest none.1)
        | inr live ↦ elim (cases_Bool (bytes_eq (codes "play") word)) [
          | inl is ↦ at (codes "play") is (play_line rest none.1)
          | inr play ↦ elim (cases_Bool (bytes_eq (codes "help") word)) [
            | inl is ↦ at (codes "help") is (λ h. absurd (help_line rest h))
            | inr help ↦ absurd (no_subcommand (codes "awreg") subs word rest (no_name word replay check live play help) none.0 e)
          ]
        ]
      ]
    ]
  ]

passed_line : (line : List Text) → passes line → has_none line → (line ≡ []) ⊎ IsCommandLine line
passed_line [] e dashes = inl refl
passed_line (word ∷ rest) e dashes = inr (named_line word rest e dashes)

-- the program takes just the lines of what can be asked for
pub awreg_lines : TakesLines name_of is_fair awreg
awreg_lines = record {
  simple = refl;
  named = λ words. refl;
  taken = taken;
  met = met;
  nowhere = refl;
  only = passed_line;
}
