-- What flags say of a short form.
use Rattle.std.proofs.Common.{◌≡◌, inl, inr, ℕ, ◌≤◌, List, [], ◌∷◌, ◌++◌, Option, Some, None, codes, ap, sym, ◌∙◌}
use Rattle.std.proofs.Common.{subst}
use Rattle.std.specs.Prelude.{MatchOption}
use Rattle.reg_cli.specs.Subcommands.{Text}
use Rattle.reg_base.specs.declared.limits.TheConstants.{LAST_SEED}
use Rattle.reg_show.specs.declared.Player.{Player}
use Rattle.reg_show.specs.declared.Player.TheVariants.{Fair, Seeded}
use Rattle.reg_show_cli.specs.Lines.{IsShortLine, SaysPlayer, SaysShort, player_words, seed_words, short_words}
use Rattle.reg_show_cli.proofs.Flagged.{first_or, same_rest}

-- what is said of a player whose play is to be short, or that flags say none
abbrev pub ShortSaid : List Text → Option Player → Type 0
ShortSaid flags r = MatchOption r ((player : Player) → ¬ SaysShort flags player) (SaysShort flags)

other_flag : (rest : List Text) (player : Player) → codes "--short" ∷ rest ≡ player_words player ++ short_words
    → rest ≡ player_words player
other_flag rest Fair e = let differ : codes "--short" ≡ codes "--fair" = ap first_or e in absurd (cc)
other_flag rest (Seeded None) e = same_rest (codes "--short") (codes "--short") rest [] e
other_flag rest (Seeded (Some seed)) e = let differ : codes "--short" ≡ codes "--seed" = ap first_or e in absurd (cc)

-- the flag for it stands first
pub short_first : (flags rest : List Text) (r : Option Player) → flags ≡ codes "--short" ∷ rest
    → MatchOption r ((player : Player) → ¬ SaysPlayer rest player) (SaysPlayer rest) → ShortSaid flags r
short_first flags rest (Some player) is said = (inl (is ∙ ap (λ fs. codes "--short" ∷ fs) said.0), said.1)
short_first flags rest None is none = go
  where
    go : (player : Player) → ¬ SaysShort flags player
    go player (inl e, fits) = none player (same_rest (codes "--short") (codes "--short") rest (player_words player) (sym is ∙ e), fits)
    go player (inr e, fits) = none player (other_flag rest player (sym is ∙ e), fits)

-- it stands neither first nor after the flags of a player
pub short_nowhere : (flags : List Text) → ((rest : List Text) → flags ≡ codes "--short" ∷ rest → ⊥)
    → (flags ≡ player_words Fair ++ short_words → ⊥)
    → ((seed : ℕ) → seed ≤ LAST_SEED → ¬ (flags ≡ seed_words (Some seed) ++ short_words))
    → (player : Player) → ¬ SaysShort flags player
short_nowhere flags first fair seeded player (inl e, fits) = first (player_words player) e
short_nowhere flags first fair seeded Fair (inr e, fits) = fair e
short_nowhere flags first fair seeded (Seeded None) (inr e, fits) = first [] e
short_nowhere flags first fair seeded (Seeded (Some seed)) (inr e, fits) = seeded seed fits e

-- the line of such flags
pub asked_short : (line flags : List Text) (r : Option Player) → line ≡ codes "schedule" ∷ flags → ShortSaid flags r
    → MatchOption r ((player : Player) → ¬ IsShortLine line player) (IsShortLine line)
asked_short line flags None e none = λ player asked.
    none player (subst (λ fs. SaysShort fs player) (sym (same_rest (codes "schedule") (codes "schedule") flags asked.0 (sym e ∙ asked.1))) asked.2)
asked_short line flags (Some player) e said = (flags, e, said)
