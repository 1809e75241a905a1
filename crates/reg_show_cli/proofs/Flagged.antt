-- What flags say.
use Rattle.std.proofs.Common.{◌≡◌, inl, inr, ℕ, ◌≤◌, List, [], ◌∷◌, ◌++◌, drop, Option, Some, None, codes, ap, sym, ◌∙◌}
use Rattle.std.proofs.Common.{subst, arith}
use Rattle.std.specs.Prelude.{MatchOption}
use Rattle.std.specs.Fmt.{decimal}
use Rattle.std.proofs.lemmas.Fmt.{decimal_injective}
use Rattle.reg_cli.specs.Subcommands.{Text}
use Rattle.reg_base.specs.declared.limits.TheConstants.{LAST_SEED}
use Rattle.reg_outcomes.specs.declared.tables.plays.TheConstants.{MOST_PLAYS}
use Rattle.reg_show.specs.Seeds.{IsSeed}
use Rattle.reg_show_cli.specs.declared.flags.Plays.{Plays}
use Rattle.reg_show_cli.specs.Lines.{IsOneOutcomeLine, IsOutcomesLine, SaysPlays, SaysSeed, plays_words, seed_words}

abbrev pub first_or : List Text → Text
first_or [] = []
first_or (w ∷ ws) = w

-- the texts behind the same first one are the same
pub same_rest : (x y : Text) (xs ys : List Text) → x ∷ xs ≡ y ∷ ys → xs ≡ ys
same_rest x y xs ys e = ap (drop 1) e

-- a number that is 0 asks for no outcome
pub no_outcome : (line flags : List Text) (n : ℕ) → line ≡ codes "outcomes" ∷ flags
    → flags ≡ codes "--all" ∷ decimal n ∷ [] → n ≡ 0 → (number : ℕ) → ¬ IsOneOutcomeLine line number
no_outcome line flags n e f none number asked =
    let full : line ≡ codes "outcomes" ∷ codes "--all" ∷ decimal n ∷ [] = e ∙ ap (λ fs. codes "outcomes" ∷ fs) f in
    let same : decimal n ≡ decimal number = ap (λ ws. first_or (drop 2 ws)) (sym full ∙ asked.0) in
    let some = asked.1 in
    let few = asked.2 in
    let is = decimal_injective n number (omega (arith, none)) (omega (arith, few)) same in
    absurd (omega (arith, is, none, some))

-- what is said of plays that flags say, or that they say none
abbrev pub PlaysSaid : List Text → Option Plays → Type 0
PlaysSaid flags r = MatchOption r ((plays : ℕ) (seed : Option ℕ) → IsSeed seed → ¬ SaysPlays flags plays seed) (λ p. SaysPlays flags p.plays p.seed × IsSeed p.seed)

abbrev pub BehindSeed : List Text → Option Plays → Type 0
BehindSeed flags r = MatchOption r ((plays : ℕ) (seed : ℕ) → 1 ≤ plays → plays ≤ MOST_PLAYS → seed ≤ LAST_SEED → ¬ (flags ≡ seed_words (Some seed) ++ plays_words plays)) (λ p. SaysPlays flags p.plays p.seed × IsSeed p.seed)

-- a seed, and then plays
pub plays_behind : (flags rest : List Text) (seed plays : ℕ) (r : Option Plays)
    → flags ≡ codes "--seed" ∷ decimal seed ∷ rest → seed ≤ LAST_SEED → rest ≡ codes "--plays" ∷ decimal plays ∷ []
    → plays ≤ MOST_PLAYS
    → MatchOption r (plays ≡ 0) (λ p. (1 ≤ plays) × (p.plays ≡ plays) × (p.seed ≡ Some seed)) → BehindSeed flags r
plays_behind flags rest seed plays None e fits f few none = λ number other some most low said.
    let full : flags ≡ codes "--seed" ∷ decimal seed ∷ codes "--plays" ∷ decimal plays ∷ [] = e ∙ ap (λ fs. codes "--seed" ∷ decimal seed ∷ fs) f in
    let same : decimal plays ≡ decimal number = ap (λ ws. first_or (drop 3 ws)) (sym full ∙ said) in
    let is = decimal_injective plays number (omega (arith, few)) (omega (arith, most)) same in
    omega (arith, is, none, some)
plays_behind flags rest seed plays (Some p) e fits f few (some, are, is) =
    let full : flags ≡ seed_words (Some seed) ++ plays_words plays = e ∙ ap (λ fs. codes "--seed" ∷ decimal seed ∷ fs) f in
    let said : SaysPlays flags plays (Some seed) × IsSeed (Some seed) = (inr (some, few, inr full), fits) in
    subst (λ q. SaysPlays flags q p.seed × IsSeed p.seed) (sym are) (subst (λ s. SaysPlays flags plays s × IsSeed s) (sym is) said)

module _ (flags : List Text) (none : (seed : Option ℕ) → ¬ SaysSeed flags seed) where
  -- the first flag is none for plays
  pub plays_later : (r : Option Plays)
      → ((plays : ℕ) (rest : List Text) → plays ≤ MOST_PLAYS → flags ≡ codes "--plays" ∷ decimal plays ∷ rest → ⊥)
      → BehindSeed flags r → PlaysSaid flags r
  plays_later None first behind = go
    where
      go : (plays : ℕ) (seed : Option ℕ) → IsSeed seed → ¬ SaysPlays flags plays seed
      go plays seed fits (inl (usual, e)) = none seed (e, fits)
      go plays seed fits (inr (some, few, inl e)) = first plays (seed_words seed) few e
      go plays None fits (inr (some, few, inr e)) = first plays [] few e
      go plays (Some seed) fits (inr (some, few, inr e)) = behind plays seed some few fits e
  plays_later (Some p) first behind = behind

  -- the first flag is the one for plays, with this number
  pub plays_first : (rest : List Text) (number : ℕ) (r : Option Plays) → flags ≡ codes "--plays" ∷ decimal number ∷ rest
      → number ≤ MOST_PLAYS
      → MatchOption r ((seed : Option ℕ) → 1 ≤ number → ¬ SaysSeed rest seed) (λ p. (1 ≤ number) × (p.plays ≡ number) × SaysSeed rest p.seed) → PlaysSaid flags r
  plays_first rest number None is low missed = go
    where
      same : (plays : ℕ) (others : List Text) → plays ≤ MOST_PLAYS → flags ≡ codes "--plays" ∷ decimal plays ∷ others → number ≡ plays
      same plays others few e = decimal_injective number plays (omega (arith, low)) (omega (arith, few)) (ap (λ ws. first_or (drop 1 ws)) (sym is ∙ e))

      go : (plays : ℕ) (seed : Option ℕ) → IsSeed seed → ¬ SaysPlays flags plays seed
      go plays seed fits (inl (usual, e)) = none seed (e, fits)
      go plays seed fits (inr (some, few, inl e)) =
          let n = same plays (seed_words seed) few e in
          missed seed (omega (arith, n, some)) (ap (drop 2) (sym is ∙ e), fits)
      go plays None fits (inr (some, few, inr e)) =
          let n = same plays [] few e in
          missed None (omega (arith, n, some)) (ap (drop 2) (sym is ∙ e), fits)
      go plays (Some seed) fits (inr (some, few, inr e)) =
          let differ : codes "--plays" ≡ codes "--seed" = ap first_or (sym is ∙ e) in
          cc
  plays_first rest number (Some p) is low (some, are, said) =
      let full : flags ≡ plays_words number ++ seed_words p.seed = is ∙ ap (λ fs. codes "--plays" ∷ decimal number ∷ fs) said.0 in
      subst (λ q. SaysPlays flags q p.seed × IsSeed p.seed) (sym are) (inr (some, low, inl full), said.1)

-- the line of such flags
pub outcomes_line : (line flags : List Text) (r : Option Plays) → line ≡ codes "outcomes" ∷ flags → PlaysSaid flags r
    → MatchOption r ((plays : ℕ) (seed : Option ℕ) → ¬ IsOutcomesLine line plays seed)
    (λ p. IsOutcomesLine line p.plays p.seed)
outcomes_line line flags None e none = λ plays seed asked.
    none plays seed asked.3 (subst (λ fs. SaysPlays fs plays seed) (sym (same_rest (codes "outcomes") (codes "outcomes") flags asked.0 (sym e ∙ asked.1))) asked.2)
outcomes_line line flags (Some p) e said = (flags, e, said.0, said.1)
