-- The words that a program with subcommands passes: none, or a subcommand's name and the words that it passes.
use Rattle.std.proofs.Common.{◌≡◌, ◌∙◌, ◌==◌, true, false, List, [], ◌∷◌, fold, Some, None, refl, sym, ap, subst, codes}
use Rattle.std.specs.Str.{bytes_eq}
use Rattle.std.proofs.lemmas.Slice.Eq.{bytes_eq-Decides}
use Rattle.clap.specs.Words.{App, Shape, Text, new_app, with_subcommand}
use Rattle.clap.specs.Simple.{built, names_of}
use Rattle.clap.specs.Walk.{Names, Walk, idle, nothing_held, subcommand_met, walk, walk_from, walked}
use Rattle.clap.specs.Faults.{built_fault, entered_fault, turn_fault, walk_fault}
use Rattle.clap.specs.Kinds.{Kinds, or_else}
use Rattle.clap.specs.declared.error.ErrorKind.{ErrorKind}
use Rattle.clap.specs.declared.error.ErrorKind.TheVariants.{InvalidSubcommand, UnknownArgument}
use Rattle.clap.proofs.FaultLemmas.{stopped_fault}
use Rattle.clap.proofs.WalkLemmas.{walk_stopped}
use Rattle.reg_cli.specs.Subcommands.{is_dashes, is_flag}
use Rattle.reg_cli.proofs.Strays.{both_none, long_word}
use Rattle.reg_cli.proofs.Leaves.{first_fails, help_long, help_short, stray_turn}

-- a program with a subcommand, as clap builds it
abbrev pub top_shape : Text → Shape
top_shape name = (built (with_subcommand (new_app name) (new_app name).top)).top

abbrev pub start : Walk
start = walk_from nothing_held

then_fails : (t w b c : Kinds) (k : ErrorKind) (ks : Kinds) → t ≡ [] → w ≡ [] → b ≡ k ∷ ks
    → or_else (or_else t w) (or_else b c) ≡ k ∷ ks
then_fails t w b c k ks turn left fails = rw (turn, left, fails) refl

-- the program with these subcommands, of which the last is `help`
module _ (program : Text) (subs : List Shape) where
  abbrev pub whole : App
  whole = record { top = top_shape program; subs = subs }

  abbrev pub names : Names
  names = names_of whole

  abbrev pub passes : List Text → Type 0
  passes line = built_fault whole nothing_held line ≡ []

  pub first_turn : (word : Text) (rest : List Text) → passes (word ∷ rest) → turn_fault whole.top names start word ≡ []
  unfolding walk_fault
  first_turn word rest e = (both_none _ _ (both_none _ _ e).0).0

  -- the words after a subcommand's name are left to it
  stop_is : (name : Text) (rest : List Text) → walked whole.top.rules names start name ≡ record start { stopped = Some (name, []) }
      → Some (name, rest) ≡ (walk whole.top.rules names nothing_held (name ∷ rest)).stopped
  stop_is name rest stops = ap (λ (w : Walk). w.stopped)
      (walk_stopped whole.top.rules names start name [] rest ∙ ap (λ (w : Walk). fold (walked whole.top.rules names) w rest) (sym stops))

  pub below : (name : Text) (rest : List Text)
      → walked whole.top.rules names start name ≡ record start { stopped = Some (name, []) } → passes (name ∷ rest)
      → entered_fault whole (Some (name, rest)) ≡ []
  below name rest stops e = subst (λ s. entered_fault whole s ≡ []) (sym (stop_is name rest stops)) (both_none _ _ (both_none _ _ e).1).0

  -- where the subcommand's words fail, the program's fail as they do
  pub fails_below : (name : Text) (rest : List Text) (k : ErrorKind) (ks : Kinds)
      → walked whole.top.rules names start name ≡ record start { stopped = Some (name, []) }
      → turn_fault whole.top names start name ≡ [] → entered_fault whole (Some (name, rest)) ≡ k ∷ ks → built_fault whole nothing_held (name ∷ rest) ≡ k ∷ ks
  unfolding walk_fault
  fails_below name rest k ks stops turn fails =
      let left : walk_fault whole.top names (walked whole.top.rules names start name) rest ≡ [] =
      ap (λ (w : Walk). walk_fault whole.top names w rest) stops ∙ stopped_fault whole.top names start (name, []) rest in
      then_fails _ _ _ _ k ks turn left (ap (entered_fault whole) (sym (stop_is name rest stops)) ∙ fails)

  -- a stray first word is an unknown argument, or may be a subcommand's misspelt name
  pub stray_first : (word : Text) (rest : List Text) → subcommand_met names idle word ≡ None → is_flag word ≡ false
      → built_fault whole nothing_held (word ∷ rest) ≡ UnknownArgument ∷ InvalidSubcommand ∷ []
  unfolding walk_fault
  stray_first word rest none flag = first_fails _ _ _ _ _
      (stray_turn whole.top refl (λ x letters next h. help_short (104 == x) whole.top.rules letters [] next h) word names none flag)

  -- a first word that is no subcommand's name is refused
  pub no_subcommand : (word : Text) (rest : List Text) → subcommand_met names idle word ≡ None → is_dashes word ≡ false
      → passes (word ∷ rest) → ⊥
  no_subcommand word rest none differs e = long_word whole.top [] refl (λ x letters next h. help_short (104 == x) whole.top.rules letters [] next h) word
      (λ p is h. help_long (bytes_eq (codes "help") p.0) whole.top.rules p.1 [] h) names none differs (first_turn word rest e)

  -- what holds at a name holds at the word that is that name
  pub at_name : (P : List Text → Type 0) (word : Text) (rest : List Text) (name : Text) → bytes_eq name word ≡ true
      → (passes (name ∷ rest) → P (name ∷ rest))
      → passes (word ∷ rest) → P (word ∷ rest)
  at_name P word rest name is line e =
      let same : name ≡ word = (bytes_eq-Decides name word).0 is in
      subst (λ w. P (w ∷ rest)) same (line (subst (λ w. passes (w ∷ rest)) (sym same) e))
