-- A word that names no subcommand, no flag and no position is refused.
use Rattle.std.proofs.Common.{◌≡◌, ◌∙◌, ℕ, zero, suc, Bool, true, false, cond, true≢false, List, [], ◌∷◌, length}
use Rattle.std.proofs.Common.{Option, Some, None, refl, sym, ap, subst}
use Rattle.std.specs.Prelude.{slice_get}
use Rattle.std.specs.Option.{option_map_or}
use Rattle.std.specs.Str.{bytes_eq, chars}
use Rattle.clap.specs.Lexer.{long_of, short_of}
use Rattle.clap.specs.Kinds.{Kinds, or_else}
use Rattle.clap.specs.Walk.{Held, Names, Row, Rule, Text, after_flag, arg_by_index, arg_by_long, arg_by_short}
use Rattle.clap.specs.Walk.{bundle_met, bundle_step, idle, long_or_other, plain, short_or_plain, subcommand_met}
use Rattle.clap.specs.Walk.{subcommand_or_other, trailing, value, walk_from}
use Rattle.clap.specs.Simple.{Shape}
use Rattle.clap.specs.Faults.{bundle_fault, bundle_step_fault, flag_word_fault, flags_fault, long_fault, other_fault}
use Rattle.clap.specs.Faults.{positional_fault, short_fault, step_fault, stray_fault, turn_fault}
use Rattle.clap.specs.declared.error.ErrorKind.{ErrorKind}
use Rattle.clap.specs.declared.error.ErrorKind.TheVariants as kind

pub some_kind : (k : ErrorKind) (ks : Kinds) → k ∷ ks ≡ [] → ⊥
some_kind k ks e = cc

pub both_none : (a b : Kinds) → or_else a b ≡ [] → (a ≡ []) × (b ≡ [])
both_none [] b e = (refl, e)
both_none (k ∷ ks) b e = absurd (some_kind k ks e)

-- what is held where no argument waits for values
abbrev pub held : List Row → Held
held rows = record { rows = rows; pending = None; skip = 0 }

stray : (s : Shape) → stray_fault s ≡ [] → ⊥
stray s e = go s.is_leaf e
  where
    go : (b : Bool) → cond b (kind.UnknownArgument ∷ []) (kind.UnknownArgument ∷ kind.InvalidSubcommand ∷ []) ≡ [] → ⊥
    go true e = some_kind _ _ e
    go false e = some_kind _ _ e

-- a command with no positional and no short flag but help's
module _ (s : Shape) (rows : List Row) (unplaced : arg_by_index s.rules 1 ≡ None)
    (shorts : (x : ℕ) (rest : Text) (next : Held → Kinds) → short_fault s.rules s.args_override_self (arg_by_short s.rules x) rest (held rows) next ≡ [] → ⊥) where
  abbrev args : List Rule
  args = s.rules

  abbrev again : Bool
  again = s.args_override_self

  plain_strays : (h : Held) → step_fault s 1 h value ≡ [] → ⊥
  plain_strays h e = stray s (ap (λ o. option_map_or (λ a. positional_fault args again a h) o (stray_fault s)) (sym unplaced) ∙ e)

  module _ (word : Text) where
    bundle_strays : (k : ℕ) (flags : Text)
        → or_else (flags_fault args again k flags 0 (held rows)) (step_fault s 1
        (after_flag args idle word (bundle_met args k flags 0 plain (held rows)).0 (bundle_met args k flags 0 plain (held rows)).1).0
        (after_flag args idle word (bundle_met args k flags 0 plain (held rows)).0 (bundle_met args k flags 0 plain (held rows)).1).1) ≡ [] → ⊥
    unfolding flags_fault bundle_met
    bundle_strays zero flags e = plain_strays (held rows) e
    bundle_strays (suc k) flags e = go (slice_get (chars flags) 0) e
      where
        go : (o : Option ℕ)
            → or_else (bundle_step_fault args again o flags 0 (held rows) (flags_fault args again k)) (step_fault s 1
            (after_flag args idle word (bundle_step args o flags 0 plain (held rows) (bundle_met args k)).0 (bundle_step args o flags 0 plain (held rows) (bundle_met args k)).1).0
            (after_flag args idle word (bundle_step args o flags 0 plain (held rows) (bundle_met args k)).0 (bundle_step args o flags 0 plain (held rows) (bundle_met args k)).1).1) ≡ [] → ⊥
        go None e = plain_strays (held rows) e
        go (Some x) e = shorts x _ _ (both_none _ _ e).0

    short_strays : (o : Option Text)
        → or_else (option_map_or (λ flags. bundle_fault args again flags (held rows)) o [])
        (step_fault s 1 (short_or_plain args idle word o (held rows)).0 (short_or_plain args idle word o (held rows)).1) ≡ [] → ⊥
    short_strays None e = plain_strays (held rows) e
    short_strays (Some flags) e = bundle_strays (length flags) flags e

    module _ {P : Type 0}
        (longs : (p : Text × Option Text) → long_of word ≡ Some p → long_fault args again (arg_by_long args p.0) p.1 (held rows) ≡ [] → P) where
      long_strays : (o : Option (Text × Option Text)) → long_of word ≡ o
          → or_else (flag_word_fault args again o word (held rows))
          (step_fault s 1 (long_or_other args idle word o (held rows)).0 (long_or_other args idle word o (held rows)).1) ≡ [] → P
      long_strays None is e = absurd (short_strays (short_of word) e)
      long_strays (Some p) is e = longs p is (both_none _ _ e).0

      dashed : (b : Bool) → b ≡ false
          → or_else (cond b [] (flag_word_fault args again (long_of word) word (held rows)))
          (step_fault s 1 (cond b (held rows, trailing 1) (long_or_other args idle word (long_of word) (held rows))).0
          (cond b (held rows, trailing 1) (long_or_other args idle word (long_of word) (held rows))).1) ≡ [] → P
      dashed true differs e = absurd (true≢false differs)
      dashed false differs e = long_strays (long_of word) refl e

      -- a word that passes and names no subcommand is a long flag
      pub long_word : (names : Names) → subcommand_met names idle word ≡ None → bytes_eq word (45 ∷ 45 ∷ []) ≡ false
          → turn_fault s names (walk_from (held rows)) word ≡ [] → P
      long_word names none differs e = dashed (bytes_eq word (45 ∷ 45 ∷ [])) differs (subst (λ o. or_else (other_fault s o word (held rows))
          (step_fault s 1 (subcommand_or_other args o idle 1 word (held rows)).0 (subcommand_or_other args o idle 1 word (held rows)).1) ≡ []) none e)

    module _ (names : Names) (none : subcommand_met names idle word ≡ None) (differs : bytes_eq word (45 ∷ 45 ∷ []) ≡ false) (long : long_of word ≡ None)
        (short : short_of word ≡ None) where
      abbrev here : Held
      here = held rows

      -- a word that is no flag and names nothing is told as a stray one
      pub stray_word : turn_fault s names (walk_from here) word ≡ stray_fault s
      stray_word =
          ap (λ o. or_else (other_fault s o word here) (step_fault s 1 (subcommand_or_other args o idle 1 word here).0 (subcommand_or_other args o idle 1 word here).1)) none
          ∙ ap (λ b. or_else (cond b [] (flag_word_fault args again (long_of word) word here))
          (step_fault s 1 (cond b (here, trailing 1) (long_or_other args idle word (long_of word) here)).0
          (cond b (here, trailing 1) (long_or_other args idle word (long_of word) here)).1)) differs
          ∙ ap (λ o. or_else (flag_word_fault args again o word here) (step_fault s 1 (long_or_other args idle word o here).0 (long_or_other args idle word o here).1)) long
          ∙ ap (λ o. or_else (option_map_or (λ flags. bundle_fault args again flags here) o [])
          (step_fault s 1 (short_or_plain args idle word o here).0 (short_or_plain args idle word o here).1)) short
          ∙ ap (λ o. option_map_or (λ a. positional_fault args again a here) o (stray_fault s)) unplaced
