-- The text of all outcomes of scripts. To be believed: promises speak of it.
use Rattle.std.specs.Prelude.{ℕ, List, [], ◌∷◌, ◌++◌, length, map, codes, Option, None, Some}
use Rattle.std.specs.List.{flat_map, sum_by}
use Rattle.std.specs.Fmt.{decimal}
use Rattle.reg_base.specs.declared.memory.Answer.{Answer}
use Rattle.reg_base.specs.declared.memory.Answer.TheVariants.{Done, Value, Unequal}
use Rattle.reg_base.specs.declared.memory.Op.{Op}
use Rattle.reg_text.specs.Lines.{text_of}
use Rattle.reg_outcomes.specs.declared.told.ToldAnswer.{ToldAnswer}
use Rattle.reg_outcomes.specs.declared.interleavings.nevers.TheConstants.{MOST_NEVERS}
use Rattle.reg_outcomes.specs.Interleavings.{AreAll, CountsStages, Interleaving}
use Rattle.reg_outcomes.specs.Nevers.{TellsNevers, tells}

-- an answer, after a space
abbrev pub answer_text : Answer → List ℕ
answer_text Done = codes " done"
answer_text (Value value) = codes " value " ++ decimal value
answer_text Unequal = codes " unequal"

-- an operation and its answer
abbrev pub value_text : ToldAnswer → List ℕ
value_text t = codes "p" ++ (decimal t.process ++ (codes " #" ++ (decimal t.number ++ answer_text t.answer)))

-- an operation and its answer, and two spaces
abbrev pub told_text : ToldAnswer → List ℕ
told_text t = value_text t ++ codes "  "

-- the processes in the order of their turns
abbrev pub turns_text : List ℕ → List ℕ
turns_text turns = codes "turns" ++ flat_map (λ p. codes " " ++ decimal p) turns

-- the line of an outcome
abbrev pub outcome_text : Interleaving → List ℕ
outcome_text i = flat_map told_text i.told ++ turns_text i.turns

-- answers, two spaces between them
abbrev pub values_text : List ToldAnswer → List ℕ
values_text [] = []
values_text (t ∷ ts) = value_text t ++ flat_map (λ u. codes "  " ++ value_text u) ts

-- the lines of what no outcome has: how many these are, and each of them, or that they are over the most that are
-- listed
abbrev pub never_lines : Option (List (List ToldAnswer)) → List (List ℕ)
never_lines None = (codes "never over " ++ decimal MOST_NEVERS) ∷ []
never_lines (Some nevers) = (codes "never " ++ decimal (length nevers)) ∷ map values_text nevers

abbrev pub all_lines : ℕ → ℕ → List Interleaving → Option (List (List ToldAnswer)) → List (List ℕ)
all_lines operations stages found nevers =
    (codes "operations " ++ decimal operations) ∷ (codes "stages " ++ decimal stages)
    ∷ (codes "outcomes " ++ decimal (length found)) ∷ (map outcome_text found ++ never_lines nevers)

abbrev pub all_text : ℕ → ℕ → List Interleaving → Option (List (List ToldAnswer)) → List ℕ
all_text operations stages found nevers = text_of (all_lines operations stages found nevers)

-- The text of all outcomes of these scripts was written, with what none has. `Wrote` says how a text was written.
pub record ShowsAll (scripts : List (List Op)) (registers : ℕ) (Wrote : List ℕ → Type 0) : Type 0 where
  pub found : List Interleaving
  pub stages : ℕ
  pub nevers : Option (List (List ToldAnswer))
  pub all : AreAll scripts registers found
  pub counted : CountsStages scripts registers stages
  pub told : TellsNevers (tells found) MOST_NEVERS nevers
  pub written : Wrote (all_text (sum_by length scripts) stages found nevers)
