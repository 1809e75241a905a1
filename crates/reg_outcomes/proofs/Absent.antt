-- Outcomes that no play had.
use Rattle.std.proofs.Common.{◌≡◌, ℕ, ◌+◌, ◌≤◌, true, false, List, [], ◌∷◌, ◌++◌, Option, Some, None, refl, sym, ◌∙◌}
use Rattle.std.proofs.Common.{subst, arith, length-append}
use Rattle.std.specs.Option.{is_some}
use Rattle.std.specs.BTreeMap.{BTreeMap, get}
use Rattle.reg_base.specs.declared.memory.Op.{Op}
use Rattle.reg_outcomes.specs.declared.told.ToldAnswer.{ToldAnswer}
use Rattle.reg_outcomes.specs.Interleavings.{AreAll, CountsStages, HasMoreStages, Interleaving}
use Rattle.reg_outcomes.specs.declared.tables.tallies.Tally.{Tally}
use Rattle.reg_outcomes.specs.PlayTables.{HasOutcome, Nothing, Seen}
use Rattle.reg_outcomes.specs.Counts.{IsCounted, TellsOf, key_cmp}
use Rattle.reg_outcomes.specs.Outcomes.{CountsUndrawn, TellsUndrawn, WasDrawn}
use Rattle.reg_outcomes.specs.declared.tables.undrawn.TheConstants.{MOST_COUNTED_STAGES}
use Rattle.reg_outcomes.proofs.Those.{those_at, those_more, those_same}

module _ {K : Type 0} (items : K → List ToldAnswer) (plays : List Seen) (told : BTreeMap K Tally) (unfinished : ℕ) (counted : IsCounted items plays told unfinished) (key : K) (i : Interleaving) (is : items key ≡ i.told) where
  drawn_by : (o : Option Tally) → TellsOf plays (items key) o → is_some o ≡ true → WasDrawn plays i
  drawn_by None tells e = absurd cc
  drawn_by (Some t) (those, are, tally) e =
      let first = tally.shortest in
      let there = those_at are first.0 first.1 first.2 in
      (there.0, first.1, there.1, subst (λ l. HasOutcome l first.1) is there.2)

  never_by : (o : Option Tally) → TellsOf plays (items key) o → is_some o ≡ false → ¬ WasDrawn plays i
  never_by None tells e = λ drawn. tells drawn.0 drawn.1 drawn.2 drawn.3.finished (drawn.3.same ∙ sym is)
  never_by (Some t) tells e = absurd cc

  -- an outcome that the map has, and one that it has not
  pub was_drawn : is_some (get (key_cmp items) told key) ≡ true → WasDrawn plays i
  was_drawn e = drawn_by (get (key_cmp items) told key) (counted.tells key) e

  pub never_drawn : is_some (get (key_cmp items) told key) ≡ false → ¬ WasDrawn plays i
  never_drawn e = never_by (get (key_cmp items) told key) (counted.tells key) e

module _ (plays : List Seen) (others : List Interleaving) (i : Interleaving) where
  -- one outcome more
  pub absent_more : (n : ℕ) → ¬ WasDrawn plays i → CountsUndrawn plays others n
      → CountsUndrawn plays (others ++ i ∷ []) (n + 1)
  absent_more n never (those, are, e) = (those ++ i ∷ [], those_more i never are, (let l = length-append those (i ∷ []) in omega (arith, e, l)))

  pub absent_same : (n : ℕ) → WasDrawn plays i → CountsUndrawn plays others n → CountsUndrawn plays (others ++ i ∷ []) n
  absent_same n drawn (those, are, e) = (those, those_same i (λ never. never drawn) are, e)

pub absent_none : (plays : List Seen) → CountsUndrawn plays [] 0
absent_none plays = ([], Nothing, refl)

-- what is told of them, by other names of the scripts
module _ (given scripts : List (List Op)) (held registers : ℕ) (same : given ≡ scripts) (as_many : held ≡ registers) (plays : List Seen) where
  by_names : (o : Option ℕ) → TellsUndrawn given held plays o → TellsUndrawn scripts registers plays o
  by_names o told = subst (λ s. TellsUndrawn s registers plays o) same (subst (λ n. TellsUndrawn given n plays o) as_many told)

  pub tells_few : (stages n : ℕ) (found listed : List Interleaving) → CountsStages given held stages
      → stages ≤ MOST_COUNTED_STAGES → AreAll given held found → listed ≡ found → CountsUndrawn plays listed n
      → TellsUndrawn scripts registers plays (Some n)
  tells_few stages n found listed counts few all is counted = by_names (Some n) (stages, counts, few, found, all, subst (λ l. CountsUndrawn plays l n) is counted)

  pub tells_many : HasMoreStages given held MOST_COUNTED_STAGES → TellsUndrawn scripts registers plays None
  tells_many more = by_names None more
