-- What was shown where the text of all outcomes was sent.
use Rattle.std.proofs.Common.{ℕ, ◌≡◌, List, length, Option, Result, Ok, Err, subst}
use Rattle.std.specs.Prelude.{IfErr, IfOk, IsErrOf, MatchResult}
use Rattle.std.specs.List.{sum_by}
use Rattle.reg_base.specs.declared.memory.Op.{Op}
use Rattle.reg_outcomes.specs.declared.told.ToldAnswer.{ToldAnswer}
use Rattle.reg_outcomes.specs.declared.interleavings.nevers.TheConstants.{MOST_NEVERS}
use Rattle.reg_outcomes.specs.AllText.{ShowsAll, all_text}
use Rattle.reg_outcomes.specs.Interleavings.{AreAll, CountsStages, Interleaving}
use Rattle.reg_outcomes.specs.Nevers.{TellsNevers, tells}

pub if_sent : {X E R : Type 0} (P : Type 0) (Q : E → Type 0) (r : Result X E) → (P → R) → MatchResult r (λ _. P) Q
    → IfOk r (λ _. R)
if_sent P Q (Ok x) to h = to h
if_sent P Q (Err e) to h = tt

pub if_in_part : {X E R : Type 0} (P : Type 0) (Q : E → Type 0) (r : Result X E) (e : E) → (Q e → R)
    → MatchResult r (λ _. P) Q → IsErrOf r e → R
if_in_part P Q r e to h is = to (subst (λ x. MatchResult x (λ _. P) Q) is h)

pub if_ok : {X E : Type 0} (P Q : X → Type 0) (r : Result X E) → ((x : X) → P x → Q x) → IfOk r P → IfOk r Q
if_ok P Q (Ok x) to h = to x h
if_ok P Q (Err e) to h = tt

pub if_err : {X E : Type 0} (P Q : E → Type 0) (r : Result X E) → ((e : E) → P e → Q e) → IfErr r P → IfErr r Q
if_err P Q (Ok x) to h = tt
if_err P Q (Err e) to h = to e h

module _ (given scripts : List (List Op)) (held registers : ℕ) (same : given ≡ scripts) (as_many : held ≡ registers) where
  -- what is found of the scripts, written
  pub shows : (operations stages : ℕ) (found listed : List Interleaving) (nevers : Option (List (List ToldAnswer)))
      → operations ≡ sum_by length given → AreAll given held found → CountsStages given held stages → listed ≡ found
      → TellsNevers (tells listed) MOST_NEVERS nevers
      → (Wrote : List ℕ → Type 0) → Wrote (all_text operations stages found nevers) → ShowsAll scripts registers Wrote
  shows operations stages found listed nevers count all counted is told Wrote written = subst (λ s. ShowsAll s registers Wrote) same (subst (λ n. ShowsAll given n Wrote) as_many (record {
    found = found;
    stages = stages;
    nevers = nevers;
    all = all;
    counted = counted;
    told = subst (λ l. TellsNevers (tells l) MOST_NEVERS nevers) is told;
    written = subst (λ n. Wrote (all_text n stages found nevers)) count written;
  }))
