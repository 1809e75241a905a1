-- Logs of one process, entry by entry.
use Rattle.std.proofs.Common.{◌≡◌, ℕ, zero, suc, ◌+◌, List, [], ◌∷◌, ◌++◌, length, take, Some, refl, ap, subst, arith}
use Rattle.std.specs.Prelude.{cond, slice_get}
use Rattle.std.proofs.lemmas.List.Sums.{sum_by_push}
use Rattle.std.proofs.lemmas.Option.{same_Some}
use Rattle.reg_base.specs.declared.memory.Op.{Op}
use Rattle.reg_front.specs.declared.starts.Start.{Start}
use Rattle.reg_process.specs.Process.{State, step}
use Rattle.reg_records.specs.declared.entries.LogEntry.{LogEntry}
use Rattle.reg_node.specs.Logs.{IsStep, AreSteps, calls_in, is_call, state_after, output_of, outputs_of}
use Rattle.reg_node.specs.Opening.{IsFirstNoStep}

pub calls_push : (es : List LogEntry) (e : LogEntry) → calls_in (es ++ e ∷ []) ≡ calls_in es + calls_in (e ∷ [])
calls_push es e =
    let more : calls_in (es ++ e ∷ []) ≡ calls_in es + cond (is_call e.step) 1 0 = sum_by_push (λ (x : LogEntry). cond (is_call x.step) 1 0) es e in
    omega (arith, more)

module _ (start : Op → ℕ → Start) where
  -- one entry more
  pub steps_push : (s : State) (es : List LogEntry) (e : LogEntry) → AreSteps start s es
      → IsStep start (state_after start s es) e → AreSteps start s (es ++ e ∷ [])
  steps_push s [] e r is = (is, tt)
  steps_push s (x ∷ xs) e r is = (r.0, steps_push (step start s x.step).0 xs e r.1 is)

  pub state_push : (s : State) (es : List LogEntry) (e : LogEntry)
      → state_after start s (es ++ e ∷ []) ≡ (step start (state_after start s es) e.step).0
  state_push s [] e = refl
  state_push s (x ∷ xs) e = state_push (step start s x.step).0 xs e

  pub outputs_push : (s : State) (es : List LogEntry) (e : LogEntry)
      → outputs_of start s (es ++ e ∷ [])
      ≡ outputs_of start s es ++ output_of start (state_after start s es) e.step ∷ []
  outputs_push s [] e = refl
  outputs_push s (x ∷ xs) e = ap (λ l. output_of start s x.step ∷ l) (outputs_push (step start s x.step).0 xs e)

  -- each entry has one
  pub outputs_count : (s : State) (es : List LogEntry) → length (outputs_of start s es) ≡ length es
  outputs_count s [] = refl
  outputs_count s (x ∷ xs) = ap suc (outputs_count (step start s x.step).0 xs)

  -- the first entries of a log
  pub steps_take : (k : ℕ) (s : State) (es : List LogEntry) → AreSteps start s es → AreSteps start s (take k es)
  steps_take zero s es r = tt
  steps_take (suc k) s [] r = tt
  steps_take (suc k) s (x ∷ xs) r = (r.0, steps_take k (step start s x.step).0 xs r.1)

  pub outputs_take : (k : ℕ) (s : State) (es : List LogEntry)
      → outputs_of start s (take k es) ≡ take k (outputs_of start s es)
  outputs_take zero s es = refl
  outputs_take (suc k) s [] = refl
  outputs_take (suc k) s (x ∷ xs) = ap (λ l. output_of start s x.step ∷ l) (outputs_take k (step start s x.step).0 xs)

  -- each entry is a step in the state after those before it
  pub steps_at : (s : State) (es : List LogEntry) (place : ℕ) (e : LogEntry) → AreSteps start s es
      → slice_get es place ≡ Some e → IsStep start (state_after start s (take place es)) e
  steps_at s [] place e r h = absurd (let bad : ⊥ = cc in bad)
  steps_at s (x ∷ xs) zero e r h = subst (λ (y : LogEntry). IsStep start s y) (same_Some x e h) r.0
  steps_at s (x ∷ xs) (suc n) e r h = steps_at (step start s x.step).0 xs n e r.1 h

  pub no_log : (s : State) (es : List LogEntry) (place : ℕ) → IsFirstNoStep start s es place → ¬ AreSteps start s es
  no_log s es place f r = f.wrong (steps_at s es place f.entry r f.stands)
