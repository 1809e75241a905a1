-- A log made again, entry by entry.
use Rattle.std.proofs.Common.{◌≡◌, ℕ, ◌+◌, ◌<◌, true, List, [], ◌∷◌, ◌++◌, length, take, Some, ap, sym, ◌∙◌, subst}
use Rattle.std.specs.Prelude.{slice_get}
use Rattle.std.proofs.lemmas.List.{take_more}
use Rattle.std.proofs.lemmas.Option.{get_or_from_slice_get}
use Rattle.reg_base.specs.declared.memory.Op.{Op}
use Rattle.reg_front.specs.declared.starts.Start.{Start}
use Rattle.reg_process.specs.Process.{State, step}
use Rattle.reg_process.specs.Events.{Kept}
use Rattle.reg_records.specs.declared.entries.LogEntry.{LogEntry}
use Rattle.reg_node.specs.Logs.{IsStep, AreSteps, state_after}
use Rattle.reg_node.specs.Replaying.{Remakes, IsReplayed}
use Rattle.reg_node.proofs.Steps.{steps_push, state_push}

module _ (start : Op → ℕ → Start) where
  module _ (first : State) (log : List LogEntry) (place : ℕ) (entry : LogEntry) (old new : Kept) (stands : slice_get log place ≡ Some entry) (within : place < length log) (is : IsReplayed start first log place old) where
    -- the next entry is made again
    pub replayed_more : Remakes start old entry true new → IsReplayed start first log (place + 1) new
    replayed_more made =
        let more : take (place + 1) log ≡ take place log ++ entry ∷ [] =
        take_more log place entry within ∙ ap (λ (e : LogEntry). take place log ++ e ∷ []) (get_or_from_slice_get log place entry entry stands) in
        let here : IsStep start (state_after start first (take place log)) entry = subst (λ (s : State). IsStep start s entry) is.going.1 made.0 in
        let state : new.state ≡ state_after start first (take place log ++ entry ∷ []) =
        made.1.1 ∙ (ap (λ (s : State). (step start s entry.step).0) is.going.1 ∙ sym (state_push start first (take place log) entry)) in
        record {
          steps = subst (λ (es : List LogEntry). AreSteps start first es) (sym more) (steps_push start first (take place log) entry is.steps here);
          going = (made.1.0, state ∙ ap (λ (es : List LogEntry). state_after start first es) (sym more));
        }
