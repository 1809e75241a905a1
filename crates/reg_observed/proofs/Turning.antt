-- Steps of the check of turns.
use Rattle.std.proofs.Common.{ℕ, ◌≡◌, ◌+◌, ◌<◌, ◌≤◌, List, [], ◌∷◌, length, drop, get_or, set, slice_get, Option, None}
use Rattle.std.proofs.Common.{Some, refl, ap, sym, ◌∙◌, arith, zero, suc}
use Rattle.std.proofs.lemmas.Option.{slice_get-get_or}
use Rattle.reg_judge.proofs.Lists.{from_here, past_end}
use Rattle.reg_observed.specs.declared.events.Event.{Event}
use Rattle.reg_observed.specs.declared.faults.Why.{Why}
use Rattle.reg_observed.specs.Turns.{first_wrong, found_or, running_after, wrong_turn}

-- within the list no default is read
pub same_default : {X : Type 0} (xs : List X) (i : ℕ) (c d : X) → i < length xs → get_or xs i c ≡ get_or xs i d
same_default [] i c d lt = absurd (omega arith)
same_default (x ∷ xs) zero c d lt = refl
same_default (x ∷ xs) (suc i) c d lt = same_default xs i c d (omega arith)

module _ (events : List Event) (running : List (Option Event)) (i : ℕ) (d : Event) (call : Option Event) (inside : i < length events) (p_in : (get_or events i d).process < length running) (reads : call ≡ get_or running (get_or events i d).process call) where
  step : first_wrong running (drop i events) ≡ found_or (get_or events i d) (wrong_turn (get_or events i d) call) (first_wrong (set running (get_or events i d).process (running_after (get_or events i d))) (drop (i + 1) events))
  unfolding first_wrong
  step =
      ap (first_wrong running) (from_here events i d inside)
      ∙ ap (λ o. found_or (get_or events i d) (wrong_turn (get_or events i d) o) (first_wrong (set running (get_or events i d).process (running_after (get_or events i d))) (drop (i + 1) events)))
      (same_default running (get_or events i d).process None call p_in ∙ sym reads)

  pub in_turn : (after : Option Event) → wrong_turn (get_or events i d) call ≡ None
      → after ≡ running_after (get_or events i d)
      → first_wrong running (drop i events)
      ≡ first_wrong (set running (get_or events i d).process after) (drop (i + 1) events)
  in_turn after none is = step ∙ ap (λ o. found_or (get_or events i d) o (first_wrong (set running (get_or events i d).process (running_after (get_or events i d))) (drop (i + 1) events))) none
      ∙ ap (λ a. first_wrong (set running (get_or events i d).process a) (drop (i + 1) events)) (sym is)

  pub out_of_turn : (why : Why) → wrong_turn (get_or events i d) call ≡ Some why
      → first_wrong running (drop i events) ≡ Some ((get_or events i d).line, why)
  out_of_turn why e = step ∙ ap (λ o. found_or (get_or events i d) o (first_wrong (set running (get_or events i d).process (running_after (get_or events i d))) (drop (i + 1) events))) e

pub at_end : (events : List Event) (running : List (Option Event)) (i : ℕ) → length events ≤ i
    → first_wrong running (drop i events) ≡ None
unfolding first_wrong
at_end events running i le = ap (first_wrong running) (past_end events i le)

-- the process of the event at a place is one of these
pub process_within : (events : List Event) (n len i : ℕ) (d : Event)
    → ((k : ℕ) (e : Event) → slice_get events k ≡ Some e → e.process < n) → i < length events → len ≡ n
    → (get_or events i d).process < len
process_within events n len i d all lt is =
    let less : (get_or events i d).process < n = all i (get_or events i d) (slice_get-get_or events i d lt) in
    omega arith
