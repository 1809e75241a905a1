-- What a round of a fair play does.
use Rattle.std.proofs.Common.{◌≡◌, ℕ, ◌+◌, ◌<◌, ◌≤◌, true, false, length, Option, Some, None, refl, sym, ap, ◌∙◌, arith}
use Rattle.std.specs.Prelude.{cond, ◌&&◌, nat_lt}
use Rattle.std.proofs.lemmas.Bool.{cond-true, cond_both, lt-ltb, ltb-true, and_parts, and_from}
use Rattle.reg_base.specs.declared.memory.Op.{Op}
use Rattle.reg_front.specs.declared.starts.Start.{Start}
use Rattle.reg_process.specs.declared.events.Event.TheVariants.{Take}
use Rattle.reg_workload.specs.Plays.{Playing, may_call, next_frame, makes, calls_next, passes}
use Rattle.reg_workload.specs.Rounds.{call_in_round, take_if_room, take_in_round, calls_in_round, takes_from_in_round}
use Rattle.reg_workload.specs.Rounds.{takes_in_round, round, rounds}
use Rattle.reg_workload.proofs.Turning.{steps_more, steps_stay}

module _ (start : Op → ℕ → Start) (budget : ℕ) where
  -- one call
  pub call_not : (s : Playing) (p : ℕ) → may_call start s p ≡ false → call_in_round start budget s p ≡ s
  unfolding call_in_round
  call_not s p may = ap (λ b. cond (b && nat_lt (length s.made.accepted) budget) (calls_next start s p) s) may

  pub call_full : (s : Playing) (p : ℕ) → length s.made.accepted ≡ budget → call_in_round start budget s p ≡ s
  unfolding call_in_round
  call_full s p full = cond_both (may_call start s p && nat_lt (length s.made.accepted) budget) (calls_next start s p) s (λ t. t ≡ s)
      (λ e. let l = ltb-true (length s.made.accepted) budget (and_parts (may_call start s p) _ e).1 in absurd (omega (arith, l, full)))
      (λ _. refl)

  pub call_made : (s : Playing) (p : ℕ) → may_call start s p ≡ true → length s.made.accepted < budget
      → call_in_round start budget s p ≡ calls_next start s p
  unfolding call_in_round
  call_made s p may l = cond-true (may_call start s p && nat_lt (length s.made.accepted) budget) (calls_next start s p) s (and_from _ _ may (lt-ltb (length s.made.accepted) budget l))

  -- one take
  pub take_not : (s : Playing) (from to : ℕ) → next_frame start s from to ≡ None
      → take_in_round start budget s from to ≡ s
  unfolding take_in_round
  take_not s from to none = ap (take_if_room start budget s from to) none

  pub take_full : (s : Playing) (from to : ℕ) → length s.made.accepted ≡ budget
      → take_in_round start budget s from to ≡ s
  unfolding take_in_round
  take_full s from to full = go (next_frame start s from to)
    where
      go : (o : Option ℕ) → take_if_room start budget s from to o ≡ s
      go None = refl
      go (Some number) = cond_both (nat_lt (length s.made.accepted) budget) (passes (makes start s (Take from to number)) from to) s (λ t. t ≡ s)
          (λ e. let l = ltb-true (length s.made.accepted) budget e in absurd (omega (arith, l, full)))
          (λ _. refl)

  pub take_made : (s : Playing) (from to number : ℕ) → next_frame start s from to ≡ Some number
      → length s.made.accepted < budget
      → take_in_round start budget s from to ≡ passes (makes start s (Take from to number)) from to
  unfolding take_in_round
  take_made s from to number next l = ap (take_if_room start budget s from to) next ∙ cond-true (nat_lt (length s.made.accepted) budget) (passes (makes start s (Take from to number)) from to) s (lt-ltb (length s.made.accepted) budget l)

  -- once the budget is used up nothing changes any more
  pub takes_from_full : (from n : ℕ) (s : Playing) → length s.made.accepted ≡ budget
      → takes_from_in_round start budget from n s ≡ s
  takes_from_full from n s full = steps_stay (λ to t. take_in_round start budget t from to) 0 n s s refl (omega arith) (λ to. take_full s from to full)

  pub takes_full : (n : ℕ) (s : Playing) → length s.made.accepted ≡ budget → takes_in_round start budget n s ≡ s
  takes_full n s full = steps_stay (λ from t. takes_from_in_round start budget from t.made.processes t) 0 n s s refl (omega arith) (λ from. takes_from_full from s.made.processes s full)

  pub calls_full : (n : ℕ) (s : Playing) → length s.made.accepted ≡ budget → calls_in_round start budget n s ≡ s
  calls_full n s full = steps_stay (λ p t. call_in_round start budget t p) 0 n s s refl (omega arith) (λ p. call_full s p full)

  -- a round, from its two parts
  pub round_is : (s mid new : Playing) → mid ≡ calls_in_round start budget s.made.processes s
      → mid.made.processes ≡ s.made.processes → new ≡ takes_in_round start budget mid.made.processes mid
      → new ≡ round start budget s
  unfolding round
  round_is s mid new a n b = b ∙ (ap (λ k. takes_in_round start budget k mid) n ∙ ap (takes_in_round start budget s.made.processes) a)

  pub round_full : (s : Playing) → length s.made.accepted ≡ budget → round start budget s ≡ s
  unfolding round
  round_full s full = ap (takes_in_round start budget s.made.processes) (calls_full s.made.processes s full) ∙ takes_full s.made.processes s full

  -- one step more, and no more steps once the budget is used up
  pub calls_more : (n : ℕ) (s mid new : Playing) → mid ≡ calls_in_round start budget n s
      → new ≡ call_in_round start budget mid n → new ≡ calls_in_round start budget (n + 1) s
  calls_more n s mid new a b = b ∙ (ap (λ t. call_in_round start budget t n) a ∙ sym (steps_more (λ p t. call_in_round start budget t p) n s))

  pub calls_end : (k n : ℕ) (s new : Playing) → new ≡ calls_in_round start budget k s → k ≤ n
      → length new.made.accepted ≡ budget → new ≡ calls_in_round start budget n s
  calls_end k n s new e l full = sym (steps_stay (λ p t. call_in_round start budget t p) k n s new (sym e) l (λ p. call_full new p full))

  pub takes_from_more : (from n : ℕ) (s mid new : Playing) → mid ≡ takes_from_in_round start budget from n s
      → new ≡ take_in_round start budget mid from n → new ≡ takes_from_in_round start budget from (n + 1) s
  takes_from_more from n s mid new a b = b ∙ (ap (λ t. take_in_round start budget t from n) a ∙ sym (steps_more (λ to t. take_in_round start budget t from to) n s))

  pub takes_from_end : (from k n : ℕ) (s new : Playing) → new ≡ takes_from_in_round start budget from k s → k ≤ n
      → length new.made.accepted ≡ budget → new ≡ takes_from_in_round start budget from n s
  takes_from_end from k n s new e l full = sym (steps_stay (λ to t. take_in_round start budget t from to) k n s new (sym e) l (λ to. take_full new from to full))

  pub takes_more : (n : ℕ) (s mid new : Playing) → mid ≡ takes_in_round start budget n s
      → new ≡ takes_from_in_round start budget n mid.made.processes mid → new ≡ takes_in_round start budget (n + 1) s
  takes_more n s mid new a b = b ∙ (ap (λ t. takes_from_in_round start budget n t.made.processes t) a ∙ sym (steps_more (λ from t. takes_from_in_round start budget from t.made.processes t) n s))

  pub takes_end : (k n : ℕ) (s new : Playing) → new ≡ takes_in_round start budget k s → k ≤ n
      → length new.made.accepted ≡ budget → new ≡ takes_in_round start budget n s
  takes_end k n s new e l full = sym (steps_stay (λ from t. takes_from_in_round start budget from t.made.processes t) k n s new (sym e) l (λ from. takes_from_full from new.made.processes new full))

  pub rounds_more : (n : ℕ) (s mid new : Playing) → mid ≡ rounds start budget n s → new ≡ round start budget mid
      → new ≡ rounds start budget (n + 1) s
  rounds_more n s mid new a b = b ∙ (ap (round start budget) a ∙ sym (steps_more (λ _ t. round start budget t) n s))

  -- after a round that changed nothing, or once the budget is used up
  pub rounds_end : (k n : ℕ) (s new : Playing) → new ≡ rounds start budget k s → k ≤ n → round start budget new ≡ new
      → new ≡ rounds start budget n s
  rounds_end k n s new e l still = sym (steps_stay (λ _ t. round start budget t) k n s new (sym e) l (λ _. still))
