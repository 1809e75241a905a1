-- The parts of a round, one after another.
use Rattle.std.proofs.Common.{◌≡◌, ℕ, ◌+◌, ◌≤◌, ◌≢◌, Bool, false, length, refl, sym, ◌∙◌, subst, arith}
use Rattle.std.proofs.lemmas.Bool.{false≢true}
use Rattle.reg_base.specs.declared.memory.Op.{Op}
use Rattle.reg_front.specs.declared.starts.Start.{Start}
use Rattle.reg_workload.specs.Plays.{Playing}
use Rattle.reg_workload.specs.FairParts.{IsFair, GoesFairly, RoundPart}

module _ (start : Op → ℕ → Start) (budget : ℕ) where
  -- an event was made
  pub makes : (old new : Playing) (rest : Type 0) → length old.made.accepted ≤ budget
      → length old.made.accepted ≢ budget → IsFair start new → new.scripts ≡ old.scripts
      → new.made.processes ≡ old.made.processes → new.made.registers ≡ old.made.registers → new.made.failed ≡ false
      → length new.made.accepted ≡ length old.made.accepted + 1 → RoundPart start budget old new false rest
  makes old new rest few not_full fair same processes registers going more = record {
    goes = record { on = record { same = same; processes = processes; registers = registers; going = going; few = omega (arith, few, not_full, more) }; fair = fair; more = omega (arith, more) };
    full = λ e. absurd (false≢true e);
    same = λ e. absurd (omega (arith, e, more));
    still = λ _ e. absurd (omega (arith, e, more));
  }

  pub fairly : (old mid new : Playing) → GoesFairly start budget old mid → GoesFairly start budget mid new
      → GoesFairly start budget old new
  fairly old mid new a b = record {
    on = record { same = b.on.same ∙ a.on.same; processes = b.on.processes ∙ a.on.processes; registers = b.on.registers ∙ a.on.registers; going = b.on.going; few = b.on.few };
    fair = b.fair;
    more = let x = a.more in let y = b.more in omega (arith, x, y);
  }

  -- two parts, of which the first left the budget
  pub both : (P : Playing → Type 0) (old mid new : Playing) (full : Bool) (later rest : Type 0)
      → RoundPart start budget old mid false (P mid) → RoundPart start budget mid new full later
      → (full ≡ false → P new → later → rest) → RoundPart start budget old new full rest
  both P old mid new full later rest a b so =
      let x = a.goes.more in
      let y = b.goes.more in
      record {
        goes = fairly old mid new a.goes b.goes;
        full = b.full;
        same = λ e. b.same (omega (arith, e, x, y)) ∙ a.same (omega (arith, e, x, y));
        still = λ f e.
            let second : length new.made.accepted ≡ length mid.made.accepted = omega (arith, e, x, y) in
            so f (subst P (sym (b.same second)) (a.still refl (omega (arith, e, x, y)))) (b.still f second);
      }
