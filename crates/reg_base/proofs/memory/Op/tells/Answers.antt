use Rattle.std.proofs.Common.{◌≡◌, sym, ◌∙◌, ap, refl, true, false}
use Rattle.reg_base.specs.declared.memory.Op.{Op}
use Rattle.reg_base.specs.Memory.{tells, IsBlind}
use Rattle.reg_base.proofs.Operations.{telling, silent}
use Rattle.reg_base.proofs.memory.Op.tells.Goals as goal

not_blind : (op : Op) → tells op ≡ true → (true ≡ false → IsBlind op) × (IsBlind op → true ≡ false)
not_blind op e = ((λ bad. absurd (let none : ⊥ = cc in none)), (λ blind. sym e ∙ telling op blind))

pub returns-in-Read : goal.returns-in-Read
returns-in-Read c = let e = ap tells c.in-Read.is in record { verdict = sym e; blind = not_blind c.args.self.now e }

pub returns-in-Write-clause-blind : goal.returns-in-Write-clause-blind
returns-in-Write-clause-blind c = ((λ e. silent c.args.self.now (ap tells c.in-Write.is)), (λ b. refl))

pub returns-in-Swap : goal.returns-in-Swap
returns-in-Swap c = let e = ap tells c.in-Swap.is in record { verdict = sym e; blind = not_blind c.args.self.now e }

pub returns-in-CompareAndSwap : goal.returns-in-CompareAndSwap
returns-in-CompareAndSwap c =
    let e = ap tells c.in-CompareAndSwap.is in record { verdict = sym e; blind = not_blind c.args.self.now e }
