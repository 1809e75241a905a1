use Rattle.std.proofs.Common.{◌∙◌, ◌≡◌, ℕ, Bool, true, false, cond, Ok, Err, sym, ap, arith}
use Rattle.std.proofs.Common.{length}
use Rattle.reg_process.specs.declared.steps.Step.{Step}
use Rattle.reg_process.specs.declared.steps.Step.TheVariants.{Tick}
use Rattle.reg_world.specs.declared.faults.WorldFault.{WorldFault}
use Rattle.reg_world.specs.declared.faults.WorldFault.TheVariants.{NoProcess}
use Rattle.std.specs.Prelude.{Result, nat_lt}
use Rattle.reg_world.specs.WorldParts.{take_or}
use Rattle.reg_world.proofs.code.Found.{less_true, not_less}
use Rattle.reg_world.proofs.finding.found_step.Goals as goal

pub returns-in-Call : goal.returns-in-Call
returns-in-Call g c = rw c.in-Call.is (cc)

pub returns-in-Take : goal.returns-in-Take
returns-in-Take g c =
    rw c.in-Take.is (c.take_step.ensures ∙ ap (λ f. take_or f c.in-Take.from c.in-Take.to) c.frame_at.ensures)

tick : (p count : ℕ) (t : Bool) → nat_lt p count ≡ t
    → cond {A = Result (ℕ × Step) WorldFault} t (Ok (p, Tick)) (Err NoProcess)
    ≡ cond (nat_lt p count) (Ok (p, Tick)) (Err NoProcess)
tick p count t is = sym (ap (λ (b : Bool). cond {A = Result (ℕ × Step) WorldFault} b (Ok (p, Tick)) (Err NoProcess)) is)

pub returns-then-from-members : goal.returns-then-from-members
returns-then-from-members g c =
    let a = c.from.ensures in let l = c.if-from-members.true in let p = c.in-Tick.process in let count = length c.args.members.now in
    rw c.in-Tick.is (tick p count true (less_true p count (omega (arith, a, l))))

pub returns-else-from-members : goal.returns-else-from-members
returns-else-from-members g c =
    let a = c.from.ensures in let l = c.if-from-members.false in let p = c.in-Tick.process in let count = length c.args.members.now in
    rw c.in-Tick.is (tick p count false (not_less p count (omega (arith, a, l))))
