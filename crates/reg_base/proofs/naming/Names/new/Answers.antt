use Rattle.std.proofs.Common.{Some, None, ◌≡◌, arith, refl, ap, sym, ◌∙◌, subst}
use Rattle.std.proofs.lemmas.Bool.Decides.{nat_tests}
use Rattle.std.proofs.lemmas.Grind.{common_steps}
use Rattle.reg_base.specs.Names.{texts, first_repeat}
use Rattle.reg_base.specs.Chains.{AreChains}
use Rattle.reg_base.proofs.NamesLaws.{fault_is}
use Rattle.reg_base.proofs.naming.Names.new.Goals as goal

pub returns-in-Some : goal.returns-in-Some
returns-in-Some g c = fault_is c.args.names.items (Some c.in-Some.place) (first_repeat (texts c.args.names.items)) (grind (arith, nat_tests)) (omega arith) (cc) refl

pub returns-in-Err : goal.returns-in-Err
returns-in-Err g c =
    let repeat : Some c.in-Err.place ≡ first_repeat (texts c.args.names.items) = sym c.in-Err.ensures ∙ ap (λ names. first_repeat (texts names)) c.deref-2.ensures.value in
    fault_is c.args.names.items None (Some c.in-Err.place) (grind (arith, nat_tests)) (omega arith) (cc) repeat

pub invariant_of-result : goal.invariant_of-result
invariant_of-result g c =
    let none : None ≡ first_repeat (texts c.args.names.items) = sym c.in-Ok.ensures.1 ∙ ap (λ names. first_repeat (texts names)) c.deref-2.ensures.value in (
      fault_is c.args.names.items None None (grind (arith, nat_tests)) (omega arith) (cc) none,
      subst (λ names. AreChains (texts names) c.in-Ok.chains.heads c.in-Ok.chains.earlier) c.deref-2.ensures.value c.in-Ok.ensures.0,
    )

pub returns-in-Ok : goal.returns-in-Ok
returns-in-Ok g c =
    let none : None ≡ first_repeat (texts c.args.names.items) = sym c.in-Ok.ensures.1 ∙ ap (λ names. first_repeat (texts names)) c.deref-2.ensures.value in
    (refl, fault_is c.args.names.items None None (grind (arith, nat_tests)) (omega arith) (cc) none)

pub returns-then-is_empty : goal.returns-then-is_empty
returns-then-is_empty g c = grind (arith, common_steps)

pub returns-then-len : goal.returns-then-len
returns-then-len g c = grind (arith, common_steps)
