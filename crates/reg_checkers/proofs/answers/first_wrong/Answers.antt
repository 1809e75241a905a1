use Rattle.std.proofs.Common.{◌≡◌, ◌<◌, ℕ, get_or, None, false, ap, sym, ◌∙◌, subst, arith, length}
use Rattle.std.proofs.lemmas.List.{length-replicate}
use Rattle.std.proofs.lemmas.List.Elements.{All-get_or}
use Rattle.std.proofs.lemmas.Option.{slice_get-get_or}
use Rattle.reg_base.specs.declared.memory.Op.TheVariants.{Read}
use Rattle.reg_base.specs.Memory.{Memory, after, blank, register_of}
use Rattle.reg_base.proofs.Operations.{length-after}
use Rattle.reg_checkers.specs.declared.facts.Fact.{Fact}
use Rattle.reg_checkers.specs.Facts.{IsWrongOn}
use Rattle.reg_checkers.proofs.Placing.{no_truth}
use Rattle.reg_checkers.proofs.Steps.{memory_more, not_wrong_more, none_wrong}
use Rattle.reg_checkers.proofs.answers.first_wrong.Goals as goal

-- what a read past the end would give
blank_fact : Fact
blank_fact = record { op = Read 0; called = 0; answered = None; stands = false }

pub loop-place-init : goal.loop-place-init
loop-place-init g c =
    let memory : c.in_ok-values.values ≡ blank c.args.shape.registers = c.in_ok-values.ensures ∙ ap (λ (n : ℕ). blank n) c.registers.ensures.value in record {
      memory = memory;
      right = λ k less wrong. absurd (omega arith);
      room = ap length memory ∙ length-replicate {A = ℕ} c.args.shape.registers 0;
    }

pub is_wrong-requires : goal.is_wrong-requires
unfolding blank_fact
is_wrong-requires g c =
    let within = All-get_or (λ (f : Fact). register_of f.op < c.args.shape.registers) c.args.facts.now c.loop-place.place blank_fact c.loop-place-test.true c.requires in
    omega (arith, within, c.loop-place.invariant.room)

pub returns-then-is_wrong : goal.returns-then-is_wrong
unfolding blank_fact
returns-then-is_wrong g c =
    let fact = get_or c.args.facts.now c.loop-place.place blank_fact in
    let before = c.loop-place.invariant in
    ((fact, slice_get-get_or c.args.facts.now c.loop-place.place blank_fact c.loop-place-test.true, subst (λ (m : Memory). IsWrongOn m fact) before.memory (c.is_wrong.ensures.verdict.0 c.if-is_wrong.true)), before.right)

pub loop-place-preserved : goal.loop-place-preserved
unfolding blank_fact
loop-place-preserved g c =
    let registers = c.args.shape.registers in
    let xs = c.args.facts.now in
    let k = c.loop-place.place in
    let d = blank_fact in
    let before = c.loop-place.invariant in
    let says = c.if-is_wrong.ensures.verdict.1 in
    record {
      memory = c.is_wrong.ensures.left ∙ (ap (λ (m : Memory). after (get_or xs k d).op m) before.memory ∙ memory_more registers xs k d c.loop-place-test.true);
      right = not_wrong_more registers xs k d c.loop-place-test.true before.right (λ w. no_truth (says (subst (λ (m : Memory). IsWrongOn m (get_or xs k d)) (sym before.memory) w)));
      room = ap length c.is_wrong.ensures.left ∙ (length-after (get_or xs k d).op c.loop-place.values ∙ before.room);
    }

pub returns : goal.returns
returns g c =
    none_wrong c.args.shape.registers c.args.facts.now c.loop-place.place (omega arith) c.loop-place.invariant.right
