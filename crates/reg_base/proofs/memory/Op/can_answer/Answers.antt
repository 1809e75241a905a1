use Rattle.std.proofs.Common.{refl}
use Rattle.reg_base.proofs.Operations.{value_fits, done_fits, old_fits, compared_fits, differing_fits}
use Rattle.reg_base.proofs.memory.Op.can_answer.Goals as goal

pub returns-in-Value : goal.returns-in-Value
returns-in-Value c = (λ t. value_fits c.args.self.now c.args.answer.now c.in-Read.register c.in-Value.field-0 c.in-Read.is c.in-Value.is, λ f. refl)

pub returns-in-Done-answer : goal.returns-in-Done-answer
returns-in-Done-answer c = (λ t. done_fits c.args.self.now c.args.answer.now c.in-Write.register c.in-Write.value c.in-Write.is c.in-Done-answer.is, λ f. refl)

pub returns-in-Value-answer-2 : goal.returns-in-Value-answer-2
returns-in-Value-answer-2 c =
    (λ t. old_fits c.args.self.now c.args.answer.now c.in-Swap.register c.in-Swap.value c.in-Value-answer-2.field-0 c.in-Swap.is c.in-Value-answer-2.is, λ f. refl)

pub returns-in-Done-answer-3 : goal.returns-in-Done-answer-3
returns-in-Done-answer-3 c =
    (λ t. compared_fits c.args.self.now c.args.answer.now c.in-CompareAndSwap.register c.in-CompareAndSwap.expected c.in-CompareAndSwap.value c.in-CompareAndSwap.is c.in-Done-answer-3.is, λ f. refl)

pub returns-in-Unequal-answer-3 : goal.returns-in-Unequal-answer-3
returns-in-Unequal-answer-3 c =
    (λ t. differing_fits c.args.self.now c.args.answer.now c.in-CompareAndSwap.register c.in-CompareAndSwap.expected c.in-CompareAndSwap.value c.in-CompareAndSwap.is c.in-Unequal-answer-3.is, λ f. refl)
