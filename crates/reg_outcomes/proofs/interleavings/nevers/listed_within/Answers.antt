use Rattle.std.proofs.Common.{List, ◌++◌, ap, sym, ◌∙◌, arith, append-nil}
use Rattle.std.specs.Prelude.{Vec}
use Rattle.reg_outcomes.specs.declared.told.ToldAnswer.{ToldAnswer}
use Rattle.reg_outcomes.proofs.Stepping.{one_behind}
use Rattle.reg_outcomes.proofs.interleavings.nevers.listed_within.Goals as goal

pub returns-then-len-clause-list : goal.returns-then-len-clause-list
returns-then-len-clause-list g c =
    let more = c.if-len.true in let count = c.len.ensures.len in omega (arith, more, count)

pub returns-then-len-clause-ordered : goal.returns-then-len-clause-ordered
returns-then-len-clause-ordered g c = c.len.ensures.ordered

pub loop-combination-init : goal.loop-combination-init
loop-combination-init g c =
    let left : List (Vec ToldAnswer g.row.A.Denot) = c.into_iter-combination-iterator.result in
    ap (λ (l : List (Vec ToldAnswer g.row.A.Denot)). l ++ left) c.new-list.ensures.items ∙ c.into_iter-combination-iterator.ensures.into_iter_gives.0

pub loop-combination-preserved : goal.loop-combination-preserved
loop-combination-preserved g c =
    let left : List (Vec ToldAnswer g.row.A.Denot) = c.next.new.self in
    ap (λ (l : List (Vec ToldAnswer g.row.A.Denot)). l ++ left) c.in_ok-push.ensures.items
    ∙ one_behind c.loop-combination.list.items c.loop-combination.combination-iterator left c.args.combinations.keys c.in-Some.combination c.loop-combination.invariant c.in-Some.ensures.steps

pub returns-clause-list : goal.returns-clause-list
returns-clause-list g c =
    let list = c.loop-combination.list.items in
    let few = c.if-len.false in
    let count = c.len.ensures.len in (
      sym (append-nil list) ∙ ap (λ (l : List (Vec ToldAnswer g.row.A.Denot)). list ++ l) (sym c.in-None.ensures.steps.0) ∙ c.loop-combination.invariant,
      omega (arith, few, count),
    )

pub returns-clause-ordered : goal.returns-clause-ordered
returns-clause-ordered g c = c.len.ensures.ordered
