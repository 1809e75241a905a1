use Rattle.std.proofs.Common.{List, ℕ, arith, length, map, sym, subst, ◌∙◌}
use Rattle.std.proofs.lemmas.List.{length-map}
use Rattle.reg_records.specs.Merges.{IsGreatest}
use Rattle.reg_records.specs.Placing.{shape_of}
use Rattle.reg_records.proofs.Alone.{few_mentions}
use Rattle.reg_records.proofs.Placed.{greatest}
use Rattle.reg_records.proofs.merging.merge.Goals as goal

pub loop-round-init : goal.loop-round-init
loop-round-init g c = record {
  placing = c.in_ok-placing.ensures.none g.F.FrontEnd.start (map (λ v. v.items) c.args.logs.now) (rw length-map c.requires);
  shape = c.in_ok-placing.ensures.shape_is;
  longer = omega arith;
}

pub loop-round-preserved : goal.loop-round-preserved
loop-round-preserved g c =
    let more = rw c.if-not-branch.false at c.in_ok-go_further.ensures.any in
    record {
      placing = more.placing;
      shape = more.shape ∙ c.loop-round.invariant.shape;
      longer = let l = more.longer in let before = c.loop-round.invariant.longer in omega (arith, l, before);
    }

pub returns-then-not-branch-clause-greatest : goal.returns-then-not-branch-clause-greatest
returns-then-not-branch-clause-greatest g c =
    let none = rw c.if-not-branch.true at c.in_ok-go_further.ensures.any in
    subst (λ (order : List ℕ). IsGreatest g.F.FrontEnd.start c.args.shape (map (λ v. v.items) c.args.logs.now) order) (sym c.into_order-order.ensures)
    (greatest g.F.FrontEnd.start c.args.shape (map (λ v. v.items) c.args.logs.now) c.go_further.new.self (none.0.shape ∙ c.loop-round.invariant.shape) none.0.placing none.1)

pub returns-clause-fault : goal.returns-clause-fault
returns-clause-fault g c =
    let few = few_mentions g.F.FrontEnd.start (shape_of c.loop-round.placing.world) (map (λ v. v.items) c.args.logs.now) c.loop-round.placing.order (length c.loop-round.placing.order) c.loop-round.placing.world c.loop-round.invariant.placing.runs in
    let longer = c.loop-round.invariant.longer in
    absurd (omega arith)
