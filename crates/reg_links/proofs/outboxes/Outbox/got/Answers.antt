use Rattle.std.proofs.Common.{◌≡◌, ◌+◌, ◌-◌, ◌≤◌, drop, length, ap, ◌∙◌, arith, length-drop, rules}
use Rattle.reg_links.specs.Link.{next_of}
use Rattle.reg_links.proofs.LinkLaws.{drop_on}
use Rattle.reg_links.proofs.outboxes.Outbox.got.Goals as goal

pub loop-self-preserved : goal.loop-self-preserved
loop-self-preserved g c =
    let old = c.loop-self.self-inside in
    let one : 1 + (c.args.count - (old.first + 1)) ≡ c.args.count - old.first = omega arith in
    record {
      left = ap (drop (c.args.count - (old.first + 1))) c.pop_front.ensures.rest
          ∙ drop_on 1 (c.args.count - (old.first + 1)) old.bodies.items
          ∙ ap (λ n. drop n old.bodies.items) one
          ∙ c.loop-self.invariant.left;
      next =
          let e : length c.pop_front.new.self.items ≡ length old.bodies.items - 1 = ap length c.pop_front.ensures.rest ∙ length-drop 1 old.bodies.items in
          let whole : c.args.count ≤ old.first + length old.bodies.items = omega (arith, ap next_of c.self.view_is, c.loop-self.invariant.next, c.len.ensures) in
          omega (arith, e, whole, c.loop-self.invariant.next);
      later = omega arith;
    }

pub returns-then-count-self-clause-answer : goal.returns-then-count-self-clause-answer
returns-then-count-self-clause-answer g c = search rules

pub returns-then-count-self-clause-after : goal.returns-then-count-self-clause-after
returns-then-count-self-clause-after g c = search rules
