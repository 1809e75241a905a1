use Rattle.std.proofs.Common.{rules, ◌≡◌, ◌+◌, ◌-◌, ◌<◌, length, replicate, None, ◌∙◌, arith, length-set}
use Rattle.reg_observed.proofs.Turning.{process_within, same_default}
use Rattle.reg_observed.proofs.Rowing.{start_next, start_rows, rows_at, next_at}
use Rattle.reg_observed.proofs.rows.add_backwards.Goals as goal

pub loop-left-init : goal.loop-left-init
loop-left-init c =
    let made : c.in_ok-next.next.items ≡ replicate c.args.processes None = search rules in
    record {
      within = omega arith;
      rows = start_rows c.args.first c.args.events.now c.args.rows.now.items c.requires.empty;
      count = search rules;
      next = λ p lt. start_next c.args.processes p c.args.events.now c.in_ok-next.next.items made;
    }

pub index-requires : goal.index-requires
index-requires c =
    let inside : c.loop-left.left - 1 < length c.args.events.now = omega (arith, c.loop-left-test.true, c.loop-left.invariant.within) in
    process_within c.args.events.now c.args.processes _ (c.loop-left.left - 1) _ c.requires.processes inside (c.loop-left.next.ok.0 ∙ c.loop-left.invariant.count)

pub index_mut-requires : goal.index_mut-requires
index_mut-requires c =
    let inside : c.loop-left.left - 1 < length c.args.events.now = omega (arith, c.loop-left-test.true, c.loop-left.invariant.within) in
    process_within c.args.events.now c.args.processes _ (c.loop-left.left - 1) _ c.requires.processes inside (c.loop-left.next.ok.0 ∙ c.loop-left.invariant.count)

pub loop-left-preserved : goal.loop-left-preserved
loop-left-preserved c =
    let inside : c.loop-left.left - 1 < length c.args.events.now = omega (arith, c.loop-left-test.true, c.loop-left.invariant.within) in
    let one : c.loop-left.left ≡ c.loop-left.left - 1 + 1 = omega (arith, c.loop-left-test.true) in
    let here = process_within c.args.events.now c.args.processes _ (c.loop-left.left - 1) _ c.requires.processes inside c.loop-left.invariant.count in
    let within = process_within c.args.events.now c.args.processes c.args.processes (c.loop-left.left - 1) _ c.requires.processes inside (λ i. c.args.processes) in
    let told = c.index.ensures ∙ same_default c.loop-left.next.items _ c.index.result.now None here ∙ c.loop-left.invariant.next _ within in
    record {
      within = omega (arith, c.loop-left.invariant.within);
      rows = rows_at c.args.first c.loop-left.left (c.loop-left.left - 1) c.args.events.now _ c.index.result.now c.row_of.result c.loop-left.rows.items c.push_some.new.rows.items one inside told c.row_of.ensures c.loop-left.invariant.rows c.in_ok-push_some.ensures;
      count = length-set c.loop-left.next.items _ _ ∙ c.loop-left.invariant.count;
      next = next_at c.loop-left.left (c.loop-left.left - 1) c.args.events.now _ c.loop-left.next.items c.args.processes one inside here c.loop-left.invariant.next;
    }
