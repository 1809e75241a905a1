use Rattle.std.proofs.Common.{◌≡◌, Vec, length, get_or, ap, sym, ◌∙◌, arith, take_all}
use Rattle.std.specs.List.{sum_by}
use Rattle.std.proofs.lemmas.Grind.{common_steps}
use Rattle.std.proofs.lemmas.List.Sums.{sum_by_more_le}
use Rattle.reg_base.specs.declared.memory.Op.{Op}
use Rattle.reg_outcomes.proofs.Playing.{sum_read}
use Rattle.reg_outcomes.proofs.interleavings.layers.count_operations.Goals as goal

pub loop-script-preserved : goal.loop-script-preserved
loop-script-preserved g c = grind (arith, common_steps)

pub overflow_add-count : goal.overflow_add-count
overflow_add-count g c =
    let scripts = c.args.scripts.now in
    let i = c.loop-script.script-index in
    let item = c.script-item.result in
    let more = sum_by_more_le (λ (s : Vec Op g.row.A.Denot). length s.items) scripts i item c.loop-script-test.true in
    let here : length (get_or scripts i item).items ≡ length item.items = ap (λ (s : Vec Op g.row.A.Denot). length s.items) (sym c.script-item.is) in
    let all = sum_read length (λ (s : Vec Op g.row.A.Denot). s.items) scripts in
    let few = c.requires in
    let count = c.loop-script.invariant in
    let size = c.len-count.ensures in
    let stored = item.ok.0 in
    omega (arith, more, here, all, few, count, size, stored)

pub returns : goal.returns
returns g c =
    let scripts = c.args.scripts.now in
    c.loop-script.invariant ∙ (ap (sum_by (λ (s : Vec Op g.row.A.Denot). length s.items)) (take_all c.loop-script.script-index scripts c.loop-script-test.false) ∙ sym (sum_read length (λ (s : Vec Op g.row.A.Denot). s.items) scripts))
