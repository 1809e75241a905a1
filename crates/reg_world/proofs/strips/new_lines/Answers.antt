use Rattle.std.proofs.Common.{◌≡◌, ◌∙◌, replicate, ap, arith}
use Rattle.std.proofs.lemmas.List.{replicate_more}
use Rattle.reg_world.specs.Sharing.{no_items}
use Rattle.reg_world.proofs.lists.Pushed.{one_more}
use Rattle.reg_world.proofs.strips.new_lines.Goals as goal

pub loop-i-init : goal.loop-i-init
loop-i-init g c = c.new-lines.ensures.items

pub loop-i-preserved : goal.loop-i-preserved
loop-i-preserved g c = one_more (λ k. replicate k no_items) c.loop-i._i no_items _ c.loop-i.lines.items c.push.new.self.items (replicate_more c.loop-i._i no_items) c.loop-i.invariant c.new.ensures c.in_ok-push.ensures.items

pub returns : goal.returns
returns g c =
    let all : c.loop-i._i ≡ c.args.count = omega (arith, c.loop-i-test.false, c.loop-i.auto) in
    c.loop-i.invariant ∙ ap (λ k. replicate k no_items) all
