use Rattle.std.proofs.Common.{◌≡◌, ◌∙◌, replicate, ap, arith}
use Rattle.std.proofs.lemmas.List.{replicate_more}
use Rattle.reg_world.specs.Tallies.{no_calls}
use Rattle.reg_world.proofs.lists.Pushed.{one_more}
use Rattle.reg_world.proofs.books.new_callers.Goals as goal

pub loop-i-preserved : goal.loop-i-preserved
loop-i-preserved g c = one_more (λ k. replicate k no_calls) c.loop-i._i no_calls _ c.loop-i.callers.items c.push.new.self.items (replicate_more c.loop-i._i no_calls) c.loop-i.invariant c.new.ensures c.in_ok-push.ensures.items

pub returns : goal.returns
returns g c =
    let all : c.loop-i._i ≡ c.args.count = omega arith in
    c.loop-i.invariant ∙ ap (λ k. replicate k no_calls) all
