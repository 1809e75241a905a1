use Rattle.std.proofs.Common.{◌≡◌, List, ◌∙◌, map, ap, subst}
use Rattle.std.proofs.lemmas.List.{take_all}
use Rattle.reg_world.proofs.lists.Pushed.{map_more}
use Rattle.std.specs.List.Sorted.{IsStable}
use Rattle.reg_world.specs.declared.witnesses.Ranked.{Ranked}
use Rattle.reg_world.specs.Witnesses.{ranked_read, ranked_cmp}
use Rattle.reg_world.proofs.witnesses.ranked_reads.Goals as goal

pub returns : goal.returns
returns g c =
    let same : c.loop-read.ranked.items ≡ map ranked_read c.args.reads.now = c.loop-read.invariant ∙ ap (map ranked_read) (take_all c.loop-read.read-index c.args.reads.now c.loop-read-test.false) in
    record {
      sorted = c.in_ok-sort.ensures.sorted;
      stable = subst (λ (l : List Ranked). IsStable ranked_cmp l c.sort.new.self.items) same c.in_ok-sort.ensures.stable;
    }

pub loop-read-init : goal.loop-read-init
loop-read-init g c = c.new-ranked.ensures.items

pub loop-read-preserved : goal.loop-read-preserved
loop-read-preserved g c = map_more ranked_read c.args.reads.now c.loop-read.read-index _ c.loop-read.ranked.items c.push.new.self.items c.loop-read-test.true c.loop-read.invariant c.in_ok-push.ensures.items
