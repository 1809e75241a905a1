use Rattle.std.proofs.Common.{Option, refl, sym, subst}
use Rattle.std.specs.Prelude.{IfSome, ◌<◌, ◌-◌, ◌^◌}
use Rattle.reg_outcomes.specs.declared.tables.tallies.Tally.{Tally}
use Rattle.reg_outcomes.specs.Counts.{TellsOf, finished_play}
use Rattle.reg_outcomes.proofs.Counting.{told_first, told_more}
use Rattle.reg_outcomes.proofs.tables.tallies.next.Goals as goal

pub joined-requires : goal.joined-requires
joined-requires g c = subst (λ (o : Option Tally). IfSome o (λ t. t.count < 2 ^ 32 - 1)) (sym c.in-Some.ensures.value) (c.requires c.args.outcome.now)

pub returns-in-Some : goal.returns-in-Some
returns-in-Some g c plays tells =
    let s = finished_play c.args.outcome.now.items c.args.glance in
    told_more plays s c.in-Some.tally.now c.joined.result refl (subst (λ (o : Option Tally). TellsOf plays c.args.outcome.now.items o) (sym c.in-Some.ensures.value) tells)
    (λ those tally. c.joined.ensures those c.args.outcome.now.items tally)

pub returns-in-None : goal.returns-in-None
returns-in-None g c plays tells =
    let s = finished_play c.args.outcome.now.items c.args.glance in
    told_first plays s c.first.result refl (subst (λ (o : Option Tally). TellsOf plays c.args.outcome.now.items o) (sym c.in-None.ensures.value) tells) (c.first.ensures c.args.outcome.now.items)
