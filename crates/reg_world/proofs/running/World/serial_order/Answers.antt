use Rattle.std.proofs.Common.{List, sym, subst, rules}
use Rattle.reg_checkers.specs.declared.entries.Entry.{Entry}
use Rattle.reg_world.specs.RealTime.{KeepsUpdates, KeepsAllUpdates}
use Rattle.reg_world.proofs.running.World.serial_order.Goals as goal

pub returns-clause-serial : goal.returns-clause-serial
returns-clause-serial g c = search rules

pub returns-clause-real_time : goal.returns-clause-real_time
returns-clause-real_time g c = subst (λ (h : List Entry). KeepsUpdates g.F.FrontEnd.start h c.in_ok-ids.ids.items) (sym c.history-history.ensures.entries) c.in_ok-ids.ensures.real_time

pub returns-clause-nothing_first : goal.returns-clause-nothing_first
returns-clause-nothing_first g c = λ nothing. subst (λ (h : List Entry). KeepsAllUpdates h c.in_ok-ids.ids.items) (sym c.history-history.ensures.entries) (c.in_ok-ids.ensures.nothing_first nothing)

pub returns-clause-keyed : goal.returns-clause-keyed
returns-clause-keyed g c = search rules
