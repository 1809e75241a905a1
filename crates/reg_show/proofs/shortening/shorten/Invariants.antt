use Rattle.std.proofs.Common.{◌≤◌, ◌-◌, List, length}
use Rattle.reg_process.specs.declared.events.Event.{Event}
use Rattle.reg_show.specs.Shorts.{KeepsAnswers, Shortens}
use Rattle.reg_show.proofs.shortening.shorten.Given as goal

-- the events that are left to try are there, and once they were tried all were
abbrev pub invariant-loop-tried : goal.invariant-loop-tried
invariant-loop-tried g l = record {
  there : length l.events - l.tried ≤ length l.short.items;
  so : (short : List Event) → Shortens (KeepsAnswers g.F.FrontEnd.start l.shape l.entries) (length l.events - l.tried) l.short.items short → Shortens (KeepsAnswers g.F.FrontEnd.start l.shape l.entries) (length l.events) l.events short;
}
