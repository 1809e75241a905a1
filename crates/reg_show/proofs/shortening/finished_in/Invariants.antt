use Rattle.std.proofs.Common.{◌≡◌, ◌++◌, drop}
use Rattle.reg_show.specs.Shorts.{finished_from, finished_of}
use Rattle.reg_show.proofs.shortening.finished_in.Given as goal

-- with those of the entries that are left, all finished operations
abbrev pub invariant-loop-entry : goal.invariant-loop-entry
invariant-loop-entry g l =
    l.finished.items ++ finished_from l.process l.last (drop l.entry-index l.entries) ≡ finished_of l.process l.entries
