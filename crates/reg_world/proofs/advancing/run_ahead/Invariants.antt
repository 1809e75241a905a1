use Rattle.std.proofs.Common.{◌≡◌, false, drop}
use Rattle.reg_world.specs.WorldParts.{IsWorld, made_of}
use Rattle.reg_world.proofs.code.Answering.{IsRunSoFar}
use Rattle.reg_world.proofs.advancing.run_ahead.Given as goal

abbrev pub invariant-loop-at : goal.invariant-loop-at
invariant-loop-at g l = IsWorld g.F.FrontEnd.start false l.members.items l.book × IsRunSoFar g.F.FrontEnd.start l.initial.book.shape l.initial.book.ahead l.at (made_of false l.book) × (l.book.ahead ≡ drop l.at l.initial.book.ahead)
