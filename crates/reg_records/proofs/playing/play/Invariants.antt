use Rattle.std.proofs.Common.{◌≡◌, false, length, map, vec_len}
use Rattle.reg_records.specs.Records.{Plays}
use Rattle.reg_records.specs.Playing.{AreTallied}
use Rattle.reg_records.proofs.playing.play.Given as goal

abbrev pub invariant-loop-place : goal.invariant-loop-place
invariant-loop-place g l = record {
  plays : Plays g.F.FrontEnd.start l.fn.shape l.order (map (λ v. v.items) l.logs) l.place l.world;
  going : l.world.failed ≡ false;
  tallied : AreTallied l.counts.items l.order l.place;
  len : vec_len l.counts ≡ length l.logs;
}
