use Rattle.std.proofs.Common.{◌≡◌, ◌≤◌, ℕ, length}
use Rattle.reg_workload.specs.Plays.{cursor_at}
use Rattle.reg_workload.specs.Listed.{AreListed}
use Rattle.reg_workload.specs.PlayParts.{GoesOn}
use Rattle.reg_workload.specs.Seeded.{turns}
use Rattle.reg_workload.proofs.seeded.play_turns.Given as goal

-- so many turns, no more events than turns, and without loss as many
abbrev pub invariant-loop-turn : goal.invariant-loop-turn
invariant-loop-turn g l = record {
  value : (l.player, l.words) ≡ turns g.F.FrontEnd.start g.R.Words.next_word l.odds.loss l.odds.repeat l._turn (l.initial.player, l.initial.words);
  listed : AreListed g.F.FrontEnd.start l.player l.chances;
  on : GoesOn l._turn l.initial.player l.player;
  all : l.odds.loss ≡ 0 → length l.player.made.accepted ≡ l._turn;
  behind : (from to : ℕ) → cursor_at l.player from to ≤ l._turn;
}
