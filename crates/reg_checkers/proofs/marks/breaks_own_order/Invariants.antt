use Rattle.std.proofs.Common.{◌≡◌, vec_len}
use Rattle.reg_checkers.proofs.OwnOrder.{IsHigh, KeepsUpTo}
use Rattle.reg_checkers.proofs.marks.breaks_own_order.Given as goal

abbrev pub invariant-loop-k : goal.invariant-loop-k
invariant-loop-k g l = record {
  high : IsHigh l.ids l.k l.next.items;
  keeps : KeepsUpTo l.ids l.k;
  room : vec_len l.next ≡ 256;
}
