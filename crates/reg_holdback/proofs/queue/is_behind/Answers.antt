use Rattle.std.proofs.Common.{◌≡◌, ◌<◌, length, false, sym, ap, ◌∙◌, arith}
use Rattle.reg_base.specs.declared.stamps.Stamp.{Stamp}
use Rattle.reg_base.specs.Order.{stamp_at, at_most}
use Rattle.reg_holdback.proofs.Casts.{not_all, not_passed, lt_stamp}
use Rattle.std.specs.Ordering.{nat_cmp}
use Rattle.std.specs.Prelude.{◌==◌, ◌||◌, slice_index}
use Rattle.std.proofs.lemmas.Bool.{ne_eqb}
use Rattle.reg_holdback.proofs.queue.is_behind.Goals as goal

pub returns : goal.returns
returns c = λ less.
    let r = c.args.process in
    let k : Stamp = stamp_at (slice_index c.args.seen.now r) r in
    let within : r < length c.args.seen.now = omega arith in
    let no : at_most c.args.stamp k ≡ false = not_passed c.args.stamp k (lt_stamp (nat_cmp k.time c.args.stamp.time) (nat_cmp k.process c.args.stamp.process) (sym less ∙ c.lt.ensures)) in
    let other : (r == c.args.me) ≡ false = ne_eqb r c.args.me c.if-process-me.false in
    not_all (λ r. (r == c.args.me) || at_most c.args.stamp (stamp_at (slice_index c.args.seen.now r) r)) (length c.args.seen.now) r within (ap (λ b. b || at_most c.args.stamp k) other ∙ no)
