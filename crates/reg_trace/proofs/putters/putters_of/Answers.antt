use Rattle.std.proofs.Common.{◌≡◌, ◌+◌, ◌-◌, ◌∙◌, drop, length, sym, ap, arith}
use Rattle.std.specs.List.{position_from}
use Rattle.std.proofs.lemmas.List.{at_drop_all}
use Rattle.std.proofs.lemmas.Iterator.Adapters.{position_from-zero}
use Rattle.std.specs.BTreeMap.{is_at}
use Rattle.std.specs.Map.{lookup}
use Rattle.reg_trace.specs.Putters.{puts_at, wire_place_cmp}
use Rattle.reg_trace.proofs.Putting.{one_before}
use Rattle.reg_trace.proofs.putters.putters_of.Goals as goal

pub loop-puts-preserved : goal.loop-puts-preserved
loop-puts-preserved g c =
    let k = c.loop-puts.puts in
    let later = c.loop-puts-test.true in
    let within = c.loop-puts.auto.puts in
    let next : k ≡ k - 1 + 1 = omega (arith, later) in
    one_before c.args.moments.now (k - 1) c.index-moments-puts.result _ c.loop-puts.putters c.note_puts.new.putters (omega (arith, later, within)) (sym c.index-moments-puts.is) c.in_ok-note_puts.ensures
    (λ q. c.loop-puts.invariant q ∙ ap (λ n. position_from (puts_at q) n (drop n c.args.moments.now)) next)

pub loop-puts-init : goal.loop-puts-init
loop-puts-init g c = λ q.
    let count = length c.args.moments.now in
    ap (λ es. lookup (is_at (wire_place_cmp q)) es) c.new-putters.ensures.empty ∙ sym (at_drop_all (position_from (puts_at q) count) c.args.moments.now count (omega arith))

pub returns : goal.returns
returns g c = λ q.
    let all = c.args.moments.now in
    let none = c.loop-puts-test.false in
    let end : c.loop-puts.puts ≡ 0 = omega (arith, none) in
    c.loop-puts.invariant q ∙ ap (λ n. position_from (puts_at q) n (drop n all)) end ∙ sym (position_from-zero (puts_at q) all)
