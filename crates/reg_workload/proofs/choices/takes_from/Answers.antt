use Rattle.std.proofs.Common.{◌≡◌, ◌≢◌, ℕ, ◌+◌, ◌/◌, ◌^◌, ◌<◌, ◌∙◌, refl, sym, ap, subst, arith, bit_and}
use Rattle.std.specs.Int.{bit_at}
use Rattle.std.proofs.lemmas.Nat.Bits.{shr_and_one}
use Rattle.std.specs.Option.{is_some}
use Rattle.reg_workload.specs.Listed.{bit_of, may_take}
use Rattle.reg_workload.proofs.Bits.{IsFilled, filled_none, filled_more, filled_all}
use Rattle.reg_workload.proofs.Placing.{passed_over}
use Rattle.reg_workload.proofs.choices.takes_from.Goals.{then-bit-eq0, else-bit-eq0}
use Rattle.reg_workload.proofs.choices.takes_from.Goals as goal

pub loop-to-init : goal.loop-to-init
loop-to-init g c = filled_none c.args.player.now.made.processes (may_take g.F.FrontEnd.start c.args.player.now c.args.from) c.args.known c.requires.few_known

pub loop-to-preserved : goal.loop-to-preserved
loop-to-preserved g c =
    let start = g.F.FrontEnd.start in
    let s = c.args.player.now in
    let from = c.args.from in
    let n = s.made.processes in
    let to = c.loop-to.to in
    let inv = c.loop-to.invariant in
    let within : to < n = let t = c.loop-to-test.true in let e = c.processes-to-end.ensures.value in omega (arith, t, e) in
    let few = c.requires.few in
    let same : to ≢ from → bit_at c.with_bit-seen.result to ≡ bit_at c.args.known to = λ ne. c.with_bit-seen.ensures.others to (omega (arith, within, few)) ne in
    let at : bit_and (c.with_bit-seen.result / 2 ^ c.from.result) 1 ≡ bit_at c.with_bit-seen.result to = shr_and_one c.with_bit-seen.result c.from.result ∙ ap (bit_at c.with_bit-seen.result) c.from.ensures in
    elim c.if-bit-eq0.branch [
      | then-bit-eq0 w ↦
          let new = w.with_bit-takes.ensures in
          let here = new.here ∙ ap bit_of (w.is_some.ensures ∙ ap is_some (w.frame.ensures.value c.requires.going)) in
          let taken = filled_more n to (may_take start s from) c.args.known c.loop-to.takes w.with_bit-takes.result within inv (new.few n within inv.few) here (λ i l ne. new.others i (omega (arith, l, few)) ne) in
          subst (λ (k : ℕ). IsFilled n (to + 1) (may_take start s from) c.args.known k) (sym w.takes-is) taken
      | else-bit-eq0 w ↦
          let here = inv.rest to (omega arith) within ∙ passed_over start s from to c.args.known c.with_bit-seen.result (c.requires.known to within) same (λ e. w.if-bit-eq0.false (at ∙ e)) in
          let kept = filled_more n to (may_take start s from) c.args.known c.loop-to.takes c.loop-to.takes within inv inv.few here (λ i l ne. refl) in
          subst (λ (k : ℕ). IsFilled n (to + 1) (may_take start s from) c.args.known k) (sym w.takes-is) kept
    ]

pub returns : goal.returns
returns g c =
    let end : c.loop-to.to ≡ c.args.player.now.made.processes = let t = c.loop-to-test.false in let v = c.processes-to-end.ensures.value in let w = c.loop-to.auto.to-end in omega (arith, t, v, w) in
    filled_all c.args.player.now.made.processes c.loop-to.to (may_take g.F.FrontEnd.start c.args.player.now c.args.from) c.args.known c.loop-to.takes end c.loop-to.invariant
