use Rattle.std.proofs.Common.{◌≡◌, ◌<◌, ◌+◌, ◌∷◌, drop, min, length, sym, ap, ◌∙◌, arith, add-one}
use Rattle.std.specs.Prelude.{slice_index}
use Rattle.std.proofs.Math.Seq.{drop-cons}
use Rattle.reg_links.specs.Bounds.{least_from}
use Rattle.reg_links.proofs.Leasts.{least_more}
use Rattle.reg_links.proofs.fanout.least.Goals as goal
use Rattle.reg_links.proofs.fanout.least.Goals.{then-count-least, else-count-least}

pub loop-count-preserved : goal.loop-count-preserved
loop-count-preserved c =
    let i = c.loop-count.count-index in
    let cs = c.args.counts.now in
    let rest = drop (i + 1) cs in
    let x = slice_index cs i in
    let l : i < length cs = omega arith in
    let is : c.if-count-least.least ≡ min c.loop-count.least x = elim c.if-count-least.branch [
      | then-count-least w ↦ omega (arith, w.if-count-least, w.least-is)
      | else-count-least w ↦ omega (arith, w.if-count-least, w.least-is)
    ] in
    ap (λ n. least_from n rest) is
    ∙ least_more c.loop-count.least x rest
    ∙ sym (ap (least_from c.loop-count.least) (drop-cons cs i 0 l ∙ ap (λ k. x ∷ drop k cs) (sym (add-one i))))
    ∙ c.loop-count.invariant
