use Rattle.std.proofs.Common.{◌≡◌, ◌++◌, [], ◌∷◌, ap, arith, length, length-append}
use Rattle.reg_node.proofs.Standings.{eight_more}
use Rattle.reg_node.proofs.chapters.numbers.Goals as goal

pub loop-place-preserved : goal.loop-place-preserved
loop-place-preserved g c =
    let old = c.loop-place.numbers.items in
    let new = c.push.new.self.items in
    let grown : new ≡ old ++ c.number_at.result ∷ [] = c.in_ok-push.ensures.items in
    let size = ap length grown in let more = length-append old (c.number_at.result ∷ []) in let before = c.loop-place.invariant.0 in (
      omega (arith, size, more, before),
      eight_more c.args.bytes.now old new c.loop-place.place c.from.result c.number_at.result c.from.ensures c.loop-place.invariant.1 c.number_at.ensures grown,
    )
