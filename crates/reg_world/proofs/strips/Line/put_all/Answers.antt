use Rattle.std.proofs.Common.{◌≡◌, ◌+◌, ◌-◌, ◌≤◌, min, List, ◌++◌, length, take, drop, refl, sym, ap, ◌∙◌, arith}
use Rattle.std.proofs.lemmas.Bool.Decides.{nat_tests}
use Rattle.std.proofs.lemmas.List.{take_rest}
use Rattle.reg_world.specs.Sharing.{Strip, items_in}
use Rattle.reg_world.proofs.Sharing.{put_along}
use Rattle.reg_world.proofs.strips.Line.put_all.Goals as goal

pub returns-clause-items : goal.returns-clause-items
returns-clause-items g c =
    let old = c.args.common.now.items in
    let own = c.self.inside.own.items in
    let items = c.args.items.now in
    let m = c.self.inside.shared in
    let count = c.min-count.result in
    let none : length own ≡ 0 = grind (arith, nat_tests) in
    let shared = ap (λ (s : Strip g.row.T.Denot). s.shared) c.self.view_is in
    let view = c.deref.ensures.value in
    let size = ap length view in
    let within : m ≤ length old = omega (arith, shared, c.requires) in
    let least = c.min-count.ensures in
    let many : count ≡ min (length old - m) (length items) = omega (arith, least, size) in
    let same : take count (drop m old) ≡ take count items =
    ap (take count) (sym (take_rest old m))
    ∙ (ap (λ (l : List g.row.T.Denot). take count (take (length l - m) (drop m l))) (sym view) ∙ c.are_same.ensures c.if-not-are_same.false) in
    put_along old c.extend-2.new.items.items own items m (m + length items) count none within refl many same (c.in_ok-extend.ensures.put ∙ ap (λ l. old ++ l) (take_rest items count))
    ∙ ap (λ (s : Strip g.row.T.Denot). items_in old s ++ items) c.self.view_is
