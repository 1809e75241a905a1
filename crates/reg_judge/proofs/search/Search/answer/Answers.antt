use Rattle.std.proofs.Common.{ℕ, None, Some, List, Option, set, ap, sym, subst, ◌∙◌, inr, arith}
use Rattle.reg_checkers.specs.History.{IsAt}
use Rattle.reg_checkers.proofs.Noting.{read_at}
use Rattle.reg_judge.specs.declared.calls.Call.{Call}
use Rattle.reg_judge.specs.declared.stages.Stage.{Stage}
use Rattle.reg_judge.specs.Searching.{IsLayerAfter}
use Rattle.reg_judge.proofs.Stepping.{layer_is, nothing_in}
use Rattle.reg_judge.proofs.search.Search.answer.Goals as goal

pub returns-then-is_empty : goal.returns-then-is_empty
returns-then-is_empty g c =
    let running = c.args.self.now.running.items in
    let layers = c.args.self.now.layers.items in
    let call = c.in-Some.call in
    let first = read_at running c.from.result c.index.result.now c.index.result.now (sym c.index.ensures) (let lt = c.requires.process in let e = c.from.ensures in omega (arith, lt, e)) in
    let told : IsAt running c.args.process (Some call) = subst (λ (i : ℕ). IsAt running i (Some call)) c.from.ensures (first ∙ ap (λ (o : Option Call). Some o) c.in-Some.is) in
    let fits = c.requires.registers c.args.process call told in
    let layer = c.index-layer.result.now in
    let there = subst (λ (i : ℕ). IsAt layers i layer) c.from-2.ensures (read_at layers c.from-2.result layer layer (sym c.index-layer.ensures) (let e = c.from-2.ensures in omega (arith, fits, e))) in
    let after = layer_is running c.deref.result.now call.act.register c.args.place c.args.process layer c.deref-2.result.now c.in_ok-next.field-0 c.in-Some-2.next c.deref.ensures.value c.deref-2.ensures.value c.in_ok-next.ensures c.in-Some-2.is in
    record { answered = (call, layer, told, there, subst (λ (l : List Stage). IsLayerAfter running call.act.register c.args.place c.args.process layer.items l) (nothing_in c.in-Some-2.next c.if-is_empty.ensures) after) }

pub index_mut-requires : goal.index_mut-requires
index_mut-requires g c =
    let running = c.args.self.now.running.items in
    let call = c.in-Some.call in
    let first = read_at running c.from.result c.index.result.now c.index.result.now (sym c.index.ensures) (let lt = c.requires.process in let e = c.from.ensures in omega (arith, lt, e)) in
    let told : IsAt running c.args.process (Some call) = subst (λ (i : ℕ). IsAt running i (Some call)) c.from.ensures (first ∙ ap (λ (o : Option Call). Some o) c.in-Some.is) in
    let fits = c.requires.registers c.args.process call told in
    let e = c.from-3.ensures in
    omega (arith, fits, e)

pub returns : goal.returns
returns g c =
    let running = c.args.self.now.running.items in
    let layers = c.args.self.now.layers.items in
    let call = c.in-Some.call in
    let first = read_at running c.from.result c.index.result.now c.index.result.now (sym c.index.ensures) (let lt = c.requires.process in let e = c.from.ensures in omega (arith, lt, e)) in
    let told : IsAt running c.args.process (Some call) = subst (λ (i : ℕ). IsAt running i (Some call)) c.from.ensures (first ∙ ap (λ (o : Option Call). Some o) c.in-Some.is) in
    let fits = c.requires.registers c.args.process call told in
    let layer = c.index-layer.result.now in
    let there = subst (λ (i : ℕ). IsAt layers i layer) c.from-2.ensures (read_at layers c.from-2.result layer layer (sym c.index-layer.ensures) (let e = c.from-2.ensures in omega (arith, fits, e))) in
    let after = layer_is running c.deref.result.now call.act.register c.args.place c.args.process layer c.deref-2.result.now c.in_ok-next.field-0 c.in-Some-2.next c.deref.ensures.value c.deref-2.ensures.value c.in_ok-next.ensures c.in-Some-2.is in
    record { answered = inr (call, layer, c.in-Some-2.next, told, there, after, ap (λ (i : ℕ). set running i None) c.from-4.ensures, ap (λ (i : ℕ). set layers i c.in-Some-2.next) c.from-3.ensures) }
