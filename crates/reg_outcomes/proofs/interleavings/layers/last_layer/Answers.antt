use Rattle.std.specs.Prelude.{◌^◌}
use Rattle.std.proofs.Common.{◌≡◌, ◌+◌, ◌<◌, ℕ, List, [], ◌∷◌, length, map, sym, subst, arith}
use Rattle.std.proofs.lemmas.List.{length-map}
use Rattle.std.proofs.lemmas.Result.{err_from_is_err_and}
use Rattle.reg_outcomes.specs.Interleavings.{Stage, first_stage}
use Rattle.reg_outcomes.specs.Layers.{IsLayer, entries_of, operation_count, reached, stage_cmp, stage_of}
use Rattle.reg_outcomes.proofs.Comparing.{stages_exact, stages_total}
use Rattle.reg_outcomes.proofs.Entries.{apart}
use Rattle.reg_outcomes.proofs.Layering.{few_stages, first_is, is_fault, narrow_at_first, narrow_at_next, next_is}
use Rattle.reg_outcomes.proofs.Layering.{none_wider}
use Rattle.reg_outcomes.proofs.Leading.{few_operations, ready}
use Rattle.reg_outcomes.proofs.Numbering.{all_counted, first_counted, next_counted}
use Rattle.reg_outcomes.proofs.interleavings.layers.last_layer.Goals as goal

pub count_operations-turn-end-requires : goal.count_operations-turn-end-requires
count_operations-turn-end-requires g c =
    few_operations (map (λ v. v.items) c.args.scripts.now) c.args.registers c.requires.playable

pub loop-turn-init : goal.loop-turn-init
loop-turn-init g c =
    let scripts = map (λ v. v.items) c.args.scripts.now in
    let same : length scripts ≡ length c.args.scripts.now = length-map c.args.scripts.now (λ v. v.items) in
    let some = c.requires.some in
    record {
      is = subst (λ (l : List (Stage × List ℕ)). IsLayer scripts c.args.registers 0 l) (sym c.in_ok-layer.ensures)
          (subst (λ (n : ℕ). IsLayer scripts c.args.registers 0 ((first_stage n c.args.registers, []) ∷ [])) same (first_is scripts c.args.registers));
      narrow = narrow_at_first scripts c.args.registers c.args.limit c.requires.some;
      counted = first_counted scripts c.args.registers;
      few = omega (arith, some);
    }

pub next_layer-requires-clause-few : goal.next_layer-requires-clause-few
next_layer-requires-clause-few g c = let same = length-map c.args.scripts.now (λ v. v.items) in let few = c.requires.playable.few in omega (arith, same, few)

pub next_layer-requires-clause-ready : goal.next_layer-requires-clause-ready
next_layer-requires-clause-ready g c = λ f h. ready (map (λ v. v.items) c.args.scripts.now) c.args.registers f.1 f.0 c.requires.playable (c.loop-turn.invariant.is.each f h).0

pub returns-in_err-layer-2-clause-refused : goal.returns-in_err-layer-2-clause-refused
returns-in_err-layer-2-clause-refused g c =
    let p = err_from_is_err_and c.from_residual-in_err-layer-2.result c.from_residual-in_err-layer-2.ensures.1 in
    rw (p.1, p.2)
    (is_fault (map (λ v. v.items) c.args.scripts.now) c.args.registers c.loop-turn._turn (entries_of c.loop-turn.layer) c.loop-turn.invariant.is c.args.limit c.in_err-layer-2.field-0.0 c.in_err-layer-2.ensures.refused)

pub overflow_add-stages : goal.overflow_add-stages
overflow_add-stages g c =
    let turn = c.loop-turn-test.true in
    let count = c.count_operations-turn-end.ensures in
    let narrow = c.in_ok-layer-2.ensures.narrow in
    let len = c.len.ensures.len in
    let small = c.ranges.limit.fits in
    let fits : c.loop-turn.stages + c.len.result < 2 ^ 64 =
    few_stages (map (λ v. v.items) c.args.scripts.now) c.args.registers c.args.limit c.loop-turn._turn c.loop-turn.stages c.len.result c.requires.playable (omega (arith, small)) (omega (arith, turn, count)) c.loop-turn.invariant.few (omega (arith, narrow, len)) in
    omega (arith, fits)

pub loop-turn-preserved : goal.loop-turn-preserved
loop-turn-preserved g c =
    let scripts = map (λ v. v.items) c.args.scripts.now in
    let next = entries_of c.in_ok-layer-2.layer in
    let old = c.loop-turn.invariant in
    let is = next_is scripts c.args.registers c.loop-turn._turn (entries_of c.loop-turn.layer) old.is next c.in_ok-layer-2.ensures.adds in
    let same = length-map c.in_ok-layer-2.layer.entries reached in
    let narrow = c.in_ok-layer-2.ensures.narrow in
    let few = old.few in
    let count = c.len.ensures.len in
    record {
      is = is;
      narrow = narrow_at_next scripts c.args.registers c.args.limit c.loop-turn._turn next is (omega (arith, same, narrow)) old.narrow;
      counted = next_counted scripts c.args.registers c.loop-turn._turn c.loop-turn.stages c.len.result next old.counted is
          (apart stage_of (λ v. v.items) stage_cmp stages_total stages_exact c.in_ok-layer-2.layer.entries c.len.ensures.ordered) (omega (arith, same, count));
      few = omega (arith, narrow, few, count);
    }

pub returns-clause-layer : goal.returns-clause-layer
returns-clause-layer g c =
    let scripts = map (λ v. v.items) c.args.scripts.now in
    let count = c.count_operations-turn-end.ensures in
    let all : c.loop-turn._turn ≡ operation_count scripts = omega (arith, count) in
    subst (λ (n : ℕ). IsLayer scripts c.args.registers n (entries_of c.loop-turn.layer)) all c.loop-turn.invariant.is

pub returns-clause-stages : goal.returns-clause-stages
returns-clause-stages g c = all_counted (map (λ v. v.items) c.args.scripts.now) c.args.registers c.loop-turn._turn c.loop-turn.stages (let count = c.count_operations-turn-end.ensures in omega (arith, count)) c.loop-turn.invariant.counted

pub returns-clause-narrow : goal.returns-clause-narrow
returns-clause-narrow g c =
    none_wider (map (λ v. v.items) c.args.scripts.now) c.args.registers c.args.limit (λ w le. c.loop-turn.invariant.narrow w (let count = c.count_operations-turn-end.ensures in omega (arith, le, count)))
