use Rattle.std.proofs.Common.{◌≡◌, ℕ, List, [], ◌∷◌, ◌++◌, ◌∙◌, ◌+◌, ap, length, drop, map, vec_len, sym, subst, arith}
use Rattle.std.proofs.Common.{rules}
use Rattle.std.proofs.lemmas.List.{length-map, map-append}
use Rattle.std.specs.Vec.Iter.{into_iter_items, into_iter_len}
use Rattle.reg_base.specs.declared.memory.Op.{Op}
use Rattle.reg_checkers.specs.History.{IsAt}
use Rattle.reg_live.specs.Passes.{Held}
use Rattle.reg_live.proofs.Performing.{drop_at, started_push}
use Rattle.reg_checkers.proofs.Places.{IsAt-map}
use Rattle.reg_live.proofs.scripts.start_callers.Goals as goal

pub call-requires-after_bounds : goal.call-requires-after_bounds
call-requires-after_bounds g c κs within =
    let here = drop_at c.args.passes.items (vec_len c.loop-script.handles) c.in-Some-next.pass (into_iter_items c.next-in-loop-script.new.self) (sym c.loop-script.invariant.0 ∙ c.in-Some-next.ensures.items) in
    ap (λ (h : Held). h.receipts) (c.requires.passes.each _ _ here.0)

pub loop-script-preserved : goal.loop-script-preserved
loop-script-preserved g c =
    let inv = c.loop-script.invariant in
    let n = vec_len c.loop-script.handles in
    let handle = c.in_ok-call.field-0 in
    let thread : ℕ × List Op = (handle.promise.process, handle.promise.script.value.items) in
    let scripts = map (λ s. s.items) c.args.scripts.items in
    let threads = map (λ h. (h.promise.process, h.promise.script.value.items)) c.loop-script.handles.items in
    let pass = drop_at c.args.passes.items n c.in-Some-next.pass (into_iter_items c.next-in-loop-script.new.self) (sym inv.0 ∙ c.in-Some-next.ensures.items) in
    let script = drop_at c.args.scripts.items n c.in-Some.script (into_iter_items c.next.new.self) (sym inv.1 ∙ c.in-Some.ensures.steps.0) in
    let len : vec_len c.push.new.self ≡ n + 1 = search rules in
    let own : handle.promise.process ≡ n = c.in_ok-call.ensures.0 ∙ ap (λ (h : Held). h.me) (c.requires.passes.each _ _ pass.0) in
    let mine : length c.loop-script.handles.items ≡ n = search rules in
    let count : length threads ≡ n = length-map c.loop-script.handles.items (λ h. (h.promise.process, h.promise.script.value.items)) ∙ mine in
    let same : c.in-Some.script.items ≡ handle.promise.script.value.items = ap (λ (v : _). v.items) (sym c.in_ok-call.ensures.1) in
    let given : IsAt scripts n handle.promise.script.value.items = subst (λ (s : List Op). IsAt scripts n s) same (IsAt-map (λ s. s.items) c.args.scripts.items n c.in-Some.script script.0) in
    let pushed : c.push.new.self.items ≡ c.loop-script.handles.items ++ handle ∷ [] = search rules in
    let fewer : into_iter_len c.next.new.self + 1 ≡ into_iter_len c.loop-script.script-iterator = c.in-Some.ensures.steps.1 in
    let sum : n + into_iter_len c.loop-script.script-iterator ≡ vec_len c.args.scripts = inv.2 in
    let rest : vec_len c.push.new.self + into_iter_len c.next.new.self ≡ vec_len c.args.scripts = omega arith in
    let mapped = ap (map (λ h. (h.promise.process, h.promise.script.value.items))) pushed ∙ map-append (λ h. (h.promise.process, h.promise.script.value.items)) c.loop-script.handles.items (handle ∷ []) in (
      pass.1 ∙ ap (λ (m : ℕ). drop m c.args.passes.items) (sym len),
      script.1 ∙ ap (λ (m : ℕ). drop m c.args.scripts.items) (sym len),
      rest,
      λ k t at. started_push scripts threads thread n inv.3 count own given k t (subst (λ (l : List (ℕ × List Op)). IsAt l k t) mapped at),
    )
