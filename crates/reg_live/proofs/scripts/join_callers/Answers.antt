use Rattle.std.proofs.Common.{◌≡◌, ℕ, ◌∙◌, ◌+◌, length, drop, map, vec_len, sym, ap, arith, rules}
use Rattle.std.proofs.lemmas.List.{length-map, length_push}
use Rattle.std.specs.Vec.Iter.{into_iter_items, into_iter_len}
use Rattle.reg_live.proofs.Performing.{drop_at, back_push, performed_back, told_step, told_so}
use Rattle.reg_checkers.proofs.Places.{IsAt-map}
use Rattle.reg_live.proofs.scripts.join_callers.Goals as goal

pub loop-caller-preserved : goal.loop-caller-preserved
loop-caller-preserved g c =
    told_step c.loop-caller.told c.join_caller-told.result c.loop-caller.invariant c.join_caller-told.ensures (λ was back.
    let n = vec_len c.loop-caller.passes in
    let callers = c.args.callers.items in
    let here = drop_at callers n c.in-Some.caller (into_iter_items c.next.new.self) (sym was.0 ∙ c.in-Some.ensures.steps.0) in
    let old : length c.loop-caller.passes.items ≡ n = search rules in
    let thread = IsAt-map (λ h. (h.promise.process, h.promise.script.value.items)) callers n c.in-Some.caller here.0 in
    let now : length c.join_caller-told.new.passes.items ≡ vec_len c.join_caller-told.new.passes = search rules in
    let more : length c.join_caller-told.new.passes.items ≡ length c.loop-caller.passes.items + 1 = ap length back.pushed ∙ length_push c.loop-caller.passes.items back.pass in
    let new : vec_len c.join_caller-told.new.passes ≡ n + 1 = sym now ∙ more ∙ ap (λ (m : ℕ). m + 1) old in
    let fewer : into_iter_len c.next.new.self + 1 ≡ into_iter_len c.loop-caller.caller-iterator = c.in-Some.ensures.steps.1 in
    let sum : n + into_iter_len c.loop-caller.caller-iterator ≡ vec_len c.args.callers = was.1 in
    let rest : vec_len c.join_caller-told.new.passes + into_iter_len c.next.new.self ≡ vec_len c.args.callers = omega arith in
    (here.1 ∙ ap (λ (m : ℕ). drop m callers) (sym new), rest, back_push _ c.loop-caller.passes.items c.join_caller-told.new.passes.items _ _ n was.2 old thread back))

pub returns-in-Ok : goal.returns-in-Ok
returns-in-Ok g c = λ scripts started.
    let was = told_so c.loop-caller.told c.in-Ok.field-0 c.in-Ok.is c.loop-caller.invariant in
    let threads = map (λ h. (h.promise.process, h.promise.script.value.items)) c.args.callers.items in
    let none : into_iter_len c.loop-caller.caller-iterator ≡ 0 = c.in-None.ensures.steps.0 in
    let all : vec_len c.loop-caller.passes ≡ vec_len c.args.callers = omega arith in
    let mine : length c.loop-caller.passes.items ≡ vec_len c.loop-caller.passes = search rules in
    let theirs : length c.args.callers.items ≡ vec_len c.args.callers = search rules in
    let len : length c.loop-caller.passes.items ≡ length threads =
    mine ∙ all ∙ sym theirs ∙ sym (length-map c.args.callers.items (λ h. (h.promise.process, h.promise.script.value.items))) in
    performed_back scripts threads c.loop-caller.passes.items was.2 len started
