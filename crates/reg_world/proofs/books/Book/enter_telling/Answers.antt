use Rattle.std.proofs.Common.{◌∙◌, ◌++◌, ◌-◌, length, List, ℕ, ap, sym, subst, arith, length-set}
use Rattle.reg_base.specs.Order.{In}
use Rattle.reg_checkers.specs.History.{IsAt}
use Rattle.reg_world.specs.Tallies.{Tally}
use Rattle.reg_world.specs.World.{op_id, calls_in}
use Rattle.reg_world.specs.Pages.{Pages, tally_at, tallies_after, calls_after, CallFits, TimesDiffer}
use Rattle.reg_world.proofs.code.Entering.{call_good, answer_good}
use Rattle.reg_world.proofs.books.Book.enter_telling.Goals as goal

pub push_call-requires-clause-in_place : goal.push_call-requires-clause-in_place
push_call-requires-clause-in_place g c =
    let b : Pages = c.args.self.now in
    let view = c.self.view_is in
    call_good b c.args.process c.args.step.now c.args.made.now.effect.now.reply c.requires.history c.reserve_all.new.history.shape c.reserve_all.new.history.entries c.len-at.result c.in_ok-ids.ids.called
    (c.reserve_all.ensures.shape ∙ ap (λ (x : Pages). x.shape) view)
    (c.reserve_all.ensures.entries ∙ ap (λ (x : Pages). x.entries) view)
    (c.len-at.ensures ∙ (ap (λ (x : Pages). length x.accepted) view))
    (c.in_ok-ids.ensures.called ∙ ap (λ (x : Pages). op_id c.args.process (tally_at x.tallies c.args.process).calls) view)

pub push_answer-requires-clause-in_place : goal.push_answer-requires-clause-in_place
push_answer-requires-clause-in_place g c =
    let b : Pages = c.args.self.now in
    let view = c.self.view_is in
    answer_good b c.args.process c.args.step.now c.args.made.now.effect.now.reply c.requires.history c.push_call.new.history.shape c.push_call.new.history.entries c.len-at.result c.in_ok-ids.ids.called c.in_ok-ids.ids.answered
    (c.push_call.ensures.shape ∙ (c.reserve_all.ensures.shape ∙ ap (λ (x : Pages). x.shape) view))
    (c.push_call.ensures.entries ∙ ap (λ z. z ++ calls_in c.len-at.result c.in_ok-ids.ids.called c.args.step.now) (c.reserve_all.ensures.entries ∙ ap (λ (x : Pages). x.entries) view))
    (c.len-at.ensures ∙ (ap (λ (x : Pages). length x.accepted) view))
    (c.in_ok-ids.ensures.called ∙ ap (λ (x : Pages). op_id c.args.process (tally_at x.tallies c.args.process).calls) view)
    (c.in_ok-ids.ensures.answered ∙ ap (λ (x : Pages). op_id c.args.process (calls_after c.args.step.now (tally_at x.tallies c.args.process).calls - 1)) view)

pub push_firsts-requires-clause-casters : goal.push_firsts-requires-clause-casters
push_firsts-requires-clause-casters g c = λ d i.
    let h = c.requires.casters d (subst (λ l. In d l) c.deref.ensures.value i) in
    let tallies = ap (λ (x : Pages). length x.tallies) c.self.view_is in
    let size = ap length c.in_ok-ids.ensures.callers in
    let same = simp length-set at size in
    omega (arith, h, tallies, same)

pub push_call-requires-clause-room : goal.push_call-requires-clause-room
push_call-requires-clause-room g c = let room = c.in_ok-reserve_all.ensures.entries_room in omega (arith, room)

pub push_answer-requires-clause-room : goal.push_answer-requires-clause-room
push_answer-requires-clause-room g c = let room = c.in_ok-reserve_all.ensures.entries_room in let left = c.push_call.ensures.room in omega (arith, room, left)

pub push_read-requires : goal.push_read-requires
push_read-requires g c = let room = c.in_ok-reserve_all.ensures.reads_room in omega (arith, room)

pub push_firsts-requires-clause-room : goal.push_firsts-requires-clause-room
push_firsts-requires-clause-room g c = let room = c.in_ok-reserve_all.ensures.order_room in let size = c.len.ensures in let same = c.deref.ensures.len in omega (arith, room, size, same)

pub add-requires : goal.add-requires
add-requires g c = c.in_ok-reserve_all.ensures.accepted_room

pub enter_caller-requires-clause-process : goal.enter_caller-requires-clause-process
enter_caller-requires-clause-process g c = let l = c.requires.process in let view = ap (λ (x : Pages). length x.tallies) c.self.view_is in omega (arith, l, view)

pub enter_caller-requires-clause-calls : goal.enter_caller-requires-clause-calls
enter_caller-requires-clause-calls g c = subst (λ (x : Pages). CallFits c.args.step.now (tally_at x.tallies c.args.process).calls) (sym c.self.view_is) c.requires.calls

pub push_firsts-requires-clause-differ : goal.push_firsts-requires-clause-differ
push_firsts-requires-clause-differ g c =
    let same = c.in_ok-ids.ensures.callers ∙ ap (λ (x : Pages). tallies_after x.tallies c.args.process c.args.step.now c.args.made.now.runs c.args.made.now.effect.now.cast) c.self.view_is in
    subst (λ (l : List Tally). (q : ℕ) (t : Tally) → IsAt l q t → TimesDiffer t.casts) (sym same) c.requires.once
