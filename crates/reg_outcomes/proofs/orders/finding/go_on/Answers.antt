use Rattle.std.proofs.Common.{List, ℕ, subst}
use Rattle.reg_outcomes.specs.Placing.{IsComplete}
use Rattle.reg_outcomes.proofs.Searching.{goes_on, keeps, may_place}
use Rattle.reg_outcomes.proofs.orders.finding.go_on.Goals as goal

pub returns-then-is_complete-clause-turned : goal.returns-then-is_complete-clause-turned
returns-then-is_complete-clause-turned g c = (
  keeps c.args.finder.now c.args.walk.now c.args.failed.now c.make_room.new.self c.requires.search c.in_ok-make_room.ensures.kept c.make_room.ensures.limit,
  subst (λ (l : List ℕ). IsComplete c.args.finder.now.entries l) c.deref.ensures.value c.if-is_complete.ensures,
)

pub next_choice-requires-clause-search : goal.next_choice-requires-clause-search
next_choice-requires-clause-search g c = keeps c.args.finder.now c.args.walk.now c.args.failed.now c.make_room.new.self c.requires.search c.in_ok-make_room.ensures.kept c.make_room.ensures.limit

pub place-requires-clause-process : goal.place-requires-clause-process
place-requires-clause-process g c = (may_place c.args.finder.now c.requires.history c.args.walk.now c.args.failed.now c.requires.search c.in-Some.choice c.in-Some.ensures).0

pub place-requires-clause-register : goal.place-requires-clause-register
place-requires-clause-register g c = (may_place c.args.finder.now c.requires.history c.args.walk.now c.args.failed.now c.requires.search c.in-Some.choice c.in-Some.ensures).1

pub place-requires-clause-number : goal.place-requires-clause-number
place-requires-clause-number g c = (may_place c.args.finder.now c.requires.history c.args.walk.now c.args.failed.now c.requires.search c.in-Some.choice c.in-Some.ensures).2

pub go_back-requires-clause-search : goal.go_back-requires-clause-search
go_back-requires-clause-search g c = keeps c.args.finder.now c.args.walk.now c.args.failed.now c.make_room.new.self c.requires.search c.in_ok-make_room.ensures.kept c.make_room.ensures.limit

pub returns-in_ok-place-in-Some-clause-turned : goal.returns-in_ok-place-in-Some-clause-turned
returns-in_ok-place-in-Some-clause-turned g c =
    let after = keeps c.args.finder.now c.args.walk.now c.args.failed.now c.make_room.new.self c.requires.search c.in_ok-make_room.ensures.kept c.make_room.ensures.limit in
    goes_on c.args.finder.now c.requires.history c.args.walk.now c.make_room.new.self after c.in-Some.choice c.place.new.self c.in-Some.ensures c.in_ok-place-in-Some.ensures.stage c.in_ok-place-in-Some.ensures.tried c.in_ok-place-in-Some.ensures.path
