use Rattle.std.proofs.Common.{◌≡◌, ◌++◌, ◌∷◌, [], ◌+◌, ◌<◌, ℕ, length, subst, arith}
use Rattle.std.specs.Prelude.{◌^◌, ◌-◌, ◌%◌}
use Rattle.std.proofs.lemmas.Result.{err_from_is_err_and}
use Rattle.reg_inputs.specs.Loads.{IsLoad}
use Rattle.reg_outcomes.proofs.Counting.{has_room}
use Rattle.reg_outcomes.specs.Outcomes.{AreSeen, IsPlayFault, IsSeen, seed_at}
use Rattle.reg_outcomes.proofs.PlaysSeen.{plays_fault, seen_next, unfinished_few}
use Rattle.reg_outcomes.proofs.tables.plays.count_plays.Goals as goal

pub count_play-requires-clause-told : goal.count_play-requires-clause-told
count_play-requires-clause-told g c =
    let inv = c.loop-turn.invariant in
    let few : length inv.0 < 2 ^ 32 - 1 = let n = inv.1.count in let l = c.loop-turn-test.true in let m = c.requires in omega (arith, n, l, m) in
    has_room (λ v. v.items) inv.0 c.loop-turn.tallies.told c.loop-turn.tallies.unfinished few inv.2

pub count_play-requires-clause-unfinished : goal.count_play-requires-clause-unfinished
count_play-requires-clause-unfinished g c =
    let inv = c.loop-turn.invariant in
    let few : c.loop-turn.turn < 1000000 = let l = c.loop-turn-test.true in let m = c.requires in omega (arith, l, m) in
    unfinished_few (λ v. v.items) inv.0 c.loop-turn.tallies.told c.loop-turn.tallies.unfinished c.loop-turn.turn inv.2 inv.1.count few

pub count_play-requires-clause-scripts : goal.count_play-requires-clause-scripts
count_play-requires-clause-scripts g c = (subst IsLoad c.work.view_is c.work.invariant).processes

pub loop-turn-preserved : goal.loop-turn-preserved
loop-turn-preserved g c =
    let inv = c.loop-turn.invariant in
    let told = c.in_ok-count_play.ensures.counted in
    let start = g.F.FrontEnd.start in
    let here : IsSeen start c.args.work.now (seed_at c.args.work.now c.loop-turn.turn) told.0 = subst (λ (x : ℕ). IsSeen start c.args.work.now ((x + c.loop-turn.turn) % 2 ^ 64) told.0) inv.3 told.1 in
    (inv.0 ++ told.0 ∷ [], seen_next start c.args.work.now c.loop-turn.turn inv.0 told.0 inv.1 here, told.2 inv.0 inv.2, inv.3)

pub returns-clause-counted : goal.returns-clause-counted
returns-clause-counted g c =
    let inv = c.loop-turn.invariant in
    let all : c.loop-turn.turn ≡ c.args.plays = let l = c.loop-turn-test.false in let m = c.loop-turn.auto in omega (arith, l, m) in
    (inv.0, subst (λ (n : ℕ). AreSeen g.F.FrontEnd.start c.args.work.now n inv.0) all inv.1, inv.2)

pub returns-in_err-count_play-clause-refused : goal.returns-in_err-count_play-clause-refused
returns-in_err-count_play-clause-refused g c =
    let p = err_from_is_err_and c.from_residual.result c.from_residual.ensures.1 in
    let start = g.F.FrontEnd.start in
    let work = c.args.work.now in
    let k = c.loop-turn.turn in
    let fault = c.in_err-count_play.field-0.0 in
    rw (p.1, p.2)
    (plays_fault start work c.args.plays k c.loop-turn-test.true fault
    (subst (λ (x : ℕ). IsPlayFault start work ((x + k) % 2 ^ 64) fault) c.loop-turn.invariant.3 c.in_err-count_play.ensures.refused))
