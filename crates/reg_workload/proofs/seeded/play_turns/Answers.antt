use Rattle.std.proofs.Common.{rules, arith, ◌≤◌, ◌∙◌, refl, sym, subst}
use Rattle.std.proofs.lemmas.Bool.{false≢true}
use Rattle.reg_workload.specs.Plays.{Playing}
use Rattle.reg_workload.specs.PlayParts.{GoesOn, AllStill}
use Rattle.reg_workload.proofs.Turning.{goes_more, turn_none, turns_more, turns_end, few_behind}
use Rattle.reg_workload.proofs.seeded.play_turns.Goals as goal

pub play_turn-requires-clause-behind : goal.play_turn-requires-clause-behind
play_turn-requires-clause-behind g c = λ from to.
    let few = c.loop-turn.invariant.behind from to in
    let more = c.loop-turn-test.true in
    let most = c.requires.budget in
    omega (arith, few, more, most)

pub loop-turn-init : goal.loop-turn-init
loop-turn-init g c = record {
  value = refl;
  listed = c.new-chances.ensures;
  on = record { same = refl; processes = refl; registers = refl; going = c.requires.going; few = let z = c.requires.none in omega (arith, z) };
  all = λ _. c.requires.none;
  behind = λ from to. let z = c.requires.first from to in omega (arith, z);
}

pub loop-turn-preserved : goal.loop-turn-preserved
loop-turn-preserved g c = record {
  value = turns_more g.F.FrontEnd.start g.R.Words.next_word c.args.odds.loss c.args.odds.repeat c.loop-turn._turn (c.args.player.now, c.args.words.now) c.loop-turn.player c.play_turn.new.player c.loop-turn.words c.play_turn.new.words c.loop-turn.invariant.value c.in_ok-play_turn.ensures.value;
  listed = c.in_ok-play_turn.ensures.listed;
  on = goes_more c.args.odds.loss c.loop-turn._turn c.args.player.now c.loop-turn.player c.play_turn.new.player c.loop-turn.invariant.on (c.in_ok-play_turn.ensures.turns c.if-branch.false);
  all = λ z. let a = c.loop-turn.invariant.all z in let b = (c.in_ok-play_turn.ensures.turns c.if-branch.false).least z in omega (arith, a, b);
  behind = few_behind g.F.FrontEnd.start g.R.Words.next_word c.args.odds.loss c.args.odds.repeat c.loop-turn._turn c.loop-turn.player c.play_turn.new.player c.loop-turn.words c.play_turn.new.words c.in_ok-play_turn.ensures.value c.loop-turn.invariant.behind;
}

pub returns-then-branch-clause-value : goal.returns-then-branch-clause-value
returns-then-branch-clause-value g c =
    let start = g.F.FrontEnd.start in
    let next_word = g.R.Words.next_word in
    let loss = c.args.odds.loss in
    let repeat = c.args.odds.repeat in
    let none = (c.in_ok-play_turn.ensures.ended c.if-branch.true).0 in
    let within : c.loop-turn._turn ≤ c.args.budget = let l = c.loop-turn-test.true in omega (arith, l) in
    c.in_ok-play_turn.ensures.value
    ∙ (turn_none start next_word loss repeat c.loop-turn.player c.loop-turn.words none
    ∙ turns_end start next_word loss repeat c.loop-turn._turn c.args.budget (c.args.player.now, c.args.words.now) c.loop-turn.player c.loop-turn.words c.loop-turn.invariant.value within none)

pub play_turn-requires-clause-room : goal.play_turn-requires-clause-room
play_turn-requires-clause-room g c =
    let few = c.loop-turn.invariant.on.few in
    let more = c.loop-turn-test.true in
    let most = c.requires.budget in
    omega (arith, few, more, most)

pub returns-clause-value : goal.returns-clause-value
returns-clause-value g c = search rules

pub returns-clause-on : goal.returns-clause-on
returns-clause-on g c = search rules

pub returns-clause-ended : goal.returns-clause-ended
returns-clause-ended g c = search rules

pub returns-then-branch-clause-on : goal.returns-then-branch-clause-on
returns-then-branch-clause-on g c =
    let on = c.loop-turn.invariant.on in
    let same = (c.in_ok-play_turn.ensures.ended c.if-branch.true).2 in
    subst (GoesOn c.args.budget c.args.player.now) (sym same) (record {
      same = on.same;
      processes = on.processes;
      registers = on.registers;
      going = on.going;
      few = let a = on.few in let l = c.loop-turn-test.true in omega (arith, a, l);
    })

pub returns-then-branch-clause-ended : goal.returns-then-branch-clause-ended
returns-then-branch-clause-ended g c =
    let ended = c.in_ok-play_turn.ensures.ended c.if-branch.true in
    (λ _. subst (λ (s : Playing). AllStill g.F.FrontEnd.start s) (sym ended.2) ended.1, λ e _. absurd (false≢true (sym e)))
