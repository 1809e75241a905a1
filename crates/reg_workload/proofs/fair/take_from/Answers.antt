use Rattle.std.proofs.Common.{arith, ◌≡◌, ◌≤◌, ◌+◌, ◌∙◌, false, refl, ap, subst}
use borrow.Author.Count.{below_more}
use Rattle.std.proofs.lemmas.Grind.{common_steps}
use Rattle.reg_workload.specs.Plays.{Playing}
use Rattle.reg_workload.specs.FairParts.{RoundPart, IsBehind, AllBehindFrom}
use Rattle.reg_workload.specs.Rounds.{takes_from_in_round}
use Rattle.reg_workload.proofs.Rounds.{both}
use Rattle.reg_workload.proofs.Rounding.{takes_from_more, takes_from_end}
use Rattle.reg_workload.proofs.fair.take_from.Goals as goal

pub loop-to-init : goal.loop-to-init
loop-to-init g c = record { value = refl; part = grind (arith, common_steps) }

pub loop-to-preserved : goal.loop-to-preserved
loop-to-preserved g c =
    let start = g.F.FrontEnd.start in
    let n = c.loop-to.to in
    let mid = c.loop-to.player in
    let new = c.take_one.new.player in
    let before : Playing → Type 0 = λ s. AllBehindFrom start s c.args.from n in
    let second : RoundPart start c.args.budget mid new false (IsBehind start new c.args.from n) = subst (λ f. RoundPart start c.args.budget mid new f (IsBehind start new c.args.from n)) c.if-branch.false c.in_ok-take_one.ensures.part in
    record {
      value = takes_from_more g.F.FrontEnd.start c.args.budget c.args.from c.loop-to.to c.args.player.now c.loop-to.player c.take_one.new.player c.loop-to.invariant.value c.in_ok-take_one.ensures.value;
      part = both start c.args.budget before c.args.player.now mid new false (IsBehind start new c.args.from n) (AllBehindFrom start new c.args.from (n + 1)) c.loop-to.invariant.part second (λ _ before here. below_more (λ to. IsBehind start new c.args.from to) n before here);
    }

pub returns-then-branch-clause-value : goal.returns-then-branch-clause-value
returns-then-branch-clause-value g c =
    let start = g.F.FrontEnd.start in
    let n = c.loop-to.to in
    let new = c.take_one.new.player in
    let more = takes_from_more start c.args.budget c.args.from n c.args.player.now c.loop-to.player new c.loop-to.invariant.value c.in_ok-take_one.ensures.value in
    let within : n + 1 ≤ c.args.player.now.made.processes = let a = c.loop-to-test.true in let b = c.processes-to-end.ensures.value in omega (arith, a, b) in
    takes_from_end start c.args.budget c.args.from (n + 1) c.args.player.now.made.processes c.args.player.now new more within (c.in_ok-take_one.ensures.part.full c.if-branch.true)

pub returns-clause-value : goal.returns-clause-value
returns-clause-value g c =
    let all : c.loop-to.to ≡ c.args.player.now.made.processes = let b = c.processes-to-end.ensures.value in omega (arith, b) in
    c.loop-to.invariant.value ∙ ap (λ k. takes_from_in_round g.F.FrontEnd.start c.args.budget c.args.from k c.args.player.now) all
