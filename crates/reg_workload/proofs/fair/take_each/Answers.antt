use Rattle.std.proofs.Common.{rules, arith, ◌≡◌, ◌≤◌, ◌+◌, ◌∙◌, false, refl, ap, subst}
use borrow.Author.Count.{below_more}
use Rattle.std.proofs.lemmas.Grind.{common_steps}
use Rattle.reg_workload.specs.Plays.{Playing}
use Rattle.reg_workload.specs.FairParts.{RoundPart, AllBehindFrom, AllBehind}
use Rattle.reg_workload.specs.Rounds.{takes_in_round}
use Rattle.reg_workload.proofs.Rounds.{both}
use Rattle.reg_workload.proofs.Rounding.{takes_more, takes_end}
use Rattle.reg_workload.proofs.fair.take_each.Goals as goal

pub loop-from-init : goal.loop-from-init
loop-from-init g c = record { value = refl; part = grind (arith, common_steps) }

pub loop-from-preserved : goal.loop-from-preserved
loop-from-preserved g c =
    let start = g.F.FrontEnd.start in
    let n = c.loop-from.from in
    let mid = c.loop-from.player in
    let new = c.take_from.new.player in
    let before : Playing → Type 0 = λ s. AllBehind start s n in
    let second : RoundPart start c.args.budget mid new false (AllBehindFrom start new n new.made.processes) = subst (λ f. RoundPart start c.args.budget mid new f (AllBehindFrom start new n new.made.processes)) c.if-branch.false c.in_ok-take_from.ensures.part in
    record {
      value = takes_more g.F.FrontEnd.start c.args.budget c.loop-from.from c.args.player.now c.loop-from.player c.take_from.new.player c.loop-from.invariant.value c.in_ok-take_from.ensures.value;
      part = both start c.args.budget before c.args.player.now mid new false (AllBehindFrom start new n new.made.processes) (AllBehind start new (n + 1)) c.loop-from.invariant.part second (λ _ before here. below_more (λ from. AllBehindFrom start new from new.made.processes) n before here);
    }

pub returns-then-branch-clause-value : goal.returns-then-branch-clause-value
returns-then-branch-clause-value g c =
    let start = g.F.FrontEnd.start in
    let n = c.loop-from.from in
    let new = c.take_from.new.player in
    let more = takes_more start c.args.budget n c.args.player.now c.loop-from.player new c.loop-from.invariant.value c.in_ok-take_from.ensures.value in
    let within : n + 1 ≤ c.args.player.now.made.processes = let a = c.loop-from-test.true in let b = c.processes-from-end.ensures.value in omega (arith, a, b) in
    takes_end start c.args.budget (n + 1) c.args.player.now.made.processes c.args.player.now new more within (c.in_ok-take_from.ensures.part.full c.if-branch.true)

pub returns-clause-value : goal.returns-clause-value
returns-clause-value g c =
    let all : c.loop-from.from ≡ c.args.player.now.made.processes = let b = c.processes-from-end.ensures.value in omega (arith, b) in
    c.loop-from.invariant.value ∙ ap (λ k. takes_in_round g.F.FrontEnd.start c.args.budget k c.args.player.now) all

pub take_from-requires-clause-from : goal.take_from-requires-clause-from
take_from-requires-clause-from g c = search rules

pub returns-then-branch-clause-part : goal.returns-then-branch-clause-part
returns-then-branch-clause-part g c = search rules

pub returns-clause-part : goal.returns-clause-part
returns-clause-part g c = search rules
