use Rattle.std.proofs.Common.{arith, ◌≡◌, ◌≤◌, ◌+◌, ◌∙◌, false, refl, ap, subst}
use borrow.Author.Count.{below_more}
use Rattle.std.proofs.lemmas.Grind.{common_steps}
use Rattle.reg_workload.specs.Plays.{Playing}
use Rattle.reg_workload.specs.PlayParts.{IsReadyToCall}
use Rattle.reg_workload.specs.FairParts.{RoundPart, NoneMayCall}
use Rattle.reg_workload.specs.Rounds.{calls_in_round}
use Rattle.reg_workload.proofs.Rounds.{both}
use Rattle.reg_workload.proofs.Rounding.{calls_more, calls_end}
use Rattle.reg_workload.proofs.fair.call_each.Goals as goal

pub loop-process-init : goal.loop-process-init
loop-process-init g c = record { value = refl; part = grind (arith, common_steps) }

pub loop-process-preserved : goal.loop-process-preserved
loop-process-preserved g c =
    let start = g.F.FrontEnd.start in
    let n = c.loop-process.process in
    let mid = c.loop-process.player in
    let new = c.call_one.new.player in
    let before : Playing → Type 0 = λ s. NoneMayCall start s n in
    let second : RoundPart start c.args.budget mid new false (IsReadyToCall start new n → ⊥) = subst (λ f. RoundPart start c.args.budget mid new f (IsReadyToCall start new n → ⊥)) c.if-branch.false c.in_ok-call_one.ensures.part in
    record {
      value = calls_more g.F.FrontEnd.start c.args.budget c.loop-process.process c.args.player.now c.loop-process.player c.call_one.new.player c.loop-process.invariant.value c.in_ok-call_one.ensures.value;
      part = both start c.args.budget before c.args.player.now mid new false (IsReadyToCall start new n → ⊥) (NoneMayCall start new (n + 1)) c.loop-process.invariant.part second (λ _ before here. below_more (λ p. IsReadyToCall start new p → ⊥) n before here);
    }

pub returns-then-branch-clause-value : goal.returns-then-branch-clause-value
returns-then-branch-clause-value g c =
    let start = g.F.FrontEnd.start in
    let n = c.loop-process.process in
    let new = c.call_one.new.player in
    let more = calls_more start c.args.budget n c.args.player.now c.loop-process.player new c.loop-process.invariant.value c.in_ok-call_one.ensures.value in
    let within : n + 1 ≤ c.args.player.now.made.processes = let a = c.loop-process-test.true in let b = c.processes-process-end.ensures.value in omega (arith, a, b) in
    calls_end start c.args.budget (n + 1) c.args.player.now.made.processes c.args.player.now new more within (c.in_ok-call_one.ensures.part.full c.if-branch.true)

pub returns-clause-value : goal.returns-clause-value
returns-clause-value g c =
    let all : c.loop-process.process ≡ c.args.player.now.made.processes = let b = c.processes-process-end.ensures.value in omega (arith, b) in
    c.loop-process.invariant.value ∙ ap (λ k. calls_in_round g.F.FrontEnd.start c.args.budget k c.args.player.now) all
