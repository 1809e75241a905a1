use Rattle.std.proofs.Common.{◌≡◌, false, sym, subst, rules}
use Rattle.std.proofs.lemmas.Result.{IfOk-weaker, on_ok_weaker}
use Rattle.reg_workload.specs.Plays.{Playing}
use Rattle.reg_workload.specs.FairParts.{RoundPart, NoneMayCall, AllBehind, AtRest}
use Rattle.reg_workload.specs.Rounds.{takes_in_round}
use Rattle.reg_workload.proofs.Fairness.{rests}
use Rattle.reg_workload.proofs.Rounding.{round_is, takes_full}
use Rattle.reg_workload.proofs.Rounds.{both}
use Rattle.reg_workload.proofs.fair.play_round.Goals as goal

-- no call was made, and then no frame taken
pub returns-clause-part : goal.returns-clause-part
returns-clause-part g c =
    let start = g.F.FrontEnd.start in
    let old = c.args.player.now in
    let mid = c.call_each.new.player in
    let new = c.take_each.new.player in
    let none : Playing → Type 0 = λ s. NoneMayCall start s s.made.processes in
    let first : RoundPart start c.args.budget old mid false (none mid) = subst (λ f. RoundPart start c.args.budget old mid f (none mid)) c.if-branch.false c.in_ok-call_each.ensures.part in
    IfOk-weaker c.take_each.result (λ full. RoundPart start c.args.budget mid new full (AllBehind start new new.made.processes)) (λ full. RoundPart start c.args.budget old new full (AtRest start new))
    (λ full second. both start c.args.budget none old mid new full (AllBehind start new new.made.processes) (AtRest start new) first second
    (λ _ no_call behind. record { no_call = no_call; nothing_pending = rests start g.met.F.FrontEnd.lawful new second.goes.fair (λ p q lp lq. behind p lp q lq) }))
    c.take_each.ensures.part

pub returns-then-branch-clause-value : goal.returns-then-branch-clause-value
returns-then-branch-clause-value g c =
    let start = g.F.FrontEnd.start in
    let old = c.args.player.now in
    let mid = c.call_each.new.player in
    let part = c.in_ok-call_each.ensures.part in
    round_is start c.args.budget old mid mid c.in_ok-call_each.ensures.value part.goes.on.processes (sym (takes_full start c.args.budget mid.made.processes mid (part.full c.if-branch.true)))

pub returns-clause-value : goal.returns-clause-value
returns-clause-value g c =
    let start = g.F.FrontEnd.start in
    let part = c.in_ok-call_each.ensures.part in
    on_ok_weaker c.take_each.result
    (λ (e : c.take_each.new.player ≡ takes_in_round start c.args.budget c.call_each.new.player.made.processes c.call_each.new.player). round_is start c.args.budget c.args.player.now c.call_each.new.player c.take_each.new.player c.in_ok-call_each.ensures.value part.goes.on.processes e)
    c.take_each.ensures.value

pub returns-then-branch-clause-part : goal.returns-then-branch-clause-part
returns-then-branch-clause-part g c = search rules
