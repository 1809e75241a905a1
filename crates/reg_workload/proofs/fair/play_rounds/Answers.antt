use Rattle.std.proofs.Common.{arith, ◌≡◌, ◌≤◌, ◌+◌, ◌∙◌, sym, ap, length, rules}
use Rattle.reg_workload.specs.Rounds.{round}
use Rattle.reg_workload.proofs.Rounding.{round_full, rounds_more, rounds_end}
use Rattle.reg_workload.proofs.fair.play_rounds.Goals.{then-branch-via-then-branch}
use Rattle.reg_workload.proofs.fair.play_rounds.Goals.{then-branch-via-else-branch+then-events-before}
use Rattle.reg_workload.proofs.fair.play_rounds.Goals as goal

pub returns-then-branch-clause-value : goal.returns-then-branch-clause-value
returns-then-branch-clause-value g c =
    let start = g.F.FrontEnd.start in
    let n = c.loop-round._round in
    let mid = c.loop-round.player in
    let new = c.play_round.new.player in
    let value = c.in_ok-play_round.ensures.value in
    let part = c.in_ok-play_round.ensures.part in
    let more = rounds_more start c.args.budget n c.args.player.now mid new c.loop-round.invariant.value value in
    let within : n + 1 ≤ c.args.budget = let a = c.loop-round-test.true in omega (arith, a) in
    let still : round start c.args.budget new ≡ new = elim c.then-branch.branch [
      | then-branch-via-then-branch w ↦ round_full start c.args.budget new (part.full w.if-branch.true)
      | then-branch-via-else-branch+then-events-before w ↦
          let count : length new.made.accepted ≡ length mid.made.accepted = sym w.events.ensures ∙ (w.if-events-before.true ∙ c.events-before.ensures) in
          ap (round start c.args.budget) (part.same count) ∙ sym value
    ] in
    rounds_end start c.args.budget (n + 1) c.args.budget c.args.player.now new more within still

pub returns-clause-value : goal.returns-clause-value
returns-clause-value g c = search rules

pub returns-clause-rest : goal.returns-clause-rest
returns-clause-rest g c = search rules
