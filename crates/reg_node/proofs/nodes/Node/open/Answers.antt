use Rattle.std.proofs.Common.{ap, subst}
use Rattle.reg_process.specs.Process.{State}
use Rattle.reg_process.specs.Events.{Kept, IsGoing}
use Rattle.reg_node.specs.Logs.{AreSteps, first_state, state_after}
use Rattle.reg_node.proofs.Living.{lives_opened}
use Rattle.reg_node.proofs.nodes.Node.open.Goals as goal

pub returns-clause-lives : goal.returns-clause-lives
returns-clause-lives g c =
    let start = g.F.FrontEnd.start in
    let log = c.args.entries.now in
    let made = subst (λ (s : State). AreSteps start s log × IsGoing c.replay.new.process (state_after start s log)) (ap (λ (k : Kept). k.state) c.in-Ok.ensures.made.1) c.in_ok-replay.ensures.made in
    lives_opened start (first_state c.args.shape c.args.me) log c.replay.new.process c.count_calls.result c.new-2.result.items c.count_calls.ensures.value c.new-2.ensures.items made.0 made.1
