use Rattle.std.proofs.Common.{rules, ◌<◌, subst}
use Rattle.reg_workload.specs.Plays.{Playing}
use Rattle.reg_workload.specs.PlayParts.{Follows}
use Rattle.reg_workload.proofs.Scripts.{all_called, none_left}
use Rattle.reg_workload.proofs.playing.Player.is_done.Goals as goal

pub returns-then-not-left : goal.returns-then-not-left
returns-then-not-left g c =
    let within : c.args.process < c.self.inside.world.processes = search rules in
    let follows : Follows c.args.self.now c.args.process = subst (λ (s : Playing). Follows s c.args.process) c.self.view_is (c.self.invariant.follows c.args.process within) in
    (λ e. record { calls = all_called c.args.self.now c.args.process follows (λ l. let t = c.has_left-left.ensures.1 l in let f = c.if-not-left.true in absurd (cc)); idle = c.is_idle.ensures.0 e }, λ d. c.is_idle.ensures.1 d.idle)

pub returns-else-not-left : goal.returns-else-not-left
returns-else-not-left g c =
    let within : c.args.process < c.self.inside.world.processes = search rules in
    let follows : Follows c.args.self.now c.args.process = subst (λ (s : Playing). Follows s c.args.process) c.self.view_is (c.self.invariant.follows c.args.process within) in
    (λ e. let t = c.if-not-left.false in absurd (cc), λ d. absurd (none_left c.args.self.now c.args.process follows d.calls (c.has_left-left.ensures.0 c.if-not-left.false)))
