use Rattle.std.proofs.Common.{◌∙◌, option_map, sym}
use Rattle.std.proofs.lemmas.Result.{IfOk-weaker}
use Rattle.reg_commands.proofs.Named.{points_stand}
use Rattle.reg_commands.proofs.reporting.standing_points.Goals as goal

pub returns-clause-stand : goal.returns-clause-stand
returns-clause-stand g c =
    IfOk-weaker c.points_of.result _ _ (λ o has. points_stand g.F.FrontEnd.start g.F.NamedFront.front c.args.world.now (option_map (λ v. v.items) o) g.met.F.NamedFront.named c.firsts_at_events.ensures (sym c.history.ensures.value ∙ c.history.ensures.entries) has) c.points_of.ensures
