use Rattle.std.proofs.Common.{◌≡◌}
use Rattle.reg_outcomes.specs.declared.turning.TurnsFault.TheVariants.{OutOfMemory}
use Rattle.reg_outcomes.proofs.Turns.{has_space, is_turn, may_call, on_value}
use Rattle.reg_outcomes.proofs.turning.take_turn.Goals as goal

pub call-requires : goal.call-requires
call-requires g c = may_call g.F.FrontEnd.start g.met.F.FrontEnd.lawful c.args.world.now c.requires.on c.args.process c.args.op c.requires.may

pub come_to_rest-requires-clause-room : goal.come_to_rest-requires-clause-room
come_to_rest-requires-clause-room g c = has_space g.F.FrontEnd.start g.met.F.FrontEnd.lawful c.args.world.now c.requires.on c.args.process c.args.op c.requires.may c.call.new.world c.in_ok-call.ensures

pub returns : goal.returns
returns g c =
    on_value (λ fault. fault ≡ OutOfMemory) c.come_to_rest.result
    (λ rest. is_turn g.F.FrontEnd.start g.met.F.FrontEnd.lawful c.args.world.now c.requires.on c.args.process c.args.op c.requires.may c.call.new.world c.in_ok-call.ensures c.come_to_rest.new.world rest.0 rest.1)
    c.come_to_rest.ensures
