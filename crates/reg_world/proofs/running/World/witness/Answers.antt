use Rattle.reg_world.specs.Worlds.{Made}
use Rattle.reg_world.proofs.code.Answering.{if_ok, witness_told}
use Rattle.reg_world.proofs.witness.Premises.{R, is_run}
use Rattle.reg_world.proofs.witness.Serial.{witness_serial}
use Rattle.reg_world.proofs.witness.Earlier.{keeps_updates, keeps_all_updates}
use Rattle.reg_world.proofs.running.World.witness.Goals as goal

pub returns-clause-keyed : goal.returns-clause-keyed
returns-clause-keyed g c =
    if_ok c.witness_of.result _ _ c.witness_of.ensures (λ v h.
    witness_told g.F.FrontEnd.start g.met.F.FrontEnd.lawful c.self.inside.failed c.self.inside.book c.self.inside.members.items c.self.invariant c.args.self.now c.self.view_is c.order.result.now c.reads.result.now c.callers.result.now v.items c.order.ensures c.reads.ensures c.callers.ensures h)

pub returns-clause-serial : goal.returns-clause-serial
returns-clause-serial g c =
    let m : Made = c.args.self.now in
    if_ok c.witness_of.result _ _ (returns-clause-keyed g c) (λ v h.
    witness_serial (R g.F.FrontEnd.start m.processes m.registers g.met.F.FrontEnd.lawful m.accepted) v.items (is_run g.F.FrontEnd.start m.processes m.registers g.met.F.FrontEnd.lawful m.accepted) h)

pub returns-clause-real_time : goal.returns-clause-real_time
returns-clause-real_time g c =
    let m : Made = c.args.self.now in
    if_ok c.witness_of.result _ _ (returns-clause-keyed g c) (λ v h. keeps_updates g.F.FrontEnd.start m.processes m.registers g.met.F.FrontEnd.lawful m.accepted v.items h)

pub returns-clause-nothing_first : goal.returns-clause-nothing_first
returns-clause-nothing_first g c = λ nothing.
    let m : Made = c.args.self.now in
    if_ok c.witness_of.result _ _ (returns-clause-keyed g c) (λ v h. keeps_all_updates g.F.FrontEnd.start m.processes m.registers g.met.F.FrontEnd.lawful m.accepted v.items h nothing)
