use Rattle.std.proofs.Common.{◌≡◌, ◌∙◌, length, sym, ap, inl, inr, arith}
use Rattle.reg_process.specs.Process.{State}
use Rattle.reg_world.proofs.one_order.NodeLaws.{inv_of}
use Rattle.reg_records.specs.RestParts.{nodes_in}
use Rattle.reg_records.proofs.resting.again_count.Goals as goal

-- each other process is one that it knows
pub unreachable-requires-in_default-known : goal.unreachable-requires-in_default-known
unreachable-requires-in_default-known g c =
    let w = c.args.world.now in
    let start = g.F.FrontEnd.start in
    let L = (inv_of start w.processes w.registers w.accepted).local c.args.from c.requires.from in
    let is : c.in-Some.process.now.state ≡ (nodes_in start w c.args.from).state = (c.in-Some.ensures.process.1 c.requires.on.going).1 in
    let size : length c.in-Some.process.now.state.peers ≡ w.processes = ap (λ (s : State). length s.peers) is ∙ L.size in
    let me : c.in-Some.process.now.state.me ≡ c.args.from = ap (λ (s : State). s.me) is ∙ L.me in
    elim c.in_default-known.ensures.value [
      | inl a ↦ let l = c.requires.to in omega (arith, a, size, l)
      | inr e ↦ c.requires.apart (sym (e ∙ me))
    ]
