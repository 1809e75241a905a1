use Rattle.std.proofs.Common.{◌≡◌, ◌<◌, length, rules, sym, subst, arith}
use Rattle.reg_node.specs.Nodes.{Lives, NodeState, first_held}
use Rattle.reg_node.proofs.Living.{lives_pops}
use Rattle.reg_node.proofs.nodes.Node.hand_out.Goals as goal

pub returns-then-first_held-self-clause-lives : goal.returns-then-first_held-self-clause-lives
returns-then-first_held-self-clause-lives g c = λ first past is.
    let fields = c.self.inside in
    let old : NodeState = record { process = fields.process; logged = fields.logged; calls = fields.calls; durable = fields.durable; held = fields.held.items } in
    let count : c.len.result ≡ length fields.held.items = search rules in
    let due : first_held old < fields.durable = let test = c.if-first_held-self.true in omega arith in
    lives_pops g.F.FrontEnd.start first past old c.pop_front.result c.pop_front.new.self.items due c.pop_front.ensures.items
    (subst (λ (n : NodeState). Lives g.F.FrontEnd.start first past n) (sym c.self.view_is) is)
