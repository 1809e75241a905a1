use Rattle.std.proofs.Common.{◌≡◌, ℕ, ◌+◌, ◌++◌, ◌∷◌, [], List, refl, ap, ap₂, sym, ◌∙◌, subst, arith}
use Rattle.reg_records.specs.declared.entries.LogEntry.{LogEntry}
use Rattle.reg_node.specs.Logs.{Outgoing, calls_in}
use Rattle.reg_node.specs.Nodes.{Lives, Logs, NodeState}
use Rattle.reg_node.proofs.Living.{lives_logs}
use Rattle.reg_node.proofs.nodes.Node.step.Goals as goal

pub returns-in-Ok-clause-lives : goal.returns-in-Ok-clause-lives
returns-in-Ok-clause-lives g c = λ first past is.
    let fields = c.self.inside in
    let old : NodeState = record { process = fields.process; logged = fields.logged; calls = fields.calls; durable = fields.durable; held = fields.held.items } in
    let output : Outgoing = record { frames = c.in-Ok.outcome.frames.items; reply = c.in-Ok.outcome.reply } in
    let new : NodeState = record { process = c.step.new.self; logged = fields.logged + 1; calls = fields.calls + c.calls_of.result; durable = fields.durable; held = c.push_back_reserved.new.self.items } in
    let held : c.push_back_reserved.new.self.items ≡ fields.held.items ++ output ∷ [] =
    c.push_back_reserved.ensures.items
    ∙ (ap (λ (xs : List Outgoing). xs ++ c.new.result ∷ []) c.reserve.ensures.items
    ∙ ap (λ (o : Outgoing). fields.held.items ++ o ∷ []) c.new.ensures) in
    let entry : LogEntry = record { step = c.args.step.now; reply = c.in-Ok.outcome.reply } in
    let counted : fields.calls + c.calls_of.result ≡ fields.calls + calls_in (entry ∷ []) = let more = c.calls_of.ensures.value in omega (arith, more) in
    let logs : Logs g.F.FrontEnd.start old c.args.step.now entry new = record {
      output = output;
      cast = c.in-Ok.outcome.cast;
      delivered = c.in-Ok.outcome.delivered.items;
      room = let full = c.if-self-from.false in let most = c.from.ensures in omega arith;
      made = c.in-Ok.ensures.stepped;
      written = refl;
      rest = ap₂ (λ (calls : ℕ) (xs : List Outgoing). let after : NodeState = record new { calls = calls; held = xs } in after) counted held;
    } in
    lives_logs g.F.FrontEnd.start first past old new c.args.step.now _ logs (subst (λ (n : NodeState). Lives g.F.FrontEnd.start first past n) (sym c.self.view_is) is)
