use Rattle.std.proofs.lemmas.Bool.{iff_false}
use Rattle.reg_node.proofs.Starts.{greeting_read, greeting_size}
use Rattle.reg_node.proofs.messages.Greeting.read.Goals as goal

pub returns-then-not-may_be_greeting : goal.returns-then-not-may_be_greeting
returns-then-not-may_be_greeting c =
    λ g is. iff_false c.may_be_greeting.ensures c.if-not-may_be_greeting.true (greeting_size c.args.bytes.now g is)

pub returns : goal.returns
returns c =
    let form = c.may_be_greeting.ensures.0 c.if-not-may_be_greeting.false in
    greeting_read c.args.bytes.now c.number_at.result form.0 form.1 c.number_at.ensures
