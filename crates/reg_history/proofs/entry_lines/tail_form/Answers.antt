use Rattle.reg_history.proofs.Tails.{behind_call, call_whole}
use Rattle.reg_history.proofs.entry_lines.tail_form.Goals as goal

pub returns-in-Some-clause-read : goal.returns-in-Some-clause-read
returns-in-Some-clause-read g c = behind_call c.args.version c.args.names.now c.args.rest.now c.in-Some.text.now c.call_form.result c.in-Some.ensures.read c.in-Some.ensures.whole c.call_form.ensures.read

pub returns-in-Some-clause-whole : goal.returns-in-Some-clause-whole
returns-in-Some-clause-whole g c = call_whole c.args.version c.args.rest.now c.in-Some.text.now c.call_form.result c.in-Some.ensures.read c.in-Some.ensures.whole c.call_form.ensures.whole
