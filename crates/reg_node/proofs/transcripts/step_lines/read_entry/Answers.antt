use Rattle.reg_node.proofs.Entries.{answered, same_entry}
use Rattle.reg_node.proofs.transcripts.step_lines.read_entry.Goals as goal

pub returns-in_err-step-in-Some-clause-whole : goal.returns-in_err-step-in-Some-clause-whole
returns-in_err-step-in-Some-clause-whole g c = λ e fits same.
    let a = answered c.args.names.now c.args.text.now c.in-Some.front.now c.in-Some.behind.now c.requires c.in-Some.ensures.read.0 c.in-Some.ensures.whole e fits same in
    let none = c.in_err-step-in-Some.ensures.whole e.step a.reply fits.0 a.fits a.step a.words in
    absurd (cc)

pub returns-in_ok-step-in-Some-clause-whole : goal.returns-in_ok-step-in-Some-clause-whole
returns-in_ok-step-in-Some-clause-whole g c = λ e fits same.
    let a = answered c.args.names.now c.args.text.now c.in-Some.front.now c.in-Some.behind.now c.requires c.in-Some.ensures.read.0 c.in-Some.ensures.whole e fits same in
    same_entry e c.in_ok-step-in-Some.step c.in_ok-step-in-Some.reply a.reply (c.in_ok-step-in-Some.ensures.whole e.step a.reply fits.0 a.fits a.step a.words) a.is
