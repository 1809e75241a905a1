use Rattle.std.proofs.Common.{refl, arith}
use Rattle.reg_inputs.proofs.WordMisfits.{op_here}
use Rattle.reg_inputs.proofs.TellWords.{first_cut, op_told, op_why, no_op_here, op_there}
use Rattle.reg_inputs.proofs.event_misfits.op_misfit_by.Goals as goal

pub returns-in-Some-clause-told : goal.returns-in-Some-clause-told
returns-in-Some-clause-told g c = λ words of.
    let cut = first_cut c.args.text.now words _ _ of c.first_word.ensures.parts c.first_word.ensures.word in
    op_told c.args.before c.args.rule c.args.names.now _ c.in-Some.arguments.now words cut.more c.arguments_misfit.result c.requires.named cut.words c.in-Some.ensures.read (c.arguments_misfit.ensures cut.more cut.apart cut.rest)

pub returns-in-Some-clause-why : goal.returns-in-Some-clause-why
returns-in-Some-clause-why g c = λ words of by form.
    let cut = first_cut c.args.text.now words _ _ of c.first_word.ensures.parts c.first_word.ensures.word in
    op_why c.args.before c.args.rule c.args.names.now _ c.in-Some.arguments.now words cut.more c.arguments_misfit.result cut.words c.in-Some.ensures.read (c.arguments_misfit.ensures cut.more cut.apart cut.rest) by form

pub returns-in-None-clause-told : goal.returns-in-None-clause-told
returns-in-None-clause-told g c = λ words of.
    let cut = first_cut c.args.text.now words _ _ of c.first_word.ensures.parts c.first_word.ensures.word in
    (0, omega arith, refl, op_here c.args.rule c.args.names.now words c.requires.named (no_op_here c.args.rule c.args.names.now words _ cut.more cut.words (λ is. let bad = c.in-None.ensures.whole is in absurd (cc))))

pub returns-in-None-clause-why : goal.returns-in-None-clause-why
returns-in-None-clause-why g c = λ words of by form.
    let cut = first_cut c.args.text.now words _ _ of c.first_word.ensures.parts c.first_word.ensures.word in
    λ word more arguments e takes. absurd (no_op_here c.args.rule c.args.names.now words _ cut.more cut.words (λ is. let bad = c.in-None.ensures.whole is in absurd (cc)) (op_there c.args.rule c.args.names.now words form))
