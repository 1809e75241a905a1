use Rattle.std.proofs.Common.{refl, rules}
use Rattle.reg_inputs.proofs.WordMisfits.{event_here}
use Rattle.reg_inputs.proofs.TellWords.{first_cut, event_told_call, event_told_take, event_told_tick, event_why_call}
use Rattle.reg_inputs.proofs.TellWords.{event_why_take, event_why_tick, no_event_here, no_event_words}
use Rattle.reg_inputs.proofs.event_misfits.event_misfit_by.Goals as goal

pub returns-then-eq-clause-told : goal.returns-then-eq-clause-told
returns-then-eq-clause-told g c = λ words of.
    let cut = first_cut c.args.line.now words c.first_word.result.0.now c.first_word.result.1.now of c.first_word.ensures.parts c.first_word.ensures.word in
    event_told_call c.args.rule c.args.names.now c.first_word.result.0.now words cut.more c.call_misfit.result cut.words (search rules) (c.call_misfit.ensures.told cut.more cut.apart cut.rest)

pub returns-then-eq-clause-why : goal.returns-then-eq-clause-why
returns-then-eq-clause-why g c = λ words of by form.
    let cut = first_cut c.args.line.now words c.first_word.result.0.now c.first_word.result.1.now of c.first_word.ensures.parts c.first_word.ensures.word in
    event_why_call c.args.names.now c.first_word.result.0.now words cut.more c.call_misfit.result cut.words (search rules) form (c.call_misfit.ensures.why cut.more cut.apart cut.rest by)

pub returns-then-eq-2-clause-told : goal.returns-then-eq-2-clause-told
returns-then-eq-2-clause-told g c = λ words of.
    let cut = first_cut c.args.line.now words c.first_word.result.0.now c.first_word.result.1.now of c.first_word.ensures.parts c.first_word.ensures.word in
    event_told_take c.args.rule c.args.names.now c.first_word.result.0.now words cut.more c.arguments_misfit.result c.requires.named cut.words (search rules) (c.arguments_misfit.ensures cut.more cut.apart cut.rest)

pub returns-then-eq-2-clause-why : goal.returns-then-eq-2-clause-why
returns-then-eq-2-clause-why g c = λ words of by form.
    let cut = first_cut c.args.line.now words c.first_word.result.0.now c.first_word.result.1.now of c.first_word.ensures.parts c.first_word.ensures.word in
    event_why_take c.args.names.now c.first_word.result.0.now words cut.more c.args.rule c.arguments_misfit.result cut.words (search rules) form by (c.arguments_misfit.ensures cut.more cut.apart cut.rest)

pub returns-then-eq-3-clause-told : goal.returns-then-eq-3-clause-told
returns-then-eq-3-clause-told g c = λ words of.
    let cut = first_cut c.args.line.now words c.first_word.result.0.now c.first_word.result.1.now of c.first_word.ensures.parts c.first_word.ensures.word in
    event_told_tick c.args.rule c.args.names.now c.first_word.result.0.now words cut.more c.arguments_misfit-then-eq-3.result c.requires.named cut.words (search rules) (c.arguments_misfit-then-eq-3.ensures cut.more cut.apart cut.rest)

pub returns-then-eq-3-clause-why : goal.returns-then-eq-3-clause-why
returns-then-eq-3-clause-why g c = λ words of by form.
    let cut = first_cut c.args.line.now words c.first_word.result.0.now c.first_word.result.1.now of c.first_word.ensures.parts c.first_word.ensures.word in
    event_why_tick c.args.names.now c.first_word.result.0.now words cut.more c.args.rule c.arguments_misfit-then-eq-3.result cut.words (search rules) form by (c.arguments_misfit-then-eq-3.ensures cut.more cut.apart cut.rest)

pub returns-clause-told : goal.returns-clause-told
returns-clause-told g c = λ words of.
    let cut = first_cut c.args.line.now words c.first_word.result.0.now c.first_word.result.1.now of c.first_word.ensures.parts c.first_word.ensures.word in
    (0, refl, refl, event_here c.args.rule c.args.names.now words c.requires.named (no_event_here c.args.rule c.args.names.now words c.first_word.result.0.now cut.more cut.words (λ e. search (rules, e)) (λ e. search (rules, e)) (λ e. search (rules, e))))

pub returns-clause-why : goal.returns-clause-why
returns-clause-why g c = λ words of by form.
    let cut = first_cut c.args.line.now words c.first_word.result.0.now c.first_word.result.1.now of c.first_word.ensures.parts c.first_word.ensures.word in
    absurd (no_event_words c.args.names.now words c.first_word.result.0.now cut.more cut.words (λ e. search (rules, e)) (λ e. search (rules, e)) (λ e. search (rules, e)) form)
