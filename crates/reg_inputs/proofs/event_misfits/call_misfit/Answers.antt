use Rattle.std.proofs.Common.{◌∷◌, refl, sym, ap, rules, ◌∙◌}
use Rattle.reg_inputs.proofs.Fitting.{ended}
use Rattle.reg_inputs.proofs.WordMisfits.{call_here}
use Rattle.reg_inputs.proofs.TellWords.{next_cut, call_told, call_why, beyond_why, no_process_here, none_here}
use Rattle.reg_inputs.proofs.TellWords.{op_missing, no_call_alone}
use Rattle.reg_inputs.proofs.event_misfits.call_misfit.Goals as goal

pub returns-in_default-clause-told : goal.returns-in_default-clause-told
returns-in_default-clause-told g c = λ words apart e.
    (0, refl, refl, call_here c.args.rule c.args.names.now words c.requires.named (none_here c.args.rule c.args.names.now words (ended c.args.text.now words (λ r is. let bad = c.in_default.ensures.whole r is in absurd (cc)) e)))

pub returns-then-not-fits-clause-told : goal.returns-then-not-fits-clause-told
returns-then-not-fits-clause-told g c = λ words apart e.
    let read = c.in-Some.ensures.read in
    let cut = next_cut words c.in-Some.process.now c.in-Some.rest.now apart (sym e ∙ read.0) read.1 read.2 in
    (0, refl, refl, call_here c.args.rule c.args.names.now words c.requires.named (no_process_here c.args.rule c.args.names.now words c.in-Some.process.now cut.more c.fits.result cut.words (search rules) c.fits.ensures.1))

pub returns-then-not-fits-clause-why : goal.returns-then-not-fits-clause-why
returns-then-not-fits-clause-why g c = λ words apart e by form.
    let read = c.in-Some.ensures.read in
    let cut = next_cut words c.in-Some.process.now c.in-Some.rest.now apart (sym e ∙ read.0) read.1 read.2 in
    beyond_why c.args.rule c.args.names.now c.in-Some.process.now words cut.more c.fits.result cut.words (search rules) c.fits.ensures.1 by

pub returns-in-Some-skip-clause-told : goal.returns-in-Some-skip-clause-told
returns-in-Some-skip-clause-told g c = λ words apart e.
    let read = c.in-Some.ensures.read in
    let cut = next_cut words c.in-Some.process.now c.in-Some.rest.now apart (sym e ∙ read.0) read.1 read.2 in
    call_told c.args.rule c.args.names.now c.in-Some.process.now words cut.more c.op_misfit_by.result cut.words (c.fits.ensures.0 (search rules))
    (c.op_misfit_by.ensures.told cut.more (record { joined = sym c.in-Some-skip.ensures.read ∙ cut.rest; apart = cut.apart }))

pub returns-in-Some-skip-clause-why : goal.returns-in-Some-skip-clause-why
returns-in-Some-skip-clause-why g c = λ words apart e by form.
    let read = c.in-Some.ensures.read in
    let cut = next_cut words c.in-Some.process.now c.in-Some.rest.now apart (sym e ∙ read.0) read.1 read.2 in
    call_why c.args.rule c.args.names.now c.in-Some.process.now words cut.more c.op_misfit_by.result cut.words (c.fits.ensures.0 (search rules)) by form
    (λ op. c.op_misfit_by.ensures.why cut.more (record { joined = sym c.in-Some-skip.ensures.read ∙ cut.rest; apart = cut.apart }) by op)

pub returns-in-None-clause-told : goal.returns-in-None-clause-told
returns-in-None-clause-told g c = λ words apart e.
    let read = c.in-Some.ensures.read in
    let cut = next_cut words c.in-Some.process.now c.in-Some.rest.now apart (sym e ∙ read.0) read.1 read.2 in
    let none = ended c.in-Some.rest.now cut.more (λ r is. c.in-None.ensures.whole r is) cut.rest in
    op_missing c.args.rule c.args.names.now words c.in-Some.process.now cut.more c.requires.named cut.words none (c.fits.ensures.0 (search rules))

pub returns-in-None-clause-why : goal.returns-in-None-clause-why
returns-in-None-clause-why g c = λ words apart e by form.
    let read = c.in-Some.ensures.read in
    let cut = next_cut words c.in-Some.process.now c.in-Some.rest.now apart (sym e ∙ read.0) read.1 read.2 in
    let none = ended c.in-Some.rest.now cut.more (λ r is. c.in-None.ensures.whole r is) cut.rest in
    λ process more same. absurd (no_call_alone c.args.names.now words c.in-Some.process.now (cut.words ∙ ap (λ l. c.in-Some.process.now ∷ l) none) form)
