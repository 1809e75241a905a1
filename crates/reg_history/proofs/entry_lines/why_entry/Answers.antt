use Rattle.std.proofs.Common.{◌∙◌, ap, refl}
use Rattle.reg_history.specs.ReadFaults.{why_of}
use Rattle.reg_text.proofs.Formed.{no_truth}
use Rattle.reg_history.proofs.entry_lines.why_entry.Goals as goal

pub returns-in-Some-clause-beyond : goal.returns-in-Some-clause-beyond
returns-in-Some-clause-beyond g c = λ at process number rest columns form beyond. c.from.ensures ∙ ap why_of (c.in-Some.ensures.beyond at process number rest columns beyond)

pub returns-in-Some-clause-form : goal.returns-in-Some-clause-form
returns-in-Some-clause-form g c = λ none. absurd (none c.in-Some.ensures.read.0)

pub returns-in-Some-clause-within : goal.returns-in-Some-clause-within
returns-in-Some-clause-within g c = λ at process number rest columns form inside. (c.in-Some.why, c.in-Some.ensures.within at process number rest columns inside, c.from.ensures)

pub returns-in-None-clause-form : goal.returns-in-None-clause-form
returns-in-None-clause-form g c = λ none. refl

pub returns-in-None-clause-beyond : goal.returns-in-None-clause-beyond
returns-in-None-clause-beyond g c = λ at process number rest columns form beyond. no_truth (c.in-None.ensures.whole (at, process, number, rest, columns, form))

pub returns-in-None-clause-within : goal.returns-in-None-clause-within
returns-in-None-clause-within g c = λ at process number rest columns form inside. no_truth (c.in-None.ensures.whole (at, process, number, rest, columns, form))
