use Rattle.reg_inputs.proofs.SpelledWords.{words_of}
use Rattle.reg_inputs.proofs.ToldLines.{further_form, further_formed}
use Rattle.reg_inputs.proofs.event_lines.why_further.Goals as goal

pub returns-in-Some : goal.returns-in-Some
returns-in-Some g c = let words = words_of c.args.line.now in further_form c.args.names.now c.args.line.now _ c.requires (c.in-Some.ensures.told words.0 words.1)

pub returns-in-None : goal.returns-in-None
returns-in-None g c = let words = words_of c.args.line.now in further_formed c.args.names.now c.args.line.now c.requires (c.in-None.ensures.told words.0 words.1)
