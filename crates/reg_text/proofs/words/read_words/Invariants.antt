use Rattle.reg_base.specs.Names.{texts}
use Rattle.reg_text.proofs.Worded.{Worded}
use Rattle.reg_text.proofs.words.read_words.Given as goal

abbrev pub invariant-loop-turn : goal.invariant-loop-turn
invariant-loop-turn g l = Worded l.text l.rest (texts l.words.items) l._turn
