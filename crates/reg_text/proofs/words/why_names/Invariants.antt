use Rattle.reg_text.proofs.Seen.{Seen}
use Rattle.reg_text.proofs.words.why_names.Given as goal

-- as many words were seen as there were turns
abbrev pub invariant-loop-turn : goal.invariant-loop-turn
invariant-loop-turn l = Seen l.text l.rest l._turn
