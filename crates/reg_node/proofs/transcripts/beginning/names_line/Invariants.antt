use Rattle.std.proofs.Common.{◌≡◌, ◌++◌, codes, take}
use Rattle.std.specs.Prelude.{string_bytes}
use Rattle.reg_text.specs.Words.{names_text}
use Rattle.reg_node.proofs.transcripts.beginning.names_line.Given as goal

-- the names so far
abbrev pub invariant-loop-place : goal.invariant-loop-place
invariant-loop-place g l = string_bytes l.line ≡ codes "registers" ++ names_text (take l.place l.names)
