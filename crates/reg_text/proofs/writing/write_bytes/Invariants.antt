use Rattle.std.specs.Prelude.{◌≡◌, ℕ, List, ◌++◌}
use Rattle.std.specs.Io.KnownBytes.{Appends}
use Rattle.reg_text.proofs.writing.write_bytes.Given as goal

-- what is left, after what went out
abbrev pub invariant-loop : goal.invariant-loop
invariant-loop g l = (sent : List ℕ) × (sent ++ l.rest ≡ l.bytes) × Appends (g.W.Write.contents l.initial.writer) (g.W.Write.contents l.writer) sent
