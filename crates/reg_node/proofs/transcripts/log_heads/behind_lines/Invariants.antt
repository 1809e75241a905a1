use Rattle.std.proofs.Common.{◌≡◌, ◌++◌, ℕ, List, length}
use Rattle.reg_node.specs.Seals.{AreLines, sealed}
use Rattle.reg_node.proofs.Leading.{AreLeft}
use Rattle.reg_node.proofs.transcripts.log_heads.behind_lines.Given as goal

-- so many lines were passed
abbrev pub invariant-loop-line : goal.invariant-loop-line
invariant-loop-line l = record {
  part : (front : List ℕ) × (l.bytes ≡ front ++ l.rest);
  left : (c : ℕ) (lines : List (List ℕ)) (behind : List ℕ) → AreLines lines → length lines ≡ l.count → l.bytes ≡ sealed c lines ++ behind → AreLeft l.count l._line l.rest behind;
}
