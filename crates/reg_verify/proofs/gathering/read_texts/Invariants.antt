use Rattle.std.proofs.Common.{◌≡◌, ℕ, List, length, map}
use Rattle.reg_checkers.specs.History.{IsAt}
use Rattle.reg_node.specs.LogTexts.{Journal}
use Rattle.reg_verify.specs.Gathers.{IsTextOf}
use Rattle.reg_verify.proofs.gathering.read_texts.Given as goal

-- the logs of the texts so far
abbrev pub invariant-loop-at : goal.invariant-loop-at
invariant-loop-at g l = record {
  count : length l.logs.items ≡ l.at;
  each : (k : ℕ) (j : Journal) → IsAt l.logs.items k j → (text : List ℕ) × IsAt (map (λ t. t.now) l.texts) k text × IsTextOf text j;
}
