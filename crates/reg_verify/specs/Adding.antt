-- Logs that grow by an entry. They carry a proof: no promise speaks of them.
use Rattle.std.specs.Prelude.{ℕ, ◌≡◌, ◌≢◌, List, [], ◌∷◌, ◌++◌, Some, slice_get}
use Rattle.reg_records.specs.declared.entries.LogEntry.{LogEntry}

-- the log of p has one more entry, and the others are as they were
pub record IsAdded (old new : List (List LogEntry)) (p : ℕ) (entry : LogEntry) : Type 0 where
  pub here : (log : List LogEntry) → slice_get old p ≡ Some log → slice_get new p ≡ Some (log ++ entry ∷ [])
  pub others : (q : ℕ) → q ≢ p → slice_get new q ≡ slice_get old q
