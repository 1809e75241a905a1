-- Scripts, and what was performed of them.
use Rattle.std.specs.Prelude.{ℕ, ◌≡◌, ◌++◌, ◌∷◌, [], List, length, map, take, Option, None}
use Rattle.reg_base.specs.declared.memory.Op.{Op}
use Rattle.reg_checkers.specs.History.{IsAt}
use Rattle.reg_records.specs.declared.entries.Receipt.{Receipt}
use Rattle.reg_live.specs.declared.faults.LiveFault.{LiveFault}
use Rattle.reg_live.specs.Passes.{Held}

-- the operations that were answered
abbrev pub ops_of : List Receipt → List Op
ops_of receipts = map (λ r. r.op) receipts

-- The pass is of this process, and its receipts are for the first operations of this script: for all of it, unless an
-- operation was refused.
pub record IsPerformed (process : ℕ) (script : List Op) (pass : Held) (fault : Option LiveFault) : Type 0 where
  pub own : pass.me ≡ process
  pub part : ops_of pass.receipts ≡ take (length pass.receipts) script
  pub all : fault ≡ None → ops_of pass.receipts ≡ script

-- one more pass is back: of this process, with receipts for all of this script
pub record IsBack (old : List Held) (process : ℕ) (script : List Op) (new : List Held) : Type 0 where
  pub pass : Held
  pub pushed : new ≡ old ++ pass ∷ []
  pub own : pass.me ≡ process
  pub ops : ops_of pass.receipts ≡ script

-- the k-th thread performs the k-th script, for process k
pub record AreStarted (scripts : List (List Op)) (threads : List (ℕ × List Op)) : Type 0 where
  pub each : (k : ℕ) (t : ℕ × List Op) → IsAt threads k t → (t.0 ≡ k) × IsAt scripts k t.1
  pub all : length threads ≡ length scripts

-- the k-th pass is of process k, and its receipts are for the k-th script
pub record ArePerformed (scripts : List (List Op)) (passes : List Held) : Type 0 where
  pub each : (k : ℕ) (pass : Held) → IsAt passes k pass → (pass.me ≡ k) × IsAt scripts k (ops_of pass.receipts)
  pub all : length passes ≡ length scripts
