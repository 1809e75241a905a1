-- What is told of a record of processes that ran apart.
use Rattle.std.specs.Prelude.{ℕ, ◌≡◌, Bool, true, false, List, [], ◌∷◌, ◌++◌, length, codes, nat_eq}
use Rattle.std.specs.List.{starts_with}
use Rattle.reg_front.specs.Table.{front_name}
use Rattle.reg_commands.specs.Replays.{start_of}
use Rattle.reg_commands.specs.declared.faults.Fault.TheVariants.{Unread, TooLong, NotText, Output, Line, Event}
use Rattle.reg_commands.specs.declared.faults.Fault.TheVariants.{Workload, OutOfMemory}
use Rattle.reg_node.specs.RecordLines.{Account, IsAccount, SpellsAccount}
use Rattle.reg_verify.specs.Verifies.{IsRefused, IsUnfaithful, Runs, verify_line}
use Rattle.reg_verify.specs.declared.faults.VerifyFault.{VerifyFault}
use Rattle.reg_verify.specs.declared.faults.VerifyFault.TheVariants.{Command, Unfaithful}
use Rattle.reg_world.specs.Worlds.{Made}
use Rattle.reg_reasons.specs.FirstLines.{subject_text}

-- the text begins as the texts of records do
abbrev pub begins_record : List ℕ → Bool
begins_record text = starts_with nat_eq text (codes "tellwydar record ")

-- the fault is one of a record's text, and holds of it
abbrev pub IsWhyOfRecord : VerifyFault → List ℕ → Type 0
IsWhyOfRecord (Command Unread) text = ⊥
IsWhyOfRecord (Command TooLong) text = ⊥
IsWhyOfRecord (Command NotText) text = ⊥
IsWhyOfRecord (Command Output) text = ⊥
IsWhyOfRecord (Command (Line line why)) text = IsRefused line why text
IsWhyOfRecord (Command (Event at fault)) text = ⊥
IsWhyOfRecord (Command (Workload fault)) text = ⊥
IsWhyOfRecord (Command OutOfMemory) text = ⊥
IsWhyOfRecord (Unfaithful line) text = IsUnfaithful line text

-- The text has a fault that `verify` tells, and the answer begins with the line of that fault.
pub record RefusesRecord (answer text : List ℕ) : Type 0 where
  pub fault : VerifyFault
  pub why : IsWhyOfRecord fault text
  pub rest : List ℕ
  pub begins : answer ≡ verify_line fault ++ rest

-- The text is that of a record whose steps are a run, and the answer says so, with how many steps it has.
pub record IsRecordOfRun (answer text : List ℕ) : Type 0 where
  pub account : Account
  pub good : IsAccount account
  pub read : SpellsAccount text account
  pub world : Made
  pub runs : Runs (start_of account.front) account.shape account.steps world
  pub said : answer
      ≡ subject_text (codes "a record: ") account.shape.processes account.shape.registers (front_name account.front)
      (length account.steps) (codes " step") (codes " steps")
      ++ (codes ", a run" ++ 10 ∷ [])

-- whether a text that begins as a record is one of a run, and the answer that it gets
abbrev pub TellsRecord : Bool → List ℕ → List ℕ → Type 0
TellsRecord true answer text = IsRecordOfRun answer text
TellsRecord false answer text = RefusesRecord answer text
