-- What a workload holds, and the documents that say it.
use Rattle.std.specs.Prelude.{ℕ, pos, ◌≡◌, ◌<◌, ◌≤◌, true, None, Some, Option, List, length, map}
use Rattle.toml.specs.Data.{Data, string, integer, array, Members, get_member}
use Rattle.toml.specs.View.{items_of}
use Rattle.reg_base.specs.declared.limits.TheConstants.{MOST_PROCESSES, MOST_OPERATIONS, MOST_EVENTS, MOST_ODDS}
use Rattle.reg_base.specs.declared.limits.TheConstants.{LAST_SEED, USUAL_BUDGET}
use Rattle.reg_base.specs.declared.memory.Op.{Op}
use Rattle.reg_base.specs.Shape.{Extent}
use Rattle.reg_base.specs.Names.{names_fault}
use Rattle.reg_front.specs.declared.named.Front.{Front}
use Rattle.reg_front.specs.Table.{front_name}
use Rattle.reg_text.specs.Lines.{AllFit}
use Rattle.reg_text.specs.Ops.{op_text, OpFits}
use Rattle.reg_inputs.specs.declared.keys.Key.TheVariants as key
use Rattle.reg_inputs.specs.Keys.{key_name, all_known}

-- what a workload holds
pub record Load : Type 0 where
  pub shape : Extent
  pub names : List (List ℕ)
  pub front : Front
  pub scripts : List (List Op)
  pub seed : ℕ
  pub loss : ℕ
  pub repeat : ℕ
  pub budget : ℕ

-- not too many operations, each on a register with a name
pub record IsScript (names : List (List ℕ)) (ops : List Op) : Type 0 where
  pub few : length ops ≤ MOST_OPERATIONS
  pub known : AllFit (λ _ op. OpFits names op) ops

-- within the limits of a workload: one script for each process, and one name for each register
pub record IsLoad (w : Load) : Type 0 where
  pub names : names_fault w.names ≡ None
  pub registers : w.shape.registers ≡ length w.names
  pub processes : w.shape.processes ≡ length w.scripts
  pub some_process : 0 < length w.scripts
  pub few_processes : length w.scripts ≤ MOST_PROCESSES
  pub scripts : AllFit (λ _ ops. IsScript w.names ops) w.scripts
  pub seed : w.seed ≤ LAST_SEED
  pub loss : w.loss ≤ MOST_ODDS
  pub repeat : w.repeat ≤ MOST_ODDS
  pub some_event : 0 < w.budget
  pub budget : w.budget ≤ MOST_EVENTS

-- an array of texts
abbrev pub texts_data : List (List ℕ) → Data
texts_data texts = array (items_of (map string texts))

-- an operation as text, and the operations of a script
abbrev pub op_data : List (List ℕ) → Op → Data
op_data names op = string (op_text names op)

abbrev pub script_data : List (List ℕ) → List Op → Data
script_data names ops = array (items_of (map (op_data names) ops))

abbrev pub scripts_data : List (List ℕ) → List (List Op) → Data
scripts_data names scripts = array (items_of (map (script_data names) scripts))

-- this number, which is the usual one where the key is not there
abbrev pub SaysNumber : ℕ → ℕ → Option Data → Type 0
SaysNumber usual n None = n ≡ usual
SaysNumber usual n (Some d) = d ≡ integer (pos n)

-- a table with these keys alone, each with this value
pub record Says (ms : Members) (w : Load) : Type 0 where
  pub known : all_known ms ≡ true
  pub front : get_member (key_name key.Front) ms ≡ Some (string (front_name w.front))
  pub registers : get_member (key_name key.Registers) ms ≡ Some (texts_data w.names)
  pub scripts : get_member (key_name key.Scripts) ms ≡ Some (scripts_data w.names w.scripts)
  pub seed : SaysNumber 0 w.seed (get_member (key_name key.Seed) ms)
  pub loss : SaysNumber 0 w.loss (get_member (key_name key.Loss) ms)
  pub repeat : SaysNumber 0 w.repeat (get_member (key_name key.Repeat) ms)
  pub budget : SaysNumber USUAL_BUDGET w.budget (get_member (key_name key.Budget) ms)
