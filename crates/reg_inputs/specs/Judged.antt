-- The first fault of a table.
use Rattle.std.specs.Prelude.{ℕ, pos, negsuc, ◌≡◌, ◌⊎◌, ◌<◌, Bool, true, false, ◌&&◌, ◌||◌, nat_lt, nat_le, Option}
use Rattle.std.specs.Prelude.{Some, None, List, [], ◌∷◌, length, map, take, slice_get, codes}
use Rattle.std.specs.List.{list_all}
use Rattle.std.specs.Str.{bytes_eq}
use Rattle.toml.specs.Data.{Data, string, integer, array, Items, no_items, item, Members, get_member}
use Rattle.toml.specs.View.{items_of}
use Rattle.reg_base.specs.declared.limits.TheConstants.{MOST_PROCESSES, MOST_OPERATIONS, MOST_EVENTS, MOST_ODDS}
use Rattle.reg_base.specs.declared.limits.TheConstants.{LAST_SEED}
use Rattle.reg_base.specs.declared.memory.Op.{Op}
use Rattle.reg_base.specs.declared.naming.NamesFault.{NamesFault}
use Rattle.reg_base.specs.Names.{names_fault}
use Rattle.reg_text.specs.Lines.{AllFit}
use Rattle.reg_text.specs.Ops.{OpFits}
use Rattle.reg_inputs.specs.declared.keys.Key.{Key}
use Rattle.reg_inputs.specs.declared.keys.Key.TheVariants as key
use Rattle.reg_inputs.specs.declared.faults.WorkloadFault.{WorkloadFault}
use Rattle.reg_inputs.specs.declared.faults.WorkloadFault.TheVariants.{UnknownKey, Missing, Kind, Range, Script}
use Rattle.reg_inputs.specs.Keys.{key_name, all_known}
use Rattle.reg_inputs.specs.Loads.{IsScript, texts_data, op_data, script_data}

-- the first fault of two
abbrev pub first_of : Option WorkloadFault → Option WorkloadFault → Option WorkloadFault
first_of (Some e) next = Some e
first_of None next = next

-- no fault where a test is passed
abbrev pub unless : Bool → WorkloadFault → Option WorkloadFault
unless true e = None
unless false e = Some e

abbrev pub listed : Items → List Data
listed no_items = []
listed (item d ds) = d ∷ listed ds

abbrev pub is_text : Data → Bool
is_text (string s) = true
is_text _ = false

abbrev pub text_of : Data → List ℕ
text_of (string s) = s
text_of _ = []

-- the fault of a key that each workload has, and of one that need not be there
abbrev pub needed : Key → (Data → Option WorkloadFault) → Option Data → Option WorkloadFault
needed k fault None = Some (Missing k)
needed k fault (Some d) = fault d

abbrev pub optional : (Data → Option WorkloadFault) → Option Data → Option WorkloadFault
optional fault None = None
optional fault (Some d) = fault d

-- one of the three names of front ends
abbrev pub is_front : List ℕ → Bool
is_front name =
    bytes_eq name (codes "linear") || (bytes_eq name (codes "local-read") || bytes_eq name (codes "local-write"))

abbrev pub front_fault : Data → Option WorkloadFault
front_fault (string name) = unless (is_front name) (Range key.Front)
front_fault _ = Some (Kind key.Front)

-- an array, of which a test says more
abbrev pub array_fault : Key → (List Data → Option WorkloadFault) → Data → Option WorkloadFault
array_fault k fault (array ds) = fault (listed ds)
array_fault k fault _ = Some (Kind k)

abbrev pub are_texts : List Data → Bool
are_texts ds = list_all is_text ds

abbrev pub is_no_fault : Option NamesFault → Bool
is_no_fault None = true
is_no_fault (Some e) = false

abbrev pub are_names : List Data → Bool
are_names ds = is_no_fault (names_fault (map text_of ds))

-- texts, and then names
abbrev pub registers_fault : List Data → Option WorkloadFault
registers_fault ds = first_of (unless (are_texts ds) (Kind key.Registers)) (unless (are_names ds) (Range key.Registers))

abbrev pub is_script : Data → Bool
is_script (array ds) = are_texts (listed ds)
is_script _ = false

abbrev pub are_scripts : List Data → Bool
are_scripts ds = list_all is_script ds

abbrev pub is_short : Data → Bool
is_short (array ds) = nat_le (length (listed ds)) MOST_OPERATIONS
is_short _ = false

-- one script or more, not too many, and none too long
abbrev pub are_few : List Data → Bool
are_few ds = (nat_lt 0 (length ds) && nat_le (length ds) MOST_PROCESSES) && list_all is_short ds

-- arrays of texts, and then a script for each process
abbrev pub scripts_fault : List Data → Option WorkloadFault
scripts_fault ds = first_of (unless (are_scripts ds) (Kind key.Scripts)) (unless (are_few ds) (Range key.Scripts))

-- an integer in this range
abbrev pub number_fault : Key → ℕ → ℕ → Data → Option WorkloadFault
number_fault k least most (integer (pos n)) = unless (nat_le least n && nat_le n most) (Range k)
number_fault k least most (integer (negsuc n)) = Some (Range k)
number_fault k least most _ = Some (Kind k)

-- the faults of each key
abbrev pub front_at : Members → Option WorkloadFault
front_at ms = needed key.Front front_fault (get_member (key_name key.Front) ms)

abbrev pub registers_at : Members → Option WorkloadFault
registers_at ms =
    needed key.Registers (array_fault key.Registers registers_fault) (get_member (key_name key.Registers) ms)

abbrev pub scripts_at : Members → Option WorkloadFault
scripts_at ms = needed key.Scripts (array_fault key.Scripts scripts_fault) (get_member (key_name key.Scripts) ms)

abbrev pub number_at : Key → ℕ → ℕ → Members → Option WorkloadFault
number_at k least most ms = optional (number_fault k least most) (get_member (key_name k) ms)

abbrev pub numbers_at : Members → Option WorkloadFault
numbers_at ms =
    first_of (number_at key.Seed 0 LAST_SEED ms) (
    first_of (number_at key.Loss 0 MOST_ODDS ms) (
    first_of (number_at key.Repeat 0 MOST_ODDS ms) (
    number_at key.Budget 1 MOST_EVENTS ms)))

-- the first fault of a table, its operations aside
abbrev pub table_fault : Members → Option WorkloadFault
table_fault ms =
    first_of (unless (all_known ms) UnknownKey) (
    first_of (front_at ms) (
    first_of (registers_at ms) (
    first_of (scripts_at ms) (
    numbers_at ms))))

-- this place is the first one of a script that has no operation
pub record IsFirstWrong (names : List (List ℕ)) (ds : List Data) (place : ℕ) : Type 0 where
  pub within : place < length ds
  pub ops : List Op
  pub known : AllFit (λ _ op. OpFits names op) ops
  pub before : take place ds ≡ map (op_data names) ops
  pub wrong : (op : Op) → OpFits names op → slice_get ds place ≡ Some (op_data names op) → ⊥

-- the script of this process is the first one with a place that has no operation, and this place is its first such one
pub record IsFirstRefused (names : List (List ℕ)) (ds : List Data) (process place : ℕ) : Type 0 where
  pub scripts : List (List Op)
  pub known : AllFit (λ _ ops. IsScript names ops) scripts
  pub before : take process ds ≡ map (script_data names) scripts
  pub script : List Data
  pub at : slice_get ds process ≡ Some (array (items_of script))
  pub first : IsFirstWrong names script place

-- an operation is refused, in a table that has no other fault
pub record IsScriptFault (ms : Members) (e : WorkloadFault) : Type 0 where
  pub no_fault : table_fault ms ≡ None
  pub names : List (List ℕ)
  pub registers : get_member (key_name key.Registers) ms ≡ Some (texts_data names)
  pub ds : List Data
  pub scripts : get_member (key_name key.Scripts) ms ≡ Some (array (items_of ds))
  pub process : ℕ
  pub place : ℕ
  pub refused : IsFirstRefused names ds process place
  pub told : e ≡ Script process place

-- the fault that a table has
abbrev pub IsFault : Members → WorkloadFault → Type 0
IsFault ms e = (table_fault ms ≡ Some e) ⊎ IsScriptFault ms e
