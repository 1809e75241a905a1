-- The one layout of a workload: a document of seven lines, the keys in the order of their letters.
use Rattle.std.specs.Prelude.{ℕ, zero, suc, pos, List, [], ◌∷◌, ◌++◌, flat_map, map, codes}
use Rattle.std.specs.Fmt.{decimal}
use Rattle.toml.specs.Data.{string, integer, Members, no_members, member}
use Rattle.reg_base.specs.declared.memory.Op.{Op}
use Rattle.reg_front.specs.Table.{front_name}
use Rattle.reg_text.specs.Ops.{op_text}
use Rattle.reg_inputs.specs.Loads.{Load, scripts_data, texts_data}

-- a text between quotes
abbrev pub quoted : List ℕ → List ℕ
quoted text = 34 ∷ text ++ 34 ∷ []

-- what stands before the item of an array at this place
abbrev pub between : ℕ → List ℕ
between zero = []
between (suc place) = codes ", "

-- items after one another
abbrev pub joined : List (List ℕ) → List ℕ
joined [] = []
joined (item ∷ items) = item ++ flat_map (λ later. codes ", " ++ later) items

abbrev pub array_text : List (List ℕ) → List ℕ
array_text items = codes "[" ++ (joined items ++ codes "]")

abbrev pub names_array : List (List ℕ) → List ℕ
names_array names = array_text (map quoted names)

abbrev pub script_array : List (List ℕ) → List Op → List ℕ
script_array names ops = array_text (map (λ op. quoted (op_text names op)) ops)

abbrev pub scripts_array : List (List ℕ) → List (List Op) → List ℕ
scripts_array names scripts = array_text (map (script_array names) scripts)

-- the line of a key
abbrev pub key_line : List ℕ → List ℕ → List ℕ
key_line key value = key ++ (codes " = " ++ (value ++ 10 ∷ []))

-- the layout of a workload
abbrev pub load_text : Load → List ℕ
load_text w =
    key_line (codes "budget") (decimal w.budget) ++ (key_line (codes "front") (quoted (front_name w.front))
    ++ (key_line (codes "loss") (decimal w.loss) ++ (key_line (codes "registers") (names_array w.names)
    ++ (key_line (codes "repeat") (decimal w.repeat) ++ (key_line (codes "scripts") (scripts_array w.names w.scripts)
    ++ key_line (codes "seed") (decimal w.seed))))))

-- the table that it is the text of
abbrev pub table_of : Load → Members
table_of w =
    member (codes "budget") (integer (pos w.budget)) (member (codes "front") (string (front_name w.front))
    (member (codes "loss") (integer (pos w.loss)) (member (codes "registers") (texts_data w.names)
    (member (codes "repeat") (integer (pos w.repeat)) (member (codes "scripts") (scripts_data w.names w.scripts)
    (member (codes "seed") (integer (pos w.seed)) no_members))))))
