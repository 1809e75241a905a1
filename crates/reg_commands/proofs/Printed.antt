-- The layout of a workload is the text of its table, and the table says the workload.
use Rattle.std.proofs.Common.{ℕ, zero, suc, ◌≡◌, ◌<◌, ◌≤◌, ◌^◌, ◌&&◌, Bool, true, false, List, [], ◌∷◌, ◌++◌, map}
use Rattle.std.proofs.Common.{codes, Some, None, refl, sym, ap, subst, append-nil, arith}
use Rattle.std.specs.Prelude.{flat_map, pos, slice_get}
use Rattle.std.specs.Fmt.{decimal}
use Rattle.std.proofs.lemmas.List.{append_assoc}
use Rattle.toml.specs.Data.{Data, string, integer, array, Items, no_items, item, no_members, member, depth, is_sorted}
use Rattle.toml.specs.Data.{has_valid_dates, items_depth, items_are_sorted, items_have_valid_dates, members_depth}
use Rattle.toml.specs.Data.{members_are_sorted, members_have_valid_dates}
use Rattle.toml.specs.Parse.{parse_document}
use Rattle.toml.specs.Tables.{Expression, key_value}
use Rattle.toml.specs.Text.{IsDocumentText, IsItemsText, IsLinesText, IsLineText, IsValueText, breaks_lines}
use Rattle.toml.specs.Text.{expressions}
use Rattle.toml.specs.View.{items_of}
use Rattle.toml.proofs.ReadBack.{parse_document-printed}
use Rattle.toml_writer.specs.Text.{key_text}
use Rattle.reg_base.specs.declared.memory.Op.{Op}
use Rattle.reg_front.specs.Table.{front_name}
use Rattle.reg_base.specs.Names.{names_fault}
use Rattle.reg_text.specs.Lines.{AllFit}
use Rattle.reg_text.specs.Ops.{op_text}
use Rattle.reg_inputs.specs.Loads.{IsLoad, IsScript, Load, Says, op_data, script_data, scripts_data, texts_data}
use Rattle.reg_commands.specs.Layout.{array_text, joined, key_line, load_text, names_array, quoted, script_array}
use Rattle.reg_commands.specs.Layout.{scripts_array, table_of}
use Rattle.reg_commands.proofs.Plain.{between_quotes, each_name, front_plain, op_plain}

-- arrays

module _ {X : Type 0} (data_of : X → Data) (text_of : X → List ℕ) where
  abbrev Each : List X → Type 0
  Each xs = (k : ℕ) (x : X) → slice_get xs k ≡ Some x → IsValueText false (data_of x) (text_of x)

  later : (xs : List X) → Each xs → IsItemsText false false false (items_of (map data_of xs)) (flat_map (λ l. codes ", " ++ l) (map text_of xs) ++ codes "]")
  later [] each = refl
  later (x ∷ xs) each =
      let rest : List ℕ = flat_map (λ l. codes ", " ++ l) (map text_of xs) in
      (text_of x, rest ++ codes "]", ap (λ l. codes ", " ++ l) (append_assoc (text_of x) rest (codes "]")), each zero x refl, later xs (λ k y there. each (suc k) y there))

  items : (xs : List X) → Each xs → IsItemsText false false true (items_of (map data_of xs)) (joined (map text_of xs) ++ codes "]")
  items [] each = refl
  items (x ∷ xs) each =
      let rest : List ℕ = flat_map (λ l. codes ", " ++ l) (map text_of xs) in
      (text_of x, rest ++ codes "]", append_assoc (text_of x) rest (codes "]"), each zero x refl, later xs (λ k y there. each (suc k) y there))

  one_line : (ds : Items) → false ≡ breaks_lines false ds
  one_line no_items = refl
  one_line (item d no_items) = refl
  one_line (item d (item e ds)) = refl

  pub array_is : (xs : List X) → Each xs
      → IsValueText false (array (items_of (map data_of xs))) (array_text (map text_of xs))
  array_is xs each =
      let ds = items_of (map data_of xs) in
      let rest : List ℕ = joined (map text_of xs) ++ codes "]" in
      (rest, refl, subst (λ (lines : Bool). IsItemsText false lines true ds rest) (one_line ds) (items xs each))

  flat : (most : ℕ) (xs : List X) → ((x : X) → depth (data_of x) ≤ most) → items_depth (items_of (map data_of xs)) ≤ most
  flat most [] each = omega arith
  flat most (x ∷ xs) each = let a = each x in let b = flat most xs each in omega (arith, a, b)

  sorted : (xs : List X) → ((x : X) → is_sorted (data_of x) ≡ true) → items_are_sorted (items_of (map data_of xs)) ≡ true
  sorted [] each = refl
  sorted (x ∷ xs) each = rw (each x) (sorted xs each)

  dated : (xs : List X) → ((x : X) → has_valid_dates (data_of x) ≡ true) → items_have_valid_dates (items_of (map data_of xs)) ≡ true
  dated [] each = refl
  dated (x ∷ xs) each = rw (each x) (dated xs each)

names_are : (names : List (List ℕ)) → names_fault names ≡ None
    → IsValueText false (texts_data names) (names_array names)
names_are names well =
    array_is string quoted names (λ k name there. between_quotes name (each_name names well k name there))

script_is : (names : List (List ℕ)) (ops : List Op) → names_fault names ≡ None → IsScript names ops
    → IsValueText false (script_data names ops) (script_array names ops)
script_is names ops well fits = array_is (op_data names) (λ op. quoted (op_text names op)) ops (λ k op there. between_quotes (op_text names op) (op_plain names op well (fits.known k op there)))

scripts_are : (names : List (List ℕ)) (scripts : List (List Op)) → names_fault names ≡ None
    → AllFit (λ _ ops. IsScript names ops) scripts
    → IsValueText false (scripts_data names scripts) (scripts_array names scripts)
scripts_are names scripts well fit = array_is (script_data names) (script_array names) scripts (λ k ops there. script_is names ops well (fit k ops there))

script_depth : (names : List (List ℕ)) (ops : List Op) → depth (script_data names ops) ≤ 1
script_depth names ops = let low = flat (op_data names) (λ op. []) 0 ops (λ op. omega arith) in omega (arith, low)

-- lines

number_is : (n : ℕ) → n < 2 ^ 63 → IsValueText false (integer (pos n)) (decimal n)
number_is n small = (refl, omega arith)

line_is : (started : Bool) (key value : List ℕ) (d : Data) → key_text key ≡ key → IsValueText false d value
    → IsLineText false started ([], key) (key_value d) (key_line key value)
line_is started key value d bare is = (value, ap (λ k. k ++ (codes " = " ++ (value ++ 10 ∷ []))) (sym bare), is)

-- the keys of a workload stand bare
bare : (key_text (codes "budget") ≡ codes "budget") × (key_text (codes "front") ≡ codes "front")
    × (key_text (codes "loss") ≡ codes "loss") × (key_text (codes "registers") ≡ codes "registers")
    × (key_text (codes "repeat") ≡ codes "repeat") × (key_text (codes "scripts") ≡ codes "scripts") × (key_text (codes "seed") ≡ codes "seed")
unfolding key_text
bare = (refl, refl, refl, refl, refl, refl, refl)

abbrev line : List ℕ → Data → Expression
line key d = (([], key), key_value d)

-- no value of the table is a table, so each has a line
lines_of : (budget : ℕ) (front : List ℕ) (loss : ℕ) (names : List (List ℕ)) (repeat : ℕ) (all : List (List ℕ))
    (scripts : List (List Op)) (seed : ℕ)
    → expressions (member (codes "budget") (integer (pos budget)) (member (codes "front") (string front) (member (codes "loss") (integer (pos loss)) (member (codes "registers") (texts_data names)
    (member (codes "repeat") (integer (pos repeat)) (member (codes "scripts") (scripts_data all scripts) (member (codes "seed") (integer (pos seed)) no_members)))))))
    ≡ line (codes "budget") (integer (pos budget)) ∷ line (codes "front") (string front) ∷ line (codes "loss") (integer (pos loss)) ∷ line (codes "registers") (texts_data names)
    ∷ line (codes "repeat") (integer (pos repeat)) ∷ line (codes "scripts") (scripts_data all scripts) ∷ line (codes "seed") (integer (pos seed)) ∷ []
lines_of budget front loss [] repeat all [] seed = refl
lines_of budget front loss [] repeat all (script ∷ scripts) seed = refl
lines_of budget front loss (name ∷ names) repeat all [] seed = refl
lines_of budget front loss (name ∷ names) repeat all (script ∷ scripts) seed = refl

printed : (w : Load) → IsLoad w → IsDocumentText false (table_of w) (load_text w)
printed w good =
    let budget = number_is w.budget (let l = good.budget in omega (arith, l)) in
    let front : IsValueText false (string (front_name w.front)) (quoted (front_name w.front)) = between_quotes (front_name w.front) (front_plain w.front) in
    let loss = number_is w.loss (let l = good.loss in omega (arith, l)) in
    let names = names_are w.names good.names in
    let repeat = number_is w.repeat (let l = good.repeat in omega (arith, l)) in
    let scripts = scripts_are w.names w.scripts good.names good.scripts in
    let seed = number_is w.seed (let l = good.seed in omega (arith, l)) in
    let last : List ℕ = key_line (codes "seed") (decimal w.seed) in
    subst (λ (es : List Expression). IsLinesText false false es (load_text w)) (sym (lines_of w.budget (front_name w.front) w.loss w.names w.repeat w.names w.scripts w.seed))
    (_, _, refl, line_is false (codes "budget") (decimal w.budget) (integer (pos w.budget)) bare.0 budget, (_, _, refl, line_is true (codes "front") (quoted (front_name w.front)) (string (front_name w.front)) bare.1 front, (_, _, refl, line_is true (codes "loss") (decimal w.loss) (integer (pos w.loss)) bare.2 loss, (_, _, refl, line_is true (codes "registers") (names_array w.names) (texts_data w.names) bare.3 names, (_, _, refl, line_is true (codes "repeat") (decimal w.repeat) (integer (pos w.repeat)) bare.4 repeat, (_, _, refl, line_is true (codes "scripts") (scripts_array w.names w.scripts) (scripts_data w.names w.scripts) bare.5 scripts, (last, [], sym (append-nil last), line_is true (codes "seed") (decimal w.seed) (integer (pos w.seed)) bare.6 seed, refl)))))))

-- what a reader of TOML asks of a table that it reads back

both : (a b : Bool) → a ≡ true → b ≡ true → (a && (b && true)) ≡ true
both a b p q = rw (p, q) refl

low : (w : Load) → members_depth (table_of w) ≤ 80
low w =
    let names = flat string (λ name. []) 0 w.names (λ name. omega arith) in
    let scripts = flat (script_data w.names) (λ ops. []) 1 w.scripts (script_depth w.names) in
    omega (arith, names, scripts)

in_order : (w : Load) → members_are_sorted (table_of w) ≡ true
in_order w = both (items_are_sorted (items_of (map string w.names))) (items_are_sorted (items_of (map (script_data w.names) w.scripts)))
    (sorted string (λ name. []) w.names (λ name. refl)) (sorted (script_data w.names) (λ ops. []) w.scripts (λ ops. sorted (op_data w.names) (λ op. []) ops (λ op. refl)))

no_date : (w : Load) → members_have_valid_dates (table_of w) ≡ true
no_date w = both (items_have_valid_dates (items_of (map string w.names))) (items_have_valid_dates (items_of (map (script_data w.names) w.scripts)))
    (dated string (λ name. []) w.names (λ name. refl)) (dated (script_data w.names) (λ ops. []) w.scripts (λ ops. dated (op_data w.names) (λ op. []) ops (λ op. refl)))

-- the layout of a workload is a document, and its table says the workload
pub is_document : (w : Load) → IsLoad w → parse_document (load_text w) ≡ Some (table_of w)
is_document w good =
    parse_document-printed false (table_of w) (load_text w) (printed w good) (low w) (no_date w) (in_order w)

pub says : (w : Load) → Says (table_of w) w
says w = record { known = refl; front = refl; registers = refl; scripts = refl; seed = refl; loss = refl; repeat = refl; budget = refl }
