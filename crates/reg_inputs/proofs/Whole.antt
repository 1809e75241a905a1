-- A table that says a workload has no fault, and says no other.
use Rattle.std.proofs.Common.{◌≡◌, ℕ, zero, suc, ◌<◌, ◌≤◌, pos, true, List, [], ◌∷◌, length, map, Option, Some, None}
use Rattle.std.proofs.Common.{slice_get, refl, sym, ap, subst, ◌∙◌, leb, ltb, inl, inr, arith}
use Rattle.std.specs.Prelude.{◌&&◌}
use Rattle.std.specs.List.{list_all}
use Rattle.std.proofs.lemmas.Bool.Decides.{nat_tests}
use Rattle.std.proofs.lemmas.List.{length-map}
use Rattle.toml.specs.Data.{Data, string, integer, array, Members, get_member}
use Rattle.toml.specs.View.{items_of}
use Rattle.reg_base.specs.declared.limits.TheConstants.{MOST_PROCESSES, MOST_OPERATIONS, MOST_EVENTS, MOST_ODDS}
use Rattle.reg_base.specs.declared.limits.TheConstants.{LAST_SEED, USUAL_BUDGET}
use Rattle.reg_base.specs.declared.memory.Op.{Op}
use Rattle.reg_base.specs.Names.{names_fault}
use Rattle.reg_base.specs.Shape.{Extent}
use Rattle.reg_front.specs.declared.named.Front.{Front}
use Rattle.reg_front.specs.Table.{front_name}
use Rattle.reg_text.specs.Lines.{AllFit}
use Rattle.reg_text.specs.Ops.{op_text}
use Rattle.reg_inputs.specs.declared.keys.Key.{Key}
use Rattle.reg_inputs.specs.declared.keys.Key.TheVariants as key
use Rattle.reg_inputs.specs.declared.faults.WorkloadFault.{WorkloadFault}
use Rattle.reg_inputs.specs.Keys.{key_name}
use Rattle.reg_inputs.specs.Loads.{Load, IsLoad, IsScript, Says, SaysNumber, texts_data, op_data, script_data}
use Rattle.reg_inputs.specs.Loads.{scripts_data}
use Rattle.reg_inputs.specs.Judged.{listed, is_text, text_of, is_script, is_short, registers_fault, scripts_fault}
use Rattle.reg_inputs.specs.Judged.{front_at, registers_at, scripts_at, number_fault, optional, number_at, numbers_at}
use Rattle.reg_inputs.specs.Judged.{table_fault, IsFirstWrong, IsFirstRefused, IsScriptFault, IsFault}
use Rattle.reg_inputs.proofs.Accessors.{front_known}
use Rattle.reg_inputs.proofs.Lists.{listed-items_of}

-- texts

texts_of_texts : (ts : List (List ℕ)) → map text_of (map string ts) ≡ ts
texts_of_texts [] = refl
texts_of_texts (t ∷ ts) = ap (λ l. t ∷ l) (texts_of_texts ts)

all_texts : {X : Type 0} (spell : X → List ℕ) (xs : List X) → list_all is_text (map (λ x. string (spell x)) xs) ≡ true
all_texts spell [] = refl
all_texts spell (x ∷ xs) = all_texts spell xs

pub items_same : (a b : List Data) → array (items_of a) ≡ array (items_of b) → a ≡ b
items_same a b e =
    let same : items_of a ≡ items_of b = cc in
    sym (listed-items_of a) ∙ subst (λ i. listed (items_of a) ≡ listed i) same refl ∙ listed-items_of b

pub texts_same : (a b : List (List ℕ)) → texts_data a ≡ texts_data b → a ≡ b
texts_same a b e =
    sym (texts_of_texts a) ∙ ap (map text_of) (items_same (map string a) (map string b) e) ∙ texts_of_texts b

pub number_same : (usual a b : ℕ) (o : Option Data) → SaysNumber usual a o → SaysNumber usual b o → a ≡ b
number_same usual a b None e f = e ∙ sym f
number_same usual a b (Some d) e f = cc

-- keys

front_fine : (ms : Members) (w : Load) → Says ms w → front_at ms ≡ None
front_fine ms w s = rw (s.front, front_known w.front (front_name w.front) refl)

names_fine : (names : List (List ℕ)) → names_fault names ≡ None → registers_fault (map string names) ≡ None
names_fine names e = rw (all_texts (λ t. t) names, texts_of_texts names, e)

registers_fine : (ms : Members) (w : Load) → Says ms w → IsLoad w → registers_at ms ≡ None
registers_fine ms w s l = rw (s.registers, listed-items_of (map string w.names)) (names_fine w.names l.names)

number_within : (k : Key) (least most n : ℕ) → least ≤ n → n ≤ most → number_fault k least most (integer (pos n)) ≡ None
number_within k least most n a b =
    let c : leb least n ≡ true = grind (arith, nat_tests) in
    let d : leb n most ≡ true = grind (arith, nat_tests) in
    rw (c, d)

number_fine : (k : Key) (least most usual n : ℕ) (o : Option Data) → SaysNumber usual n o → least ≤ n → n ≤ most
    → optional (number_fault k least most) o ≡ None
number_fine k least most usual n None e a b = refl
number_fine k least most usual n (Some d) e a b = rw e (number_within k least most n a b)

numbers_fine : (ms : Members) (w : Load) → Says ms w → IsLoad w → numbers_at ms ≡ None
numbers_fine ms w s l =
    let a : number_at key.Seed 0 LAST_SEED ms ≡ None = number_fine key.Seed 0 LAST_SEED 0 w.seed (get_member (key_name key.Seed) ms) s.seed (omega arith) l.seed in
    let b : number_at key.Loss 0 MOST_ODDS ms ≡ None = number_fine key.Loss 0 MOST_ODDS 0 w.loss (get_member (key_name key.Loss) ms) s.loss (omega arith) l.loss in
    let c : number_at key.Repeat 0 MOST_ODDS ms ≡ None = number_fine key.Repeat 0 MOST_ODDS 0 w.repeat (get_member (key_name key.Repeat) ms) s.repeat (omega arith) l.repeat in
    let d : number_at key.Budget 1 MOST_EVENTS ms ≡ None = number_fine key.Budget 1 MOST_EVENTS USUAL_BUDGET w.budget (get_member (key_name key.Budget) ms) s.budget (omega (arith, l.some_event)) l.budget in
    rw (a, b, c, d)

script_fine : (names : List (List ℕ)) (ops : List Op) → is_script (script_data names ops) ≡ true
script_fine names ops = rw (listed-items_of (map (op_data names) ops)) (all_texts (op_text names) ops)

scripts_fine_all : (names : List (List ℕ)) (scripts : List (List Op))
    → list_all is_script (map (script_data names) scripts) ≡ true
scripts_fine_all names [] = refl
scripts_fine_all names (ops ∷ scripts) = rw (script_fine names ops) (scripts_fine_all names scripts)

script_short : (names : List (List ℕ)) (ops : List Op) → length ops ≤ MOST_OPERATIONS
    → is_short (script_data names ops) ≡ true
script_short names ops few =
    let n : length (map (op_data names) ops) ≡ length ops = length-map ops (op_data names) in
    let t : leb (length ops) 65535 ≡ true = grind (arith, nat_tests) in
    rw (listed-items_of (map (op_data names) ops), n, t)

scripts_short : (names : List (List ℕ)) (scripts : List (List Op)) → AllFit (λ _ ops. IsScript names ops) scripts
    → list_all is_short (map (script_data names) scripts) ≡ true
scripts_short names [] h = refl
scripts_short names (ops ∷ scripts) h =
    let here : length ops ≤ MOST_OPERATIONS = (h 0 ops refl).few in
    rw (script_short names ops here) (scripts_short names scripts (λ k x e. h (suc k) x e))

count_fine : (n : ℕ) → 0 < n → n ≤ MOST_PROCESSES → (ltb 0 n && leb n MOST_PROCESSES) ≡ true
count_fine n a b = grind (arith, nat_tests)

few_fine : (names : List (List ℕ)) (scripts : List (List Op)) → 0 < length scripts → length scripts ≤ MOST_PROCESSES
    → AllFit (λ _ ops. IsScript names ops) scripts → scripts_fault (map (script_data names) scripts) ≡ None
few_fine names scripts some few fit =
    let n : length (map (script_data names) scripts) ≡ length scripts = length-map scripts (script_data names) in
    rw (scripts_fine_all names scripts, n, count_fine (length scripts) some few, scripts_short names scripts fit)

scripts_fine : (ms : Members) (w : Load) → Says ms w → IsLoad w → scripts_at ms ≡ None
scripts_fine ms w s l = rw (s.scripts, listed-items_of (map (script_data w.names) w.scripts)) (few_fine w.names w.scripts l.some_process l.few_processes l.scripts)

pub no_fault : (ms : Members) (w : Load) → Says ms w → IsLoad w → table_fault ms ≡ None
no_fault ms w s l =
    rw (s.known, front_fine ms w s, registers_fine ms w s l, scripts_fine ms w s l, numbers_fine ms w s l)

-- operations

record Mapped {X : Type 0} (f : X → Data) (xs : List X) (k : ℕ) (d : Data) : Type 0 where
  x : X
  at : slice_get xs k ≡ Some x
  is : f x ≡ d

mapped : {X : Type 0} (f : X → Data) (xs : List X) (k : ℕ) (d : Data) → slice_get (map f xs) k ≡ Some d
    → Mapped f xs k d
mapped f [] k d e = absurd (cc)
mapped f (y ∷ xs) zero d e = record { x = y; at = refl; is = cc }
mapped f (y ∷ xs) (suc k) d e = let m = mapped f xs k d e in record { x = m.x; at = m.at; is = m.is }

at_mapped : {X : Type 0} (f : X → Data) (xs : List X) (k : ℕ) → k < length xs
    → (x : X) × (slice_get xs k ≡ Some x) × (slice_get (map f xs) k ≡ Some (f x))
at_mapped f [] k h = absurd (omega arith)
at_mapped f (y ∷ xs) zero h = (y, refl, refl)
at_mapped f (y ∷ xs) (suc k) h = at_mapped f xs k (omega arith)

no_wrong : (names : List (List ℕ)) (ops : List Op) (place : ℕ) → IsScript names ops
    → IsFirstWrong names (map (op_data names) ops) place → ⊥
no_wrong names ops place s w =
    let n : length (map (op_data names) ops) ≡ length ops = length-map ops (op_data names) in
    let m = at_mapped (op_data names) ops place (omega (arith, w.within)) in
    w.wrong m.0 (s.known place m.0 m.1) m.2

no_refused : (names : List (List ℕ)) (scripts : List (List Op)) (process place : ℕ)
    → AllFit (λ _ ops. IsScript names ops) scripts
    → IsFirstRefused names (map (script_data names) scripts) process place → ⊥
no_refused names scripts process place fit r =
    let m = mapped (script_data names) scripts process (array (items_of r.script)) r.at in
    let same : map (op_data names) m.x ≡ r.script = items_same (map (op_data names) m.x) r.script m.is in
    no_wrong names m.x place (fit process m.x m.at) (subst (λ ds. IsFirstWrong names ds place) (sym same) r.first)

pub no_script_fault : (ms : Members) (w : Load) (e : WorkloadFault) → Says ms w → IsLoad w → IsScriptFault ms e → ⊥
no_script_fault ms w e s l f =
    let names : f.names ≡ w.names = texts_same f.names w.names (let h : Some (texts_data f.names) ≡ Some (texts_data w.names) = sym f.registers ∙ s.registers in cc) in
    let ds : f.ds ≡ map (script_data w.names) w.scripts = items_same f.ds (map (script_data w.names) w.scripts) (let h : Some (array (items_of f.ds)) ≡ Some (scripts_data w.names w.scripts) = sym f.scripts ∙ s.scripts in cc) in
    let a = subst (λ n. IsFirstRefused n f.ds f.process f.place) names f.refused in
    no_refused w.names w.scripts f.process f.place l.scripts (subst (λ x. IsFirstRefused w.names x f.process f.place) ds a)

pub no_other_fault : (ms : Members) (w : Load) (e : WorkloadFault) → Says ms w → IsLoad w → IsFault ms e → ⊥
no_other_fault ms w e s l f = elim f [
  | inl t ↦ let none = no_fault ms w s l in absurd (cc)
  | inr x ↦ no_script_fault ms w e s l x
]

-- what two workloads of one table have in common is all of them

same_load : (w : Load) (shape : Extent) (names : List (List ℕ)) (front : Front) (scripts : List (List Op))
    (seed loss repeat budget : ℕ)
    → shape ≡ w.shape → names ≡ w.names → front ≡ w.front → scripts ≡ w.scripts → seed ≡ w.seed → loss ≡ w.loss → repeat ≡ w.repeat → budget ≡ w.budget
    → record { shape = shape; names = names; front = front; scripts = scripts; seed = seed; loss = loss; repeat = repeat; budget = budget } ≡ w
same_load w shape names front scripts seed loss repeat budget a b c d e f g h = rw (a, b, c, d, e, f, g, h) refl

same_shape : (v w : Load) → IsLoad v → IsLoad w → v.names ≡ w.names → v.scripts ≡ w.scripts → v.shape ≡ w.shape
same_shape v w l m names scripts =
    let p : v.shape.processes ≡ w.shape.processes = l.processes ∙ ap length scripts ∙ sym m.processes in
    let r : v.shape.registers ≡ w.shape.registers = l.registers ∙ ap length names ∙ sym m.registers in
    ap (λ x. record { processes = x; registers = v.shape.registers }) p ∙ ap (λ x. record { processes = w.shape.processes; registers = x }) r

pub loads_same : (ms : Members) (v w : Load) → Says ms v → IsLoad v → Says ms w → IsLoad w → v.front ≡ w.front
    → v.names ≡ w.names → v.scripts ≡ w.scripts → v ≡ w
loads_same ms v w s l t m front names scripts =
    same_load w v.shape v.names v.front v.scripts v.seed v.loss v.repeat v.budget (same_shape v w l m names scripts) names front scripts
    (number_same 0 v.seed w.seed (get_member (key_name key.Seed) ms) s.seed t.seed)
    (number_same 0 v.loss w.loss (get_member (key_name key.Loss) ms) s.loss t.loss)
    (number_same 0 v.repeat w.repeat (get_member (key_name key.Repeat) ms) s.repeat t.repeat)
    (number_same USUAL_BUDGET v.budget w.budget (get_member (key_name key.Budget) ms) s.budget t.budget)

pub names_same : (ms : Members) (v w : Load) → Says ms v → Says ms w → v.names ≡ w.names
names_same ms v w s t = texts_same v.names w.names (let h : Some (texts_data v.names) ≡ Some (texts_data w.names) = sym s.registers ∙ t.registers in cc)

pub scripts_read : (ms : Members) (w : Load) (ds : List Data)
    → get_member (key_name key.Scripts) ms ≡ Some (array (items_of ds)) → Says ms w
    → ds ≡ map (script_data w.names) w.scripts
scripts_read ms w ds e s = items_same ds (map (script_data w.names) w.scripts) (let h : Some (array (items_of ds)) ≡ Some (scripts_data w.names w.scripts) = sym e ∙ s.scripts in cc)
