-- Arrays as lists.
use Rattle.std.proofs.Common.{◌≡◌, ℕ, Bool, true, false, List, [], ◌∷◌, map, Option, Some, refl, ap, subst, ◌∙◌, length}
use Rattle.std.proofs.Common.{ltb, leb, ◌≤◌, arith}
use Rattle.std.proofs.lemmas.Bool.Decides.{nat_tests}
use Rattle.std.specs.Prelude.{◌&&◌}
use Rattle.std.specs.List.{list_all}
use Rattle.std.proofs.lemmas.List.Folds.{list_all-map}
use Rattle.std.proofs.lemmas.Bool.{and_parts, false≢true}
use Rattle.toml.specs.Data.{Data, string, integer, float, boolean, datetime, array, table, as_array}
use Rattle.toml.specs.View.{view, items_of, items_view}
use Rattle.toml.specs.declared.value.Value.{Value}
use Rattle.reg_base.specs.Names.{names_fault}
use Rattle.reg_base.specs.declared.limits.TheConstants.{MOST_PROCESSES}
use Rattle.reg_inputs.specs.declared.keys.Key.{Key}
use Rattle.reg_inputs.specs.declared.keys.Key.TheVariants as key
use Rattle.reg_inputs.specs.declared.faults.WorkloadFault.{WorkloadFault}
use Rattle.reg_inputs.specs.declared.faults.WorkloadFault.TheVariants.{Kind, Range}
use Rattle.reg_inputs.specs.Judged.{listed, needed, array_fault, is_text, text_of, is_no_fault, registers_fault, unless}
use Rattle.reg_inputs.specs.Judged.{is_script, is_short, are_few, scripts_fault}

pub listed-items_of : (ds : List Data) → listed (items_of ds) ≡ ds
listed-items_of [] = refl
listed-items_of (d ∷ ds) = ap (λ l. d ∷ l) (listed-items_of ds)

as_text : (d : Data) → is_text d ≡ true → string (text_of d) ≡ d
as_text (string s) e = refl
as_text (integer z) e = absurd (false≢true e)
as_text (float x) e = absurd (false≢true e)
as_text (boolean b) e = absurd (false≢true e)
as_text (datetime t) e = absurd (false≢true e)
as_text (array ds) e = absurd (false≢true e)
as_text (table ms) e = absurd (false≢true e)

pub restored : (vs : List Value) → list_all (λ v. is_text (view v)) vs ≡ true
    → map view vs ≡ map string (map (λ v. text_of (view v)) vs)
restored [] e = refl
restored (v ∷ vs) e =
    let (here, more) = and_parts (is_text (view v)) (list_all (λ v. is_text (view v)) vs) e in
    let one = as_text (view v) here in
    rw (one, restored vs more)

pub map_both : (vs : List Value) → map text_of (map view vs) ≡ map (λ v. text_of (view v)) vs
map_both [] = refl
map_both (v ∷ vs) = ap (λ l. text_of (view v) ∷ l) (map_both vs)

pub no_texts : (vs : List Value) → list_all (λ v. is_text (view v)) vs ≡ false
    → registers_fault (map view vs) ≡ Some (Kind key.Registers)
no_texts vs e = rw (list_all-map is_text view vs, e)

pub names_judged : (vs : List Value) (names : List (List ℕ)) → list_all (λ v. is_text (view v)) vs ≡ true
    → names ≡ map (λ v. text_of (view v)) vs
    → registers_fault (map view vs) ≡ unless (is_no_fault (names_fault names)) (Range key.Registers)
names_judged vs names e n = rw (list_all-map is_text view vs, e, map_both vs, ← n)

pub length-view : (vs : List Value) → length (map view vs) ≡ length vs
length-view [] = refl
length-view (v ∷ vs) = omega (arith, length-view vs)

pub script_is : (d : Data) (vs : List Value) (b : Bool) → Some (items_view vs) ≡ as_array d
    → b ≡ list_all (λ v. is_text (view v)) vs → b ≡ is_script d
script_is (array ds) vs b is e =
    let same : items_view vs ≡ ds = cc in
    subst (λ x. b ≡ list_all is_text (listed x)) same (rw (listed-items_of (map view vs), list_all-map is_text view vs) e)
script_is (string t) vs b is e = absurd (cc)
script_is (integer z) vs b is e = absurd (cc)
script_is (float x) vs b is e = absurd (cc)
script_is (boolean c) vs b is e = absurd (cc)
script_is (datetime t) vs b is e = absurd (cc)
script_is (table ms) vs b is e = absurd (cc)

pub short_is : (d : Data) (vs : List Value) (n : ℕ) → Some (items_view vs) ≡ as_array d → n ≡ length vs
    → leb n 65535 ≡ is_short d
short_is (array ds) vs n is e =
    let same : items_view vs ≡ ds = cc in
    subst (λ x. leb n 65535 ≡ leb (length (listed x)) 65535) same (rw (listed-items_of (map view vs), length-view vs, e))
short_is (string t) vs n is e = absurd (cc)
short_is (integer z) vs n is e = absurd (cc)
short_is (float x) vs n is e = absurd (cc)
short_is (boolean c) vs n is e = absurd (cc)
short_is (datetime t) vs n is e = absurd (cc)
short_is (table ms) vs n is e = absurd (cc)

-- the fault of a key whose value is this array
pub array_found : (k : Key) (fault : List Data → Option WorkloadFault) (o : Option Data) (vs : List Value)
    → o ≡ Some (array (items_of (map view vs))) → needed k (array_fault k fault) o ≡ fault (map view vs)
array_found k fault o vs e = rw (e, listed-items_of (map view vs))

pub no_scripts : (vs : List Value) → list_all (λ v. is_script (view v)) vs ≡ false
    → scripts_fault (map view vs) ≡ Some (Kind key.Scripts)
no_scripts vs e = rw (list_all-map is_script view vs, e)

pub some_scripts : (vs : List Value) (b : Bool) → list_all (λ v. is_script (view v)) vs ≡ true
    → b ≡ are_few (map view vs) → scripts_fault (map view vs) ≡ unless b (Range key.Scripts)
some_scripts vs b e f = rw (list_all-map is_script view vs, e, f)

pub few_scripts : (vs : List Value) (b c : Bool) → c ≡ (ltb 0 (length vs) && leb (length vs) MOST_PROCESSES) → c ≡ true
    → b ≡ list_all (λ v. is_short (view v)) vs → b ≡ are_few (map view vs)
few_scripts vs b c t good f = rw (list_all-map is_short view vs, length-view vs, ← t, good) f

within : (n : ℕ) → leb n 65535 ≡ true → n ≤ 65535
within n e = grind (arith, nat_tests)

pub few_lines : (d : Data) (vs : List Value) → Some (items_view vs) ≡ as_array d → is_short d ≡ true → length vs ≤ 65535
few_lines d vs is e = within (length vs) (short_is d vs (length vs) is refl ∙ e)
