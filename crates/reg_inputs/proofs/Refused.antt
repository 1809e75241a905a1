-- The first fault of a table, by the part that has it, and the shape of one that has none.
use Rattle.std.proofs.Common.{◌≡◌, ℕ, ◌<◌, ◌≤◌, true, false, List, length, map, cond, nat_eq, nat_lt, Bool, Option}
use Rattle.std.proofs.Common.{Some, None, Ok, Err, refl, sym, ap, ◌∙◌, arith}
use Rattle.std.proofs.lemmas.Bool.{le-ltb, ne_eqb}
use Rattle.std.proofs.lemmas.List.{length-map}
use Rattle.toml.specs.Data.{Members}
use Rattle.toml.specs.View.{view}
use Rattle.toml.specs.declared.value.Value.{Value}
use Rattle.reg_base.specs.declared.limits.TheConstants.{MOST_PROCESSES, MOST_REGISTERS}
use Rattle.reg_base.specs.declared.memory.Op.{Op}
use Rattle.reg_base.specs.declared.naming.NamesFault.{NamesFault}
use Rattle.reg_base.specs.declared.naming.NamesFault.TheVariants.{NoName}
use Rattle.reg_base.specs.declared.shapes.ShapeFault.TheVariants.{NoProcess, TooManyProcesses, NoRegister}
use Rattle.reg_base.specs.declared.shapes.ShapeFault.TheVariants.{TooManyRegisters}
use Rattle.reg_base.specs.Names.{names_fault}
use Rattle.reg_base.specs.Shape.{Extent, shape_of}
use Rattle.reg_text.proofs.Worded.{few as few_names}
use Rattle.reg_inputs.specs.declared.faults.WorkloadFault.{WorkloadFault}
use Rattle.reg_inputs.specs.declared.faults.WorkloadFault.TheVariants.{UnknownKey}
use Rattle.reg_inputs.specs.Keys.{all_known}
use Rattle.reg_inputs.specs.Loads.{script_data}
use Rattle.reg_inputs.specs.Judged.{front_at, registers_at, scripts_at, numbers_at, table_fault}

pub unknown_key : (ms : Members) → all_known ms ≡ false → table_fault ms ≡ Some UnknownKey
unknown_key ms known = rw known refl

pub wrong_front : (ms : Members) (e : WorkloadFault) → all_known ms ≡ true → front_at ms ≡ Some e
    → table_fault ms ≡ Some e
wrong_front ms e known front = rw (known, front) refl

pub wrong_names : (ms : Members) (e : WorkloadFault) → all_known ms ≡ true → front_at ms ≡ None
    → registers_at ms ≡ Some e → table_fault ms ≡ Some e
wrong_names ms e known front names = rw (known, front, names) refl

pub wrong_scripts : (ms : Members) (e : WorkloadFault) → all_known ms ≡ true → front_at ms ≡ None
    → registers_at ms ≡ None → scripts_at ms ≡ Some e → table_fault ms ≡ Some e
wrong_scripts ms e known front names scripts = rw (known, front, names, scripts) refl

pub none_wrong : (ms : Members) → all_known ms ≡ true → front_at ms ≡ None → registers_at ms ≡ None
    → scripts_at ms ≡ None → numbers_at ms ≡ None → table_fault ms ≡ None
none_wrong ms known front names scripts numbers = rw (known, front, names, scripts, numbers) refl

-- as many scripts as values
pub counted : (vs : List Value) (names : List (List ℕ)) (scripts : List (List Op))
    → map view vs ≡ map (script_data names) scripts → length vs ≡ length scripts
counted vs names scripts same = sym (length-map vs view) ∙ ap length same ∙ length-map scripts (script_data names)

some_parts : (a : Bool) (rest : Option NamesFault) → cond a (Some NoName) rest ≡ None → a ≡ false
some_parts true rest h = absurd (cc)
some_parts false rest h = refl

fit_parts : (a b c d : Bool) (s : Extent) → a ≡ false → b ≡ false → c ≡ false → d ≡ false
    → cond a (Err NoProcess)
    (cond b (Err TooManyProcesses) (cond c (Err NoRegister) (cond d (Err TooManyRegisters) (Ok s))))
    ≡ Ok s
fit_parts a b c d s e f g h = rw (e, f, g, h) refl

pub shape_fits : (p r : ℕ) (names : List (List ℕ)) → 0 < p → p ≤ MOST_PROCESSES → names_fault names ≡ None
    → r ≡ length names → shape_of p r ≡ Ok (record { processes = p; registers = r })
shape_fits p r names some few good count =
    let least : nat_eq (length names) 0 ≡ false = some_parts (nat_eq (length names) 0) _ good in
    let most : length names ≤ MOST_REGISTERS = few_names names good in
    fit_parts (nat_eq p 0) (nat_lt MOST_PROCESSES p) (nat_eq r 0) (nat_lt MOST_REGISTERS r) (record { processes = p; registers = r })
    (ne_eqb p 0 (λ e. absurd (omega (arith, e, some)))) (le-ltb MOST_PROCESSES p few) (ap (λ n. nat_eq n 0) count ∙ least) (le-ltb MOST_REGISTERS r (omega (arith, count, most)))
