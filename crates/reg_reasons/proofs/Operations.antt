-- How many operations the scripts of a workload have.
use Rattle.std.proofs.Common.{ℕ, suc, ◌≡◌, ◌+◌, ◌*◌, ◌≤◌, List, [], ◌∷◌, length, map, refl, sym, ap, ◌∙◌, Some, arith}
use Rattle.std.specs.Prelude.{slice_get, Vec}
use Rattle.std.specs.List.{sum_by}
use Rattle.std.proofs.lemmas.List.Sums.{sum_by-cons}
use Rattle.std.proofs.Math.Nat.{suc-mul, mul-le-mul_right}
use Rattle.reg_base.specs.declared.limits.TheConstants.{MOST_PROCESSES, MOST_OPERATIONS}
use Rattle.reg_base.specs.declared.memory.Op.{Op}
use Rattle.reg_inputs.specs.Loads.{Load, IsLoad}

-- the sum over what each element is seen as
sum_seen : {X Y : Type 0} (f : Y → ℕ) (g : X → Y) (xs : List X) → sum_by f (map g xs) ≡ sum_by (λ x. f (g x)) xs
sum_seen f g [] = refl
sum_seen f g (x ∷ xs) =
    sum_by-cons f (g x) (map g xs) ∙ (ap (λ n. f (g x) + n) (sum_seen f g xs) ∙ sym (sum_by-cons (λ y. f (g y)) x xs))

-- a sum of lengths, none of them above a limit
sum_few : {X : Type 0} (most : ℕ) (xs : List (List X))
    → ((k : ℕ) (x : List X) → slice_get xs k ≡ Some x → length x ≤ most) → sum_by length xs ≤ length xs * most
sum_few most [] few = omega arith
sum_few most (x ∷ xs) few =
    let first = few 0 x refl in
    let rest = sum_few most xs (λ k y is. few (suc k) y is) in
    let sum = sum_by-cons length x xs in
    let size = suc-mul (length xs) most in
    omega (arith, first, rest, sum, size)

-- those of a workload can be counted
load_few : (w : Load) → IsLoad w → sum_by length w.scripts ≤ MOST_PROCESSES * MOST_OPERATIONS
load_few w load =
    let all = sum_few MOST_OPERATIONS w.scripts (λ k x is. (load.scripts k x is).few) in
    let most = mul-le-mul_right MOST_OPERATIONS load.few_processes in
    omega (arith, all, most)

-- the operations of each list
abbrev pub ops_in : {A : Type 0} → List (Vec Op A) → List (List Op)
ops_in scripts = map (λ s. s.items) scripts

-- the lengths of the lists are those of what is in them
pub counted : {A : Type 0} (w : Load) (scripts : List (Vec Op A)) → w.scripts ≡ ops_in scripts
    → sum_by (λ (s : Vec Op A). length s.items) scripts ≡ sum_by length w.scripts
counted {A} w scripts is = sym (ap (sum_by length) is ∙ sum_seen length (λ (s : Vec Op A). s.items) scripts)

-- so the scripts of a workload can be counted, list by list
pub few_counted : {A : Type 0} (w : Load) (scripts : List (Vec Op A)) → w.scripts ≡ ops_in scripts → IsLoad w
    → sum_by (λ (s : Vec Op A). length s.items) scripts ≤ MOST_PROCESSES * MOST_OPERATIONS
few_counted w scripts is load =
    let few = load_few w load in
    let same = counted w scripts is in
    omega (arith, few, same)
