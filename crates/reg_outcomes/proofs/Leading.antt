-- What holds of each stage that turns lead to.
use Rattle.std.proofs.Common.{◌≡◌, ℕ, zero, suc, ◌+◌, ◌*◌, ◌<◌, ◌≤◌, List, [], ◌∷◌, ◌++◌, length, map, set, replicate}
use Rattle.std.proofs.Common.{refl, ap, ap₂, sym, ◌∙◌, subst, arith, length-append}
use Rattle.std.specs.Prelude.{slice_index, sum, ◌^◌}
use Rattle.std.specs.List.{All, sum_by}
use Rattle.std.proofs.lemmas.List.{length-replicate}
use Rattle.std.proofs.lemmas.List.Sums.{sum-map, sum_by-cons, sum_by-le, sum_by-set}
use Rattle.std.proofs.lemmas.Option.{slice_get_within}
use Rattle.reg_base.specs.declared.limits.TheConstants.{MOST_PROCESSES, MOST_OPERATIONS}
use Rattle.reg_base.specs.declared.memory.Op.{Op}
use Rattle.reg_base.specs.Memory.{register_of}
use Rattle.reg_base.proofs.Operations.{length-after}
use Rattle.reg_checkers.specs.History.{IsAt}
use Rattle.reg_outcomes.proofs.Elements.{has_at}
use Rattle.reg_outcomes.specs.Interleavings.{ArePlayable, IsPlayable, Leads, Nothing, Turn, Stage, script_of}
use Rattle.reg_outcomes.specs.Interleavings.{stage_after}
use Rattle.reg_outcomes.specs.Layers.{IsReady, operation_count}
use Rattle.reg_outcomes.proofs.Stepping.{AreBehind, as_many, has_script}

none_behind : (scripts : List (List Op)) → AreBehind (replicate (length scripts) 0) scripts
none_behind [] = tt
none_behind (s ∷ ss) = (omega arith, none_behind ss)

sum_none : (n : ℕ) → sum (replicate n 0) ≡ 0
sum_none zero = refl
sum_none (suc n) = sum_by-cons (λ (x : ℕ). x) 0 (replicate n 0) ∙ (let e = sum_none n in omega (arith, e))

one_more_behind : (next : List ℕ) (scripts : List (List Op)) (p : ℕ) (op : Op) → AreBehind next scripts
    → IsAt (script_of scripts p) (slice_index next p) op → AreBehind (set next p (slice_index next p + 1)) scripts
one_more_behind [] [] p op h at = tt
one_more_behind [] (s ∷ ss) p op h at = absurd h
one_more_behind (n ∷ ns) [] p op h at = absurd h
one_more_behind (n ∷ ns) (s ∷ ss) zero op h at = (let l = slice_get_within s n op at in omega (arith, l), h.1)
one_more_behind (n ∷ ns) (s ∷ ss) (suc p) op h at = (h.0, one_more_behind ns ss p op h.1 at)

-- so many operations are behind as there were turns, and there are all registers
pub record Keeps (scripts : List (List Op)) (registers : ℕ) (turns : List ℕ) (s : Stage) : Type 0 where
  pub behind : AreBehind s.next scripts
  pub count : sum s.next ≡ length turns
  pub memory : length s.memory ≡ registers

keeps_more : (scripts : List (List Op)) (registers : ℕ) (turns : List ℕ) (s : Stage) (p : ℕ) (op : Op)
    → IsAt (script_of scripts p) (slice_index s.next p) op → Keeps scripts registers turns s
    → Keeps scripts registers (turns ++ p ∷ []) (stage_after p op s)
keeps_more scripts registers turns s p op at old = record {
  behind = one_more_behind s.next scripts p op old.behind at;
  count = (
      let there = has_script scripts p (slice_index s.next p) op at in
      let many = as_many s.next scripts old.behind in
      let inside : p < length s.next = omega (arith, there, many) in
      let more = sum_by-set (λ (x : ℕ). x) s.next p (slice_index s.next p + 1) 0 inside in
      let longer = length-append turns (p ∷ []) in
      let count = old.count in
      omega (arith, more, longer, count)
      );
  memory = length-after op s.memory ∙ old.memory;
}

pub keeps : (scripts : List (List Op)) (registers : ℕ) (turns : List ℕ) (s : Stage) → Leads scripts registers turns s
    → Keeps scripts registers turns s
keeps scripts registers turns s Nothing =
    record { behind = none_behind scripts; count = sum_none (length scripts); memory = length-replicate registers 0 }
keeps scripts registers turns s (Turn {turns = old} {s = from} p op leads at) =
    keeps_more scripts registers old from p op at (keeps scripts registers old from leads)

script_short : (registers : ℕ) (scripts : List (List Op)) (p : ℕ) → All (IsPlayable registers) scripts
    → length (script_of scripts p) ≤ MOST_OPERATIONS
script_short registers [] p h = omega arith
script_short registers (s ∷ ss) zero h = (h 0 [] (omega arith)).few
script_short registers (s ∷ ss) (suc p) h = script_short registers ss p (λ k d lt. h (suc k) d (omega arith))

op_known : (registers : ℕ) (scripts : List (List Op)) (p k : ℕ) (op : Op) → All (IsPlayable registers) scripts
    → IsAt (script_of scripts p) k op → register_of op < registers
op_known registers scripts p k op h at =
    let script : List Op = script_of scripts p in
    let inside : k < length script = slice_get_within script k op at in
    subst (λ (o : Op). register_of o < registers) (has_at script k op op at) ((h p [] (has_script scripts p k op at)).known k op inside)

-- the code can go on
pub ready : (scripts : List (List Op)) (registers : ℕ) (turns : List ℕ) (s : Stage) → ArePlayable scripts registers
    → Leads scripts registers turns s → IsReady scripts s
ready scripts registers turns s playable leads =
    let k = keeps scripts registers turns s leads in
    record { within = k.behind; short = λ p. script_short registers scripts p playable.each; known = λ p n op at. let l = op_known registers scripts p n op playable.each at in let e = k.memory in omega (arith, l, e) }

sums_below : (next : List ℕ) (scripts : List (List Op)) → AreBehind next scripts → sum next ≤ sum_by length scripts
sums_below [] [] h = omega arith
sums_below [] (s ∷ ss) h = absurd h
sums_below (n ∷ ns) [] h = absurd h
sums_below (n ∷ ns) (s ∷ ss) h =
    let rest = sums_below ns ss h.1 in
    let a = sum_by-cons (λ (x : ℕ). x) n ns in
    let b = sum_by-cons length s ss in
    let l = h.0 in
    omega (arith, rest, a, b, l)

-- where as many are behind as there are, all are
all_behind : (next : List ℕ) (scripts : List (List Op)) → AreBehind next scripts → sum next ≡ sum_by length scripts
    → next ≡ map length scripts
all_behind [] [] h e = refl
all_behind [] (s ∷ ss) h e = absurd h
all_behind (n ∷ ns) [] h e = absurd h
all_behind (n ∷ ns) (s ∷ ss) h e =
    let rest = sums_below ns ss h.1 in
    let a = sum_by-cons (λ (x : ℕ). x) n ns in
    let b = sum_by-cons length s ss in
    let l = h.0 in
    ap₂ (λ (x : ℕ) (xs : List ℕ). x ∷ xs) (omega (arith, rest, a, b, l, e)) (all_behind ns ss h.1 (omega (arith, rest, a, b, l, e)))

pub used_up : (scripts : List (List Op)) (registers : ℕ) (turns : List ℕ) (s : Stage) → Leads scripts registers turns s
    → length turns ≡ operation_count scripts → s.next ≡ map length scripts
used_up scripts registers turns s leads e =
    let k = keeps scripts registers turns s leads in all_behind s.next scripts k.behind (k.count ∙ e)

pub no_more_turns : (scripts : List (List Op)) (registers : ℕ) (turns : List ℕ) (s : Stage)
    → Leads scripts registers turns s → length turns ≤ operation_count scripts
no_more_turns scripts registers turns s leads =
    let k = keeps scripts registers turns s leads in
    let count = k.count in
    let below = sums_below s.next scripts k.behind in
    omega (arith, count, below)

pub turns_of_all : (scripts : List (List Op)) (registers : ℕ) (turns : List ℕ) (s : Stage)
    → Leads scripts registers turns s → s.next ≡ map length scripts → length turns ≡ operation_count scripts
turns_of_all scripts registers turns s leads e =
    let k = keeps scripts registers turns s leads in sym k.count ∙ ap sum e ∙ sum-map length scripts

-- there are not too many operations
pub most_operations : (scripts : List (List Op)) (registers : ℕ) → ArePlayable scripts registers
    → operation_count scripts ≤ MOST_PROCESSES * MOST_OPERATIONS
most_operations scripts registers playable =
    let count = sum_by-le length MOST_OPERATIONS scripts (λ k d lt. (playable.each k d lt).few) in
    let few = playable.few in
    let most : length scripts * MOST_OPERATIONS ≤ MOST_PROCESSES * MOST_OPERATIONS = omega arith in
    omega (arith, count, most)

pub few_operations : (scripts : List (List Op)) (registers : ℕ) → ArePlayable scripts registers
    → operation_count scripts < 2 ^ 64
few_operations scripts registers playable = let most = most_operations scripts registers playable in omega (arith, most)
