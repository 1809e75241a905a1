-- One layer after another.
use Rattle.std.proofs.Common.{◌≡◌, inl, inr, ℕ, suc, ◌+◌, List, [], ◌∷◌, ◌++◌, length, refl, ap, sym, ◌∙◌, subst, arith}
use Rattle.std.proofs.Common.{length-append, ◌⊎◌, ◌<◌, ◌≤◌, Some, ◌*◌, ◌-◌}
use Rattle.std.specs.Prelude.{slice_index, ◌^◌}
use Rattle.std.proofs.lemmas.Bool.{cases_eq}
use Rattle.std.proofs.lemmas.List.{length-map}
use Rattle.std.proofs.Math.Nat.{mul-le-mul}
use Rattle.reg_base.specs.declared.limits.TheConstants.{MOST_PROCESSES, MOST_OPERATIONS}
use Rattle.reg_base.specs.declared.memory.Op.{Op}
use Rattle.reg_base.specs.Order.{In}
use Rattle.reg_base.proofs.Lists.{in_cases}
use Rattle.reg_checkers.specs.History.{IsAt}
use Rattle.reg_checkers.proofs.Places.{element_at}
use Rattle.reg_outcomes.specs.declared.faults.InterleavingFault.{InterleavingFault}
use Rattle.reg_outcomes.specs.declared.faults.InterleavingFault.TheVariants.{TooManyStages, OutOfMemory}
use Rattle.reg_outcomes.specs.Interleavings.{IsFault, IsFewFault, Leads, Nothing, Turn, Stage, first_stage, script_of}
use Rattle.reg_outcomes.specs.Interleavings.{stage_after, IsWider, ArePlayable}
use Rattle.reg_outcomes.specs.Layers.{Adds, IsLayer, IsNextOf, Refuses, operation_count, AreCounted}
use Rattle.reg_outcomes.proofs.Leading.{most_operations, no_more_turns}
use Rattle.reg_outcomes.proofs.Numbering.{as_many_turns, behind, different_both, different_of, in_at, once_of}
use Rattle.reg_outcomes.proofs.Numbering.{stages_of}

-- a list but for one of its elements
others : {F : Type 0} (fs : List F) (f : F) → In f fs
    → (rest : List F) × (length rest + 1 ≡ length fs) × ((g : F) → In g fs → (g ≡ f) ⊎ In g rest)
others [] f h = absurd h
others (x ∷ xs) f (inl e) = (xs, (omega arith), λ g h. elim h [ inl same ↦ inl (same ∙ sym e) | inr other ↦ inr other ])
others (x ∷ xs) f (inr h) =
    let less = others xs f h in
    let count = less.1 in
    (x ∷ less.0, omega (arith, count), λ g at. elim at [ inl same ↦ inr (inl same) | inr other ↦ elim (less.2 g other) [ inl e ↦ inl e | inr k ↦ inr (inr k) ] ])

-- no more elements, each once, than those that they are read from
pub no_more : {X F : Type 0} (read : F → X) (xs : List X) (fs : List F)
    → ((i j : ℕ) (x : X) → IsAt xs i x → IsAt xs j x → i ≡ j)
    → ((i : ℕ) (x : X) → IsAt xs i x → (f : F) × In f fs × (read f ≡ x)) → length xs ≤ length fs
no_more read [] fs once found = omega arith
no_more {X} {F} read (s ∷ ss) fs once found =
    let here = found 0 s refl in
    let f : F = here.0 in
    let less = others fs f here.1 in
    let rest = no_more read ss less.0 (λ i j x at again. same_suc (once (suc i) (suc j) x at again)) (λ i x at.
    let there = found (suc i) x at in
    elim (less.2 there.0 there.1) [
      | inl same ↦ absurd (not_first (once 0 (suc i) x (ap Some (sym here.2 ∙ sym (ap read same) ∙ there.2)) at))
      | inr other ↦ (there.0, other, there.2)
    ]) in
    let count = less.1 in
    omega (arith, rest, count)
  where
    same_suc : {i j : ℕ} → suc i ≡ suc j → i ≡ j
    same_suc e = omega arith

    not_first : {i : ℕ} → 0 ≡ suc i → ⊥
    not_first e = omega arith

-- no turn leads to the first stage, and to no other
pub first_is : (scripts : List (List Op)) (registers : ℕ)
    → IsLayer scripts registers 0 ((first_stage (length scripts) registers, []) ∷ [])
first_is scripts registers = record { each = each; all = all }
  where
    start : Stage × List ℕ
    start = (first_stage (length scripts) registers, [])

    each : (f : Stage × List ℕ) → In f ((first_stage (length scripts) registers, []) ∷ []) → Leads scripts registers f.1 f.0 × (length f.1 ≡ 0)
    each f (inl e) = subst (λ (x : Stage × List ℕ). Leads scripts registers x.1 x.0 × (length x.1 ≡ 0)) (sym e) (Nothing, refl)
    each f (inr h) = absurd h

    all : (turns : List ℕ) (s : Stage) → Leads scripts registers turns s → length turns ≡ 0 → (f : Stage × List ℕ) × In f ((first_stage (length scripts) registers, []) ∷ []) × (f.0 ≡ s)
    all turns s Nothing e = ((first_stage (length scripts) registers, []), inl refl, refl)
    all turns s (Turn {turns = old} p op leads at) e = let l = length-append old (p ∷ []) in absurd (omega (arith, l, e))

module _ (scripts : List (List Op)) (registers k : ℕ) (layer : List (Stage × List ℕ)) (is : IsLayer scripts registers k layer) where
  -- a step from the layer is led to
  led : (f : Stage × List ℕ) → IsNextOf scripts layer f → Leads scripts registers f.1 f.0 × (length f.1 ≡ k + 1)
  led f (from, at, (p, step)) =
      let old = is.each from at in
      let longer = length-append from.1 (p ∷ []) in
      let same = old.1 in
      let count : length (from.1 ++ p ∷ []) ≡ k + 1 = omega (arith, longer, same) in (
        subst (λ t. Leads scripts registers t f.0) (sym step.turns) (subst (λ s. Leads scripts registers (from.1 ++ p ∷ []) s) (sym step.stage) (Turn p step.op old.0 step.next)),
        ap length step.turns ∙ count,
      )

  all_next : (next : List (Stage × List ℕ)) → Adds (IsNextOf scripts layer) [] next → (turns : List ℕ) (s : Stage) → Leads scripts registers turns s → length turns ≡ k + 1 → (f : Stage × List ℕ) × In f next × (f.0 ≡ s)
  all_next next adds turns s Nothing e = absurd (omega (arith, e))
  all_next next adds turns s (Turn {turns = old} {s = from} p op leads at) e =
      let longer = length-append old (p ∷ []) in
      let found = is.all old from leads (omega (arith, longer, e)) in
      let entry : Stage × List ℕ = found.0 in
      let same : entry.0 ≡ from = found.2 in
      let there : IsAt (script_of scripts p) (slice_index entry.0.next p) op = subst (λ (x : Stage). IsAt (script_of scripts p) (slice_index x.next p) op) (sym same) at in
      let to : Stage × List ℕ = (stage_after p op entry.0, entry.1 ++ p ∷ []) in
      let new = adds.added to (entry, found.1, (p, record { op = op; next = there; stage = refl; turns = refl })) in
      (new.0, new.1, subst (λ (x : Stage). new.0.0 ≡ stage_after p op x) same new.2)

  pub next_is : (next : List (Stage × List ℕ)) → Adds (IsNextOf scripts layer) [] next
      → IsLayer scripts registers (k + 1) next
  next_is next adds = record {
    each = λ f h. elim (adds.only f h) [ inl old ↦ absurd old | inr new ↦ led f new ];
    all = all_next next adds;
  }

  pub is_fault : (limit : ℕ) (fault : InterleavingFault) → Refuses limit (IsNextOf scripts layer) [] fault
      → IsFault scripts registers limit fault
  is_fault limit TooManyStages over = record {
    turns = k + 1;
    stages = stages_of over.found;
    more = (let l = length-map over.found (λ f. f.0) in let m = over.more in omega (arith, l, m));
    once = once_of (stages_of over.found) (different_of over.found over.apart);
    led = λ i s at. (
        let there = behind over.found s (in_at (stages_of over.found) i s at) in
        let f : Stage × List ℕ = there.0 in
        let leads : Leads scripts registers f.1 f.0 × (length f.1 ≡ k + 1) = elim (over.only f there.1) [ inl old ↦ absurd old | inr new ↦ led f new ] in
        (f.1, subst (λ x. Leads scripts registers f.1 x) there.2 leads.0, leads.1)
        );
  }
  is_fault limit OutOfMemory h = tt

  -- the stages so far, and more new ones than are left of the most
  pub few_fault : (most n : ℕ) (fault : InterleavingFault) → n ≤ most → AreCounted scripts registers k n
      → Refuses (most - n) (IsNextOf scripts layer) [] fault → IsFewFault scripts registers most fault
  few_fault most n TooManyStages few counted over = record {
    stages = counted.stages ++ stages_of over.found;
    more = (let a = length-append counted.stages (stages_of over.found) in let b = length-map over.found (λ f. f.0) in let c = counted.count in let m = over.more in omega (arith, a, b, c, m, few));
    once = once_of (counted.stages ++ stages_of over.found) (different_both counted.stages (stages_of over.found) counted.different (different_of over.found over.apart) (λ s early late.
        let before = counted.led s early in
        let after = new s late in
        let same = as_many_turns scripts registers before.0 after.0 s before.1 after.1 in
        let few_turns = before.2 in
        let many = after.2 in
        omega (arith, same, few_turns, many)));
    led = λ i s at. elim (in_cases s counted.stages (stages_of over.found) (in_at (counted.stages ++ stages_of over.found) i s at)) [
      | inl early ↦ let before = counted.led s early in (before.0, before.1)
      | inr late ↦ let after = new s late in (after.0, after.1)
    ];
  }
    where
      new : (s : Stage) → In s (stages_of over.found) → (turns : List ℕ) × Leads scripts registers turns s × (length turns ≡ k + 1)
      new s h =
          let there = behind over.found s h in
          let f : Stage × List ℕ = there.0 in
          let leads : Leads scripts registers f.1 f.0 × (length f.1 ≡ k + 1) = elim (over.only f there.1) [ inl old ↦ absurd old | inr step ↦ led f step ] in
          (f.1, subst (λ x. Leads scripts registers f.1 x) there.2 leads.0, leads.1)
  few_fault most n OutOfMemory few counted h = tt

  -- a layer that is no wider than the limit has no more stages
  pub is_narrow : (limit : ℕ) → length layer ≤ limit → (w : IsWider scripts registers limit) → w.turns ≡ k → ⊥
  is_narrow limit few w e =
      let most = no_more (λ (f : Stage × List ℕ). f.0) w.stages layer w.once (λ i s at. let led = w.led i s at in is.all led.0 s led.1 (led.2 ∙ e)) in
      let more = w.more in
      omega (arith, few, most, more)

-- and no turns lead on once all operations are behind
pub none_wider : (scripts : List (List Op)) (registers limit : ℕ)
    → ((w : IsWider scripts registers limit) → w.turns ≤ operation_count scripts → ⊥) → IsWider scripts registers limit
    → ⊥
none_wider scripts registers limit narrow w =
    let first = element_at w.stages 0 (let more = w.more in omega (arith, more)) in
    let led = w.led 0 first.0 first.1 in
    let few = no_more_turns scripts registers led.0 first.0 led.1 in
    let count = led.2 in
    narrow w (omega (arith, few, count))

pub narrow_at_first : (scripts : List (List Op)) (registers limit : ℕ) → 0 < limit
    → (w : IsWider scripts registers limit) → w.turns ≤ 0 → ⊥
narrow_at_first scripts registers limit some w e = is_narrow scripts registers 0 ((first_stage (length scripts) registers, []) ∷ []) (first_is scripts registers) limit (omega (arith, some)) w (omega (arith, e))

pub narrow_at_next : (scripts : List (List Op)) (registers limit k : ℕ) (layer : List (Stage × List ℕ))
    → IsLayer scripts registers (k + 1) layer → length layer ≤ limit
    → ((w : IsWider scripts registers limit) → w.turns ≤ k → ⊥) → (w : IsWider scripts registers limit)
    → w.turns ≤ k + 1 → ⊥
narrow_at_next scripts registers limit k layer is few narrow w le = elim (cases_eq w.turns (k + 1)) [
  | inl e ↦ is_narrow scripts registers (k + 1) layer is limit few w e
  | inr ne ↦ narrow w (omega arith)
]

-- The layer after k turns, none of the layers so far was wider than the limit, and so many stages were in them.
pub record IsOnTheWay (scripts : List (List Op)) (registers limit k : ℕ) (layer : List (Stage × List ℕ)) (n : ℕ) : Type 0 where
  pub is : IsLayer scripts registers k layer
  pub narrow : (w : IsWider scripts registers limit) → w.turns ≤ k → ⊥
  pub counted : AreCounted scripts registers k n
  pub few : n ≤ (k + 1) * limit

-- so the number of stages fits
pub few_stages : (scripts : List (List Op)) (registers limit k n m : ℕ) → ArePlayable scripts registers → limit < 2 ^ 32
    → k < operation_count scripts → n ≤ (k + 1) * limit → m ≤ limit → n + m < 2 ^ 64
few_stages scripts registers limit k n m playable small lt few more =
    let most = most_operations scripts registers playable in
    let turns : k + 2 ≤ MOST_PROCESSES * MOST_OPERATIONS + 1 = omega (arith, most, lt) in
    let width : limit ≤ 2 ^ 32 = omega (arith, small) in
    let product : (k + 2) * limit ≤ (MOST_PROCESSES * MOST_OPERATIONS + 1) * 2 ^ 32 = mul-le-mul turns width in
    omega (arith, product, few, more)

-- The layer after k turns, and so many stages were in the layers so far, no more than the most.
pub record IsFewSoFar (scripts : List (List Op)) (registers most k : ℕ) (layer : List (Stage × List ℕ)) (n : ℕ) : Type 0 where
  pub is : IsLayer scripts registers k layer
  pub counted : AreCounted scripts registers k n
  pub few : n ≤ most
