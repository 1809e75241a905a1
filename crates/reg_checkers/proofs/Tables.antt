-- Rows without facts, and what a push into a row leaves.
use Rattle.std.proofs.Common.{◌≡◌, ◌≢◌, ℕ, zero, suc, ◌<◌, ◌⊎◌, inl, inr, ◌↔◌, IsSome, List, [], ◌∷◌, ◌++◌, length, set}
use Rattle.std.proofs.Common.{Option, None, Some, Vec, option_and_then, slice_get, refl, ap, ap₂, sym, ◌∙◌, subst}
use Rattle.std.proofs.Common.{arith, rules}
use Rattle.std.proofs.lemmas.Option.{slice_get_within}
use Rattle.std.proofs.lemmas.Bool.{cases_order, cases_eq}
use Rattle.reg_base.specs.declared.memory.OpId.{OpId}
use Rattle.reg_checkers.specs.declared.facts.Fact.{Fact}
use Rattle.reg_checkers.proofs.Places.{get_set_same, get_set_other, get_push_same, get_push_other}
use Rattle.reg_checkers.specs.Table.{Rows, cell, IsChangedAt, IsTable, IsUnmarked}

some_within : {X : Type 0} (xs : List X) (k : ℕ) → IsSome (slice_get xs k) → k < length xs
some_within [] k h = search rules
some_within (x ∷ xs) zero h = omega arith
some_within (x ∷ xs) (suc k) h = let r : k < length xs = some_within xs k h in omega arith

within_some : {X : Type 0} (xs : List X) (k : ℕ) → k < length xs → IsSome (slice_get xs k)
within_some [] k h = absurd (omega arith)
within_some (x ∷ xs) zero h = search rules
within_some (x ∷ xs) (suc k) h = within_some xs k (omega arith)

-- the fact of an operation of a process whose row is known
pub cell_of : {A : Type 0} (rows : Rows A) (id : OpId) (row : Vec Fact A) → slice_get rows id.process ≡ Some row
    → cell rows id ≡ slice_get row.items id.number
cell_of {A = A} rows id row e =
    ap (λ (o : Option (Vec Fact A)). option_and_then (λ (r : Vec Fact A). slice_get r.items id.number) o) e

row_length : {A : Type 0} (rows : Rows A) (id : OpId) (row : Vec Fact A) → slice_get rows id.process ≡ Some row
    → ((n : ℕ) → (n < id.number) ↔ IsSome (cell rows (record { process = id.process; number = n }))) → length row.items ≡ id.number
row_length {A = A} rows id row e next = go (cases_order (length row.items) id.number)
  where
    down : (n : ℕ) → IsSome (cell rows (record { process = id.process; number = n })) → IsSome (slice_get row.items n)
    down n h = subst (λ (o : Option Fact). IsSome o) (cell_of rows (record { process = id.process; number = n }) row e) h

    up : (n : ℕ) → IsSome (slice_get row.items n) → IsSome (cell rows (record { process = id.process; number = n }))
    up n h = subst (λ (o : Option Fact). IsSome o) (sym (cell_of rows (record { process = id.process; number = n }) row e)) h

    go : (length row.items ≡ id.number) ⊎ ((length row.items < id.number) ⊎ (id.number < length row.items)) → length row.items ≡ id.number
    go (inl h) = h
    go (inr (inl h)) = let less : length row.items < length row.items = some_within row.items (length row.items) (down (length row.items) ((next (length row.items)).0 h)) in absurd (omega arith)
    go (inr (inr h)) = let less : id.number < id.number = (next id.number).1 (up id.number (within_some row.items id.number h)) in absurd (omega arith)

pub changed_by_push : {A : Type 0} (rows : Rows A) (id : OpId) (f : Fact) (row new : Vec Fact A)
    → slice_get rows id.process ≡ Some row → new.items ≡ row.items ++ f ∷ []
    → ((n : ℕ) → (n < id.number) ↔ IsSome (cell rows (record { process = id.process; number = n }))) → IsChangedAt rows (set rows id.process new) id f
changed_by_push {A = A} rows id f row new e items next = record { here = here; others = others }
  where
    len : length row.items ≡ id.number
    len = row_length rows id row e next

    there : slice_get (set rows id.process new) id.process ≡ Some new
    there = get_set_same rows id.process new (slice_get_within rows id.process row e)

    here : cell (set rows id.process new) id ≡ Some f
    here = cell_of (set rows id.process new) id new there ∙ (ap (λ (xs : List Fact). slice_get xs id.number) items ∙ get_push_same row.items id.number f len)

    others : (x : OpId) → x ≢ id → cell (set rows id.process new) x ≡ cell rows x
    others x other = go (cases_eq x.process id.process)
      where
        go : (x.process ≡ id.process) ⊎ (x.process ≡ id.process → ⊥) → cell (set rows id.process new) x ≡ cell rows x
        go (inl same) =
            let number : x.number ≡ length row.items → ⊥ = λ n. other (ap₂ (λ (p q : ℕ). record { process = p; number = q }) same (n ∙ len)) in
            let now : slice_get (set rows id.process new) x.process ≡ Some new = ap (λ (p : ℕ). slice_get (set rows id.process new) p) same ∙ there in
            let was : slice_get rows x.process ≡ Some row = ap (λ (p : ℕ). slice_get rows p) same ∙ e in
            cell_of (set rows id.process new) x new now ∙ (ap (λ (xs : List Fact). slice_get xs x.number) items ∙ (get_push_other row.items x.number f number ∙ sym (cell_of rows x row was)))
        go (inr away) = ap (λ (o : Option (Vec Fact A)). option_and_then (λ (r : Vec Fact A). slice_get r.items x.number) o) (get_set_other rows id.process x.process new away)

inside : {X Y : Type 0} (f : X → Option Y) (xs : List X) (k : ℕ) → IsSome (option_and_then f (slice_get xs k))
    → k < length xs
inside f [] k h = search rules
inside f (x ∷ xs) zero h = omega arith
inside f (x ∷ xs) (suc k) h = let r : k < length xs = inside f xs k h in omega arith

-- a process whose operation has a fact has a row
pub has_row : {A : Type 0} (rows : Rows A) (id : OpId) → IsSome (cell rows id) → id.process < length rows
has_row {A = A} rows id some = inside (λ (r : Vec Fact A). slice_get r.items id.number) rows id.process some

pub changed_by_set : {A : Type 0} (rows : Rows A) (id : OpId) (f : Fact) (row new : Vec Fact A)
    → slice_get rows id.process ≡ Some row → new.items ≡ set row.items id.number f → IsSome (cell rows id)
    → IsChangedAt rows (set rows id.process new) id f
changed_by_set {A = A} rows id f row new e items some = record { here = here; others = others }
  where
    within : id.number < length row.items
    within = some_within row.items id.number (subst (λ (o : Option Fact). IsSome o) (cell_of rows id row e) some)

    there : slice_get (set rows id.process new) id.process ≡ Some new
    there = get_set_same rows id.process new (slice_get_within rows id.process row e)

    here : cell (set rows id.process new) id ≡ Some f
    here = cell_of (set rows id.process new) id new there ∙ (ap (λ (xs : List Fact). slice_get xs id.number) items ∙ get_set_same row.items id.number f within)

    others : (x : OpId) → x ≢ id → cell (set rows id.process new) x ≡ cell rows x
    others x other = go (cases_eq x.process id.process)
      where
        go : (x.process ≡ id.process) ⊎ (x.process ≡ id.process → ⊥) → cell (set rows id.process new) x ≡ cell rows x
        go (inl same) =
            let number : x.number ≡ id.number → ⊥ = λ n. other (ap₂ (λ (p q : ℕ). record { process = p; number = q }) same n) in
            let now : slice_get (set rows id.process new) x.process ≡ Some new = ap (λ (p : ℕ). slice_get (set rows id.process new) p) same ∙ there in
            let was : slice_get rows x.process ≡ Some row = ap (λ (p : ℕ). slice_get rows p) same ∙ e in
            cell_of (set rows id.process new) x new now ∙ (ap (λ (xs : List Fact). slice_get xs x.number) items ∙ (get_set_other row.items id.number x.number f number ∙ sym (cell_of rows x row was)))
        go (inr away) = ap (λ (o : Option (Vec Fact A)). option_and_then (λ (r : Vec Fact A). slice_get r.items x.number) o) (get_set_other rows id.process x.process new away)

-- one more row without facts brings none
pub none_more : {A : Type 0} (rows : Rows A) (row : Vec Fact A) → row.items ≡ [] → ((id : OpId) → cell rows id ≡ None)
    → (id : OpId) → cell (rows ++ row ∷ []) id ≡ None
none_more {A = A} rows row empty none id = go rows id.process (none id)
  where
    go : (rs : Rows A) (p : ℕ) → option_and_then (λ (r : Vec Fact A). slice_get r.items id.number) (slice_get rs p) ≡ None
        → option_and_then (λ (r : Vec Fact A). slice_get r.items id.number) (slice_get (rs ++ row ∷ []) p) ≡ None
    go [] zero h = ap (λ (xs : List Fact). slice_get xs id.number) empty
    go [] (suc p) h = refl
    go (r ∷ rs) zero h = h
    go (r ∷ rs) (suc p) h = go rs p h

not_both : {X : Type 0} (x : X) → None ≡ Some x → ⊥
not_both x h = cc

-- rows without facts are the table of no entries
pub table_of_none : {A : Type 0} (rows : Rows A) → ((id : OpId) → cell rows id ≡ None) → IsTable [] rows
table_of_none rows none =
    record { facts = λ id f is. absurd (not_both f (sym (none id) ∙ is)); all = λ id was. absurd (not_both _ was.2.1) }

pub none_marked : {A : Type 0} (rows : Rows A) → ((id : OpId) → cell rows id ≡ None) → IsUnmarked rows
none_marked rows none id marked = not_both marked.0 (sym (none id) ∙ marked.1)
