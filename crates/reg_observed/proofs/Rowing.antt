-- Rows, from the last event to the first.
use Rattle.std.proofs.Common.{ℕ, ◌≡◌, ◌+◌, ◌<◌, ◌⊎◌, inl, inr, Bool, true, false, nat_eq, List, [], ◌∷◌, length, drop}
use Rattle.std.proofs.Common.{get_or, set, reverse, Option, None, Some, cond, refl, ap, sym, ◌∙◌, subst, arith, zero}
use Rattle.std.proofs.Common.{suc, replicate}
use Rattle.std.proofs.lemmas.Bool.Decides.{eqb_tells}
use Rattle.std.specs.List.{find}
use Rattle.std.specs.Option.{option_map}
use Rattle.reg_observed.specs.declared.events.Event.{Event}
use Rattle.reg_observed.specs.declared.events.Moment.{Moment}
use Rattle.reg_judge.specs.declared.rulings.rows.Row.{Row}
use Rattle.reg_observed.specs.Rows.{rows_from, row_before, row_of, next_of}
use Rattle.reg_judge.proofs.Lists.{from_here, past_end}

get_set_same : {X : Type 0} (xs : List X) (k : ℕ) (v d : X) → k < length xs → get_or (set xs k v) k d ≡ v
get_set_same [] k v d lt = absurd (omega arith)
get_set_same (x ∷ xs) zero v d lt = refl
get_set_same (x ∷ xs) (suc k) v d lt = get_set_same xs k v d (omega arith)

get_set_other : {X : Type 0} (xs : List X) (k j : ℕ) (v d : X) → (j ≡ k → ⊥) → get_or (set xs k v) j d ≡ get_or xs j d
get_set_other [] k j v d other = refl
get_set_other (x ∷ xs) zero zero v d other = absurd (other refl)
get_set_other (x ∷ xs) zero (suc j) v d other = refl
get_set_other (x ∷ xs) (suc k) zero v d other = refl
get_set_other (x ∷ xs) (suc k) (suc j) v d other = get_set_other xs k j v d (λ e. other (ap suc e))

-- one event more, at the front
pub rows_more : (first i : ℕ) (events : List Event) (d : Event) (next : Option Moment) (o : Option Row)
    (old new : List Row)
    → i < length events
    → next ≡ next_of (get_or events i d).process (drop (i + 1) events) → o ≡ row_of first i (get_or events i d) next
    → reverse old ≡ rows_from first (i + 1) (drop (i + 1) events) → reverse new ≡ row_before o (reverse old) → reverse new ≡ rows_from first i (drop i events)
unfolding rows_from
rows_more first i events d next o old new inside n is before grown =
    grown ∙ ap (row_before o) before
    ∙ ap (λ r. row_before r (rows_from first (i + 1) (drop (i + 1) events))) (is ∙ ap (row_of first i (get_or events i d)) n)
    ∙ sym (ap (rows_from first i) (from_here events i d inside))

-- what is told next of each process, with one event more
pub next_more : (i : ℕ) (events : List Event) (d : Event) (next : List (Option Moment)) (n : ℕ) → i < length events
    → (get_or events i d).process < length next
    → ((p : ℕ) → p < n → get_or next p None ≡ next_of p (drop (i + 1) events))
    → (p : ℕ) → p < n → get_or (set next (get_or events i d).process (Some (get_or events i d).moment)) p None ≡ next_of p (drop i events)
next_more i events d next n inside here before p lt = go (eqb_tells e.process p)
  where
    e : Event
    e = get_or events i d

    by : Bool → Option Moment
    by b = option_map (λ (x : Event). x.moment) (cond b (Some e) (find (λ (x : Event). nat_eq x.process p) (drop (i + 1) events)))

    split : next_of p (drop i events) ≡ by (nat_eq e.process p)
    split = ap (next_of p) (from_here events i d inside)

    go : ((nat_eq e.process p ≡ true) × (e.process ≡ p)) ⊎ ((nat_eq e.process p ≡ false) × (e.process ≡ p → ⊥)) → get_or (set next e.process (Some e.moment)) p None ≡ next_of p (drop i events)
    go (inl (t, same)) =
        let Q : ℕ → Type 0 = λ q. get_or (set next e.process (Some e.moment)) q None ≡ Some e.moment in
        subst Q same (get_set_same next e.process (Some e.moment) None here) ∙ sym (split ∙ ap by t)
    go (inr (f, other)) = get_set_other next e.process p (Some e.moment) None (λ q. other (sym q)) ∙ before p lt ∙ sym (split ∙ ap by f)

get_replicate : {X : Type 0} (n p : ℕ) (d : X) → get_or (replicate n d) p d ≡ d
get_replicate zero p d = refl
get_replicate (suc n) zero d = refl
get_replicate (suc n) (suc p) d = get_replicate n p d

pub start_next : (n p : ℕ) (events : List Event) (next : List (Option Moment)) → next ≡ replicate n None
    → get_or next p None ≡ next_of p (drop (length events) events)
start_next n p events next is = ap (λ l. get_or l p None) is ∙ get_replicate n p None ∙ sym (ap (next_of p) (past_end events (length events) (omega arith)))

pub start_rows : (first : ℕ) (events : List Event) (rows : List Row) → rows ≡ []
    → reverse rows ≡ rows_from first (length events) (drop (length events) events)
unfolding rows_from
start_rows first events rows e =
    ap reverse e ∙ sym (ap (rows_from first (length events)) (past_end events (length events) (omega arith)))

-- the same, from the place after
pub rows_at : (first l i : ℕ) (events : List Event) (d : Event) (next : Option Moment) (o : Option Row)
    (old new : List Row)
    → l ≡ i + 1 → i < length events
    → next ≡ next_of (get_or events i d).process (drop l events) → o ≡ row_of first i (get_or events i d) next
    → reverse old ≡ rows_from first l (drop l events) → reverse new ≡ row_before o (reverse old) → reverse new ≡ rows_from first i (drop i events)
rows_at first l i events d next o old new e inside n is before grown =
    let N : ℕ → Type 0 = λ m. next ≡ next_of (get_or events i d).process (drop m events) in
    let B : ℕ → Type 0 = λ m. reverse old ≡ rows_from first m (drop m events) in
    rows_more first i events d next o old new inside (subst N e n) is (subst B e before) grown

pub next_at : (l i : ℕ) (events : List Event) (d : Event) (next : List (Option Moment)) (n : ℕ) → l ≡ i + 1
    → i < length events → (get_or events i d).process < length next
    → ((p : ℕ) → p < n → get_or next p None ≡ next_of p (drop l events))
    → (p : ℕ) → p < n → get_or (set next (get_or events i d).process (Some (get_or events i d).moment)) p None ≡ next_of p (drop i events)
next_at l i events d next n e inside here before =
    let B : ℕ → Type 0 = λ m. (p : ℕ) → p < n → get_or next p None ≡ next_of p (drop m events) in
    next_more i events d next n inside here (subst B e before)
