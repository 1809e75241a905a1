-- Steps of what is found out of each key.
use Rattle.std.proofs.Common.{ℕ, set, Bool, cond, nat_eq, refl, ◌≢◌, ◌≡◌, ◌+◌, ◌<◌, ◌≤◌, ◌⊎◌, inl, inr, List, [], ◌∷◌}
use Rattle.std.proofs.Common.{◌++◌, length, drop, get_or, slice_get, Some, ap, sym, ◌∙◌, subst, append_assoc}
use Rattle.std.proofs.Common.{append-nil, length-append, Vec, arith}
use Rattle.std.proofs.lemmas.Bool.{cases_eq, eq-eqb, eqb-true, false_from_ne_true}
use Rattle.std.proofs.lemmas.List.{length-set}
use Rattle.reg_checkers.specs.declared.entries.Entry.{Entry}
use Rattle.reg_checkers.specs.declared.entries.Entry.TheVariants.{Answered}
use Rattle.reg_checkers.specs.History.{IsAt, event_of}
use Rattle.reg_checkers.proofs.Places.{get_set_other, get_set_same, same_at, within}
use Rattle.reg_checkers.proofs.Pushing.{at_push}
use Rattle.reg_judge.specs.Judging.{HasPointOrder, IsFirstUnexplained}
use Rattle.reg_judge.specs.declared.rulings.keys.Ruling.{Ruling}
use Rattle.reg_judge.specs.declared.rulings.keys.Ruling.TheVariants.{Not}
use Rattle.reg_judge.specs.declared.rulings.rows.Row.{Row}
use Rattle.reg_judge.specs.Keys.{of_key, rows_of_key}
use Rattle.reg_judge.specs.Parting.{AreParts, GetsRow}
use Rattle.reg_judge.specs.Rulings.{AreRuled, IsRuled, RulesEntries}
use Rattle.reg_judge.proofs.Lists.{from_here, past_end}

-- the row of a key, and one of another key
pub key_here : (k : ℕ) (row : Row) → row.key ≡ k → of_key k row ≡ record row { key = 0 } ∷ []
key_here k row is = ap (λ (b : Bool). cond b (record row { key = 0 } ∷ []) []) (eq-eqb row.key k is)

pub key_off : (k : ℕ) (row : Row) → row.key ≢ k → of_key k row ≡ []
key_off k row apart = ap (λ (b : Bool). cond b (record row { key = 0 } ∷ []) []) (false_from_ne_true (nat_eq row.key k) (λ is. apart (eqb-true row.key k is)))

pub key_more : (key i : ℕ) (rows : List Row) (d : Row) (whole old new : List Row) → i < length rows
    → old ++ rows_of_key key (drop i rows) ≡ whole → new ≡ old ++ of_key key (get_or rows i d)
    → new ++ rows_of_key key (drop (i + 1) rows) ≡ whole
key_more key i rows d whole old new lt before is =
    ap (λ l. l ++ rows_of_key key (drop (i + 1) rows)) is
    ∙ append_assoc old (of_key key (get_or rows i d)) (rows_of_key key (drop (i + 1) rows))
    ∙ sym (ap (λ l. old ++ rows_of_key key l) (from_here rows i d lt))
    ∙ before

pub key_all : (key i : ℕ) (rows whole part : List Row) → length rows ≤ i → part ++ rows_of_key key (drop i rows) ≡ whole
    → part ≡ whole
key_all key i rows whole part le before =
    sym (append-nil part) ∙ ap (λ l. part ++ rows_of_key key l) (sym (past_end rows i le)) ∙ before

-- the rows of each key before a place, and the others
abbrev pub ArePartsFrom : {A : Type 0} → ℕ → ℕ → List Row → List (Vec Row A) → Type 0
ArePartsFrom {A} keys i rows parts = (length parts ≡ keys) × ((key : ℕ) (part : Vec Row A) → IsAt parts key part → part.items ++ rows_of_key key (drop i rows) ≡ rows_of_key key rows)

pub parts_first : {A : Type 0} (keys : ℕ) (rows : List Row) (parts : List (Vec Row A)) → AreParts keys [] parts
    → ArePartsFrom keys 0 rows parts
parts_first keys rows parts none = (none.0, λ key part at. ap (λ l. l ++ rows_of_key key rows) (none.1 key part at))

pub parts_more : {A : Type 0} (keys i : ℕ) (rows : List Row) (d : Row) (old new : List (Vec Row A)) → i < length rows
    → ArePartsFrom keys i rows old → GetsRow (get_or rows i d) old new → ArePartsFrom keys (i + 1) rows new
parts_more keys i rows d old new lt before gets =
    (gets.0 ∙ before.0, λ key part at. let (was, here, is) = gets.1 key part at in key_more key i rows d (rows_of_key key rows) was.items part.items lt (before.1 key was here) is)

pub parts_all : {A : Type 0} (keys i : ℕ) (rows : List Row) (parts : List (Vec Row A)) → length rows ≤ i
    → ArePartsFrom keys i rows parts → AreParts keys rows parts
parts_all keys i rows parts le before =
    (before.0, λ key part at. key_all key i rows (rows_of_key key rows) part.items le (before.1 key part at))

-- one part with no rows more
pub parts_push : {A : Type 0} (keys : ℕ) (old new : List (Vec Row A)) (part : Vec Row A) → AreParts keys [] old
    → part.items ≡ [] → new ≡ old ++ part ∷ [] → AreParts (keys + 1) [] new
parts_push {A} keys old new part before empty is =
    (ap length is ∙ length-append old (part ∷ []) ∙ ap (λ n. n + 1) before.0, λ key p at. go key p (at_push old key part p (ap (λ l. slice_get l key) (sym is) ∙ at)))
  where
    go : (key : ℕ) (p : Vec Row A) → (slice_get old key ≡ Some p) ⊎ ((key ≡ length old) × (p ≡ part)) → p.items ≡ rows_of_key key []
    go key p (inl at) = before.1 key p at
    go key p (inr (e, same)) = ap (λ (v : Vec Row A). v.items) same ∙ empty

-- one ruling more
pub ruled_more : (processes keys : ℕ) (rows : List Row) (old new : List Ruling) (ruling : Ruling)
    → AreRuled processes keys rows old → IsRuled processes (rows_of_key keys rows) ruling → new ≡ old ++ ruling ∷ []
    → AreRuled processes (keys + 1) rows new
ruled_more processes keys rows old new ruling before one is = record {
  all = ap length is ∙ length-append old (ruling ∷ []) ∙ ap (λ n. n + 1) before.all;
  each = λ key r at. go key r (at_push old key ruling r (ap (λ l. slice_get l key) (sym is) ∙ at));
}
  where
    go : (key : ℕ) (r : Ruling) → (slice_get old key ≡ Some r) ⊎ ((key ≡ length old) × (r ≡ ruling)) → IsRuled processes (rows_of_key key rows) r
    go key r (inl at) = before.each key r at
    go key r (inr (e, same)) =
        let K : ℕ → Type 0 = λ k. IsRuled processes (rows_of_key k rows) r in
        let R : Ruling → Type 0 = λ x. IsRuled processes (rows_of_key keys rows) x in
        subst K (sym (e ∙ before.all)) (subst R (sym same) one)

-- a row is of no key
pub gets_none : {A : Type 0} (row : Row) (parts : List (Vec Row A)) → length parts ≤ row.key → GetsRow row parts parts
gets_none {A} row parts le = (refl, λ key part at. (part, at, sym (append-nil part.items) ∙ ap (λ (l : List Row). part.items ++ l) (sym (key_off key row (other key part at)))))
  where
    other : (key : ℕ) (part : Vec Row A) → IsAt parts key part → row.key ≢ key
    other key part at e = let lt = within parts key part at in omega (arith, lt, le, e)

-- the part of its key has a row more
pub gets_row : {A : Type 0} (row : Row) (old : List (Vec Row A)) (was more : Vec Row A) → IsAt old row.key was
    → more.items ≡ was.items ++ record row { key = 0 } ∷ [] → GetsRow row old (set old row.key more)
gets_row {A} row old was more here is = (length-set old row.key more, each)
  where
    each : (key : ℕ) (part : Vec Row A) → IsAt (set old row.key more) key part → (before : Vec Row A) × IsAt old key before × (part.items ≡ before.items ++ of_key key row)
    each key part at = elim (cases_eq key row.key) [
      | inl same ↦
          let at_key : IsAt (set old row.key more) row.key part = subst (λ (k : ℕ). IsAt (set old row.key more) k part) same at in
          let set_here : IsAt (set old row.key more) row.key more = get_set_same old row.key more (within old row.key was here) in
          let one : part ≡ more = same_at (set old row.key more) row.key part more at_key set_here in
          (was, subst (λ (k : ℕ). IsAt old k was) (sym same) here, ap (λ (v : Vec Row A). v.items) one ∙ is ∙ ap (λ (l : List Row). was.items ++ l) (sym (key_here key row (sym same))))
      | inr apart ↦
          (part, sym (get_set_other old row.key key more apart) ∙ at, sym (append-nil part.items) ∙ ap (λ (l : List Row). part.items ++ l) (sym (key_off key row (λ e. apart (sym e)))))
    ]

-- all keys
pub ruled_to : (processes i n keys : ℕ) (rows : List Row) (rulings : List Ruling) → n ≤ i → i ≤ n → n ≡ keys
    → AreRuled processes i rows rulings → AreRuled processes keys rows rulings
ruled_to processes i n keys rows rulings low high all are =
    subst (λ (k : ℕ). AreRuled processes k rows rulings) (omega (arith, low, high, all)) are

-- the answer that none explains, by its event
pub ruled_not : (registers : ℕ) (entries : List Entry) (place at : ℕ) → registers ≡ 1
    → (¬ HasPointOrder registers entries) × IsFirstUnexplained registers entries place
    → ((e : Entry) → IsAt entries place e → at ≡ event_of e) → RulesEntries entries (Not at)
ruled_not registers entries place at one found named =
    let P : ℕ → Type 0 = λ n. (¬ HasPointOrder n entries) × IsFirstUnexplained n entries place in
    let first = subst P one found in
    let (event, id, answer, here) = first.1.answer in
    (first.0, (place, first.1, (Answered event id answer, here, named (Answered event id answer) here)))
