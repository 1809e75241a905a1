-- Rows read one after another: one more is said, or the row here is none.
use Rattle.std.proofs.Common.{◌≡◌, ◌<◌, ◌≤◌, ◌⊎◌, ◌++◌, ◌∷◌, [], Some, Option, ℕ, ◌+◌, List, take, length, get_or, ap}
use Rattle.std.proofs.Common.{sym, subst, ◌∙◌, inl, inr, length-append, arith}
use Rattle.std.specs.Prelude.{MatchOption, slice_get}
use Rattle.std.proofs.lemmas.List.{length-take-le, take_all}
use Rattle.std.proofs.lemmas.Option.{slice_get-get_or}
use Rattle.reg_base.specs.Shape.{Extent}
use Rattle.reg_checkers.specs.declared.entries.Entry.{Entry}
use Rattle.reg_checkers.specs.History.{IsAt, IsHistory, IsInPlace}
use Rattle.reg_checkers.proofs.Places.{at_take, in_take, same_at, within}
use Rattle.reg_checkers.proofs.Pushing.{at_push}
use Rattle.reg_c.specs.declared.reading.Unread.{Unread}
use Rattle.reg_c.specs.declared.reading.Unread.TheVariants.{OutOfPlace, OutOfMemory}
use Rattle.reg_c.specs.declared.rows.EntryRow.{EntryRow}
use Rattle.reg_c.specs.Rows.{Say, entry_of}
use Rattle.reg_c.specs.Verdicts.{IsUnread, SayHistory}

nothing : {X : Type 0} (i : ℕ) (x : X) → IsAt [] i x → ⊥
nothing i x at = cc

pub say_none : (rows : List EntryRow) (xs : List ℕ) (es : List Entry) → es ≡ [] → Say (take 0 rows) xs es
say_none rows xs es none = record {
  many = ap length none;
  each = λ k r e row at. absurd (nothing k e (subst (λ (l : List Entry). IsAt l k e) none at));
}

-- the entry of the row at this place is said too
pub say_more : (rows : List EntryRow) (xs : List ℕ) (es new : List Entry) (k : ℕ) (d : EntryRow) (o : Option ℕ)
    → o ≡ slice_get xs k → k < length rows → Say (take k rows) xs es
    → (e : Entry) × (entry_of (get_or rows k d) o ≡ Some e) × (new ≡ es ++ e ∷ []) → Say (take (k + 1) rows) xs new
say_more rows xs es new k d o there lt said (e, found, same) =
    let is : entry_of (get_or rows k d) (slice_get xs k) ≡ Some e = ap (entry_of (get_or rows k d)) (sym there) ∙ found in
    subst (λ (l : List Entry). Say (take (k + 1) rows) xs l) (sym same) (record {
      many = (let few = said.many in let a = length-take-le k rows (omega (arith, lt)) in let b = length-take-le (k + 1) rows (omega (arith, lt)) in let c = length-append es (e ∷ []) in omega (arith, few, a, b, c));
      each = λ j r x row at. (let inside = in_take rows (k + 1) j r row in elim (at_push es j e x at) [
        | inl old ↦
            let less : j < k = (let few = said.many in let a = length-take-le k rows (omega (arith, lt)) in let b = within es j x old in omega (arith, few, a, b, lt)) in
            said.each j r x (at_take rows k j less ∙ inside.1) old
        | inr (here, equal) ↦
            let place : j ≡ k = (let few = said.many in let a = length-take-le k rows (omega (arith, lt)) in omega (arith, few, a, here)) in
            let this : get_or rows k d ≡ r = same_at rows k (get_or rows k d) r (slice_get-get_or rows k d lt) (subst (λ (i : ℕ). IsAt rows i r) place inside.1) in
            ap (λ (y : EntryRow). entry_of y (slice_get xs j)) (sym this) ∙ ap (λ (i : ℕ). entry_of (get_or rows k d) (slice_get xs i)) place ∙ is ∙ ap (λ (y : Entry). Some y) (sym equal)
      ]);
    })

pub say_all : (rows : List EntryRow) (xs : List ℕ) (es : List Entry) (k : ℕ) → length rows ≤ k → Say (take k rows) xs es
    → Say rows xs es
say_all rows xs es k le said = subst (λ (l : List EntryRow). Say l xs es) (take_all k rows le) said

-- why the row at this place could not be added
pub unread_here : (n registers : ℕ) (rows : List EntryRow) (xs : List ℕ) (es : List Entry) (s : Extent) (k : ℕ)
    (d : EntryRow) (o : Option ℕ) (why : Unread)
    → o ≡ slice_get xs k → s ≡ record { processes = n; registers = registers } → k < length rows
    → Say (take k rows) xs es
    → (why ≡ OutOfMemory) ⊎ ((why ≡ OutOfPlace k) × IsHistory s.processes s.registers es × MatchOption (entry_of (get_or rows k d) o) (Unit {0}) (λ e. ¬ IsInPlace s.processes s.registers es e))
    → IsUnread n registers rows xs why
unread_here n registers rows xs es s k d o why there same lt said (inl is) =
    subst (λ (w : Unread). IsUnread n registers rows xs w) (sym is) tt
unread_here n registers rows xs es s k d o why there same lt said (inr (is, history, out)) =
    let P : Extent → Type 0 = λ t. IsHistory t.processes t.registers es × MatchOption (entry_of (get_or rows k d) (slice_get xs k)) (Unit {0}) (λ e. ¬ IsInPlace t.processes t.registers es e) in
    let found : P (record { processes = n; registers = registers }) = subst P same (history, subst (λ (x : Option ℕ). MatchOption (entry_of (get_or rows k d) x) (Unit {0}) (λ e. ¬ IsInPlace s.processes s.registers es e)) there out) in
    subst (λ (w : Unread). IsUnread n registers rows xs w) (sym is) (es, get_or rows k d, said, found.0, slice_get-get_or rows k d lt, found.1)

-- what was found of the history that was read holds of the one that the rows say
pub judged : {X : Type 0} (P : ℕ → List Entry → List X → Type 0) (n registers : ℕ) (rows : List EntryRow) (xs : List ℕ)
    (es : List Entry) (s : Extent) (found said : List X)
    → s ≡ record { processes = n; registers = registers } → Say rows xs es → IsHistory s.processes s.registers es
    → found ≡ said → P s.registers es found
    → (h : List Entry) × SayHistory n registers rows xs h × P registers h said
judged {X = X} P n registers rows xs es s found said same says history is holds =
    let Q : Extent → Type 0 = λ t. IsHistory t.processes t.registers es × P t.registers es found in
    let both : Q (record { processes = n; registers = registers }) = subst Q same (history, holds) in
    (es, (says, both.0), subst (λ (l : List X). P registers es l) is both.1)
