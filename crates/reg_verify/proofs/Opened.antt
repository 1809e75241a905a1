-- The opening of a chapter.
use Rattle.std.proofs.Common.{ℕ, ◌≡◌, ◌+◌, ◌<◌, ◌⊎◌, inl, inr, Bool, true, false, List, [], ◌∷◌, ◌++◌, Option, Some}
use Rattle.std.proofs.Common.{None, refl, sym, ◌∙◌, subst, arith}
use Rattle.std.specs.Prelude.{◌↔◌, MatchOption}
use Rattle.std.proofs.lemmas.Bool.{cases_eq}
use Rattle.reg_base.specs.declared.memory.Op.{Op}
use Rattle.reg_base.specs.declared.memory.OpId.{OpId}
use Rattle.reg_base.specs.Memory.{after, memory, register_of}
use Rattle.reg_checkers.specs.declared.entries.Entry.{Entry}
use Rattle.reg_checkers.specs.declared.entries.Entry.TheVariants.{Called}
use Rattle.reg_checkers.specs.declared.facts.Fact.{Fact}
use Rattle.reg_checkers.specs.History.{IsAt, IsCalled, IsHistory, WasCalled}
use Rattle.reg_checkers.specs.Table.{IsTable, Rows, cell}
use Rattle.reg_checkers.proofs.Histories.{call_is}
use Rattle.reg_checkers.proofs.Places.{same_at}
use Rattle.reg_history.specs.Reports.{Contents}
use Rattle.reg_world.proofs.one_memory.Replicas.{memory-append}
use Rattle.reg_verify.specs.declared.stories.breaches.Breach.{Breach}
use Rattle.reg_verify.specs.declared.stories.breaches.Breach.TheVariants.{Order, Points, Other, Write, Place}
use Rattle.reg_verify.specs.Stories.{BeginsToOpen, IsOpened, IsUnopened, IsWrittenBy, Opens, OpensUpTo, opener}
use Rattle.reg_verify.specs.Opening.{AreInTurn, AreOfOpening, IsOfOpening}

-- Operations by the table

pub called_as : {A : Type 0} (n registers : ℕ) (h : List Entry) (rows : Rows A) (id : OpId) (op : Op) (f : Fact)
    (r : Bool)
    → IsHistory n registers h → IsTable h rows → cell rows id ≡ Some f → (r ≡ true → f.op ≡ op) → (f.op ≡ op → r ≡ true)
    → (r ≡ true) ↔ ((at : ℕ) × IsCalled h id at op)
called_as n registers h rows id op f r good table is says back =
    let its = (table.facts id f is).called in (
      λ on. (f.called, subst (λ (o : Op). IsCalled h id f.called o) (says on) its),
      λ called. back (sym (call_is n registers h good id called.0 f.called op f.op called.1 its).1),
    )

pub not_called : {A : Type 0} (h : List Entry) (rows : Rows A) (id : OpId) → IsTable h rows → cell rows id ≡ None
    → ¬ WasCalled h id
not_called h rows id table none called =
    let found = table.all id called in
    let clash : None ≡ Some found.0 = sym none ∙ found.1 in
    absurd (cc)

pub within_registers : {A : Type 0} (n registers : ℕ) (h : List Entry) (rows : Rows A) (id : OpId) (f : Fact)
    → IsHistory n registers h → IsTable h rows → cell rows id ≡ Some f → register_of f.op < registers
within_registers n registers h rows id f good table is =
    let its = (table.facts id f is).called in
    (good its.0 (Called f.called id f.op) its.1).register

pub memory_push : (registers : ℕ) (ops : List Op) (op : Op)
    → after op (memory registers ops) ≡ memory registers (ops ++ op ∷ [])
memory_push registers ops op = sym (memory-append ops (op ∷ []) (memory registers []))

-- Writes one by one

pub opens_more : (writes : List Op) (r : Contents) (k : ℕ) (op : Op) → OpensUpTo k writes r → IsAt writes k op
    → IsWrittenBy r (opener k) op → IsAt r.order k (opener k) → OpensUpTo (k + 1) writes r
opens_more writes r k op before here written stands number other lt at = by (cases_eq number k)
  where
    by : (number ≡ k) ⊎ (number ≡ k → ⊥) → IsWrittenBy r (opener number) other × IsAt r.order number (opener number)
    by (inl e) =
        let same : op ≡ other = same_at writes k op other here (subst (λ (i : ℕ). IsAt writes i other) e at) in (
          subst (λ (i : ℕ). IsWrittenBy r (opener i) other) (sym e) (subst (λ (o : Op). IsWrittenBy r (opener k) o) same written),
          subst (λ (i : ℕ). IsAt r.order i (opener i)) (sym e) stands,
        )
    by (inr off) = before number other (omega (arith, lt, off)) at

not_opened : (writes : List Op) (r : Contents) (breach : Breach) → IsUnopened writes r breach → ¬ Opens writes r
not_opened writes r (Order reason) not opens = not
not_opened writes r (Points reason) not opens = not
not_opened writes r (Other part) not opens = not
not_opened writes r (Write number op) not opens = not.2 (opens number op not.1).0
not_opened writes r (Place number) not opens = not.2 (opens number not.1.0 not.1.1).1

-- what is said of a chapter that didn't end while it was opened
pub unopened_so : (last : Bool) (writes : List Op) (r : Contents) (o : Option Breach)
    → ¬ ((last ≡ true) × BeginsToOpen writes r) → MatchOption o (Opens writes r) (λ breach. IsUnopened writes r breach)
    → MatchOption o (IsOpened last writes r) (λ breach. IsUnopened writes r breach × ¬ IsOpened last writes r)
unopened_so true writes r None not m = inl m
unopened_so false writes r None not m = m
unopened_so true writes r (Some breach) not m =
    (m, elim [ inl opens ↦ not_opened writes r breach m opens | inr begins ↦ not (refl, begins) ])
unopened_so false writes r (Some breach) not m = (m, not_opened writes r breach m)

pub opened_in_part : (last : Bool) (writes : List Op) (r : Contents) → (last ≡ true) × BeginsToOpen writes r
    → IsOpened last writes r
opened_in_part true writes r begins = inr begins.1
opened_in_part false writes r begins = let e = begins.0 in absurd (cc)

-- A part of an opening

pub same_opening : (writes : List Op) (at t : ℕ) (id x : OpId) (op o : Op) → IsOfOpening writes id op
    → Called at id op ≡ Called t x o → IsOfOpening writes x o
same_opening writes at t id x op o of same =
    let a : id ≡ x = cc in
    let b : op ≡ o = cc in
    subst (λ (i : OpId). IsOfOpening writes i o) a (subst (λ (p : Op). IsOfOpening writes id p) b of)

pub opening_more : (writes : List Op) (es : List Entry) (n : ℕ)
    → ((k at : ℕ) (id : OpId) (op : Op) → k < n → IsAt es k (Called at id op) → IsOfOpening writes id op)
    → ((at : ℕ) (id : OpId) (op : Op) → IsAt es n (Called at id op) → IsOfOpening writes id op)
    → (k at : ℕ) (id : OpId) (op : Op) → k < n + 1 → IsAt es k (Called at id op) → IsOfOpening writes id op
opening_more writes es n before here k at id op lt there = by (cases_eq k n)
  where
    by : (k ≡ n) ⊎ (k ≡ n → ⊥) → IsOfOpening writes id op
    by (inl e) = here at id op (subst (λ (i : ℕ). IsAt es i (Called at id op)) e there)
    by (inr off) = before k at id op (omega (arith, lt, off)) there

pub both_begin : (writes : List Op) (r : Contents) (es : List Entry) (ids : List OpId) (b : Bool) → es ≡ r.entries
    → ids ≡ r.order → AreOfOpening writes es → (b ≡ true) ↔ AreInTurn ids → (b ≡ true) ↔ BeginsToOpen writes r
both_begin writes r es ids b e i all turn = (
  λ on. record { all = subst (λ (h : List Entry). AreOfOpening writes h) e all; order = subst AreInTurn i (turn.0 on) },
  λ begins. turn.1 (subst AreInTurn (sym i) begins.order),
)

pub none_begins : (writes : List Op) (r : Contents) (es : List Entry) (a : Bool) → es ≡ r.entries
    → (a ≡ true) ↔ AreOfOpening writes es → a ≡ false → (a ≡ true) ↔ BeginsToOpen writes r
none_begins writes r es a e of off = (
  λ on. let clash : true ≡ false = sym on ∙ off in absurd (cc),
  λ begins. of.1 (subst (λ (h : List Entry). AreOfOpening writes h) (sym e) begins.all),
)
