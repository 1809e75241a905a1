-- Up to where values are needed.
use Rattle.std.proofs.Common.{◌≡◌, inl, inr, ℕ, ◌+◌, ◌<◌, ◌≤◌, cond, true, List, [], Option, Some, None, MatchOption}
use Rattle.std.proofs.Common.{length, refl, ap, sym, ◌∙◌, subst, arith}
use Rattle.std.specs.BTreeMap.{Updates, get, is_at}
use Rattle.std.specs.Option.{option_cmp, unwrap_or}
use Rattle.std.specs.declared.cmp.Ordering.{Ordering}
use Rattle.std.specs.declared.cmp.Ordering.TheVariants.{Less, Equal, Greater}
use Rattle.std.specs.Ordering.{is_eq, nat_cmp}
use Rattle.std.proofs.lemmas.Map.Lookups.{CmpEqualImpliesEq, exact_unsigned, exact_pairs}
use Rattle.std.specs.Prelude.{option_and_then}
use Rattle.std.proofs.lemmas.Bool.{cases_Bool, cases_eq}
use Rattle.std.proofs.lemmas.Option.{same_Some}
use Rattle.reg_base.specs.declared.memory.OpId.{OpId}
use Rattle.reg_checkers.specs.declared.entries.Entry.{Entry}
use Rattle.reg_checkers.specs.declared.entries.Entry.TheVariants.{Called, Answered}
use Rattle.reg_checkers.specs.declared.facts.Fact.{Fact}
use Rattle.reg_checkers.specs.declared.facts.Given.{Given}
use Rattle.reg_checkers.specs.History.{IsAnswered, IsAt, IsFinished}
use Rattle.reg_checkers.specs.Table.{IsTable, Rows, cell}
use Rattle.reg_checkers.proofs.Places.{get_push_other, get_push_same, same_at, within}
use Rattle.reg_checkers.proofs.Pushing.{at_push}
use Rattle.reg_judge.specs.declared.acts.Act.{Act}
use Rattle.reg_judge.specs.declared.calls.Call.{Call}
use Rattle.reg_judge.specs.declared.stages.Mover.{Mover}
use Rattle.reg_judge.specs.Acts.{act_in, act_of, acting, alone, alone_in, goes_by}
use Rattle.reg_judge.specs.Searching.{AreMoversOf, AreMoversTo, AreNeeds, AreNeedsTo, IsAtLeast, IsMoverAdded}
use Rattle.reg_judge.specs.Searching.{IsNeededUntil, IsNoted, NeedsMap, need_cmp, until_by}

-- keys that compare as equal are equal
exact_option : CmpEqualImpliesEq (option_cmp nat_cmp)
exact_option None None e = refl
exact_option None (Some y) e = absurd cc
exact_option (Some x) None e = absurd cc
exact_option (Some x) (Some y) e = ap (λ (z : ℕ). Some z) (exact_unsigned x y e)

is_key : (a b : ℕ × Option ℕ) → is_at (need_cmp a) b ≡ true → a ≡ b
is_key a b h = exact_pairs nat_cmp (option_cmp nat_cmp) exact_unsigned exact_option a b (tied (need_cmp a b) h)
  where
    tied : (o : Ordering) → is_eq o ≡ true → o ≡ Equal
    tied Less h = absurd cc
    tied Equal h = refl
    tied Greater h = absurd cc

-- a number put in that is not smaller
pub put_at_least : (old new : NeedsMap) (key : ℕ × Option ℕ) (count later : ℕ)
    → Updates need_cmp old new key (Some later) → count ≤ later → IsAtLeast new key count
put_at_least old new key count later updates le = (later, updates.1, le)

pub kept_at_least : (old new : NeedsMap) (key : ℕ × Option ℕ) (later : ℕ) → Updates need_cmp old new key (Some later)
    → until_by old key ≤ later → (q : ℕ × Option ℕ) (v : ℕ) → IsAtLeast old q v → IsAtLeast new q v
kept_at_least old new key later updates le q v (until, had, less) = elim (cases_Bool (is_at (need_cmp key) q)) [
  | inl at ↦ (
    later,
    updates.0 q ∙ ap (λ b. cond b (Some later) (get need_cmp old q)) at,
    (
        let same : key ≡ q = is_key key q at in
        let was : until_by old key ≡ until = ap (until_by old) same ∙ ap (λ (o : Option ℕ). unwrap_or o 0) had in
        omega (arith, was, le, less)
        ),
  )
  | inr not ↦ (until, updates.0 q ∙ ap (λ b. cond b (Some later) (get need_cmp old q)) not ∙ had, less)
]

abbrev pub AreKept : NeedsMap → NeedsMap → Type 0
AreKept old new = (q : ℕ × Option ℕ) (v : ℕ) → IsAtLeast old q v → IsAtLeast new q v

noted_kept : {A : Type 0} (rows : Rows A) (size j : ℕ) (e : Entry) (old new : NeedsMap) → AreKept old new
    → IsNoted rows size j e old → IsNoted rows size j e new
noted_kept rows size j (Called at id op) old new kept noted =
    λ a key is by. kept (a.register, key) size (noted a key is by)
noted_kept rows size j (Answered at id answer) old new kept noted =
    λ a key is by. kept (a.register, key) (j + 1) (noted a key is by)

pub needs_more : {A : Type 0} (h : List Entry) (rows : Rows A) (k : ℕ) (e : Entry) (old new : NeedsMap) → IsAt h k e
    → IsNoted rows (length h) k e new → AreKept old new → AreNeedsTo k h rows old → AreNeedsTo (k + 1) h rows new
needs_more h rows k e old new here noted kept before j x lt there = elim (cases_eq j k) [
  | inl is ↦
      let same : e ≡ x = same_at h k e x here (subst (λ (i : ℕ). IsAt h i x) is there) in
      subst (λ (i : ℕ). IsNoted rows (length h) i x new) (sym is) (subst (λ (y : Entry). IsNoted rows (length h) k y new) same noted)
  | inr not ↦ noted_kept rows (length h) j x old new kept (before j x (omega (arith, lt, not)) there)
]

-- what an operation without an answer asks and leaves
alone_is : {A : Type 0} (h : List Entry) (rows : Rows A) → IsTable h rows → (id : OpId) (a : Act) → ¬ IsFinished h id
    → act_in rows id ≡ Some a → alone_in rows id ≡ Some a
alone_is {A} h rows table id a open_ is = go (cell rows id) refl is
  where
    by_answer : (f : Fact) (o : Option Given) → f.answered ≡ o → MatchOption o (¬ IsFinished h id) (λ r. IsAnswered h id r.at r.answer) → acting f.op o ≡ Some a → alone f.op o ≡ Some a
    by_answer f None e answered is = is
    by_answer f (Some g) e answered is = absurd (open_ (g.at, g.answer, answered))

    go : (o : Option Fact) → cell rows id ≡ o → option_and_then act_of o ≡ Some a → option_and_then (λ f. alone f.op f.answered) o ≡ Some a
    go None e is = absurd cc
    go (Some f) e is = by_answer f f.answered refl (table.facts id f e).answered is

pub needs_all : {A : Type 0} (h : List Entry) (rows : Rows A) (k : ℕ) (needs : NeedsMap) → IsTable h rows → length h ≤ k
    → AreNeedsTo k h rows needs → AreNeeds h (act_in rows) needs
needs_all h rows k needs table le known j id a key (inl (at, answer, there)) acts by =
    let had = known j (Answered at id answer) (let lt = within h j (Answered at id answer) there in omega (arith, lt, le)) there a key acts by in
    let later = had.2 in
    (had.0, had.1, omega (arith, later))
needs_all h rows k needs table le known j id a key (inr (((at, op, (i, there)), open_), inside)) acts by =
    let had = known i (Called at id op) (let lt = within h i (Called at id op) there in omega (arith, lt, le)) there a key (alone_is h rows table id a open_ acts) by in
    let later = had.2 in
    (had.0, had.1, omega (arith, later, inside))

pub needed_is : (h : List Entry) (act : OpId → Option Act) (needs : NeedsMap) (a : Act) (until : ℕ)
    → ((u : ℕ) → a.makes ≡ Some u → until_by needs (a.register, Some u) ≤ until)
    → ((u : ℕ) → a.makes ≡ Some u → until_by needs (a.register, None) ≤ until) → AreNeeds h act needs
    → IsNeededUntil h act a until
needed_is h act needs a until one any known j id b u runs acts same heeds makes = elim heeds [
  | inl just ↦ at_key (Some u) just (one u makes)
  | inr but ↦ at_key None but (any u makes)
]
  where
    at_key : (key : Option ℕ) → goes_by b.asks ≡ Some key → until_by needs (a.register, key) ≤ until → j < until
    at_key key by le =
        let had = known j id b key runs acts by in
        let here : get need_cmp needs (a.register, key) ≡ Some had.0 = subst (λ (r : ℕ). get need_cmp needs (r, key) ≡ Some had.0) same had.1 in
        let is : until_by needs (a.register, key) ≡ had.0 = ap (λ (o : Option ℕ). unwrap_or o 0) here in
        let lt = had.2 in
        omega (arith, is, lt, le)

-- one process more
pub movers_more : (n r k : ℕ) (running : List (Option Call)) (old new : List Mover) (o : Option Call) → IsAt running n o
    → IsMoverAdded o r k old new → AreMoversTo n running r k old → AreMoversTo (n + 1) running r k new
movers_more n r k running old new None here added before = record {
  all = λ p c lt at on. elim (cases_eq p n) [
    | inl is ↦ absurd (let e : None ≡ Some c = same_at running n None (Some c) here (subst (λ (i : ℕ). IsAt running i (Some c)) is at) in cc)
    | inr apart ↦ subst (λ (l : List Mover). (i : ℕ) × (m : Mover) × IsAt l i m × (m.id ≡ c.id) × (m.act ≡ c.act)) (sym added) (before.all p c (omega (arith, lt, apart)) at on)
  ];
  each = λ i m at. before.each i m (subst (λ (l : List Mover). IsAt l i m) added at);
}
movers_more n r k running old new (Some d) here (inl (off, added)) before = record {
  all = λ p c lt at on. elim (cases_eq p n) [
    | inl is ↦ absurd (off (let e : d ≡ c = same_Some d c (same_at running n (Some d) (Some c) here (subst (λ (i : ℕ). IsAt running i (Some c)) is at)) in ap (λ (x : Call). x.act.register) e ∙ on))
    | inr apart ↦ subst (λ (l : List Mover). (i : ℕ) × (m : Mover) × IsAt l i m × (m.id ≡ c.id) × (m.act ≡ c.act)) (sym added) (before.all p c (omega (arith, lt, apart)) at on)
  ];
  each = λ i m at. before.each i m (subst (λ (l : List Mover). IsAt l i m) added at);
}
movers_more n r k running old new (Some d) here (inr (on_it, m, added, id, act, free)) before = record {
  all = λ p c lt at on. elim (cases_eq p n) [
    | inl is ↦
        let e : d ≡ c = same_Some d c (same_at running n (Some d) (Some c) here (subst (λ (i : ℕ). IsAt running i (Some c)) is at)) in
        (length old, m, subst (λ (l : List Mover). IsAt l (length old) m) (sym added) (get_push_same old (length old) m refl), id ∙ ap (λ (x : Call). x.id) e, act ∙ ap (λ (x : Call). x.act) e)
    | inr apart ↦
        let was = before.all p c (omega (arith, lt, apart)) at on in
        (was.0, was.1, subst (λ (l : List Mover). IsAt l was.0 was.1) (sym added) (get_push_other old was.0 m (λ is. (let inside = within old was.0 was.1 was.2 in omega (arith, inside, is))) ∙ was.2), was.3, was.4)
  ];
  each = λ i x at. elim (at_push old i m x (subst (λ (l : List Mover). IsAt l i x) added at)) [
    | inl was ↦ before.each i x was
    | inr (_, is) ↦ (n, d, here, on_it, ap (λ (y : Mover). y.id) is ∙ id, ap (λ (y : Mover). y.act) is ∙ act, λ f. free (sym (ap (λ (y : Mover). y.free) is) ∙ f))
  ];
}

nothing : {X : Type 0} (i : ℕ) (x : X) → IsAt [] i x → ⊥
nothing i x at = cc

pub movers_none : (n r k : ℕ) (running : List (Option Call)) (movers : List Mover) → n ≡ 0 → movers ≡ []
    → AreMoversTo n running r k movers
movers_none n r k running movers zero none = record {
  all = λ p c lt at on. absurd (omega (arith, lt, zero));
  each = λ i m at. absurd (nothing i m (subst (λ (l : List Mover). IsAt l i m) none at));
}

pub movers_all : (n r k : ℕ) (running : List (Option Call)) (movers : List Mover) → length running ≤ n
    → AreMoversTo n running r k movers → AreMoversOf running r k movers
movers_all n r k running movers le known =
    record { all = λ p c lt at on. known.all p c (omega (arith, lt, le)) at on; each = known.each }
