-- What an entry adds to the table.
use Rattle.std.proofs.Common.{◌≡◌, ◌≢◌, ℕ, ◌<◌, ◌≤◌, ◌⊎◌, inl, inr, ◌↔◌, List, length, take, Option, Some, None, Bool}
use Rattle.std.proofs.Common.{false, true, MatchOption, IsSome, get_or, refl, ap, sym, ◌∙◌, subst, arith}
use Rattle.std.proofs.lemmas.Option.{same_Some, slice_get-get_or}
use Rattle.std.proofs.lemmas.List.{take-take}
use Rattle.reg_base.specs.declared.memory.OpId.{OpId}
use Rattle.reg_base.specs.declared.memory.Op.{Op}
use Rattle.reg_base.specs.declared.memory.Answer.{Answer}
use Rattle.reg_checkers.specs.declared.entries.Entry.{Entry}
use Rattle.reg_checkers.specs.declared.entries.Entry.TheVariants.{Called, Answered}
use Rattle.reg_checkers.specs.History.{IsAt, IsCalled, IsAnswered, IsFinished, WasCalled, MayCall, IsInPlace, IsHistory}
use Rattle.reg_checkers.proofs.Histories.{answered_was_called}
use Rattle.reg_checkers.proofs.OneMore.{IsOneMore}
use Rattle.reg_checkers.proofs.Places.{in_take}
use Rattle.reg_checkers.proofs.Places.{same_id}
use Rattle.reg_checkers.specs.declared.facts.Fact.{Fact}
use Rattle.reg_checkers.specs.declared.facts.Given.{Given}
use Rattle.reg_checkers.specs.Facts.{IsFactOf}
use Rattle.reg_checkers.specs.Table.{Rows, cell, IsChangedAt, IsTable, Marked, IsUnmarked}

-- a fact stays true
kept : (xs ys : List Entry) (id : OpId) (f : Fact) → IsFactOf xs id f
    → (IsCalled xs id f.called f.op → IsCalled ys id f.called f.op)
    → (IsFinished ys id → IsFinished xs id) → ((t : ℕ) (a : Answer) → IsAnswered xs id t a → IsAnswered ys id t a) → IsFactOf ys id f
kept xs ys id f fact called back on = record { called = called fact.called; answered = go f.answered fact.answered }
  where
    go : (o : Option Given) → MatchOption o (¬ IsFinished xs id) (λ r. IsAnswered xs id r.at r.answer) → MatchOption o (¬ IsFinished ys id) (λ r. IsAnswered ys id r.at r.answer)
    go None none = λ fin. none (back fin)
    go (Some r) some = on r.at r.answer some

module _ (count registers : ℕ) (xs ys : List Entry) {A : Type 0} (rows rows' : Rows A) (at : ℕ) (id : OpId) (table : IsTable xs rows) where
  pub called_step : (op : Op) → IsHistory count registers xs → MayCall count registers xs at id op
      → IsOneMore xs (Called at id op) ys
      → IsChangedAt rows rows' id (record { op = op; called = at; answered = None; stands = false }) → IsTable ys rows'
  called_step op good may more changed = record { facts = facts; all = all }
    where
      back : (x : OpId) → IsFinished ys x → IsFinished xs x
      back x (t, a, is) = go (more.cases (Answered t x a) is)
        where
          go : ((k : ℕ) × IsAt xs k (Answered t x a)) ⊎ (Answered t x a ≡ Called at id op) → IsFinished xs x
          go (inl h) = (t, a, h)
          go (inr e) = absurd cc

      new_one : IsFactOf ys id (record { op = op; called = at; answered = None; stands = false })
      new_one = record {
        called = more.new;
        answered = λ fin.
            let was = (let f = back id fin in answered_was_called count registers xs good id f.0 f.1 f.2) in
            let less : id.number < id.number = (may.next id.number).1 was in
            omega arith;
      }

      facts : (x : OpId) (f : Fact) → cell rows' x ≡ Some f → IsFactOf ys x f
      facts x f is = go (same_id x id)
        where
          go : (x ≡ id) ⊎ (x ≢ id) → IsFactOf ys x f
          go (inl e) =
              let same : record { op = op; called = at; answered = None; stands = false } ≡ f = same_Some (record { op = op; called = at; answered = None; stands = false }) f (sym changed.here ∙ (ap (λ (y : OpId). cell rows' y) (sym e) ∙ is)) in
              subst (λ (y : OpId). IsFactOf ys y f) (sym e) (subst (λ (g : Fact). IsFactOf ys id g) same new_one)
          go (inr other) = kept xs ys x f (table.facts x f (sym (changed.others x other) ∙ is)) (λ h. more.old (Called f.called x f.op) h) (back x) (λ t a h. more.old (Answered t x a) h)

      all : (x : OpId) → WasCalled ys x → (f : Fact) × (cell rows' x ≡ Some f)
      all x (t, o, is) = go (same_id x id) (more.cases (Called t x o) is)
        where
          go : (x ≡ id) ⊎ (x ≢ id) → ((k : ℕ) × IsAt xs k (Called t x o)) ⊎ (Called t x o ≡ Called at id op) → (f : Fact) × (cell rows' x ≡ Some f)
          go (inl e) other = (record { op = op; called = at; answered = None; stands = false }, ap (λ (y : OpId). cell rows' y) e ∙ changed.here)
          go (inr away) (inl h) = let had = table.all x (t, o, h) in (had.0, changed.others x away ∙ had.1)
          go (inr away) (inr e) = absurd (away cc)

  pub answered_step : (answer : Answer) (f₀ : Fact) → IsOneMore xs (Answered at id answer) ys → cell rows id ≡ Some f₀
      → IsChangedAt rows rows' id (record { op = f₀.op; called = f₀.called; answered = Some (record { at = at; answer = answer }); stands = false }) → IsTable ys rows'
  answered_step answer f₀ more was changed = record { facts = facts; all = all }
    where
      new_one : IsFactOf ys id (record { op = f₀.op; called = f₀.called; answered = Some (record { at = at; answer = answer }); stands = false })
      new_one = record { called = more.old (Called f₀.called id f₀.op) (table.facts id f₀ was).called; answered = more.new }

      back : (x : OpId) → x ≢ id → IsFinished ys x → IsFinished xs x
      back x other (t, a, is) = go (more.cases (Answered t x a) is)
        where
          go : ((k : ℕ) × IsAt xs k (Answered t x a)) ⊎ (Answered t x a ≡ Answered at id answer) → IsFinished xs x
          go (inl h) = (t, a, h)
          go (inr e) = absurd (other cc)

      facts : (x : OpId) (f : Fact) → cell rows' x ≡ Some f → IsFactOf ys x f
      facts x f is = go (same_id x id)
        where
          go : (x ≡ id) ⊎ (x ≢ id) → IsFactOf ys x f
          go (inl e) =
              let same : record { op = f₀.op; called = f₀.called; answered = Some (record { at = at; answer = answer }); stands = false } ≡ f = same_Some (record { op = f₀.op; called = f₀.called; answered = Some (record { at = at; answer = answer }); stands = false }) f (sym changed.here ∙ (ap (λ (y : OpId). cell rows' y) (sym e) ∙ is)) in
              subst (λ (y : OpId). IsFactOf ys y f) (sym e) (subst (λ (g : Fact). IsFactOf ys id g) same new_one)
          go (inr other) = kept xs ys x f (table.facts x f (sym (changed.others x other) ∙ is)) (λ h. more.old (Called f.called x f.op) h) (back x other) (λ t a h. more.old (Answered t x a) h)

      all : (x : OpId) → WasCalled ys x → (f : Fact) × (cell rows' x ≡ Some f)
      all x (t, o, is) = go (same_id x id) (more.cases (Called t x o) is)
        where
          go : (x ≡ id) ⊎ (x ≢ id) → ((k : ℕ) × IsAt xs k (Called t x o)) ⊎ (Called t x o ≡ Answered at id answer) → (f : Fact) × (cell rows' x ≡ Some f)
          go (inl e) other = (record { op = f₀.op; called = f₀.called; answered = Some (record { at = at; answer = answer }); stands = false }, ap (λ (y : OpId). cell rows' y) e ∙ changed.here)
          go (inr away) (inl h) = let had = table.all x (t, o, h) in (had.0, changed.others x away ∙ had.1)
          go (inr away) (inr e) = absurd cc

-- the beginning of a history is one
pub history_front : (count registers : ℕ) (xs : List Entry) (n : ℕ) → IsHistory count registers xs
    → IsHistory count registers (take n xs)
history_front count registers xs n good k e at =
    let r = in_take xs n k e at in
    let less : k < n = r.0 in
    let le : k ≤ n = omega arith in
    let same : take k (take n xs) ≡ take k xs = take-take k n xs le in
    subst (λ (ys : List Entry). IsInPlace count registers ys e) (sym same) (good k e r.1)

pub read_at : {X : Type 0} (xs : List X) (i : ℕ) (d x : X) → get_or xs i d ≡ x → i < length xs → IsAt xs i x
read_at xs i d x is lt = slice_get-get_or xs i d lt ∙ ap Some is

some_value : {X : Type 0} (o : Option X) → IsSome o → (x : X) × (o ≡ Some x)
some_value None h = absurd cc
some_value (Some x) h = (x, refl)

-- a process's row ends where its next number begins
pub next_fits : (count registers : ℕ) (xs : List Entry) {A : Type 0} (rows : Rows A) (at : ℕ) (id : OpId) (op : Op)
    → IsTable xs rows → MayCall count registers xs at id op
    → (n : ℕ) → (n < id.number) ↔ IsSome (cell rows (record { process = id.process; number = n }))
next_fits count registers xs rows at id op table may n = (up, down)
  where
    up : n < id.number → IsSome (cell rows (record { process = id.process; number = n }))
    up lt = let had = table.all (record { process = id.process; number = n }) ((may.next n).0 lt) in rw had.1 refl

    down : IsSome (cell rows (record { process = id.process; number = n })) → n < id.number
    down h =
        let had = some_value (cell rows (record { process = id.process; number = n })) h in
        (may.next n).1 (had.0.called, had.0.op, (table.facts (record { process = id.process; number = n }) had.0 had.1).called)

-- a change to an unmarked fact marks nothing
pub unmarked_kept : {A : Type 0} (rows rows' : Rows A) (id : OpId) (f : Fact) → IsUnmarked rows → f.stands ≡ false
    → IsChangedAt rows rows' id f → IsUnmarked rows'
unmarked_kept rows rows' id f none off changed x (g, e, on) = go (same_id x id)
  where
    clash : {b : Bool} → b ≡ false → b ≡ true → ⊥
    clash p q = cc

    go : (x ≡ id) ⊎ (x ≢ id) → ⊥
    go (inl same) = clash off (ap (λ (y : Fact). y.stands) (same_Some f g (sym changed.here ∙ (ap (λ (y : OpId). cell rows' y) (sym same) ∙ e))) ∙ on)
    go (inr other) = none x (g, sym (changed.others x other) ∙ e, on)
