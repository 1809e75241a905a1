-- From the table and the facts to the history.
use Rattle.std.proofs.Common.{◌≡◌, ◌≢◌, ℕ, zero, suc, ◌<◌, ◌⊎◌, inl, inr, All, List, [], ◌∷◌, map, take, get_or, Option}
use Rattle.std.proofs.Common.{Some, None, IsSome, MatchOption, slice_get, refl, ap, sym, ◌∙◌, subst, arith}
use Rattle.std.specs.List.{AllZip}
use Rattle.std.proofs.lemmas.Option.{same_Some, slice_get-get_or}
use Rattle.std.proofs.lemmas.Bool.{cases_eq}
use Rattle.std.proofs.lemmas.List.{take-map}
use Rattle.reg_base.specs.declared.memory.OpId.{OpId}
use Rattle.reg_base.specs.declared.memory.Op.{Op}
use Rattle.reg_base.specs.declared.memory.Answer.{Answer}
use Rattle.reg_base.specs.declared.memory.Answer.TheVariants.{Done, Value, Unequal}
use Rattle.reg_checkers.specs.declared.entries.Entry.{Entry}
use Rattle.reg_checkers.specs.declared.entries.Entry.TheVariants.{Called}
use Rattle.reg_base.specs.Memory.{IsUpdate, answer_of, memory, register_of}
use Rattle.reg_checkers.specs.History.{IsAt, IsAnswered, IsFinished, IsHistory}
use Rattle.reg_checkers.specs.Orders.{IsSelection, IsDistinct, KeepsOwnOrder, IsLegal}
use Rattle.reg_checkers.specs.Checks.{AreCalled, HasUnknown, HasTwice, HasMissing, BreaksOwnOrder, NoneOfThree, IsWrong}
use Rattle.reg_checkers.specs.Checks.{IsFirst}
use Rattle.reg_checkers.proofs.Histories.{answered_was_called, call_is, answer_is}
use Rattle.reg_checkers.proofs.Places.{IsAt-map}
use Rattle.reg_checkers.proofs.NoOrder.{same_ops}
use Rattle.reg_checkers.specs.declared.facts.Fact.{Fact}
use Rattle.reg_checkers.specs.declared.facts.Given.{Given}
use Rattle.reg_checkers.specs.Facts.{IsFactOf, AreFacts, IsWrongFact}
use Rattle.reg_checkers.specs.Selections.{IsSelected}
use Rattle.reg_checkers.specs.Table.{MayStand, Rows, cell, IsTable, Stands, Marked, AreMarked, AreResolved}

some_given : (o : Option Given) → IsSome o → (r : Given) × (o ≡ Some r)
some_given None h = absurd cc
some_given (Some r) h = (r, refl)

module _ (count registers : ℕ) (h : List Entry) (good : IsHistory count registers h) {A : Type 0} (rows : Rows A) (table : IsTable h rows) where
  pub may_stands : (id : OpId) → MayStand h id → Stands rows id
  may_stands id (inl fin) =
      let had = table.all id (answered_was_called count registers h good id fin.0 fin.1 fin.2) in
      (had.0, had.1, inl (go had.0.answered (table.facts id had.0 had.1).answered))
    where
      go : (o : Option Given) → MatchOption o (¬ IsFinished h id) (λ r. IsAnswered h id r.at r.answer) → IsSome o
      go None none = absurd (none fin)
      go (Some r) some = refl
  may_stands id (inr (at, op, called, up)) =
      let had = table.all id (at, op, called) in
      let same : op ≡ had.0.op = (call_is count registers h good id at had.0.called op had.0.op called (table.facts id had.0 had.1).called).1 in
      (had.0, had.1, inr (subst IsUpdate same up))

  pub stands_may : (id : OpId) → Stands rows id → MayStand h id
  stands_may id (f, is, inl some) =
      let r = some_given f.answered some in
      let ans : IsAnswered h id r.0.at r.0.answer = subst (λ (o : Option Given). MatchOption o (¬ IsFinished h id) (λ r. IsAnswered h id r.at r.answer)) r.1 (table.facts id f is).answered in
      inl (r.0.at, r.0.answer, ans)
  stands_may id (f, is, inr up) = inr (f.called, f.op, (table.facts id f is).called, up)

  pub unknown_here : (ids : List OpId) → (k : ℕ) × (id : OpId) × IsAt ids k id × (¬ Stands rows id) → HasUnknown h ids
  unknown_here ids (k, id, at, none) = (k, id, at, (λ fin. none (may_stands id (inl fin))), (λ call. none (may_stands id (inr call))))

  pub none_unknown : (ids : List OpId) (facts : List Fact) → AreResolved rows ids facts → ¬ HasUnknown h ids
  none_unknown ids facts res (k, id, at, open_, no_update) = elim (stands_may id (res.stand k id at)) [ inl fin ↦ open_ fin | inr call ↦ no_update call ]

  facts_are : (ids : List OpId) (facts : List Fact) → AllZip (λ id f. cell rows id ≡ Some f) ids facts → AreFacts h ids facts
  facts_are [] [] all = tt
  facts_are [] (f ∷ facts) all = absurd all
  facts_are (id ∷ ids) [] all = absurd all
  facts_are (id ∷ ids) (f ∷ facts) all = (table.facts id f all.0, facts_are ids facts all.1)

  -- what is left of a selection once nothing is twice or missing
  pub selected : (ids : List OpId) (facts : List Fact) (marks : Rows A) → AreResolved rows ids facts → IsDistinct ids
      → AreMarked marks ids → ((id : OpId) → IsFinished h id → Marked marks id) → IsSelected h ids facts
  selected ids facts marks res distinct marked all = record {
    selection = record { distinct = distinct; finished = λ id fin. (marked id).0 (all id fin); known = λ k id at. stands_may id (res.stand k id at) };
    facts_of = facts_are ids facts res.each;
  }

pub missing_here : (h : List Entry) (ids : List OpId) {A : Type 0} (marks : Rows A) → AreMarked marks ids
    → (id : OpId) × IsFinished h id × (¬ Marked marks id) → HasMissing h ids
missing_here h ids marks marked (id, fin, none) = (id, fin, λ k at. none ((marked id).1 (k, at)))

-- an id and a fact at one place
pub zip_left : {X Y : Type 0} (R : X → Y → Type 0) (xs : List X) (ys : List Y) (k : ℕ) (y : Y) → AllZip R xs ys
    → IsAt ys k y → (x : X) × IsAt xs k x × R x y
zip_left R [] [] k y all at = absurd cc
zip_left R [] (b ∷ ys) k y all at = absurd all
zip_left R (a ∷ xs) [] k y all at = absurd all
zip_left R (a ∷ xs) (b ∷ ys) zero y all at = (a, refl, subst (λ z. R a z) (same_Some b y at) all.0)
zip_left R (a ∷ xs) (b ∷ ys) (suc k) y all at = zip_left R xs ys k y all.1 at

pub zip_right : {X Y : Type 0} (R : X → Y → Type 0) (xs : List X) (ys : List Y) (k : ℕ) (x : X) → AllZip R xs ys
    → IsAt xs k x → (y : Y) × IsAt ys k y × R x y
zip_right R [] [] k x all at = absurd cc
zip_right R [] (b ∷ ys) k x all at = absurd all
zip_right R (a ∷ xs) [] k x all at = absurd all
zip_right R (a ∷ xs) (b ∷ ys) zero x all at = (b, refl, subst (λ z. R z b) (same_Some a x at) all.0)
zip_right R (a ∷ xs) (b ∷ ys) (suc k) x all at = zip_right R xs ys k x all.1 at

ops_called : (h : List Entry) (ids : List OpId) (facts : List Fact) → AreFacts h ids facts
    → AreCalled h ids (map (λ f. f.op) facts)
ops_called h [] [] all = tt
ops_called h [] (f ∷ facts) all = absurd all
ops_called h (id ∷ ids) [] all = absurd all
ops_called h (id ∷ ids) (f ∷ facts) all = ((f.called, all.0.called), ops_called h ids facts all.1)

same_answer : (a b : Answer) → (a ≡ b) ⊎ (a ≢ b)
same_answer Done Done = inl refl
same_answer Done (Value n) = inr (λ e. cc)
same_answer Done Unequal = inr (λ e. cc)
same_answer (Value n) Done = inr (λ e. cc)
same_answer (Value n) Unequal = inr (λ e. cc)
same_answer Unequal Done = inr (λ e. cc)
same_answer Unequal (Value n) = inr (λ e. cc)
same_answer Unequal Unequal = inl refl
same_answer (Value n) (Value m) = go (cases_eq n m)
  where
    go : (n ≡ m) ⊎ (n ≡ m → ⊥) → (Value n ≡ Value m) ⊎ (Value n ≢ Value m)
    go (inl e) = inl (ap Value e)
    go (inr e) = inr (λ p. e cc)

front_ops : (facts : List Fact) (k : ℕ) → take k (map (λ f. f.op) facts) ≡ map (λ f. f.op) (take k facts)
front_ops facts k = take-map (λ (f : Fact). f.op) k facts

module _ (count registers : ℕ) (h : List Entry) (good : IsHistory count registers h) (ids : List OpId) (facts : List Fact) (are : AreFacts h ids facts) where
  -- the fact of an answered operation has its answer
  pub has_given : (id : OpId) (f : Fact) → IsFactOf h id f → (t : ℕ) (a : Answer) → IsAnswered h id t a
      → (g : Given) × (f.answered ≡ Some g) × (g.answer ≡ a)
  has_given id f fact t a is = go f.answered fact.answered
    where
      go : (o : Option Given) → MatchOption o (¬ IsFinished h id) (λ r. IsAnswered h id r.at r.answer) → (g : Given) × (o ≡ Some g) × (g.answer ≡ a)
      go None none = absurd (none (t, a, is))
      go (Some g) some = (g, refl, (answer_is count registers h good id g.at t g.answer a some is).1)

  pub wrong_here : (k : ℕ) → IsWrongFact registers facts k → IsWrong registers h ids k
  wrong_here k (f, at, (g, some, wrong)) =
      let found = zip_left (IsFactOf h) ids facts k f are at in
      let ans : IsAnswered h found.0 g.at g.answer = subst (λ (o : Option Given). MatchOption o (¬ IsFinished h found.0) (λ r. IsAnswered h found.0 r.at r.answer)) some found.2.answered in
      record {
        ops = map (λ f. f.op) facts;
        called = ops_called h ids facts are;
        id = found.0;
        op = f.op;
        at = g.at;
        answer = g.answer;
        here = found.1;
        its_op = IsAt-map (λ (f : Fact). f.op) facts k f at;
        answered = ans;
        wrong = λ e. wrong (e ∙ ap (λ (ops : List Op). answer_of f.op (memory registers ops)) (front_ops facts k));
      }

  pub wrong_there : (k : ℕ) → IsWrong registers h ids k → IsWrongFact registers facts k
  wrong_there k w =
      let found = zip_right (IsFactOf h) ids facts k w.id are w.here in
      let f = found.0 in
      let ops : w.ops ≡ map (λ f. f.op) facts = same_ops count registers h good ids w.ops (map (λ f. f.op) facts) w.called (ops_called h ids facts are) in
      let op : w.op ≡ f.op = same_Some w.op f.op (sym w.its_op ∙ (ap (λ (os : List Op). slice_get os k) ops ∙ IsAt-map (λ (f : Fact). f.op) facts k f found.1)) in
      let given = has_given w.id f found.2 w.at w.answer w.answered in
      (f, found.1, (given.0, given.1, λ e. w.wrong (sym given.2 ∙ (e ∙ (ap (λ (os : List Op). answer_of f.op (memory registers os)) (sym (front_ops facts k)) ∙ (ap (λ (os : List Op). answer_of f.op (memory registers (take k os))) (sym ops) ∙ ap (λ (o : Op). answer_of o (memory registers (take k w.ops))) (sym op)))))))

  pub legal : ((k : ℕ) → ¬ IsWrongFact registers facts k) → IsLegal registers h ids
  legal none = record { ops = map (λ f. f.op) facts; called = ops_called h ids facts are; right = right }
    where
      right : (k : ℕ) (id : OpId) (op : Op) (t : ℕ) (a : Answer) → IsAt ids k id → IsAt (map (λ f. f.op) facts) k op → IsAnswered h id t a → a ≡ answer_of op (memory registers (take k (map (λ f. f.op) facts)))
      right k id op t a at its is =
          let found = zip_right (IsFactOf h) ids facts k id are at in
          let f = found.0 in
          let same : f.op ≡ op = same_Some f.op op (sym (IsAt-map (λ (f : Fact). f.op) facts k f found.1) ∙ its) in
          let given = has_given id f found.2 t a is in
          go found.0 found.1 same given (same_answer given.0.answer (answer_of f.op (memory registers (map (λ f. f.op) (take k facts)))))
        where
          go : (f : Fact) → IsAt facts k f → f.op ≡ op → (given : (g : Given) × (f.answered ≡ Some g) × (g.answer ≡ a))
              → (given.0.answer ≡ answer_of f.op (memory registers (map (λ f. f.op) (take k facts)))) ⊎ (given.0.answer ≢ answer_of f.op (memory registers (map (λ f. f.op) (take k facts))))
              → a ≡ answer_of op (memory registers (take k (map (λ f. f.op) facts)))
          go f here same given (inl e) = sym given.2 ∙ (e ∙ (ap (λ (os : List Op). answer_of f.op (memory registers os)) (sym (front_ops facts k)) ∙ ap (λ (o : Op). answer_of o (memory registers (take k (map (λ f. f.op) facts)))) same))
          go f here same given (inr other) = absurd (none k (f, here, (given.0, given.1, other)))

  pub registers_fit : All (λ f. register_of f.op < registers) facts
  registers_fit k d lt =
      let found = zip_left (IsFactOf h) ids facts k (get_or facts k d) are (slice_get-get_or facts k d lt) in
      let call = found.2.called in
      (good call.0 (Called (get_or facts k d).called found.0 (get_or facts k d).op) call.1).register

pub none_of_three : (h : List Entry) (ids : List OpId) → IsSelection h ids → NoneOfThree h ids
none_of_three h ids sel = record {
  unknown = λ (k, id, at, open_, no_update). elim (sel.known k id at) [ inl fin ↦ open_ fin | inr call ↦ no_update call ];
  twice = λ (i, j, id, at1, at2, lt). (let same : i ≡ j = sel.distinct i j id at1 at2 in absurd (omega arith));
  missing = λ (id, fin, none). (let found = sel.finished id fin in none found.0 found.1);
}

pub not_twice : (ids : List OpId) → IsDistinct ids → ¬ HasTwice ids
not_twice ids distinct (i, j, id, at1, at2, lt) = let same : i ≡ j = distinct i j id at1 at2 in omega arith

pub not_broken : (ids : List OpId) → KeepsOwnOrder ids → ¬ BreaksOwnOrder ids
not_broken ids own (i, j, a, b, at1, at2, lt, same, less) =
    let other : j < i = own j i b a at2 at1 (sym same) less in omega arith

-- the first wrong fact is at the first wrong place
pub first_is : (count registers : ℕ) (h : List Entry) → IsHistory count registers h
    → (ids : List OpId) (facts : List Fact) → AreFacts h ids facts → (k : ℕ) → IsFirst (IsWrongFact registers facts) k
    → IsFirst (IsWrong registers h ids) k
first_is count registers h good ids facts are k (here, before) = (wrong_here count registers h good ids facts are k here, λ j lt w. before j lt (wrong_there count registers h good ids facts are j w))
