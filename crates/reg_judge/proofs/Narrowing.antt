-- The first answer that no point order explains.
use Rattle.std.proofs.Common.{◌≡◌, inl, inr, ℕ, suc, ◌+◌, ◌<◌, ◌≤◌, List, [], ◌∷◌, map, take, length, subst, arith}
use Rattle.std.specs.List.{AllZip}
use Rattle.reg_base.specs.declared.memory.OpId.{OpId}
use Rattle.reg_base.specs.declared.memory.Op.{Op}
use Rattle.reg_base.specs.declared.memory.Answer.{Answer}
use Rattle.reg_checkers.specs.declared.entries.Entry.{Entry}
use Rattle.reg_checkers.specs.declared.entries.Entry.TheVariants.{Called, Answered}
use Rattle.reg_checkers.specs.declared.entries.Point.{Point}
use Rattle.reg_checkers.specs.History.{IsAt, IsAnswered, IsCalled, IsHistory, MayCall, WasCalled}
use Rattle.reg_checkers.specs.Orders.{IsPointOrder}
use Rattle.reg_checkers.proofs.Histories.{answered_was_called}
use Rattle.reg_checkers.proofs.Noting.{history_front}
use Rattle.reg_checkers.proofs.OneMore.{IsOneMore, one_more}
use Rattle.reg_checkers.proofs.Places.{IsAt-map, element_at}
use Rattle.reg_judge.specs.Judging.{AreBounds, HasPointOrder, IsExplained, IsFirstUnexplained}
use Rattle.reg_judge.specs.declared.judge.Bounds.{Bounds}
use Rattle.std.proofs.lemmas.List.{take_all}

nothing : {X : Type 0} (i : ℕ) (x : X) → IsAt [] i x → ⊥
nothing i x at = cc

-- no entries have a point order
pub empty_order : (registers : ℕ) → HasPointOrder registers []
empty_order registers = (
  [],
  record {
    selection = record {
      distinct = λ i j id at. absurd (nothing i id at);
      finished = λ id (at, answer, (i, here)). absurd (nothing i (Answered at id answer) here);
      known = λ i id at. absurd (nothing i id at);
    };
    legal = record { ops = []; called = tt; right = λ i id op at answer here. absurd (nothing i id here) };
    called = λ i p at op here. absurd (nothing i p here);
    answered = λ i p at answer here. absurd (nothing i p here);
    rising = λ i j p q here. absurd (nothing i p here);
  },
)

zip_more : {X Y : Type 0} (P Q : X → Y → Type 0) (xs : List X) (ys : List Y) → ((x : X) (y : Y) → P x y → Q x y)
    → AllZip P xs ys → AllZip Q xs ys
zip_more P Q [] [] f all = tt
zip_more P Q [] (y ∷ ys) f all = absurd all
zip_more P Q (x ∷ xs) [] f all = absurd all
zip_more P Q (x ∷ xs) (y ∷ ys) f all = (f x y all.0, zip_more P Q xs ys f all.1)

-- a call takes no point order away
module _ (n registers : ℕ) (h : List Entry) (good : IsHistory n registers h) (k t : ℕ) (x : OpId) (o : Op) (here : IsAt h k (Called t x o)) (ps : List Point) (order : IsPointOrder registers (take k h) ps) where
  more : IsOneMore (take k h) (Called t x o) (take (suc k) h)
  more = one_more h k (Called t x o) here

  not_before : ¬ WasCalled (take k h) x
  not_before was = let may : MayCall n registers (take k h) t x o = good k (Called t x o) here in let lt : x.number < x.number = (may.next x.number).1 was in omega arith

  old_answer : (id : OpId) (at : ℕ) (answer : Answer) → IsAnswered (take (suc k) h) id at answer → IsAnswered (take k h) id at answer
  old_answer id at answer was = elim ((more).cases (Answered at id answer) was) [ inl old ↦ old | inr new ↦ absurd cc ]

  stands_called : (i : ℕ) (id : OpId) → IsAt (map (λ p. p.id) ps) i id → WasCalled (take k h) id
  stands_called i id at = elim (order.selection.known i id at) [
    | inl fin ↦ answered_was_called n registers (take k h) (history_front n registers h k good) id fin.0 fin.1 fin.2
    | inr (at, op, called, up) ↦ (at, op, called)
  ]

  pub order_after_call : IsPointOrder registers (take (suc k) h) ps
  order_after_call = record {
    selection = record {
      distinct = order.selection.distinct;
      finished = λ id (at, answer, was). order.selection.finished id (at, answer, old_answer id at answer was);
      known = λ i id at. elim (order.selection.known i id at) [
        | inl (s, answer, was) ↦ inl (s, answer, (more).old (Answered s id answer) was)
        | inr (s, op, was, up) ↦ inr (s, op, (more).old (Called s id op) was, up)
      ];
    };
    legal = record {
      ops = order.legal.ops;
      called = zip_more (λ id op. (at : ℕ) × IsCalled (take k h) id at op) (λ id op. (at : ℕ) × IsCalled (take (suc k) h) id at op) (map (λ p. p.id) ps) order.legal.ops (λ id op (at, was). (at, (more).old (Called at id op) was)) order.legal.called;
      right = λ i id op at answer a b was. order.legal.right i id op at answer a b (old_answer id at answer was);
    };
    called = λ i p at op spot was. elim ((more).cases (Called at p.id op) was) [
      | inl old ↦ order.called i p at op spot old
      | inr new ↦ absurd (not_before (let same : p.id ≡ x = cc in subst (WasCalled (take k h)) same (stands_called i p.id (IsAt-map (λ (p : Point). p.id) ps i p spot))))
    ];
    answered = λ i p at answer spot was. order.answered i p at answer spot (old_answer p.id at answer was);
    rising = order.rising;
  }

pub first_unexplained : (n registers : ℕ) (h : List Entry) → IsHistory n registers h → (good bad : ℕ) → bad ≤ good + 1
    → bad ≤ length h → HasPointOrder registers (take good h) → ¬ HasPointOrder registers (take bad h) → good < bad
    → IsFirstUnexplained registers h good
first_unexplained n registers h history good bad next le order none lt =
    let e : bad ≡ suc good = omega (arith, next, lt) in
    let f : bad ≡ good + 1 = omega (arith, next, lt) in
    let inside : good < length h = omega (arith, le, lt) in
    let entry = element_at h good inside in
    let not : ¬ HasPointOrder registers (take (suc good) h) = subst (λ (i : ℕ). ¬ HasPointOrder registers (take i h)) e none in
    go entry.0 entry.1 not (subst (λ (i : ℕ). ¬ HasPointOrder registers (take i h)) f none)
  where
    go : (e : Entry) → IsAt h good e → ¬ HasPointOrder registers (take (suc good) h) → ¬ HasPointOrder registers (take (good + 1) h) → IsFirstUnexplained registers h good
    go (Called t x o) here not also = absurd (not (order.0, order_after_call n registers h history good t x o here order.0 order.1))
    go (Answered t x answer) here not also = record { answer = (t, x, answer, here); none = also; before = order }

-- none of the entries has a point order
pub none_explained : (registers : ℕ) (h : List Entry) (place : ℕ) → place < length h → IsExplained registers h 0
none_explained registers h place lt = (omega (arith, lt), empty_order registers)

-- at first those that have a point order, and all
pub first_bounds : (registers : ℕ) (h : List Entry) (b : Bounds) → IsExplained registers h b.good → b.bad ≡ length h
    → ¬ HasPointOrder registers h → AreBounds registers h b
first_bounds registers h b good bad none = record {
  order = good.1;
  none = all;
  apart = omega (arith, good.0, bad);
  inside = omega (arith, bad);
}
  where
    all : ¬ HasPointOrder registers (take b.bad h)
    all order = none (subst (HasPointOrder registers) (take_all b.bad h (omega (arith, bad))) order)

pub found_bounds : (n registers : ℕ) (h : List Entry) → IsHistory n registers h → (b : Bounds) → b.bad ≤ b.good + 1
    → AreBounds registers h b → IsFirstUnexplained registers h b.good
found_bounds n registers h history b next are =
    first_unexplained n registers h history b.good b.bad next are.inside are.order are.none are.apart
