-- The first answer that none explains, from those of the registers: of all it is the one of the earliest event.
use Rattle.std.proofs.Common.{◌≡◌, ◌⊎◌, inl, inr, ℕ, zero, suc, ◌+◌, ◌<◌, ◌≤◌, Bool, List, [], ◌∷◌, ◌++◌, length, take}
use Rattle.std.proofs.Common.{drop, refl, ap, ap₂, sym, ◌∙◌, subst, cond, arith}
use Rattle.std.specs.List.{AllZip, filter}
use Rattle.std.proofs.lemmas.Bool.{cases_eq, cases_order}
use Rattle.std.proofs.lemmas.List.{take-append-drop, take-take, take_at}
use Rattle.std.proofs.lemmas.List.Elements.{filter-append}
use Rattle.reg_base.specs.declared.memory.Answer.{Answer}
use Rattle.reg_base.specs.declared.memory.OpId.{OpId}
use Rattle.reg_base.specs.declared.memory.Op.{Op}
use Rattle.reg_base.specs.Memory.{register_of}
use Rattle.reg_checkers.specs.declared.entries.Entry.{Entry}
use Rattle.reg_checkers.specs.declared.entries.Entry.TheVariants.{Called, Answered}
use Rattle.reg_checkers.specs.History.{IsAt, IsHistory, MayAnswer}
use Rattle.reg_checkers.proofs.Histories.{answered_was_called}
use Rattle.reg_checkers.proofs.Noting.{history_front}
use Rattle.reg_checkers.proofs.Places.{at_take, in_take, same_at, within}
use Rattle.reg_judge.specs.Alike.{AreAlike, IsLike}
use Rattle.reg_judge.specs.Judging.{HasPointOrder, IsFirstUnexplained}
use Rattle.reg_judge.specs.Parts.{is_of, part_at}
use Rattle.reg_judge.proofs.Filters.{kept, was_kept}
use Rattle.reg_judge.proofs.Fronts.{front_has}
use Rattle.reg_judge.proofs.Locality.{each_by_itself}
use Rattle.reg_judge.proofs.PartFacts.{is_on, off_register, on_register_is}
use Rattle.reg_judge.proofs.Renaming.{order_there, turned_alike}

-- the first answer that none explains is of no earlier event
abbrev pub IsLater : ℕ → ℕ → List Entry → Type 0
IsLater registers t h = (spot : ℕ) × (s : ℕ) × (x : OpId) × (y : Answer) × IsFirstUnexplained registers h spot × IsAt h spot (Answered s x y) × (t ≤ s)

-- First parts

zip_take : {X Y : Type 0} (R : X → Y → Type 0) (xs : List X) (ys : List Y) (m : ℕ) → AllZip R xs ys
    → AllZip R (take m xs) (take m ys)
zip_take R xs ys zero all = tt
zip_take R [] [] (suc m) all = tt
zip_take R [] (y ∷ ys) (suc m) all = absurd all
zip_take R (x ∷ xs) [] (suc m) all = absurd all
zip_take R (x ∷ xs) (y ∷ ys) (suc m) all = (all.0, zip_take R xs ys m all.1)

-- what stands at the same place of the other
across : {X Y : Type 0} (R : X → Y → Type 0) (xs : List X) (ys : List Y) (k : ℕ) (x : X) → AllZip R xs ys → IsAt xs k x
    → (y : Y) × IsAt ys k y × R x y
across R [] ys k x all at = absurd cc
across R (a ∷ xs) [] k x all at = absurd all
across {X} R (a ∷ xs) (b ∷ ys) zero x all at =
    (b, refl, subst (λ (z : X). R z b) (same_at (a ∷ xs) 0 a x refl at) all.0)
across R (a ∷ xs) (b ∷ ys) (suc k) x all at = across R xs ys k x all.1 at

back : {X Y : Type 0} (R : X → Y → Type 0) (xs : List X) (ys : List Y) (k : ℕ) (y : Y) → AllZip R xs ys → IsAt ys k y
    → (x : X) × IsAt xs k x × R x y
back R [] [] k y all at = absurd cc
back R [] (b ∷ ys) k y all at = absurd all
back R (a ∷ xs) [] k y all at = absurd all
back {X} {Y} R (a ∷ xs) (b ∷ ys) zero y all at =
    (a, refl, subst (λ (z : Y). R a z) (same_at (b ∷ ys) 0 b y refl at) all.0)
back R (a ∷ xs) (b ∷ ys) (suc k) y all at = back R xs ys k y all.1 at

take_alike : (r q : ℕ) (one other : List Entry) (m : ℕ) → AreAlike r q one other
    → AreAlike r q (take m one) (take m other)
take_alike r q one other m are = record {
  entries = zip_take (IsLike r q) one other m are.entries;
  names = λ i j a b c d at_a at_b at_c at_d. are.names i j a b c d (in_take one m i a at_a).1 (in_take other m i b at_b).1 (in_take one m j c at_c).1 (in_take other m j d at_d).1;
}

filter_same : {X : Type 0} (f g : X → Bool) (xs : List X) → ((k : ℕ) (x : X) → IsAt xs k x → f x ≡ g x)
    → filter f xs ≡ filter g xs
filter_same f g [] same = refl
filter_same f g (x ∷ xs) same =
    ap₂ (λ (b : Bool) (l : List _). cond b (x ∷ l) l) (same 0 x refl) (filter_same f g xs (λ k y at. same (suc k) y at))

-- an answer like this one
answer_like : (r q t : ℕ) (x : OpId) (y : Answer) (e : Entry) → IsLike r q e (Answered t x y)
    → (id : OpId) × (answer : Answer) × (e ≡ Answered t id answer)
answer_like r q t x y (Called at id op) like = absurd like
answer_like r q t x y (Answered at id answer) like = (id, answer, ap (λ (s : ℕ). Answered s id answer) (sym like.0))

like_answer : (r q t : ℕ) (x : OpId) (y : Answer) (e : Entry) → IsLike r q (Answered t x y) e
    → (id : OpId) × (answer : Answer) × (e ≡ Answered t id answer)
like_answer r q t x y (Called at id op) like = absurd like
like_answer r q t x y (Answered at id answer) like = (id, answer, ap (λ (s : ℕ). Answered s id answer) like.0)

-- an answer before another is of an earlier event
earlier : (n registers : ℕ) (h : List Entry) → IsHistory n registers h → (i j : ℕ) (s t : ℕ) (a b : OpId) (x y : Answer)
    → IsAt h i (Answered s a x) → IsAt h j (Answered t b y) → i < j → s < t
earlier n registers h good i j s t a b x y at_i at_j lt =
    let may : MayAnswer (take j h) t b y = good j (Answered t b y) at_j in
    elim (may.later i (Answered s a x) (at_take h j i lt ∙ at_i)) [
      | inl less ↦ less
      | inr same ↦ absurd cc
    ]

-- of one event there is one answer
one_answer : (n registers : ℕ) (h : List Entry) → IsHistory n registers h
    → (i j : ℕ) (t : ℕ) (a b : OpId) (x y : Answer) → IsAt h i (Answered t a x) → IsAt h j (Answered t b y) → i ≡ j
one_answer n registers h good i j t a b x y at_i at_j = elim (cases_order i j) [
  | inl same ↦ same
  | inr (inl lt) ↦ absurd (let bad = earlier n registers h good i j t t a b x y at_i at_j lt in omega (arith, bad))
  | inr (inr gt) ↦ absurd (let bad = earlier n registers h good j i t t b a y x at_j at_i gt in omega (arith, bad))
]

module _ (n registers : ℕ) (h : List Entry) (good : IsHistory n registers h) where
  module _ (r count : ℕ) where
    is_on_front : (name : OpId) (s : ℕ) (op : Op) (k : ℕ) → IsAt (take count h) k (Called s name op) → is_on r (take count h) name ≡ is_on r h name
    is_on_front name s op k here = elim (cases_eq (register_of op) r) [
      | inl on ↦ on_register_is r (take count h) name (s, op, (k, here), on) ∙ sym (on_register_is r h name (s, op, (k, (in_take h count k (Called s name op) here).1), on))
      | inr off ↦
          off_register n registers (take count h) (history_front n registers h count good) r name s op (k, here) off
          ∙ sym (off_register n registers h good r name s op (k, (in_take h count k (Called s name op) here).1) off)
    ]

    of_front : (k : ℕ) (e : Entry) → IsAt (take count h) k e → is_of r (take count h) e ≡ is_of r h e
    of_front k (Called at id op) here = refl
    of_front k (Answered at id answer) here =
        let was = answered_was_called n registers (take count h) (history_front n registers h count good) id at answer (k, here) in
        is_on_front id was.0 was.1 was.2.0 was.2.1

    -- the part of the first entries is the first of the part
    part_front : part_at r (take count h) ≡ take (length (part_at r (take count h))) (part_at r h)
    part_front =
        let first : part_at r (take count h) ≡ filter (is_of r h) (take count h) = filter_same (is_of r (take count h)) (is_of r h) (take count h) of_front in
        let whole : part_at r h ≡ filter (is_of r h) (take count h) ++ filter (is_of r h) (drop count h) = ap (filter (is_of r h)) (sym (take-append-drop count h)) ∙ filter-append (is_of r h) (take count h) (drop count h) in
        first ∙ sym (ap (take (length (part_at r (take count h)))) whole ∙ take_at (filter (is_of r h) (take count h)) (filter (is_of r h) (drop count h)) (length (part_at r (take count h))) (ap length (sym first)))

    module _ (q : ℕ) (alone : List Entry) (alike : AreAlike r q (part_at r h) alone) where
      pub front_alike : AreAlike r q (part_at r (take count h)) (take (length (part_at r (take count h))) alone)
      front_alike = subst (λ (l : List Entry). AreAlike r q l (take (length (part_at r (take count h))) alone)) (sym part_front) (take_alike r q (part_at r h) alone (length (part_at r (take count h))) alike)

  module _ (r q also places : ℕ) (fits : r < registers) (fits_there : q < also) (alone : List Entry) (alike : AreAlike r q (part_at r h) alone) (alone_good : IsHistory places also alone) (place t : ℕ) (id : OpId) (answer : Answer) (here : IsAt h place (Answered t id answer)) where
    -- Before the answer: where the register has an order, or its first answer that none explains is of no earlier event.
    has_before : HasPointOrder also alone → HasPointOrder registers (part_at r (take place h))
    has_before order =
        let m = length (part_at r (take place h)) in
        order_there also registers q r (take m alone) (part_at r (take place h)) fits_there fits (turned_alike r q (part_at r (take place h)) (take m alone) (front_alike r place q alone alike)) (front_has places also alone alone_good m order)

    pub part_before : HasPointOrder also alone ⊎ IsLater also t alone → HasPointOrder registers (part_at r (take place h))
    part_before (inl order) = has_before order
    part_before (inr (spot, s, x, y, first, there, le)) =
        let m = length (part_at r (take place h)) in
        let alike_front = front_alike r place q alone alike in
        let short : m ≤ spot = elim (cases_order spot m) [ inl same ↦ omega (arith, same) | inr (inl lt) ↦ absurd (no lt) | inr (inr gt) ↦ omega (arith, gt) ] in
        let order : HasPointOrder also (take m alone) = subst (λ (l : List Entry). HasPointOrder also l) (take-take m spot alone short) (front_has places also (take spot alone) (history_front places also alone spot alone_good) m first.before) in
        order_there also registers q r (take m alone) (part_at r (take place h)) fits_there fits (turned_alike r q (part_at r (take place h)) (take m alone) alike_front) order
      where
        no : spot < length (part_at r (take place h)) → ⊥
        no lt =
            let m = length (part_at r (take place h)) in
            let found = back (IsLike r q) (part_at r (take place h)) (take m alone) spot (Answered s x y) (front_alike r place q alone alike).entries (at_take alone m spot lt ∙ there) in
            let is = answer_like r q s x y found.0 found.2 in
            let was = was_kept (is_of r (take place h)) (take place h) spot found.0 found.1 in
            let inside = in_take h place was.0.0 found.0 was.0.1 in
            let bad = earlier n registers h good was.0.0 place s t is.0 id is.1 answer (subst (IsAt h was.0.0) is.2 inside.1) here inside.0 in
            omega (arith, bad, le)

    -- up to the answer, where it is the first of the register that none explains
    pub none_up_to : (spot : ℕ) (x : OpId) (y : Answer) → IsFirstUnexplained also alone spot → IsAt alone spot (Answered t x y) → ¬ HasPointOrder registers (take (place + 1) h)
    none_up_to spot x y first there order =
        let m = length (part_at r (take (place + 1) h)) in
        let found = back (IsLike r q) (part_at r h) alone spot (Answered t x y) alike.entries there in
        let is = answer_like r q t x y found.0 found.2 in
        let was = was_kept (is_of r h) h spot found.0 found.1 in
        let same : was.0.0 ≡ place = one_answer n registers h good was.0.0 place t is.0 id is.1 answer (subst (IsAt h was.0.0) is.2 was.0.1) here in
        let lt : was.0.0 < place + 1 = omega (arith, same) in
        let in_front : IsAt (take (place + 1) h) was.0.0 found.0 = at_take h (place + 1) was.0.0 lt ∙ was.0.1 in
        let stays = kept (is_of r (take (place + 1) h)) (take (place + 1) h) was.0.0 found.0 in_front (of_front r (place + 1) was.0.0 found.0 in_front ∙ was.1) in
        let over = across (IsLike r q) (part_at r (take (place + 1) h)) (take m alone) stays.0 found.0 (front_alike r (place + 1) q alone alike).entries stays.1 in
        let like : IsLike r q (Answered t is.0 is.1) over.0 = subst (λ (e : Entry). IsLike r q e over.0) is.2 over.2 in
        let answered = like_answer r q t is.0 is.1 over.0 like in
        let at_spot : stays.0 ≡ spot = one_there stays.0 spot over.0 (in_take alone m stays.0 over.0 over.1).1 answered.0 answered.1 answered.2 there in
        let inside : stays.0 < m = within (part_at r (take (place + 1) h)) stays.0 found.0 stays.1 in
        let part = each_by_itself n registers (take (place + 1) h) (history_front n registers h (place + 1) good) order r fits in
        let there_too : HasPointOrder also (take m alone) = order_there registers also r q (part_at r (take (place + 1) h)) (take m alone) fits fits_there (front_alike r (place + 1) q alone alike) part in
        let shorter = front_has places also (take m alone) (history_front places also alone m alone_good) (spot + 1) there_too in
        first.none (subst (λ (l : List Entry). HasPointOrder also l) (take-take (spot + 1) m alone (omega (arith, inside, at_spot))) shorter)
      where
        one_there : (i j : ℕ) (e : Entry) → IsAt alone i e → (a : OpId) (b : Answer) → e ≡ Answered t a b → IsAt alone j (Answered t x y) → i ≡ j
        one_there i j e at_i a b is at_j = one_answer places also alone alone_good i j t a x b y (subst (IsAt alone i) is at_i) at_j
