-- Reading as many lines as a count announces.
use Rattle.std.proofs.Common.{ℕ, zero, suc, ◌≡◌, ◌+◌, ◌<◌, ◌≤◌, ◌⊎◌, inl, inr, List, [], ◌∷◌, ◌++◌, length, map, take}
use Rattle.std.proofs.Common.{drop, Some, slice_get, refl, sym, ap, subst, ◌∙◌, arith, append_assoc, append-nil}
use Rattle.std.proofs.Common.{length-append}
use Rattle.std.proofs.lemmas.List.{map-append}
use Rattle.reg_text.specs.Lines.{AllFit}
use Rattle.reg_text.specs.Reading.{IsBlock}

-- what a loop over such lines keeps: these were read, and whatever the block is, it begins with them
pub record Taken {X : Type 0} (line_of : X → List ℕ) (Fits : List X → X → Type 0) (n : ℕ) (old now : List (List ℕ)) (xs : List X) (i : ℕ) : Type 0 where
  pub lines : old ≡ map line_of xs ++ now
  pub fit : AllFit Fits xs
  pub count : length xs ≡ i
  pub only : (ys : List X) (rest : List (List ℕ)) → IsBlock line_of Fits n old rest ys
      → (xs ≡ take i ys) × (now ≡ map line_of (drop i ys) ++ rest)

pub begins : {X : Type 0} (line_of : X → List ℕ) (Fits : List X → X → Type 0) (n : ℕ) (old : List (List ℕ))
    → Taken line_of Fits n old old [] 0
begins line_of Fits n old =
    record { lines = refl; fit = λ k x h. absurd (cc); count = refl; only = λ ys rest b. (refl, b.lines) }

record Turn {X : Type 0} (ys : List X) (i : ℕ) : Type 0 where
  item : X
  here : slice_get ys i ≡ Some item
  left : drop i ys ≡ item ∷ drop (suc i) ys
  front : take (suc i) ys ≡ take i ys ++ item ∷ []

turn : {X : Type 0} (ys : List X) (i : ℕ) → i < length ys → Turn ys i
turn [] i h = absurd (omega arith)
turn (y ∷ ys) zero h = record { item = y; here = refl; left = refl; front = refl }
turn (y ∷ ys) (suc i) h =
    let t = turn ys i (omega arith) in
    record { item = t.item; here = t.here; left = t.left; front = ap (λ l. y ∷ l) t.front }

pushed : {X : Type 0} (xs : List X) (x : X) (k : ℕ) (y : X) → slice_get (xs ++ x ∷ []) k ≡ Some y
    → ((slice_get xs k ≡ Some y) × (take k (xs ++ x ∷ []) ≡ take k xs)) ⊎ ((y ≡ x) × (take k (xs ++ x ∷ []) ≡ xs))
pushed [] x zero y h = let e : y ≡ x = cc in inr (e, refl)
pushed [] x (suc k) y h = absurd (cc)
pushed (z ∷ xs) x zero y h = inl (h, refl)
pushed (z ∷ xs) x (suc k) y h = elim (pushed xs x k y h) [
  | inl a ↦ inl (a.0, ap (λ l. z ∷ l) a.1)
  | inr b ↦ inr (b.0, ap (λ l. z ∷ l) b.1)
]

fit_more : {X : Type 0} (Fits : List X → X → Type 0) (xs : List X) (x : X) → AllFit Fits xs → Fits xs x
    → AllFit Fits (xs ++ x ∷ [])
fit_more {X} Fits xs x all new = λ k y h. elim (pushed xs x k y h) [
  | inl a ↦ let P : List X → Type 0 = λ l. Fits l y in subst P (sym a.1) (all k y a.0)
  | inr b ↦ let P : List X → Type 0 = λ l. Fits l y in let Q : X → Type 0 = λ z. Fits xs z in subst P (sym b.1) (subst Q (sym b.0) new)
]

-- the next line of a block
record Next {X : Type 0} (line_of : X → List ℕ) (Fits : List X → X → Type 0) (ys : List X) (rest : List (List ℕ)) (xs : List X) (i : ℕ) (now : List (List ℕ)) : Type 0 where
  item : X
  fits : Fits xs item
  now_is : now ≡ line_of item ∷ (map line_of (drop (suc i) ys) ++ rest)
  front : take (suc i) ys ≡ xs ++ item ∷ []

next : {X : Type 0} (line_of : X → List ℕ) (Fits : List X → X → Type 0) (n : ℕ) (old now : List (List ℕ)) (xs : List X)
    (i : ℕ)
    → i < n → Taken line_of Fits n old now xs i
    → (ys : List X) (rest : List (List ℕ)) → IsBlock line_of Fits n old rest ys → Next line_of Fits ys rest xs i now
next {X} line_of Fits n old now xs i l t ys rest b =
    let o = t.only ys rest b in
    let w = turn ys i (omega (arith, b.count)) in
    let P : List X → Type 0 = λ z. Fits z w.item in
    record {
      item = w.item;
      fits = subst P (sym o.0) (b.fit i w.item w.here);
      now_is = o.1 ∙ ap (λ z. map line_of z ++ rest) w.left;
      front = w.front ∙ ap (λ z. z ++ w.item ∷ []) (sym o.0);
    }

pub steps : {X : Type 0} (line_of : X → List ℕ) (Fits : List X → X → Type 0) (n : ℕ) (old now : List (List ℕ))
    (xs : List X) (i : ℕ)
    → i < n → Taken line_of Fits n old now xs i
    → (line : List ℕ) (after : List (List ℕ)) (x : X) → now ≡ line ∷ after → line ≡ line_of x → Fits xs x → ((y : X) → Fits xs y → line ≡ line_of y → x ≡ y)
    → Taken line_of Fits n old after (xs ++ x ∷ []) (i + 1)
steps {X} line_of Fits n old now xs i l t line after x e same fits alone =
    let up : i + 1 ≡ suc i = omega arith in
    record {
      lines = t.lines ∙ ap (λ z. map line_of xs ++ z) (e ∙ ap (λ z. z ∷ after) same) ∙ sym (append_assoc (map line_of xs) (line_of x ∷ []) after) ∙ ap (λ z. z ++ after) (sym (map-append line_of xs (x ∷ [])));
      fit = fit_more Fits xs x t.fit fits;
      count = length-append xs (x ∷ []) ∙ ap (λ k. k + 1) t.count;
      only = λ ys rest b.
          let w = next line_of Fits n old now xs i l t ys rest b in
          let both : line ∷ after ≡ line_of w.item ∷ (map line_of (drop (suc i) ys) ++ rest) = sym e ∙ w.now_is in
          let first : line ≡ line_of w.item = cc in
          let others : after ≡ map line_of (drop (suc i) ys) ++ rest = cc in
          let it : x ≡ w.item = alone w.item w.fits first in
          (ap (λ z. xs ++ z ∷ []) it ∙ sym w.front ∙ ap (λ j. take j ys) (sym up), others ∙ ap (λ j. map line_of (drop j ys) ++ rest) (sym up));
    }

pub ended : {X : Type 0} (line_of : X → List ℕ) (Fits : List X → X → Type 0) (n : ℕ) (old now : List (List ℕ))
    (xs : List X) (i : ℕ)
    → i < n → Taken line_of Fits n old now xs i → now ≡ []
    → (ys : List X) (rest : List (List ℕ)) → IsBlock line_of Fits n old rest ys → ⊥
ended line_of Fits n old now xs i l t e ys rest b =
    let w = next line_of Fits n old now xs i l t ys rest b in
    let both : [] ≡ line_of w.item ∷ (map line_of (drop (suc i) ys) ++ rest) = sym e ∙ w.now_is in
    absurd (cc)

pub refused : {X : Type 0} (line_of : X → List ℕ) (Fits : List X → X → Type 0) (n : ℕ) (old now : List (List ℕ))
    (xs : List X) (i : ℕ)
    → i < n → Taken line_of Fits n old now xs i
    → (line : List ℕ) (after : List (List ℕ)) → now ≡ line ∷ after → ((y : X) → Fits xs y → line ≡ line_of y → ⊥)
    → (ys : List X) (rest : List (List ℕ)) → IsBlock line_of Fits n old rest ys → ⊥
refused line_of Fits n old now xs i l t line after e none ys rest b =
    let w = next line_of Fits n old now xs i l t ys rest b in
    let both : line ∷ after ≡ line_of w.item ∷ (map line_of (drop (suc i) ys) ++ rest) = sym e ∙ w.now_is in
    let first : line ≡ line_of w.item = cc in
    none w.item w.fits first

take_whole : {X : Type 0} (ys : List X) → take (length ys) ys ≡ ys
take_whole [] = refl
take_whole (y ∷ ys) = ap (λ l. y ∷ l) (take_whole ys)

drop_whole : {X : Type 0} (ys : List X) → drop (length ys) ys ≡ []
drop_whole [] = refl
drop_whole (y ∷ ys) = drop_whole ys

pub all_read : {X : Type 0} (line_of : X → List ℕ) (Fits : List X → X → Type 0) (n : ℕ) (old now : List (List ℕ))
    (xs : List X)
    → Taken line_of Fits n old now xs n → IsBlock line_of Fits n old now xs
all_read line_of Fits n old now xs t = record { lines = t.lines; fit = t.fit; count = t.count }

pub only_read : {X : Type 0} (line_of : X → List ℕ) (Fits : List X → X → Type 0) (n : ℕ) (old now : List (List ℕ))
    (xs : List X)
    → Taken line_of Fits n old now xs n
    → (ys : List X) (rest : List (List ℕ)) → IsBlock line_of Fits n old rest ys → (xs ≡ ys) × (now ≡ rest)
only_read line_of Fits n old now xs t ys rest b =
    let o = t.only ys rest b in
    (o.0 ∙ ap (λ k. take k ys) (sym b.count) ∙ take_whole ys, o.1 ∙ ap (λ k. map line_of (drop k ys) ++ rest) (sym b.count) ∙ ap (λ z. map line_of z ++ rest) (drop_whole ys))

-- what a loop over all the lines that are left keeps
pub record Gathered {X : Type 0} (line_of : X → List ℕ) (Fits : List X → X → Type 0) (old now : List (List ℕ)) (xs : List X) (i : ℕ) : Type 0 where
  pub lines : old ≡ map line_of xs ++ now
  pub fit : AllFit Fits xs
  pub count : length xs ≡ i
  pub only : (ys : List X) → AllFit Fits ys → old ≡ map line_of ys → (xs ≡ take i ys) × (now ≡ map line_of (drop i ys))

pub gathers : {X : Type 0} (line_of : X → List ℕ) (Fits : List X → X → Type 0) (old : List (List ℕ))
    → Gathered line_of Fits old old [] 0
gathers line_of Fits old =
    record { lines = refl; fit = λ k x h. absurd (cc); count = refl; only = λ ys fit e. (refl, e) }

-- the next of them, where a line is left
record Nearest {X : Type 0} (line_of : X → List ℕ) (Fits : List X → X → Type 0) (ys : List X) (xs : List X) (i : ℕ) (line : List ℕ) (after : List (List ℕ)) : Type 0 where
  item : X
  fits : Fits xs item
  first : line ≡ line_of item
  others : after ≡ map line_of (drop (suc i) ys)
  front : take (suc i) ys ≡ xs ++ item ∷ []

some_left : {X : Type 0} (line_of : X → List ℕ) (ys : List X) (i : ℕ) (line : List ℕ) (after : List (List ℕ))
    → line ∷ after ≡ map line_of (drop i ys) → i < length ys
some_left line_of [] zero line after e = absurd (cc)
some_left line_of [] (suc i) line after e = absurd (cc)
some_left line_of (y ∷ ys) zero line after e = omega arith
some_left line_of (y ∷ ys) (suc i) line after e = omega (arith, some_left line_of ys i line after e)

nearest : {X : Type 0} (line_of : X → List ℕ) (Fits : List X → X → Type 0) (old now : List (List ℕ)) (xs : List X)
    (i : ℕ)
    → Gathered line_of Fits old now xs i
    → (line : List ℕ) (after : List (List ℕ)) → now ≡ line ∷ after → (ys : List X) → AllFit Fits ys → old ≡ map line_of ys → Nearest line_of Fits ys xs i line after
nearest {X} line_of Fits old now xs i t line after e ys fit f =
    let o = t.only ys fit f in
    let w = turn ys i (some_left line_of ys i line after (sym e ∙ o.1)) in
    let P : List X → Type 0 = λ z. Fits z w.item in
    let both : line ∷ after ≡ line_of w.item ∷ map line_of (drop (suc i) ys) = sym e ∙ o.1 ∙ ap (map line_of) w.left in
    record {
      item = w.item;
      fits = subst P (sym o.0) (fit i w.item w.here);
      first = cc;
      others = cc;
      front = w.front ∙ ap (λ z. z ++ w.item ∷ []) (sym o.0);
    }

pub gathers_one : {X : Type 0} (line_of : X → List ℕ) (Fits : List X → X → Type 0) (old now : List (List ℕ))
    (xs : List X) (i : ℕ)
    → Gathered line_of Fits old now xs i
    → (line : List ℕ) (after : List (List ℕ)) (x : X) → now ≡ line ∷ after → line ≡ line_of x → Fits xs x → ((y : X) → Fits xs y → line ≡ line_of y → x ≡ y)
    → Gathered line_of Fits old after (xs ++ x ∷ []) (i + 1)
gathers_one {X} line_of Fits old now xs i t line after x e same fits alone =
    let up : i + 1 ≡ suc i = omega arith in
    record {
      lines = t.lines ∙ ap (λ z. map line_of xs ++ z) (e ∙ ap (λ z. z ∷ after) same) ∙ sym (append_assoc (map line_of xs) (line_of x ∷ []) after) ∙ ap (λ z. z ++ after) (sym (map-append line_of xs (x ∷ [])));
      fit = fit_more Fits xs x t.fit fits;
      count = length-append xs (x ∷ []) ∙ ap (λ k. k + 1) t.count;
      only = λ ys fit f.
          let w = nearest line_of Fits old now xs i t line after e ys fit f in
          let it : x ≡ w.item = alone w.item w.fits w.first in
          (ap (λ z. xs ++ z ∷ []) it ∙ sym w.front ∙ ap (λ j. take j ys) (sym up), w.others ∙ ap (λ j. map line_of (drop j ys)) (sym up));
    }

pub gathers_none : {X : Type 0} (line_of : X → List ℕ) (Fits : List X → X → Type 0) (old now : List (List ℕ))
    (xs : List X) (i : ℕ)
    → Gathered line_of Fits old now xs i
    → (line : List ℕ) (after : List (List ℕ)) → now ≡ line ∷ after → ((y : X) → Fits xs y → line ≡ line_of y → ⊥)
    → (ys : List X) → AllFit Fits ys → old ≡ map line_of ys → ⊥
gathers_none line_of Fits old now xs i t line after e none ys fit f =
    let w = nearest line_of Fits old now xs i t line after e ys fit f in
    none w.item w.fits w.first

pub gathers_more : {X : Type 0} (line_of : X → List ℕ) (Fits : List X → X → Type 0) (old now : List (List ℕ))
    (xs : List X) (i : ℕ)
    → Gathered line_of Fits old now xs i
    → (line : List ℕ) (after : List (List ℕ)) → now ≡ line ∷ after → (ys : List X) → AllFit Fits ys → length ys ≤ i → old ≡ map line_of ys → ⊥
gathers_more line_of Fits old now xs i t line after e ys fit few f =
    let o = t.only ys fit f in
    let within : i < length ys = some_left line_of ys i line after (sym e ∙ o.1) in
    omega (arith, within, few)

none_left : {X : Type 0} (line_of : X → List ℕ) (ys : List X) (i : ℕ) → [] ≡ map line_of (drop i ys) → take i ys ≡ ys
none_left line_of [] zero e = refl
none_left line_of [] (suc i) e = refl
none_left line_of (y ∷ ys) zero e = absurd (cc)
none_left line_of (y ∷ ys) (suc i) e = ap (λ l. y ∷ l) (none_left line_of ys i e)

pub all_gathered : {X : Type 0} (line_of : X → List ℕ) (Fits : List X → X → Type 0) (old now : List (List ℕ))
    (xs : List X) (i : ℕ)
    → Gathered line_of Fits old now xs i → now ≡ []
    → (old ≡ map line_of xs) × ((ys : List X) → AllFit Fits ys → old ≡ map line_of ys → xs ≡ ys)
all_gathered line_of Fits old now xs i t e = (
  t.lines ∙ ap (λ z. map line_of xs ++ z) e ∙ append-nil (map line_of xs),
  λ ys fit f. let o = t.only ys fit f in o.0 ∙ none_left line_of ys i (sym e ∙ o.1),
)
