-- The first items of an array, read one after another.
use Rattle.std.proofs.Common.{◌≡◌, ℕ, zero, suc, ◌+◌, ◌<◌, ◌≤◌, Bool, true, List, [], ◌∷◌, ◌++◌, length, map, take}
use Rattle.std.proofs.Common.{get_or, Some, slice_get, refl, sym, ap, subst, ◌∙◌, arith, inl, inr}
use Rattle.std.proofs.lemmas.Bool.{cases_Bool}
use Rattle.std.proofs.lemmas.List.{map-append, length-map, take-map, take_more, take_all, get_or-map}
use Rattle.std.proofs.lemmas.List.Folds.{list_all_at}
use Rattle.std.proofs.lemmas.Option.{slice_get-get_or}
use Rattle.std.specs.List.{list_all}
use Rattle.toml.specs.Data.{Data, string, array}
use Rattle.toml.specs.View.{view, items_of}
use Rattle.toml.specs.declared.value.Value.{Value}
use Rattle.reg_base.specs.declared.memory.Op.{Op}
use Rattle.reg_base.specs.declared.limits.TheConstants.{MOST_OPERATIONS}
use Rattle.reg_text.specs.Lines.{AllFit}
use Rattle.reg_text.specs.Ops.{op_text, OpFits}
use Rattle.reg_inputs.specs.Loads.{IsScript, op_data, script_data}
use Rattle.reg_inputs.specs.Judged.{IsFirstWrong, IsFirstRefused}

-- the first n values are these, each fit
pub record Spelled {X : Type 0} (spell : X → Data) (Fits : X → Type 0) (vs : List Value) (n : ℕ) (xs : List X) : Type 0 where
  pub within : n ≤ length vs
  pub before : map view (take n vs) ≡ map spell xs
  pub known : AllFit (λ _ x. Fits x) xs
  pub only : (ys : List X) → AllFit (λ _ y. Fits y) ys → map view vs ≡ map spell ys → xs ≡ take n ys

pub spelled_none : {X : Type 0} (spell : X → Data) (Fits : X → Type 0) (vs : List Value) → Spelled spell Fits vs 0 []
spelled_none spell Fits vs =
    record { within = omega arith; before = refl; known = λ k x e. absurd (cc); only = λ ys f e. refl }

one_more : {X : Type 0} (P : X → Type 0) (xs : List X) (x : X) → ((k : ℕ) (y : X) → slice_get xs k ≡ Some y → P y) → P x
    → (k : ℕ) (y : X) → slice_get (xs ++ x ∷ []) k ≡ Some y → P y
one_more P [] x h p zero y e = let z : x ≡ y = cc in subst P z p
one_more P [] x h p (suc k) y e = absurd (cc)
one_more P (z ∷ xs) x h p zero y e = h zero y e
one_more P (z ∷ xs) x h p (suc k) y e = one_more P xs x (λ i d q. h (suc i) d q) p k y e

-- what the n-th value spells is the n-th of all that the values spell
nth_only : {X : Type 0} (spell : X → Data) (Fits : X → Type 0) (vs : List Value) (n : ℕ) (v : Value) (x : X)
    (ys : List X)
    → n < length vs → v ≡ get_or vs n v → ((y : X) → Fits y → view v ≡ spell y → x ≡ y) → AllFit (λ _ y. Fits y) ys → map view vs ≡ map spell ys → x ≡ get_or ys n x
nth_only spell Fits vs n v x ys h at one fit e =
    let count : length vs ≡ length ys = sym (length-map vs view) ∙ ap length e ∙ length-map ys spell in
    let less : n < length ys = omega arith in
    let here : slice_get ys n ≡ Some (get_or ys n x) = slice_get-get_or ys n x less in
    let same : view v ≡ spell (get_or ys n x) =
    ap view at ∙ sym (get_or-map view vs n v (view v) h) ∙ ap (λ l. get_or l n (view v)) e ∙ get_or-map spell ys n x (view v) less in
    one (get_or ys n x) (fit n (get_or ys n x) here) same

pub spelled_more : {X : Type 0} (spell : X → Data) (Fits : X → Type 0) (vs : List Value) (n : ℕ) (xs ys : List X)
    (v : Value) (x : X)
    → n < length vs → v ≡ get_or vs n v → view v ≡ spell x → Fits x → ((y : X) → Fits y → view v ≡ spell y → x ≡ y) → ys ≡ xs ++ x ∷ [] → Spelled spell Fits vs n xs → Spelled spell Fits vs (n + 1) ys
spelled_more {X} spell Fits vs n xs ys v x h at is fits one e s =
    let more : map view (take (n + 1) vs) ≡ map view (take n vs) ++ view (get_or vs n v) ∷ [] =
    ap (map view) (take_more vs n v h) ∙ map-append view (take n vs) (get_or vs n v ∷ []) in
    let end : view (get_or vs n v) ≡ spell x = ap view (sym at) ∙ is in
    let P : List X → Type 0 = λ l. Spelled spell Fits vs (n + 1) l in
    subst P (sym e) (record {
      within = omega arith;
      before = more ∙ ap (λ l. l ++ view (get_or vs n v) ∷ []) s.before ∙ ap (λ d. map spell xs ++ d ∷ []) end ∙ sym (map-append spell xs (x ∷ []));
      known = one_more Fits xs x s.known fits;
      only = λ zs f e.
          let count : length vs ≡ length zs = sym (length-map vs view) ∙ ap length e ∙ length-map zs spell in
          let more : take (n + 1) zs ≡ take n zs ++ get_or zs n x ∷ [] = take_more zs n x (omega arith) in
          let last = nth_only spell Fits vs n v x zs h at one f e in
          let front = s.only zs f e in
          let P : X → Type 0 = λ z. xs ++ x ∷ [] ≡ take n zs ++ z ∷ [] in
          subst P last (ap (λ l. l ++ x ∷ []) front) ∙ sym more;
    })

pub spelled_only : {X : Type 0} (spell : X → Data) (Fits : X → Type 0) (vs : List Value) (n : ℕ) (xs ys : List X)
    → length vs ≤ n → Spelled spell Fits vs n xs → AllFit (λ _ y. Fits y) ys → map view vs ≡ map spell ys → xs ≡ ys
spelled_only spell Fits vs n xs ys h s f e =
    let count : length vs ≡ length ys = sym (length-map vs view) ∙ ap length e ∙ length-map ys spell in
    s.only ys f e ∙ take_all n ys (omega arith)

pub spelled_all : {X : Type 0} (spell : X → Data) (Fits : X → Type 0) (vs : List Value) (n : ℕ) (xs : List X)
    → length vs ≤ n → Spelled spell Fits vs n xs → map view vs ≡ map spell xs
spelled_all spell Fits vs n xs h s = ap (map view) (sym (take_all n vs h)) ∙ s.before

pub first_wrong : (names : List (List ℕ)) (vs : List Value) (n : ℕ) (ops : List Op) (v : Value) → n < length vs
    → v ≡ get_or vs n v
    → ((op : Op) → OpFits names op → view v ≡ string (op_text names op) → ⊥) → Spelled (op_data names) (OpFits names) vs n ops → IsFirstWrong names (map view vs) n
first_wrong names vs n ops v h at wrong s =
    let few : length (map view vs) ≡ length vs = length-map vs view in
    let here : slice_get (map view vs) n ≡ Some (view v) =
    slice_get-get_or (map view vs) n (view v) (omega arith) ∙ ap Some (get_or-map view vs n v (view v) h ∙ ap view (sym at)) in
    record {
      within = omega arith;
      ops = ops;
      known = s.known;
      before = take-map view n vs ∙ s.before;
      wrong = λ op fits e. wrong op fits (cc);
    }

passes_at : {X : Type 0} (p : X → Bool) (xs : List X) (n : ℕ) (x : X) → n < length xs → x ≡ get_or xs n x
    → list_all p xs ≡ true → p x ≡ true
passes_at p xs n x h at all =
    elim (cases_Bool (p (get_or xs n x))) [
      | inl good ↦ ap p at ∙ good
      | inr bad ↦ let none = list_all_at p xs n x h bad in absurd (cc)
    ]

pub script_at : (p : Data → Bool) (vs : List Value) (n : ℕ) (v : Value) → n < length vs → v ≡ get_or vs n v
    → list_all (λ w. p (view w)) vs ≡ true → p (view v) ≡ true
script_at p vs n v h at all = passes_at (λ w. p (view w)) vs n v h at all

pub first_refused : (names : List (List ℕ)) (vs : List Value) (n place : ℕ) (scripts : List (List Op)) (v : Value)
    (lines : List Value)
    → n < length vs → v ≡ get_or vs n v
    → view v ≡ array (items_of (map view lines)) → IsFirstWrong names (map view lines) place → Spelled (script_data names) (IsScript names) vs n scripts → IsFirstRefused names (map view vs) n place
first_refused names vs n place scripts v lines h at is wrong s =
    let few : length (map view vs) ≡ length vs = length-map vs view in
    record {
      scripts = scripts;
      known = s.known;
      before = take-map view n vs ∙ s.before;
      script = map view lines;
      at = slice_get-get_or (map view vs) n (view v) (omega arith) ∙ ap Some (get_or-map view vs n v (view v) h ∙ ap view (sym at) ∙ is);
      first = wrong;
    }

pub script_is_read : (names : List (List ℕ)) (vs : List Value) (n : ℕ) (ops : List Op) → length vs ≤ n
    → length vs ≤ MOST_OPERATIONS → Spelled (op_data names) (OpFits names) vs n ops
    → (map view vs ≡ map (op_data names) ops) × IsScript names ops
script_is_read names vs n ops h few s =
    let all = spelled_all (op_data names) (OpFits names) vs n ops h s in
    let same : length vs ≡ length ops = sym (length-map vs view) ∙ ap length all ∙ length-map ops (op_data names) in
    (all, record { few = omega arith; known = s.known })
