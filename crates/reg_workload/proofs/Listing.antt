-- The choices, process by process.
use Rattle.std.proofs.Common.{◌≡◌, ℕ, zero, suc, ◌+◌, ◌<◌, ◌≤◌, Bool, true, false, List, [], ◌∷◌, ◌++◌, Option, Some}
use Rattle.std.proofs.Common.{None, refl, sym, ap, ◌∙◌, subst, inl, inr, arith, length, not, length-append, add-one}
use Rattle.std.specs.Prelude.{cond, nat_lt, slice_get, ◌%◌}
use Rattle.std.specs.List.{flat_map, range_with_len}
use Rattle.std.specs.Option.{is_some}
use Rattle.std.proofs.lemmas.Bool.{cond_both, cases_lt, lt-ltb, ltb-true, and_parts, and_from, false≢true}
use Rattle.std.proofs.lemmas.List.{append-nil}
use Rattle.std.proofs.lemmas.Option.{get_or_from_slice_get}
use Rattle.std.proofs.lemmas.Grind.{flat_map-append}
use Rattle.reg_workload.proofs.InOrder.{range_more}
use Rattle.reg_workload.specs.declared.choices.Choice.TheVariants.{Call as CallNext, Take as TakeNext, Tick as PutAgain}
use Rattle.reg_workload.specs.Seeded.{take_of, call_choice, take_choice, tick_choice, call_choices, take_choices_from}
use Rattle.reg_workload.specs.Seeded.{take_choices, tick_choices, choices_of, picked}
use Rattle.reg_base.specs.declared.memory.Op.{Op}
use Rattle.reg_front.specs.declared.starts.Start.{Start}
use Rattle.reg_workload.specs.declared.choices.Choice.{Choice}
use Rattle.reg_workload.specs.Plays.{Playing, may_call, next_frame, next_at, script_of, pending_at}
use Rattle.reg_workload.specs.PlayParts.{IsReadyToCall, IsChoice, AreChoices, AllStill}
use Rattle.reg_world.proofs.lists.Bodies.{place_first}

pub behind_at : {X : Type 0} (xs ys : List X) (k : ℕ) → slice_get (xs ++ ys) (length xs + k) ≡ slice_get ys k
behind_at [] ys k = let z : 0 + k ≡ k = omega arith in ap (slice_get ys) z
behind_at (x ∷ xs) ys k = let e : length (x ∷ xs) + k ≡ suc (length xs + k) = omega arith in ap (slice_get (x ∷ (xs ++ ys))) e ∙ behind_at xs ys k

-- the choices of one process more
flat_more : {X : Type 0} (f : ℕ → List X) (n : ℕ)
    → flat_map f (range_with_len 0 (n + 1)) ≡ flat_map f (range_with_len 0 n) ++ f n
flat_more f n = ap (flat_map f) (range_more 0 n n (omega arith)) ∙ (flat_map-append f (range_with_len 0 n) (n ∷ []) ∙ ap (λ l. flat_map f (range_with_len 0 n) ++ l) (append-nil (f n)))

pub flat_suc : {X : Type 0} (f : ℕ → List X) (n : ℕ)
    → flat_map f (range_with_len 0 (suc n)) ≡ flat_map f (range_with_len 0 n) ++ f n
flat_suc f n = ap (λ k. flat_map f (range_with_len 0 k)) (sym (add-one n)) ∙ flat_more f n

first_at : {X : Type 0} (f : ℕ → List X) (m n k : ℕ) (c : X) → m ≤ n
    → slice_get (flat_map f (range_with_len 0 m)) k ≡ Some c → slice_get (flat_map f (range_with_len 0 n)) k ≡ Some c
first_at f m zero k c l e =
    let z : zero ≡ m = omega (arith, l) in ap (λ j. slice_get (flat_map f (range_with_len 0 j)) k) z ∙ e
first_at f m (suc n) k c l e = elim (cases_lt n m) [
  | inl less ↦ let z : suc n ≡ m = omega (arith, l, less) in ap (λ j. slice_get (flat_map f (range_with_len 0 j)) k) z ∙ e
  | inr other ↦ ap (λ xs. slice_get xs k) (flat_suc f n) ∙ place_first (flat_map f (range_with_len 0 n)) (f n) k c (first_at f m n k c (omega (arith, other)) e)
]

-- a choice of one process stands after those of the processes before it
pub found_at : {X : Type 0} (f : ℕ → List X) (p n j k : ℕ) (c : X) → p < n
    → k ≡ length (flat_map f (range_with_len 0 p)) + j → slice_get (f p) j ≡ Some c
    → slice_get (flat_map f (range_with_len 0 n)) k ≡ Some c
found_at f p n j k c l e at = first_at f (p + 1) n k c (omega (arith, l))
    (ap (λ xs. slice_get xs k) (flat_more f p) ∙ (ap (slice_get (flat_map f (range_with_len 0 p) ++ f p)) e ∙ (behind_at (flat_map f (range_with_len 0 p)) (f p) j ∙ at)))

module _ (start : Op → ℕ → Start) (s : Playing) where
  pub takes_more : (n : ℕ)
      → length (take_choices start s (n + 1))
      ≡ length (take_choices start s n) + length (take_choices_from start s n s.made.processes)
  unfolding take_choices
  takes_more n = ap length (flat_more (λ from. take_choices_from start s from s.made.processes) n) ∙ length-append (take_choices start s n) (take_choices_from start s n s.made.processes)

  pub none_yet : length (take_choices start s 0) ≡ 0
  unfolding take_choices
  none_yet = refl

  pub take_found : (p n j k : ℕ) (c : Choice) → p < n → k ≡ length (take_choices start s p) + j
      → slice_get (take_choices_from start s p s.made.processes) j ≡ Some c
      → slice_get (take_choices start s n) k ≡ Some c
  unfolding take_choices
  take_found p n j k c l e at = found_at (λ from. take_choices_from start s from s.made.processes) p n j k c l e at

  -- calls come first, then takes, then ticks
  pub at_call : (k : ℕ) (c : Choice) → slice_get (call_choices start s s.made.processes) k ≡ Some c
      → slice_get (choices_of start s) k ≡ Some c
  unfolding choices_of
  at_call k c e = place_first (call_choices start s s.made.processes ++ take_choices start s s.made.processes) (tick_choices start s s.made.processes) k c (place_first (call_choices start s s.made.processes) (take_choices start s s.made.processes) k c e)

  pub at_take : (j k : ℕ) (c : Choice) → k ≡ length (call_choices start s s.made.processes) + j
      → slice_get (take_choices start s s.made.processes) j ≡ Some c → slice_get (choices_of start s) k ≡ Some c
  unfolding choices_of
  at_take j k c e at =
      let calls = call_choices start s s.made.processes in
      let takes = take_choices start s s.made.processes in
      place_first (calls ++ takes) (tick_choices start s s.made.processes) k c (ap (slice_get (calls ++ takes)) e ∙ (behind_at calls takes j ∙ at))

  pub at_tick : (i j k : ℕ) (o : Option Choice) → k ≡ length (call_choices start s s.made.processes) + j
      → j ≡ length (take_choices start s s.made.processes) + i → slice_get (tick_choices start s s.made.processes) i ≡ o
      → slice_get (choices_of start s) k ≡ o
  unfolding choices_of
  at_tick i j k o e f at =
      let calls = call_choices start s s.made.processes in
      let takes = take_choices start s s.made.processes in
      let ticks = tick_choices start s s.made.processes in
      let here : k ≡ length (calls ++ takes) + i = let a = length-append calls takes in omega (arith, a, e, f) in
      ap (slice_get ((calls ++ takes) ++ ticks)) here ∙ (behind_at (calls ++ takes) ticks i ∙ at)

  pub all_count : length (choices_of start s)
      ≡ (length (call_choices start s s.made.processes) + length (take_choices start s s.made.processes)) + length
      (tick_choices start s s.made.processes)
  unfolding choices_of
  all_count =
      let calls = call_choices start s s.made.processes in
      let takes = take_choices start s s.made.processes in
      let ticks = tick_choices start s s.made.processes in
      let a = length-append (calls ++ takes) ticks in let b = length-append calls takes in omega (arith, a, b)

  -- Each of them can happen.
  abbrev Every : {X : Type 0} → (X → Type 0) → List X → Type 0
  Every P xs = (k : ℕ) (c : _) → slice_get xs k ≡ Some c → P c

  every_none : {X : Type 0} (P : X → Type 0) → Every P []
  every_none P k c e = absurd (cc)

  every_one : {X : Type 0} (P : X → Type 0) (x : X) → P x → Every P (x ∷ [])
  every_one P x p zero c e = let z : x ≡ c = cc in subst P z p
  every_one P x p (suc k) c e = absurd (cc)

  every_both : {X : Type 0} (P : X → Type 0) (xs ys : List X) → Every P xs → Every P ys → Every P (xs ++ ys)
  every_both P [] ys hx hy k c e = hy k c e
  every_both P (x ∷ xs) ys hx hy zero c e = hx zero c e
  every_both P (x ∷ xs) ys hx hy (suc k) c e = every_both P xs ys (λ i d q. hx (suc i) d q) hy k c e

  every_flat : {X : Type 0} (P : X → Type 0) (f : ℕ → List X) (n : ℕ) → ((i : ℕ) → i < n → Every P (f i)) → Every P (flat_map f (range_with_len 0 n))
  every_flat P f zero h = every_none P
  every_flat P f (suc n) h = subst (Every P) (sym (flat_suc f n)) (every_both P (flat_map f (range_with_len 0 n)) (f n) (every_flat P f n (λ i l. h i (omega (arith, l)))) (h n (omega arith)))

  may : (p : ℕ) → may_call start s p ≡ true → IsReadyToCall start s p
  may p e =
      let b = and_parts (nat_lt (next_at s p) (length (script_of s.scripts p))) _ e in
      record { idle = free _ b.1; left = ltb-true (next_at s p) (length (script_of s.scripts p)) b.0 }
    where
      free : {X : Type 0} (o : Option X) → not (is_some o) ≡ true → o ≡ None
      free None h = refl
      free (Some x) h = absurd (false≢true h)

  pub choices_are : AreChoices start s (choices_of start s)
  unfolding choices_of call_choices take_choices take_choices_from tick_choices
  choices_are =
      let n = s.made.processes in
      let P = IsChoice start s in
      every_both P (call_choices start s n ++ take_choices start s n) (tick_choices start s n)
      (every_both P (call_choices start s n) (take_choices start s n)
      (every_flat P (call_choice start s) n (λ p l. cond_both (may_call start s p) (CallNext p ∷ []) [] (Every P) (λ e. every_one P (CallNext p) (l, may p e)) (λ _. every_none P)))
      (every_flat P (λ from. take_choices_from start s from n) n (λ from lf. every_flat P (take_choice start s from) n (λ to lt. taken from to lf lt (next_frame start s from to) refl))))
      (every_flat P (tick_choice start s) n (λ p l. cond_both (nat_lt 0 (pending_at start s p)) (PutAgain p ∷ []) [] (Every P) (λ _. every_one P (PutAgain p) l) (λ _. every_none P)))
    where
      taken : (from to : ℕ) → from < s.made.processes → to < s.made.processes → (o : Option ℕ) → next_frame start s from to ≡ o → Every (IsChoice start s) (take_of from to o)
      taken from to lf lt None e = every_none (IsChoice start s)
      taken from to lf lt (Some number) e = every_one (IsChoice start s) (TakeNext from to number) (lf, lt, e)

  -- Where there is none, nothing can happen.
  empty_parts : {X : Type 0} (xs ys : List X) → xs ++ ys ≡ [] → (xs ≡ []) × (ys ≡ [])
  empty_parts [] ys e = (refl, e)
  empty_parts (x ∷ xs) ys e = absurd (cc)

  flat_none : {X : Type 0} (f : ℕ → List X) (n p : ℕ) → flat_map f (range_with_len 0 n) ≡ [] → p < n → f p ≡ []
  flat_none f zero p e l = absurd (omega (arith, l))
  flat_none f (suc n) p e l =
      let r = empty_parts (flat_map f (range_with_len 0 n)) (f n) (sym (flat_suc f n) ∙ e) in
      elim (cases_lt p n) [
        | inl less ↦ flat_none f n p r.0 less
        | inr other ↦ let z : p ≡ n = omega (arith, l, other) in ap f z ∙ r.1
      ]

  none_if : {X : Type 0} (b : Bool) (c : X) → cond b (c ∷ []) [] ≡ [] → b ≡ false
  none_if true c e = absurd (cc)
  none_if false c e = refl

  pub all_still : choices_of start s ≡ [] → AllStill start s
  unfolding choices_of call_choices tick_choices
  all_still e p l =
      let n = s.made.processes in
      let a = empty_parts (call_choices start s n ++ take_choices start s n) (tick_choices start s n) e in
      let b = empty_parts (call_choices start s n) (take_choices start s n) a.0 in
      record {
        no_call = λ m. false≢true (sym (none_if (may_call start s p) (CallNext p) (flat_none (call_choice start s) n p b.0 l)) ∙ and_from _ _ (lt-ltb (next_at s p) (length (script_of s.scripts p)) m.left) (ap (λ o. not (is_some o)) m.idle));
        nothing_pending = zero_is (pending_at start s p) (none_if (nat_lt 0 (pending_at start s p)) (PutAgain p) (flat_none (tick_choice start s) n p a.1 l));
      }
    where
      zero_is : (k : ℕ) → nat_lt 0 k ≡ false → k ≡ 0
      zero_is zero e = refl
      zero_is (suc k) e = absurd (false≢true (sym e ∙ lt-ltb 0 (suc k) (omega arith)))

-- the choice of a word
pub picked_at : (cs : List Choice) (word : ℕ) (c : Choice) → slice_get cs (word % length cs) ≡ Some c
    → picked cs word ≡ Some c
picked_at [] word c e = absurd (cc)
picked_at (x ∷ xs) word c e = ap Some (get_or_from_slice_get (x ∷ xs) (word % length (x ∷ xs)) c x e)
