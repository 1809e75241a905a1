-- What a turn of a seeded play does.
use Rattle.std.proofs.Common.{◌≡◌, ℕ, zero, suc, ◌+◌, ◌≤◌, List, [], ◌∷◌, length, Option, Some, None, refl, sym, ap}
use Rattle.std.proofs.Common.{◌∙◌, inl, inr, arith}
use Rattle.std.specs.Prelude.{◌⊎◌, slice_index_or, slice_set}
use Rattle.std.proofs.lemmas.Bool.{cond_both}
use Rattle.reg_base.specs.declared.memory.Op.{Op}
use Rattle.reg_front.specs.declared.starts.Start.{Start}
use Rattle.reg_process.specs.declared.events.Event.TheVariants.{Take}
use Rattle.reg_workload.specs.declared.choices.Choice.{Choice}
use Rattle.reg_workload.specs.declared.choices.Choice.TheVariants.{Call as CallNext, Take as TakeNext, Tick as PutAgain}
use Rattle.reg_workload.specs.Plays.{Playing, cursor_at, steps, makes, passes}
use Rattle.reg_workload.specs.PlayParts.{GoesOn, Turns}
use Rattle.reg_workload.specs.Seeded.{choices_of, picked, takes_next, chooses, turns_by, turn, turns}
use Rattle.reg_base.specs.Words.{says}

-- one step more
pub steps_more : {S : Type 0} (step : ℕ → S → S) (n : ℕ) (s : S) → steps step (n + 1) s ≡ step n (steps step n s)
steps_more step n s = let e : n + 1 ≡ suc n = omega arith in ap (λ k. steps step k s) e

-- steps that change nothing any more
pub steps_stay : {S : Type 0} (step : ℕ → S → S) (k n : ℕ) (s t : S) → steps step k s ≡ t → k ≤ n
    → ((j : ℕ) → step j t ≡ t) → steps step n s ≡ t
steps_stay step k zero s t e l still = let z : k ≡ 0 = omega (arith, l) in ap (λ i. steps step i s) (sym z) ∙ e
steps_stay step k (suc n) s t e l still = elim (last k n l) [
  | inl z ↦ ap (λ i. steps step i s) (sym z) ∙ e
  | inr less ↦ ap (step n) (steps_stay step k n s t e less still) ∙ still n
]
  where
    last : (k n : ℕ) → k ≤ suc n → (k ≡ suc n) ⊎ (k ≤ n)
    last k n l = grind arith

pub nothing_in : {X : Type 0} (xs : List X) → length xs ≡ 0 → xs ≡ []
nothing_in [] e = refl
nothing_in (x ∷ xs) e = absurd (omega (arith, e))

pub goes_more : (loss n : ℕ) (old mid new : Playing) → GoesOn n old mid → Turns loss mid new → GoesOn (n + 1) old new
goes_more loss n old mid new g t = record {
  same = t.same ∙ g.same;
  processes = t.processes ∙ g.processes;
  registers = t.registers ∙ g.registers;
  going = t.going;
  few = let a = g.few in let b = t.most in omega (arith, a, b);
}

module _ {W : Type 0} (start : Op → ℕ → Start) (next_word : W → ℕ × W) (loss repeat : ℕ) where
  pub turn_picks : (s : Playing) (w w1 : W) (c : Choice) (cs : List Choice) (word : ℕ) → cs ≡ choices_of start s
      → picked cs word ≡ Some c → (word, w1) ≡ next_word w
      → turn start next_word loss repeat (s, w) ≡ chooses start next_word loss repeat s c w1
  unfolding turn
  turn_picks s w w1 c cs word all is drawn =
      let p : picked (choices_of start s) (next_word w).0 ≡ Some c = ap (λ (y : ℕ × W). picked (choices_of start s) y.0) (sym drawn) ∙ (ap (λ l. picked l word) (sym all) ∙ is) in
      ap (λ o. turns_by start next_word loss repeat s o w) p ∙ ap (λ (y : ℕ × W). chooses start next_word loss repeat s c y.1) (sym drawn)

  pub turn_none : (s : Playing) (w : W) → choices_of start s ≡ [] → turn start next_word loss repeat (s, w) ≡ (s, w)
  unfolding turn
  turn_none s w none = ap (λ l. turns_by start next_word loss repeat s (picked l (next_word w).0) w) none

  -- one more turn
  pub turns_more : (n : ℕ) (x : Playing × W) (s s1 : Playing) (w w1 : W)
      → (s, w) ≡ turns start next_word loss repeat n x → (s1, w1) ≡ turn start next_word loss repeat (s, w)
      → (s1, w1) ≡ turns start next_word loss repeat (n + 1) x
  turns_more n x s s1 w w1 e f = f ∙ (ap (turn start next_word loss repeat) e ∙ sym (steps_more (λ _ y. turn start next_word loss repeat y) n x))

  -- where nothing can happen, further turns change nothing
  pub turns_end : (k n : ℕ) (x : Playing × W) (s : Playing) (w : W) → (s, w) ≡ turns start next_word loss repeat k x
      → k ≤ n → choices_of start s ≡ [] → (s, w) ≡ turns start next_word loss repeat n x
  turns_end k n x s w e l none = sym (steps_stay (λ _ y. turn start next_word loss repeat y) k n x (s, w) (sym e) l (λ _. turn_none s w none))

  -- A turn puts one more frame of a wire behind at most.
  abbrev OneMore : Playing → ℕ → ℕ → Playing × W → Type 0
  OneMore s a b x = cursor_at x.0 a b ≤ cursor_at s a b + 1

  passes_one : (s : Playing) (from to a b : ℕ) → cursor_at (passes s from to) a b ≤ cursor_at s a b + 1
  passes_one s from to a b =
      let k = cursor_at s a b in
      set_cases (λ (row : List ℕ). slice_index_or row b 0 ≤ k + 1) s.cursors from a (slice_set (slice_index_or s.cursors from []) to (cursor_at s from to + 1)) []
      (λ e. set_cases (λ z. z ≤ k + 1) (slice_index_or s.cursors from []) to b (cursor_at s from to + 1) 0
      (λ f. let u = ap (λ z. cursor_at s z b) e in let v = ap (cursor_at s from) f in omega (arith, u, v))
      (let u = ap (λ z. cursor_at s z b) e in omega (arith, u)))
      (omega arith)
    where
      set_cases : {X : Type 0} (P : X → Type 0) (xs : List X) (i j : ℕ) (v d : X) → (j ≡ i → P v) → P (slice_index_or xs j d) → P (slice_index_or (slice_set xs i v) j d)
      set_cases P [] i j v d h p = p
      set_cases P (x ∷ xs) zero zero v d h p = h refl
      set_cases P (x ∷ xs) zero (suc j) v d h p = p
      set_cases P (x ∷ xs) (suc i) zero v d h p = p
      set_cases P (x ∷ xs) (suc i) (suc j) v d h p = set_cases P xs i j v d (λ e. h (ap suc e)) p

  takes_one : (s : Playing) (from to number : ℕ) (w : W) (a b : ℕ) → OneMore s a b (takes_next start next_word repeat s from to number w)
  takes_one s from to number w a b = cond_both (says repeat (next_word w).0) (makes start s (Take from to number)) (passes (makes start s (Take from to number)) from to) (λ (t : Playing). cursor_at t a b ≤ cursor_at s a b + 1)
      (λ _. omega arith)
      (λ _. passes_one (makes start s (Take from to number)) from to a b)

  chooses_one : (s : Playing) (c : Choice) (w : W) (a b : ℕ) → OneMore s a b (chooses start next_word loss repeat s c w)
  unfolding chooses
  chooses_one s (CallNext p) w a b = omega arith
  chooses_one s (TakeNext from to number) w a b = cond_both (says loss (next_word w).0) (passes s from to, (next_word w).1) (takes_next start next_word repeat s from to number (next_word w).1) (OneMore s a b)
      (λ _. passes_one s from to a b)
      (λ _. takes_one s from to number (next_word w).1 a b)
  chooses_one s (PutAgain p) w a b = omega arith

  turn_one : (s : Playing) (w : W) (a b : ℕ) → OneMore s a b (turn start next_word loss repeat (s, w))
  unfolding turn
  turn_one s w a b = by_choice (picked (choices_of start s) (next_word w).0)
    where
      by_choice : (o : Option Choice) → OneMore s a b (turns_by start next_word loss repeat s o w)
      by_choice None = omega arith
      by_choice (Some c) = chooses_one s c (next_word w).1 a b

  pub few_behind : (n : ℕ) (s s1 : Playing) (w w1 : W) → (s1, w1) ≡ turn start next_word loss repeat (s, w)
      → ((a b : ℕ) → cursor_at s a b ≤ n) → (a b : ℕ) → cursor_at s1 a b ≤ n + 1
  few_behind n s s1 w w1 e few a b =
      let l = few a b in
      let m = turn_one s w a b in
      let f = ap (λ (x : Playing × W). cursor_at x.0 a b) e in
      omega (arith, l, m, f)
