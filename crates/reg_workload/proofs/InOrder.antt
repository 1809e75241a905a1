-- Which frames a longer play has taken.
use Rattle.std.proofs.Common.{◌≡◌, ℕ, zero, suc, ◌+◌, List, [], ◌∷◌, ◌++◌, length, refl, sym, ap, ◌∙◌, arith}
use Rattle.std.specs.Prelude.{◌==◌, ◌&&◌}
use Rattle.std.specs.List.{range_with_len}
use Rattle.std.proofs.lemmas.Bool.{cond_both, cond-true, and_from, and_parts, eq-eqb, eqb-true}
use Rattle.std.proofs.lemmas.Grind.{flat_map-append}
use Rattle.std.proofs.lemmas.List.{append-nil}
use Rattle.std.proofs.lemmas.List.FromFn.{length-range_with_len}
use Rattle.reg_front.specs.declared.starts.Start.{Start}
use Rattle.reg_base.specs.declared.memory.Op.{Op}
use Rattle.reg_process.specs.declared.events.Event.{Event}
use Rattle.reg_process.specs.declared.events.Event.TheVariants.{Take}
use Rattle.reg_workload.specs.Plays.{Playing, cursor_at}
use Rattle.reg_workload.specs.Fair.{take_at, takes_of, tick_in, ticks_of, TakesInOrder}
use Rattle.reg_workload.specs.FairParts.{IsFair}

pub takes_more : (x y : ℕ) (es es1 : List Event) (e : Event) → es1 ≡ es ++ e ∷ []
    → takes_of x y es1 ≡ takes_of x y es ++ take_at x y e
takes_more x y es es1 e q = ap (takes_of x y) q ∙ (flat_map-append (take_at x y) es (e ∷ []) ∙ ap (λ l. takes_of x y es ++ l) (append-nil (take_at x y e)))

pub ticks_same : (es es1 : List Event) (e : Event) → es1 ≡ es ++ e ∷ [] → tick_in e ≡ [] → ticks_of es1 ≡ ticks_of es
ticks_same es es1 e q none = ap ticks_of q ∙ (flat_map-append tick_in es (e ∷ []) ∙ (ap (λ l. ticks_of es ++ l) (append-nil (tick_in e) ∙ none) ∙ append-nil (ticks_of es)))

pub taken_here : (x y a p k : ℕ) → x ≡ a → y ≡ p → take_at x y (Take a p k) ≡ k ∷ []
taken_here x y a p k e f =
    cond-true ((a == x) && (p == y)) (k ∷ []) [] (and_from _ _ (eq-eqb a x (sym e)) (eq-eqb p y (sym f)))

pub taken_other : (x y a p k : ℕ) → (x ≡ a → y ≡ p → ⊥) → take_at x y (Take a p k) ≡ []
taken_other x y a p k ne = cond_both ((a == x) && (p == y)) (k ∷ []) [] (λ l. l ≡ [])
    (λ h. let r = and_parts (a == x) (p == y) h in absurd (ne (sym (eqb-true a x r.0)) (sym (eqb-true p y r.1))))
    (λ _. refl)

pub range_more : (a n j : ℕ) → a + n ≡ j → range_with_len a (n + 1) ≡ range_with_len a n ++ j ∷ []
range_more a zero j e = let q : a ≡ j = omega arith in ap (λ z. z ∷ []) q
range_more a (suc n) j e =
    let q : suc n + 1 ≡ suc (n + 1) = omega arith in
    ap (range_with_len a) q ∙ ap (λ l. a ∷ l) (range_more (a + 1) n j (omega arith))

pub in_order : (start : Op → ℕ → Start) (s : Playing) → IsFair start s → TakesInOrder s.made.accepted
in_order start s F = record {
  takes = λ p q. F.takes p q ∙ ap (range_with_len 0) (sym (ap length (F.takes p q) ∙ length-range_with_len 0 (cursor_at s p q)));
  ticks = F.ticks;
}
