use Rattle.std.proofs.Common.{rules, ◌≡◌, ◌+◌, ◌++◌, ◌∷◌, [], ℕ, ◌<◌, true, false, List, length, get_or, refl, ap, sym}
use Rattle.std.proofs.Common.{◌∙◌, subst, arith}
use Rattle.std.proofs.lemmas.List.{length-map}
use Rattle.std.specs.Prelude.{Vec}
use Rattle.std.proofs.Math.Dec.{ltb}
use Rattle.std.proofs.lemmas.Bool.{ltb-true, ltb-false}
use Rattle.std.proofs.lemmas.Option.{same_Some, slice_get_read, slice_get_within}
use Rattle.reg_base.specs.Order.{In}
use Rattle.reg_checkers.specs.History.{IsAt}
use Rattle.reg_outcomes.specs.declared.told.ToldAnswer.{ToldAnswer}
use Rattle.reg_outcomes.specs.Interleavings.{Interleaving}
use Rattle.reg_outcomes.specs.Nevers.{tells}
use Rattle.reg_outcomes.proofs.Combining.{AreFirstValues, at_told, none_new, one_new, values_all}
use Rattle.reg_outcomes.proofs.Growing.{in_at}
use Rattle.reg_outcomes.proofs.interleavings.nevers.values_at.Goals.{in-Some+then-not-contains+in_ok-push}
use Rattle.reg_outcomes.proofs.interleavings.nevers.values_at.Goals.{in-Some+else-not-contains, in_default}
use Rattle.reg_outcomes.proofs.interleavings.nevers.values_at.Goals as goal

found : (xs told : List ToldAnswer) (k : ℕ) (v : ToldAnswer) → xs ≡ told → ltb k (length xs) ≡ true → v ≡ get_or xs k v
    → IsAt told k v
found xs told k v same lt is =
    subst (λ l. IsAt l k v) same (slice_get_read xs (length xs) k v refl (ltb-true k (length xs) lt) is)

past : (xs told : List ToldAnswer) (k : ℕ) (v : ToldAnswer) → xs ≡ told → ltb k (length xs) ≡ false → IsAt told k v → ⊥
past xs told k v same le at =
    let l = slice_get_within xs k v (subst (λ l. IsAt l k v) (sym same) at) in
    let m = ltb-false k (length xs) le in
    omega (arith, l, m)

held : (xs : List ToldAnswer) (i : ℕ) (v : ToldAnswer) → i < length xs → get_or xs i v ≡ v → In v xs
held xs i v lt same = in_at xs i v (slice_get_read xs (length xs) i v refl lt (sym same))

pub loop-outcome-preserved : goal.loop-outcome-preserved
loop-outcome-preserved g c =
    let outcomes = tells c.args.outcomes.now in
    let told : List ToldAnswer = c.outcome.inside.told.items in
    let n = c.loop-outcome.outcome-index in
    let k = c.args.place in
    let values : List ToldAnswer = c.loop-outcome.values.items in
    let at = at_told c.args.outcomes.now n c.outcome-item.result told c.loop-outcome-test.true c.outcome-item.is (sym (ap (λ (i : Interleaving). i.told) c.outcome.view_is)) in
    elim c.match-get.branch [
      | in-Some+then-not-contains+in_ok-push w ↦
          let v : ToldAnswer = w.in-Some.value.now in
          let stands = found c.deref.result.now told k v c.deref.ensures.value (sym w.in-Some.ensures.lookup.0) w.in-Some.ensures.lookup.1 in
          let now : c.match-get.values.items ≡ values ++ v ∷ [] = ap (λ (x : Vec ToldAnswer g.row.A.Denot). x.items) w.values-is ∙ w.in_ok-push.ensures.items in
          subst (λ (l : List ToldAnswer). AreFirstValues outcomes k (n + 1) l) (sym now) (one_new outcomes k n values told v at stands c.loop-outcome.invariant)
      | in-Some+else-not-contains w ↦
          let v : ToldAnswer = w.in-Some.value.now in
          let stands = found c.deref.result.now told k v c.deref.ensures.value (sym w.in-Some.ensures.lookup.0) w.in-Some.ensures.lookup.1 in
          let there = w.if-not-contains.ensures.cases in
          let equal = there.2 v in
          let same : get_or w.deref-in-Some.result.now there.0 v ≡ v = search (equal, rules) in
          let within : In v values = subst (λ (l : List ToldAnswer). In v l) w.deref-in-Some.ensures.value (held w.deref-in-Some.result.now there.0 v there.1 same) in
          let now : c.match-get.values.items ≡ values = ap (λ (x : Vec ToldAnswer g.row.A.Denot). x.items) w.values-is in
          subst (λ (l : List ToldAnswer). AreFirstValues outcomes k (n + 1) l) (sym now) (none_new outcomes k n values told at (λ x here. subst (λ y. In y values) (same_Some v x (sym stands ∙ here)) within) c.loop-outcome.invariant)
      | in_default w ↦
          let now : c.match-get.values.items ≡ values = ap (λ (x : Vec ToldAnswer g.row.A.Denot). x.items) w.values-is in
          subst (λ (l : List ToldAnswer). AreFirstValues outcomes k (n + 1) l) (sym now)
          (none_new outcomes k n values told at (λ x here. absurd (past c.deref.result.now told k x c.deref.ensures.value (sym w.in_default.ensures.lookup.0) here)) c.loop-outcome.invariant)
    ]

pub returns : goal.returns
returns g c =
    let outcomes = tells c.args.outcomes.now in
    values_all outcomes c.args.place c.loop-outcome.outcome-index c.loop-outcome.values.items (let a = length-map c.args.outcomes.now (λ i. i.told) in let b = c.loop-outcome-test.false in omega (arith, a, b)) c.loop-outcome.invariant
