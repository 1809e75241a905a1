-- The answers to the next operations of processes: where none of these has one, all finished operations are placed.
use Rattle.std.proofs.Common.{◌≡◌, ◌⊎◌, inl, inr, ℕ, ◌+◌, ◌<◌, ◌≤◌, List, take, Option, Some, None, MatchOption, true}
use Rattle.std.proofs.Common.{false, refl, sym, ◌∙◌, subst, arith}
use Rattle.std.specs.Prelude.{is_some, slice_index}
use Rattle.std.proofs.lemmas.Bool.{cases_eq, cases_order}
use Rattle.reg_base.specs.declared.memory.Answer.{Answer}
use Rattle.reg_base.specs.declared.memory.Op.{Op}
use Rattle.reg_base.specs.declared.memory.OpId.{OpId}
use Rattle.reg_checkers.specs.declared.entries.Entry.{Entry}
use Rattle.reg_checkers.specs.declared.entries.Entry.TheVariants.{Answered, Called}
use Rattle.reg_checkers.specs.declared.facts.Fact.{Fact}
use Rattle.reg_checkers.specs.declared.facts.Given.{Given}
use Rattle.reg_checkers.specs.Facts.{IsFactOf}
use Rattle.reg_checkers.specs.History.{IsAnswered, IsCalled, IsFinished, IsHistory, MayAnswer, MayCall, WasCalled}
use Rattle.reg_checkers.specs.Progress.{op_of}
use Rattle.reg_checkers.specs.Table.{IsTable, Rows, cell}
use Rattle.reg_checkers.proofs.Histories.{answered_before_next, answered_was_called, call_is, events_rise}
use Rattle.reg_checkers.proofs.Keeping.{answer_within}
use Rattle.reg_checkers.proofs.Noting.{history_front}
use Rattle.reg_checkers.proofs.Places.{in_take}
use Rattle.reg_outcomes.specs.Finding.{ArePlacedBefore}
use Rattle.reg_outcomes.specs.Placing.{IsComplete}

module _ (n registers : ℕ) (h : List Entry) (good : IsHistory n registers h) where
  -- an operation is called no later than it is answered
  called_by_answer : (id : OpId) (s t : ℕ) (answer : Answer) (op : Op) → IsAnswered h id s answer → IsCalled h id t op → t ≤ s
  called_by_answer id s t answer op (j, here) call =
      let may : MayAnswer (take j h) s id answer = good j (Answered s id answer) here in
      let there = in_take h j may.called.0 (Called may.called_at id may.op) may.called.1 in
      let le : may.called_at ≤ s = events_rise n registers h good may.called.0 j (Called may.called_at id may.op) (Answered s id answer) there.1 here there.0 in
      let e : t ≡ may.called_at = (call_is n registers h good id t may.called_at op may.op call (may.called.0, there.1)).0 in
      omega (arith, le, e)

  -- where an operation has an answer, an earlier one of its process has one, that came no later
  answered_below : (p m k t : ℕ) (b : Answer) → m ≤ k → IsAnswered h (op_of p k) t b → (s : ℕ) × (a : Answer) × IsAnswered h (op_of p m) s a × (s ≤ t)
  answered_below p m k t b le answered = elim (cases_eq m k) [
    | inl e ↦ (t, b, subst (λ q. IsAnswered h (op_of p q) t b) (sym e) answered, omega arith)
    | inr ne ↦
        let call = answered_was_called n registers h good (op_of p k) t b answered in
        let lower : m < k = omega (arith, le, ne) in
        let may : MayCall n registers (take call.2.0 h) call.0 (op_of p k) call.1 = good call.2.0 (Called call.0 (op_of p k) call.1) call.2.1 in
        let was : WasCalled (take call.2.0 h) (op_of p m) = (may.next m).0 lower in
        let there = in_take h call.2.0 was.2.0 (Called was.0 (op_of p m) was.1) was.2.1 in
        let before = answered_before_next n registers h good (op_of p m) (op_of p k) call.0 call.1 (was.0, was.1, (was.2.0, there.1)) call.2 refl lower in
        let first = before.3 in
        let last = called_by_answer (op_of p k) t call.0 b call.1 answered call.2 in
        (before.0, before.1, before.2, omega (arith, first, last))
  ]

  process_within : (id : OpId) (t : ℕ) (b : Answer) → IsAnswered h id t b → id.process < n
  process_within id t b (j, here) = answer_within n registers (take j h) t id b (history_front n registers h j good) (good j (Answered t id b) here)

  -- an operation that is not placed comes no earlier than the next one of its process
  placed_or_next : (next : List ℕ) (id : OpId) → (slice_index next id.process ≤ id.number → ⊥) → id.number < slice_index next id.process
  placed_or_next next id late = elim (cases_order id.number (slice_index next id.process)) [
    | inl e ↦ absurd (late (let l : id.number ≡ slice_index next id.process = e in omega (arith, l)))
    | inr q ↦ elim q [ inl less ↦ less | inr more ↦ absurd (late (omega (arith, more))) ]
  ]

  pub complete : (next : List ℕ) → ((p : ℕ) → p < n → ¬ IsFinished h (op_of p (slice_index next p))) → IsComplete h next
  complete next none id (t, b, answered) = placed_or_next next id (λ le.
      let first = answered_below id.process (slice_index next id.process) id.number t b le answered in
      none id.process (process_within id t b answered) (first.0, first.1, first.2))

  pub placed_before : (next : List ℕ) (at : ℕ)
      → ((p : ℕ) → p < n → (s : ℕ) (a : Answer) → IsAnswered h (op_of p (slice_index next p)) s a → at ≤ s)
      → ArePlacedBefore h next at
  placed_before next at none id t b answered lt = placed_or_next next id (λ le.
      let first = answered_below id.process (slice_index next id.process) id.number t b le answered in
      let late = none id.process (process_within id t b answered) first.0 first.1 first.2 in
      let early = first.3 in
      omega (arith, late, early, lt))

-- a process with its number below one more has it below, or it is the last
below_more : (p m : ℕ) → p < m + 1 → (p < m) ⊎ (p ≡ m)
below_more p m lt = elim (cases_eq p m) [ inl e ↦ inr e | inr ne ↦ inl (omega (arith, lt, ne)) ]

-- the answer to an operation, as a table tells of it
abbrev pub IsAnswerTo : List Entry → OpId → Option Given → Type 0
IsAnswerTo h id o = MatchOption o (¬ IsFinished h id) (λ r. IsAnswered h id r.at r.answer)

module _ (h : List Entry) (id : OpId) where
  pub has_answer : (o : Option Given) → IsAnswerTo h id o → is_some o ≡ true → IsFinished h id
  has_answer (Some r) is e = (r.at, r.answer, is)
  has_answer None is e = absurd cc

  pub has_none : (o : Option Given) → IsAnswerTo h id o → is_some o ≡ false → ¬ IsFinished h id
  has_none None is e = is
  has_none (Some r) is e = absurd cc

module _ (h : List Entry) (next : List ℕ) (m : ℕ) where
  pub none_more : ((p : ℕ) → p < m → ¬ IsFinished h (op_of p (slice_index next p)))
      → ¬ IsFinished h (op_of m (slice_index next m)) → (p : ℕ) → p < m + 1
      → ¬ IsFinished h (op_of p (slice_index next p))
  none_more before last p lt = elim (below_more p m lt) [ inl less ↦ before p less | inr e ↦ subst (λ q. ¬ IsFinished h (op_of q (slice_index next q))) (sym e) last ]

  abbrev NoneBefore : ℕ → ℕ → Type 0
  NoneBefore at p = (s : ℕ) (a : Answer) → IsAnswered h (op_of p (slice_index next p)) s a → at ≤ s

  pub none_before_more : (at : ℕ) → ((p : ℕ) → p < m → NoneBefore at p) → NoneBefore at m → (p : ℕ) → p < m + 1
      → NoneBefore at p
  none_before_more at before last p lt = elim (below_more p m lt) [ inl less ↦ before p less | inr e ↦ subst (NoneBefore at) (sym e) last ]

module _ (h : List Entry) (next : List ℕ) (p : ℕ) where
  pub incomplete : IsFinished h (op_of p (slice_index next p)) → ¬ IsComplete h next
  incomplete fin all = let bad : slice_index next p < slice_index next p = all (op_of p (slice_index next p)) fin in omega (arith, bad)

  pub not_placed_before : (at s : ℕ) (a : Answer) → IsAnswered h (op_of p (slice_index next p)) s a → s < at
      → ¬ ArePlacedBefore h next at
  not_placed_before at s a answered lt all = let bad : slice_index next p < slice_index next p = all (op_of p (slice_index next p)) s a answered lt in omega (arith, bad)

-- what a table says of an operation
pub fact_found : {A : Type 0} (rows : Rows A) (h : List Entry) (id : OpId) (o : Option Fact) → IsTable h rows
    → o ≡ cell rows id → MatchOption o (¬ WasCalled h id) (IsFactOf h id)
fact_found rows h id (Some f) table is = table.facts id f (sym is)
fact_found rows h id None table is = λ was. let there = table.all id was in clash (is ∙ there.1)
  where
    clash : {f : Fact} → None ≡ Some f → ⊥
    clash e = cc
