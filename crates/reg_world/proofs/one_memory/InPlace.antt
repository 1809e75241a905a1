-- The history of a run stays in place through a step.
use Rattle.std.proofs.Common.{◌≡◌, ℕ, ◌+◌, ◌-◌, ◌<◌, ◌⊎◌, List, [], ◌∷◌, ◌++◌, length, Option, Some, None, refl, sym}
use Rattle.std.proofs.Common.{ap, ◌∙◌, subst, inl, inr, arith}
use Rattle.reg_base.specs.declared.limits.TheConstants.{MOST_EVENTS}
use Rattle.std.specs.Prelude.{slice_get}
use Rattle.std.proofs.lemmas.List.{append-nil}
use Rattle.reg_base.specs.declared.memory.Op.{Op}
use Rattle.reg_base.specs.declared.memory.OpId.{OpId}
use Rattle.reg_base.specs.Memory.{Memory, answer_of}
use Rattle.reg_base.specs.Order.{In}
use Rattle.reg_front.specs.declared.starts.Start.{Start}
use Rattle.reg_process.specs.declared.steps.Reply.{Reply}
use Rattle.reg_process.specs.declared.steps.Step.{Step}
use Rattle.reg_process.specs.declared.steps.Step.TheVariants.{Call, Take, Tick}
use Rattle.reg_process.specs.Process.{State, Outcome, step}
use Rattle.reg_checkers.specs.declared.entries.Entry.{Entry}
use Rattle.reg_checkers.specs.declared.entries.Entry.TheVariants.{Called, Answered}
use Rattle.reg_checkers.specs.History.{IsHistory, IsFinished, WasCalled, IsAt, IsNext, MayCall, MayAnswer, event_of}
use Rattle.reg_checkers.proofs.Places.{element_at}
use Rattle.reg_checkers.proofs.Pushing.{history_more}
use Rattle.reg_process.specs.declared.events.Event.{Event}
use Rattle.reg_world.specs.Nodes.{op_in}
use Rattle.reg_world.specs.World.{World, op_id, calls_in, answers_in}
use Rattle.reg_world.proofs.run.Traced.{Called as PastCall, Answered as PastAnswer, Past, traced_by, answered_in}
use Rattle.reg_base.proofs.Lists.{in_cases}
use Rattle.reg_world.proofs.lists.Bodies.{place_in, place_within}
use Rattle.reg_world.proofs.lists.Members.{in_at, at_in}
use Rattle.reg_world.proofs.one_order.Allowed.{StepAllowed, CallsMade, calls_made, AllAnswered}
use Rattle.reg_world.proofs.one_memory.Turns.{done_calls, StepFits, fits_at}
use Rattle.reg_world.proofs.witness.Times.{new_at}
use Rattle.reg_world.proofs.one_memory.Joined.{Joined, pasts_now, told_now, call_cases, answer_added, calls_now}
use Rattle.reg_world.proofs.one_memory.Added.{IsPastCall, IsPastAnswer, no_answer, called_new}

-- each operation that the process has called is finished
abbrev IsIdle : List Entry → ℕ → Type 0
IsIdle es process = (id : OpId) → id.process ≡ process → WasCalled es id → IsFinished es id

calls_in_place : (n registers at : ℕ) (es : List Entry) (id : OpId) (st : Step) → IsHistory n registers es
    → ((op : Op) → st ≡ Call op → MayCall n registers es at id op) → IsHistory n registers (es ++ calls_in at id st)
calls_in_place n registers at es id (Call op) good may =
    history_more n registers es (Called at id op) good (may op refl)
calls_in_place n registers at es id (Take a f) good may = subst (IsHistory n registers) (sym (append-nil es)) good
calls_in_place n registers at es id Tick good may = subst (IsHistory n registers) (sym (append-nil es)) good

answers_in_place : (n registers at : ℕ) (es : List Entry) (id : OpId) (o : Option Reply) → IsHistory n registers es
    → ((y : Reply) → o ≡ Some y → MayAnswer es at id y.answer) → IsHistory n registers (es ++ answers_in at id o)
answers_in_place n registers at es id None good may = subst (IsHistory n registers) (sym (append-nil es)) good
answers_in_place n registers at es id (Some y) good may =
    history_more n registers es (Answered at id y.answer) good (may y refl)

answer_later : (es : List Entry) (at : ℕ) (id : OpId) (st : Step) (x : Entry)
    → ((y : Entry) → In y es → event_of y < at) → ((op : Op) → st ≡ Call op → In x (calls_in at id st))
    → (k : ℕ) (y : Entry) → IsAt (es ++ calls_in at id st) k y → (event_of y < at) ⊎ (y ≡ x)
answer_later es at id (Call op) x below own k y here =
    elim (in_cases y es (Called at id op ∷ []) (place_in (es ++ Called at id op ∷ []) k y here)) [
      | inl old ↦ inl (below y old)
      | inr new ↦ elim new [ inl e ↦ elim (own op refl) [ inl f ↦ inr (e ∙ sym f) | inr f ↦ absurd f ] | inr f ↦ absurd f ]
    ]
answer_later es at id (Take a f) x below own k y here =
    inl (below y (subst (In y) (append-nil es) (place_in (es ++ []) k y here)))
answer_later es at id Tick x below own k y here =
    inl (below y (subst (In y) (append-nil es) (place_in (es ++ []) k y here)))

given_in : (at number : ℕ) (op : Op) (o : Option Reply) (y : Reply) → o ≡ Some y
    → In (record { number = number; at = at; op = op; reply = y }) (answered_in at number op o)
given_in at number op None y e = absurd (let bad : ⊥ = cc in bad)
given_in at number op (Some r) y e =
    inl (let q : r ≡ y = cc in ap (λ z. record { number = number; at = at; op = op; reply = z }) (sym q))

module _ (start : Op → ℕ → Start) (n registers : ℕ) (t : World) (pasts : ℕ → Past) (e : Event) (p : ℕ) (st : Step) (l : p < n) (numbers : length (pasts p).calls ≡ (t.nodes p).state.calls) (J : Joined n t pasts)
    (A : StepAllowed registers (t.nodes p).state st) (few : length t.accepted < MOST_EVENTS) (good : IsHistory n registers t.history)
    (done : AllAnswered n (traced_by t pasts)) (below_done : (a : PastAnswer) → In a (pasts p).answers → a.number < done_calls (t.nodes p).state (t.nodes p).state.running)
    (fits : StepFits (t.nodes p).state (step start (t.nodes p).state st))
    (right : (id : OpId) (a : PastAnswer) → IsPastAnswer n (pasts_now start n t pasts e p st l numbers J) id a → (d : PastCall) × IsPastCall n (pasts_now start n t pasts e p st l numbers J) id d × ((m : Memory) × (a.reply.answer ≡ answer_of d.op m))) where
  abbrev S : State
  S = (t.nodes p).state

  abbrev R : State × Outcome
  R = step start S st

  abbrev At : ℕ
  At = length t.accepted

  abbrev Old : OpId
  Old = op_id p S.calls

  abbrev New : OpId
  New = op_id p (R.0.calls - 1)

  next : IsNext t.history Old
  next k = (
    λ less.
        let d = element_at (pasts p).calls k (omega (arith, less, numbers)) in
        let i = in_at _ t.history (J.calls (op_id p k) d.0 (l, d.1)) in
        (d.0.at, d.0.op, i),
    λ was.
        let r = J.called was.0 (op_id p k) was.1 (at_in _ t.history was.2) in
        let z = place_within (pasts p).calls k r.0 r.1.1 in
        omega (arith, z, numbers),
  )

  idle : S.running ≡ None → IsIdle t.history p
  idle free id same was =
      let r = J.called was.0 id was.1 (at_in _ t.history was.2) in
      let at : slice_get (pasts p).calls id.number ≡ Some r.0 = subst (λ z. slice_get (pasts z).calls id.number ≡ Some r.0) same r.1.1 in
      let z = place_within (pasts p).calls id.number r.0 at in
      let all : done_calls S S.running ≡ S.calls = ap (done_calls S) free in
      let a = done p id.number l (omega (arith, z, numbers, all)) in
      let given : IsPastAnswer n pasts id a.0 = (r.1.0, subst (λ z. In a.0 (pasts z).answers) (sym same) a.1, a.2) in
      (a.0.at, a.0.reply.answer, in_at _ t.history (J.answers id a.0 given))

  may_call : (op : Op) → st ≡ Call op → MayCall n registers t.history At Old op
  may_call op is =
      let B : StepAllowed registers S (Call op) = subst (StepAllowed registers S) is A in
      record {
        event = omega (arith, few);
        process = l;
        register = B.1;
        later = λ k y here. J.below y (place_in t.history k y here);
        next = next;
        fits = B.2;
        idle = idle B.0;
      }

  mid : IsHistory n registers (t.history ++ calls_in At Old st)
  mid = calls_in_place n registers At t.history Old st good may_call

  may_answer : (y : Reply) → R.1.reply ≡ Some y → MayAnswer (t.history ++ calls_in At Old st) At New y.answer
  may_answer y is =
      let a : PastAnswer = record { number = R.0.calls - 1; at = At; op = op_in S st; reply = y } in
      let given : IsPastAnswer n (pasts_now start n t pasts e p st l numbers J) New a = answer_added start n t pasts e p st l numbers J a (given_in At (R.0.calls - 1) (op_in S st) R.1.reply y is) refl in
      let d = right New a given in
      let f = fits_at S R.0 R.1.reply y is fits.reply in
      record {
        event = omega (arith, few);
        called_at = d.0.at;
        op = d.0.op;
        called = in_at _ (t.history ++ calls_in At Old st) (calls_now start n t pasts e p st l numbers J New d.0 d.1);
        running = λ fin. elim (in_cases _ t.history (calls_in At Old st) (at_in _ (t.history ++ calls_in At Old st) fin.2)) [
          | inl i ↦
              let r = J.answered fin.0 New fin.1 i in
              let z = below_done r.0 r.1.1 in
              let k = r.1.2 in
              let m = f.1 in
              omega (arith, z, k, m)
          | inr i ↦ no_answer At Old st fin.0 New fin.1 i
        ];
        fits = d.2;
        later = answer_later t.history At Old st (Called At New d.0.op) J.below (λ op call.
            let made : R.0.calls ≡ S.calls + 1 = subst (λ z. CallsMade S z R) call (calls_made start S st) in
            let number : R.0.calls - 1 ≡ S.calls = omega (arith, made) in
            elim (call_cases start n t pasts e p st l numbers J New d.0 d.1) [
              | inl old ↦ let z = place_within (pasts p).calls (R.0.calls - 1) d.0 old.1 in absurd (omega (arith, z, numbers, number))
              | inr new ↦
                  let i = called_new At New st R.1.cast d.0 new.1 in
                  let j : In (Called d.0.at New d.0.op) (calls_in At Old st) = subst (λ k. In (Called d.0.at New d.0.op) (calls_in At (op_id p k) st)) number i in
                  subst (λ k. In (Called k New d.0.op) (calls_in At Old st)) (new_at At st R.1.cast d.0 new.1) j
            ]);
      }

  pub history_now : IsHistory n registers (told_now start n t pasts e p st l numbers J).history
  history_now = answers_in_place n registers At (t.history ++ calls_in At Old st) New R.1.reply mid may_answer
