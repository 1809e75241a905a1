-- What one more entry changes.
use Rattle.std.proofs.Common.{◌≡◌, ℕ, suc, ◌+◌, ◌<◌, ◌⊎◌, inl, inr, ◌↔◌, List, Option, Some, None, refl, ap, ap₂, sym}
use Rattle.std.proofs.Common.{◌∙◌, subst, arith}
use Rattle.std.proofs.lemmas.Bool.{cases_order}
use Rattle.reg_base.specs.declared.memory.OpId.{OpId}
use Rattle.reg_base.specs.declared.memory.Op.{Op}
use Rattle.reg_base.specs.declared.memory.Answer.{Answer}
use Rattle.reg_checkers.specs.declared.entries.Entry.{Entry}
use Rattle.reg_checkers.specs.declared.entries.Entry.TheVariants.{Called, Answered}
use Rattle.reg_checkers.specs.History.{IsAt, IsCalled, IsFinished, WasCalled, IsHistory, MayCall, MayAnswer}
use Rattle.reg_checkers.proofs.Histories.{answered_was_called}
use Rattle.reg_checkers.specs.declared.place.Progress.{Progress}
use Rattle.reg_checkers.specs.declared.place.Running.{Running}
use Rattle.reg_checkers.specs.Progress.{op_of, IsIdle, IsState, IsProgressOf}
use Rattle.reg_checkers.proofs.OneMore.{IsOneMore}
use Rattle.reg_checkers.proofs.Placing.{runs_last}

was_more : (es ys : List Entry) (e : Entry) (x : OpId) → IsOneMore es e ys → WasCalled es x → WasCalled ys x
was_more es ys e x more (t, o, is) = (t, o, more.old (Called t x o) is)

fin_more : (es ys : List Entry) (e : Entry) (x : OpId) → IsOneMore es e ys → IsFinished es x → IsFinished ys x
fin_more es ys e x more (t, a, is) = (t, a, more.old (Answered t x a) is)

module _ (count registers : ℕ) (es ys : List Entry) (p : ℕ) (g : Progress) (good : IsHistory count registers es) (kept : IsProgressOf es p g) where
  pub after_call : (at : ℕ) (id : OpId) (op : Op) → p ≡ id.process → MayCall count registers es at id op
      → g.next ≡ id.number → IsOneMore es (Called at id op) ys
      → IsProgressOf ys p (record { next = g.next + 1; running = Some (record { at = at; op = op }) })
  after_call at id op same may next more = record { calls = calls; state = (g.next, next_suc, called, open_, before) }
    where
      next_suc : g.next + 1 ≡ suc g.next
      next_suc = omega arith

      this : op_of p g.next ≡ id
      this = ap (λ (x : ℕ). op_of x g.next) same ∙ ap (λ (n : ℕ). op_of id.process n) next

      calls : (n : ℕ) → (n < g.next + 1) ↔ WasCalled ys (op_of p n)
      calls n = (up (cases_order n g.next), down)
        where
          up : (n ≡ g.next) ⊎ ((n < g.next) ⊎ (g.next < n)) → n < g.next + 1 → WasCalled ys (op_of p n)
          up (inl e) lt = subst (λ (x : OpId). WasCalled ys x) (sym (ap (λ (m : ℕ). op_of p m) e ∙ this)) (at, op, more.new)
          up (inr (inl h)) lt = was_more es ys (Called at id op) (op_of p n) more ((kept.calls n).0 h)
          up (inr (inr h)) lt = absurd (omega arith)

          down : WasCalled ys (op_of p n) → n < g.next + 1
          down (t, o, is) = go (more.cases (Called t (op_of p n) o) is)
            where
              go : ((k : ℕ) × IsAt es k (Called t (op_of p n) o)) ⊎ (Called t (op_of p n) o ≡ Called at id op) → n < g.next + 1
              go (inl h) = let lt : n < g.next = (kept.calls n).1 (t, o, h) in omega arith
              go (inr e) =
                  let name : op_of p n ≡ id = cc in
                  let number : n ≡ id.number = ap (λ (x : OpId). x.number) name in
                  omega arith

      called : IsCalled ys (op_of p g.next) at op
      called = subst (λ (x : OpId). IsCalled ys x at op) (sym this) more.new

      back : (x : OpId) → IsFinished ys x → IsFinished es x
      back x (t, a, is) = go (more.cases (Answered t x a) is)
        where
          go : ((k : ℕ) × IsAt es k (Answered t x a)) ⊎ (Answered t x a ≡ Called at id op) → IsFinished es x
          go (inl h) = (t, a, h)
          go (inr e) = absurd cc

      open_ : ¬ IsFinished ys (op_of p g.next)
      open_ fin =
          let was = (let f = back (op_of p g.next) fin in answered_was_called count registers es good (op_of p g.next) f.0 f.1 f.2) in
          let less : g.next < g.next = (kept.calls g.next).1 was in
          omega arith

      before : (m : ℕ) → m < g.next → IsFinished ys (op_of p m)
      before m lt = fin_more es ys (Called at id op) (op_of p m) more (may.idle (op_of p m) same ((kept.calls m).0 lt))

  -- an answer calls nothing
  calls_stay : (at : ℕ) (id : OpId) (a : Answer) → IsOneMore es (Answered at id a) ys → (n : ℕ) → (n < g.next) ↔ WasCalled ys (op_of p n)
  calls_stay at id a more n = (λ lt. was_more es ys (Answered at id a) (op_of p n) more ((kept.calls n).0 lt), down)
    where
      down : WasCalled ys (op_of p n) → n < g.next
      down (t, o, is) = go (more.cases (Called t (op_of p n) o) is)
        where
          go : ((k : ℕ) × IsAt es k (Called t (op_of p n) o)) ⊎ (Called t (op_of p n) o ≡ Answered at id a) → n < g.next
          go (inl h) = (kept.calls n).1 (t, o, h)
          go (inr e) = absurd cc

  pub after_answer : (at : ℕ) (id : OpId) (a : Answer) → p ≡ id.process → (run : Running) → g.running ≡ Some run
      → MayAnswer es at id a → IsOneMore es (Answered at id a) ys
      → IsProgressOf ys p (record { next = g.next; running = None })
  after_answer at id a same run is may more = record { calls = calls_stay at id a more; state = idle }
    where
      kept_id : IsProgressOf es id.process g
      kept_id = subst (λ (q : ℕ). IsProgressOf es q g) same kept

      last : g.next ≡ suc id.number
      last = runs_last es id g kept_id run is (may.called_at, may.op, may.called) may.running

      before : (m : ℕ) → m < id.number → IsFinished es (op_of id.process m)
      before m lt = go (subst (λ (o : Option Running). IsState es id.process g.next o) is kept_id.state)
        where
          go : IsState es id.process g.next (Some run) → IsFinished es (op_of id.process m)
          go (n, e, called, open_, all) = all m (omega (arith, last))

      idle : IsIdle ys p
      idle x proc (t, o, was) = go (more.cases (Called t x o) was)
        where
          pick : x.number < g.next → (x.number ≡ id.number) ⊎ ((x.number < id.number) ⊎ (id.number < x.number)) → IsFinished ys x
          pick low (inl e) =
              let name : x ≡ id = ap₂ (λ (u v : ℕ). record { process = u; number = v }) (proc ∙ same) e in
              subst (λ (y : OpId). IsFinished ys y) (sym name) (at, a, more.new)
          pick low (inr (inl h)) =
              let name : op_of id.process x.number ≡ x = ap (λ (u : ℕ). op_of u x.number) (sym (proc ∙ same)) in
              subst (λ (y : OpId). IsFinished ys y) name (fin_more es ys (Answered at id a) (op_of id.process x.number) more (before x.number h))
          pick low (inr (inr h)) = absurd (omega (arith, last))

          go : ((k : ℕ) × IsAt es k (Called t x o)) ⊎ (Called t x o ≡ Answered at id a) → IsFinished ys x
          go (inl h) =
              let name : x ≡ op_of p x.number = ap (λ (u : ℕ). op_of u x.number) proc in
              pick ((kept.calls x.number).1 (subst (λ (y : OpId). WasCalled es y) name (t, o, h))) (cases_order x.number id.number)
          go (inr e) = absurd cc

-- an entry of another process changes nothing here
pub elsewhere : (es ys : List Entry) (p : ℕ) (g : Progress) (e : Entry) → IsProgressOf es p g → IsOneMore es e ys
    → ((x : OpId) → x.process ≡ p → WasCalled ys x → WasCalled es x) → ((x : OpId) → x.process ≡ p → IsFinished ys x → IsFinished es x) → IsProgressOf ys p g
elsewhere es ys p g e kept more back_call back_fin = record { calls = calls; state = go g.running kept.state }
  where
    calls : (n : ℕ) → (n < g.next) ↔ WasCalled ys (op_of p n)
    calls n = (λ lt. was_more es ys e (op_of p n) more ((kept.calls n).0 lt), λ was. (kept.calls n).1 (back_call (op_of p n) refl was))

    go : (o : Option Running) → IsState es p g.next o → IsState ys p g.next o
    go None idle = λ x proc was. fin_more es ys e x more (idle x proc (back_call x proc was))
    go (Some run) (n, is, called, open_, before) = (n, is, more.old (Called run.at (op_of p n) run.op) called, λ fin. open_ (back_fin (op_of p n) refl fin), λ m lt. fin_more es ys e (op_of p m) more (before m lt))

pub call_elsewhere : (es ys : List Entry) (p : ℕ) (g : Progress) (at : ℕ) (id : OpId) (op : Op) → (p ≡ id.process → ⊥)
    → IsProgressOf es p g → IsOneMore es (Called at id op) ys → IsProgressOf ys p g
call_elsewhere es ys p g at id op other kept more = elsewhere es ys p g (Called at id op) kept more
    (λ x proc (t, o, is). was x proc t o (more.cases (Called t x o) is))
    (λ x proc (t, a, is). fin x t a (more.cases (Answered t x a) is))
  where
    was : (x : OpId) → x.process ≡ p → (t : ℕ) (o : Op) → ((k : ℕ) × IsAt es k (Called t x o)) ⊎ (Called t x o ≡ Called at id op) → WasCalled es x
    was x proc t o (inl h) = (t, o, h)
    was x proc t o (inr e) = let name : x ≡ id = cc in absurd (other (sym proc ∙ ap (λ (y : OpId). y.process) name))

    fin : (x : OpId) (t : ℕ) (a : Answer) → ((k : ℕ) × IsAt es k (Answered t x a)) ⊎ (Answered t x a ≡ Called at id op) → IsFinished es x
    fin x t a (inl h) = (t, a, h)
    fin x t a (inr e) = absurd cc

pub answer_elsewhere : (es ys : List Entry) (p : ℕ) (g : Progress) (at : ℕ) (id : OpId) (b : Answer)
    → (p ≡ id.process → ⊥) → IsProgressOf es p g → IsOneMore es (Answered at id b) ys → IsProgressOf ys p g
answer_elsewhere es ys p g at id b other kept more = elsewhere es ys p g (Answered at id b) kept more
    (λ x proc (t, o, is). was x t o (more.cases (Called t x o) is))
    (λ x proc (t, a, is). fin x proc t a (more.cases (Answered t x a) is))
  where
    was : (x : OpId) (t : ℕ) (o : Op) → ((k : ℕ) × IsAt es k (Called t x o)) ⊎ (Called t x o ≡ Answered at id b) → WasCalled es x
    was x t o (inl h) = (t, o, h)
    was x t o (inr e) = absurd cc

    fin : (x : OpId) → x.process ≡ p → (t : ℕ) (a : Answer) → ((k : ℕ) × IsAt es k (Answered t x a)) ⊎ (Answered t x a ≡ Answered at id b) → IsFinished es x
    fin x proc t a (inl h) = (t, a, h)
    fin x proc t a (inr e) = let name : x ≡ id = cc in absurd (other (sym proc ∙ ap (λ (y : OpId). y.process) name))
