-- When an entry is in place, by what is kept of its process.
use Rattle.std.proofs.Common.{◌≡◌, ℕ, suc, ◌-◌, ◌<◌, ◌≤◌, ◌⊎◌, inl, inr, ◌↔◌, Bool, true, false, not, IsTrue, List}
use Rattle.std.proofs.Common.{Option, Some, None, is_none, length, refl, ap, sym, ◌∙◌, subst, arith}
use Rattle.std.proofs.lemmas.Bool.{cases_order}
use Rattle.reg_base.specs.declared.memory.OpId.{OpId}
use Rattle.reg_base.specs.declared.memory.Op.{Op}
use Rattle.reg_base.specs.declared.memory.Answer.{Answer}
use Rattle.reg_checkers.specs.declared.entries.Entry.{Entry}
use Rattle.reg_checkers.specs.declared.entries.Entry.TheVariants.{Called}
use Rattle.reg_base.specs.Memory.{register_of}
use Rattle.reg_base.proofs.Operations.{Fits}
use Rattle.reg_base.specs.declared.limits.TheConstants.{LAST_EVENT, MOST_OPERATIONS}
use Rattle.reg_checkers.specs.History.{IsCalled, IsFinished, WasCalled, IsNext, IsHistory, MayCall, MayAnswer}
use Rattle.reg_checkers.proofs.Histories.{call_is, behind_all, behind_call, last_or_call}
use Rattle.reg_checkers.specs.declared.place.Progress.{Progress}
use Rattle.reg_checkers.specs.declared.place.Running.{Running}
use Rattle.reg_checkers.specs.Progress.{op_of, IsIdle, IsState, IsProgressOf, last_of, IsBehindLast}

module _ (es : List Entry) (id : OpId) (g : Progress) (kept : IsProgressOf es id.process g) where
  pub next_is : IsNext es id → id.number ≡ g.next
  next_is next = go (cases_order id.number g.next)
    where
      go : (id.number ≡ g.next) ⊎ ((id.number < g.next) ⊎ (g.next < id.number)) → id.number ≡ g.next
      go (inl e) = e
      go (inr (inl lt)) = let less : id.number < id.number = (next id.number).1 ((kept.calls id.number).0 lt) in absurd (omega arith)
      go (inr (inr gt)) = let less : g.next < g.next = (kept.calls g.next).1 ((next g.next).0 gt) in absurd (omega arith)

  pub is_next : id.number ≡ g.next → IsNext es id
  is_next e n = (λ lt. (kept.calls n).0 (omega arith), λ was. (let less : n < g.next = (kept.calls n).1 was in omega arith))

  pub idle_from : g.running ≡ None → IsIdle es id.process
  idle_from e = subst (λ (o : Option Running). IsState es id.process g.next o) e kept.state

  pub idle_is : IsIdle es id.process → is_none g.running ≡ true
  idle_is idle = go g.running kept.state
    where
      go : (o : Option Running) → IsState es id.process g.next o → is_none o ≡ true
      go None state = refl
      go (Some run) (n, e, called, open_, before) = absurd (open_ (idle (op_of id.process n) refl (run.at, run.op, called)))

  -- the running operation is the only one that is called and not finished
  pub runs_last : (run : Running) → g.running ≡ Some run → WasCalled es id → ¬ IsFinished es id → g.next ≡ suc id.number
  runs_last run e was open_ = go (subst (λ (o : Option Running). IsState es id.process g.next o) e kept.state)
    where
      low : id.number < g.next
      low = (kept.calls id.number).1 was

      go : IsState es id.process g.next (Some run) → g.next ≡ suc id.number
      go (n, e, called, not_yet, before) = pick (cases_order id.number n)
        where
          pick : (id.number ≡ n) ⊎ ((id.number < n) ⊎ (n < id.number)) → g.next ≡ suc id.number
          pick (inl same) = omega arith
          pick (inr (inl lt)) = absurd (open_ (before id.number lt))
          pick (inr (inr gt)) = let l : id.number < g.next = low in absurd (omega arith)

  -- and where the number fits, it is this one
  pub running_is : (run : Running) → g.running ≡ Some run → g.next ≡ suc id.number
      → IsCalled es id run.at run.op × (¬ IsFinished es id)
  running_is run e next = go (subst (λ (o : Option Running). IsState es id.process g.next o) e kept.state)
    where
      go : IsState es id.process g.next (Some run) → IsCalled es id run.at run.op × (¬ IsFinished es id)
      go (n, is, called, not_yet, before) =
          let same : n ≡ id.number = omega arith in
          (subst (λ (m : ℕ). IsCalled es (op_of id.process m) run.at run.op) same called, subst (λ (m : ℕ). ¬ IsFinished es (op_of id.process m)) same not_yet)

-- the operation of an answer in place is the running one
pub same_op : (count registers : ℕ) (es : List Entry) → IsHistory count registers es
    → (at : ℕ) (id : OpId) (a : Answer) (s : ℕ) (op : Op) → IsCalled es id s op → (may : MayAnswer es at id a)
    → may.op ≡ op
same_op count registers es good at id a s op called may =
    (call_is count registers es good id may.called_at s may.op op may.called called).1

pub no_truth : IsTrue false → ⊥
no_truth h = cc

pub refuse : (P : Type 0) → ¬ P → (IsTrue false → P) × (P → IsTrue false)
refuse P none = (λ t. absurd (no_truth t), λ p. absurd (none p))

none_is : (o : Option Running) → is_none o ≡ true → o ≡ None
none_is None h = refl
none_is (Some run) h = absurd cc

-- whether a call is in place, of any operation of one of the memory's registers
pub call_iff : (count registers : ℕ) (es : List Entry) → IsHistory count registers es
    → (g : Progress) (at : ℕ) (id : OpId) (b : Bool) → IsProgressOf es id.process g
    → at ≤ LAST_EVENT → IsBehindLast es at → id.number ≡ g.next → id.number < MOST_OPERATIONS → b ≡ is_none g.running
    → (n most : ℕ) (op : Op) → id.process < n → register_of op < most → (IsTrue b → MayCall n most es at id op) × (MayCall n most es at id op → IsTrue b)
call_iff count registers es good g at id b kept event later number small is n most op process register = (
  λ t. record {
    event = event;
    process = process;
    register = register;
    later = behind_all count registers es good at later;
    next = is_next es id g kept number;
    fits = small;
    idle = idle_from es id g kept (none_is g.running (sym is ∙ t));
  },
  λ may. is ∙ idle_is es id g kept may.idle,
)

-- an answer in place is one of the running operation
pub not_last : (count registers : ℕ) (es : List Entry) (g : Progress) (at : ℕ) (id : OpId) (a : Answer) (run : Running)
    → IsProgressOf es id.process g → g.running ≡ Some run → (g.next ≡ suc id.number → ⊥) → ¬ MayAnswer es at id a
not_last count registers es g at id a run kept e other may =
    other (runs_last es id g kept run e (may.called_at, may.op, may.called) may.running)

pub not_fitting : (count registers : ℕ) (es : List Entry) → IsHistory count registers es
    → (g : Progress) (at : ℕ) (id : OpId) (a : Answer) (run : Running) → IsProgressOf es id.process g
    → g.running ≡ Some run → g.next ≡ suc id.number → ¬ Fits run.op a → ¬ MayAnswer es at id a
not_fitting count registers es good g at id a run kept e next none may =
    none (subst (λ (o : Op). Fits o a) (same_op count registers es good at id a run.at run.op (running_is es id g kept run e next).0 may) may.fits)

pub answer_iff : (count registers : ℕ) (es : List Entry) → IsHistory count registers es
    → (g : Progress) (at : ℕ) (id : OpId) (a : Answer) (run : Running) (b : Bool) → IsProgressOf es id.process g
    → g.running ≡ Some run → g.next ≡ suc id.number
    → at ≤ LAST_EVENT → Fits run.op a → (IsTrue b ↔ (IsBehindLast es at ⊎ ((op : Op) × (last_of es ≡ Some (Called at id op)))))
    → (IsTrue b → MayAnswer es at id a) × (MayAnswer es at id a → IsTrue b)
answer_iff count registers es good g at id a run b kept e next event fits says =
    (λ t. make (says.0 t), λ may. says.1 (last_or_call count registers es good at id may.op may.later))
  where
    runs : IsCalled es id run.at run.op × (¬ IsFinished es id)
    runs = running_is es id g kept run e next

    last_call : (op : Op) → last_of es ≡ Some (Called at id op) → last_of es ≡ Some (Called at id run.op)
    last_call op h =
        let same : op ≡ run.op = (call_is count registers es good id at run.at op run.op (length es - 1, h) runs.0).1 in
        h ∙ ap (λ (o : Op). Some (Called at id o)) same

    make : IsBehindLast es at ⊎ ((op : Op) × (last_of es ≡ Some (Called at id op))) → MayAnswer es at id a
    make (inl later) = record { event = event; called_at = run.at; op = run.op; called = runs.0; running = runs.1; fits = fits; later = λ k e here. inl (behind_all count registers es good at later k e here) }
    make (inr (op, own)) = record { event = event; called_at = run.at; op = run.op; called = runs.0; running = runs.1; fits = fits; later = behind_call count registers es good at id run.op (last_call op own) }

pub or_true : (P Q : Type 0) (b : Bool) → b ≡ true → (IsTrue true → P) × (P → IsTrue true) → IsTrue b ↔ (P ⊎ Q)
or_true P Q b e says = (λ t. inl (says.0 refl), λ h. e)

pub or_false : (P Q : Type 0) (b : Bool) → (IsTrue false → P) × (P → IsTrue false) → (IsTrue b → Q) × (Q → IsTrue b)
    → IsTrue b ↔ (P ⊎ Q)
or_false P Q b left right = (λ t. inr (right.0 t), back)
  where
    back : P ⊎ Q → IsTrue b
    back (inl p) = absurd (no_truth (left.1 p))
    back (inr q) = right.1 q

pub not_back : (x b : Bool) → x ≡ not b → b ≡ not x
not_back x true e = ap not (sym e)
not_back x false e = ap not (sym e)
