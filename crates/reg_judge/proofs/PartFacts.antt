-- What stands in the part of a history at one register.
use Rattle.std.proofs.Common.{◌≡◌, ◌≢◌, inl, inr, ℕ, zero, suc, ◌<◌, Bool, true, false, ◌&&◌, ◌==◌, List, [], ◌∷◌, refl}
use Rattle.std.proofs.Common.{ap, ap₂, ◌∙◌, subst}
use Rattle.std.specs.List.{list_any}
use Rattle.std.proofs.lemmas.Bool.{and_from, and_parts, eq-eqb, eqb-true, false_from_ne_true, or_cases, or_left}
use Rattle.std.proofs.lemmas.Bool.{or_right}
use Rattle.std.proofs.lemmas.Option.{same_Some}
use Rattle.reg_base.specs.declared.memory.OpId.{OpId}
use Rattle.reg_base.specs.declared.memory.Op.{Op}
use Rattle.reg_base.specs.declared.memory.Answer.{Answer}
use Rattle.reg_base.specs.Memory.{register_of}
use Rattle.reg_checkers.specs.declared.entries.Entry.{Entry}
use Rattle.reg_checkers.specs.declared.entries.Entry.TheVariants.{Called, Answered}
use Rattle.reg_checkers.specs.History.{IsAt, IsAnswered, IsCalled, IsFinished, IsHistory, WasCalled}
use Rattle.reg_checkers.proofs.Histories.{answered_was_called, call_is}
use Rattle.reg_judge.specs.Parts.{calls_on, is_of, part_at}
use Rattle.reg_judge.proofs.Cuts.{IsOnRegister}
use Rattle.reg_judge.proofs.Filters.{kept, was_kept}

-- whether the operation of this id was called on the register
abbrev pub is_on : ℕ → List Entry → OpId → Bool
is_on r h id = list_any (calls_on r id) h

pub any_from : {X : Type 0} (test : X → Bool) (xs : List X) (k : ℕ) (x : X) → IsAt xs k x → test x ≡ true
    → list_any test xs ≡ true
any_from test [] k x at is = absurd cc
any_from test (y ∷ xs) zero x at is = or_left (test y) (list_any test xs) (ap test (same_Some y x at) ∙ is)
any_from test (y ∷ xs) (suc k) x at is = or_right (test y) (list_any test xs) (any_from test xs k x at is)

pub at_any : {X : Type 0} (test : X → Bool) (xs : List X) → list_any test xs ≡ true
    → (k : ℕ) × (x : X) × IsAt xs k x × (test x ≡ true)
at_any test [] is = absurd cc
at_any test (y ∷ xs) is = elim (or_cases (test y) (list_any test xs) is) [
  | inl here ↦ (0, y, refl, here)
  | inr later ↦ let there = at_any test xs later in (suc there.0, there.1, there.2, there.3)
]

-- a call of this id on the register
call_found : (r : ℕ) (h : List Entry) (id : OpId) (k : ℕ) (e : Entry) → IsAt h k e → calls_on r id e ≡ true
    → IsOnRegister h r id
call_found r h id k (Answered at other answer) here is = absurd cc
call_found r h id k (Called at other op) here is =
    let both = and_parts (other.process == id.process && other.number == id.number) (register_of op == r) is in
    let name = and_parts (other.process == id.process) (other.number == id.number) both.0 in
    let same : other ≡ id = ap₂ (λ (x y : ℕ). let it : OpId = record { process = x; number = y } in it) (eqb-true other.process id.process name.0) (eqb-true other.number id.number name.1) in
    (at, op, (k, subst (λ (x : OpId). IsAt h k (Called at x op)) same here), eqb-true (register_of op) r both.1)

pub on_register : (r : ℕ) (h : List Entry) (id : OpId) → is_on r h id ≡ true → IsOnRegister h r id
on_register r h id is = let there = at_any (calls_on r id) h is in call_found r h id there.0 there.1 there.2 there.3

pub on_register_is : (r : ℕ) (h : List Entry) (id : OpId) → IsOnRegister h r id → is_on r h id ≡ true
on_register_is r h id (at, op, (k, here), on) =
    any_from (calls_on r id) h k (Called at id op) here (and_from (id.process == id.process && id.number == id.number) (register_of op == r) (and_from (id.process == id.process) (id.number == id.number) (eq-eqb id.process id.process refl) (eq-eqb id.number id.number refl)) (eq-eqb (register_of op) r on))

-- what stands in the part stands in the history
pub called_up : (r : ℕ) (h : List Entry) (id : OpId) (at : ℕ) (op : Op) → IsCalled (part_at r h) id at op
    → IsCalled h id at op × (register_of op ≡ r)
called_up r h id at op (k, here) =
    let was = was_kept (is_of r h) h k (Called at id op) here in (was.0, eqb-true (register_of op) r was.1)

pub called_down : (r : ℕ) (h : List Entry) (id : OpId) (at : ℕ) (op : Op) → IsCalled h id at op → register_of op ≡ r
    → IsCalled (part_at r h) id at op
called_down r h id at op (k, here) on = kept (is_of r h) h k (Called at id op) here (eq-eqb (register_of op) r on)

pub answered_up : (r : ℕ) (h : List Entry) (id : OpId) (at : ℕ) (answer : Answer)
    → IsAnswered (part_at r h) id at answer → IsAnswered h id at answer × (is_on r h id ≡ true)
answered_up r h id at answer (k, here) = was_kept (is_of r h) h k (Answered at id answer) here

pub answered_down : (r : ℕ) (h : List Entry) (id : OpId) (at : ℕ) (answer : Answer) → IsAnswered h id at answer
    → is_on r h id ≡ true → IsAnswered (part_at r h) id at answer
answered_down r h id at answer (k, here) on = kept (is_of r h) h k (Answered at id answer) here on

pub finished_up : (r : ℕ) (h : List Entry) (id : OpId) → IsFinished (part_at r h) id
    → IsFinished h id × (is_on r h id ≡ true)
finished_up r h id (at, answer, was) = let up = answered_up r h id at answer was in ((at, answer, up.0), up.1)

pub finished_down : (r : ℕ) (h : List Entry) (id : OpId) → IsFinished h id → is_on r h id ≡ true
    → IsFinished (part_at r h) id
finished_down r h id (at, answer, was) on = (at, answer, answered_down r h id at answer was on)

module _ (n registers : ℕ) (h : List Entry) (good : IsHistory n registers h) where
  -- an operation was called on one register
  pub register_is : (r : ℕ) (id : OpId) (at : ℕ) (op : Op) → IsCalled h id at op → is_on r h id ≡ true
      → register_of op ≡ r
  register_is r id at op was is =
      let on = on_register r h id is in
      ap register_of (call_is n registers h good id at on.0 op on.1 was on.2).1 ∙ on.3

  pub off_register : (r : ℕ) (id : OpId) (at : ℕ) (op : Op) → IsCalled h id at op → register_of op ≢ r
      → is_on r h id ≡ false
  off_register r id at op was off = false_from_ne_true (is_on r h id) (λ is. off (register_is r id at op was is))

  -- an operation that was called is of one of the registers
  pub some_register : (id : OpId) → WasCalled h id → (r : ℕ) × (r < registers) × (is_on r h id ≡ true)
  some_register id (at, op, (k, here)) = (register_of op, (good k (Called at id op) here).register, on_register_is (register_of op) h id (at, op, (k, here), refl))

  pub finished_called : (id : OpId) → IsFinished h id → WasCalled h id
  finished_called id (at, answer, was) = answered_was_called n registers h good id at answer was
