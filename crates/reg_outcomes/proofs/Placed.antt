-- Operations of a history, placed one after another.
use Rattle.std.proofs.Common.{◌≡◌, ◌↔◌, IsTrue, Bool, ℕ, ◌+◌, ◌<◌, List, take, refl, ap, sym, ◌∙◌, subst, length-set}
use Rattle.std.specs.Prelude.{slice_index}
use Rattle.std.proofs.lemmas.List.{length-replicate}
use Rattle.reg_base.specs.declared.limits.TheConstants.{MOST_OPERATIONS}
use Rattle.reg_base.specs.declared.memory.Answer.{Answer}
use Rattle.reg_base.specs.declared.memory.Op.{Op}
use Rattle.reg_base.specs.declared.memory.OpId.{OpId}
use Rattle.reg_base.specs.Memory.{answer_of, register_of}
use Rattle.reg_base.proofs.Operations.{length-after}
use Rattle.reg_checkers.specs.declared.entries.Entry.{Entry}
use Rattle.reg_checkers.specs.declared.entries.Entry.TheVariants.{Called}
use Rattle.reg_checkers.specs.History.{IsCalled, IsHistory, MayCall, WasCalled}
use Rattle.reg_checkers.specs.Progress.{op_of}
use Rattle.reg_checkers.proofs.Histories.{call_is}
use Rattle.reg_outcomes.specs.declared.orders.kinds.OrderKind.{OrderKind}
use Rattle.reg_outcomes.specs.declared.orders.kinds.OrderKind.TheVariants.{Points}
use Rattle.reg_outcomes.specs.Finding.{ArePlacedBefore, MayCome, MayFollow, Next, Nothing, Places, placed_after}
use Rattle.reg_outcomes.specs.Interleavings.{Stage}
use Rattle.reg_outcomes.specs.Placing.{HasRoomFor, IsPlaced}

module _ (kind : OrderKind) (n registers : ℕ) (h : List Entry) where
  pub room : (ids : List OpId) (s : Stage) → Places kind n registers h ids s → HasRoomFor n registers s
  room ids s Nothing = record { next = length-replicate n 0; memory = length-replicate registers 0 }
  room ids s (Next {ids = old} {s = from} id op at places number called comes follows) =
      let before = room old from places in
      record { next = length-set from.next id.process (slice_index from.next id.process + 1) ∙ before.next; memory = length-after op from.memory ∙ before.memory }

  -- where an operation was placed, its process has it as the next one
  pub placing : (id : OpId) (op : Op) (at : ℕ) (from : Stage) → id.number ≡ slice_index from.next id.process
      → IsCalled h id at op → MayCome h id op (answer_of op from.memory) → MayFollow kind h from.next id
      → IsPlaced kind h id.process from (placed_after id.process op from)
  placing id op at from number called comes follows =
      let name : id ≡ op_of id.process (slice_index from.next id.process) = ap (op_of id.process) number in
      record { op = op; at = at; called = subst (λ i. IsCalled h i at op) name called; comes = subst (λ i. MayCome h i op (answer_of op from.memory)) name comes; follows = subst (λ i. MayFollow kind h from.next i) name follows; stage = refl }

  module _ (good : IsHistory n registers h) where
    pub in_bounds : (id : OpId) (at : ℕ) (op : Op) → IsCalled h id at op → (id.process < n) × (register_of op < registers) × (id.number < MOST_OPERATIONS)
    in_bounds id at op (k, here) = let may : MayCall n registers (take k h) at id op = good k (Called at id op) here in (may.process, may.register, may.fits)

    -- a process has one next operation
    pub placed_once : (p : ℕ) (from to other : Stage) → IsPlaced kind h p from to → IsPlaced kind h p from other → to ≡ other
    placed_once p from to other a b =
        let same : a.op ≡ b.op = (call_is n registers h good (op_of p (slice_index from.next p)) a.at b.at a.op b.op a.called b.called).1 in
        a.stage ∙ ap (λ (o : Op). placed_after p o from) same ∙ sym b.stage

    -- where the next operation of a process may come, its answer and its number are these
    pub comes_here : (p number : ℕ) (s to : Stage) (at : ℕ) (op : Op) (answer : Answer) → number ≡ slice_index s.next p → answer ≡ answer_of op s.memory → IsCalled h (op_of p number) at op → IsPlaced kind h p s to → MayCome h (op_of p number) op answer
    comes_here p number s to at op answer is given called step =
        let there = subst (λ m. IsCalled h (op_of p m) at op) is called in
        let same : step.op ≡ op = (call_is n registers h good (op_of p (slice_index s.next p)) step.at at step.op op step.called there).1 in
        let come = subst (λ (o : Op). MayCome h (op_of p (slice_index s.next p)) o (answer_of o s.memory)) same step.comes in
        subst (λ m. MayCome h (op_of p m) op answer) (sym is) (subst (λ (x : Answer). MayCome h (op_of p (slice_index s.next p)) op x) (sym given) come)

module _ (kind : OrderKind) (h : List Entry) (p number : ℕ) (s : Stage) (is : number ≡ slice_index s.next p) where
  pub is_placed : (later : Stage) (at : ℕ) (op : Op) (answer : Answer) → answer ≡ answer_of op s.memory
      → IsCalled h (op_of p number) at op → MayCome h (op_of p number) op answer
      → MayFollow kind h s.next (op_of p number) → later ≡ placed_after p op s → IsPlaced kind h p s later
  is_placed later at op answer given called comes follows stage = record {
    op = op;
    at = at;
    called = subst (λ m. IsCalled h (op_of p m) at op) is called;
    comes = subst (λ m. MayCome h (op_of p m) op (answer_of op s.memory)) is (subst (λ (x : Answer). MayCome h (op_of p number) op x) given comes);
    follows = subst (λ m. MayFollow kind h s.next (op_of p m)) is follows;
    stage = stage;
  }

  pub not_placed : (¬ WasCalled h (op_of p number)) → (to : Stage) → IsPlaced kind h p s to → ⊥
  not_placed none to step = none (subst (λ m. WasCalled h (op_of p m)) (sym is) (step.at, step.op, step.called))

-- whether an operation may follow, by its call
pub follows_by_call : (kind : OrderKind) (n registers : ℕ) (h : List Entry) → IsHistory n registers h
    → (next : List ℕ) (id : OpId) (at : ℕ) (op : Op) → kind ≡ Points → IsCalled h id at op → (b : Bool)
    → IsTrue b ↔ ArePlacedBefore h next at → IsTrue b ↔ MayFollow kind h next id
follows_by_call kind n registers h good next id at op e called b test = (
  λ t. subst (λ k. MayFollow k h next id) (sym e) (λ s o call. subst (ArePlacedBefore h next) (call_is n registers h good id at s op o called call).0 (test.0 t)),
  λ may. test.1 (due (subst (λ k. MayFollow k h next id) e may)),
)
  where
    due : MayFollow Points h next id → ArePlacedBefore h next at
    due may = may at op called
