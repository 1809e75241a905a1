-- What operations answer, from a memory on, and that one on a register looks at that register alone.
use Rattle.std.proofs.Common.{◌≡◌, ◌≢◌, ◌⊎◌, inl, inr, ℕ, zero, suc, ◌<◌, Bool, true, false, cond, ◌==◌, List, [], ◌∷◌}
use Rattle.std.proofs.Common.{take, length, refl, ap, ap₂, sym, ◌∙◌, subst}
use Rattle.std.specs.Prelude.{slice_index}
use Rattle.std.specs.Option.{unwrap_or}
use Rattle.std.specs.List.{AllZip, filter}
use Rattle.std.proofs.lemmas.Bool.{cases_eq}
use Rattle.std.proofs.lemmas.Option.{same_Some}
use Rattle.reg_base.specs.declared.memory.OpId.{OpId}
use Rattle.reg_base.specs.declared.memory.Op.{Op}
use Rattle.reg_base.specs.declared.memory.Op.TheVariants.{Read, Write, Swap, CompareAndSwap}
use Rattle.reg_base.specs.declared.memory.Answer.{Answer}
use Rattle.reg_base.specs.declared.memory.Answer.TheVariants.{Done, Value, Unequal}
use Rattle.reg_base.specs.Memory.{Memory, after, answer_of, memory_after, register_of}
use Rattle.reg_base.proofs.Operations.{length-after}
use Rattle.reg_checkers.specs.declared.entries.Entry.{Entry}
use Rattle.reg_checkers.specs.History.{IsAt, IsAnswered, IsCalled, IsHistory, WasCalled}
use Rattle.reg_judge.specs.Acts.{made}
use Rattle.reg_judge.specs.Parts.{part_at}
use Rattle.reg_judge.proofs.PartFacts.{answered_down, answered_up, called_down, called_up, is_on, off_register}
use Rattle.reg_judge.proofs.PartFacts.{on_register_is, register_is, some_register}
use Rattle.reg_judge.proofs.Registers.{goes_on, value_off}

-- the register has one value in both memories
pub record Agrees (r : ℕ) (m other : Memory) : Type 0 where
  pub same : slice_index m r ≡ slice_index other r
  pub fits : r < length m
  pub also : r < length other

pub answer_same : (op : Op) (m other : Memory) (r : ℕ) → register_of op ≡ r → slice_index m r ≡ slice_index other r
    → answer_of op m ≡ answer_of op other
answer_same (Read q) m other r is same = ap Value (ap (slice_index m) is ∙ same ∙ ap (slice_index other) (sym is))
answer_same (Write q v) m other r is same = refl
answer_same (Swap q v) m other r is same = ap Value (ap (slice_index m) is ∙ same ∙ ap (slice_index other) (sym is))
answer_same (CompareAndSwap q e v) m other r is same =
    ap (λ (x : ℕ). cond (x == e) Done Unequal) (ap (slice_index m) is ∙ same ∙ ap (slice_index other) (sym is))

pub after_same : (op : Op) (m other : Memory) (r : ℕ) → register_of op ≡ r → Agrees r m other
    → Agrees r (after op m) (after op other)
after_same op m other r is agrees = record {
  same =
      let one = goes_on op m r (answer_of op m) is agrees.fits refl in
      let two = goes_on op other r (answer_of op other) is agrees.also refl in
      sym one.leaves ∙ ap₂ (λ (a : Answer) (v : ℕ). unwrap_or (made op a) v) (answer_same op m other r is agrees.same) agrees.same ∙ two.leaves;
  fits = subst (λ (l : ℕ). r < l) (sym (length-after op m)) agrees.fits;
  also = subst (λ (l : ℕ). r < l) (sym (length-after op other)) agrees.also;
}

-- an operation on another register
pub after_off : (op : Op) (m : Memory) (r : ℕ) → register_of op ≢ r → r < length m → Agrees r (after op m) m
after_off op m r off fits =
    record { same = value_off op m r off; fits = subst (λ (l : ℕ). r < l) (sym (length-after op m)) fits; also = fits }

turned : (r : ℕ) (m other : Memory) → Agrees r m other → Agrees r other m
turned r m other agrees = record { same = sym agrees.same; fits = agrees.also; also = agrees.fits }

-- where the operation is finished, it has the answer of this memory
abbrev pub Gives : List Entry → Memory → OpId → Op → Type 0
Gives h m id op = (at : ℕ) (answer : Answer) → IsAnswered h id at answer → answer ≡ answer_of op m

-- each of these operations was called, and has the answer of the memory after those before it, from this one on
abbrev pub Runs : List Entry → Memory → List OpId → Type 0
Runs h m [] = Unit {0}
Runs h m (id ∷ ids) = (op : Op) × ((at : ℕ) × IsCalled h id at op) × Gives h m id op × Runs h (after op m) ids

abbrev pub AreCalls : List Entry → List OpId → List Op → Type 0
AreCalls h ids ops = AllZip (λ id op. (at : ℕ) × IsCalled h id at op) ids ops

abbrev pub AreRight : List Entry → Memory → List OpId → List Op → Type 0
AreRight h m ids ops = (k : ℕ) (id : OpId) (op : Op) (at : ℕ) (answer : Answer) → IsAt ids k id → IsAt ops k op → IsAnswered h id at answer → answer ≡ answer_of op (memory_after (take k ops) m)

pub runs_from : (h : List Entry) (m : Memory) (ids : List OpId) (ops : List Op) → AreCalls h ids ops
    → AreRight h m ids ops → Runs h m ids
runs_from h m [] ops calls right = tt
runs_from h m (id ∷ ids) [] calls right = absurd calls
runs_from h m (id ∷ ids) (op ∷ ops) calls right = (op, calls.0, λ at answer is. right 0 id op at answer refl refl is, runs_from h (after op m) ids ops calls.1 (λ k x o at answer a b is. right (suc k) x o at answer a b is))

pub ops_of : (h : List Entry) (m : Memory) (ids : List OpId) → Runs h m ids → List Op
ops_of h m [] runs = []
ops_of h m (id ∷ ids) (op, called, gives, rest) = op ∷ ops_of h (after op m) ids rest

pub calls_of : (h : List Entry) (m : Memory) (ids : List OpId) (runs : Runs h m ids)
    → AreCalls h ids (ops_of h m ids runs)
unfolding ops_of
calls_of h m [] runs = tt
calls_of h m (id ∷ ids) (op, called, gives, rest) = (called, calls_of h (after op m) ids rest)

pub right_of : (h : List Entry) (m : Memory) (ids : List OpId) (runs : Runs h m ids)
    → AreRight h m ids (ops_of h m ids runs)
unfolding ops_of
right_of h m [] runs k x o at answer here there is = absurd cc
right_of h m (id ∷ ids) (op, called, gives, rest) zero x o at answer here there is =
    gives at answer (subst (λ (y : OpId). IsAnswered h y at answer) (sym (same_Some id x here)) is) ∙ ap (λ (y : Op). answer_of y m) (same_Some op o there)
right_of h m (id ∷ ids) (op, called, gives, rest) (suc k) x o at answer here there is =
    right_of h (after op m) ids rest k x o at answer here there is

-- operations on one register, from another memory in which it has the same value
pub runs_same : (h : List Entry) (r : ℕ) → ((id : OpId) (at : ℕ) (op : Op) → IsCalled h id at op → register_of op ≡ r)
    → (ids : List OpId) (m other : Memory) → Agrees r m other → Runs h m ids → Runs h other ids
runs_same h r on [] m other agrees runs = tt
runs_same h r on (id ∷ ids) m other agrees (op, (at, called), gives, rest) =
    let is = on id at op called in
    (op, (at, called), λ s answer was. gives s answer was ∙ answer_same op m other r is agrees.same, runs_same h r on ids (after op m) (after op other) (after_same op m other r is agrees) rest)

module _ (n registers : ℕ) (h : List Entry) (good : IsHistory n registers h) where
  part_on : (r : ℕ) (id : OpId) (at : ℕ) (op : Op) → IsCalled (part_at r h) id at op → register_of op ≡ r
  part_on r id at op was = (called_up r h id at op was).1

  -- the operations of one register among others
  pub runs_part : (r : ℕ) (ids : List OpId) (m : Memory) → r < length m → Runs h m ids
      → Runs (part_at r h) m (filter (is_on r h) ids)
  runs_part r [] m fits runs = tt
  runs_part r (id ∷ ids) m fits (op, (at, called), gives, rest) =
      go (is_on r h id) refl (runs_part r ids (after op m) (subst (λ (l : ℕ). r < l) (sym (length-after op m)) fits) rest)
    where
      go : (b : Bool) → is_on r h id ≡ b → Runs (part_at r h) (after op m) (filter (is_on r h) ids) → Runs (part_at r h) m (cond b (id ∷ filter (is_on r h) ids) (filter (is_on r h) ids))
      go true is later = (op, (at, called_down r h id at op called (register_is n registers h good r id at op called is)), λ s answer was. gives s answer (answered_up r h id s answer was).0, later)
      go false is later =
          let off : register_of op ≢ r = λ on. (let yes : is_on r h id ≡ true = on_register_is r h id (at, op, called, on) in let bad : ⊥ = cc in bad) in
          runs_same (part_at r h) r (part_on r) (filter (is_on r h) ids) (after op m) m (after_off op m r off fits) later

  -- all operations, by those of each register
  pub runs_whole : (ids : List OpId) (m : Memory) → length m ≡ registers
      → ((k : ℕ) (id : OpId) → IsAt ids k id → WasCalled h id)
      → ((r : ℕ) → r < registers → Runs (part_at r h) m (filter (is_on r h) ids)) → Runs h m ids
  runs_whole [] m size known parts = tt
  runs_whole (id ∷ ids) m size known parts =
      let on = some_register n registers h good id (known 0 id refl) in
      let r = on.0 in
      let first : Runs (part_at r h) m (id ∷ filter (is_on r h) ids) = subst (λ (b : Bool). Runs (part_at r h) m (cond b (id ∷ filter (is_on r h) ids) (filter (is_on r h) ids))) on.2 (parts r on.1) in
      let op : Op = first.0 in
      let at : ℕ = first.1.0 in
      let called = called_up r h id at op first.1.1 in (
        op,
        (at, called.0),
        λ s answer was. first.2 s answer (answered_down r h id s answer was on.2),
        runs_whole ids (after op m) (length-after op m ∙ size) (λ k x there. known (suc k) x there) (λ q lt. next r op at called.0 called.1 first.3 q lt (cases_eq q r)),
      )
    where
      next : (r : ℕ) (op : Op) (at : ℕ) → IsCalled h id at op → register_of op ≡ r → Runs (part_at r h) (after op m) (filter (is_on r h) ids) → (q : ℕ) → q < registers → (q ≡ r) ⊎ (q ≡ r → ⊥) → Runs (part_at q h) (after op m) (filter (is_on q h) ids)
      next r op at called is rest q lt (inl same) = subst (λ (x : ℕ). Runs (part_at x h) (after op m) (filter (is_on x h) ids)) (sym same) rest
      next r op at called is rest q lt (inr apart) =
          let off : register_of op ≢ q = λ on. apart (sym on ∙ is) in
          let later : Runs (part_at q h) m (filter (is_on q h) ids) = subst (λ (b : Bool). Runs (part_at q h) m (cond b (id ∷ filter (is_on q h) ids) (filter (is_on q h) ids))) (off_register n registers h good q id at op called off) (parts q lt) in
          runs_same (part_at q h) q (part_on q) (filter (is_on q h) ids) m (after op m) (turned q (after op m) m (after_off op m q off (subst (λ (l : ℕ). q < l) (sym size) lt))) later
