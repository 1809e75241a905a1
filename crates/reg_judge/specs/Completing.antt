-- How a history goes on: the operations of one register take effect one after another, each between its call and its
-- answer. They carry a proof: no promise speaks of them.
use Rattle.std.specs.Prelude.{ℕ, suc, ◌≡◌, ◌⊎◌, List, [], ◌∷◌, Option, Some, None, cond, nat_eq}
use Rattle.reg_base.specs.declared.memory.OpId.{OpId}
use Rattle.reg_base.specs.declared.memory.Op.{Op}
use Rattle.reg_base.specs.declared.memory.Answer.{Answer}
use Rattle.reg_checkers.specs.declared.entries.Entry.{Entry}
use Rattle.reg_checkers.specs.declared.entries.Entry.TheVariants.{Called, Answered}
use Rattle.reg_checkers.specs.History.{IsAt}
use Rattle.reg_judge.specs.declared.acts.Act.{Act}
use Rattle.reg_judge.specs.declared.acts.Ask.TheVariants.{Anything}
use Rattle.reg_judge.specs.Acts.{Fits, Heeds, value_after}

-- the function with another value at one place
abbrev pub put : {X : Type 0} → (ℕ → X) → ℕ → X → ℕ → X
put f p x q = cond (nat_eq q p) x (f q)

-- what runs in each process
abbrev pub Running : Type 0
Running = ℕ → Option Act

-- the process runs an operation on this register
abbrev pub IsOn : ℕ → Running → ℕ → Type 0
IsOn r run p = (a : Act) × (run p ≡ Some a) × (a.register ≡ r)

-- The entries that follow can be gone through, with at most n operations of register r placed, where these operations
-- run, those of the processes of which 1 is told are placed already, and the register has this value: an operation is
-- placed once, while it runs, where it fits the value, and before its answer.
pub data Completes (r : ℕ) (act : OpId → Option Act) : ℕ → Running → (ℕ → ℕ) → ℕ → List Entry → Type 0 where
  Ends : {n : ℕ} {run : Running} {placed : ℕ → ℕ} {v : ℕ} → Completes r act n run placed v []
  Places : {n : ℕ} {run : Running} {placed : ℕ → ℕ} {v : ℕ} {es : List Entry} (p : ℕ) (a : Act) → run p ≡ Some a
      → a.register ≡ r → placed p ≡ 0 → Fits a v → Completes r act n run (put placed p 1) (value_after a v) es
      → Completes r act (suc n) run placed v es
  Calls : {n : ℕ} {run : Running} {placed : ℕ → ℕ} {v : ℕ} {es : List Entry} (at : ℕ) (id : OpId) (op : Op)
      → run id.process ≡ None → Completes r act n (put run id.process (act id)) placed v es
      → Completes r act n run placed v (Called at id op ∷ es)
  Answers : {n : ℕ} {run : Running} {placed : ℕ → ℕ} {v : ℕ} {es : List Entry} (at : ℕ) (id : OpId) (answer : Answer)
      → IsOn r run id.process → placed id.process ≡ 1
      → Completes r act n (put run id.process None) (put placed id.process 0) v es
      → Completes r act n run placed v (Answered at id answer ∷ es)
  Elsewhere : {n : ℕ} {run : Running} {placed : ℕ → ℕ} {v : ℕ} {es : List Entry} (at : ℕ) (id : OpId) (answer : Answer)
      → ¬ IsOn r run id.process → Completes r act n (put run id.process None) placed v es
      → Completes r act n run placed v (Answered at id answer ∷ es)

-- no operation that runs on this register, or is called on it later, heeds this value
pub record IsUnneeded (r : ℕ) (act : OpId → Option Act) (run : Running) (es : List Entry) (u : ℕ) : Type 0 where
  pub running : (p : ℕ) (a : Act) → run p ≡ Some a → a.register ≡ r → ¬ Heeds a.asks u
  pub later : (k at : ℕ) (id : OpId) (op : Op) (a : Act) → IsAt es k (Called at id op) → act id ≡ Some a
      → a.register ≡ r → ¬ Heeds a.asks u

-- the operation may be placed at any time without harm: it makes nothing, or it asks nothing and makes what none heeds
abbrev pub IsFree : ℕ → (OpId → Option Act) → Running → List Entry → Act → Type 0
IsFree r act run es a =
    (a.makes ≡ None) ⊎ ((a.asks ≡ Anything) × ((u : ℕ) → a.makes ≡ Some u → IsUnneeded r act run es u))

-- what is placed in one place is placed in the other, and there are besides only operations that do no harm
abbrev pub Covers : ℕ → (OpId → Option Act) → Running → List Entry → (ℕ → ℕ) → (ℕ → ℕ) → Type 0
Covers r act run es few more =
    (p : ℕ)
    → (more p ≡ few p)
    ⊎ ((few p ≡ 0) × (more p ≡ 1) × ((a : Act) × (run p ≡ Some a) × (a.register ≡ r) × IsFree r act run es a))
