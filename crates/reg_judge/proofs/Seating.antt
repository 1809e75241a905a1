-- Rows that stand in a history, one after another.
use Rattle.std.proofs.Common.{ℕ, ◌≡◌, ◌+◌, ◌<◌, ◌≤◌, List, [], ◌∷◌, ◌++◌, length, take, get_or, replicate, slice_set}
use Rattle.std.proofs.Common.{Option, Some, None, Result, OnOk, refl, ap, sym, ◌∙◌, subst, arith, add-one, length-set}
use Rattle.std.proofs.Common.{zero, suc}
use Rattle.reg_base.specs.declared.memory.OpId.{OpId}
use Rattle.reg_base.specs.declared.memory.Op.{Op}
use Rattle.reg_base.specs.Shape.{Extent}
use Rattle.reg_checkers.specs.declared.entries.Entry.{Entry}
use Rattle.reg_checkers.specs.declared.entries.Entry.TheVariants.{Called}
use Rattle.reg_checkers.specs.History.{IsAt, IsHistory, IsInPlace, MayCall, WasCalled}
use Rattle.reg_checkers.specs.Log.{Grows, IsLog, Log}
use Rattle.reg_checkers.proofs.Pushing.{history_more}
use Rattle.reg_judge.specs.declared.rulings.rows.Act.{Act}
use Rattle.reg_judge.specs.declared.rulings.rows.Step.{Step}
use Rattle.reg_judge.specs.declared.rulings.rows.Step.TheVariants.{Call, Answer}
use Rattle.reg_judge.specs.declared.rulings.rows.Row.{Row}
use Rattle.reg_judge.specs.declared.rulings.seats.LastCall.{LastCall}
use Rattle.reg_judge.specs.declared.rulings.seats.Naming.{Naming}
use Rattle.reg_judge.specs.Standing.{MayName, OneMore, OneMore-by, Stands, Nothing, More, act_op}

pub take_more : {X : Type 0} (xs : List X) (i : ℕ) (d : X) → i < length xs
    → take (i + 1) xs ≡ take i xs ++ get_or xs i d ∷ []
take_more {X} xs i d lt = rw add-one (go xs i lt)
  where
    go : (xs : List X) (i : ℕ) → i < length xs → take (suc i) xs ≡ take i xs ++ get_or xs i d ∷ []
    go [] i lt = absurd (omega arith)
    go (x ∷ xs) zero lt = refl
    go (x ∷ xs) (suc i) lt = ap (λ l. x ∷ l) (go xs i (omega arith))

pub take_all : {X : Type 0} (xs : List X) (i : ℕ) → length xs ≤ i → take i xs ≡ xs
take_all [] zero le = refl
take_all [] (suc i) le = refl
take_all (x ∷ xs) zero le = absurd (omega arith)
take_all (x ∷ xs) (suc i) le = ap (λ l. x ∷ l) (take_all xs i (omega arith))

-- of each process its last call is kept
pub as_many : (naming : Naming) (row : Row) (held after : List (Option LastCall)) (entries more : List Entry)
    → OneMore naming row held entries after more → length after ≡ length held
as_many naming row held after entries more = go row.step
  where
    go : (s : Step) → OneMore-by s naming row held entries after more → length after ≡ length held
    go (Call act expected value) (id, may, anew, grown, is) = ap length is ∙ length-set held row.process (Some (record { id = id; key = row.key }))
    go (Answer answer) (id, had, grown, is) = ap length is

-- a call that was added, as the definition has it
pub call_stands : {T E : Type 0} (result : Result T E) (naming : Naming) (row : Row)
    (held after : List (Option LastCall)) (entries more : List Entry) (act : Act) (expected value : ℕ) (op : Op)
    → row.step ≡ Call act expected value → op ≡ act_op act row.key expected value
    → OnOk result ((id : OpId) × MayName naming row.process id.process × (¬ WasCalled entries id) × (more ≡ entries ++ Called row.at id op ∷ []) × (after ≡ slice_set held row.process (Some (record { id = id; key = row.key })))) → OnOk result (OneMore naming row held entries after more)
call_stands result naming row held after entries more act expected value op step same stands =
    let P : Op → Type 0 = λ o. OnOk result ((id : OpId) × MayName naming row.process id.process × (¬ WasCalled entries id) × (more ≡ entries ++ Called row.at id o ∷ []) × (after ≡ slice_set held row.process (Some (record { id = id; key = row.key })))) in
    let Q : Step → Type 0 = λ s. OnOk result (OneMore-by s naming row held entries after more) in
    subst Q (sym step) (subst P same stands)

pub stands_more : (naming : Naming) (processes : ℕ) (rows : List Row) (i : ℕ) (d : Row)
    (held after : List (Option LastCall)) (entries more : List Entry)
    → i < length rows
    → Stands naming processes (take i rows) held entries → OneMore naming (get_or rows i d) held entries after more → Stands naming processes (take (i + 1) rows) after more
stands_more naming processes rows i d held after entries more lt before one =
    let P : List Row → Type 0 = λ l. Stands naming processes l after more in
    subst P (sym (take_more rows i d lt)) (More (get_or rows i d) before one)

pub stands_first : (naming : Naming) (processes : ℕ) (rows : List Row) (held : List (Option LastCall))
    (entries : List Entry)
    → held ≡ replicate processes None → entries ≡ [] → Stands naming processes (take 0 rows) held entries
stands_first naming processes rows held entries h e =
    let P : List (Option LastCall) → Type 0 = λ x. Stands naming processes [] x entries in
    let Q : List Entry → Type 0 = λ x. Stands naming processes [] (replicate processes None) x in
    subst P (sym h) (subst Q (sym e) Nothing)

pub length_replicate : {X : Type 0} (n : ℕ) (x : X) → length (replicate n x) ≡ n
length_replicate zero x = refl
length_replicate (suc n) x = ap suc (length_replicate n x)

-- a call that may come next has a new name
pub is_new : (places registers : ℕ) (entries : List Entry) (at : ℕ) (id : OpId) (op : Op)
    → IsInPlace places registers entries (Called at id op) → ¬ WasCalled entries id
is_new places registers entries at id op place was =
    let may : MayCall places registers entries at id op = place in
    let lt : id.number < id.number = (may.next id.number).1 was in
    omega (arith, lt)

-- with an entry in place, a history stays one
pub stays_log : (old new : Log) (e : Entry) → Grows old new e → IsLog old → IsLog new
stays_log old new e grows good =
    let more : IsHistory old.shape.processes old.shape.registers (old.entries ++ e ∷ []) = history_more old.shape.processes old.shape.registers old.entries e good grows.in_place in
    subst (λ (x : Extent). IsHistory x.processes x.registers new.entries) (sym grows.shape) (subst (λ (es : List Entry). IsHistory old.shape.processes old.shape.registers es) (sym grows.entries) more)

nothing_at : (k : ℕ) (e : Entry) → IsAt [] k e → ⊥
nothing_at k e at = cc

-- no entries are a history
pub no_log : (h : Log) → h.entries ≡ [] → IsLog h
no_log h none k e at = absurd (nothing_at k e (subst (λ (es : List Entry). IsAt es k e) none at))
