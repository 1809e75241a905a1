-- What a line of a history tells. To be believed: promises speak of it.
use Rattle.std.specs.Prelude.{ℕ, ◌≡◌, ◌&&◌, Bool, true, false, not, List, codes, Option, Some, None, Result, Ok, Err}
use Rattle.std.specs.Prelude.{if◌then◌else◌}
use Rattle.std.specs.Str.{bytes_eq}
use Rattle.reg_observed.specs.declared.events.Moment.{Moment}
use Rattle.reg_observed.specs.declared.events.Moment.TheVariants as moments
use Rattle.reg_judge.specs.declared.rulings.rows.Act.{Act}
use Rattle.reg_judge.specs.declared.rulings.rows.Act.TheVariants.{Read, Write, Swap, CompareAndSwap}
use Rattle.reg_observed.specs.declared.faults.Why.{Why}
use Rattle.reg_observed.specs.declared.faults.Why.TheVariants.{BadFunction, NoValue}
use Rattle.reg_observed.specs.declared.faults.Untold.{Untold}
use Rattle.reg_observed.specs.declared.faults.Untold.TheVariants as untold

-- An event of a call: process, key and values by their texts. What is expected is null where it is no compare-and-swap.
pub record Telling : Type 0 where
  pub process : List ℕ
  pub moment : Moment
  pub act : Act
  pub key : List ℕ
  pub expected : List ℕ
  pub value : List ℕ

infixl 10 ◌>>=◌
abbrev pub ◌>>=◌ : {A B : Type 0} → Result A Why → (A → Result B Why) → Result B Why
(Ok x) >>= f = f x
(Err e) >>= f = Err e

-- What a function returned, seen by view, is this, unless memory ran out.
abbrev pub Fails : {Y : Type 0} → Untold → Result Y Why → Type 0
Fails untold.OutOfMemory told = Unit {0}
Fails (untold.Line why) told = told ≡ Err why

abbrev pub Gives : {X Y : Type 0} → (X → Y) → Result X Untold → Result Y Why → Type 0
Gives view (Ok x) told = told ≡ Ok (view x)
Gives view (Err e) told = Fails e told

-- the moment of this name
abbrev pub moment_named : List ℕ → Option Moment
moment_named name =
    if bytes_eq name (codes "invoke") then Some moments.Invoke else
    if bytes_eq name (codes "ok") then Some moments.Ok else
    if bytes_eq name (codes "fail") then Some moments.Fail else
    if bytes_eq name (codes "info") then Some moments.Info else None

-- the operation of this name
abbrev pub act_named : List ℕ → Result Act Why
act_named name =
    if bytes_eq name (codes "read") then Ok Read else
    if bytes_eq name (codes "write") then Ok Write else
    if bytes_eq name (codes "swap") then Ok Swap else
    if bytes_eq name (codes "cas") then Ok CompareAndSwap else Err BadFunction

abbrev pub is_invoke : Moment → Bool
is_invoke moments.Invoke = true
is_invoke _ = false

abbrev pub is_read : Act → Bool
is_read Read = true
is_read _ = false

abbrev pub is_compare_and_swap : Act → Bool
is_compare_and_swap CompareAndSwap = true
is_compare_and_swap _ = false

-- How a call is answered that is said to have failed. A compare-and-swap may have failed for any reason, so it did not
-- happen, unless it is said that the register had another value: that is an answer, which tells of the register.
abbrev pub failed_as : Act → Bool → Moment
failed_as CompareAndSwap true = moments.Unequal
failed_as act unequal = moments.Fail

-- the moment, where `unequal` says whether the line tells of another value
abbrev pub moment_of : Moment → Act → Bool → Moment
moment_of moments.Fail act unequal = failed_as act unequal
moment_of moment act unequal = moment

-- the call of an update of null
abbrev pub has_no_value : Moment → Act → List ℕ → Bool
has_no_value moment act value = is_invoke moment && not (is_read act) && bytes_eq value (codes "null")

-- an update is called with a value
abbrev pub with_value : Telling → Result Telling Why
with_value t = if has_no_value t.moment t.act t.value then Err NoValue else Ok t
