-- The named front ends keep the laws.
use Rattle.std.proofs.Common.{◌≡◌, ℕ, ◌<◌, Bool, true, false, refl, arith}
use Rattle.std.specs.Prelude.{◌==◌, cond}
use Rattle.std.proofs.lemmas.Bool.{eqb-true}
use Rattle.std.proofs.lemmas.Bool.Decides.{nat_tests}
use Rattle.reg_base.specs.declared.memory.Op.TheVariants.{Read, Write, Swap, CompareAndSwap}
use Rattle.reg_front.specs.declared.starts.Start.TheVariants.{Look as Looks, Hold as Holds}
use Rattle.reg_front.specs.Fronts.{MayStart, KeepsLaws, CastsAll}
use Rattle.reg_front.specs.Table.{linear, local_read, local_write}

waits : (r u : ℕ) (b : Bool) → (u == 0) ≡ b → MayStart (Read r) u (cond b Looks Holds)
waits r u true e = (refl, eqb-true u 0 e)
waits r u false e = (refl, (let h : 0 < u = grind (arith, nat_tests) in h))

pub linear_keeps : KeepsLaws linear
linear_keeps op u = tt

pub linear_casts : CastsAll linear
linear_casts op u = refl

pub local_read_keeps : KeepsLaws local_read
local_read_keeps (Read r) u = waits r u (u == 0) refl
local_read_keeps (Write r v) u = tt
local_read_keeps (Swap r v) u = tt
local_read_keeps (CompareAndSwap r e v) u = tt

pub local_write_keeps : KeepsLaws local_write
local_write_keeps (Read r) u = waits r u (u == 0) refl
local_write_keeps (Write r v) u = λ m. refl
local_write_keeps (Swap r v) u = tt
local_write_keeps (CompareAndSwap r e v) u = tt
