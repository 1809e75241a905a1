-- How the three named front ends start an operation, and their names.
use Rattle.std.specs.Prelude.{ℕ, ◌==◌, cond, List, codes}
use Rattle.reg_base.specs.declared.memory.Op.{Op}
use Rattle.reg_base.specs.declared.memory.Op.TheVariants.{Read, Write, Swap, CompareAndSwap}
use Rattle.reg_front.specs.declared.starts.Start.{Start}
use Rattle.reg_front.specs.declared.starts.Start.TheVariants.{Cast as Casts, CastAndAnswer as CastsAndAnswers}
use Rattle.reg_front.specs.declared.starts.Start.TheVariants.{Look as Looks, Hold as Holds}
use Rattle.reg_front.specs.declared.named.Front.{Front}
use Rattle.reg_front.specs.declared.named.Front.TheVariants.{Linear, LocalRead, LocalWrite}

abbrev pub linear : Op → ℕ → Start
linear op unsettled = Casts

abbrev pub local_read : Op → ℕ → Start
local_read (Read r) unsettled = cond (unsettled == 0) Looks Holds
local_read (Write r v) unsettled = Casts
local_read (Swap r v) unsettled = Casts
local_read (CompareAndSwap r e v) unsettled = Casts

abbrev pub local_write : Op → ℕ → Start
local_write (Read r) unsettled = cond (unsettled == 0) Looks Holds
local_write (Write r v) unsettled = CastsAndAnswers
local_write (Swap r v) unsettled = Casts
local_write (CompareAndSwap r e v) unsettled = Casts

-- how the front end of this name starts an operation
abbrev pub start_of : Front → Op → ℕ → Start
start_of Linear = linear
start_of LocalRead = local_read
start_of LocalWrite = local_write

-- the name of a front end in texts
abbrev pub front_name : Front → List ℕ
front_name Linear = codes "linear"
front_name LocalRead = codes "local-read"
front_name LocalWrite = codes "local-write"
