-- A search through all arrangements of a few operations for a legal one in which a stands before b.
use Rattle.std.specs.Prelude.{ℕ, zero, suc, Bool, true, false, not, ◌&&◌, ◌||◌, ◌==◌, nat_lt, cond, List, Option, Some}
use Rattle.std.specs.Prelude.{None}
use Rattle.std.specs.Option.{is_some}
use Rattle.std.specs.List.{filter, list_any, list_all}
use Rattle.reg_base.specs.declared.memory.OpId.{OpId}
use Rattle.reg_base.specs.declared.memory.Op.{Op}
use Rattle.reg_base.specs.declared.memory.Answer.{Answer}
use Rattle.reg_base.specs.declared.memory.Answer.TheVariants.{Done, Value, Unequal}
use Rattle.reg_base.specs.Memory.{Memory, answer_of, after}

-- an operation that was called, with its answer
pub record Fact : Type 0 where
  pub id : OpId
  pub op : Op
  pub told : Option Answer

abbrev pub is_id : OpId → OpId → Bool
is_id a b = (a.process == b.process) && (a.number == b.number)

abbrev pub same_answer : Answer → Answer → Bool
same_answer Done Done = true
same_answer Unequal Unequal = true
same_answer (Value u) (Value v) = u == v
same_answer x y = false

-- whatever it was told is this answer
abbrev pub is_told : Option Answer → Answer → Bool
is_told None x = true
is_told (Some y) x = same_answer y x

abbrev pub is_finished : Fact → Bool
is_finished f = is_some f.told

-- g is finished, and a call of the same process before f
abbrev pub is_own_before : Fact → Fact → Bool
is_own_before f g = is_finished g && ((g.id.process == f.id.process) && nat_lt g.id.number f.id.number)

-- f may come next in a serial order of these on this memory
abbrev pub may_come : List Fact → Memory → Fact → Bool
may_come fs m f = is_told f.told (answer_of f.op m) && not (list_any (is_own_before f) fs)

abbrev pub without : OpId → List Fact → List Fact
without id fs = filter (λ f. not (is_id f.id id)) fs

-- no arrangement of these is legal on this memory
abbrev pub none_legal : ℕ → List Fact → Memory → Bool
none_legal zero fs m = false
none_legal (suc n) fs m =
    list_any is_finished fs && list_all (λ f. not (may_come fs m f) || none_legal n (without f.id fs) (after f.op m)) fs

-- in each arrangement of these that is legal on this memory b stands before a
abbrev pub always_before : OpId → OpId → ℕ → List Fact → Memory → Bool
always_before b a zero fs m = false
always_before b a (suc n) fs m =
    list_all (λ f. not (may_come fs m f) || (is_id f.id b || cond (is_id f.id a) (none_legal n (without f.id fs) (after f.op m)) (always_before b a n (without f.id fs) (after f.op m)))) fs
