-- Histories of one register that are alike but for the names of their operations and the register's number. To be
-- believed: promises speak of it.
use Rattle.std.specs.Prelude.{ℕ, ◌≡◌, ◌↔◌, List}
use Rattle.std.specs.List.{AllZip}
use Rattle.reg_base.specs.declared.memory.Op.{Op}
use Rattle.reg_base.specs.declared.memory.Op.TheVariants.{Read, Write, Swap, CompareAndSwap}
use Rattle.reg_base.specs.declared.memory.OpId.{OpId}
use Rattle.reg_base.specs.Memory.{register_of}
use Rattle.reg_checkers.specs.declared.entries.Entry.{Entry}
use Rattle.reg_checkers.specs.declared.entries.Entry.TheVariants.{Called, Answered}
use Rattle.reg_checkers.specs.History.{IsAt}

-- the same operation on this register
abbrev pub at_register : ℕ → Op → Op
at_register register (Read r) = Read register
at_register register (Write r v) = Write register v
at_register register (Swap r v) = Swap register v
at_register register (CompareAndSwap r e v) = CompareAndSwap register e v

-- the name of the operation that is called or answered
abbrev pub name_of : Entry → OpId
name_of (Called at id op) = id
name_of (Answered at id answer) = id

-- both call the same operation, one on this register and the other on that, or both answer the same, at one event
abbrev pub IsLike : ℕ → ℕ → Entry → Entry → Type 0
IsLike this that (Called at id op) (Called event name called) =
    (event ≡ at) × (register_of op ≡ this) × (called ≡ at_register that op)
IsLike this that (Answered at id answer) (Answered event name answered) = (event ≡ at) × (answered ≡ answer)
IsLike this that (Called at id op) (Answered event name answered) = ⊥
IsLike this that (Answered at id answer) (Called event name called) = ⊥

-- Entry by entry they are alike, and two entries of one have one name exactly where those of the other have one.
pub record AreAlike (this that : ℕ) (one other : List Entry) : Type 0 where
  pub entries : AllZip (IsLike this that) one other
  pub names : (i j : ℕ) (a b c d : Entry) → IsAt one i a → IsAt other i b → IsAt one j c → IsAt other j d
      → (name_of a ≡ name_of c) ↔ (name_of b ≡ name_of d)
