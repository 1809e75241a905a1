-- A part of an opening. They carry a proof: no promise speaks of them.
use Rattle.std.specs.Prelude.{ℕ, ◌≡◌, List}
use Rattle.reg_base.specs.declared.memory.Op.{Op}
use Rattle.reg_base.specs.declared.memory.OpId.{OpId}
use Rattle.reg_checkers.specs.declared.entries.Entry.{Entry}
use Rattle.reg_checkers.specs.History.{IsAt, IsCalled}
use Rattle.reg_verify.specs.Stories.{opener}

-- the operation is the write of process 0 with the number of its id
abbrev pub IsOfOpening : List Op → OpId → Op → Type 0
IsOfOpening writes id op = (id.process ≡ 0) × IsAt writes id.number op

-- each operation that was called is
abbrev pub AreOfOpening : List Op → List Entry → Type 0
AreOfOpening writes h = (id : OpId) (at : ℕ) (op : Op) → IsCalled h id at op → IsOfOpening writes id op

-- the order is that of the first operations of process 0
abbrev pub AreInTurn : List OpId → Type 0
AreInTurn order = (place : ℕ) (id : OpId) → IsAt order place id → id ≡ opener place
