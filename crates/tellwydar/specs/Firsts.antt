-- The history of a first call.
use Rattle.std.specs.Prelude.{ℕ, List, [], ◌∷◌, Option, Some, None}
use Rattle.reg_base.specs.declared.memory.Op.{Op}
use Rattle.reg_base.specs.declared.memory.OpId.{OpId}
use Rattle.reg_process.specs.declared.steps.Reply.{Reply}
use Rattle.reg_checkers.specs.declared.entries.Entry.{Entry}
use Rattle.reg_checkers.specs.declared.entries.Entry.TheVariants.{Called, Answered}

abbrev pub first_id : ℕ → OpId
first_id p = record { process = p; number = 0 }

abbrev pub answer_in : ℕ → OpId → Option Reply → List Entry
answer_in at id None = []
answer_in at id (Some reply) = Answered at id reply.answer ∷ []

-- the call of this operation by event at, and the answer that came with it
abbrev pub first_entries : ℕ → ℕ → Op → Option Reply → List Entry
first_entries at p op reply = Called at (first_id p) op ∷ answer_in at (first_id p) reply
