-- How far the last operation of a process has come. It carries a proof: no promise speaks of it.
use Rattle.std.specs.Prelude.{ℕ, Bool, true, false, Option, Some, None}
use Rattle.reg_base.specs.declared.memory.Op.{Op}
use Rattle.reg_process.specs.declared.steps.Reply.{Reply}
use Rattle.reg_process.specs.declared.steps.Step.{Step}
use Rattle.reg_process.specs.declared.steps.Step.TheVariants.{Call, Take, Tick}
use Rattle.reg_live.specs.declared.operations.PlacedAnswer.{PlacedAnswer}
use Rattle.reg_live.specs.declared.operations.Operation.{Operation}
use Rattle.reg_live.specs.declared.operations.Operation.TheVariants.{Uncalled, Running, Answered}

-- whether it was called and has no answer yet
abbrev pub is_running : Operation → Bool
is_running Uncalled = false
is_running Running = true
is_running (Answered told) = false

-- its answer, where there is one
abbrev pub answer_to : Operation → Option PlacedAnswer
answer_to Uncalled = None
answer_to Running = None
answer_to (Answered told) = Some told

-- the last operation after a step without a reply: a call begins another one, which has no answer
abbrev pub after_step : Operation → Step → Operation
after_step before (Call op) = Running
after_step before (Take from frame) = before
after_step before Tick = before

-- the last operation after a section at this place, whose reply answers the operation that runs
abbrev pub after_section : Operation → Step → Option Reply → ℕ → Operation
after_section before step None place = after_step before step
after_section before step (Some reply) place = Answered (record { answer = reply.answer; place = place })
