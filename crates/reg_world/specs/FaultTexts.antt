-- Why an event is refused, as text.
use Rattle.std.specs.Prelude.{ℕ, List, codes}
use Rattle.reg_world.specs.declared.faults.WorldFault.{WorldFault}
use Rattle.reg_world.specs.declared.faults.WorldFault.TheVariants.{Failed, TooManyEvents, NoProcess, Busy, NoRegister}
use Rattle.reg_world.specs.declared.faults.WorldFault.TheVariants.{TooManyOperations, NoFrame, OutOfMemory}

abbrev pub refusal_text : WorldFault → List ℕ
refusal_text Failed = codes "failed"
refusal_text TooManyEvents = codes "too many events"
refusal_text NoProcess = codes "no process"
refusal_text Busy = codes "busy"
refusal_text NoRegister = codes "no register"
refusal_text TooManyOperations = codes "too many operations"
refusal_text NoFrame = codes "no frame"
refusal_text OutOfMemory = codes "out of memory"
