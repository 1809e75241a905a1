use Rattle.std.proofs.Common.{rules}
use Rattle.reg_trace.proofs.rooms.Filled.put_above.Goals as goal

pub bounds-self-from : goal.bounds-self-from
bounds-self-from c = search rules
