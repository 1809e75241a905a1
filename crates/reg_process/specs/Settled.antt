-- Between events nothing that is clear is held. Promises cite it.
use Rattle.std.specs.Prelude.{length}
use Rattle.reg_base.specs.Order.{NoneClear}
use Rattle.reg_process.specs.Process.{State, seen_at}

abbrev pub NoneWaits : State → Type 0
NoneWaits s = NoneClear s.me (seen_at s) (length s.peers) s.held
