use Rattle.std.proofs.Common.{drop}
use Rattle.reg_observed.specs.Edn.{edn_from, edn_tells}
use Rattle.reg_observed.proofs.Hearing.{Heard}
use Rattle.reg_observed.proofs.edn.hear.Given as goal

abbrev pub invariant-loop-byte : goal.invariant-loop-byte
invariant-loop-byte l =
    Heard l.heard.words l.heard.events.items (edn_tells l.text) (edn_from l.line l.scan (drop l.byte-index l.text))
