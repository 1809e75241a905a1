use Rattle.std.proofs.Common.{ℕ, ◌≡◌, ◌<◌, take, get_or}
use Rattle.std.specs.Int.{IsInRange}
use Rattle.std.specs.Str.Parse.{digits_value}
use Rattle.reg_text.proofs.fields.parsed_short.Given as goal

-- the digits so far, and what they stand for
abbrev pub invariant-loop-byte : goal.invariant-loop-byte
invariant-loop-byte l = (l.value ≡ digits_value 10 (take l.byte-index l.bytes)) × ((k : ℕ) → k < l.byte-index → IsInRange 48 57 (get_or l.bytes k 0))
