-- What a process tells of the others.
use Rattle.std.specs.Prelude.{ℕ, ◌≡◌, ◌≤◌, ◌⊎◌, length}
use Rattle.reg_process.specs.declared.known.Known.{Known}
use Rattle.reg_process.specs.Process.{Peer, State, next_of}

abbrev pub known_of : Peer → Known
known_of p = record { seen = p.seen; expected = p.expected; first = p.first; next = next_of p }

-- there is no other process of this number
abbrev pub IsNoPeer : State → ℕ → Type 0
IsNoPeer s r = (length s.peers ≤ r) ⊎ (r ≡ s.me)
