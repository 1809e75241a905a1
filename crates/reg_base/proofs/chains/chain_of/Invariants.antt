use Rattle.std.proofs.Common.{◌≡◌, ◌<◌, take}
use Rattle.std.specs.List.{fold}
use Rattle.reg_base.specs.Chains.{mix}
use Rattle.reg_base.proofs.chains.chain_of.Given as goal

-- the hash of the letters so far
abbrev pub invariant-loop-byte : goal.invariant-loop-byte
invariant-loop-byte l = (l.hash ≡ fold mix 0 (take l.byte-index l.name)) × (l.hash < 4096)
