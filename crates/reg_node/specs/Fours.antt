-- Four bits of a CRC-32 at once. They carry a proof: no promise speaks of them.
use Rattle.std.specs.Prelude.{ℕ}
use Rattle.reg_node.specs.Seals.{crc_bit}

-- a CRC-32 goes on over four bits of zeros
unfoldable pub crc_four : ℕ → ℕ
crc_four c = crc_bit (crc_bit (crc_bit (crc_bit c)))
