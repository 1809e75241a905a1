-- Bytes whose lines stand whole behind their seals, and then don't. They carry a proof: no promise speaks of them.
use Rattle.std.specs.Prelude.{ℕ, ◌≡◌, ◌++◌, List, length}
use Rattle.reg_text.specs.Lines.{text_of}
use Rattle.reg_node.specs.Seals.{AreLines, IsTorn, crc_after, first_crc, sealed}

-- the bytes begin with these sealed lines, whose text is this, and with this register behind them
pub record IsBegunBy (bytes text : List ℕ) (crc : ℕ) (rest : List ℕ) : Type 0 where
  pub lines : List (List ℕ)
  pub read : bytes ≡ sealed first_crc lines ++ rest
  pub are : AreLines lines
  pub text_is : text ≡ text_of lines
  pub crc_is : crc ≡ crc_after first_crc lines

-- and no further line stands whole behind them
pub record IsUnsealed (bytes text : List ℕ) (crc whole : ℕ) : Type 0 where
  pub lines : List (List ℕ)
  pub tail : List ℕ
  pub read : bytes ≡ sealed first_crc lines ++ tail
  pub are : AreLines lines
  pub text_is : text ≡ text_of lines
  pub crc_is : crc ≡ crc_after first_crc lines
  pub torn : IsTorn crc tail
  pub whole_is : whole ≡ length (sealed first_crc lines)
