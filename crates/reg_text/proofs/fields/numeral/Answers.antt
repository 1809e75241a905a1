use Rattle.std.proofs.Common.{rules}
use Rattle.reg_text.proofs.Decimals.{plain_text}
use Rattle.reg_text.proofs.fields.numeral.Goals as goal

pub returns-then-not-is_plain-clause-whole : goal.returns-then-not-is_plain-clause-whole
returns-then-not-is_plain-clause-whole c =
    λ n small d. let plain = c.is_plain.ensures.1 (plain_text c.args.bytes.now n small d) in search rules
