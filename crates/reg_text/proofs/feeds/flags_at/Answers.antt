use Rattle.std.proofs.Common.{◌+◌, ap, ◌∙◌, slice_index, arith}
use lib.Bits.{bit_xor, xor_lt}
use Rattle.core.proofs.slice.Flagged.{differences, zero_flags, flags, same_flags, no_difference}
use Rattle.reg_text.proofs.feeds.flags_at.Goals as goal

pub returns : goal.returns
returns c =
    let text = c.args.text.now in
    let place = c.args.place in
    let differs = ap (λ word. bit_xor word 0x0a0a_0a0a_0a0a_0a0a) c.word_at-differs.ensures ∙ differences text c.type_inv.text place 10 (omega arith) in
    flags _ place _ (zero_flags _ _ (λ k. xor_lt 8 _ 10 (c.type_inv.text (place + k)).fits (omega arith)) differs ∙ same_flags _ _ (λ k. no_difference (slice_index text (place + k)) 10))
