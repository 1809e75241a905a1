use Rattle.std.proofs.Common.{get_or, Some, ap, arith, rules}
use Rattle.std.specs.Int.{IsInRange}
use borrow.Author.Count.{below_more}
use Rattle.reg_text.proofs.Shorts.{next_value, all_read, one_number, digit_there}
use Rattle.reg_text.proofs.fields.parsed_short.Goals as goal

pub returns-then-not-is_ascii_digit-clause-whole : goal.returns-then-not-is_ascii_digit-clause-whole
returns-then-not-is_ascii_digit-clause-whole c = λ n small e.
    let here : IsInRange 48 57 (get_or c.args.bytes.now c.loop-byte.byte-index 0) = digit_there c.args.bytes.now c.loop-byte.byte-index n c.loop-byte-test.true small e in
    let wrong : ⊥ = search (rules, here) in
    absurd wrong

pub overflow_mul-value : goal.overflow_mul-value
overflow_mul-value c =
    let here : IsInRange 48 57 (get_or c.args.bytes.now c.loop-byte.byte-index 0) = search rules in
    let next = next_value c.args.bytes.now c.loop-byte.byte-index c.loop-byte.value c.loop-byte-test.true c.requires.short c.loop-byte.invariant.0 c.loop-byte.invariant.1 here in
    omega (arith, next.1)

pub overflow_add-value : goal.overflow_add-value
overflow_add-value c =
    let here : IsInRange 48 57 (get_or c.args.bytes.now c.loop-byte.byte-index 0) = search rules in
    let next = next_value c.args.bytes.now c.loop-byte.byte-index c.loop-byte.value c.loop-byte-test.true c.requires.short c.loop-byte.invariant.0 c.loop-byte.invariant.1 here in
    omega (arith, next.1)

pub loop-byte-preserved : goal.loop-byte-preserved
loop-byte-preserved c =
    let here : IsInRange 48 57 (get_or c.args.bytes.now c.loop-byte.byte-index 0) = search rules in
    let next = next_value c.args.bytes.now c.loop-byte.byte-index c.loop-byte.value c.loop-byte-test.true c.requires.short c.loop-byte.invariant.0 c.loop-byte.invariant.1 here in
    (next.0, below_more (λ k. IsInRange 48 57 (get_or c.args.bytes.now k 0)) c.loop-byte.byte-index c.loop-byte.invariant.1 here)

pub returns-clause-read : goal.returns-clause-read
returns-clause-read c = all_read c.args.bytes.now c.loop-byte.byte-index c.loop-byte.value c.requires.plain c.requires.short (omega arith) c.loop-byte.invariant.0 c.loop-byte.invariant.1

pub returns-clause-whole : goal.returns-clause-whole
returns-clause-whole c = λ n small e.
    let whole = all_read c.args.bytes.now c.loop-byte.byte-index c.loop-byte.value c.requires.plain c.requires.short (omega arith) c.loop-byte.invariant.0 c.loop-byte.invariant.1 in
    ap Some (one_number c.args.bytes.now c.loop-byte.value n whole small e)
