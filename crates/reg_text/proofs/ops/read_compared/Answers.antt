use Rattle.std.proofs.Common.{ℕ, ◌≡◌, ◌∷◌, ◌++◌, [], Option, None, Some, get_or, arith}
use Rattle.std.specs.Fmt.{decimal}
use Rattle.reg_text.proofs.NamesLack.{nth_lacks}
use Rattle.reg_text.proofs.NumbersLack.{decimal_lacks}
use Rattle.reg_text.proofs.Spelling.{compared_split, compared_read}
use Rattle.reg_text.proofs.ops.read_compared.Goals as goal

pub returns-in_err-name-clause-whole : goal.returns-in_err-name-clause-whole
returns-in_err-name-clause-whole g c = λ r x v l small big e.
    absurd (c.in_err-name.ensures.whole (get_or c.args.names.now r []) (decimal x ++ 32 ∷ decimal v) (nth_lacks 32 c.args.names.now r (omega arith) c.requires l) e)

pub returns-in_err-expected-clause-whole : goal.returns-in_err-expected-clause-whole
returns-in_err-expected-clause-whole g c = λ r x v l small big e.
    let both = c.in_ok-name.ensures.whole (get_or c.args.names.now r []) (decimal x ++ 32 ∷ decimal v) (nth_lacks 32 c.args.names.now r (omega arith) c.requires l) e in
    absurd (c.in_err-expected.ensures.whole (decimal x) (decimal v) (decimal_lacks 32 x (omega arith) small) both.1)

none_some : (n : ℕ) → None ≡ Some n → ⊥
none_some n e = cc

pub returns-in_err-register-clause-whole : goal.returns-in_err-register-clause-whole
returns-in_err-register-clause-whole g c = λ r x v l small big e.
    let split = compared_split c.args.names.now c.args.text.now c.in_ok-name.name.now c.in_ok-name.values.now c.in_ok-expected.expected.now c.in_ok-expected.value.now r x v c.requires c.in_ok-name.ensures.whole c.in_ok-expected.ensures.whole l small e in
    absurd (none_some r ((c.in_err-register.ensures r).1 split.0))

pub returns-in_err-expected-2-clause-whole : goal.returns-in_err-expected-2-clause-whole
returns-in_err-expected-2-clause-whole g c = λ r x v l small big e.
    let split = compared_split c.args.names.now c.args.text.now c.in_ok-name.name.now c.in_ok-name.values.now c.in_ok-expected.expected.now c.in_ok-expected.value.now r x v c.requires c.in_ok-name.ensures.whole c.in_ok-expected.ensures.whole l small e in
    absurd (none_some x (c.in_err-expected-2.ensures.whole x small split.1))

pub returns-in_err-value-clause-whole : goal.returns-in_err-value-clause-whole
returns-in_err-value-clause-whole g c = λ r x v l small big e.
    let split = compared_split c.args.names.now c.args.text.now c.in_ok-name.name.now c.in_ok-name.values.now c.in_ok-expected.expected.now c.in_ok-expected.value.now r x v c.requires c.in_ok-name.ensures.whole c.in_ok-expected.ensures.whole l small e in
    absurd (none_some v (c.in_err-value.ensures.whole v big split.2))

pub returns-clause-read : goal.returns-clause-read
returns-clause-read g c =
    let t = compared_read c.args.names.now c.args.text.now c.in_ok-name.name.now c.in_ok-name.values.now c.in_ok-expected.expected.now c.in_ok-expected.value.now c.in_ok-register.register c.in_ok-expected-2.expected c.in_ok-value.value
    c.in_ok-name.ensures.read.0 c.in_ok-expected.ensures.read.0 c.in_ok-register.ensures c.in_ok-expected-2.ensures.read.0 c.in_ok-value.ensures.read.0 in
    (t.0, t.1, c.in_ok-expected-2.ensures.read.1, c.in_ok-value.ensures.read.1)

same : (a b c d e f : ℕ) → Some a ≡ Some b → Some c ≡ Some d → Some e ≡ Some f
    → ◌≡◌ {A = Option (ℕ × ℕ × ℕ)} (Some (a, c, e)) (Some (b, d, f))
same a b c d e f g h i = cc

pub returns-clause-whole : goal.returns-clause-whole
returns-clause-whole g c = λ r x v l small big e.
    let split = compared_split c.args.names.now c.args.text.now c.in_ok-name.name.now c.in_ok-name.values.now c.in_ok-expected.expected.now c.in_ok-expected.value.now r x v c.requires c.in_ok-name.ensures.whole c.in_ok-expected.ensures.whole l small e in
    same c.in_ok-register.register r c.in_ok-expected-2.expected x c.in_ok-value.value v ((c.in_ok-register.ensures r).1 split.0) (c.in_ok-expected-2.ensures.whole x small split.1) (c.in_ok-value.ensures.whole v big split.2)
