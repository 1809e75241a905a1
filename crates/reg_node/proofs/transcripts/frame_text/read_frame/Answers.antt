use Rattle.std.proofs.Common.{◌≡◌, length, inl, inr, arith, rules}
use Rattle.reg_node.proofs.Hexes.{digits, sizes}
use Rattle.reg_node.proofs.transcripts.frame_text.read_frame.Goals as goal

pub returns-in-24-clause-whole : goal.returns-in-24-clause-whole
returns-in-24-clause-whole c = λ f fits is.
    let many = digits f c.args.text.now is in
    c.frame_of.ensures.whole f fits (omega (arith, many, c.in-24.is)) is

pub returns-in-42-clause-whole : goal.returns-in-42-clause-whole
returns-in-42-clause-whole c = λ f fits is.
    let many = digits f c.args.text.now is in
    c.frame_of-in-42.ensures.whole f fits (omega (arith, many, c.in-42.is)) is

pub returns-in-48-clause-whole : goal.returns-in-48-clause-whole
returns-in-48-clause-whole c = λ f fits is.
    let many = digits f c.args.text.now is in
    c.frame_of-in-48.ensures.whole f fits (omega (arith, many, c.in-48.is)) is

pub returns-in-64-clause-whole : goal.returns-in-64-clause-whole
returns-in-64-clause-whole c = λ f fits is.
    let many = digits f c.args.text.now is in
    c.frame_of-in-64.ensures.whole f fits (omega (arith, many, c.in-64.is)) is

pub returns-in-80-clause-whole : goal.returns-in-80-clause-whole
returns-in-80-clause-whole c = λ f fits is.
    let many = digits f c.args.text.now is in
    c.frame_of-in-80.ensures.whole f fits (omega (arith, many, c.in-80.is)) is

pub returns-in_default-clause-whole : goal.returns-in_default-clause-whole
returns-in_default-clause-whole c = λ f fits is.
    let many = digits f c.args.text.now is in
    elim (sizes f) [
      | inl n ↦ let e : length c.args.text.now ≡ 24 = omega (arith, many, n) in let wrong : ⊥ = search (rules, e) in absurd wrong
      | inr (inl n) ↦ let e : length c.args.text.now ≡ 42 = omega (arith, many, n) in let wrong : ⊥ = search (rules, e) in absurd wrong
      | inr (inr (inl n)) ↦ let e : length c.args.text.now ≡ 48 = omega (arith, many, n) in let wrong : ⊥ = search (rules, e) in absurd wrong
      | inr (inr (inr (inl n))) ↦ let e : length c.args.text.now ≡ 64 = omega (arith, many, n) in let wrong : ⊥ = search (rules, e) in absurd wrong
      | inr (inr (inr (inr n))) ↦ let e : length c.args.text.now ≡ 80 = omega (arith, many, n) in let wrong : ⊥ = search (rules, e) in absurd wrong
    ]
