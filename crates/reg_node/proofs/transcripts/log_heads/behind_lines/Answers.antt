use Rattle.std.proofs.Common.{◌∷◌, ◌++◌, [], sym, ap, ◌∙◌, append-nil, append_assoc}
use Rattle.reg_node.proofs.Leading.{fewer, some}
use Rattle.reg_node.proofs.transcripts.log_heads.behind_lines.Goals as goal

pub returns-in_default-clause-part : goal.returns-in_default-clause-part
returns-in_default-clause-part c = (c.args.bytes.now, sym (append-nil c.args.bytes.now))

pub returns-in_default-clause-whole : goal.returns-in_default-clause-whole
returns-in_default-clause-whole c = λ d lines behind are long is.
    absurd (some c.args.count c.loop-line._line c.loop-line.rest.now behind c.loop-line-test.true (c.loop-line.invariant.left d lines behind are long is) c.in_default.ensures.read)

pub loop-line-preserved : goal.loop-line-preserved
loop-line-preserved c = record {
  part = (
    c.loop-line.invariant.part.0 ++ (c.in-Some.field-0-0.now ++ 10 ∷ []),
    c.loop-line.invariant.part.1 ∙ ap (λ t. c.loop-line.invariant.part.0 ++ t) (c.in-Some.ensures.read.0 ∙ sym (append_assoc c.in-Some.field-0-0.now (10 ∷ []) c.in-Some.behind.now))
        ∙ sym (append_assoc c.loop-line.invariant.part.0 (c.in-Some.field-0-0.now ++ 10 ∷ []) c.in-Some.behind.now),
  );
  left = λ d lines behind are long is.
      fewer c.args.count c.loop-line._line c.loop-line.rest.now behind c.in-Some.behind.now c.loop-line-test.true (c.loop-line.invariant.left d lines behind are long is)
      (λ front more lacks e. (c.in-Some.ensures.whole front more lacks e).1);
}
