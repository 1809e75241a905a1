use Rattle.std.proofs.Common.{Ok, Err, inl, inr, refl, sym, ◌∙◌}
use Rattle.reg_observed.proofs.Hearing.{heard_all, heard_more, refused_next}
use Rattle.reg_observed.proofs.Scanning.{byte_more, text_breaks, text_ends}
use Rattle.reg_observed.proofs.edn.hear.Goals as goal

pub loop-byte-preserved : goal.loop-byte-preserved
loop-byte-preserved c =
    let more = byte_more c.loop-byte.line c.loop-byte.scan c.args.text.now c.loop-byte.byte-index (Ok c.in-Ok.told) c.tell.new.scan c.line_behind-line.result c.loop-byte-test.true c.in-Ok.ensures.told c.in-Ok.ensures.behind c.line_behind-line.ensures in
    heard_more _ _ _ _ _ _ _ c.loop-byte.invariant more c.in_ok-add-in-Ok.ensures.told

pub returns-in-Err-clause-refused : goal.returns-in-Err-clause-refused
returns-in-Err-clause-refused c = elim c.in-Err.ensures.why [
  | inl memory ↦ inl memory
  | inr (why, is, says) ↦
      let more = byte_more c.loop-byte.line c.loop-byte.scan c.args.text.now c.loop-byte.byte-index (Err why) _ _ c.loop-byte-test.true says refl refl in
      inr (c.loop-byte.line, why, is, refused_next _ _ _ _ _ c.loop-byte.invariant more)
]

pub returns-then-is_whole-clause-read : goal.returns-then-is_whole-clause-read
returns-then-is_whole-clause-read c = heard_all _ _ _ _ c.loop-byte.invariant (text_ends c.loop-byte.line c.loop-byte.scan c.args.text.now c.loop-byte.byte-index c.loop-byte-test.false (sym c.is_whole.ensures ∙ c.if-is_whole.true))

pub returns-clause-refused : goal.returns-clause-refused
returns-clause-refused c = inr (_, _, refl, refused_next _ _ _ _ _ c.loop-byte.invariant (text_breaks c.loop-byte.line c.loop-byte.scan c.args.text.now c.loop-byte.byte-index c.loop-byte-test.false (sym c.is_whole.ensures ∙ c.if-is_whole.false)))
