use Rattle.std.proofs.Common.{◌+◌, Ok, Err, ap, inl, inr, arith, length}
use Rattle.reg_observed.proofs.Hearing.{heard_all, heard_more, line_more, no_line, refused_next}
use Rattle.reg_observed.proofs.reading.hear.Goals as goal

pub loop-place-preserved : goal.loop-place-preserved
loop-place-preserved c =
    let one = ap length c.in-Some.ensures.line in
    let more = line_more (c.loop-place.place + 1) c.loop-place.lines.left c.in-Some.line.now c.next.new.self.left (Ok c.in-Ok.told) c.in-Some.ensures.line c.in-Ok.ensures.told in
    record {
      heard = heard_more _ _ _ _ _ _ _ c.loop-place.invariant.heard more c.in_ok-add-in-Ok.ensures.told;
      passed = omega (arith, c.loop-place.invariant.passed, one);
    }

pub returns-in_default-clause-read : goal.returns-in_default-clause-read
returns-in_default-clause-read c =
    heard_all _ _ _ _ c.loop-place.invariant.heard (no_line _ _ c.in_default.ensures.line)

pub returns-in-None-clause-read : goal.returns-in-None-clause-read
returns-in-None-clause-read c = heard_all _ _ _ _ c.loop-place.invariant.heard (no_line _ _ c.in-None.ensures.line)

pub returns-in-Err-clause-refused : goal.returns-in-Err-clause-refused
returns-in-Err-clause-refused c = elim c.in-Err.ensures.why [
  | inl memory ↦ inl memory
  | inr (why, is, says) ↦
      let more = line_more (c.loop-place.place + 1) c.loop-place.lines.left c.in-Some.line.now c.next.new.self.left (Err why) c.in-Some.ensures.line says in
      inr (inr (c.loop-place.place + 1, why, is, refused_next _ _ _ _ _ c.loop-place.invariant.heard more))
]
