use Rattle.std.proofs.Common.{◌≡◌, ◌<◌, ◌∷◌, [], ℕ, length, false, sym, ap, ◌∙◌, arith}
use Rattle.std.proofs.Math.Seq.{take-length}
use Rattle.reg_verify.specs.StoryParts.{begins_behind}
use Rattle.reg_verify.proofs.StoryCuts.{newline_at, parted_at, whole}
use Rattle.reg_verify.proofs.stories.reading.end_of_report.Goals as goal

pub returns-then-begins_report-clause-first : goal.returns-then-begins_report-clause-first
returns-then-begins_report-clause-first c =
    (_, parted_at c.args.text.now c.loop-place.place c.loop-place-test.true c.loop-place.invariant (sym c.begins_report.ensures ∙ c.if-begins_report.true))

pub returns-then-begins_report-clause-more : goal.returns-then-begins_report-clause-more
returns-then-begins_report-clause-more c = λ more.
    let seam = sym c.begins_report.ensures ∙ c.if-begins_report.true in
    (omega arith, newline_at c.args.text.now c.loop-place.place seam, parted_at c.args.text.now c.loop-place.place c.loop-place-test.true c.loop-place.invariant seam)

pub returns-clause-first : goal.returns-clause-first
returns-clause-first c =
    let text = c.args.text.now in
    let none : (i : ℕ) → i < length text → begins_behind text i ≡ false = λ i lt. c.loop-place.invariant i (omega (arith, lt, c.loop-place-test.false)) in
    ([], whole text none ∙ ap (λ t. t ∷ []) (sym (take-length text)))

pub returns-clause-last : goal.returns-clause-last
returns-clause-last c =
    λ _. whole c.args.text.now (λ i lt. c.loop-place.invariant i (omega (arith, lt, c.loop-place-test.false)))
