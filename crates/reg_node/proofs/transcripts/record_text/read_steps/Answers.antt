use Rattle.std.proofs.Common.{sym, subst, rules, arith, inr, refl, ◌≡◌, ◌+◌, List, [], ◌∷◌, ◌++◌}
use Rattle.reg_text.proofs.Numbered.{asked_on, goes_on}
use Rattle.reg_text.proofs.Turns.{Gathered, gathers_one, gathers_none, gathers_more, all_gathered}
use Rattle.reg_node.specs.declared.transcripts.recorded.Recorded.{Recorded}
use Rattle.reg_node.specs.RecordLines.{recorded_text, RecordedFits}
use Rattle.reg_node.proofs.transcripts.record_text.read_steps.Goals as goal

pub loop-place-preserved : goal.loop-place-preserved
loop-place-preserved g c =
    let grown : c.push.new.self.items ≡ c.loop-place.steps.items ++ c.in-Some-read_recorded.step ∷ [] = search rules in
    let P : List Recorded → Type 0 = λ l. Gathered (recorded_text c.args.names.now) (λ _ x. RecordedFits c.args.names.now x) c.args.lines.now.left c.next.new.self.left l (c.loop-place._place + 1) in
    let gathered = subst P (sym grown) (gathers_one (recorded_text c.args.names.now) (λ _ x. RecordedFits c.args.names.now x) c.args.lines.now.left c.loop-place.lines.left c.loop-place.steps.items c.loop-place._place c.loop-place.invariant.gathered
    c.in-Some.line.now c.next.new.self.left c.in-Some-read_recorded.step c.in-Some.ensures.line c.in-Some-read_recorded.ensures.read.0 c.in-Some-read_recorded.ensures.read.1
    (λ y fits e. let one = c.in-Some-read_recorded.ensures.whole y fits e in cc)) in
    record { gathered = gathered; on = goes_on c.args.lines.now c.loop-place.lines c.next.new.self c.loop-place.invariant.on (asked_on c.loop-place.lines c.next.new.self c.in-Some.line.now c.next.new.self.left c.next.ensures.asked c.in-Some.ensures.line) }

pub returns-in_default-read_recorded-clause-whole : goal.returns-in_default-read_recorded-clause-whole
returns-in_default-read_recorded-clause-whole g c = λ ys fit few e.
    absurd (gathers_none (recorded_text c.args.names.now) (λ _ x. RecordedFits c.args.names.now x) c.args.lines.now.left c.loop-place.lines.left c.loop-place.steps.items c.loop-place._place c.loop-place.invariant.gathered
    c.in-Some.line.now c.next.new.self.left c.in-Some.ensures.line (λ y fits f. let none = c.in_default-read_recorded.ensures.whole y fits f in absurd (cc)) ys fit e)

pub returns-in-Some-next-clause-read : goal.returns-in-Some-next-clause-read
returns-in-Some-next-clause-read g c = search rules

pub returns-in_default-read_recorded-clause-wrong : goal.returns-in_default-read_recorded-clause-wrong
returns-in_default-read_recorded-clause-wrong g c =
    let told = c.loop-place.invariant.gathered in
    inr (
      _,
      c.fault.ensures,
      record {
        before = c.loop-place.steps.items;
        line = c.in-Some.line.now;
        stopped = record { middle = c.loop-place.lines; read = told.lines; on = c.loop-place.invariant.on; comes = (c.next.new.self.left, c.in-Some.ensures.line); asked = c.next.ensures.asked };
        fit = told.fit;
        few = omega (arith, told.count);
        none = λ less (y, fits, same). let bad = c.in_default-read_recorded.ensures.whole y fits same in absurd (cc);
        form = λ none. refl;
        further = λ (y, fits, same). let bad = c.in_default-read_recorded.ensures.whole y fits same in absurd (cc);
      },
    )

pub returns-in-Some-next-clause-wrong : goal.returns-in-Some-next-clause-wrong
returns-in-Some-next-clause-wrong g c =
    let told = c.loop-place.invariant.gathered in
    let last = c.loop-place-test.false in
    inr (
      c.why_further.result,
      c.fault-in-Some-next.ensures,
      record {
        before = c.loop-place.steps.items;
        line = c.in-Some-next.line.now;
        stopped = record { middle = c.loop-place.lines; read = told.lines; on = c.loop-place.invariant.on; comes = (_, c.in-Some-next.ensures.line); asked = c.next-2.ensures.asked };
        fit = told.fit;
        few = omega (arith, told.count);
        none = λ less. absurd (omega (arith, told.count, last, less));
        form = c.why_further.ensures.form;
        further = c.why_further.ensures.further;
      },
    )

pub returns-in-Some-next-clause-whole : goal.returns-in-Some-next-clause-whole
returns-in-Some-next-clause-whole g c = λ ys fit few e.
    let last = c.loop-place-test.false in
    absurd (gathers_more (recorded_text c.args.names.now) (λ _ x. RecordedFits c.args.names.now x) c.args.lines.now.left c.loop-place.lines.left c.loop-place.steps.items c.loop-place._place c.loop-place.invariant.gathered
    c.in-Some-next.line.now _ c.in-Some-next.ensures.line ys fit (omega (arith, few, last)) e)

pub returns-in_default-clause-read : goal.returns-in_default-clause-read
returns-in_default-clause-read g c =
    let told = c.loop-place.invariant.gathered in
    let all = all_gathered (recorded_text c.args.names.now) (λ _ x. RecordedFits c.args.names.now x) c.args.lines.now.left c.loop-place.lines.left c.loop-place.steps.items c.loop-place._place c.loop-place.invariant.gathered c.in_default.ensures.line in
    (all.0, told.fit, omega (arith, told.count))

pub returns-in_default-clause-whole : goal.returns-in_default-clause-whole
returns-in_default-clause-whole g c = λ ys fit few e.
    (all_gathered (recorded_text c.args.names.now) (λ _ x. RecordedFits c.args.names.now x) c.args.lines.now.left c.loop-place.lines.left c.loop-place.steps.items c.loop-place._place c.loop-place.invariant.gathered c.in_default.ensures.line).1 ys fit e

pub returns-in-None-clause-read : goal.returns-in-None-clause-read
returns-in-None-clause-read g c =
    let told = c.loop-place.invariant.gathered in
    let all = all_gathered (recorded_text c.args.names.now) (λ _ x. RecordedFits c.args.names.now x) c.args.lines.now.left c.loop-place.lines.left c.loop-place.steps.items c.loop-place._place c.loop-place.invariant.gathered c.in-None.ensures.line in
    (all.0, told.fit, omega (arith, told.count))

pub returns-in-None-clause-whole : goal.returns-in-None-clause-whole
returns-in-None-clause-whole g c = λ ys fit few e.
    (all_gathered (recorded_text c.args.names.now) (λ _ x. RecordedFits c.args.names.now x) c.args.lines.now.left c.loop-place.lines.left c.loop-place.steps.items c.loop-place._place c.loop-place.invariant.gathered c.in-None.ensures.line).1 ys fit e
