use Rattle.std.proofs.Common.{sym, subst, rules, arith, inr, ◌≡◌, ◌+◌, List, [], ◌∷◌, ◌++◌}
use Rattle.reg_process.specs.declared.events.Event.{Event}
use Rattle.reg_inputs.specs.Schedules.{event_text, EventFits}
use Rattle.reg_text.proofs.Numbered.{asked_on, goes_on}
use Rattle.reg_text.proofs.Turns.{Gathered, gathers_one, gathers_none, gathers_more}
use Rattle.reg_text.specs.declared.faults.Why.{Why as AnyWhy}
use Rattle.reg_inputs.specs.LineForms.{IsLineWhy}
use Rattle.reg_inputs.proofs.schedules.read_events.Goals as goal

pub loop-place-preserved : goal.loop-place-preserved
loop-place-preserved g c =
    let grown : c.push.new.self.items ≡ c.loop-place.events.items ++ c.in-Ok.event ∷ [] = search rules in
    let P : List Event → Type 0 = λ l. Gathered (event_text c.args.names.now) (λ _ x. EventFits c.args.names.now x) c.args.lines.now.left c.next.new.self.left l (c.loop-place._place + 1) in
    let gathered = subst P (sym grown) (gathers_one (event_text c.args.names.now) (λ _ x. EventFits c.args.names.now x) c.args.lines.now.left c.loop-place.lines.left c.loop-place.events.items c.loop-place._place c.loop-place.invariant.gathered
    c.in-Some.line.now c.next.new.self.left c.in-Ok.event c.in-Some.ensures.line c.in-Ok.ensures.read.0 c.in-Ok.ensures.read.1
    (λ y fits e. let one = c.in-Ok.ensures.whole y fits e in cc)) in
    record { gathered = gathered; on = goes_on c.args.lines.now c.loop-place.lines c.next.new.self c.loop-place.invariant.on (asked_on c.loop-place.lines c.next.new.self c.in-Some.line.now c.next.new.self.left c.next.ensures.asked c.in-Some.ensures.line) }

pub returns-in-Err-clause-whole : goal.returns-in-Err-clause-whole
returns-in-Err-clause-whole g c = λ ys fit few e.
    absurd (gathers_none (event_text c.args.names.now) (λ _ x. EventFits c.args.names.now x) c.args.lines.now.left c.loop-place.lines.left c.loop-place.events.items c.loop-place._place c.loop-place.invariant.gathered
    c.in-Some.line.now c.next.new.self.left c.in-Some.ensures.line (λ y fits f. let none = c.in-Err.ensures.whole y fits f in absurd (cc)) ys fit e)

pub returns-in-Some-next-clause-read : goal.returns-in-Some-next-clause-read
returns-in-Some-next-clause-read g c = search rules

pub returns-in-Err-clause-wrong : goal.returns-in-Err-clause-wrong
returns-in-Err-clause-wrong g c =
    let told = c.loop-place.invariant.gathered in
    inr (
      c.why.result,
      c.fault.ensures,
      record {
        before = c.loop-place.events.items;
        line = c.in-Some.line.now;
        stopped = record { middle = c.loop-place.lines; read = told.lines; on = c.loop-place.invariant.on; comes = (c.next.new.self.left, c.in-Some.ensures.line); asked = c.next.ensures.asked };
        fit = told.fit;
        few = omega (arith, told.count);
        none = λ less e fits same. let bad = c.in-Err.ensures.whole e fits same in absurd (cc);
        why_none = λ less. let P : AnyWhy → Type 0 = λ w. IsLineWhy c.args.names.now c.in-Some.line.now w in subst P (sym c.why.ensures) c.in-Err.ensures.why;
        why_further = λ full. absurd (omega (arith, told.count, full));
      },
    )

pub returns-in-Some-next-clause-whole : goal.returns-in-Some-next-clause-whole
returns-in-Some-next-clause-whole g c = λ ys fit few e.
    let last = c.loop-place-test.false in
    absurd (gathers_more (event_text c.args.names.now) (λ _ x. EventFits c.args.names.now x) c.args.lines.now.left c.loop-place.lines.left c.loop-place.events.items c.loop-place._place c.loop-place.invariant.gathered
    c.in-Some-next.line.now _ c.in-Some-next.ensures.line ys fit (omega (arith, few, last)) e)
