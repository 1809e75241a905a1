use Rattle.std.proofs.lemmas.Result.{err_from_is_err_and}
use Rattle.reg_inputs.proofs.Plans.{events_stopped}
use Rattle.std.proofs.Common.{rules, inl, inr, ℕ, ◌≡◌, ◌∙◌, ap, sym, subst, length, map, List, refl}
use Rattle.reg_base.specs.Shape.{Extent}
use Rattle.reg_process.specs.declared.events.Event.{Event}
use Rattle.reg_front.specs.declared.named.Front.{Front}
use Rattle.reg_text.specs.Lines.{AllFit}
use Rattle.reg_inputs.specs.Schedules.{Plan, event_text, EventFits}
use Rattle.reg_text.proofs.Shaped.{shape_is}
use Rattle.reg_inputs.proofs.schedules.read_plan.Goals as goal

fits : (names ns : List (List ℕ)) (es : List Event) → names ≡ ns → AllFit (λ _ x. EventFits ns x) es
    → AllFit (λ _ x. EventFits names x) es
fits names ns es e h = let P : List (List ℕ) → Type 0 = λ n. AllFit (λ _ x. EventFits n x) es in subst P (sym e) h

lines : (names ns : List (List ℕ)) (es : List Event) (l : List (List ℕ)) → names ≡ ns → l ≡ map (event_text ns) es
    → l ≡ map (event_text names) es
lines names ns es l e h = h ∙ ap (λ n. map (event_text n) es) (sym e)

same_plan : (p : Plan) (shape : Extent) (names : List (List ℕ)) (front : Front) (events : List Event) → shape ≡ p.shape
    → names ≡ p.names → front ≡ p.front → events ≡ p.events
    → record { shape = shape; names = names; front = front; events = events } ≡ p
same_plan p shape names front events a b d e = rw (a, b, d, e) refl

pub returns-in_err-processes-clause-whole : goal.returns-in_err-processes-clause-whole
returns-in_err-processes-clause-whole g c = λ p ok e.
    let head = c.in_err-processes.ensures.whole p.shape.processes p.names p.front (map (event_text p.names) p.events) ok.some_process ok.processes ok.names e in
    search rules

pub returns-in_err-events-clause-whole : goal.returns-in_err-events-clause-whole
returns-in_err-events-clause-whole g c = λ p ok e.
    let head = c.in_ok-processes.ensures.whole p.shape.processes p.names p.front (map (event_text p.names) p.events) ok.some_process ok.processes ok.names e in
    let events = c.in_err-events.ensures.whole p.events (fits c.in_ok-processes.names p.names p.events head.1 ok.events) ok.few (lines c.in_ok-processes.names p.names p.events c.read_head.new.lines.left head.1 head.3) in
    search rules

pub returns-clause-whole : goal.returns-clause-whole
returns-clause-whole g c = λ p ok e.
    let head = c.in_ok-processes.ensures.whole p.shape.processes p.names p.front (map (event_text p.names) p.events) ok.some_process ok.processes ok.names e in
    let s : c.in-Ok.shape ≡ record { processes = c.in_ok-processes.processes; registers = c.count.result } = shape_is c.new.result c.in_ok-processes.processes c.count.result c.in-Ok.shape c.in-Ok.is c.new.ensures in
    let n : c.count.result ≡ p.shape.registers = c.count.ensures.value ∙ ap length head.1 ∙ sym ok.registers in
    let t : c.in-Ok.shape ≡ p.shape = s ∙ ap (λ x. record { processes = x; registers = c.count.result }) head.0 ∙ ap (λ x. record { processes = p.shape.processes; registers = x }) n in
    let events = c.in_ok-events.ensures.whole p.events (fits c.in_ok-processes.names p.names p.events head.1 ok.events) ok.few (lines c.in_ok-processes.names p.names p.events c.read_head.new.lines.left head.1 head.3) in
    same_plan p _ _ _ _ t head.1 head.2 events

pub returns-in_err-processes-clause-stopped : goal.returns-in_err-processes-clause-stopped
returns-in_err-processes-clause-stopped g c =
    let p = err_from_is_err_and c.from_residual.result c.from_residual.ensures.1 in
    rw (p.1, p.2) c.in_err-processes.ensures.stopped

pub returns-in_err-events-clause-stopped : goal.returns-in_err-events-clause-stopped
returns-in_err-events-clause-stopped g c =
    let p = err_from_is_err_and c.from_residual-in_err-events.result c.from_residual-in_err-events.ensures.1 in
    let head = c.in_ok-processes.ensures in
    rw (p.1, p.2) (elim c.in_err-events.ensures.wrong [
      | inl memory ↦ inl memory
      | inr (why, is, wrong) ↦ inr (
        why,
        is,
        events_stopped c.args.lines.now c.read_head.new.lines c.read_events.new.lines c.in_ok-processes.processes c.in_ok-processes.names c.in_ok-processes.front why
            head.read.1 head.read.2 head.read.3 head.read.0 (λ m others other rest some few spelt e. (head.whole m others other rest some few spelt e).1) wrong head.on,
      )
    ])
