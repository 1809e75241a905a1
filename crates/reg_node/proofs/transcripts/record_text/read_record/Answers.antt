use Rattle.std.proofs.lemmas.Result.{err_from_is_err_and}
use Rattle.std.proofs.Common.{rules, inl, inr, ℕ, ◌≡◌, ◌∙◌, ap, sym, subst, length, map, List, refl}
use Rattle.reg_base.specs.Shape.{Extent}
use Rattle.reg_front.specs.declared.named.Front.{Front}
use Rattle.reg_text.specs.Lines.{AllFit}
use Rattle.reg_text.proofs.Shaped.{shape_is}
use Rattle.reg_node.specs.declared.transcripts.recorded.Recorded.{Recorded}
use Rattle.reg_node.specs.RecordLines.{Account, recorded_text, RecordedFits}
use Rattle.reg_node.proofs.Accounts.{steps_stopped}
use Rattle.reg_node.proofs.transcripts.record_text.read_record.Goals as goal

fits : (names ns : List (List ℕ)) (es : List Recorded) → names ≡ ns → AllFit (λ _ x. RecordedFits ns x) es
    → AllFit (λ _ x. RecordedFits names x) es
fits names ns es e h = let P : List (List ℕ) → Type 0 = λ n. AllFit (λ _ x. RecordedFits n x) es in subst P (sym e) h

lines : (names ns : List (List ℕ)) (es : List Recorded) (l : List (List ℕ)) → names ≡ ns → l ≡ map (recorded_text ns) es
    → l ≡ map (recorded_text names) es
lines names ns es l e h = h ∙ ap (λ n. map (recorded_text n) es) (sym e)

same_account : (a : Account) (front : Front) (shape : Extent) (names : List (List ℕ)) (steps : List Recorded)
    → front ≡ a.front → shape ≡ a.shape → names ≡ a.names → steps ≡ a.steps
    → record { front = front; shape = shape; names = names; steps = steps } ≡ a
same_account a front shape names steps b d e f = rw (b, d, e, f) refl

pub returns-in_err-front-clause-whole : goal.returns-in_err-front-clause-whole
returns-in_err-front-clause-whole g c = λ a ok e.
    let head = c.in_err-front.ensures.whole a.front a.shape.processes a.names (map (recorded_text a.names) a.steps) ok.some_process ok.processes ok.names e in
    search rules

pub returns-in_err-steps-clause-whole : goal.returns-in_err-steps-clause-whole
returns-in_err-steps-clause-whole g c = λ a ok e.
    let head = c.in_ok-front.ensures.whole a.front a.shape.processes a.names (map (recorded_text a.names) a.steps) ok.some_process ok.processes ok.names e in
    let steps = c.in_err-steps.ensures.whole a.steps (fits c.in_ok-front.names a.names a.steps head.2 ok.steps) ok.few (lines c.in_ok-front.names a.names a.steps c.read_head.new.lines.left head.2 head.3) in
    search rules

pub returns-clause-whole : goal.returns-clause-whole
returns-clause-whole g c = λ a ok e.
    let head = c.in_ok-front.ensures.whole a.front a.shape.processes a.names (map (recorded_text a.names) a.steps) ok.some_process ok.processes ok.names e in
    let s : c.in-Ok.shape ≡ record { processes = c.in_ok-front.processes; registers = c.count.result } = shape_is c.new.result c.in_ok-front.processes c.count.result c.in-Ok.shape c.in-Ok.is c.new.ensures in
    let n : c.count.result ≡ a.shape.registers = c.count.ensures.value ∙ ap length head.2 ∙ sym ok.registers in
    let t : c.in-Ok.shape ≡ a.shape = s ∙ ap (λ x. record { processes = x; registers = c.count.result }) head.1 ∙ ap (λ x. record { processes = a.shape.processes; registers = x }) n in
    let steps = c.in_ok-steps.ensures.whole a.steps (fits c.in_ok-front.names a.names a.steps head.2 ok.steps) ok.few (lines c.in_ok-front.names a.names a.steps c.read_head.new.lines.left head.2 head.3) in
    same_account a _ _ _ _ head.0 t head.2 steps

pub returns-in_err-front-clause-stopped : goal.returns-in_err-front-clause-stopped
returns-in_err-front-clause-stopped g c =
    let p = err_from_is_err_and c.from_residual.result c.from_residual.ensures.1 in
    rw (p.1, p.2) c.in_err-front.ensures.stopped

pub returns-in_err-steps-clause-stopped : goal.returns-in_err-steps-clause-stopped
returns-in_err-steps-clause-stopped g c =
    let p = err_from_is_err_and c.from_residual-in_err-steps.result c.from_residual-in_err-steps.ensures.1 in
    let head = c.in_ok-front.ensures in
    rw (p.1, p.2) (elim c.in_err-steps.ensures.wrong [
      | inl memory ↦ inl memory
      | inr (why, is, wrong) ↦ inr (
        why,
        is,
        steps_stopped c.args.lines.now c.read_head.new.lines c.read_steps.new.lines c.in_ok-front.front c.in_ok-front.processes c.in_ok-front.names why
            head.read.1 head.read.2 head.read.3 head.read.0 (λ other m others rest some few spelt e. (head.whole other m others rest some few spelt e).2) wrong head.on,
      )
    ])
