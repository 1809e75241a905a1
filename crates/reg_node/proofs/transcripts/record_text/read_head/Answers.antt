use Rattle.std.proofs.Common.{rules, [], ◌∷◌, inl, inr, ap, ◌∙◌}
use Rattle.std.proofs.lemmas.Result.{err_from_is_err_and}
use Rattle.reg_text.proofs.Numbered.{asked_on, goes_on, stopped_now, stopped_behind}
use Rattle.reg_text.proofs.Worded.{few as few_names}
use Rattle.reg_node.proofs.Heads.{first_line, front_line, processes_line, first_refused, second_refused, third_refused}
use Rattle.reg_node.proofs.Heads.{fourth_refused}
use Rattle.reg_node.proofs.transcripts.record_text.read_head.Goals as goal

pub returns-in_err-expect_line-clause-whole : goal.returns-in_err-expect_line-clause-whole
returns-in_err-expect_line-clause-whole g c = λ front processes names rest some few spelt e.
    absurd (c.in_err-expect_line.ensures.whole _ e)

pub returns-in_err-front-clause-whole : goal.returns-in_err-front-clause-whole
returns-in_err-front-clause-whole g c = λ front processes names rest some few spelt e.
    let first = c.in_ok-expect_line.ensures.whole _ e in
    absurd (c.in_err-front.ensures.whole front _ first)

pub returns-in_err-processes-clause-whole : goal.returns-in_err-processes-clause-whole
returns-in_err-processes-clause-whole g c = λ front processes names rest some few spelt e.
    let first = c.in_ok-expect_line.ensures.whole _ e in
    let second = c.in_ok-front.ensures.whole front _ first in
    absurd (c.in_err-processes.ensures.whole processes _ some few second.1)

pub returns-in_err-names-clause-whole : goal.returns-in_err-names-clause-whole
returns-in_err-names-clause-whole g c = λ front processes names rest some few spelt e.
    let first = c.in_ok-expect_line.ensures.whole _ e in
    let second = c.in_ok-front.ensures.whole front _ first in
    let third = c.in_ok-processes.ensures.whole processes _ some few second.1 in
    let fourth = c.in_err-names.ensures.whole names _ spelt (few_names names spelt) third.1 in
    search rules

pub returns-clause-whole : goal.returns-clause-whole
returns-clause-whole g c = λ front processes names rest some few spelt e.
    let first = c.in_ok-expect_line.ensures.whole _ e in
    let second = c.in_ok-front.ensures.whole front _ first in
    let third = c.in_ok-processes.ensures.whole processes _ some few second.1 in
    let fourth = c.in_ok-names.ensures.whole names _ spelt (few_names names spelt) third.1 in
    (second.0, third.0, fourth.0, fourth.1)

pub returns-in_err-expect_line-clause-stopped : goal.returns-in_err-expect_line-clause-stopped
returns-in_err-expect_line-clause-stopped g c =
    let p = err_from_is_err_and c.from_residual.result c.from_residual.ensures.1 in
    let told = c.in_err-expect_line.ensures in
    let new = c.expect_line.new.lines in
    let r = first_refused new.number c.in_err-expect_line.field-0.0 told.fault.0 told.fault.1 c.args.lines.now.left told.end told.form told.whole in
    rw (p.1, p.2) (inr (told.fault.0, told.fault.1, record { before = []; next = r.0; stopped = stopped_now r.0 c.args.lines.now new r.1 told.asked; first = r.2 }))

pub returns-in_err-front-clause-stopped : goal.returns-in_err-front-clause-stopped
returns-in_err-front-clause-stopped g c =
    let p = err_from_is_err_and c.from_residual-in_err-front.result c.from_residual-in_err-front.ensures.1 in
    let first = c.in_ok-expect_line.ensures in
    let told = c.in_err-front.ensures in
    let middle = c.expect_line.new.lines in
    let new = c.read_front.new.lines in
    let r = second_refused new.number c.in_err-front.field-0.0 told.fault.0 told.fault.1 middle.left told.end told.name told.form told.whole in
    rw (p.1, p.2) (inr (
      told.fault.0,
      told.fault.1,
      record {
        before = first_line ∷ [];
        next = r.0;
        stopped = stopped_behind (first_line ∷ []) [] r.0 c.args.lines.now middle new first.read
            (asked_on c.args.lines.now middle first_line middle.left first.asked first.read) (stopped_now r.0 middle new r.1 told.asked);
        first = r.2;
      },
    ))

pub returns-in_err-processes-clause-stopped : goal.returns-in_err-processes-clause-stopped
returns-in_err-processes-clause-stopped g c =
    let p = err_from_is_err_and c.from_residual-in_err-processes.result c.from_residual-in_err-processes.ensures.1 in
    let first = c.in_ok-expect_line.ensures in
    let second = c.in_ok-front.ensures in
    let told = c.in_err-processes.ensures in
    let front = c.in_ok-front.front in
    let middle = c.expect_line.new.lines in
    let behind = c.read_front.new.lines in
    let new = c.read_processes.new.lines in
    let r = third_refused new.number c.in_err-processes.field-0.0 told.fault.0 told.fault.1 behind.left front told.end told.range told.form told.whole in
    rw (p.1, p.2) (inr (
      told.fault.0,
      told.fault.1,
      record {
        before = first_line ∷ front_line front ∷ [];
        next = r.0;
        stopped = stopped_behind (first_line ∷ front_line front ∷ []) [] r.0 c.args.lines.now behind new (first.read ∙ ap (λ l. first_line ∷ l) second.read)
            (goes_on c.args.lines.now middle behind (asked_on c.args.lines.now middle first_line middle.left first.asked first.read)
            (asked_on middle behind (front_line front) behind.left second.asked second.read)) (stopped_now r.0 behind new r.1 told.asked);
        first = r.2;
      },
    ))

pub returns-in_err-names-clause-stopped : goal.returns-in_err-names-clause-stopped
returns-in_err-names-clause-stopped g c =
    let p = err_from_is_err_and c.from_residual-in_err-names.result c.from_residual-in_err-names.ensures.1 in
    let first = c.in_ok-expect_line.ensures in
    let second = c.in_ok-front.ensures in
    let third = c.in_ok-processes.ensures in
    let told = c.in_err-names.ensures in
    let front = c.in_ok-front.front in
    let processes = c.in_ok-processes.processes in
    let middle = c.expect_line.new.lines in
    let behind = c.read_front.new.lines in
    let further = c.read_processes.new.lines in
    let new = c.read_names.new.lines in
    rw (p.1, p.2) (elim told.fault [
      | inl memory ↦ inl memory
      | inr line ↦
          let r = fourth_refused new.number c.in_err-names.field-0.0 line.0 line.1 further.left front processes third.read.1 third.read.2 told.end told.words told.form
          (λ names rest spelt e. told.whole names rest spelt (few_names names spelt) e) in
          inr (
            line.0,
            line.1,
            record {
              before = first_line ∷ front_line front ∷ processes_line processes ∷ [];
              next = r.0;
              stopped = stopped_behind (first_line ∷ front_line front ∷ processes_line processes ∷ []) [] r.0 c.args.lines.now further new
                  (first.read ∙ ap (λ l. first_line ∷ l) (second.read ∙ ap (λ l. front_line front ∷ l) third.read.0))
                  (goes_on c.args.lines.now middle further (asked_on c.args.lines.now middle first_line middle.left first.asked first.read)
                  (goes_on middle behind further (asked_on middle behind (front_line front) behind.left second.asked second.read)
                  (asked_on behind further (processes_line processes) further.left third.asked third.read.0))) (stopped_now r.0 further new r.1 told.asked);
              first = r.2;
            },
          )
    ])

pub returns-clause-on : goal.returns-clause-on
returns-clause-on g c =
    let first = c.in_ok-expect_line.ensures in
    let second = c.in_ok-front.ensures in
    let third = c.in_ok-processes.ensures in
    let fourth = c.in_ok-names.ensures in
    let middle = c.expect_line.new.lines in
    let behind = c.read_front.new.lines in
    let further = c.read_processes.new.lines in
    let new = c.read_names.new.lines in
    goes_on c.args.lines.now middle new (asked_on c.args.lines.now middle _ middle.left first.asked first.read)
    (goes_on middle behind new (asked_on middle behind _ behind.left second.asked second.read)
    (goes_on behind further new (asked_on behind further _ further.left third.asked third.read.0)
    (asked_on further new _ new.left fourth.asked fourth.read.0)))
