use Rattle.std.proofs.Common.{rules, [], ◌∷◌, inl, inr, ap, ◌∙◌}
use Rattle.std.proofs.lemmas.Result.{err_from_is_err_and}
use Rattle.reg_text.proofs.Numbered.{asked_on, goes_on, stopped_now, stopped_behind}
use Rattle.reg_inputs.proofs.Heads.{processes_line, registers_line, first_refused, second_refused, third_refused}
use Rattle.reg_text.proofs.Worded.{few as few_names}
use Rattle.reg_inputs.proofs.schedules.read_head.Goals as goal

pub returns-in_err-processes-clause-whole : goal.returns-in_err-processes-clause-whole
returns-in_err-processes-clause-whole g c = λ processes names front rest some few spelt e.
    absurd (c.in_err-processes.ensures.whole processes _ some few e)

pub returns-in_err-names-clause-whole : goal.returns-in_err-names-clause-whole
returns-in_err-names-clause-whole g c = λ processes names front rest some few spelt e.
    let first = c.in_ok-processes.ensures.whole processes _ some few e in
    let second = c.in_err-names.ensures.whole names _ spelt (few_names names spelt) first.1 in
    search rules

pub returns-in_err-front-clause-whole : goal.returns-in_err-front-clause-whole
returns-in_err-front-clause-whole g c = λ processes names front rest some few spelt e.
    let first = c.in_ok-processes.ensures.whole processes _ some few e in
    let second = c.in_ok-names.ensures.whole names _ spelt (few_names names spelt) first.1 in
    absurd (c.in_err-front.ensures.whole front rest second.1)

pub returns-clause-whole : goal.returns-clause-whole
returns-clause-whole g c = λ processes names front rest some few spelt e.
    let first = c.in_ok-processes.ensures.whole processes _ some few e in
    let second = c.in_ok-names.ensures.whole names _ spelt (few_names names spelt) first.1 in
    let third = c.in_ok-front.ensures.whole front rest second.1 in
    (first.0, second.0, third.0, third.1)

pub returns-in_err-processes-clause-stopped : goal.returns-in_err-processes-clause-stopped
returns-in_err-processes-clause-stopped g c =
    let p = err_from_is_err_and c.from_residual.result c.from_residual.ensures.1 in
    let told = c.in_err-processes.ensures in
    let new = c.read_processes.new.lines in
    let r = first_refused new.number c.in_err-processes.field-0.0 told.fault.0 told.fault.1 c.args.lines.now.left told.end told.range told.form told.whole in
    rw (p.1, p.2) (inr (told.fault.0, told.fault.1, record { before = []; next = r.0; stopped = stopped_now r.0 c.args.lines.now new r.1 told.asked; first = r.2 }))

pub returns-in_err-names-clause-stopped : goal.returns-in_err-names-clause-stopped
returns-in_err-names-clause-stopped g c =
    let p = err_from_is_err_and c.from_residual-in_err-names.result c.from_residual-in_err-names.ensures.1 in
    let first = c.in_ok-processes.ensures in
    let told = c.in_err-names.ensures in
    let processes = c.in_ok-processes.processes in
    let middle = c.read_processes.new.lines in
    let new = c.read_names.new.lines in
    rw (p.1, p.2) (elim told.fault [
      | inl memory ↦ inl memory
      | inr line ↦
          let r = second_refused new.number c.in_err-names.field-0.0 line.0 line.1 middle.left processes first.read.1 first.read.2 told.end told.words told.form
          (λ names rest spelt e. told.whole names rest spelt (few_names names spelt) e) in
          inr (
            line.0,
            line.1,
            record {
              before = processes_line processes ∷ [];
              next = r.0;
              stopped = stopped_behind (processes_line processes ∷ []) [] r.0 c.args.lines.now middle new first.read.0
                  (asked_on c.args.lines.now middle (processes_line processes) middle.left first.asked first.read.0) (stopped_now r.0 middle new r.1 told.asked);
              first = r.2;
            },
          )
    ])

pub returns-in_err-front-clause-stopped : goal.returns-in_err-front-clause-stopped
returns-in_err-front-clause-stopped g c =
    let p = err_from_is_err_and c.from_residual-in_err-front.result c.from_residual-in_err-front.ensures.1 in
    let first = c.in_ok-processes.ensures in
    let second = c.in_ok-names.ensures in
    let told = c.in_err-front.ensures in
    let processes = c.in_ok-processes.processes in
    let names = c.in_ok-names.names in
    let middle = c.read_processes.new.lines in
    let behind = c.read_names.new.lines in
    let new = c.read_front.new.lines in
    let r = third_refused new.number c.in_err-front.field-0.0 told.fault.0 told.fault.1 behind.left processes names first.read.1 first.read.2 second.read.1 told.end told.name told.form told.whole in
    rw (p.1, p.2) (inr (
      told.fault.0,
      told.fault.1,
      record {
        before = processes_line processes ∷ registers_line names ∷ [];
        next = r.0;
        stopped = stopped_behind (processes_line processes ∷ registers_line names ∷ []) [] r.0 c.args.lines.now behind new (first.read.0 ∙ ap (λ l. processes_line processes ∷ l) second.read.0)
            (goes_on c.args.lines.now middle behind (asked_on c.args.lines.now middle (processes_line processes) middle.left first.asked first.read.0)
            (asked_on middle behind (registers_line names) behind.left second.asked second.read.0)) (stopped_now r.0 behind new r.1 told.asked);
        first = r.2;
      },
    ))

pub returns-clause-on : goal.returns-clause-on
returns-clause-on g c =
    let first = c.in_ok-processes.ensures in
    let second = c.in_ok-names.ensures in
    let third = c.in_ok-front.ensures in
    let middle = c.read_processes.new.lines in
    let behind = c.read_names.new.lines in
    goes_on c.args.lines.now middle c.read_front.new.lines (asked_on c.args.lines.now middle _ middle.left first.asked first.read.0)
    (goes_on middle behind c.read_front.new.lines (asked_on middle behind _ behind.left second.asked second.read.0)
    (asked_on behind c.read_front.new.lines _ c.read_front.new.lines.left third.asked third.read))
