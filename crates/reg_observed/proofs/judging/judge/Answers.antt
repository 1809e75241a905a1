use Rattle.reg_observed.proofs.Hearing.{all_speak, no_wider}
use Rattle.reg_observed.proofs.judging.judge.Goals as goal

pub rows_in_turn-requires : goal.rows_in_turn-requires
rows_in_turn-requires g c =
    let v = c.args.heard.now.words in
    (c.requires.0, all_speak v _ (record { processes = no_wider v.processes; keys = no_wider v.keys; values = c.in_ok-first.ensures.wider }) c.requires.0 c.args.heard.now.events.items c.requires.1)

pub returns-clause-told : goal.returns-clause-told
returns-clause-told g c = λ told speak.
    let v = c.args.heard.now.words in
    all_speak v _ (record { processes = no_wider v.processes; keys = no_wider v.keys; values = c.in_ok-first.ensures.wider }) told c.args.heard.now.events.items speak
