use Rattle.std.proofs.Common.{◌≡◌, sym, ◌∙◌}
use Rattle.reg_outcomes.proofs.PlaysSeen.{finished_where_answered, is_play_from, on_ok, play_fault, seen_finished}
use Rattle.reg_outcomes.proofs.PlaysSeen.{seen_unfinished}
use Rattle.std.proofs.lemmas.Result.{IfErr-weaker}
use Rattle.reg_outcomes.specs.declared.faults.InterleavingFault.TheVariants.{TooManyStages}
use Rattle.reg_outcomes.specs.declared.orders.kinds.OrderKind.TheVariants.{Points}
use Rattle.reg_outcomes.specs.declared.interleavings.outcomes.TheConstants.{MOST_STAGES}
use Rattle.reg_outcomes.specs.Finding.{IsFindFault}
use Rattle.reg_outcomes.specs.Outcomes.{HasLateWitness, IsPlayFault}
use Rattle.reg_outcomes.proofs.tables.plays.count_play.Goals as goal

pub returns-then-play-clause-counted : goal.returns-then-play-clause-counted
returns-then-play-clause-counted g c =
    let start = g.F.FrontEnd.start in
    let work = c.args.work.now in
    let made = c.in_ok-play.play.world in
    let is = is_play_from start work c.args.seed made c.new-words.result c.in_ok-play.ensures.turns c.new-words.ensures in
    let answered = finished_where_answered start g.met.F.FrontEnd.lawful work.shape work.scripts work.budget made c.in_ok-play.play.finished c.in_ok-play.ensures.play c.requires.scripts c.events.ensures.all (sym c.history.ensures.value ∙ c.history.ensures.entries) in
    on_ok c.count_finished.result (λ told. (told.0, seen_finished start work c.args.seed made is told.0 c.in_ok-play.play.finished c.if-play.true c.in_ok-play.ensures.play answered told.1, told.2)) c.count_finished.ensures.counted

pub returns-then-play-clause-refused : goal.returns-then-play-clause-refused
returns-then-play-clause-refused g c =
    let start = g.F.FrontEnd.start in
    let work = c.args.work.now in
    let made = c.in_ok-play.play.world in
    let is = is_play_from start work c.args.seed made c.new-words.result c.in_ok-play.ensures.turns c.new-words.ensures in
    IfErr-weaker c.count_finished.result (λ fault. IsFindFault Points made.processes made.registers made.history MOST_STAGES fault × (fault ≡ TooManyStages → HasLateWitness start made)) (IsPlayFault start work c.args.seed)
    (λ fault why. play_fault start work c.args.seed made is c.in_ok-play.play.finished c.if-play.true c.in_ok-play.ensures.play fault why.0 why.1) c.count_finished.ensures.refused

pub returns-clause-counted : goal.returns-clause-counted
returns-clause-counted g c =
    let start = g.F.FrontEnd.start in
    let work = c.args.work.now in
    let made = c.in_ok-play.play.world in
    let is = is_play_from start work c.args.seed made c.new-words.result c.in_ok-play.ensures.turns c.new-words.ensures in
    let answered = finished_where_answered start g.met.F.FrontEnd.lawful work.shape work.scripts work.budget made c.in_ok-play.play.finished c.in_ok-play.ensures.play c.requires.scripts c.events.ensures.all (sym c.history.ensures.value ∙ c.history.ensures.entries) in
    let seen = seen_unfinished start work c.args.seed made is c.in_ok-play.play.finished c.if-play.false c.in_ok-play.ensures.play answered in
    (seen.0, seen.1, λ plays counted. c.add_unfinished.ensures plays seen.0 seen.2 counted)
