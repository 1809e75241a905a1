use Rattle.std.proofs.Common.{ap}
use Rattle.reg_front.specs.declared.named.Front.TheVariants.{Linear, LocalRead, LocalWrite}
use Rattle.reg_inputs.specs.Loads.{Load}
use Rattle.reg_commands.proofs.Played.{shown_by}
use Rattle.reg_commands.proofs.playing.play_workload.Goals as goal

pub returns-in-Linear-by_front-clause-ok : goal.returns-in-Linear-by_front-clause-ok
returns-in-Linear-by_front-clause-ok g c = shown_by c.args.fair Linear c.work.inside.front c.args.work c.by_front-report_of.result (ap (λ (w : Load). w.front) c.work.view_is) c.in-Linear-by_front.is c.by_front-report_of.ensures.shows

pub returns-in-LocalRead-by_front-clause-ok : goal.returns-in-LocalRead-by_front-clause-ok
returns-in-LocalRead-by_front-clause-ok g c = shown_by c.args.fair LocalRead c.work.inside.front c.args.work c.by_front-report_of-2.result (ap (λ (w : Load). w.front) c.work.view_is) c.in-LocalRead-by_front.is c.by_front-report_of-2.ensures.shows

pub returns-in-LocalWrite-by_front-clause-ok : goal.returns-in-LocalWrite-by_front-clause-ok
returns-in-LocalWrite-by_front-clause-ok g c = shown_by c.args.fair LocalWrite c.work.inside.front c.args.work c.by_front-report_of-3.result (ap (λ (w : Load). w.front) c.work.view_is) c.in-LocalWrite-by_front.is c.by_front-report_of-3.ensures.shows
