use Rattle.std.proofs.Common.{◌∙◌, ap}
use Rattle.rand_core.specs.Pcg32Seed.{pcg32_seed}
use Rattle.rand_pcg.specs.Pcg.{pcg32_of_seed}
use Rattle.reg_inputs.specs.Loads.{Load}
use Rattle.reg_commands.proofs.Played.{by_fair, by_seed}
use Rattle.reg_commands.proofs.playing.play_by.Goals as goal

pub returns-then-fair : goal.returns-then-fair
returns-then-fair g c =
    let play = c.play_fair_in.ensures in
    by_fair (λ p. p.world) (λ p. p.finished) c.args.fair g.F.FrontEnd.start c.args.work.now c.if-fair.true c.play_fair_in.result play.rounds play.play play.in_order play.finished

pub returns-else-fair : goal.returns-else-fair
returns-else-fair g c =
    let play = c.play_seeded_in.ensures in
    by_seed (λ p. p.world) (λ p. p.finished) c.args.fair g.F.FrontEnd.start c.args.work.now c.if-fair.false c.new.result
    (c.new.ensures ∙ ap (λ (w : Load). pcg32_of_seed (pcg32_seed 16 w.seed)) c.work.view_is) c.play_seeded_in.result play.turns play.play play.finished
