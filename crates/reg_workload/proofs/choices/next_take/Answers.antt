use Rattle.std.proofs.Common.{◌≡◌, None, sym, ap, ◌∙◌, rules}
use Rattle.std.specs.Option.{is_some}
use Rattle.std.proofs.lemmas.Bool.{false≢true}
use Rattle.reg_workload.specs.Plays.{next_frame}
use Rattle.reg_workload.specs.Seeded.{take_of}
use Rattle.reg_workload.proofs.choices.next_take.Goals as goal

pub unreachable-requires : goal.unreachable-requires
unreachable-requires g c =
    let none : next_frame g.F.FrontEnd.start c.args.player.now c.args.from c.args.to ≡ None = sym (c.frame.ensures.value c.requires.going) ∙ search rules in
    false≢true (sym (ap is_some none) ∙ c.requires.some)

pub returns : goal.returns
returns g c = ap (take_of c.args.from c.args.to) (sym (c.frame.ensures.value c.requires.going) ∙ c.in-Some.is)
