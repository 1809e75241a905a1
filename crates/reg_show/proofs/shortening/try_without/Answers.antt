use Rattle.std.proofs.Common.{◌∙◌, List, ap, refl, remove, sym}
use Rattle.std.proofs.lemmas.Bool.{false≢true}
use Rattle.reg_process.specs.declared.events.Event.{Event}
use Rattle.reg_show.specs.Shorts.{KeepsAnswers}
use Rattle.reg_show.proofs.Shortened.{tried_gone, tried_stays}
use Rattle.reg_show.proofs.shortening.try_without.Goals as goal

pub returns-then-not-keeps : goal.returns-then-not-keeps
returns-then-not-keeps g c =
    tried_stays (KeepsAnswers g.F.FrontEnd.start c.args.shape c.args.entries.now) c.args.events.now.items c.in_ok-others.others.items c.args.events.now.items c.args.place (c.in_ok-others.ensures ∙ ap (λ (l : List Event). remove l c.args.place) c.as_slice.ensures.value) (λ keeps. false≢true (sym c.if-not-keeps.true ∙ c.in_ok-keeps.ensures.1 keeps)) refl

pub returns : goal.returns
returns g c =
    tried_gone (KeepsAnswers g.F.FrontEnd.start c.args.shape c.args.entries.now) c.args.events.now.items c.in_ok-others.others.items c.remove.new.self.items c.args.place (c.in_ok-others.ensures ∙ ap (λ (l : List Event). remove l c.args.place) c.as_slice.ensures.value) (c.in_ok-keeps.ensures.0 c.if-not-keeps.false) c.remove.ensures.items
