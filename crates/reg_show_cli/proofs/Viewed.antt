-- What the words ask to show: a large drawing, or something else.
use Rattle.std.proofs.Common.{◌≡◌, List, Option, None, Some}
use Rattle.std.specs.Prelude.{◌≢◌, MatchOption}
use Rattle.reg_cli.specs.Subcommands.{Text}
use Rattle.reg_show.specs.declared.showing.Form.{Form}
use Rattle.reg_show.specs.declared.showing.View.{View}
use Rattle.reg_show.specs.declared.Showing.{Showing}
use Rattle.reg_show.specs.declared.Showing.TheVariants.{Data, Draw, DrawLarge, Page, Rest, Trace}
use Rattle.reg_show_cli.specs.Lines.{IsShowLine}

-- words that ask for no large drawing and for nothing else ask to show nothing
none_shown : (line : List Text) → ((form : Form) → ¬ IsShowLine line (record { showing = DrawLarge; form = form }))
    → ((view : View) → view.showing ≢ DrawLarge → ¬ IsShowLine line view) → (showing : Showing) (form : Form)
    → ¬ IsShowLine line (record { showing = showing; form = form })
none_shown line large usual Trace form h = usual (record { showing = Trace; form = form }) (λ e. cc) h
none_shown line large usual Draw form h = usual (record { showing = Draw; form = form }) (λ e. cc) h
none_shown line large usual DrawLarge form h = large form h
none_shown line large usual Data form h = usual (record { showing = Data; form = form }) (λ e. cc) h
none_shown line large usual Page form h = usual (record { showing = Page; form = form }) (λ e. cc) h
none_shown line large usual Rest form h = usual (record { showing = Rest; form = form }) (λ e. cc) h

pub all_views : (line : List Text) (asked : Option View)
    → ((form : Form) → ¬ IsShowLine line (record { showing = DrawLarge; form = form }))
    → MatchOption asked ((view : View) → view.showing ≢ DrawLarge → ¬ IsShowLine line view) (IsShowLine line) → MatchOption asked ((view : View) → ¬ IsShowLine line view) (IsShowLine line)
all_views line None large usual = λ view h. none_shown line large usual view.showing view.form h
all_views line (Some view) large usual = usual
