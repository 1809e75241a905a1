use Rattle.std.proofs.Common.{rules, ℕ, None, subst}
use Rattle.reg_commands.specs.Lent.{Fills}
use Rattle.reg_commands.specs.Replays.{start_of}
use Rattle.reg_show.specs.Outcomes.{ShowsOutcomes, StopsPlays}
use Rattle.reg_show.specs.Seeds.{reseeded}
use Rattle.reg_web.specs.Texts.{IsShownOf}
use Rattle.reg_web.proofs.plays.tellwydar_outcomes.Goals as goal

pub returns : goal.returns
returns c =
    let Filled : ℕ → Type 0 = λ plays. Fills (IsShownOf (λ fault work. StopsPlays plays (start_of work.front) (reseeded None work) fault) (λ Wrote work. ShowsOutcomes plays (start_of work.front) Wrote (reseeded None work)) c.args.text.now) c.tell_in.result c.args.output.now c.tell_in.new.output c.args.errors.now c.tell_in.new.errors c.tell_in.new.lengths in
    let made : Filled c.min-plays.result = search rules in
    subst Filled c.min-plays.ensures made
