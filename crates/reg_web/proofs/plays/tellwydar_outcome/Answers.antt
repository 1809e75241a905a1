use Rattle.std.proofs.Common.{rules, ℕ, subst}
use Rattle.reg_commands.specs.Lent.{Fills}
use Rattle.reg_commands.specs.Replays.{start_of}
use Rattle.reg_show.specs.OneOutcome.{ShowsOutcome, StopsOutcome}
use Rattle.reg_web.specs.Texts.{IsShownOf}
use Rattle.reg_web.proofs.plays.tellwydar_outcome.Goals as goal

pub returns : goal.returns
returns c =
    let Filled : ℕ → Type 0 = λ number. Fills (IsShownOf (λ fault work. StopsOutcome number work fault) (λ Wrote work. ShowsOutcome number (start_of work.front) Wrote work) c.args.text.now) c.tell_in.result c.args.output.now c.tell_in.new.output c.args.errors.now c.tell_in.new.errors c.tell_in.new.lengths in
    let made : Filled c.max-number.result = search rules in
    subst Filled c.max-number.ensures made
