use Rattle.std.proofs.Common.{ℕ, List, Some, Vec, Global, subst, ap, ◌∙◌}
use Rattle.std.specs.Io.KnownBytes.{Appends}
use Rattle.reg_commands.specs.Replays.{start_of}
use Rattle.reg_commands.specs.Works.{OfDocument}
use Rattle.reg_show.specs.Schedules.{ShowsSchedule}
use Rattle.reg_show.specs.Seeds.{is_fair, reseeded, seed_of}
use Rattle.show_tests.proofs.values.scheduled.Goals as goal

pub returns-clause-shown : goal.returns-clause-shown
returns-clause-shown c = λ zero.
    let P : List ℕ → Type 0 = λ start. OfDocument (λ Wrote work. ShowsSchedule (is_fair c.args.player) (start_of work.front) Wrote (reseeded (seed_of c.args.player) work)) (Appends (Some start) (Some c.run_command-status.new.writer.items)) c.args.text.now in
    subst P c.new-output.ensures.items (c.run_command-status.ensures.answered zero)

pub returns-clause-quiet : goal.returns-clause-quiet
returns-clause-quiet c =
    λ zero. ap (λ (v : Vec ℕ Global). v.items) (c.run_command-status.ensures.quiet zero) ∙ c.new-errors.ensures.items
