use Rattle.std.proofs.Common.{ℕ, List, subst}
use Rattle.std.specs.Io.KnownBytes.{Appends}
use Rattle.reg_text.specs.Writing.{AppendsPart}
use Rattle.reg_commands.specs.Replays.{start_of}
use Rattle.reg_inputs.specs.Loads.{Load}
use Rattle.reg_show.specs.Outcomes.{ShowsOutcomes}
use Rattle.reg_show.proofs.counting.ManyPlaysWorkCommand.show.Goals as goal

pub returns-clause-ok : goal.returns-clause-ok
returns-clause-ok g c =
    let plays = c.args.self.plays in
    let work : Load = c.reseed-work.result in
    let told = c.in_ok-outcomes.outcomes in
    let Wrote : List ℕ → Type 0 = Appends (g.W.Write.contents c.args.writer.now) (g.W.Write.contents c.send.new.writer) in
    let shown : ShowsOutcomes plays (start_of work.front) Wrote work = record { lines = told.rows.items; unfinished = told.unfinished; undrawn = told.undrawn; told = c.in_ok-outcomes.ensures.told; written = c.in_ok-send.ensures } in
    subst (λ (w : Load). ShowsOutcomes plays (start_of w.front) Wrote w) c.reseed-work.ensures shown

pub returns-in_err-send-clause-part : goal.returns-in_err-send-clause-part
returns-in_err-send-clause-part g c failed =
    let plays = c.args.self.plays in
    let work : Load = c.reseed-work.result in
    let told = c.in_ok-outcomes.outcomes in
    let Wrote : List ℕ → Type 0 = AppendsPart (g.W.Write.contents c.args.writer.now) (g.W.Write.contents c.send.new.writer) in
    let shown : ShowsOutcomes plays (start_of work.front) Wrote work = record { lines = told.rows.items; unfinished = told.unfinished; undrawn = told.undrawn; told = c.in_ok-outcomes.ensures.told; written = c.in_err-send.ensures.1 } in
    subst (λ (w : Load). ShowsOutcomes plays (start_of w.front) Wrote w) c.reseed-work.ensures shown
