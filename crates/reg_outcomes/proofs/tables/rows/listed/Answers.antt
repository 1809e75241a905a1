use Rattle.std.proofs.Common.{List, ◌++◌, map, ap, ◌∙◌}
use Rattle.std.specs.Prelude.{Vec}
use Rattle.reg_outcomes.specs.declared.tables.tallies.Tally.{Tally}
use Rattle.reg_outcomes.specs.declared.told.ToldAnswer.{ToldAnswer}
use Rattle.reg_outcomes.specs.PlayTables.{Line}
use Rattle.reg_outcomes.specs.Counts.{line_of}
use Rattle.reg_outcomes.proofs.Stepping.{one_behind}
use Rattle.reg_outcomes.proofs.tables.rows.listed.Goals as goal

pub loop-outcome-init : goal.loop-outcome-init
loop-outcome-init g c =
    let line : Vec ToldAnswer g.row.A.Denot × Tally → Line = line_of (λ k. k.items) in
    let left : List Line = map line c.into_iter-outcome-iterator.result in
    ap (λ (l : List Line). l ++ left) c.new-rows.ensures.items ∙ ap (λ (l : List (Vec ToldAnswer g.row.A.Denot × Tally)). map line l) c.into_iter-outcome-iterator.ensures.into_iter_gives.0

pub loop-outcome-preserved : goal.loop-outcome-preserved
loop-outcome-preserved g c =
    let line : Vec ToldAnswer g.row.A.Denot × Tally → Line = line_of (λ k. k.items) in
    let left : List Line = map line c.next.new.self in
    ap (λ (l : List Line). l ++ left) c.in_ok-push.ensures.items
    ∙ one_behind c.loop-outcome.rows.items (map line c.loop-outcome.outcome-iterator) left (map line c.args.told.entries) (line (c.in-Some.outcome, c.in-Some.tally)) c.loop-outcome.invariant
    (ap (λ (l : List (Vec ToldAnswer g.row.A.Denot × Tally)). map line l) c.in-Some.ensures.steps)
