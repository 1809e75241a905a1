use Rattle.std.proofs.lemmas.List.{drop_more}
use Rattle.reg_show.specs.Shorts.{up_to_last_answer}
use Rattle.reg_show.proofs.Shortened.{counted_all, counted_next}
use Rattle.reg_show.proofs.shortening.count_to_last_answer.Goals as goal

pub loop-entry-preserved : goal.loop-entry-preserved
loop-entry-preserved c =
    let xs = c.args.entries.now in
    let i = c.loop-entry.entry-index in
    counted_next c.loop-entry.count c.count_past-count.result i (up_to_last_answer xs) xs _ c.count_past-count.ensures (drop_more xs i _ c.loop-entry-test.true) c.loop-entry.invariant

pub returns : goal.returns
returns c = counted_all c.loop-entry.count c.loop-entry.entry-index (up_to_last_answer c.args.entries.now) c.args.entries.now c.loop-entry-test.false c.loop-entry.invariant
