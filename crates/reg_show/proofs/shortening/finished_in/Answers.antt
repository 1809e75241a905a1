use Rattle.std.proofs.Common.{◌+◌, drop}
use Rattle.std.proofs.lemmas.List.{drop_more}
use Rattle.reg_show.specs.Shorts.{finished_of}
use Rattle.reg_show.proofs.Shortened.{finished_all, finished_next}
use Rattle.reg_show.proofs.shortening.finished_in.Goals as goal

pub loop-entry-preserved : goal.loop-entry-preserved
loop-entry-preserved g c =
    let xs = c.args.entries.now in
    let i = c.loop-entry.entry-index in
    finished_next c.args.process c.loop-entry.last c.last_called-last.result (drop i xs) (drop (i + 1) xs) _ c.loop-entry.finished.items c.add_finished.new.finished.items (finished_of c.args.process xs)
    c.last_called-last.ensures c.in_ok-add_finished.ensures (drop_more xs i _ c.loop-entry-test.true) c.loop-entry.invariant

pub returns : goal.returns
returns g c = finished_all c.args.process c.loop-entry.last c.args.entries.now c.loop-entry.entry-index c.loop-entry.finished.items (finished_of c.args.process c.args.entries.now) c.loop-entry-test.false c.loop-entry.invariant
