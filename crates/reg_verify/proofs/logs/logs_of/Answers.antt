use Rattle.std.proofs.Common.{◌≡◌, ◌+◌, List, map, take, sym, subst, arith, length, Vec}
use Rattle.std.proofs.lemmas.List.{length-map}
use Rattle.reg_records.specs.declared.entries.LogEntry.{LogEntry}
use Rattle.reg_verify.specs.Logs.{AreLogs}
use Rattle.reg_verify.proofs.Logged.{logs_kept, logs_more}
use Rattle.reg_verify.proofs.logs.logs_of.Goals as goal
use Rattle.reg_verify.proofs.logs.logs_of.Goals.{then-from-len+in_ok-add, else-from-len}

pub loop-step-preserved : goal.loop-step-preserved
loop-step-preserved g c =
    let items = λ (vs : List (Vec LogEntry g.row.A.Denot)). map (λ (v : Vec LogEntry g.row.A.Denot). v.items) vs in
    let old = c.loop-step.logs in
    let many = length-map old.items (λ (v : Vec LogEntry g.row.A.Denot). v.items) in
    let P = λ (vs : Vec (Vec LogEntry g.row.A.Denot) g.row.A.Denot). AreLogs c.args.processes (take (c.loop-step.step-index + 1) c.args.steps.now) (items vs.items) in
    elim c.if-from-len.branch [
      | then-from-len+in_ok-add w ↦
          let new = w.add.new.logs in
          let more = length-map new.items (λ (v : Vec LogEntry g.row.A.Denot). v.items) in
          let same : length (items new.items) ≡ length (items old.items) = omega (arith, many, more, new.ok.0, old.ok.0, w.in_ok-add.ensures.len) in
          subst P (sym w.logs-is) (logs_more c.args.processes c.args.steps.now c.loop-step.step-index _ (items old.items) c.loop-step-test.true c.loop-step.invariant (items new.items) same w.in_ok-add.ensures.added)
      | else-from-len w ↦
          let count = c.loop-step.invariant.count in
          subst P (sym w.logs-is) (logs_kept c.args.processes c.args.steps.now c.loop-step.step-index _ (items old.items) c.loop-step-test.true c.loop-step.invariant c.from.result c.from.ensures (omega (arith, many, count, old.ok.0, c.len.ensures, w.if-from-len.false)))
    ]
