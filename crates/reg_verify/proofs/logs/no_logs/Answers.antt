use Rattle.std.proofs.Common.{◌≡◌, ◌+◌, ◌∷◌, ◌++◌, [], List, map, ap, sym, subst, ◌∙◌, Vec}
use Rattle.std.proofs.lemmas.List.{map-append}
use Rattle.reg_records.specs.declared.entries.LogEntry.{LogEntry}
use Rattle.reg_verify.specs.Logs.{AreLogs}
use Rattle.reg_verify.proofs.Logged.{one_more_log}
use Rattle.reg_verify.proofs.logs.no_logs.Goals as goal

pub loop-process-preserved : goal.loop-process-preserved
loop-process-preserved g c =
    let logs : List (List LogEntry) = map (λ (v : Vec LogEntry g.row.A.Denot). v.items) c.loop-process.logs.items in
    let grown : map (λ (v : Vec LogEntry g.row.A.Denot). v.items) c.push.new.self.items ≡ logs ++ [] ∷ [] =
    ap (map (λ (v : Vec LogEntry g.row.A.Denot). v.items)) c.in_ok-push.ensures.items ∙ map-append (λ (v : Vec LogEntry g.row.A.Denot). v.items) c.loop-process.logs.items (c.new.result ∷ []) ∙ ap (λ l. logs ++ l ∷ []) c.new.ensures.items in
    subst (λ l. AreLogs (c.loop-process._process + 1) [] l) (sym grown) (one_more_log c.loop-process._process logs c.loop-process.invariant)
