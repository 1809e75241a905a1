use Rattle.std.proofs.Common.{◌≡◌, map, rules}
use Rattle.reg_live.specs.Scripts.{AreStarted, ops_of}
use Rattle.reg_live.proofs.Performing.{where_all}
use Rattle.reg_live.proofs.scripts.run_scripts_in.Goals as goal

pub returns-clause-lived : goal.returns-clause-lived
returns-clause-lived g c = search rules

pub returns-clause-performed : goal.returns-clause-performed
returns-clause-performed g c =
    where_all c.start_callers.result c.is_ok-all.result c.end.result (λ scripts. AreStarted scripts (map (λ h. (h.promise.process, h.promise.script.value.items)) c.start_callers.new.handles.items)) (λ closed scripts. map ops_of (map (λ v. v.items) closed.receipts.items) ≡ scripts)
    (map (λ s. s.items) c.args.scripts.items) c.is_ok-all.ensures.value c.start_callers.ensures c.end.ensures.all c.end.ensures.performed
