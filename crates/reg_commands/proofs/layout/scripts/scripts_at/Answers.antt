use Rattle.std.proofs.Common.{◌≡◌, [], ◌∷◌, ◌++◌, length, ap, arith, rules, length-append}
use Rattle.std.proofs.lemmas.List.{map-append}
use Rattle.reg_commands.proofs.Fits.{one_more}
use Rattle.reg_commands.proofs.layout.scripts.scripts_at.Goals as goal

pub loop-process-preserved : goal.loop-process-preserved
loop-process-preserved g c =
    let more : c.push.new.self.items ≡ c.loop-process.all.items ++ c.in_ok-script.script ∷ [] = search rules in
    let count = length-append c.loop-process.all.items (c.in_ok-script.script ∷ []) in
    let long = ap length more in
    (omega (arith, count, long, c.loop-process.invariant.0), rw (more, map-append) (one_more _ _ _ c.loop-process.invariant.1 c.in_ok-script.ensures))
