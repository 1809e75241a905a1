use Rattle.std.proofs.Common.{sym}
use Rattle.std.proofs.lemmas.List.{drop-drop}
use Rattle.reg_world.proofs.packed_events.passed_after.Goals as goal

pub returns-then-passed-len : goal.returns-then-passed-len
returns-then-passed-len g c = sym (drop-drop 1 c.args.passed c.args.ahead.now.items)
