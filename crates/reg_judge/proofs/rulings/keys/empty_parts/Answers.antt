use Rattle.reg_judge.proofs.Keying.{parts_push}
use Rattle.reg_judge.proofs.rulings.keys.empty_parts.Goals as goal

pub loop-key-preserved : goal.loop-key-preserved
loop-key-preserved g c = parts_push c.loop-key._key c.loop-key.parts.items _ _ c.loop-key.invariant c.new.ensures.items c.in_ok-push.ensures.items
