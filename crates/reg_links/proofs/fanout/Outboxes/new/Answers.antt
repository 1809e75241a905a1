use Rattle.std.proofs.Common.{ℕ, List, [], sym, subst}
use Rattle.reg_frames.specs.declared.bodies.Body.{Body}
use Rattle.reg_links.specs.Bounds.{InStep}
use Rattle.reg_links.proofs.Sendings.{nothing_queued}
use Rattle.reg_links.proofs.fanout.Outboxes.new.Goals as goal

pub invariant_of-result : goal.invariant_of-result
invariant_of-result g c =
    subst (λ (bodies : List Body). InStep (record { first = 0; bodies = bodies; counts = c.in_ok-counts.counts.items })) (sym c.new.ensures.items)
    (subst (λ (counts : List ℕ). InStep (record { first = 0; bodies = []; counts = counts })) (sym c.in_ok-counts.ensures) (nothing_queued c.args.processes))
