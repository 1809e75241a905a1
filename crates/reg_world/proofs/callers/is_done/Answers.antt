use Rattle.std.proofs.Common.{◌∙◌, ltb, ap, sym, arith}
use Rattle.std.proofs.lemmas.Bool.{le-ltb}
use Rattle.std.proofs.lemmas.List.{get_or_read, get_or_past}
use Rattle.reg_world.specs.Tallies.{Tally, no_calls, finished}
use Rattle.reg_world.proofs.callers.is_done.Goals as goal

pub returns-in-Some : goal.returns-in-Some
returns-in-Some g c =
    let found = c.in-Some.ensures.lookup in
    ap (ltb c.args.id.number) (c.finished.ensures ∙ ap finished (get_or_read c.args.callers.now c.args.id.process c.in-Some.caller.now found.3.0 found.1 no_calls))

pub returns-in-None : goal.returns-in-None
returns-in-None g c =
    let id = c.args.id in
    sym (ap (λ (t : Tally). ltb id.number (finished t)) (get_or_past c.args.callers.now id.process no_calls c.in-None.ensures.lookup.3) ∙ le-ltb id.number 0 (omega arith))
