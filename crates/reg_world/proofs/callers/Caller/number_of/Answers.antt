use Rattle.std.proofs.Common.{◌∙◌, List, subst, ap}
use Rattle.reg_checkers.specs.History.{IsAt}
use Rattle.reg_world.specs.declared.callers.Note.{Note}
use Rattle.reg_world.specs.Tallies.{Tally}
use Rattle.reg_world.proofs.code.Noted.{number_next, at_index}
use Rattle.reg_world.proofs.callers.Caller.number_of.Goals as goal

pub returns-clause-number : goal.returns-clause-number
returns-clause-number g c =
    let found = c.in-Some.ensures.lookup in
    let at = at_index c.deref.result.now c.self.inside.next c.in-Some.note.now found.3.0 found.1 in
    number_next c.args.self.now.casts c.self.inside.next c.in-Some.note.now c.args.time c.requires (subst (λ (l : List Note). IsAt l c.self.inside.next c.in-Some.note.now) (c.deref.ensures.value ∙ ap (λ (t : Tally). t.casts) c.self.view_is) at) c.if-note-time.true
