use Rattle.std.proofs.Common.{[], ◌∷◌, ◌++◌, ◌∙◌, ap}
use Rattle.reg_world.specs.Pages.{Taken}
use Rattle.reg_world.proofs.Outlining.{added, still_these}
use Rattle.reg_world.proofs.packed_events.PackedEventsEventStore.add.Goals as goal

pub invariant_of-self : goal.invariant_of-self
invariant_of-self g c =
    let outlined = c.push_reserved.ensures.items ∙ ap (λ o. c.self.inside.outlines.items ++ o ∷ []) c.outline_of.ensures in
    still_these c.self.inside.outlines.items c.push_reserved.new.self.items c.self.inside.values.items c.push_values.new.values.items c.args.event c.self.invariant outlined c.push_values.ensures

pub returns-clause-taken : goal.returns-clause-taken
returns-clause-taken g c =
    let outlined = c.push_reserved.ensures.items ∙ ap (λ o. c.self.inside.outlines.items ++ o ∷ []) c.outline_of.ensures in
    added c.self.inside.outlines.items c.push_reserved.new.self.items c.self.inside.values.items c.push_values.new.values.items c.args.event c.self.invariant outlined c.push_values.ensures
    ∙ ap (λ (t : Taken). t.taken ++ c.args.event ∷ []) c.self.view_is
