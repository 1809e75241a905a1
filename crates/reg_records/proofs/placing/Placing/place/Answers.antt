use Rattle.std.proofs.Common.{arith, refl, ◌<◌, ◌≤◌, ◌∙◌, ap, length, map}
use Rattle.std.proofs.lemmas.List.{length-map}
use Rattle.reg_base.specs.declared.limits.TheConstants.{MOST_EVENTS}
use Rattle.reg_world.specs.Worlds.{Made}
use Rattle.reg_records.proofs.Placed.{one_done, one_full, one_waits, one_other, one_made}
use Rattle.reg_records.proofs.placing.Placing.place.Goals as goal

pub returns-in_default-clause-next : goal.returns-in_default-clause-next
returns-in_default-clause-next g c = (
  refl,
  λ whole.
      one_done g.F.FrontEnd.start (map (λ v. v.items) c.args.logs.now) c.args.self.now c.self.inside.order.items c.self.inside.counts.items c.self.inside.world c.self.view_is c.requires.placing c.args.process c.index-place.result.now c.from.result (rw length-map c.requires.within) c.from.ensures c.index-place.ensures
      c.from-2.result c.from-2.ensures c.in_default.ensures,
)

pub returns-then-len-clause-fault : goal.returns-then-len-clause-fault
returns-then-len-clause-fault g c =
    one_full g.F.FrontEnd.start (map (λ v. v.items) c.args.logs.now) c.args.self.now c.self.inside.order.items c.self.inside.counts.items c.self.inside.world c.self.view_is c.requires.placing c.args.process c.index-place.result.now c.from.result (rw length-map c.requires.within) c.from.ensures c.index-place.ensures
    c.from-2.result c.from-2.ensures c.in-Some.entry c.in-Some.ensures
    (let many : MOST_EVENTS ≤ length c.self.inside.order.items = omega arith in many)

pub returns-in_ok-note-in-Made-clause-next : goal.returns-in_ok-note-in-Made-clause-next
returns-in_ok-note-in-Made-clause-next g c =
    let gone = rw c.in-Made.is at c.in_ok-go.ensures in
    one_made g.F.FrontEnd.start (map (λ v. v.items) c.args.logs.now) c.args.self.now c.self.inside.order.items c.self.inside.counts.items c.self.inside.world c.self.view_is c.requires.placing c.args.process c.index-place.result.now c.from.result (rw length-map c.requires.within) c.from.ensures c.index-place.ensures
    c.from-2.result c.from-2.ensures c.in-Some.entry c.in-Some.ensures
    record { order = c.note.new.order.items; counts = c.note.new.counts.items; world = c.go.new.world } gone.0 gone.1 c.in_ok-note-in-Made.ensures.order gone.2 c.in_ok-note-in-Made.ensures.tallied c.in_ok-note-in-Made.ensures.len

pub returns-in-Waits-clause-next : goal.returns-in-Waits-clause-next
returns-in-Waits-clause-next g c =
    let gone = rw c.in-Waits.is at c.in_ok-go.ensures in
    let room : length c.self.inside.order.items < MOST_EVENTS = omega arith in (
      ap (λ (w : Made). record { order = c.self.inside.order.items; counts = c.self.inside.counts.items; world = w }) gone.0 ∙ c.self.view_is,
      λ whole.
          one_waits g.F.FrontEnd.start (map (λ v. v.items) c.args.logs.now) c.args.self.now c.self.inside.order.items c.self.inside.counts.items c.self.inside.world c.self.view_is c.requires.placing c.args.process c.index-place.result.now c.from.result (rw length-map c.requires.within) c.from.ensures c.index-place.ensures
          c.from-2.result c.from-2.ensures c.in-Some.entry c.in-Some.ensures room (gone.1 whole),
    )

pub returns-in-Other-clause-fault : goal.returns-in-Other-clause-fault
returns-in-Other-clause-fault g c =
    let gone = rw c.in-Other.is at c.in_ok-go.ensures in
    let room : length c.self.inside.order.items < MOST_EVENTS = omega arith in
    one_other g.F.FrontEnd.start (map (λ v. v.items) c.args.logs.now) c.args.self.now c.self.inside.order.items c.self.inside.counts.items c.self.inside.world c.self.view_is c.requires.placing c.args.process c.index-place.result.now c.from.result (rw length-map c.requires.within) c.from.ensures c.index-place.ensures
    c.from-2.result c.from-2.ensures c.in-Some.entry c.in-Some.ensures room gone.0.0 gone.0.1 gone.1
