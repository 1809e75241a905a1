use Rattle.std.proofs.Common.{rules, arith, ◌≡◌, ◌≢◌, ◌<◌, ◌∙◌, None, sym, ap, length}
use Rattle.reg_base.specs.declared.limits.TheConstants.{MOST_EVENTS}
use Rattle.reg_workload.specs.Plays.{Playing, next_frame, cursor_at, passes}
use Rattle.reg_workload.proofs.Allowed.{few_accepted}
use Rattle.reg_world.specs.Worlds.{Made}
use Rattle.reg_workload.proofs.Fairness.{take_fair}
use Rattle.reg_workload.proofs.Rounding.{take_not, take_full, take_made}
use Rattle.reg_workload.proofs.Rounds.{makes}
use Rattle.reg_workload.proofs.fair.take_one.Goals as goal

pub returns-clause-part : goal.returns-clause-part
returns-clause-part g c =
    let start = g.F.FrontEnd.start in
    let old = c.args.player.now in
    let mid = c.take.new.self in
    let new = c.leave.new.self in
    let e = c.in_ok-take.ensures in
    let L = c.leave.ensures.left in
    let fair = take_fair start g.met.F.FrontEnd.lawful old mid new c.args.from c.args.to c.in-Some.number c.requires.fair c.in-Some.ensures.next e.accepts e.cursors L in
    let left : length old.made.accepted ≢ c.args.budget = let a = c.events.ensures in let b = c.if-events-budget.false in λ q. b (a ∙ q) in
    makes start c.args.budget old new _ c.requires.few left fair (L.scripts ∙ c.take.ensures.same) (ap Made.processes L.made ∙ c.take.ensures.processes) (ap Made.registers L.made ∙ c.take.ensures.registers) (ap Made.failed L.made ∙ e.going) (ap (λ (m : Made). length m.accepted) L.made ∙ e.more)

pub returns-in_default-clause-value : goal.returns-in_default-clause-value
returns-in_default-clause-value g c =
    let none : next_frame g.F.FrontEnd.start c.args.player.now c.args.from c.args.to ≡ None = sym (c.frame.ensures.value c.requires.going) ∙ search rules in
    sym (take_not g.F.FrontEnd.start c.args.budget c.args.player.now c.args.from c.args.to none)

pub returns-then-events-budget-clause-value : goal.returns-then-events-budget-clause-value
returns-then-events-budget-clause-value g c = sym (take_full g.F.FrontEnd.start c.args.budget c.args.player.now c.args.from c.args.to (sym c.events.ensures ∙ c.if-events-budget.true))

pub returns-clause-value : goal.returns-clause-value
returns-clause-value g c =
    let start = g.F.FrontEnd.start in
    let s = c.args.player.now in
    let left : length s.made.accepted < c.args.budget = let a = c.events.ensures in let b = c.if-events-budget.false in let f = c.requires.few in omega (arith, a, b, f) in
    let taken = c.in_ok-take.ensures.value in
    let same : cursor_at c.take.new.self c.args.from c.args.to ≡ cursor_at s c.args.from c.args.to = ap (λ (t : Playing). cursor_at t c.args.from c.args.to) taken in
    let behind : cursor_at c.take.new.self c.args.from c.args.to < MOST_EVENTS =
    let a = c.requires.fair.few c.args.from c.args.to in
    let b = few_accepted start s.made in
    let m = c.requires.budget in
    omega (arith, a, b, m, same, left) in
    c.leave.ensures.value behind ∙ (ap (λ t. passes t c.args.from c.args.to) taken
    ∙ sym (take_made start c.args.budget s c.args.from c.args.to c.in-Some.number (sym (c.frame.ensures.value c.requires.going) ∙ c.in-Some.is) left))
