use Rattle.std.proofs.Common.{ℕ, ◌≡◌, ◌∙◌, List, None, ap, subst}
use Rattle.reg_history.specs.Reports.{Contents}
use Rattle.reg_world.specs.Worlds.{Made, run_in}
use Rattle.reg_commands.proofs.Shown.{parts_of, serial_given, shows, time_given}
use Rattle.reg_web.proofs.under.report_world.Goals as goal

pub returns-in-Ok-clause-shows : goal.returns-in-Ok-clause-shows
returns-in-Ok-clause-shows g c =
    let start = g.F.FrontEnd.start in
    let w : Made = c.args.world in
    let ids = c.in_ok-order.order.items in
    let given = c.into_history.result in
    let P : Made → Type 0 = λ w. (run_in start w).accepted ≡ w.accepted in
    let named : List ℕ → Contents = λ front. record { front = front; shape = given.shape; names = c.args.names; entries = given.entries; order = ids; points = None } in
    shows start c.args.front c.args.names w given ids None c.in-Ok.report
    (record { accepted = subst P c.world.view_is c.world.invariant.tells.accepted; shape = c.into_history.ensures.shape; entries = c.into_history.ensures.entries; order = c.in_ok-order.ensures.keyed })
    (record {
      serial = serial_given c.in_ok-order.field-0-0.now given w ids c.in_ok-order.ensures.shape c.in_ok-order.ensures.value c.into_history.ensures.shape c.into_history.ensures.value c.in_ok-order.ensures.serial;
      points = tt;
    })
    (time_given start c.in_ok-order.field-0-0.now given w ids c.in_ok-order.ensures.value c.into_history.ensures.value c.in_ok-order.ensures.real_time)
    (c.in-Ok.ensures.0 ∙ ap named (c.in_ok-front.ensures.ok ∙ c.name.ensures))
