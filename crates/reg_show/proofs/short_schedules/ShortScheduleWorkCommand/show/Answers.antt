use Rattle.std.proofs.Common.{ℕ, List, ap, subst}
use Rattle.std.specs.Io.KnownBytes.{Appends}
use Rattle.reg_text.specs.Writing.{AppendsPart}
use Rattle.reg_commands.specs.Replays.{start_of}
use Rattle.reg_inputs.specs.Loads.{IsLoad, Load}
use Rattle.reg_show.proofs.ShortPlays.{shows_reseeded, shows_short}
use Rattle.reg_show.proofs.short_schedules.ShortScheduleWorkCommand.show.Goals as goal

pub returns-clause-ok : goal.returns-clause-ok
returns-clause-ok g c =
    let work : Load = c.reseed-work.result in
    let Wrote : List ℕ → Type 0 = Appends (g.W.Write.contents c.args.writer.now) (g.W.Write.contents c.send.new.writer) in
    shows_reseeded c.args.self.player c.is_fair.result c.seed.result c.args.work work Wrote c.is_fair.ensures c.seed.ensures c.reseed-work.ensures
    (shows_short c.is_fair.result (start_of work.front) work Wrote
    c.work.inside.shape c.work.inside.names c.work.inside.front c.as_slice-events.result.now c.in_ok-short.short.items
    (ap (λ (w : Load). w.shape) c.work.view_is) (ap (λ (w : Load). w.names) c.work.view_is) (ap (λ (w : Load). w.front) c.work.view_is) c.as_slice-events.ensures.value
    (subst IsLoad c.work.view_is c.work.invariant) c.in_ok-short.ensures.short c.events_have_bits.ensures c.in_ok-send.ensures)

pub returns-in_err-send-clause-part : goal.returns-in_err-send-clause-part
returns-in_err-send-clause-part g c failed =
    let work : Load = c.reseed-work.result in
    let Wrote : List ℕ → Type 0 = AppendsPart (g.W.Write.contents c.args.writer.now) (g.W.Write.contents c.send.new.writer) in
    shows_reseeded c.args.self.player c.is_fair.result c.seed.result c.args.work work Wrote c.is_fair.ensures c.seed.ensures c.reseed-work.ensures
    (shows_short c.is_fair.result (start_of work.front) work Wrote
    c.work.inside.shape c.work.inside.names c.work.inside.front c.as_slice-events.result.now c.in_ok-short.short.items
    (ap (λ (w : Load). w.shape) c.work.view_is) (ap (λ (w : Load). w.names) c.work.view_is) (ap (λ (w : Load). w.front) c.work.view_is) c.as_slice-events.ensures.value
    (subst IsLoad c.work.view_is c.work.invariant) c.in_ok-short.ensures.short c.events_have_bits.ensures c.in_err-send.ensures.1)
