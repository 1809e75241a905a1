use Rattle.std.proofs.Common.{◌≡◌, ◌⊎◌, ℕ, ◌-◌, List, length, inl, inr, refl, ap, sym, subst, arith}
use Rattle.std.specs.Io.KnownBytes.{Appends}
use Rattle.std.proofs.lemmas.Bool.{ltb-false, ltb-true}
use Rattle.std.proofs.lemmas.Option.{slice_get_read}
use Rattle.std.proofs.lemmas.Result.{err_from_is_err_and}
use Rattle.reg_text.specs.Writing.{AppendsPart}
use Rattle.reg_checkers.specs.History.{IsAt}
use Rattle.reg_commands.specs.Replays.{start_of}
use Rattle.reg_commands.specs.declared.faults.Fault.TheVariants.{Output}
use Rattle.reg_inputs.specs.Loads.{Load}
use Rattle.reg_outcomes.specs.Finishing.{HasRoom}
use Rattle.reg_outcomes.specs.Interleavings.{Interleaving}
use Rattle.reg_show.specs.OneOutcome.{Lacks, SendsRun, ShowsOutcome, StopsOutcome}
use Rattle.reg_show.specs.declared.faults.ShowFault.{ShowFault}
use Rattle.reg_show.specs.declared.faults.ShowFault.TheVariants.{Command}
use Rattle.reg_show.proofs.Shown.{if_err, if_ok}
use Rattle.reg_show.proofs.Turned.{stops_run, stops_search}
use Rattle.reg_show.proofs.one_outcome.OneOutcomeWorkCommand.show.Goals as goal

pub returns-in_err-all-clause-why : goal.returns-in_err-all-clause-why
returns-in_err-all-clause-why g c =
    let p = err_from_is_err_and c.from_residual.result c.from_residual.ensures.1 in
    rw (p.1, p.2) (stops_search c.args.self.number c.args.work c.in_err-all.field-0.0 c.in_err-all.ensures.why)

pub write_run_of-requires : goal.write_run_of-requires
write_run_of-requires g c =
    let number = c.args.self.number in
    let xs = c.deref.result.now in
    let outcome : Interleaving = c.in-Some.outcome.now in
    let here : IsAt c.in_ok-all.all.list.items (number - 1) outcome = subst (λ (l : List Interleaving). IsAt l (number - 1) outcome) c.deref.ensures.value (slice_get_read xs (length xs) (number - 1) outcome refl (ltb-true (number - 1) (length xs) (sym c.in-Some.ensures.lookup.0)) c.in-Some.ensures.lookup.1) in
    c.in_ok-all.ensures.all.each (number - 1) outcome here

pub returns-in-Some-clause-ok : goal.returns-in-Some-clause-ok
returns-in-Some-clause-ok g c =
    let number = c.args.self.number in
    let work : Load = c.args.work in
    let xs = c.deref.result.now in
    let outcome : Interleaving = c.in-Some.outcome.now in
    let here : IsAt c.in_ok-all.all.list.items (number - 1) outcome = subst (λ (l : List Interleaving). IsAt l (number - 1) outcome) c.deref.ensures.value (slice_get_read xs (length xs) (number - 1) outcome refl (ltb-true (number - 1) (length xs) (sym c.in-Some.ensures.lookup.0)) c.in-Some.ensures.lookup.1) in
    let Wrote : List ℕ → Type 0 = Appends (g.W.Write.contents c.args.writer.now) (g.W.Write.contents c.write_run_of.new.writer) in
    if_ok (λ (x : Unit {0}). SendsRun (start_of work.front) Wrote work outcome) (λ (x : Unit {0}). ShowsOutcome number (start_of work.front) Wrote work) c.write_run_of.result
    (λ x sent. record { found = c.in_ok-all.all.list.items; all = c.in_ok-all.ensures.all; outcome = outcome; here = here; sent = sent }) c.write_run_of.ensures.ok

pub returns-in-Some-clause-why : goal.returns-in-Some-clause-why
returns-in-Some-clause-why g c =
    let work : Load = c.args.work in
    if_err (λ (f : ShowFault). (f ≡ Command Output) ⊎ Lacks (HasRoom work.scripts) f) (λ f. StopsOutcome c.args.self.number work f) c.write_run_of.result (stops_run c.args.self.number work) c.write_run_of.ensures.why

pub returns-in-Some-clause-part : goal.returns-in-Some-clause-part
returns-in-Some-clause-part g c = λ failed.
    let number = c.args.self.number in
    let xs = c.deref.result.now in
    let outcome : Interleaving = c.in-Some.outcome.now in
    let here : IsAt c.in_ok-all.all.list.items (number - 1) outcome = subst (λ (l : List Interleaving). IsAt l (number - 1) outcome) c.deref.ensures.value (slice_get_read xs (length xs) (number - 1) outcome refl (ltb-true (number - 1) (length xs) (sym c.in-Some.ensures.lookup.0)) c.in-Some.ensures.lookup.1) in
    record { found = c.in_ok-all.all.list.items; all = c.in_ok-all.ensures.all; outcome = outcome; here = here; sent = c.write_run_of.ensures.part failed }

pub returns-clause-why : goal.returns-clause-why
returns-clause-why g c =
    let number = c.args.self.number in
    let xs = c.deref.result.now in
    let past = ltb-false (number - 1) (length xs) (sym c.in-None.ensures.lookup.0) in
    let same = ap length c.deref.ensures.value in
    let some = c.requires in
    (c.in_ok-all.all.list.items, c.in_ok-all.ensures.all, omega (arith, past, same, some))
