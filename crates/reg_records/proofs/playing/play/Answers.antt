use Rattle.std.proofs.Common.{arith, true, false, ◌≡◌, ap, sym, subst, List, length, map, ℕ, add-one, refl, ◌∙◌}
use Rattle.reg_world.specs.Worlds.{Made}
use Rattle.reg_records.specs.Records.{Plays}
use Rattle.reg_records.specs.Playing.{AreTallied}
use Rattle.reg_records.specs.Receipts.{IsPlayFault}
use Rattle.reg_records.specs.declared.faults.CloseFault.{CloseFault}
use Rattle.reg_records.proofs.Turns.{turns, none_turns, fails_in, fails_behind}
use Rattle.reg_records.proofs.playing.play.Goals as goal

pub loop-place-init : goal.loop-place-init
loop-place-init g c = record {
  plays = c.in-Ok-new.ensures;
  going = ap (λ (w : Made). w.failed) c.in-Ok-new.ensures;
  tallied = λ p lt. c.in-Ok-no_counts.ensures.zero p;
  len = c.in-Ok-no_counts.ensures.len;
}

pub next_entry-requires-clause-tallied : goal.next_entry-requires-clause-tallied
next_entry-requires-clause-tallied g c = subst (λ (counts : List ℕ). AreTallied counts c.args.order.now c.loop-place.place) (sym c.deref.ensures.value) c.loop-place.invariant.tallied

pub returns-in_default-next_entry : goal.returns-in_default-next_entry
returns-in_default-next_entry g c =
    subst (λ (f : CloseFault). IsPlayFault g.F.FrontEnd.start c.args.shape c.args.order.now (map (λ v. v.items) c.args.logs.now) f) (sym c.unfaithful.ensures)
    (fails_in g.F.FrontEnd.start c.args.shape c.args.order.now (map (λ v. v.items) c.args.logs.now) c.loop-place.place c.loop-place.world c.loop-place.world c.loop-place-test.true c.loop-place.invariant.plays
    (none_turns g.F.FrontEnd.start c.args.order.now (map (λ v. v.items) c.args.logs.now) c.loop-place.place c.loop-place.world c.loop-place.world c.in_default-next_entry.ensures))

pub returns-in-Ok-false : goal.returns-in-Ok-false
returns-in-Ok-false g c =
    let off = rw c.in-Ok-false.field-0-test at c.in-Ok-false.ensures in
    subst (λ (f : CloseFault). IsPlayFault g.F.FrontEnd.start c.args.shape c.args.order.now (map (λ v. v.items) c.args.logs.now) f) (sym c.unfaithful-in-Ok-false.ensures)
    (fails_in g.F.FrontEnd.start c.args.shape c.args.order.now (map (λ v. v.items) c.args.logs.now) c.loop-place.place c.loop-place.world c.make.new.world c.loop-place-test.true c.loop-place.invariant.plays
    (turns g.F.FrontEnd.start c.args.order.now (map (λ v. v.items) c.args.logs.now) c.loop-place.place c.loop-place.world c.in-Some.process c.in-Some.entry c.make.new.world false c.in-Some.ensures.0 c.in-Some.ensures.1 off))

pub loop-place-preserved : goal.loop-place-preserved
loop-place-preserved g c =
    let made = rw c.in-Ok-true.field-0-test at c.in-Ok-true.ensures in
    let turn = turns g.F.FrontEnd.start c.args.order.now (map (λ v. v.items) c.args.logs.now) c.loop-place.place c.loop-place.world c.in-Some.process c.in-Some.entry c.make.new.world true c.in-Some.ensures.0 c.in-Some.ensures.1 made in
    let failed : c.make.new.world.failed ≡ c.loop-place.world.failed = ap (λ (w : Made). w.failed) turn.then in
    record {
      plays = rw add-one (c.loop-place.world, c.loop-place.invariant.plays, turn);
      going = failed ∙ c.loop-place.invariant.going;
      tallied = c.bump.ensures.tallied;
      len = c.bump.ensures.len ∙ c.loop-place.invariant.len;
    }

pub returns-then-is_left : goal.returns-then-is_left
returns-then-is_left g c =
    subst (λ (f : CloseFault). IsPlayFault g.F.FrontEnd.start c.args.shape c.args.order.now (map (λ v. v.items) c.args.logs.now) f) (sym c.unfaithful-then-is_left.ensures)
    (fails_behind g.F.FrontEnd.start c.args.shape c.args.order.now (map (λ v. v.items) c.args.logs.now) (length c.args.order.now) c.loop-place.world refl
    (subst (λ (k : ℕ). Plays g.F.FrontEnd.start c.args.shape c.args.order.now (map (λ v. v.items) c.args.logs.now) k c.loop-place.world) (let e : c.loop-place.place ≡ length c.args.order.now = omega arith in e) c.loop-place.invariant.plays)
    (λ nothing. let e = c.is_left.ensures.1 nothing in let t = c.if-is_left.true in absurd cc))

pub returns : goal.returns
returns g c = record {
  plays = subst (λ (k : ℕ). Plays g.F.FrontEnd.start c.args.shape c.args.order.now (map (λ v. v.items) c.args.logs.now) k c.loop-place.world) (let e : c.loop-place.place ≡ length c.args.order.now = omega arith in e) c.loop-place.invariant.plays;
  all = c.is_left.ensures.0 c.if-is_left.false;
}
