use Rattle.std.proofs.Common.{◌≡◌, ℕ, length, map, refl, sym, ap, ◌∙◌, arith, take, get_or, Some}
use Rattle.std.proofs.Math.Seq.{take-length}
use Rattle.std.proofs.lemmas.List.{length-map}
use Rattle.std.proofs.lemmas.Option.{same_Some}
use Rattle.reg_checkers.proofs.Noting.{read_at}
use Rattle.reg_verify.proofs.Merged.{laid_more, next_stands}
use Rattle.reg_verify.proofs.laying.laid_out.Goals as goal

pub unreachable-requires-in_default : goal.unreachable-requires-in_default
unreachable-requires-in_default g c =
    let at = read_at c.args.order.now c.loop-place.place 0 _ refl c.loop-place-test.true in
    let e = next_stands c.args.order.now c.loop-place.counts.items (map (λ v. v.items) c.args.logs.now) c.loop-place.place _ c.from-at.result c.index.result.now c.requires c.loop-place-test.true at c.from-at.ensures c.loop-place.invariant.tallied (rw length-map c.loop-place.invariant.len) c.index.ensures
    c.entry_at.result c.entry_at.ensures in
    c.in_default.not-Some e.0 e.1

pub loop-place-preserved : goal.loop-place-preserved
loop-place-preserved g c =
    let at = read_at c.args.order.now c.loop-place.place 0 _ refl c.loop-place-test.true in
    let e = next_stands c.args.order.now c.loop-place.counts.items (map (λ v. v.items) c.args.logs.now) c.loop-place.place _ c.from-at.result c.index.result.now c.requires c.loop-place-test.true at c.from-at.ensures c.loop-place.invariant.tallied (rw length-map c.loop-place.invariant.len) c.index.ensures
    c.entry_at.result c.entry_at.ensures in
    let same : c.in-Some.entry ≡ e.0 = same_Some c.in-Some.entry e.0 (sym c.in-Some.is ∙ e.1) in
    let more = laid_more c.args.order.now (map (λ v. v.items) c.args.logs.now) c.loop-place.steps.items c.push.new.self.items c.loop-place.place (record { process = get_or c.args.order.now c.loop-place.place 0; entry = c.in-Some.entry }) at
    c.loop-place.invariant.processes c.loop-place.invariant.each (e.2 ∙ ap Some (sym same)) c.in_ok-push.ensures.items in
    record {
      tallied = c.bump.ensures.tallied;
      len = sym c.bump.new.counts.ok.0 ∙ (c.bump.ensures.len ∙ (c.loop-place.counts.ok.0 ∙ c.loop-place.invariant.len));
      processes = more.0;
      each = more.1;
    }

pub returns : goal.returns
returns g c =
    let end : c.loop-place.place ≡ length c.args.order.now = omega arith in
    record {
      processes = c.loop-place.invariant.processes ∙ (ap (λ (k : ℕ). take k c.args.order.now) end ∙ take-length c.args.order.now);
      each = c.loop-place.invariant.each;
    }
