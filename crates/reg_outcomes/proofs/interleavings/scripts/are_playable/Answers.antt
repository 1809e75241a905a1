use Rattle.std.proofs.Common.{◌<◌, List, length, sym, subst, arith}
use Rattle.std.specs.Prelude.{IsTrue}
use Rattle.std.proofs.lemmas.List.{length-map}
use Rattle.reg_base.specs.declared.memory.Op.{Op}
use Rattle.reg_outcomes.specs.Interleavings.{IsPlayable}
use Rattle.reg_outcomes.proofs.Playing.{one_more, read_at}
use Rattle.reg_outcomes.proofs.interleavings.scripts.are_playable.Goals as goal

pub returns-then-not-is_playable : goal.returns-then-not-is_playable
returns-then-not-is_playable g c = (
  λ h. absurd cc,
  λ playable.
      let i = c.loop-script.script-index in
      let item = c.script-item.result in
      let same = length-map c.args.scripts.now (λ v. v.items) in
      let inside : i < length c.args.scripts.now = omega arith in
      let at = read_at (λ v. v.items) c.args.scripts.now i item item.items inside c.script-item.is in
      let can = subst (λ (s : List Op). IsPlayable c.args.registers s) at (playable.each i item.items (omega (arith, same, inside))) in
      subst IsTrue c.if-not-is_playable.true (c.is_playable.ensures.1 (subst (λ (s : List Op). IsPlayable c.args.registers s) (sym c.deref.ensures.value) can)),
)

pub loop-script-preserved : goal.loop-script-preserved
loop-script-preserved g c =
    let i = c.loop-script.script-index in
    let item = c.script-item.result in
    let inside : i < length c.args.scripts.now = omega arith in
    let can = c.is_playable.ensures.0 c.if-not-is_playable.false in
    one_more (λ v. v.items) (IsPlayable c.args.registers) c.args.scripts.now i item inside c.script-item.is c.loop-script.invariant (subst (λ (s : List Op). IsPlayable c.args.registers s) c.deref.ensures.value can)

pub returns-then-scripts : goal.returns-then-scripts
returns-then-scripts g c = (
  λ h. absurd cc,
  λ playable.
      let same = length-map c.args.scripts.now (λ v. v.items) in
      let few = playable.few in
      let more = c.if-scripts.true in
      absurd (omega (arith, same, few, more)),
)
