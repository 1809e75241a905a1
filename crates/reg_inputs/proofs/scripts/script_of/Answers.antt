use Rattle.std.proofs.Common.{◌≡◌, ◌<◌, ◌≤◌, List, [], ◌∷◌, ◌++◌, length, refl, sym, subst, inr, arith, rules}
use Rattle.reg_base.specs.declared.memory.Op.{Op}
use Rattle.reg_text.specs.Ops.{OpFits}
use Rattle.reg_inputs.specs.Loads.{op_data}
use Rattle.reg_inputs.proofs.Spelled.{Spelled, spelled_none, spelled_more, spelled_only, first_wrong, script_is_read}
use Rattle.reg_inputs.proofs.scripts.script_of.Goals as goal

pub loop-value-init : goal.loop-value-init
loop-value-init g c =
    let none : c.new-ops.result.items ≡ [] = c.new-ops.ensures.items in
    let P : List Op → Type 0 = λ l. Spelled (op_data c.args.names.now) (OpFits c.args.names.now) c.args.lines.now 0 l in
    (refl, subst P (sym none) (spelled_none (op_data c.args.names.now) (OpFits c.args.names.now) c.args.lines.now))

pub returns-in_default-clause-refused : goal.returns-in_default-clause-refused
returns-in_default-clause-refused g c =
    let within : c.loop-value.value-index < length c.args.lines.now = omega arith in
    let wrong = first_wrong c.args.names.now c.args.lines.now c.loop-value.value-index c.loop-value.ops.items c.value-item.result within c.value-item.is
    (λ op fits e. let some = c.in_default.ensures.whole op fits e in absurd (cc)) c.loop-value.invariant.1 in
    inr (c.loop-value.place, refl, rw c.loop-value.invariant.0 wrong)

pub loop-value-preserved : goal.loop-value-preserved
loop-value-preserved g c =
    let grown : c.push.new.self.items ≡ c.loop-value.ops.items ++ c.in-Some.op ∷ [] = search rules in
    let within : c.loop-value.value-index < length c.args.lines.now = omega arith in (
      omega arith,
      spelled_more (op_data c.args.names.now) (OpFits c.args.names.now) c.args.lines.now c.loop-value.value-index c.loop-value.ops.items c.push.new.self.items c.value-item.result c.in-Some.op
          within c.value-item.is c.in-Some.ensures.read.0 c.in-Some.ensures.read.1 (λ y fits e. let one = c.in-Some.ensures.whole y fits e in cc) grown c.loop-value.invariant.1,
    )

pub returns-clause-read : goal.returns-clause-read
returns-clause-read g c =
    let all : length c.args.lines.now ≤ c.loop-value.value-index = omega arith in
    script_is_read c.args.names.now c.args.lines.now c.loop-value.value-index c.loop-value.ops.items all c.requires.short c.loop-value.invariant.1

pub returns-clause-only : goal.returns-clause-only
returns-clause-only g c = λ ops s e.
    let all : length c.args.lines.now ≤ c.loop-value.value-index = omega arith in
    spelled_only (op_data c.args.names.now) (OpFits c.args.names.now) c.args.lines.now c.loop-value.value-index c.loop-value.ops.items ops all c.loop-value.invariant.1 s.known e
