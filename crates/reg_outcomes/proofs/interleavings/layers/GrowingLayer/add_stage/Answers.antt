use Rattle.std.proofs.Common.{◌∷◌, ◌++◌, [], sym, ◌∙◌, arith}
use Rattle.reg_outcomes.specs.Layers.{stage_cmp, stage_of}
use Rattle.reg_outcomes.proofs.Comparing.{stages_exact, stages_total}
use Rattle.reg_outcomes.proofs.Entries.{adds_put, adds_there, overflows}
use Rattle.reg_outcomes.proofs.interleavings.layers.GrowingLayer.add_stage.Goals as goal

pub returns-then-contains_key-clause-adds : goal.returns-then-contains_key-clause-adds
returns-then-contains_key-clause-adds g c = adds_there stage_of (λ v. v.items) stage_cmp stages_total stages_exact c.args.stage (c.args.turns.now ++ c.args.process ∷ []) c.args.self.now.layer.entries (sym c.contains_key.ensures ∙ c.if-contains_key.true)

pub returns-then-len-self-clause-refused : goal.returns-then-len-self-clause-refused
returns-then-len-self-clause-refused g c = overflows stage_of (λ v. v.items) stage_cmp stages_total stages_exact c.args.self.now.limit c.args.stage (c.args.turns.now ++ c.args.process ∷ []) c.args.self.now.layer.entries (omega (arith, c.len.ensures.len, c.if-len-self.true)) (sym c.contains_key.ensures ∙ c.if-contains_key.false) c.len.ensures.ordered

pub returns-clause-adds : goal.returns-clause-adds
returns-clause-adds g c =
    adds_put stage_of (λ v. v.items) stage_cmp stages_total stages_exact c.args.stage c.in_ok-turns.turns (c.args.turns.now ++ c.args.process ∷ []) c.args.self.now.layer.entries c.insert.new.self.entries c.in_ok-turns.ensures (sym c.contains_key.ensures ∙ c.if-contains_key.false) c.in_ok-insert.ensures.entries
