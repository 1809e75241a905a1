use Rattle.std.proofs.Common.{[], refl, sym, ◌∙◌, arith}
use Rattle.reg_outcomes.specs.Layers.{stage_cmp, stage_of}
use Rattle.reg_outcomes.proofs.Comparing.{stages_exact, stages_total}
use Rattle.reg_outcomes.proofs.Entries.{adds_put, adds_there, overflows}
use Rattle.reg_outcomes.proofs.orders.failed.note_in.Goals as goal

pub returns-then-contains_key-clause-adds : goal.returns-then-contains_key-clause-adds
returns-then-contains_key-clause-adds g c = adds_there stage_of (λ v. []) stage_cmp stages_total stages_exact c.args.stage [] c.args.layer.now.entries (sym c.contains_key.ensures ∙ c.if-contains_key.true)

pub returns-then-len-limit-clause-refused : goal.returns-then-len-limit-clause-refused
returns-then-len-limit-clause-refused g c = overflows stage_of (λ v. []) stage_cmp stages_total stages_exact c.args.limit c.args.stage [] c.args.layer.now.entries (omega (arith, c.len.ensures.len, c.if-len-limit.true)) (sym c.contains_key.ensures ∙ c.if-contains_key.false) c.len.ensures.ordered

pub returns-clause-adds : goal.returns-clause-adds
returns-clause-adds g c = adds_put stage_of (λ v. []) stage_cmp stages_total stages_exact c.args.stage tt [] c.args.layer.now.entries c.insert.new.self.entries refl (sym c.contains_key.ensures ∙ c.if-contains_key.false) c.in_ok-insert.ensures.entries
