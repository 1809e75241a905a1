use Rattle.std.proofs.Common.{refl, sym, ◌∙◌}
use Rattle.std.specs.Cmp.Lexicographic.{slice_cmp}
use Rattle.reg_outcomes.specs.Told.{told_cmp}
use Rattle.reg_outcomes.proofs.ToldOrder.{outcomes_exact, outcomes_total}
use Rattle.reg_outcomes.proofs.Entries.{adds_put, adds_there}
use Rattle.reg_outcomes.proofs.interleavings.outcomes.add_outcome.Goals as goal

pub returns-in_ok-insert : goal.returns-in_ok-insert
returns-in_ok-insert g c =
    adds_put (λ v. v.items) (λ v. v.items) (slice_cmp told_cmp) outcomes_total outcomes_exact c.args.told c.args.turns c.args.turns.items c.args.outcomes.now.entries c.insert.new.self.entries refl
    (sym c.contains_key.ensures ∙ c.if-not-contains_key.true) c.in_ok-insert.ensures.entries

pub returns-else-not-contains_key : goal.returns-else-not-contains_key
returns-else-not-contains_key g c =
    adds_there (λ v. v.items) (λ v. v.items) (slice_cmp told_cmp) outcomes_total outcomes_exact c.args.told c.args.turns.items c.args.outcomes.now.entries (sym c.contains_key.ensures ∙ c.if-not-contains_key.false)
