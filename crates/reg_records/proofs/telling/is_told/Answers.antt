use Rattle.std.proofs.Common.{rules, ◌≡◌, ◌↔◌, IsTrue, ℕ, List, length, take, refl, subst, arith, add-one, nat_eq}
use Rattle.std.proofs.lemmas.List.{take_all}
use Rattle.std.proofs.lemmas.Bool.Decides.{nat_tests}
use Rattle.reg_checkers.specs.declared.entries.Entry.{Entry}
use Rattle.reg_checkers.proofs.Noting.{read_at}
use Rattle.reg_records.specs.Receipts.{AreFinished}
use Rattle.reg_records.specs.Telling.{IsToldIn}
use Rattle.reg_records.proofs.Tellings.{told_more, told_other, told_all}
use Rattle.reg_records.proofs.telling.is_told.Goals as goal

pub returns-in-None : goal.returns-in-None
returns-in-None c =
    (λ no. absurd (search rules), λ all. absurd (told_other c.args.shape.processes c.args.shape.registers c.args.entries.now c.requires c.args.process c.args.receipts.now c.loop-entry.entry-index _ c.loop-entry.told (read_at c.args.entries.now c.loop-entry.entry-index _ _ refl c.loop-entry-test.true) c.loop-entry.invariant c.in-None.ensures all))

pub loop-entry-preserved : goal.loop-entry-preserved
loop-entry-preserved c =
    rw add-one (told_more c.args.shape.processes c.args.shape.registers c.args.entries.now c.requires c.args.process c.args.receipts.now c.loop-entry.entry-index _ c.loop-entry.told c.in-Some.next (read_at c.args.entries.now c.loop-entry.entry-index _ _ refl c.loop-entry-test.true) c.loop-entry.invariant c.in-Some.ensures)

eq_true : (a b : ℕ) (P : Type 0) → (a ≡ b) ↔ P → IsTrue (nat_eq a b) ↔ P
eq_true a b P h = (λ t. h.0 (search (rules, nat_tests)), λ p. let e : a ≡ b = h.1 p in search (rules, nat_tests))

pub returns : goal.returns
returns c =
    let end : take c.loop-entry.entry-index c.args.entries.now ≡ c.args.entries.now = take_all c.loop-entry.entry-index c.args.entries.now (omega arith) in
    let told = subst (λ (h : List Entry). IsToldIn h c.args.process c.args.receipts.now c.loop-entry.told) end c.loop-entry.invariant in
    eq_true c.loop-entry.told.done (length c.args.receipts.now) (AreFinished c.args.entries.now c.args.process c.args.receipts.now) (told_all c.args.shape.processes c.args.shape.registers c.args.entries.now c.requires c.args.process c.args.receipts.now c.loop-entry.told told)
