use Rattle.std.proofs.Common.{ℕ, subst, inr}
use Rattle.reg_judge.specs.Rulings.{RulesSerial}
use Rattle.reg_observed.proofs.judging.serial_of.Goals as goal

pub returns-in_ok-seek_serial-in-Some : goal.returns-in_ok-seek_serial-in-Some
returns-in_ok-seek_serial-in-Some g c =
    let stands = rw c.in-Some.is at c.in_ok-history.ensures.stands in
    let registers = rw c.in-Some.is at c.in_ok-history.ensures.registers in
    let P : ℕ → Type 0 = λ n. RulesSerial n c.in-Some.history.entries c.in_ok-seek_serial-in-Some.field-0 in
    inr (c.in-Some.history.entries, stands, subst P registers c.in_ok-seek_serial-in-Some.ensures)
