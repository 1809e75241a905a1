use Rattle.reg_judge.specs.declared.rulings.seats.Naming.TheVariants.{Own}
use Rattle.reg_judge.proofs.Reporting.{history_stood}
use Rattle.reg_judge.proofs.Wholes.{found_agrees}
use Rattle.reg_judge.proofs.laws.registers_agree_with_the_report.Goals as goal

pub returns : goal.returns
returns c = λ r found rulings serial good judged.
    found_agrees Own r.shape.processes r.shape.registers judged.rows r.entries rulings found (history_stood r.shape.processes r.shape.registers r.entries good judged.rows judged.are) judged.each judged.whole
