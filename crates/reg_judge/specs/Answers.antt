-- The bytes of what is answered of a history.
use Rattle.std.specs.Prelude.{ℕ, List, string_bytes}
use Rattle.reg_history.specs.Reports.{report_text}
use Rattle.reg_judge.specs.declared.rulings.answers.TextOrReport.{TextOrReport}
use Rattle.reg_judge.specs.declared.rulings.answers.TextOrReport.TheVariants.{Text, Report}

abbrev pub answer_text : {A : Type 0} → TextOrReport A → List ℕ
answer_text (Text text) = string_bytes text
answer_text (Report report) = report_text report
