-- What is wrong with a line, as text.
use Rattle.std.specs.Prelude.{ℕ, List, codes}
use Rattle.reg_history.specs.declared.report_faults.ReadWhy.{ReadWhy}
use Rattle.reg_history.specs.declared.report_faults.ReadWhy.TheVariants.{Form, Range, Name, Place, End}

abbrev pub why_text : ReadWhy → List ℕ
why_text Form = codes "form"
why_text Range = codes "range"
why_text Name = codes "name"
why_text Place = codes "place"
why_text End = codes "end"
