-- What a fault of a text is in a report. To be believed: a promise speaks of it.
use Rattle.reg_text.specs.declared.faults.Why.{Why}
use Rattle.reg_text.specs.declared.faults.Why.TheVariants.{Form as TextForm, Range as TextRange, Name as TextName}
use Rattle.reg_text.specs.declared.faults.Why.TheVariants.{End as TextEnd}
use Rattle.reg_text.specs.declared.faults.TextFault.{TextFault}
use Rattle.reg_text.specs.declared.faults.TextFault.TheVariants.{Line as TextLine, OutOfMemory as TextOutOfMemory}
use Rattle.reg_history.specs.declared.report_faults.ReadWhy.{ReadWhy}
use Rattle.reg_history.specs.declared.report_faults.ReadWhy.TheVariants.{Form, Range, Name, End}
use Rattle.reg_history.specs.declared.report_faults.ReadFault.{ReadFault}
use Rattle.reg_history.specs.declared.report_faults.ReadFault.TheVariants.{Line, OutOfMemory}

abbrev pub why_of : Why → ReadWhy
why_of TextForm = Form
why_of TextRange = Range
why_of TextName = Name
why_of TextEnd = End

abbrev pub read_fault : TextFault → ReadFault
read_fault (TextLine line why) = Line line (why_of why)
read_fault TextOutOfMemory = OutOfMemory
