-- What a text tells, as lines of JSON or as EDN. To be believed: promises speak of it.
use Rattle.std.specs.Prelude.{ℕ, List, if◌then◌else◌}
use Rattle.reg_text.specs.Lines.{lines_of}
use Rattle.reg_observed.specs.Edn.{begins_edn, edn_tells}
use Rattle.reg_observed.specs.Reading.{Tellings, lines_tell}

abbrev pub text_tells : List ℕ → Tellings
text_tells text = if begins_edn text then edn_tells text else lines_tell 1 (lines_of text)
