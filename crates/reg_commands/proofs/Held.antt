-- A text that is the layout of a workload says it.
use Rattle.std.proofs.Common.{◌≡◌, List, ℕ, sym, subst}
use Rattle.reg_inputs.specs.Loads.{IsLoad, Load}
use Rattle.reg_commands.specs.Plays.{Holds}
use Rattle.reg_commands.specs.Layout.{load_text, table_of}
use Rattle.reg_commands.proofs.Printed.{is_document, says}

pub holds : (text : List ℕ) (w : Load) → IsLoad w → text ≡ load_text w → Holds text w
holds text w good same =
    subst (λ (t : List ℕ). Holds t w) (sym same) (record { table = table_of w; document = is_document w good; says = says w; good = good })
