use Rattle.std.proofs.Common.{ℕ, List, sym, subst}
use Rattle.reg_node.specs.RecordLines.{RecordedFits}
use Rattle.reg_text.specs.Lines.{AllFit}
use Rattle.reg_verify.proofs.Merged.{fits_ordered}
use Rattle.reg_verify.proofs.merging.merged_text.Goals as goal

pub unreachable-requires : goal.unreachable-requires
unreachable-requires g c =
    let shown = c.in_ok-merged.ensures.shows in
    let fits = fits_ordered c.in_ok-record.record.names c.in_ok-record.record.steps c.in_ok-merged.merged.steps shown.orders.same c.in_ok-record.ensures.read.1.steps in
    (rw c.in-Err-Unfit.field-0-is at c.in-Err-Unfit.ensures.fault) (subst (λ (names : List (List ℕ)). AllFit (λ _ r. RecordedFits names r) c.in_ok-merged.merged.steps) (sym shown.names) fits)
