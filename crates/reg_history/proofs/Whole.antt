-- A report from its parts.
use Rattle.std.proofs.Common.{ℕ, ◌≡◌, ◌<◌, ◌≤◌, true, List, length, codes, Option, None, refl, sym, ap, ◌∙◌, subst}
use Rattle.reg_base.specs.declared.memory.OpId.{OpId}
use Rattle.reg_base.specs.Shape.{Extent}
use Rattle.reg_history.specs.declared.report_limits.TheConstants.{MOST_ENTRIES, MOST_IDS}
use Rattle.reg_base.specs.Names.{names_fault}
use Rattle.reg_checkers.specs.declared.entries.Entry.{Entry}
use Rattle.reg_checkers.specs.declared.entries.Point.{Point}
use Rattle.reg_history.specs.Counted.{counted_lines}
use Rattle.reg_history.specs.Reports.{Contents, head_lines, tail_lines, lines_in, IsReportIn, PointsFit, is_front}
use Rattle.reg_history.specs.LineForms.{IsCounted, Follows}
use Rattle.reg_history.specs.declared.versions.Version.{Version}
use Rattle.reg_history.specs.Versions.{most_processes, most_registers}
use Rattle.reg_history.specs.EntryLines.{entry_text}
use Rattle.reg_history.specs.IdLines.{id_text, IdFits}

abbrev pub after_head : Contents → List (List ℕ)
after_head r = counted_lines (codes "history ") (entry_text r.names) r.entries (counted_lines (codes "order ") id_text r.order (tail_lines r.points))

abbrev pub after_history : Contents → List (List ℕ)
after_history r = counted_lines (codes "order ") id_text r.order (tail_lines r.points)

pub history_part : (version : Version) (r : Contents) (names : List (List ℕ)) (shape : Extent) (lines : List (List ℕ))
    → names ≡ r.names → shape ≡ r.shape → lines ≡ after_head r → IsReportIn version r
    → IsCounted (codes "history ") (entry_text names) (Follows version names shape) MOST_ENTRIES lines (after_history r) r.entries
history_part version r names shape lines n s e ok =
    let P : List (List ℕ) → Type 0 = λ x. IsCounted (codes "history ") (entry_text x) (Follows version x shape) MOST_ENTRIES lines (after_history r) r.entries in
    let Q : Extent → Type 0 = λ x. IsCounted (codes "history ") (entry_text r.names) (Follows version r.names x) MOST_ENTRIES lines (after_history r) r.entries in
    subst P (sym n) (subst Q (sym s) (record { lines = e; fit = λ k x h. (ok.entries k x h, ok.history k x h); few = ok.range.few_entries }))

pub order_part : (version : Version) (r : Contents) (lines : List (List ℕ)) → lines ≡ after_history r
    → IsReportIn version r
    → IsCounted (codes "order ") id_text (λ _ x. IdFits version x) MOST_IDS lines (tail_lines r.points) r.order
order_part version r lines e ok = record { lines = e; fit = ok.range.ids; few = ok.range.few_ids }

pub same_contents : (r : Contents) (front : List ℕ) (shape : Extent) (names : List (List ℕ)) (entries : List Entry)
    (order : List OpId) (points : Option (List Point))
    → front ≡ r.front → shape ≡ r.shape → names ≡ r.names → entries ≡ r.entries → order ≡ r.order → points ≡ r.points
    → record { front = front; shape = shape; names = names; entries = entries; order = order; points = points } ≡ r
same_contents r front shape names entries order points a b d e f g = rw (a, b, d, e, f, g) refl

pub from_parts : (version : Version) (front : List ℕ) (p : ℕ) (names : List (List ℕ)) (shape kept : Extent)
    (entries : List Entry) (order : List OpId) (points : Option (List Point)) (l0 l1 l2 l3 : List (List ℕ))
    → l0 ≡ head_lines version front p names l1 → is_front front ≡ true → 0 < p → p ≤ most_processes version → names_fault names ≡ None → length names ≤ most_registers version → shape ≡ record { processes = p; registers = length names } → kept ≡ shape
    → IsCounted (codes "history ") (entry_text names) (Follows version names shape) MOST_ENTRIES l1 l2 entries
    → IsCounted (codes "order ") id_text (λ _ x. IdFits version x) MOST_IDS l2 l3 order
    → l3 ≡ tail_lines points → PointsFit version points
    → (l0 ≡ lines_in version (record { front = front; shape = kept; names = names; entries = entries; order = order; points = points })) × IsReportIn version (record { front = front; shape = kept; names = names; entries = entries; order = order; points = points })
from_parts version front p names shape kept entries order points l0 l1 l2 l3 e0 f some few spelt short s k h o e3 pf =
    let P : Extent → Type 0 = λ x. IsCounted (codes "history ") (entry_text names) (Follows version names x) MOST_ENTRIES l1 l2 entries in
    let h2 = subst P s h in
    let Q : Extent → Type 0 = λ x. (l0 ≡ lines_in version (record { front = front; shape = x; names = names; entries = entries; order = order; points = points })) × IsReportIn version (record { front = front; shape = x; names = names; entries = entries; order = order; points = points }) in
    subst Q (sym (k ∙ s)) (
      e0 ∙ ap (head_lines version front p names) (h2.lines ∙ ap (counted_lines (codes "history ") (entry_text names) entries) (o.lines ∙ ap (counted_lines (codes "order ") id_text order) e3)),
      record { front = f; names = spelt; few_names = short; some_process = some; processes = few; registers = refl; history = λ j x q. (h2.fit j x q).1; entries = λ j x q. (h2.fit j x q).0; range = record { few_entries = h2.few; ids = o.fit; few_ids = o.few; points_fit = pf } },
    )
