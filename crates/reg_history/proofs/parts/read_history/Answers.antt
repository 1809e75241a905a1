use Rattle.std.proofs.Common.{[], inl, ◌≡◌, ◌≤◌, ℕ, List, ◌∷◌, ◌++◌, codes, refl, sym, subst, ◌∙◌, arith}
use Rattle.std.specs.Fmt.{decimal}
use Rattle.reg_base.specs.Shape.{Extent}
use Rattle.reg_checkers.specs.declared.entries.Entry.{Entry}
use Rattle.reg_text.specs.Reading.{IsBlock}
use Rattle.reg_text.proofs.Numbered.{asked_on, goes_on}
use Rattle.reg_history.specs.LineForms.{IsCounted, Follows}
use Rattle.reg_history.specs.EntryLines.{entry_text}
use Rattle.reg_history.specs.declared.versions.Version.{Version}
use Rattle.reg_history.specs.declared.report_limits.TheConstants.{MOST_ENTRIES}
use Rattle.reg_history.specs.ReadFaults.{read_fault}
use Rattle.reg_history.specs.Refusals.{IsNoCount, IsNoNextEntry, IsWrongCounted, IsWrongItem}
use Rattle.reg_history.specs.Stops.{IsFirst}
use Rattle.reg_history.proofs.Counted.{block_of, counted_of}
use Rattle.reg_history.proofs.Endings.{history_item}
use Rattle.reg_history.proofs.Heads.{counted_first}
use Rattle.reg_history.proofs.Stopping.{count_fails, failure_passed_on, fails_as, fails_behind, not_failed}
use Rattle.reg_history.proofs.PassedOn.{memory_passed_on, nothing_read}
use Rattle.reg_history.proofs.parts.read_history.Goals as goal

-- the block after a count
block : (version : Version) (names : List (List ℕ)) (shape s : Extent) (old mid rest : List (List ℕ)) (n : ℕ)
    (ys : List Entry)
    → s ≡ shape
    → ((k : ℕ) (r : List (List ℕ)) → k ≤ MOST_ENTRIES → old ≡ (codes "history " ++ decimal k) ∷ r → (n ≡ k) × (mid ≡ r))
    → IsCounted (codes "history ") (entry_text names) (Follows version names shape) MOST_ENTRIES old rest ys → IsBlock (entry_text names) (Follows version names s) n mid rest ys
block version names shape s old mid rest n ys same count b =
    let P : Extent → Type 0 = λ x. IsBlock (entry_text names) (Follows version names x) n mid rest ys in
    subst P (sym same) (block_of (codes "history ") (entry_text names) (Follows version names shape) MOST_ENTRIES n old mid rest ys count b)

counted : (version : Version) (names : List (List ℕ)) (shape s : Extent) (old mid rest : List (List ℕ)) (n : ℕ)
    (ys : List Entry)
    → s ≡ shape → n ≤ MOST_ENTRIES → old ≡ (codes "history " ++ decimal n) ∷ mid
    → IsBlock (entry_text names) (Follows version names s) n mid rest ys → IsCounted (codes "history ") (entry_text names) (Follows version names shape) MOST_ENTRIES old rest ys
counted version names shape s old mid rest n ys same few e b =
    let P : Extent → Type 0 = λ x. IsCounted (codes "history ") (entry_text names) (Follows version names x) MOST_ENTRIES old rest ys in
    subst P same (counted_of (codes "history ") (entry_text names) (Follows version names s) MOST_ENTRIES n old mid rest ys few e b)

pub returns-in_err-read_entries-clause-whole : goal.returns-in_err-read_entries-clause-whole
returns-in_err-read_entries-clause-whole g c = λ ys rest b.
    let k = block c.args.version c.args.names.now c.args.shape c.in-Ok.history.shape c.args.lines.now.left c.read_count.new.lines.left rest c.in_ok-count.count ys c.in-Ok.ensures.0 c.in_ok-count.ensures.whole b in
    let none = c.in_err-read_entries.ensures.whole ys rest k in
    memory_passed_on c.from_residual-in_err-read_entries.result _ _ c.from_residual-in_err-read_entries.ensures.1 none

pub returns-clause-read : goal.returns-clause-read
returns-clause-read g c =
    counted c.args.version c.args.names.now c.args.shape c.in-Ok.history.shape c.args.lines.now.left c.read_count.new.lines.left c.read_entries.new.lines.left c.in_ok-count.count c.read_entries.new.history.entries c.in-Ok.ensures.0 c.in_ok-count.ensures.read.1 c.in_ok-count.ensures.read.0 c.in_ok-read_entries.ensures.read

pub returns-clause-whole : goal.returns-clause-whole
returns-clause-whole g c = λ ys rest b.
    let k = block c.args.version c.args.names.now c.args.shape c.in-Ok.history.shape c.args.lines.now.left c.read_count.new.lines.left rest c.in_ok-count.count ys c.in-Ok.ensures.0 c.in_ok-count.ensures.whole b in
    c.in_ok-read_entries.ensures.whole ys rest k

pub returns-in_err-count-clause-shape : goal.returns-in_err-count-clause-shape
returns-in_err-count-clause-shape g c = nothing_read c.from_residual.result _ _ c.from_residual.ensures.1

pub returns-in_err-count-clause-read : goal.returns-in_err-count-clause-read
returns-in_err-count-clause-read g c = nothing_read c.from_residual.result _ _ c.from_residual.ensures.1

pub returns-in_err-count-clause-whole : goal.returns-in_err-count-clause-whole
returns-in_err-count-clause-whole g c = λ ys rest b. absurd (c.in_err-count.ensures.whole _ _ b.few b.lines)

pub returns-in_default-clause-whole : goal.returns-in_default-clause-whole
returns-in_default-clause-whole g c = λ ys rest b. refl

pub overflow_cast-count : goal.overflow_cast-count
overflow_cast-count g c = omega (arith, c.in_ok-count.ensures.read.1)

pub returns-in_err-read_entries-clause-shape : goal.returns-in_err-read_entries-clause-shape
returns-in_err-read_entries-clause-shape g c =
    nothing_read c.from_residual-in_err-read_entries.result _ _ c.from_residual-in_err-read_entries.ensures.1

pub returns-in_err-read_entries-clause-read : goal.returns-in_err-read_entries-clause-read
returns-in_err-read_entries-clause-read g c =
    nothing_read c.from_residual-in_err-read_entries.result _ _ c.from_residual-in_err-read_entries.ensures.1

pub returns-clause-shape : goal.returns-clause-shape
returns-clause-shape g c = c.in_ok-read_entries.ensures.shape ∙ c.in-Ok.ensures.0

pub returns-in_err-count-clause-stopped : goal.returns-in_err-count-clause-stopped
returns-in_err-count-clause-stopped g c =
    let told = c.in_err-count.ensures in
    failure_passed_on c.from_residual.result _ _ c.from_residual.ensures.1
    (fails_as (IsWrongCounted (codes "history ") 0 MOST_ENTRIES (entry_text c.args.names.now) (Follows c.args.version c.args.names.now c.args.shape) (IsNoNextEntry c.args.version c.args.names.now c.args.shape)) (IsFirst (IsNoCount (codes "history ") 0 MOST_ENTRIES)) c.args.lines.now (read_fault c.in_err-count.field-0.0)
    (counted_first (codes "history ") 0 MOST_ENTRIES (entry_text c.args.names.now) (Follows c.args.version c.args.names.now c.args.shape) (IsNoNextEntry c.args.version c.args.names.now c.args.shape))
    (count_fails (codes "history ") MOST_ENTRIES c.args.lines.now c.read_count.new.lines c.in_err-count.field-0.0 told.fault.0 told.fault.1 told.asked told.end told.range told.form told.whole 0))

pub returns-in_default-clause-stopped : goal.returns-in_default-clause-stopped
returns-in_default-clause-stopped g c = inl refl

pub returns-in_err-read_entries-clause-stopped : goal.returns-in_err-read_entries-clause-stopped
returns-in_err-read_entries-clause-stopped g c =
    let read = c.in_ok-count.ensures in
    let s = c.in-Ok.history.shape in
    failure_passed_on c.from_residual-in_err-read_entries.result _ _ c.from_residual-in_err-read_entries.ensures.1
    (fails_behind (IsWrongCounted (codes "history ") 0 MOST_ENTRIES (entry_text c.args.names.now) (Follows c.args.version c.args.names.now c.args.shape) (IsNoNextEntry c.args.version c.args.names.now c.args.shape))
    (IsWrongItem (entry_text c.args.names.now) (Follows c.args.version c.args.names.now s) (IsNoNextEntry c.args.version c.args.names.now s) c.in_ok-count.count)
    ((codes "history " ++ decimal c.in_ok-count.count) ∷ []) c.args.lines.now c.read_count.new.lines c.in_err-read_entries.field-0.0 read.read.0 (asked_on c.args.lines.now c.read_count.new.lines _ c.read_count.new.lines.left read.asked read.read.0)
    (history_item c.args.version c.args.names.now c.args.shape s c.in_ok-count.count c.in-Ok.ensures.0 read.read.1) c.in_err-read_entries.ensures.stopped)

pub returns-in_err-count-clause-on : goal.returns-in_err-count-clause-on
returns-in_err-count-clause-on g c = not_failed c.from_residual.result _ _ c.from_residual.ensures.1

pub returns-in_err-read_entries-clause-on : goal.returns-in_err-read_entries-clause-on
returns-in_err-read_entries-clause-on g c =
    not_failed c.from_residual-in_err-read_entries.result _ _ c.from_residual-in_err-read_entries.ensures.1

pub returns-clause-on : goal.returns-clause-on
returns-clause-on g c =
    let read = c.in_ok-count.ensures in
    goes_on c.args.lines.now c.read_count.new.lines c.read_entries.new.lines (asked_on c.args.lines.now c.read_count.new.lines _ c.read_count.new.lines.left read.asked read.read.0) c.in_ok-read_entries.ensures.on
