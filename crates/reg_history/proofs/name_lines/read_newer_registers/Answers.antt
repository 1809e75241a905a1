use Rattle.std.proofs.Common.{[], arith, ℕ, ◌≡◌, ◌≤◌, ap, ◌∙◌, ◌∷◌, ◌++◌, codes, length, List, None, Result, Ok, Err}
use Rattle.std.proofs.Common.{IfOk}
use Rattle.std.specs.Fmt.{decimal}
use Rattle.reg_base.specs.declared.limits.TheConstants.{MOST_REGISTERS}
use Rattle.reg_base.specs.Names.{names_fault}
use Rattle.reg_history.specs.declared.report_faults.ReadFault.{ReadFault}
use Rattle.reg_history.specs.declared.versions.Version.TheVariants.{Two}
use Rattle.reg_history.specs.Reports.{registers_lines}
use Rattle.reg_history.proofs.Listed.{map_same, some_name, counted_names}
use Rattle.reg_text.proofs.Numbered.{asked_on}
use Rattle.reg_history.specs.ReadFaults.{read_fault}
use Rattle.reg_history.specs.Refusals.{IsNewName, IsNoCount, IsNoNewName, IsWrongItem, IsWrongNames}
use Rattle.reg_history.specs.Stops.{IsFirst}
use Rattle.reg_history.proofs.Heads.{counted_first, counted_more}
use Rattle.reg_history.proofs.PassedOn.{nothing_read}
use Rattle.reg_history.proofs.Stopping.{count_fails, failure_as, failure_passed_on, fails_as, fails_behind, not_failed}
use Rattle.reg_history.proofs.Stopping.{on_behind, zero_fails}
use Rattle.reg_history.proofs.name_lines.read_newer_registers.Goals as goal

-- the names after their count
registered : (r : Result (List (List ℕ)) ReadFault) (old now left : List (List ℕ)) (count : ℕ)
    → old ≡ (codes "registers " ++ decimal count) ∷ now → count ≤ MOST_REGISTERS
    → IfOk r (λ n. (now ≡ n ++ left) × (length n ≡ count) × (names_fault n ≡ None)) → IfOk r (λ n. (old ≡ registers_lines Two n left) × (names_fault n ≡ None) × (length n ≤ MOST_REGISTERS))
registered (Ok n) old now left count e few h =
    (counted_names old now left n count e h.0 h.1, h.2, omega (arith, few, h.1))
registered (Err f) old now left count e few h = tt

pub returns-in_err-count-clause-whole : goal.returns-in_err-count-clause-whole
returns-in_err-count-clause-whole g c =
    λ names rest ok few e. absurd (c.in_err-count.ensures.whole (length names) _ few e)

pub returns-then-count-eq0-clause-whole : goal.returns-then-count-eq0-clause-whole
returns-then-count-eq0-clause-whole g c = λ names rest ok few e.
    let count = c.in_ok-count.ensures.whole (length names) _ few e in
    absurd (omega (arith, count.0, some_name names ok))

pub returns-clause-whole : goal.returns-clause-whole
returns-clause-whole g c = λ names rest ok few e.
    let count = c.in_ok-count.ensures.whole (length names) _ few e in
    c.read_listed.ensures.whole names rest ok (omega (arith, count.0)) (count.1 ∙ ap (λ (l : List (List ℕ)). l ++ rest) (map_same names))

pub overflow_cast-count : goal.overflow_cast-count
overflow_cast-count g c = omega (arith, c.in_ok-count.ensures.read.1)

pub returns-in_err-count-clause-read : goal.returns-in_err-count-clause-read
returns-in_err-count-clause-read g c = nothing_read c.from_residual.result _ _ c.from_residual.ensures.1

pub returns-clause-read : goal.returns-clause-read
returns-clause-read g c =
    let count = c.in_ok-count.ensures.read in
    registered c.read_listed.result c.args.lines.now.left c.read_count.new.lines.left c.read_listed.new.lines.left c.in_ok-count.count count.0 count.1 c.read_listed.ensures.read

pub returns-in_err-count-clause-stopped : goal.returns-in_err-count-clause-stopped
returns-in_err-count-clause-stopped g c =
    let told = c.in_err-count.ensures in
    failure_passed_on c.from_residual.result _ _ c.from_residual.ensures.1
    (fails_as (IsWrongNames Two) (IsFirst (IsNoCount (codes "registers ") 1 MOST_REGISTERS)) c.args.lines.now (read_fault c.in_err-count.field-0.0) (counted_first (codes "registers ") 1 MOST_REGISTERS (λ n. n) IsNewName IsNoNewName)
    (count_fails (codes "registers ") MOST_REGISTERS c.args.lines.now c.read_count.new.lines c.in_err-count.field-0.0 told.fault.0 told.fault.1 told.asked told.end told.range told.form told.whole 1))

pub returns-then-count-eq0-clause-stopped : goal.returns-then-count-eq0-clause-stopped
returns-then-count-eq0-clause-stopped g c =
    let read = c.in_ok-count.ensures in
    fails_as (IsWrongNames Two) (IsFirst (IsNoCount (codes "registers ") 1 MOST_REGISTERS)) c.args.lines.now c.at_line.result (counted_first (codes "registers ") 1 MOST_REGISTERS (λ n. n) IsNewName IsNoNewName)
    (zero_fails (codes "registers ") MOST_REGISTERS c.in_ok-count.count c.args.lines.now c.read_count.new.lines c.at_line.result c.at_line.ensures read.asked read.read.0 (omega (arith, c.if-count-eq0.true)) (λ k rest few e. (read.whole k rest few e).0))

pub returns-clause-stopped : goal.returns-clause-stopped
returns-clause-stopped g c =
    let read = c.in_ok-count.ensures in
    let count = c.in_ok-count.count in
    let some : 1 ≤ count = omega (arith, c.if-count-eq0.false) in
    failure_as c.read_listed.result _ _
    (λ f failed. fails_behind (IsWrongNames Two) (IsWrongItem (λ n. n) IsNewName IsNoNewName count) ((codes "registers " ++ decimal count) ∷ []) c.args.lines.now c.read_count.new.lines f read.read.0
    (asked_on c.args.lines.now c.read_count.new.lines _ c.read_count.new.lines.left read.asked read.read.0) (counted_more (codes "registers ") 1 MOST_REGISTERS (λ n. n) IsNewName IsNoNewName count some read.read.1) failed)
    (c.read_listed.ensures.stopped (omega (arith, some)) read.read.1)

pub returns-in_err-count-clause-on : goal.returns-in_err-count-clause-on
returns-in_err-count-clause-on g c = not_failed c.from_residual.result _ _ c.from_residual.ensures.1

pub returns-clause-on : goal.returns-clause-on
returns-clause-on g c =
    let read = c.in_ok-count.ensures in
    on_behind c.read_listed.result c.args.lines.now c.read_count.new.lines c.read_listed.new.lines (asked_on c.args.lines.now c.read_count.new.lines _ c.read_count.new.lines.left read.asked read.read.0) c.read_listed.ensures.on
