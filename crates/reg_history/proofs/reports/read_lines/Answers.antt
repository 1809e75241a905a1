use Rattle.std.proofs.Common.{◌≡◌, ◌∙◌, ap, sym, inl, length, map, codes, string_bytes, [], ◌∷◌, ◌++◌, subst, arith}
use Rattle.std.specs.Fmt.{decimal}
use Rattle.reg_text.proofs.Numbered.{goes_on}
use Rattle.reg_text.proofs.Shaped.{shape_is}
use Rattle.reg_history.proofs.Whole.{after_head, after_history, history_part, order_part, same_contents, from_parts}
use Rattle.reg_history.specs.declared.versions.Version.{Version}
use Rattle.reg_history.proofs.Listed.{some_name}
use Rattle.reg_text.proofs.Worded.{few}
use Rattle.reg_history.proofs.Fewer.{few_processes}
use Rattle.reg_history.proofs.Older.{widened}
use Rattle.reg_history.specs.EntryLines.{entry_text}
use Rattle.reg_history.specs.Refusals.{IsFirstWrong, IsWrongHead, IsWrongLists}
use Rattle.reg_history.specs.Reports.{head_lines, IsReportIn}
use Rattle.reg_history.proofs.Endings.{behind, body_wrong, history_wrong, lists_wrong, shape_made}
use Rattle.reg_history.proofs.Heads.{head_behind}
use Rattle.reg_history.proofs.Stopping.{failure_passed_on, fails_as, fails_behind}
use Rattle.reg_history.proofs.PassedOn.{memory_passed_on, nothing_read}
use Rattle.reg_history.proofs.reports.read_lines.Goals as goal

pub returns-in_err-version-clause-whole : goal.returns-in_err-version-clause-whole
returns-in_err-version-clause-whole g c = λ version r ok e.
    let head = c.in_err-version.ensures.whole version r.front r.shape.processes r.names (after_head r) ok.front ok.some_process ok.processes ok.names ok.few_names e in
    memory_passed_on c.from_residual.result _ _ c.from_residual.ensures.1 head

pub returns-in_err-history-clause-whole : goal.returns-in_err-history-clause-whole
returns-in_err-history-clause-whole g c = λ version r ok e.
    let head = c.in_ok-version.ensures.whole version r.front r.shape.processes r.names (after_head r) ok.front ok.some_process ok.processes ok.names ok.few_names e in
    let held : IsReportIn c.in_ok-version.version r = subst (λ (v : Version). IsReportIn v r) (sym head.0) ok in
    let s : c.in-Ok.shape ≡ record { processes = c.in_ok-version.processes; registers = c.count.result } = shape_is c.new.result c.in_ok-version.processes c.count.result c.in-Ok.shape c.in-Ok.is c.new.ensures in
    let n : c.count.result ≡ r.shape.registers = c.count.ensures.value ∙ ap length head.3 ∙ sym ok.registers in
    let t : c.in-Ok.shape ≡ r.shape = s ∙ ap (λ x. record { processes = x; registers = c.count.result }) head.2 ∙ ap (λ x. record { processes = r.shape.processes; registers = x }) n in
    let history = c.in_err-history.ensures.whole r.entries (after_history r) (history_part c.in_ok-version.version r c.in_ok-version.names c.in-Ok.shape c.read_head.new.lines.left head.3 t head.4 held) in
    memory_passed_on c.from_residual-in_err-history.result _ _ c.from_residual-in_err-history.ensures.1 history

pub returns-in_err-order-clause-whole : goal.returns-in_err-order-clause-whole
returns-in_err-order-clause-whole g c = λ version r ok e.
    let head = c.in_ok-version.ensures.whole version r.front r.shape.processes r.names (after_head r) ok.front ok.some_process ok.processes ok.names ok.few_names e in
    let held : IsReportIn c.in_ok-version.version r = subst (λ (v : Version). IsReportIn v r) (sym head.0) ok in
    let s : c.in-Ok.shape ≡ record { processes = c.in_ok-version.processes; registers = c.count.result } = shape_is c.new.result c.in_ok-version.processes c.count.result c.in-Ok.shape c.in-Ok.is c.new.ensures in
    let n : c.count.result ≡ r.shape.registers = c.count.ensures.value ∙ ap length head.3 ∙ sym ok.registers in
    let t : c.in-Ok.shape ≡ r.shape = s ∙ ap (λ x. record { processes = x; registers = c.count.result }) head.2 ∙ ap (λ x. record { processes = r.shape.processes; registers = x }) n in
    let history = c.in_ok-history.ensures.whole r.entries (after_history r) (history_part c.in_ok-version.version r c.in_ok-version.names c.in-Ok.shape c.read_head.new.lines.left head.3 t head.4 held) in
    let lists = c.in_err-order.ensures.whole r.order r.points (order_part c.in_ok-version.version r c.read_history.new.lines.left history.1 held) held.range.points_fit in
    memory_passed_on c.from_residual-in_err-order.result _ _ c.from_residual-in_err-order.ensures.1 lists

pub returns-clause-read : goal.returns-clause-read
returns-clause-read g c =
    let head = c.in_ok-version.ensures.read in
    let s : c.in-Ok.shape ≡ record { processes = c.in_ok-version.processes; registers = c.count.result } = shape_is c.new.result c.in_ok-version.processes c.count.result c.in-Ok.shape c.in-Ok.is c.new.ensures in
    let parts = from_parts c.in_ok-version.version _ c.in_ok-version.processes c.in_ok-version.names c.in-Ok.shape _ _ _ _ c.args.lines.now.left c.read_head.new.lines.left c.read_history.new.lines.left c.in_ok-order.ensures.read.0
    head.0 head.1 head.2 head.3 head.4 head.5 (s ∙ ap (λ x. record { processes = c.in_ok-version.processes; registers = x }) c.count.ensures.value) c.in_ok-history.ensures.shape c.in_ok-history.ensures.read c.in_ok-order.ensures.read.1 c.in_ok-order.ensures.read.2 c.in_ok-order.ensures.read.3 in
    (c.in_ok-version.version, parts.1, parts.0)

pub returns-clause-whole : goal.returns-clause-whole
returns-clause-whole g c = λ version r ok e.
    let head = c.in_ok-version.ensures.whole version r.front r.shape.processes r.names (after_head r) ok.front ok.some_process ok.processes ok.names ok.few_names e in
    let held : IsReportIn c.in_ok-version.version r = subst (λ (v : Version). IsReportIn v r) (sym head.0) ok in
    let s : c.in-Ok.shape ≡ record { processes = c.in_ok-version.processes; registers = c.count.result } = shape_is c.new.result c.in_ok-version.processes c.count.result c.in-Ok.shape c.in-Ok.is c.new.ensures in
    let n : c.count.result ≡ r.shape.registers = c.count.ensures.value ∙ ap length head.3 ∙ sym ok.registers in
    let t : c.in-Ok.shape ≡ r.shape = s ∙ ap (λ x. record { processes = x; registers = c.count.result }) head.2 ∙ ap (λ x. record { processes = r.shape.processes; registers = x }) n in
    let history = c.in_ok-history.ensures.whole r.entries (after_history r) (history_part c.in_ok-version.version r c.in_ok-version.names c.in-Ok.shape c.read_head.new.lines.left head.3 t head.4 held) in
    let lists = c.in_ok-order.ensures.whole r.order r.points (order_part c.in_ok-version.version r c.read_history.new.lines.left history.1 held) held.range.points_fit in
    same_contents r _ _ _ _ _ _ head.1 (c.in_ok-history.ensures.shape ∙ t) head.3 history.0 lists.0 lists.1

pub invariant_of-result : goal.invariant_of-result
invariant_of-result g c =
    let head = c.in_ok-version.ensures.read in
    let s : c.in-Ok.shape ≡ record { processes = c.in_ok-version.processes; registers = c.count.result } = shape_is c.new.result c.in_ok-version.processes c.count.result c.in-Ok.shape c.in-Ok.is c.new.ensures in
    widened c.in_ok-version.version _ (from_parts c.in_ok-version.version _ c.in_ok-version.processes c.in_ok-version.names c.in-Ok.shape _ _ _ _ c.args.lines.now.left c.read_head.new.lines.left c.read_history.new.lines.left c.in_ok-order.ensures.read.0
    head.0 head.1 head.2 head.3 head.4 head.5 (s ∙ ap (λ x. record { processes = c.in_ok-version.processes; registers = x }) c.count.ensures.value) c.in_ok-history.ensures.shape c.in_ok-history.ensures.read c.in_ok-order.ensures.read.1 c.in_ok-order.ensures.read.2 c.in_ok-order.ensures.read.3).1

pub returns-in_err-version-clause-read : goal.returns-in_err-version-clause-read
returns-in_err-version-clause-read g c = nothing_read c.from_residual.result _ _ c.from_residual.ensures.1

pub returns-in_err-history-clause-read : goal.returns-in_err-history-clause-read
returns-in_err-history-clause-read g c =
    nothing_read c.from_residual-in_err-history.result _ _ c.from_residual-in_err-history.ensures.1

pub returns-in_err-order-clause-read : goal.returns-in_err-order-clause-read
returns-in_err-order-clause-read g c =
    nothing_read c.from_residual-in_err-order.result _ _ c.from_residual-in_err-order.ensures.1

pub returns-in_default-clause-read : goal.returns-in_default-clause-read
returns-in_default-clause-read g c = tt

pub returns-in_err-version-clause-stopped : goal.returns-in_err-version-clause-stopped
returns-in_err-version-clause-stopped g c =
    failure_passed_on c.from_residual.result _ _ c.from_residual.ensures.1
    (fails_as IsFirstWrong IsWrongHead c.args.lines.now c.in_err-version.field-0.0 (λ before next why w. inl w) c.in_err-version.ensures.stopped)

pub returns-in_default-clause-stopped : goal.returns-in_default-clause-stopped
returns-in_default-clause-stopped g c =
    let head = c.in_ok-version.ensures.read in
    let n = c.count.ensures.value in
    absurd (c.in_default.not-Ok _ (shape_made c.new.result c.in_ok-version.processes c.count.result c.new.ensures head.2 (omega (arith, head.3, few_processes c.in_ok-version.version))
    (omega (arith, n, some_name c.in_ok-version.names head.4)) (omega (arith, n, few c.in_ok-version.names head.4))))

pub returns-in_err-history-clause-stopped : goal.returns-in_err-history-clause-stopped
returns-in_err-history-clause-stopped g c =
    let head = c.in_ok-version.ensures.read in
    let s : c.in-Ok.shape ≡ record { processes = c.in_ok-version.processes; registers = length c.in_ok-version.names } =
    shape_is c.new.result c.in_ok-version.processes c.count.result c.in-Ok.shape c.in-Ok.is c.new.ensures ∙ ap (λ x. record { processes = c.in_ok-version.processes; registers = x }) c.count.ensures.value in
    failure_passed_on c.from_residual-in_err-history.result _ _ c.from_residual-in_err-history.ensures.1
    (fails_behind IsFirstWrong (history_wrong c.in_ok-version.version c.in_ok-version.names c.in-Ok.shape) (head_lines c.in_ok-version.version (string_bytes c.in_ok-version.front) c.in_ok-version.processes c.in_ok-version.names []) c.args.lines.now c.read_head.new.lines c.in_err-history.field-0.0
    (head.0 ∙ head_behind c.in_ok-version.version (string_bytes c.in_ok-version.front) c.in_ok-version.processes c.in_ok-version.names c.read_head.new.lines.left) c.in_ok-version.ensures.on
    (λ before next why w. body_wrong c.in_ok-version.version (string_bytes c.in_ok-version.front) c.in_ok-version.processes c.in_ok-version.names c.in-Ok.shape head.1 head.2 head.3 head.4 head.5 s before next why (inl w)) c.in_err-history.ensures.stopped)

pub returns-in_err-order-clause-stopped : goal.returns-in_err-order-clause-stopped
returns-in_err-order-clause-stopped g c =
    let head = c.in_ok-version.ensures.read in
    let history = c.in_ok-history.ensures in
    let entries = c.in_ok-history.history.entries in
    let s : c.in-Ok.shape ≡ record { processes = c.in_ok-version.processes; registers = length c.in_ok-version.names } =
    shape_is c.new.result c.in_ok-version.processes c.count.result c.in-Ok.shape c.in-Ok.is c.new.ensures ∙ ap (λ x. record { processes = c.in_ok-version.processes; registers = x }) c.count.ensures.value in
    failure_passed_on c.from_residual-in_err-order.result _ _ c.from_residual-in_err-order.ensures.1
    (fails_behind IsFirstWrong (IsWrongLists c.in_ok-version.version) (head_lines c.in_ok-version.version (string_bytes c.in_ok-version.front) c.in_ok-version.processes c.in_ok-version.names [] ++ ((codes "history " ++ decimal (length entries)) ∷ map (entry_text c.in_ok-version.names) entries)) c.args.lines.now c.read_history.new.lines c.in_err-order.field-0.0
    (head.0 ∙ head_behind c.in_ok-version.version (string_bytes c.in_ok-version.front) c.in_ok-version.processes c.in_ok-version.names c.read_head.new.lines.left ∙ behind (head_lines c.in_ok-version.version (string_bytes c.in_ok-version.front) c.in_ok-version.processes c.in_ok-version.names []) ((codes "history " ++ decimal (length entries)) ∷ map (entry_text c.in_ok-version.names) entries) c.read_head.new.lines.left c.read_history.new.lines.left history.read.lines)
    (goes_on c.args.lines.now c.read_head.new.lines c.read_history.new.lines c.in_ok-version.ensures.on history.on)
    (lists_wrong c.in_ok-version.version (string_bytes c.in_ok-version.front) c.in_ok-version.processes c.in_ok-version.names c.in-Ok.shape head.1 head.2 head.3 head.4 head.5 s entries c.read_head.new.lines.left c.read_history.new.lines.left history.read) c.in_err-order.ensures.stopped)
