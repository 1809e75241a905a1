use Rattle.std.proofs.Common.{◌≡◌, ◌≤◌, ◌∙◌, ap, sym, subst, arith, length, [], ◌∷◌, ◌++◌, codes, string_bytes}
use Rattle.std.specs.Fmt.{decimal}
use Rattle.reg_text.proofs.Numbered.{goes_on}
use Rattle.reg_history.specs.declared.versions.Version.{Version}
use Rattle.reg_history.specs.Versions.{most_processes, most_registers, version_line}
use Rattle.reg_history.specs.Refusals.{IsNoCount, IsNoFront, IsNoVersion, IsWrongHead, IsWrongNames}
use Rattle.reg_history.specs.Reports.{registers_lines}
use Rattle.reg_history.specs.Stops.{IsFirst}
use Rattle.reg_history.proofs.Heads.{first_wrong, second_wrong, third_wrong, fourth_wrong}
use Rattle.reg_history.proofs.PassedOn.{memory_passed_on}
use Rattle.reg_history.proofs.Stopping.{failure_passed_on, fails_as, fails_behind, not_failed}
use Rattle.reg_history.proofs.parts.read_head.Goals as goal

pub returns-in_err-version-clause-whole : goal.returns-in_err-version-clause-whole
returns-in_err-version-clause-whole g c = λ version front processes names rest ok some least spelt short e.
    absurd (c.in_err-version.ensures.whole version _ e)

pub returns-in_err-front-clause-whole : goal.returns-in_err-front-clause-whole
returns-in_err-front-clause-whole g c = λ version front processes names rest ok some least spelt short e.
    let first = c.in_ok-version.ensures.whole version _ e in
    let second = c.in_err-front.ensures.whole front _ ok first.1 in
    memory_passed_on c.from_residual-in_err-front.result _ _ c.from_residual-in_err-front.ensures.1 second

pub returns-in_err-processes-clause-whole : goal.returns-in_err-processes-clause-whole
returns-in_err-processes-clause-whole g c = λ version front processes names rest ok some least spelt short e.
    let first = c.in_ok-version.ensures.whole version _ e in
    let held : processes ≤ most_processes c.in_ok-version.version = subst (λ (v : Version). processes ≤ most_processes v) (sym first.0) least in
    let second = c.in_ok-front.ensures.whole front _ ok first.1 in
    absurd (c.in_err-processes.ensures.whole processes _ some held second.1)

pub returns-in_err-names-clause-whole : goal.returns-in_err-names-clause-whole
returns-in_err-names-clause-whole g c = λ version front processes names rest ok some least spelt short e.
    let first = c.in_ok-version.ensures.whole version _ e in
    let held : processes ≤ most_processes c.in_ok-version.version = subst (λ (v : Version). processes ≤ most_processes v) (sym first.0) least in
    let second = c.in_ok-front.ensures.whole front _ ok first.1 in
    let third = c.in_ok-processes.ensures.whole processes _ some held second.1 in
    let kept : length names ≤ most_registers c.in_ok-version.version = subst (λ (v : Version). length names ≤ most_registers v) (sym first.0) short in
    let line : c.read_processes.new.lines.left ≡ registers_lines c.in_ok-version.version names rest = third.1 ∙ ap (λ (v : Version). registers_lines v names rest) (sym first.0) in
    let fourth = c.in_err-names.ensures.whole names rest spelt kept line in
    memory_passed_on c.from_residual-in_err-names.result _ _ c.from_residual-in_err-names.ensures.1 fourth

pub returns-clause-whole : goal.returns-clause-whole
returns-clause-whole g c = λ version front processes names rest ok some least spelt short e.
    let first = c.in_ok-version.ensures.whole version _ e in
    let held : processes ≤ most_processes c.in_ok-version.version = subst (λ (v : Version). processes ≤ most_processes v) (sym first.0) least in
    let second = c.in_ok-front.ensures.whole front _ ok first.1 in
    let third = c.in_ok-processes.ensures.whole processes _ some held second.1 in
    let kept : length names ≤ most_registers c.in_ok-version.version = subst (λ (v : Version). length names ≤ most_registers v) (sym first.0) short in
    let line : c.read_processes.new.lines.left ≡ registers_lines c.in_ok-version.version names rest = third.1 ∙ ap (λ (v : Version). registers_lines v names rest) (sym first.0) in
    let fourth = c.in_ok-names.ensures.whole names rest spelt kept line in
    (first.0, second.0, third.0, fourth.0, fourth.1)

pub returns-in_err-version-clause-stopped : goal.returns-in_err-version-clause-stopped
returns-in_err-version-clause-stopped g c =
    failure_passed_on c.from_residual.result _ _ c.from_residual.ensures.1 (fails_as IsWrongHead (IsFirst IsNoVersion) c.args.lines.now c.in_err-version.field-0.0 first_wrong c.in_err-version.ensures.stopped)

pub returns-in_err-front-clause-stopped : goal.returns-in_err-front-clause-stopped
returns-in_err-front-clause-stopped g c =
    let version = c.in_ok-version.version in
    failure_passed_on c.from_residual-in_err-front.result _ _ c.from_residual-in_err-front.ensures.1
    (fails_behind IsWrongHead (IsFirst IsNoFront) (version_line version ∷ []) c.args.lines.now c.read_version.new.lines c.in_err-front.field-0.0 c.in_ok-version.ensures.read c.in_ok-version.ensures.on (second_wrong version) c.in_err-front.ensures.stopped)

pub returns-in_err-processes-clause-stopped : goal.returns-in_err-processes-clause-stopped
returns-in_err-processes-clause-stopped g c =
    let version = c.in_ok-version.version in
    let front = string_bytes c.in_ok-front.front in
    let first = c.in_ok-version.ensures in
    let second = c.in_ok-front.ensures in
    failure_passed_on c.from_residual-in_err-processes.result _ _ c.from_residual-in_err-processes.ensures.1
    (fails_behind IsWrongHead (IsFirst (IsNoCount (codes "processes ") 1 (most_processes version))) (version_line version ∷ (codes "front " ++ front) ∷ []) c.args.lines.now c.read_front.new.lines c.in_err-processes.field-0.0
    (first.read ∙ ap (λ l. version_line version ∷ l) second.read.0) (goes_on c.args.lines.now c.read_version.new.lines c.read_front.new.lines first.on second.on) (third_wrong version front second.read.1) c.in_err-processes.ensures.stopped)

pub returns-in_err-names-clause-stopped : goal.returns-in_err-names-clause-stopped
returns-in_err-names-clause-stopped g c =
    let version = c.in_ok-version.version in
    let front = string_bytes c.in_ok-front.front in
    let processes = c.in_ok-processes.processes in
    let first = c.in_ok-version.ensures in
    let second = c.in_ok-front.ensures in
    let third = c.in_ok-processes.ensures in
    failure_passed_on c.from_residual-in_err-names.result _ _ c.from_residual-in_err-names.ensures.1
    (fails_behind IsWrongHead (IsWrongNames version) (version_line version ∷ (codes "front " ++ front) ∷ (codes "processes " ++ decimal processes) ∷ []) c.args.lines.now c.read_processes.new.lines c.in_err-names.field-0.0
    (first.read ∙ ap (λ l. version_line version ∷ l) second.read.0 ∙ ap (λ l. version_line version ∷ (codes "front " ++ front) ∷ l) third.read.0)
    (goes_on c.args.lines.now c.read_version.new.lines c.read_processes.new.lines first.on (goes_on c.read_version.new.lines c.read_front.new.lines c.read_processes.new.lines second.on third.on))
    (fourth_wrong version front processes second.read.1 (omega (arith, third.read.1)) third.read.2) c.in_err-names.ensures.stopped)

pub returns-in_err-version-clause-on : goal.returns-in_err-version-clause-on
returns-in_err-version-clause-on g c = not_failed c.from_residual.result _ _ c.from_residual.ensures.1

pub returns-in_err-front-clause-on : goal.returns-in_err-front-clause-on
returns-in_err-front-clause-on g c =
    not_failed c.from_residual-in_err-front.result _ _ c.from_residual-in_err-front.ensures.1

pub returns-in_err-processes-clause-on : goal.returns-in_err-processes-clause-on
returns-in_err-processes-clause-on g c =
    not_failed c.from_residual-in_err-processes.result _ _ c.from_residual-in_err-processes.ensures.1

pub returns-in_err-names-clause-on : goal.returns-in_err-names-clause-on
returns-in_err-names-clause-on g c =
    not_failed c.from_residual-in_err-names.result _ _ c.from_residual-in_err-names.ensures.1

pub returns-clause-on : goal.returns-clause-on
returns-clause-on g c =
    goes_on c.args.lines.now c.read_version.new.lines c.read_registers.new.lines c.in_ok-version.ensures.on
    (goes_on c.read_version.new.lines c.read_front.new.lines c.read_registers.new.lines c.in_ok-front.ensures.on
    (goes_on c.read_front.new.lines c.read_processes.new.lines c.read_registers.new.lines c.in_ok-processes.ensures.on c.in_ok-names.ensures.on))
