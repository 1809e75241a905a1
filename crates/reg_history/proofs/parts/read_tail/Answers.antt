use Rattle.std.proofs.Common.{ℕ, ◌≡◌, ◌≤◌, List, [], ◌∷◌, ◌++◌, codes, length, get_or, Option, None, Some, inl, true}
use Rattle.std.proofs.Common.{false, refl, ap, sym, ◌∙◌, arith}
use Rattle.std.specs.Fmt.{decimal}
use Rattle.std.specs.Str.{bytes_eq}
use Rattle.std.proofs.lemmas.Bool.{false≢true}
use Rattle.std.proofs.lemmas.Slice.Eq.{bytes_eq-Decides}
use Rattle.reg_checkers.specs.declared.entries.Point.{Point}
use Rattle.reg_text.specs.Reading.{IsBlock}
use Rattle.reg_text.proofs.Numbered.{asked_on}
use Rattle.reg_history.specs.IdLines.{point_text, PointFits}
use Rattle.reg_history.specs.Refusals.{IsWrongTail}
use Rattle.reg_history.specs.Stops.{IsFurther, IsWrongPoints}
use Rattle.reg_history.specs.declared.report_faults.ReadWhy.TheVariants.{End}
use Rattle.reg_history.specs.declared.report_limits.TheConstants.{MOST_IDS}
use Rattle.reg_history.proofs.Endings.{tail_further, tail_points}
use Rattle.reg_history.proofs.Stopping.{failure_passed_on, fails_behind, stops_now}
use Rattle.reg_history.specs.declared.versions.Version.{Version}
use Rattle.reg_history.specs.Reports.{tail_lines, PointsFit}
use Rattle.reg_history.proofs.Firsts.{none_first, first_line, other_lines, same_ok, not_ok}
use Rattle.reg_history.proofs.PassedOn.{memory_passed_on, nothing_read}
use Rattle.reg_history.proofs.parts.read_tail.Goals as goal

same_as : (line other word : List ℕ) → true ≡ bytes_eq line other → other ≡ word → line ≡ word
same_as line other word told is = (bytes_eq-Decides line other).0 (sym told) ∙ is

other_than : (line other word : List ℕ) → false ≡ bytes_eq line other → other ≡ word → ¬ (line ≡ word)
other_than line other word told is same = false≢true (told ∙ (bytes_eq-Decides line other).1 (same ∙ sym is))

-- each report has a last line
no_tail : {A : Type 0} (points : Option (List Point)) → [] ≡ tail_lines points → A
no_tail None e = none_first e
no_tail (Some ps) e = none_first e

-- the last line announces no points
no_points : {A : Type 0} (digits : List ℕ) → codes "end" ≡ codes "points " ++ digits → A
no_points digits e = let same : get_or (codes "end") 0 0 ≡ get_or (codes "points " ++ digits) 0 0 = ap (λ l. get_or l 0 0) e in absurd (omega (arith, same))

-- after the last line stand no points
no_list : (left : List (List ℕ)) (points : Option (List Point)) → codes "end" ∷ left ≡ tail_lines points → None ≡ points
no_list left None e = refl
no_list left (Some ps) e = no_points (decimal (length ps)) (first_line e)

-- and no line
no_line : (left : List (List ℕ)) (points : Option (List Point)) → codes "end" ∷ left ≡ tail_lines points → left ≡ []
no_line left None e = other_lines e
no_line left (Some ps) e = no_points (decimal (length ps)) (first_line e)

-- the points after their count
block : (version : Version) (line : List ℕ) (left : List (List ℕ)) (count : ℕ) (ps : List Point)
    → PointsFit version (Some ps) → line ∷ left ≡ tail_lines (Some ps) → count ≡ length ps
    → IsBlock point_text (λ _ p. PointFits version p) count left (codes "end" ∷ []) ps
block version line left count ps fit e same = record { lines = other_lines e; fit = fit.0; count = sym same }

listed : (version : Version) (old : List (List ℕ)) (line : List ℕ) (left : List (List ℕ)) (count : ℕ) (ps : List Point)
    → old ≡ line ∷ left → line ≡ codes "points " ++ decimal count → count ≤ MOST_IDS
    → IsBlock point_text (λ _ p. PointFits version p) count left (codes "end" ∷ []) ps → (old ≡ tail_lines (Some ps)) × PointsFit version (Some ps)
listed version old line left count ps is marked few b = (
  is ∙ ap (λ l. l ∷ left) (marked ∙ ap (λ n. codes "points " ++ decimal n) (sym b.count)) ∙ ap (λ l. (codes "points " ++ decimal (length ps)) ∷ l) b.lines,
  (b.fit, omega (arith, b.count, few)),
)

-- where the line is not the last one, points are listed
counted : (version : Version) (old left : List (List ℕ)) (line : List ℕ) (P : Option (List Point) → Type 0)
    → old ≡ line ∷ left → ¬ (line ≡ codes "end")
    → ((ps : List Point) → PointsFit version (Some ps) → line ≡ codes "points " ++ decimal (length ps) → line ∷ left ≡ tail_lines (Some ps) → P (Some ps))
    → (points : Option (List Point)) → PointsFit version points → old ≡ tail_lines points → P points
counted version old left line P is other whole None fit e = absurd (other (first_line (sym is ∙ e)))
counted version old left line P is other whole (Some ps) fit e =
    let both = sym is ∙ e in whole ps fit (first_line both) both

pub returns-in_default-clause-read : goal.returns-in_default-clause-read
returns-in_default-clause-read g c = tt

pub returns-in_default-clause-whole : goal.returns-in_default-clause-whole
returns-in_default-clause-whole g c = λ points fit e. no_tail points (sym c.in_default.ensures.line ∙ e)

pub returns-then-eq-clause-read : goal.returns-then-eq-clause-read
returns-then-eq-clause-read g c =
    let same = same_as c.in-Some.line.now c.as_slice.result.now (codes "end") c.if-eq.ensures c.as_slice.ensures in
    (c.in-Some.ensures.line ∙ ap (λ l. l ∷ c.next.new.self.left) same ∙ ap (λ l. codes "end" ∷ l) c.in_ok-expect_none.ensures.read, tt)

pub returns-then-eq-clause-whole : goal.returns-then-eq-clause-whole
returns-then-eq-clause-whole g c = λ points fit e.
    let same = same_as c.in-Some.line.now c.as_slice.result.now (codes "end") c.if-eq.ensures c.as_slice.ensures in
    no_list c.next.new.self.left points (ap (λ l. l ∷ c.next.new.self.left) (sym same) ∙ sym c.in-Some.ensures.line ∙ e)

pub returns-in_err-expect_none-clause-read : goal.returns-in_err-expect_none-clause-read
returns-in_err-expect_none-clause-read g c = nothing_read c.from_residual.result _ _ c.from_residual.ensures.1

pub returns-in_err-expect_none-clause-whole : goal.returns-in_err-expect_none-clause-whole
returns-in_err-expect_none-clause-whole g c = λ points fit e.
    let same = same_as c.in-Some.line.now c.as_slice.result.now (codes "end") c.if-eq.ensures c.as_slice.ensures in
    not_ok (c.in_err-expect_none.ensures.whole (no_line c.next.new.self.left points (ap (λ l. l ∷ c.next.new.self.left) (sym same) ∙ sym c.in-Some.ensures.line ∙ e)))

pub returns-in_default-clause-stopped : goal.returns-in_default-clause-stopped
returns-in_default-clause-stopped g c = stops_now (IsWrongTail c.args.version) c.args.lines.now c.next.new.self c.at_line.result End None c.at_line.ensures c.next.ensures.asked c.in_default.ensures.line (inl (refl, refl))

pub returns-in_err-expect_none-clause-stopped : goal.returns-in_err-expect_none-clause-stopped
returns-in_err-expect_none-clause-stopped g c =
    let same = same_as c.in-Some.line.now c.as_slice.result.now (codes "end") c.if-eq.ensures c.as_slice.ensures in
    failure_passed_on c.from_residual.result _ _ c.from_residual.ensures.1
    (fails_behind (IsWrongTail c.args.version) IsFurther (codes "end" ∷ []) c.args.lines.now c.next.new.self c.in_err-expect_none.field-0.0 (c.in-Some.ensures.line ∙ ap (λ l. l ∷ c.next.new.self.left) same)
    (asked_on c.args.lines.now c.next.new.self c.in-Some.line.now c.next.new.self.left c.next.ensures.asked c.in-Some.ensures.line) (tail_further c.args.version) c.in_err-expect_none.ensures.stopped)

pub returns-in_err-count-clause-read : goal.returns-in_err-count-clause-read
returns-in_err-count-clause-read g c =
    nothing_read c.from_residual-in_err-count.result _ _ c.from_residual-in_err-count.ensures.1

pub returns-in_err-count-clause-whole : goal.returns-in_err-count-clause-whole
returns-in_err-count-clause-whole g c =
    counted c.args.version c.args.lines.now.left c.next.new.self.left c.in-Some.line.now _ c.in-Some.ensures.line (other_than c.in-Some.line.now c.as_slice.result.now (codes "end") c.if-eq.ensures c.as_slice.ensures)
    (λ ps fit line e. not_ok (c.in_err-count.ensures.whole (length ps) fit.1 line))

pub returns-in_err-count-clause-stopped : goal.returns-in_err-count-clause-stopped
returns-in_err-count-clause-stopped g c =
    let told = c.in_err-count.ensures.none in
    failure_passed_on c.from_residual-in_err-count.result _ _ c.from_residual-in_err-count.ensures.1
    (stops_now (IsWrongTail c.args.version) c.args.lines.now c.next.new.self c.in_err-count.field-0.0 told.0 (Some c.in-Some.line.now) told.1 c.next.ensures.asked (c.next.new.self.left, c.in-Some.ensures.line) (inl (refl, (other_than c.in-Some.line.now c.as_slice.result.now (codes "end") c.if-eq.ensures c.as_slice.ensures, told.2))))

pub returns-in_err-points-clause-read : goal.returns-in_err-points-clause-read
returns-in_err-points-clause-read g c =
    nothing_read c.from_residual-in_err-points.result _ _ c.from_residual-in_err-points.ensures.1

pub returns-in_err-points-clause-whole : goal.returns-in_err-points-clause-whole
returns-in_err-points-clause-whole g c =
    counted c.args.version c.args.lines.now.left c.next.new.self.left c.in-Some.line.now _ c.in-Some.ensures.line (other_than c.in-Some.line.now c.as_slice.result.now (codes "end") c.if-eq.ensures c.as_slice.ensures)
    (λ ps fit line e.
    let same = same_ok (c.in_ok-count.ensures.whole (length ps) fit.1 line) in
    memory_passed_on c.from_residual-in_err-points.result _ _ c.from_residual-in_err-points.ensures.1
    (c.in_err-points.ensures.whole ps (block c.args.version c.in-Some.line.now c.next.new.self.left c.in_ok-count.count ps fit e same)))

pub returns-in_err-points-clause-stopped : goal.returns-in_err-points-clause-stopped
returns-in_err-points-clause-stopped g c =
    let read = c.in_ok-count.ensures.read in
    failure_passed_on c.from_residual-in_err-points.result _ _ c.from_residual-in_err-points.ensures.1
    (fails_behind (IsWrongTail c.args.version) (IsWrongPoints c.args.version c.in_ok-count.count) ((codes "points " ++ decimal c.in_ok-count.count) ∷ []) c.args.lines.now c.next.new.self c.in_err-points.field-0.0
    (c.in-Some.ensures.line ∙ ap (λ l. l ∷ c.next.new.self.left) read.0) (asked_on c.args.lines.now c.next.new.self c.in-Some.line.now c.next.new.self.left c.next.ensures.asked c.in-Some.ensures.line)
    (tail_points c.args.version c.in_ok-count.count read.1) c.in_err-points.ensures.stopped)

pub returns-clause-read : goal.returns-clause-read
returns-clause-read g c = listed c.args.version c.args.lines.now.left c.in-Some.line.now c.next.new.self.left c.in_ok-count.count _ c.in-Some.ensures.line c.in_ok-count.ensures.read.0 c.in_ok-count.ensures.read.1 c.in_ok-points.ensures.read

pub returns-clause-whole : goal.returns-clause-whole
returns-clause-whole g c =
    counted c.args.version c.args.lines.now.left c.next.new.self.left c.in-Some.line.now _ c.in-Some.ensures.line (other_than c.in-Some.line.now c.as_slice.result.now (codes "end") c.if-eq.ensures c.as_slice.ensures)
    (λ ps fit line e.
    let same = same_ok (c.in_ok-count.ensures.whole (length ps) fit.1 line) in
    ap Some (c.in_ok-points.ensures.whole ps (block c.args.version c.in-Some.line.now c.next.new.self.left c.in_ok-count.count ps fit e same)))
