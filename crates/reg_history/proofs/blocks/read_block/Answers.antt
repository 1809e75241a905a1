use Rattle.std.proofs.Common.{Option, None, Some, inl, sym, subst, arith, rules, ◌≡◌, ◌<◌, ℕ, ◌+◌, List, [], ◌∷◌, ◌++◌}
use Rattle.std.proofs.Common.{refl, ap, ◌∙◌}
use Rattle.reg_text.specs.Reading.{IsBlock, IsNext}
use Rattle.reg_text.proofs.Numbered.{asked_on, goes_on, stays}
use Rattle.reg_text.proofs.Turns.{Taken, begins, steps, ended, refused, all_read, only_read}
use Rattle.reg_history.specs.declared.report_faults.ReadWhy.{ReadWhy}
use Rattle.reg_history.specs.LineForms.{IsBadLine}
use Rattle.reg_history.specs.Refusals.{IsWrongNext}
use Rattle.reg_history.proofs.Stopping.{failure_passed_on, item_fails, not_failed}
use Rattle.reg_history.proofs.blocks.read_block.Goals as goal

-- no block has a bad line next
not_next : {X : Type 0} (line_of : X → List ℕ) (Fits : X → Type 0) (HasForm : List ℕ → Type 0) (n : ℕ)
    (old now : List (List ℕ)) (xs : List X) (i : ℕ) (next : Option (List ℕ)) (why : ReadWhy)
    → i < n → Taken line_of (λ _ x. Fits x) n old now xs i → IsNext now next
    → IsWrongNext (IsBadLine line_of Fits HasForm) next why
    → (ys : List X) (rest : List (List ℕ)) → IsBlock line_of (λ _ x. Fits x) n old rest ys → ⊥
not_next line_of Fits HasForm n old now xs i None why l t comes bad ys rest b =
    ended line_of (λ _ x. Fits x) n old now xs i l t comes ys rest b
not_next line_of Fits HasForm n old now xs i (Some line) why l t comes bad ys rest b =
    refused line_of (λ _ x. Fits x) n old now xs i l t line comes.0 comes.1 bad.none ys rest b

pub returns-in_err-item-clause-whole : goal.returns-in_err-item-clause-whole
returns-in_err-item-clause-whole g c = λ ys rest b.
    let told = c.in_err-item.ensures.why in
    absurd (not_next g.T.Listed.line_of (g.T.Listed.Fits c.args.version) g.T.Listed.HasForm c.args.count c.args.lines.now.left c.loop-place.lines.left c.loop-place.items.items c.loop-place._place told.1 told.0 c.loop-place-test.true c.loop-place.invariant.0 told.3 told.4 ys rest b)

pub returns-in_err-item-clause-stopped : goal.returns-in_err-item-clause-stopped
returns-in_err-item-clause-stopped g c =
    let told = c.in_err-item.ensures.why in
    failure_passed_on c.from_residual.result _ _ c.from_residual.ensures.1
    (item_fails g.T.Listed.line_of (λ _ x. g.T.Listed.Fits c.args.version x) (λ _. IsBadLine g.T.Listed.line_of (g.T.Listed.Fits c.args.version) g.T.Listed.HasForm) c.args.count c.args.lines.now c.loop-place.lines c.read_item.new.lines c.loop-place.items.items c.loop-place._place
    c.loop-place-test.true c.loop-place.invariant.0 c.loop-place.invariant.1 c.in_err-item.field-0.0 told.0 told.1 told.2 c.in_err-item.ensures.asked told.3 told.4)

pub returns-in_err-item-clause-on : goal.returns-in_err-item-clause-on
returns-in_err-item-clause-on g c = not_failed c.from_residual.result _ _ c.from_residual.ensures.1

pub returns-then-is_err-clause-stopped : goal.returns-then-is_err-clause-stopped
returns-then-is_err-clause-stopped g c = inl refl

pub returns-clause-on : goal.returns-clause-on
returns-clause-on g c = c.loop-place.invariant.1

pub loop-place-init : goal.loop-place-init
loop-place-init g c =
    let P : List _ → Type 0 = λ l. Taken g.T.Listed.line_of (λ _ x. g.T.Listed.Fits c.args.version x) c.args.count c.args.lines.now.left c.args.lines.now.left l 0 in
    (subst P (sym c.new-items.ensures.items) (begins g.T.Listed.line_of (λ _ x. g.T.Listed.Fits c.args.version x) c.args.count c.args.lines.now.left), stays c.args.lines.now)

pub returns-clause-read : goal.returns-clause-read
returns-clause-read g c =
    let n : c.loop-place._place ≡ c.args.count = omega arith in
    let P : ℕ → Type 0 = λ i. Taken g.T.Listed.line_of (λ _ x. g.T.Listed.Fits c.args.version x) c.args.count c.args.lines.now.left c.loop-place.lines.left c.loop-place.items.items i in
    all_read g.T.Listed.line_of (λ _ x. g.T.Listed.Fits c.args.version x) c.args.count c.args.lines.now.left c.loop-place.lines.left c.loop-place.items.items (subst P n c.loop-place.invariant.0)

pub loop-place-preserved : goal.loop-place-preserved
loop-place-preserved g c =
    let grown : c.push.new.self.items ≡ c.loop-place.items.items ++ c.in_ok-item.item ∷ [] = search rules in
    let P : List _ → Type 0 = λ l. Taken g.T.Listed.line_of (λ _ x. g.T.Listed.Fits c.args.version x) c.args.count c.args.lines.now.left c.read_item.new.lines.left l (c.loop-place._place + 1) in (
      subst P (sym grown) (steps g.T.Listed.line_of (λ _ x. g.T.Listed.Fits c.args.version x) c.args.count c.args.lines.now.left c.loop-place.lines.left c.loop-place.items.items c.loop-place._place c.loop-place-test.true c.loop-place.invariant.0
          (g.T.Listed.line_of c.in_ok-item.item) c.read_item.new.lines.left c.in_ok-item.item c.in_ok-item.ensures.read.1 refl c.in_ok-item.ensures.read.0
          (λ y fits e. let one = c.in_ok-item.ensures.whole y c.read_item.new.lines.left fits (c.in_ok-item.ensures.read.1 ∙ ap (λ l. l ∷ c.read_item.new.lines.left) e) in cc)),
      goes_on c.args.lines.now c.loop-place.lines c.read_item.new.lines c.loop-place.invariant.1 (asked_on c.loop-place.lines c.read_item.new.lines (g.T.Listed.line_of c.in_ok-item.item) c.read_item.new.lines.left c.in_ok-item.ensures.asked c.in_ok-item.ensures.read.1),
    )

pub returns-clause-whole : goal.returns-clause-whole
returns-clause-whole g c = λ ys rest b.
    let n : c.loop-place._place ≡ c.args.count = omega arith in
    let P : ℕ → Type 0 = λ i. Taken g.T.Listed.line_of (λ _ x. g.T.Listed.Fits c.args.version x) c.args.count c.args.lines.now.left c.loop-place.lines.left c.loop-place.items.items i in
    only_read g.T.Listed.line_of (λ _ x. g.T.Listed.Fits c.args.version x) c.args.count c.args.lines.now.left c.loop-place.lines.left c.loop-place.items.items (subst P n c.loop-place.invariant.0) ys rest b

-- want of memory says nothing of a block that was read
pub returns-then-is_err-clause-read : goal.returns-then-is_err-clause-read
returns-then-is_err-clause-read g c = tt

pub returns-then-is_err-clause-whole : goal.returns-then-is_err-clause-whole
returns-then-is_err-clause-whole g c = λ ys rest b. refl
