use Rattle.std.proofs.Common.{sym, ◌∙◌, subst, arith, refl, inl, inr, ◌≡◌, ℕ, ◌+◌, List, None, Some}
use Rattle.reg_base.specs.Shape.{Extent}
use Rattle.reg_checkers.specs.declared.entries.Entry.{Entry}
use Rattle.reg_history.specs.declared.versions.Version.{Version}
use Rattle.reg_checkers.specs.History.{IsInPlace}
use Rattle.reg_checkers.specs.Log.{Log, IsNextOf}
use Rattle.reg_text.proofs.Numbered.{asked_on, goes_on, stays}
use Rattle.reg_text.proofs.Turns.{Taken, begins, steps, ended, refused, all_read, only_read}
use Rattle.reg_history.specs.EntryLines.{entry_text}
use Rattle.reg_history.specs.declared.report_faults.ReadWhy.TheVariants.{Place, End}
use Rattle.reg_history.specs.LineForms.{Follows}
use Rattle.reg_history.specs.Refusals.{IsNoNextEntry}
use Rattle.reg_history.proofs.Stopping.{item_fails}
use Rattle.reg_history.proofs.blocks.read_entries.Goals as goal

-- an entry in place, at a shape that is the history's
at_shape : (h : Log) (shape : Extent) (e : Entry) → h.shape ≡ shape → IsNextOf h e
    → IsInPlace shape.processes shape.registers h.entries e
at_shape h shape e same next =
    let P : Extent → Type 0 = λ s. IsInPlace s.processes s.registers h.entries e in subst P same next

not_both : (version : Version) (names : List (List ℕ)) (h : Log) (shape : Extent) (e y : Entry) → h.shape ≡ shape
    → (¬ IsNextOf h e) → e ≡ y → Follows version names shape h.entries y → ⊥
not_both version names h shape e y same none alike follows =
    let P : Entry → Type 0 = λ x. IsInPlace shape.processes shape.registers h.entries x in
    let Q : Extent → Type 0 = λ s. IsInPlace s.processes s.registers h.entries e in
    none (subst Q (sym same) (subst P (sym alike) follows.1))

pub returns-in_default-clause-whole : goal.returns-in_default-clause-whole
returns-in_default-clause-whole g c = λ ys rest b.
    absurd (ended (entry_text c.args.names.now) (Follows c.args.version c.args.names.now c.args.history.now.shape) c.args.count c.args.lines.now.left c.loop-place.lines.left c.loop-place.history.entries c.loop-place._place c.loop-place-test.true c.loop-place.invariant.1 c.in_default.ensures.line ys rest b)

pub returns-in_default-read_entry-clause-whole : goal.returns-in_default-read_entry-clause-whole
returns-in_default-read_entry-clause-whole g c = λ ys rest b.
    absurd (refused (entry_text c.args.names.now) (Follows c.args.version c.args.names.now c.args.history.now.shape) c.args.count c.args.lines.now.left c.loop-place.lines.left c.loop-place.history.entries c.loop-place._place c.loop-place-test.true c.loop-place.invariant.1
    c.in-Some.line.now c.next.new.self.left c.in-Some.ensures.line (λ y follows e. let none = c.in_default-read_entry.ensures.whole y follows.0 e in absurd (cc)) ys rest b)

pub returns-in-Err-OutOfPlace-clause-whole : goal.returns-in-Err-OutOfPlace-clause-whole
returns-in-Err-OutOfPlace-clause-whole g c = λ ys rest b.
    let bad = (rw c.in-Err-OutOfPlace.field-0-is at c.in-Err-OutOfPlace.ensures) in
    absurd (refused (entry_text c.args.names.now) (Follows c.args.version c.args.names.now c.args.history.now.shape) c.args.count c.args.lines.now.left c.loop-place.lines.left c.loop-place.history.entries c.loop-place._place c.loop-place-test.true c.loop-place.invariant.1
    c.in-Some.line.now c.next.new.self.left c.in-Some.ensures.line
    (λ y follows e.
    let one = c.in-Some-read_entry.ensures.whole y follows.0 e in
    let alike : c.in-Some-read_entry.entry ≡ y = cc in
    not_both c.args.version c.args.names.now c.loop-place.history c.args.history.now.shape c.in-Some-read_entry.entry y c.loop-place.invariant.0 bad.0 alike follows) ys rest b)

pub loop-place-preserved : goal.loop-place-preserved
loop-place-preserved g c =
    let grows = c.in-Ok.ensures in
    let P : List Entry → Type 0 = λ l. Taken (entry_text c.args.names.now) (Follows c.args.version c.args.names.now c.args.history.now.shape) c.args.count c.args.lines.now.left c.next.new.self.left l (c.loop-place._place + 1) in (
      grows.shape ∙ c.loop-place.invariant.0,
      subst P (sym grows.entries) (steps (entry_text c.args.names.now) (Follows c.args.version c.args.names.now c.args.history.now.shape) c.args.count c.args.lines.now.left c.loop-place.lines.left c.loop-place.history.entries c.loop-place._place c.loop-place-test.true c.loop-place.invariant.1
          c.in-Some.line.now c.next.new.self.left c.in-Some-read_entry.entry c.in-Some.ensures.line c.in-Some-read_entry.ensures.read.0
          (c.in-Some-read_entry.ensures.read.1, at_shape c.loop-place.history c.args.history.now.shape c.in-Some-read_entry.entry c.loop-place.invariant.0 grows.in_place)
          (λ y follows e. let one = c.in-Some-read_entry.ensures.whole y follows.0 e in cc)),
      goes_on c.args.lines.now c.loop-place.lines c.next.new.self c.loop-place.invariant.2 (asked_on c.loop-place.lines c.next.new.self c.in-Some.line.now c.next.new.self.left c.next.ensures.asked c.in-Some.ensures.line),
    )

pub returns-clause-whole : goal.returns-clause-whole
returns-clause-whole g c = λ ys rest b.
    let n : c.loop-place._place ≡ c.args.count = omega arith in
    let P : ℕ → Type 0 = λ i. Taken (entry_text c.args.names.now) (Follows c.args.version c.args.names.now c.args.history.now.shape) c.args.count c.args.lines.now.left c.loop-place.lines.left c.loop-place.history.entries i in
    only_read (entry_text c.args.names.now) (Follows c.args.version c.args.names.now c.args.history.now.shape) c.args.count c.args.lines.now.left c.loop-place.lines.left c.loop-place.history.entries (subst P n c.loop-place.invariant.1) ys rest b

pub returns-in-Err-OutOfPlace-clause-read : goal.returns-in-Err-OutOfPlace-clause-read
returns-in-Err-OutOfPlace-clause-read g c = tt

pub loop-place-init : goal.loop-place-init
loop-place-init g c =
    let P : List Entry → Type 0 = λ l. Taken (entry_text c.args.names.now) (Follows c.args.version c.args.names.now c.args.history.now.shape) c.args.count c.args.lines.now.left c.args.lines.now.left l 0 in
    (refl, subst P (sym c.requires.empty) (begins (entry_text c.args.names.now) (Follows c.args.version c.args.names.now c.args.history.now.shape) c.args.count c.args.lines.now.left), stays c.args.lines.now)

pub returns-in_default-clause-read : goal.returns-in_default-clause-read
returns-in_default-clause-read g c = tt

pub returns-in_default-clause-shape : goal.returns-in_default-clause-shape
returns-in_default-clause-shape g c = tt

pub returns-in_default-read_entry-clause-read : goal.returns-in_default-read_entry-clause-read
returns-in_default-read_entry-clause-read g c = tt

pub returns-in_default-read_entry-clause-shape : goal.returns-in_default-read_entry-clause-shape
returns-in_default-read_entry-clause-shape g c = tt

pub returns-in-Err-OutOfPlace-clause-shape : goal.returns-in-Err-OutOfPlace-clause-shape
returns-in-Err-OutOfPlace-clause-shape g c = tt

pub returns-in-Err-OutOfMemory-clause-read : goal.returns-in-Err-OutOfMemory-clause-read
returns-in-Err-OutOfMemory-clause-read g c = tt

pub returns-in-Err-OutOfMemory-clause-shape : goal.returns-in-Err-OutOfMemory-clause-shape
returns-in-Err-OutOfMemory-clause-shape g c = tt

pub returns-in-Err-OutOfMemory-clause-whole : goal.returns-in-Err-OutOfMemory-clause-whole
returns-in-Err-OutOfMemory-clause-whole g c = λ ys rest b. refl

pub returns-clause-read : goal.returns-clause-read
returns-clause-read g c =
    let n : c.loop-place._place ≡ c.args.count = omega arith in
    let P : ℕ → Type 0 = λ i. Taken (entry_text c.args.names.now) (Follows c.args.version c.args.names.now c.args.history.now.shape) c.args.count c.args.lines.now.left c.loop-place.lines.left c.loop-place.history.entries i in
    all_read (entry_text c.args.names.now) (Follows c.args.version c.args.names.now c.args.history.now.shape) c.args.count c.args.lines.now.left c.loop-place.lines.left c.loop-place.history.entries (subst P n c.loop-place.invariant.1)

pub returns-clause-shape : goal.returns-clause-shape
returns-clause-shape g c = c.loop-place.invariant.0

pub returns-in_default-clause-stopped : goal.returns-in_default-clause-stopped
returns-in_default-clause-stopped g c =
    item_fails (entry_text c.args.names.now) (Follows c.args.version c.args.names.now c.args.history.now.shape) (IsNoNextEntry c.args.version c.args.names.now c.args.history.now.shape) c.args.count c.args.lines.now c.loop-place.lines c.next.new.self c.loop-place.history.entries c.loop-place._place c.loop-place-test.true c.loop-place.invariant.1 c.loop-place.invariant.2
    c.at_line.result End None c.at_line.ensures c.next.ensures.asked c.in_default.ensures.line refl

pub returns-in_default-read_entry-clause-stopped : goal.returns-in_default-read_entry-clause-stopped
returns-in_default-read_entry-clause-stopped g c =
    let why = c.why_entry.ensures in
    item_fails (entry_text c.args.names.now) (Follows c.args.version c.args.names.now c.args.history.now.shape) (IsNoNextEntry c.args.version c.args.names.now c.args.history.now.shape) c.args.count c.args.lines.now c.loop-place.lines c.next.new.self c.loop-place.history.entries c.loop-place._place c.loop-place-test.true c.loop-place.invariant.1 c.loop-place.invariant.2
    c.at_line-in_default-read_entry.result c.why_entry.result (Some c.in-Some.line.now) c.at_line-in_default-read_entry.ensures c.next.ensures.asked (c.next.new.self.left, c.in-Some.ensures.line)
    (inl (record {
      none = λ e fits same. let bad = c.in_default-read_entry.ensures.whole e fits same in absurd (cc);
      told = record { form = why.form; beyond = why.beyond; within = why.within };
    }))

pub returns-in-Err-OutOfPlace-clause-stopped : goal.returns-in-Err-OutOfPlace-clause-stopped
returns-in-Err-OutOfPlace-clause-stopped g c =
    let bad = (rw c.in-Err-OutOfPlace.field-0-is at c.in-Err-OutOfPlace.ensures) in
    let P : Extent → Type 0 = λ s. IsInPlace s.processes s.registers c.loop-place.history.entries c.in-Some-read_entry.entry in
    item_fails (entry_text c.args.names.now) (Follows c.args.version c.args.names.now c.args.history.now.shape) (IsNoNextEntry c.args.version c.args.names.now c.args.history.now.shape) c.args.count c.args.lines.now c.loop-place.lines c.next.new.self c.loop-place.history.entries c.loop-place._place c.loop-place-test.true c.loop-place.invariant.1 c.loop-place.invariant.2
    c.at_line-in-Err-OutOfPlace.result Place (Some c.in-Some.line.now) c.at_line-in-Err-OutOfPlace.ensures c.next.ensures.asked (c.next.new.self.left, c.in-Some.ensures.line)
    (inr (record {
      entry = c.in-Some-read_entry.entry;
      spelled = c.in-Some-read_entry.ensures.read.0;
      fits = c.in-Some-read_entry.ensures.read.1;
      misplaced = λ p. bad.0 (subst P (sym c.loop-place.invariant.0) p);
      told = refl;
    }))

pub returns-in-Err-OutOfMemory-clause-stopped : goal.returns-in-Err-OutOfMemory-clause-stopped
returns-in-Err-OutOfMemory-clause-stopped g c = inl refl

pub returns-clause-on : goal.returns-clause-on
returns-clause-on g c = c.loop-place.invariant.2
