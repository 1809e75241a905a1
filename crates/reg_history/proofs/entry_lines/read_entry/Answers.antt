use Rattle.std.proofs.Common.{ℕ, ◌≡◌, true, List, ◌++◌, codes, Option, None, Some, option_map, refl, ap, ◌∙◌}
use Rattle.reg_base.specs.declared.memory.Answer.{Answer}
use Rattle.reg_base.specs.declared.memory.Op.{Op}
use Rattle.reg_checkers.specs.declared.entries.Entry.{Entry}
use Rattle.reg_checkers.specs.declared.entries.Entry.TheVariants.{Called, Answered}
use Rattle.reg_text.specs.Ops.{op_text, OpFits, answer_text}
use Rattle.reg_history.specs.declared.versions.Version.{Version}
use Rattle.reg_history.specs.Versions.{may_call, may_answer}
use Rattle.reg_history.specs.EntryLines.{columns_text, entry_text, AnswerFits, ColumnsFit, EntryFits}
use Rattle.reg_history.proofs.Tails.{no_answer}
use Rattle.reg_history.proofs.entry_lines.read_entry.Goals as goal

-- the line of an entry has columns
no_columns : {A : Type 0} (version : Version) (names : List (List ℕ)) (line : List ℕ)
    → ((at process number : ℕ) (rest : List ℕ) → ColumnsFit version at process number
    → ¬ (line ≡ columns_text at process number rest))
    → (e : Entry) → EntryFits version names e → line ≡ entry_text names e → A
no_columns version names line none (Called at id op) fits same =
    absurd (none at id.process id.number (codes "call    " ++ op_text names op) fits.0 same)
no_columns version names line none (Answered at id answer) fits same =
    absurd (none at id.process id.number (codes "answer  " ++ answer_text answer) fits.0 same)

-- what was read of the columns is what they say
abbrev AreColumns : Version → List ℕ → ℕ → ℕ → ℕ → List ℕ → Type 0
AreColumns version line at process number rest =
    (a p n : ℕ) (r : List ℕ) → ColumnsFit version a p n → line ≡ columns_text a p n r → (at ≡ a) × (process ≡ p) × (number ≡ n) × (rest ≡ r)

called : (version : Version) (names : List (List ℕ)) (line rest text : List ℕ) (at process number : ℕ)
    (read : Option Op)
    → AreColumns version line at process number rest → rest ≡ codes "call    " ++ text
    → ((r : List ℕ) → rest ≡ codes "call    " ++ r → text ≡ r) → ((op : Op) → OpFits names op → may_call version op ≡ true → text ≡ op_text names op → read ≡ Some op)
    → (e : Entry) → EntryFits version names e → line ≡ entry_text names e → option_map (λ op. Called at (record { process = process; number = number }) op) read ≡ Some e
called version names line rest text at process number read columns marked only whole (Called a id op) fits same =
    let told = columns a id.process id.number (codes "call    " ++ op_text names op) fits.0 same in
    let found = whole op fits.1 fits.2 (only (op_text names op) told.3) in
    rw (found, told.0, told.1, told.2) refl
called version names line rest text at process number read columns marked only whole (Answered a id answer) fits same =
    let told = columns a id.process id.number (codes "answer  " ++ answer_text answer) fits.0 same in
    absurd (no_answer rest text (answer_text answer) marked told.3)

answered : (version : Version) (names : List (List ℕ)) (line rest text : List ℕ) (at process number : ℕ)
    (read : Option Answer)
    → AreColumns version line at process number rest → ((r : List ℕ) → ¬ (rest ≡ codes "call    " ++ r))
    → ((r : List ℕ) → rest ≡ codes "answer  " ++ r → text ≡ r) → ((answer : Answer) → AnswerFits answer → may_answer version answer ≡ true → text ≡ answer_text answer → read ≡ Some answer)
    → (e : Entry) → EntryFits version names e → line ≡ entry_text names e → option_map (λ answer. Answered at (record { process = process; number = number }) answer) read ≡ Some e
answered version names line rest text at process number read columns none only whole (Called a id op) fits same =
    let told = columns a id.process id.number (codes "call    " ++ op_text names op) fits.0 same in
    absurd (none (op_text names op) told.3)
answered version names line rest text at process number read columns none only whole (Answered a id answer) fits same =
    let told = columns a id.process id.number (codes "answer  " ++ answer_text answer) fits.0 same in
    let found = whole answer fits.1 fits.2 (only (answer_text answer) told.3) in
    rw (found, told.0, told.1, told.2) refl

neither : {A : Type 0} (version : Version) (names : List (List ℕ)) (line rest : List ℕ) (at process number : ℕ)
    → AreColumns version line at process number rest → ((r : List ℕ) → ¬ (rest ≡ codes "call    " ++ r))
    → ((r : List ℕ) → ¬ (rest ≡ codes "answer  " ++ r))
    → (e : Entry) → EntryFits version names e → line ≡ entry_text names e → A
neither version names line rest at process number columns none other (Called a id op) fits same =
    let told = columns a id.process id.number (codes "call    " ++ op_text names op) fits.0 same in
    absurd (none (op_text names op) told.3)
neither version names line rest at process number columns none other (Answered a id answer) fits same =
    let told = columns a id.process id.number (codes "answer  " ++ answer_text answer) fits.0 same in
    absurd (other (answer_text answer) told.3)

pub returns-in_err-at-clause-whole : goal.returns-in_err-at-clause-whole
returns-in_err-at-clause-whole g c =
    λ e fits same. no_columns c.args.version c.args.names.now c.args.line.now c.in_err-at.ensures.whole e fits same

pub returns-in_err-op-clause-whole : goal.returns-in_err-op-clause-whole
returns-in_err-op-clause-whole g c = λ e fits same.
    c.from_residual-in_err-op.ensures ∙ called c.args.version c.args.names.now c.args.line.now c.in_ok-at.rest.now c.in-Some.text.now c.in_ok-at.at c.in_ok-at.process c.in_ok-at.number None c.in_ok-at.ensures.whole c.in-Some.ensures.read c.in-Some.ensures.whole c.in_err-op.ensures.whole e fits same

pub returns-in-Some-clause-read : goal.returns-in-Some-clause-read
returns-in-Some-clause-read g c = (
  c.in_ok-at.ensures.read.0 ∙ ap (λ l. columns_text c.in_ok-at.at c.in_ok-at.process c.in_ok-at.number l) (c.in-Some.ensures.read ∙ ap (λ l. codes "call    " ++ l) c.in_ok-op.ensures.read.0),
  (c.in_ok-at.ensures.read.1, c.in_ok-op.ensures.read.1, c.in_ok-op.ensures.read.2),
)

pub returns-in-Some-clause-whole : goal.returns-in-Some-clause-whole
returns-in-Some-clause-whole g c =
    called c.args.version c.args.names.now c.args.line.now c.in_ok-at.rest.now c.in-Some.text.now c.in_ok-at.at c.in_ok-at.process c.in_ok-at.number (Some c.in_ok-op.op) c.in_ok-at.ensures.whole c.in-Some.ensures.read c.in-Some.ensures.whole c.in_ok-op.ensures.whole

pub returns-in_err-text-clause-whole : goal.returns-in_err-text-clause-whole
returns-in_err-text-clause-whole g c = λ e fits same.
    neither c.args.version c.args.names.now c.args.line.now c.in_ok-at.rest.now c.in_ok-at.at c.in_ok-at.process c.in_ok-at.number c.in_ok-at.ensures.whole c.in_default.ensures.whole c.in_err-text.ensures.whole e fits same

pub returns-in_err-answer-clause-whole : goal.returns-in_err-answer-clause-whole
returns-in_err-answer-clause-whole g c = λ e fits same.
    c.from_residual-in_err-answer.ensures ∙ answered c.args.version c.args.names.now c.args.line.now c.in_ok-at.rest.now c.in_ok-text.text.now c.in_ok-at.at c.in_ok-at.process c.in_ok-at.number None c.in_ok-at.ensures.whole c.in_default.ensures.whole c.in_ok-text.ensures.whole c.in_err-answer.ensures.whole e fits same

pub returns-clause-read : goal.returns-clause-read
returns-clause-read g c = (
  c.in_ok-at.ensures.read.0 ∙ ap (λ l. columns_text c.in_ok-at.at c.in_ok-at.process c.in_ok-at.number l) (c.in_ok-text.ensures.read ∙ ap (λ l. codes "answer  " ++ l) c.in_ok-answer.ensures.read.0),
  (c.in_ok-at.ensures.read.1, c.in_ok-answer.ensures.read.1, c.in_ok-answer.ensures.read.2),
)

pub returns-clause-whole : goal.returns-clause-whole
returns-clause-whole g c =
    answered c.args.version c.args.names.now c.args.line.now c.in_ok-at.rest.now c.in_ok-text.text.now c.in_ok-at.at c.in_ok-at.process c.in_ok-at.number (Some c.in_ok-answer.answer) c.in_ok-at.ensures.whole c.in_default.ensures.whole c.in_ok-text.ensures.whole c.in_ok-answer.ensures.whole
