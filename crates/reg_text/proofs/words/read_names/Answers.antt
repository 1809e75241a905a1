use Rattle.std.proofs.Common.{ℕ, ◌≡◌, ◌⊎◌, List, [], ◌∷◌, ◌++◌, codes, length, get_or, sym, ap, ◌∙◌, inl, inr, take}
use Rattle.std.proofs.Common.{drop, arith}
use Rattle.std.proofs.lemmas.Option.{none-some}
use Rattle.std.proofs.lemmas.List.{take_all}
use Rattle.reg_base.specs.Names.{texts, names_fault}
use Rattle.reg_text.specs.declared.faults.TextFault.{TextFault}
use Rattle.reg_text.specs.declared.faults.TextFault.TheVariants.{Line, OutOfMemory}
use Rattle.reg_text.specs.declared.faults.Why.{Why}
use Rattle.reg_text.specs.declared.faults.Why.TheVariants.{Form, Name, End}
use Rattle.reg_text.specs.Words.{names_text, HasWords, IsNamesWhy}
use Rattle.reg_text.specs.WordsFaults.{IsWordsWhy}
use Rattle.reg_text.specs.declared.words.WordsFault.TheVariants.{Why as OfWords, OutOfMemory as NoMemory}
use Rattle.reg_text.proofs.words.read_names.Goals as goal

no_lines : {A : Type 0} {line : List ℕ} {rest : List (List ℕ)} → [] ≡ line ∷ rest → A
no_lines e = absurd (omega (arith, ap length e))

-- what is told of a line whose words may be wrong
told_form : (why told : Why) (n : ℕ) (f : TextFault) (text line : List ℕ)
    → (told ≡ Form) ⊎ ((told ≡ why) × HasWords text) → f ≡ Line n told → line ≡ codes "registers" ++ text
    → ((t : List ℕ) → HasWords t → ¬ (line ≡ codes "registers" ++ t)) → (f ≡ OutOfMemory) ⊎ (f ≡ Line n Form)
told_form why told n f text line (inl form) is e none = inr (is ∙ ap (Line n) form)
told_form why told n f text line (inr p) is e none = absurd (none text p.1 e)

pub returns-in_default-clause-whole : goal.returns-in_default-clause-whole
returns-in_default-clause-whole g c = λ ns rest ok few e. no_lines (sym c.in_default.ensures.line ∙ e)

pub returns-in_default-clause-words : goal.returns-in_default-clause-words
returns-in_default-clause-words g c = λ ws rest are e. no_lines (sym c.in_default.ensures.line ∙ e)

pub returns-in_default-clause-form : goal.returns-in_default-clause-form
returns-in_default-clause-form g c = λ line rest e none. no_lines (sym c.in_default.ensures.line ∙ e)

pub returns-in_default-clause-fault : goal.returns-in_default-clause-fault
returns-in_default-clause-fault g c = inr (End, c.fault.ensures)

pub returns-in_default-skip-clause-whole : goal.returns-in_default-skip-clause-whole
returns-in_default-skip-clause-whole g c = λ ns rest ok few e.
    absurd (c.in_default-skip.ensures.whole (names_text ns) (ap (λ l. get_or l 0 []) (sym c.in-Some.ensures.line ∙ e)))

pub returns-in_default-skip-clause-words : goal.returns-in_default-skip-clause-words
returns-in_default-skip-clause-words g c = λ ws rest are e.
    absurd (c.in_default-skip.ensures.whole (names_text ws) (ap (λ l. get_or l 0 []) (sym c.in-Some.ensures.line ∙ e)))

pub returns-in_default-skip-clause-form : goal.returns-in_default-skip-clause-form
returns-in_default-skip-clause-form g c = λ line rest e none. inr c.fault-in_default-skip.ensures

pub returns-in_default-skip-clause-end : goal.returns-in_default-skip-clause-end
returns-in_default-skip-clause-end g c = λ e. no_lines (sym e ∙ c.in-Some.ensures.line)

pub returns-in_default-skip-clause-fault : goal.returns-in_default-skip-clause-fault
returns-in_default-skip-clause-fault g c = inr (Form, c.fault-in_default-skip.ensures)

not_memory : {A : Type 0} (why : Why) → OfWords why ≡ NoMemory → A
not_memory why e = absurd (cc)

-- what is told of words that are refused
told_words : (limit : ℕ) (ws : List (List ℕ)) (why told : Why) (n : ℕ) (f : TextFault)
    → (OfWords why ≡ NoMemory) ⊎ IsWordsWhy limit ws (OfWords why) → told ≡ why → f ≡ Line n told
    → (f ≡ OutOfMemory) ⊎ ((any : Why) × IsNamesWhy limit ws any × (f ≡ Line n any))
told_words limit ws why told n f (inl e) same is = not_memory why e
told_words limit ws why told n f (inr here) same is = inr (why, here, is ∙ ap (Line n) same)

pub returns-in-Ok-new-clause-read : goal.returns-in-Ok-new-clause-read
returns-in-Ok-new-clause-read g c =
    let made = c.in-Ok-new.ensures in
    (c.in-Some.ensures.line ∙ ap (λ l. l ∷ c.next.new.self.left) (c.in-Some-skip.ensures.read ∙ ap (λ l. codes "registers" ++ l) (c.in-Ok.ensures.read.0 ∙ ap names_text (sym made.0))), ap names_fault made.0 ∙ made.1)

pub returns-in-Ok-new-clause-few : goal.returns-in-Ok-new-clause-few
returns-in-Ok-new-clause-few g c =
    let size = ap length c.in-Ok-new.ensures.0 in omega (arith, size, c.in-Ok.ensures.read.1)

pub returns-in-Ok-new-clause-whole : goal.returns-in-Ok-new-clause-whole
returns-in-Ok-new-clause-whole g c = λ ns rest ok few e.
    let both = sym c.in-Some.ensures.line ∙ e in
    let text = c.in-Some-skip.ensures.whole (names_text ns) (ap (λ l. get_or l 0 []) both) in
    (c.in-Ok-new.ensures.0 ∙ c.in-Ok.ensures.whole ns ok few text, ap (drop 1) both)

pub returns-in-Err-Why-clause-whole : goal.returns-in-Err-Why-clause-whole
returns-in-Err-Why-clause-whole g c = λ ns rest ok few e.
    let text = c.in-Some-skip.ensures.whole (names_text ns) (ap (λ l. get_or l 0 []) (sym c.in-Some.ensures.line ∙ e)) in
    let refused = c.in-Err-Why.ensures.whole ns ok few text in
    not_memory c.in-Err-Why.why (rw c.in-Err-Why.field-0-is at refused)

pub returns-in-Err-Why-clause-words : goal.returns-in-Err-Why-clause-words
returns-in-Err-Why-clause-words g c = λ ws rest are e.
    let text = c.in-Some-skip.ensures.whole (names_text ws) (ap (λ l. get_or l 0 []) (sym c.in-Some.ensures.line ∙ e)) in
    let refused = c.in-Err-Why.ensures.words ws are.1 text in
    told_words c.args.limit ws c.in-Err-Why.why c.why_names-in-Err-Why.result c.next.new.self.number c.fault-in-Err-Why.result (rw c.in-Err-Why.field-0-is at refused) (c.why_names-in-Err-Why.ensures.words ws are text) c.fault-in-Err-Why.ensures

pub returns-in-Ok-new-clause-end : goal.returns-in-Ok-new-clause-end
returns-in-Ok-new-clause-end g c = λ e. no_lines (sym e ∙ c.in-Some.ensures.line)

pub returns-in-Err-clause-form : goal.returns-in-Err-clause-form
returns-in-Err-clause-form g c = λ line rest e none.
    told_form Name c.why_names.result c.next.new.self.number c.fault-in-Err.result c.in-Some-skip.text.now line c.why_names.ensures.form c.fault-in-Err.ensures (ap (λ l. get_or l 0 []) (sym e ∙ c.in-Some.ensures.line) ∙ c.in-Some-skip.ensures.read) none

pub returns-in-Err-clause-end : goal.returns-in-Err-clause-end
returns-in-Err-clause-end g c = λ e. no_lines (sym e ∙ c.in-Some.ensures.line)

pub returns-in-Err-clause-fault : goal.returns-in-Err-clause-fault
returns-in-Err-clause-fault g c = inr (c.why_names.result, c.fault-in-Err.ensures)

pub returns-in-Err-Why-clause-form : goal.returns-in-Err-Why-clause-form
returns-in-Err-Why-clause-form g c = λ line rest e none.
    told_form _ c.why_names-in-Err-Why.result c.next.new.self.number c.fault-in-Err-Why.result c.in-Some-skip.text.now line c.why_names-in-Err-Why.ensures.form c.fault-in-Err-Why.ensures (ap (λ l. get_or l 0 []) (sym e ∙ c.in-Some.ensures.line) ∙ c.in-Some-skip.ensures.read) none

pub returns-in-Err-Why-clause-end : goal.returns-in-Err-Why-clause-end
returns-in-Err-Why-clause-end g c = λ e. no_lines (sym e ∙ c.in-Some.ensures.line)

pub returns-in-Err-Why-clause-fault : goal.returns-in-Err-Why-clause-fault
returns-in-Err-Why-clause-fault g c = inr (c.why_names-in-Err-Why.result, c.fault-in-Err-Why.ensures)

pub returns-in-Err-OutOfMemory-clause-end : goal.returns-in-Err-OutOfMemory-clause-end
returns-in-Err-OutOfMemory-clause-end g c = λ e. no_lines (sym e ∙ c.in-Some.ensures.line)

pub returns-in-Err-clause-whole : goal.returns-in-Err-clause-whole
returns-in-Err-clause-whole g c = λ ns rest ok few e.
    let same : c.in-Some.line.now ≡ codes "registers" ++ names_text ns = ap (λ l. get_or l 0 []) (sym c.in-Some.ensures.line ∙ e) in
    let words : texts c.in-Ok.words.items ≡ ns = c.in-Ok.ensures.whole ns ok few (c.in-Some-skip.ensures.whole (names_text ns) same) in
    absurd (none-some _ (sym ok ∙ ap names_fault (sym words) ∙ c.in-Err.ensures))

pub returns-in-Err-clause-words : goal.returns-in-Err-clause-words
returns-in-Err-clause-words g c = λ ws rest are e.
    let same : c.in-Some.line.now ≡ codes "registers" ++ names_text ws = ap (λ l. get_or l 0 []) (sym c.in-Some.ensures.line ∙ e) in
    let text = c.in-Some-skip.ensures.whole (names_text ws) same in
    let words : texts c.in-Ok.words.items ≡ ws = c.in-Ok.ensures.words ws are.1 text in
    let all = take_all c.args.limit (texts c.in-Ok.words.items) c.in-Ok.ensures.read.1 in
    inr (Name, λ none. absurd (none-some _ (sym none ∙ ap (λ l. names_fault (take c.args.limit l)) (sym words) ∙ ap names_fault all ∙ c.in-Err.ensures)), c.fault-in-Err.ensures ∙ ap (Line c.next.new.self.number) (c.why_names.ensures.words ws are text))
