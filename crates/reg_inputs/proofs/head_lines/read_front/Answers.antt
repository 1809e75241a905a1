use Rattle.std.proofs.Common.{ℕ, ◌≡◌, ◌==◌, not, true, List, ◌∷◌, ◌++◌, length, codes, refl, sym, ap, ◌∙◌, subst, rules}
use Rattle.std.specs.List.{list_all}
use Rattle.std.specs.Str.{IsUtf8}
use Rattle.reg_front.specs.declared.named.Front.{Front}
use Rattle.reg_front.specs.declared.named.Front.TheVariants.{Linear, LocalRead, LocalWrite}
use Rattle.reg_front.specs.Table.{front_name}
use Rattle.reg_text.specs.Words.{is_front_letter}
use Rattle.reg_text.proofs.NamesLack.{both_true}
use Rattle.reg_text.proofs.Texts.{letters_text}
use Rattle.reg_inputs.specs.LineForms.{is_front_form}
use Rattle.reg_inputs.proofs.head_lines.read_front.Goals as goal

name_is_text : (f : Front) → IsUtf8 (front_name f)
name_is_text Linear = letters_text (codes "linear") refl
name_is_text LocalRead = letters_text (codes "local-read") refl
name_is_text LocalWrite = letters_text (codes "local-write") refl

name_has_form : (f : Front) → is_front_form (front_name f) ≡ true
name_has_form Linear = refl
name_has_form LocalRead = refl
name_has_form LocalWrite = refl

form_is_text : (word : List ℕ) → is_front_form word ≡ true → IsUtf8 word
form_is_text word h = letters_text word (both_true (not (length word == 0)) (list_all is_front_letter word) h).1

pub returns-in-Some-from_name-clause-form : goal.returns-in-Some-from_name-clause-form
returns-in-Some-from_name-clause-form c = λ line rest e none.
    let both : c.in-Some.line.now ∷ c.next.new.self.left ≡ line ∷ rest = sym c.in-Some.ensures.line ∙ e in
    let first : c.in-Some.line.now ≡ line = cc in
    let named : front_name c.in-Some-from_name.front ≡ c.in-Some-skip.word.now = search rules in
    let good = ap is_front_form (sym named) ∙ name_has_form c.in-Some-from_name.front in
    let bad = none c.in-Some-skip.word.now (sym first ∙ c.in-Some-skip.ensures.read) in
    absurd (cc)

pub returns-in-Err-clause-name : goal.returns-in-Err-clause-name
returns-in-Err-clause-name c = λ w rest form e.
    let both : c.in-Some.line.now ∷ c.next.new.self.left ≡ (codes "front " ++ w) ∷ rest = sym c.in-Some.ensures.line ∙ e in
    let first : c.in-Some.line.now ≡ codes "front " ++ w = cc in
    let word : c.in-Some-skip.word.now ≡ w = c.in-Some-skip.ensures.whole w first in
    let P : List ℕ → Type 0 = λ l. IsUtf8 l in
    absurd (c.in-Err.ensures.cases.0 (subst P (sym word) (form_is_text w form)))

pub returns-in-Err-clause-whole : goal.returns-in-Err-clause-whole
returns-in-Err-clause-whole c = λ f rest e.
    let both : c.in-Some.line.now ∷ c.next.new.self.left ≡ (codes "front " ++ front_name f) ∷ rest = sym c.in-Some.ensures.line ∙ e in
    let first : c.in-Some.line.now ≡ codes "front " ++ front_name f = cc in
    let word : c.in-Some-skip.word.now ≡ front_name f = c.in-Some-skip.ensures.whole (front_name f) first in
    let P : List ℕ → Type 0 = λ l. IsUtf8 l in
    absurd (c.in-Err.ensures.cases.0 (subst P (sym word) (name_is_text f)))
