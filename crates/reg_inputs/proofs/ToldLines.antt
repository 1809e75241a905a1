-- What is told of texts of operations and of the lines of events.
use Rattle.std.proofs.Common.{ℕ, ◌≡◌, List, [], ◌∷◌, ◌++◌, codes, drop, refl, sym, ap, subst, ◌∙◌, arith, inl, inr}
use Rattle.std.proofs.Common.{Option, Some, None, IfSome, append-nil}
use Rattle.std.specs.Fmt.{decimal}
use Rattle.reg_base.specs.Names.{names_fault}
use Rattle.reg_text.specs.Forms.{IsReadForm, IsUpdateForm, IsCasForm, IsOpWhy}
use Rattle.reg_text.specs.Words.{names_text}
use Rattle.reg_text.proofs.Formed.{numeral_lacks, word_lacks}
use Rattle.reg_text.specs.declared.faults.Why.{Why}
use Rattle.reg_text.specs.declared.faults.Why.TheVariants.{Range, Name, Form as BadForm}
use Rattle.reg_inputs.specs.LineForms.{IsCallForm, IsTakeForm, IsTickForm, IsLineWhy, IsFurtherWhy}
use Rattle.reg_inputs.specs.declared.misfits.Rule.{Rule}
use Rattle.reg_inputs.specs.declared.misfits.Rule.TheVariants.{Form, Limits}
use Rattle.reg_inputs.specs.declared.misfits.Wanted.{Wanted}
use Rattle.reg_inputs.specs.declared.misfits.Wanted.TheVariants.{Value, Register}
use Rattle.reg_inputs.specs.declared.misfits.Misfit.{Misfit}
use Rattle.reg_inputs.specs.Misfits.{IsWanted, IsNumber, AreApart, AreWordsOf, IsOpBy, IsEventBy, IsMisfit, TellsMisfit}
use Rattle.reg_inputs.specs.Misfits.{GoesOn, first_of, why_of}
use Rattle.reg_inputs.specs.Arguments.{TakesArguments, AreOpWords, AreEventWords, TellsWords, IsArgumentsWhy}
use Rattle.reg_inputs.specs.Arguments.{IsOpWordsWhy, IsCallWordsWhy, IsEventWordsWhy}
use Rattle.reg_inputs.proofs.SpelledWords.{one_behind, two_behind, three_behind, words_of, one_words, op_read, op_whole}
use Rattle.reg_inputs.proofs.SpelledWords.{event_read, event_whole, text_misfit}

-- the text of such words is of this kind
text_is : (Is : List ℕ → Type 0) (Are : List (List ℕ) → Type 0) (text : List ℕ) (words : List (List ℕ))
    → ((words : List (List ℕ)) → Are words → (text : List ℕ) × Is text × AreWordsOf text words) → AreWordsOf text words
    → Are words → Is text
text_is Is Are text words read of are =
    let other = read words are in
    let P : List ℕ → Type 0 = λ l. Is l in
    subst P (ap (drop 1) (other.2.joined ∙ sym of.joined)) other.1

goes : (Is : List ℕ → Type 0) (text : List ℕ) (before after : List (List ℕ)) → AreWordsOf text (before ++ after)
    → Is text → GoesOn Is before (first_of after)
goes Is text before [] of is =
    let P : List (List ℕ) → Type 0 = λ l. AreWordsOf text l in (text, is, subst P (append-nil before) of)
goes Is text before (word ∷ after) of is = (text, after, is, of)

-- a text that doesn't fit is not of this kind
pub misfit_not : (Is : List ℕ → Type 0) (W : Option (List ℕ) → Type 0) (text : List ℕ) (place : ℕ)
    → IsMisfit Is W text place → Is text → ⊥
misfit_not Is W text place m is = m.wrong ((m.exact (first_of m.after)).0 (goes Is text m.before m.after m.words is))

-- what is told of the words of a text, by a rule
told_by : (Is : Rule → List ℕ → Type 0) (Are : Rule → List (List ℕ) → Type 0) (rule : Rule) (names : List (List ℕ))
    (text : List ℕ) (words : List (List ℕ)) (misfit : Misfit)
    → ((words : List (List ℕ)) → Are rule words → (text : List ℕ) × Is rule text × AreWordsOf text words) → ((text : List ℕ) (words : List (List ℕ)) → AreWordsOf text words → Is rule text → Are rule words) → AreWordsOf text words
    → TellsWords (Are rule) 0 rule names words (Some misfit) → (misfit.rule ≡ Limits → Is Form text) → TellsMisfit Is names text misfit
told_by Is Are rule names text words misfit read whole of told formed =
    let there = text_misfit (Is rule) (Are rule) (IsWanted rule names misfit.wanted) text words told.0 read whole of told.3 in
    let P : Rule → Type 0 = λ r. IsMisfit (Is r) (IsWanted r names misfit.wanted) text told.0 in
    let Q : ℕ → Type 0 = λ n. IsMisfit (Is misfit.rule) (IsWanted misfit.rule names misfit.wanted) text n in
    let place : told.0 ≡ misfit.word = omega (arith, told.1) in
    record { first = subst Q place (subst P (sym told.2) there); formed = formed }

form_is : (rule : Rule) → rule ≡ Form → {A : Type 0} → rule ≡ Limits → A
form_is rule a b = absurd (cc)

-- the form tells
pub op_form_tells : (names : List (List ℕ)) (text : List ℕ) (misfit : Misfit) → names_fault names ≡ None
    → TellsWords (AreOpWords Form names) 0 Form names (words_of text).0 (Some misfit)
    → TellsMisfit (IsOpBy names) names text misfit
op_form_tells names text misfit h told =
    told_by (IsOpBy names) (λ r ws. AreOpWords r names ws) Form names text (words_of text).0 misfit (λ ws are. op_read names Form ws h are) (λ t ws of is. op_whole names Form t ws h of is) (words_of text).1 told (form_is misfit.rule told.2)

-- the limits tell
pub op_limits_tell : (names : List (List ℕ)) (text : List ℕ) (misfit : Misfit) → names_fault names ≡ None
    → AreOpWords Form names (words_of text).0
    → TellsWords (AreOpWords Limits names) 0 Limits names (words_of text).0 (Some misfit)
    → TellsMisfit (IsOpBy names) names text misfit
op_limits_tell names text misfit h form told =
    let formed = text_is (IsOpBy names Form) (AreOpWords Form names) text (words_of text).0 (λ ws are. op_read names Form ws h are) (words_of text).1 form in
    told_by (IsOpBy names) (λ r ws. AreOpWords r names ws) Limits names text (words_of text).0 misfit (λ ws are. op_read names Limits ws h are) (λ t ws of is. op_whole names Limits t ws h of is) (words_of text).1 told (λ _. formed)

pub op_is : (names : List (List ℕ)) (text : List ℕ) → names_fault names ≡ None
    → AreOpWords Limits names (words_of text).0 → IsOpBy names Limits text
op_is names text h are = text_is (IsOpBy names Limits) (AreOpWords Limits names) text (words_of text).0 (λ ws a. op_read names Limits ws h a) (words_of text).1 are

pub event_form_tells : (names : List (List ℕ)) (text : List ℕ) (misfit : Misfit) → names_fault names ≡ None
    → TellsWords (AreEventWords Form names) 0 Form names (words_of text).0 (Some misfit)
    → TellsMisfit (IsEventBy names) names text misfit
event_form_tells names text misfit h told =
    told_by (IsEventBy names) (λ r ws. AreEventWords r names ws) Form names text (words_of text).0 misfit (λ ws are. event_read names Form ws h are) (λ t ws of is. event_whole names Form t ws h of is) (words_of text).1 told (form_is misfit.rule told.2)

pub event_limits_tell : (names : List (List ℕ)) (text : List ℕ) (misfit : Misfit) → names_fault names ≡ None
    → AreEventWords Form names (words_of text).0
    → TellsWords (AreEventWords Limits names) 0 Limits names (words_of text).0 (Some misfit)
    → TellsMisfit (IsEventBy names) names text misfit
event_limits_tell names text misfit h form told =
    let formed = text_is (IsEventBy names Form) (AreEventWords Form names) text (words_of text).0 (λ ws are. event_read names Form ws h are) (words_of text).1 form in
    told_by (IsEventBy names) (λ r ws. AreEventWords r names ws) Limits names text (words_of text).0 misfit (λ ws are. event_read names Limits ws h are) (λ t ws of is. event_whole names Limits t ws h of is) (words_of text).1 told (λ _. formed)

pub event_is : (names : List (List ℕ)) (text : List ℕ) → names_fault names ≡ None
    → AreEventWords Limits names (words_of text).0 → IsEventBy names Limits text
event_is names text h are = text_is (IsEventBy names Limits) (AreEventWords Limits names) text (words_of text).0 (λ ws a. event_read names Limits ws h a) (words_of text).1 are

-- what the limits tell of a text that has the form
pub op_by_limits : (names : List (List ℕ)) (text : List ℕ) (r : Option Misfit) → names_fault names ≡ None
    → AreOpWords Form names (words_of text).0 → TellsWords (AreOpWords Limits names) 0 Limits names (words_of text).0 r
    → (r ≡ None → IsOpBy names Limits text) × IfSome r (TellsMisfit (IsOpBy names) names text)
op_by_limits names text None h form told = (λ _. op_is names text h told, tt)
op_by_limits names text (Some misfit) h form told = (λ is. absurd (cc), op_limits_tell names text misfit h form told)

pub event_by_limits : (names : List (List ℕ)) (text : List ℕ) (r : Option Misfit) → names_fault names ≡ None
    → AreEventWords Form names (words_of text).0
    → TellsWords (AreEventWords Limits names) 0 Limits names (words_of text).0 r
    → (r ≡ None → IsEventBy names Limits text) × IfSome r (TellsMisfit (IsEventBy names) names text)
event_by_limits names text None h form told = (λ _. event_is names text h told, tt)
event_by_limits names text (Some misfit) h form told =
    (λ is. absurd (cc), event_limits_tell names text misfit h form told)

-- why a line is refused whose form tells
pub form_why : (names : List (List ℕ)) (line : List ℕ) (misfit : Misfit) → misfit.rule ≡ Form
    → TellsMisfit (IsEventBy names) names line misfit → IsLineWhy names line (why_of misfit.rule misfit.wanted)
form_why names line misfit is told =
    let why : why_of misfit.rule misfit.wanted ≡ BadForm = ap (λ r. why_of r misfit.wanted) is in
    let P : Rule → Type 0 = λ r. IsMisfit (IsEventBy names r) (IsWanted r names misfit.wanted) line misfit.word in
    record {
      form = λ none. why;
      within = λ formed. absurd (misfit_not (IsEventBy names Form) (IsWanted Form names misfit.wanted) line misfit.word (subst P is told.first) formed);
    }

one_name : (names : List (List ℕ)) (text : List ℕ) (words : List (List ℕ)) (why : Why) (w : List ℕ)
    (arguments : List Wanted) (more : List (List ℕ))
    → AreWordsOf text words → IsOpWordsWhy names words why → text ≡ w ++ names_text more → AreApart (w ∷ more)
    → TakesArguments w arguments
    → IsArgumentsWhy names arguments more why
one_name names text words why w arguments more of told e apart t =
    let other : AreWordsOf text (w ∷ more) = record { joined = ap (λ l. 32 ∷ l) e; apart = apart } in
    told w more arguments (one_words text words (w ∷ more) of other) t

read_why : (names : List (List ℕ)) (text : List ℕ) (words : List (List ℕ)) (why : Why) (n : List ℕ)
    → AreWordsOf text words → IsOpWordsWhy names words why → IsReadForm text n → why ≡ Name
read_why names text words why n of told h = one_name names text words why (codes "read") (Register ∷ []) (n ∷ []) of told (h.1 ∙ ap (λ l. codes "read" ++ l) (sym (one_behind n))) (refl, (word_lacks n h.0, tt)) (inl (refl, refl))

update_why : (names : List (List ℕ)) (text : List ℕ) (words : List (List ℕ)) (why : Why) (n d : List ℕ)
    → AreWordsOf text words → IsOpWordsWhy names words why → IsUpdateForm text n d
    → IsArgumentsWhy names (Register ∷ Value ∷ []) (n ∷ d ∷ []) why
update_why names text words why n d of told (inl h) =
    one_name names text words why (codes "write") (Register ∷ Value ∷ []) (n ∷ d ∷ []) of told (h.2 ∙ ap (λ l. codes "write" ++ l) (sym (two_behind n d))) (refl, (word_lacks n h.0, (numeral_lacks 32 d (omega arith) h.1, tt))) (inr (inl (inl refl, refl)))
update_why names text words why n d of told (inr h) =
    one_name names text words why (codes "swap") (Register ∷ Value ∷ []) (n ∷ d ∷ []) of told (h.2 ∙ ap (λ l. codes "swap" ++ l) (sym (two_behind n d))) (refl, (word_lacks n h.0, (numeral_lacks 32 d (omega arith) h.1, tt))) (inr (inl (inr refl, refl)))

cas_why : (names : List (List ℕ)) (text : List ℕ) (words : List (List ℕ)) (why : Why) (n x d : List ℕ)
    → AreWordsOf text words → IsOpWordsWhy names words why → IsCasForm text n x d
    → IsArgumentsWhy names (Register ∷ Value ∷ Value ∷ []) (n ∷ x ∷ d ∷ []) why
cas_why names text words why n x d of told h =
    one_name names text words why (codes "cas") (Register ∷ Value ∷ Value ∷ []) (n ∷ x ∷ d ∷ []) of told (h.3 ∙ ap (λ l. codes "cas" ++ l) (sym (three_behind n x d)))
    (refl, (word_lacks n h.0, (numeral_lacks 32 x (omega arith) h.1, (numeral_lacks 32 d (omega arith) h.2, tt)))) (inr (inr (refl, refl)))

op_why_of : (names : List (List ℕ)) (text : List ℕ) (words : List (List ℕ)) (why : Why) → AreWordsOf text words
    → IsOpWordsWhy names words why → IsOpWhy names text why
op_why_of names text words why of told = record {
  read = λ n h. read_why names text words why n of told h;
  known = λ n d i h e. (update_why names text words why n d of told h).0 i e;
  unknown = λ n d h none. (update_why names text words why n d of told h).1 none;
  known_cas = λ n x d i h e. (cas_why names text words why n x d of told h).0 i e;
  unknown_cas = λ n x d h none. (cas_why names text words why n x d of told h).1 none;
}

event_words_why : (names : List (List ℕ)) (line : List ℕ) (words : List (List ℕ)) (why : Why) (w : List ℕ)
    (more : List (List ℕ))
    → AreWordsOf line words → IsEventWordsWhy names words why → line ≡ w ++ names_text more → AreApart (w ∷ more)
    → (w ≡ codes "call" → IsCallWordsWhy names more why) × (w ≡ codes "take" → why ≡ Range) × (w ≡ codes "tick" → why ≡ Range)
event_words_why names line words why w more of told e apart =
    let other : AreWordsOf line (w ∷ more) = record { joined = ap (λ l. 32 ∷ l) e; apart = apart } in
    told w more (one_words line words (w ∷ more) of other)

call_why_of : (names : List (List ℕ)) (line : List ℕ) (words : List (List ℕ)) (why : Why) (process text : List ℕ)
    → AreWordsOf line words → IsEventWordsWhy names words why → IsCallForm line process text
    → (IsNumber Limits 255 process → IsOpWhy names text why) × ((¬ IsNumber Limits 255 process) → why ≡ Range)
call_why_of names line words why process text of told h =
    let more = words_of text in
    let all = event_words_why names line words why (codes "call") (process ∷ more.0) of told (h.2 ∙ ap (λ l. codes "call" ++ 32 ∷ (process ++ l)) more.1.joined) (refl, (numeral_lacks 32 process (omega arith) h.0, more.1.apart)) in
    let behind = all.0 refl process more.0 refl in
    (λ within. op_why_of names text more.0 why more.1 (behind.0 within), behind.1)

take_why_of : (names : List (List ℕ)) (line : List ℕ) (words : List (List ℕ)) (why : Why) (a b c : List ℕ)
    → AreWordsOf line words → IsEventWordsWhy names words why → IsTakeForm line a b c → why ≡ Range
take_why_of names line words why a b c of told h =
    (event_words_why names line words why (codes "take") (a ∷ b ∷ c ∷ []) of told (h.3 ∙ ap (λ l. codes "take" ++ l) (sym (three_behind a b c)))
    (refl, (numeral_lacks 32 a (omega arith) h.0, (numeral_lacks 32 b (omega arith) h.1, (numeral_lacks 32 c (omega arith) h.2, tt))))).1 refl

tick_why_of : (names : List (List ℕ)) (line : List ℕ) (words : List (List ℕ)) (why : Why) (a : List ℕ)
    → AreWordsOf line words → IsEventWordsWhy names words why → IsTickForm line a → why ≡ Range
tick_why_of names line words why a of told h =
    (event_words_why names line words why (codes "tick") (a ∷ []) of told (h.1 ∙ ap (λ l. codes "tick" ++ l) (sym (one_behind a))) (refl, (numeral_lacks 32 a (omega arith) h.0, tt))).2 refl

-- why a line is refused that has the form
pub limits_why : (names : List (List ℕ)) (line : List ℕ) (why : Why) → names_fault names ≡ None
    → AreEventWords Form names (words_of line).0 → IsEventWordsWhy names (words_of line).0 why
    → IsLineWhy names line why
limits_why names line why h form told =
    let words = words_of line in
    let formed = text_is (IsEventBy names Form) (AreEventWords Form names) line words.0 (λ ws a. event_read names Form ws h a) words.1 form in
    record {
      form = λ none. absurd (none formed);
      within = λ _. record {
        formed = formed;
        call = λ p text few is. (call_why_of names line words.0 why (decimal p) text words.1 told is).0 (p, few, refl);
        beyond = λ process text none is. (call_why_of names line words.0 why process text words.1 told is).1 (λ within. none within.0 within.1 within.2);
        take = λ a b c is. take_why_of names line words.0 why a b c words.1 told is;
        tick = λ a is. tick_why_of names line words.0 why a words.1 told is;
      };
    }

pub limits_why_some : (names : List (List ℕ)) (line : List ℕ) (r : Option Misfit) → names_fault names ≡ None
    → AreEventWords Form names (words_of line).0
    → TellsWords (AreEventWords Limits names) 0 Limits names (words_of line).0 r
    → IfSome r (λ m. IsEventWordsWhy names (words_of line).0 (why_of Limits m.wanted)) → IfSome r (λ m. IsLineWhy names line (why_of m.rule m.wanted))
limits_why_some names line None h form told why = tt
limits_why_some names line (Some misfit) h form told why =
    let P : Rule → Type 0 = λ r. IsLineWhy names line (why_of r misfit.wanted) in
    subst P (sym told.2) (limits_why names line (why_of Limits misfit.wanted) h form why)

-- why a further line is refused
pub further_form : (names : List (List ℕ)) (line : List ℕ) (misfit : Misfit) → names_fault names ≡ None
    → TellsWords (AreEventWords Form names) 0 Form names (words_of line).0 (Some misfit) → IsFurtherWhy line BadForm
further_form names line misfit h told =
    let P : Rule → Type 0 = λ r. IsMisfit (IsEventBy names r) (IsWanted r names misfit.wanted) line misfit.word in
    let first = (event_form_tells names line misfit h told).first in
    record { form = λ none. refl; further = λ formed. absurd (misfit_not (IsEventBy names Form) (IsWanted Form names misfit.wanted) line misfit.word (subst P told.2 first) formed) }

pub further_formed : (names : List (List ℕ)) (line : List ℕ) → names_fault names ≡ None
    → AreEventWords Form names (words_of line).0 → IsFurtherWhy line Range
further_formed names line h are =
    let formed = text_is (IsEventBy names Form) (AreEventWords Form names) line (words_of line).0 (λ ws a. event_read names Form ws h a) (words_of line).1 are in
    record { form = λ none. absurd (none formed); further = λ _. refl }
