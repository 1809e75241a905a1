-- What is told of words, and why they are refused.
use Rattle.std.proofs.Common.{ℕ, suc, ◌≡◌, ◌≢◌, ◌+◌, Bool, false, IsTrue, List, [], ◌∷◌, ◌++◌, codes, drop, refl, sym}
use Rattle.std.proofs.Common.{ap, subst, ◌∙◌, arith, inl, inr, Option, Some, None, IfSome, length-append}
use Rattle.reg_base.specs.Names.{names_fault}
use Rattle.reg_text.specs.Parts.{Lacks}
use Rattle.reg_text.specs.Reading.{Starts}
use Rattle.reg_text.specs.Words.{names_text}
use Rattle.reg_text.specs.declared.faults.Why.TheVariants.{Range}
use Rattle.reg_text.proofs.Worded.{starts}
use Rattle.reg_text.proofs.Formed.{first_same}
use Rattle.reg_inputs.specs.declared.misfits.Rule.{Rule}
use Rattle.reg_inputs.specs.declared.misfits.Rule.TheVariants.{Form, Limits}
use Rattle.reg_inputs.specs.declared.misfits.Wanted.{Wanted}
use Rattle.reg_inputs.specs.declared.misfits.Wanted.TheVariants.{Event, Operation, Process, Value, Register}
use Rattle.reg_inputs.specs.declared.misfits.Misfit.{Misfit}
use Rattle.reg_inputs.specs.Misfits.{IsWanted, IsEventWord, IsOperationWord, IsNumber, AreApart, AreWordsOf, first_of}
use Rattle.reg_inputs.specs.Misfits.{why_of}
use Rattle.reg_inputs.specs.Arguments.{FitAll, IsStop, Stops, next_of, TakesArguments, AreOpWords, AreCallWords}
use Rattle.reg_inputs.specs.Arguments.{AreEventWords, IsWordMisfit, TellsWords, IsArgumentsWhy, IsOpWordsWhy}
use Rattle.reg_inputs.specs.Arguments.{IsCallWordsWhy, IsEventWordsWhy, take_arguments, tick_arguments}
use Rattle.reg_inputs.proofs.Fitting.{cut_same, fit_length}
use Rattle.reg_inputs.proofs.WordMisfits.{stop_word, takes_one, takes_plain, op_word, op_behind, op_here, call_behind}
use Rattle.reg_inputs.proofs.WordMisfits.{event_called, event_taken, event_ticked, called, taken, ticked}

-- the words of a text, by the first of them
pub record IsCutWord (all : List (List ℕ)) (word behind : List ℕ) : Type 0 where
  pub more : List (List ℕ)
  pub words : all ≡ word ∷ more
  pub rest : behind ≡ names_text more
  pub apart : AreApart more

pub next_cut : (words : List (List ℕ)) (word rest : List ℕ) → AreApart words → names_text words ≡ 32 ∷ (word ++ rest)
    → Lacks 32 word → Starts 32 rest → IsCutWord words word rest
next_cut [] word rest apart e lack s = absurd (cc)
next_cut (a ∷ words) word rest apart e lack s =
    let both = cut_same a word (names_text words) rest apart.0 lack (starts words) s (ap (drop 1) e) in
    record { more = words; words = ap (λ l. l ∷ words) both.0; rest = sym both.1; apart = apart.1 }

pub first_cut : (text : List ℕ) (words : List (List ℕ)) (word rest : List ℕ) → AreWordsOf text words
    → text ≡ word ++ rest → Lacks 32 word × Starts 32 rest → IsCutWord words word rest
first_cut text words word rest of e cut =
    next_cut words word rest of.apart (sym of.joined ∙ ap (λ l. 32 ∷ l) e) cut.0 cut.1

-- what is told of the words behind the one of an operation is told of all
pub op_told : (before : ℕ) (rule : Rule) (names : List (List ℕ)) (word : List ℕ) (arguments : List Wanted)
    (words more : List (List ℕ)) (r : Option Misfit)
    → names_fault names ≡ None → words ≡ word ∷ more → TakesArguments word arguments
    → Stops (before + 1) rule names arguments more r → TellsWords (AreOpWords rule names) before rule names words r
op_told before rule names word arguments words more None h is t stops =
    let P : List (List ℕ) → Type 0 = λ l. AreOpWords rule names l in subst P (sym is) (arguments, t, stops)
op_told before rule names word arguments words more (Some misfit) h is t stops =
    let m = stop_word (before + 1) rule names arguments more misfit h (takes_plain word arguments t) stops in
    let P : List (List ℕ) → Type 0 = λ l. IsWordMisfit (AreOpWords rule names) (IsWanted rule names misfit.wanted) l (suc m.0) in
    (suc m.0, omega (arith, m.1), m.2, subst P (sym is) (op_behind rule names (IsWanted rule names misfit.wanted) word arguments more m.0 t m.3))

abbrev pub AreNumbers : List Wanted → Type 0
AreNumbers [] = Unit {0}
AreNumbers (wanted ∷ more) = (why_of Limits wanted ≡ Range) × AreNumbers more

numbers_left : (done : List Wanted) (x : Wanted) (more : List Wanted) → AreNumbers (done ++ x ∷ more)
    → why_of Limits x ≡ Range
numbers_left [] x more are = are.0
numbers_left (d ∷ done) x more are = numbers_left done x more are.1

-- words that have the form, and stop within the limits, stop at one of the arguments
some_left : (names : List (List ℕ)) (done left : List Wanted) (before after : List (List ℕ))
    → FitAll Limits names done before → FitAll Form names (done ++ left) (before ++ after)
    → ¬ IsWanted Limits names (next_of left) (first_of after)
    → (x : Wanted) × (more : List Wanted) × (left ≡ x ∷ more)
some_left names done [] before [] fit form wrong = absurd (wrong tt)
some_left names done [] before (a ∷ after) fit form wrong =
    let short = fit_length Limits names done before fit in
    let long = fit_length Form names (done ++ []) (before ++ a ∷ after) form in
    absurd (omega (arith, short, long, length-append before (a ∷ after), length-append done []))
some_left names done (x ∷ more) before after fit form wrong = (x, more, refl)

pub numbers_why : (skipped : ℕ) (names : List (List ℕ)) (all : List Wanted) (words : List (List ℕ)) (misfit : Misfit)
    → AreNumbers all → IsStop skipped Limits names all words misfit → FitAll Form names all words
    → why_of Limits misfit.wanted ≡ Range
numbers_why skipped names all words misfit are s form =
    let P : List Wanted → Type 0 = λ l. FitAll Form names l (s.before ++ s.after) in
    let Q : List (List ℕ) → Type 0 = λ l. FitAll Form names all l in
    let left = some_left names s.done s.left s.before s.after s.fit (subst P s.arguments (subst Q s.words form)) s.wrong in
    let R : List Wanted → Type 0 = λ l. AreNumbers l in
    ap (why_of Limits) (s.wanted ∙ ap next_of left.2) ∙ numbers_left s.done left.0 left.1 (subst R (s.arguments ∙ ap (λ l. s.done ++ l) left.2) are)

-- a name and numbers
named_why : (names : List (List ℕ)) (tail done : List Wanted) (x : Wanted) (more : List Wanted)
    (words before after : List (List ℕ)) (wanted : Wanted)
    → AreNumbers tail → Register ∷ tail ≡ done ++ x ∷ more → words ≡ before ++ after
    → FitAll Limits names done before → wanted ≡ x → ¬ IsWanted Limits names x (first_of after) → IsArgumentsWhy names (Register ∷ tail) words (why_of Limits wanted)
named_why names [] [] x more words before after wanted are all is fit same wrong =
    let one : x ≡ Register = cc in ap (why_of Limits) (same ∙ one)
named_why names [] (d ∷ []) x more words before after wanted are all is fit same wrong = absurd (cc)
named_why names [] (d ∷ e ∷ done) x more words before after wanted are all is fit same wrong = absurd (cc)
named_why names (t ∷ tail) done x more [] before after wanted are all is fit same wrong = tt
named_why names (t ∷ tail) [] x more (name ∷ words) before after wanted are all is fit same wrong =
    let one : x ≡ Register = cc in
    let here : after ≡ name ∷ words = sym (is ∙ ap (λ l. l ++ after) fit) in
    let P : Wanted → Type 0 = λ w. ¬ IsWanted Limits names w (first_of after) in
    let Q : List (List ℕ) → Type 0 = λ l. ¬ IsWanted Limits names Register (first_of l) in
    let none = subst Q here (subst P one wrong) in
    (λ i known. absurd (none (i, known)), λ unknown. ap (why_of Limits) (same ∙ one))
named_why names (t ∷ tail) (d ∷ done) x more (name ∷ words) [] after wanted are all is fit same wrong = absurd fit
named_why names (t ∷ tail) (d ∷ done) x more (name ∷ words) (b ∷ before) after wanted are all is fit same wrong =
    let first : d ≡ Register = cc in
    let behind : t ∷ tail ≡ done ++ x ∷ more = cc in
    let here : b ≡ name = cc in
    let P : Wanted → Type 0 = λ w. IsWanted Limits names w (Some b) in
    let known = subst P first fit.0 in
    let R : List Wanted → Type 0 = λ l. AreNumbers l in
    (λ i _. ap (why_of Limits) same ∙ numbers_left done x more (subst R behind are), λ unknown. absurd (unknown known.0 (known.1 ∙ ap Some here)))

takes_named : (word : List ℕ) (arguments : List Wanted) → TakesArguments word arguments
    → (tail : List Wanted) × (arguments ≡ Register ∷ tail) × AreNumbers tail
takes_named word arguments (inl x) = ([], x.1, tt)
takes_named word arguments (inr (inl x)) = (Value ∷ [], x.1, (refl, tt))
takes_named word arguments (inr (inr x)) = (Value ∷ Value ∷ [], x.1, (refl, (refl, tt)))

stop_why : (skipped : ℕ) (names : List (List ℕ)) (word : List ℕ) (all : List Wanted) (words : List (List ℕ))
    (misfit : Misfit)
    → TakesArguments word all → IsStop skipped Limits names all words misfit → FitAll Form names all words
    → IsArgumentsWhy names all words (why_of Limits misfit.wanted)
stop_why skipped names word all words misfit t s form =
    let P : List Wanted → Type 0 = λ l. FitAll Form names l (s.before ++ s.after) in
    let Q : List (List ℕ) → Type 0 = λ l. FitAll Form names all l in
    let left = some_left names s.done s.left s.before s.after s.fit (subst P s.arguments (subst Q s.words form)) s.wrong in
    let tail = takes_named word all t in
    let R : List Wanted → Type 0 = λ l. ¬ IsWanted Limits names (next_of l) (first_of s.after) in
    let S : List Wanted → Type 0 = λ l. IsArgumentsWhy names l words (why_of Limits misfit.wanted) in
    subst S (sym tail.1) (named_why names tail.0 s.done left.0 left.1 words s.before s.after misfit.wanted tail.2 (sym tail.1 ∙ s.arguments ∙ ap (λ l. s.done ++ l) left.2) s.words s.fit (s.wanted ∙ ap next_of left.2) (subst R left.2 s.wrong))

pub op_why : (before : ℕ) (rule : Rule) (names : List (List ℕ)) (word : List ℕ) (arguments : List Wanted)
    (words more : List (List ℕ)) (r : Option Misfit)
    → words ≡ word ∷ more → TakesArguments word arguments
    → Stops (before + 1) rule names arguments more r → rule ≡ Limits → AreOpWords Form names words → IfSome r (λ m. IsOpWordsWhy names words (why_of Limits m.wanted))
op_why before rule names word arguments words more None is t stops by form = tt
op_why before rule names word arguments words more (Some misfit) is t stops by form = λ other rest takes e t2.
    let head : other ≡ word = cc in
    let tail : rest ≡ more = cc in
    let P : List ℕ → Type 0 = λ l. TakesArguments l takes in
    let same : arguments ≡ takes = takes_one word arguments takes t (subst P head t2) in
    let Q : Rule → Type 0 = λ l. IsStop (before + 1) l names arguments more misfit in
    let R : List (List ℕ) → Type 0 = λ l. AreOpWords Form names l in
    let formed = subst R is form in
    let S : List Wanted → Type 0 = λ l. FitAll Form names l more in
    let why = stop_why (before + 1) names word arguments more misfit t (subst Q by stops) (subst S (takes_one word formed.0 arguments formed.1 t) formed.2) in
    let U : List Wanted → Type 0 = λ l. IsArgumentsWhy names l more (why_of Limits misfit.wanted) in
    let V : List (List ℕ) → Type 0 = λ l. IsArgumentsWhy names takes l (why_of Limits misfit.wanted) in
    subst V (sym tail) (subst U same why)

-- what is told of the words behind the process of a call is told of all
pub call_told : (rule : Rule) (names : List (List ℕ)) (process : List ℕ) (words more : List (List ℕ))
    (r : Option Misfit)
    → words ≡ process ∷ more → IsWanted rule names Process (Some process)
    → TellsWords (AreOpWords rule names) 2 rule names more r
    → TellsWords (AreCallWords rule names) 1 rule names words r
call_told rule names process words more None is fit told =
    let P : List (List ℕ) → Type 0 = λ l. AreCallWords rule names l in subst P (sym is) (fit, told)
call_told rule names process words more (Some misfit) is fit told =
    let P : List (List ℕ) → Type 0 = λ l. IsWordMisfit (AreCallWords rule names) (IsWanted rule names misfit.wanted) l (suc told.0) in
    (suc told.0, omega (arith, told.1), told.2, subst P (sym is) (call_behind rule names (IsWanted rule names misfit.wanted) process more told.0 fit told.3))

pub call_why : (rule : Rule) (names : List (List ℕ)) (process : List ℕ) (words more : List (List ℕ)) (r : Option Misfit)
    → words ≡ process ∷ more → IsWanted rule names Process (Some process) → rule ≡ Limits
    → AreCallWords Form names words
    → (AreOpWords Form names more → IfSome r (λ m. IsOpWordsWhy names more (why_of Limits m.wanted))) → IfSome r (λ m. IsCallWordsWhy names words (why_of Limits m.wanted))
call_why rule names process words more None is fit by form why = tt
call_why rule names process words more (Some misfit) is fit by form why = λ other rest e.
    let head : other ≡ process = cc in
    let tail : rest ≡ more = cc in
    let P : List (List ℕ) → Type 0 = λ l. AreCallWords Form names l in
    let Q : List (List ℕ) → Type 0 = λ l. IsOpWordsWhy names l (why_of Limits misfit.wanted) in
    let R : Rule → Type 0 = λ l. IsWanted l names Process (Some process) in
    let S : List ℕ → Type 0 = λ l. IsNumber Limits 255 l in
    let within : IsNumber Limits 255 process = subst R by fit in
    (λ _. subst Q (sym tail) (why (subst P is form).1), λ beyond. absurd (beyond (subst S (sym head) within)))

pub beyond_why : (rule : Rule) (names : List (List ℕ)) (process : List ℕ) (words more : List (List ℕ)) (fits : Bool)
    → words ≡ process ∷ more → fits ≡ false → (IsWanted rule names Process (Some process) → IsTrue fits) → rule ≡ Limits
    → IsCallWordsWhy names words Range
beyond_why rule names process words more fits is none fit by = λ other rest e.
    let head : other ≡ process = cc in
    let R : Rule → Type 0 = λ l. IsWanted l names Process (Some process) in
    let S : List ℕ → Type 0 = λ l. IsNumber Limits 255 l in
    (λ within. let bad = fit (subst R (sym by) (subst S head within)) in absurd (cc), λ beyond. refl)

-- what is told of the words behind the first of an event's line is told of all
pub event_told_call : (rule : Rule) (names : List (List ℕ)) (word : List ℕ) (words more : List (List ℕ))
    (r : Option Misfit)
    → words ≡ word ∷ more → word ≡ codes "call" → TellsWords (AreCallWords rule names) 1 rule names more r
    → TellsWords (AreEventWords rule names) 0 rule names words r
event_told_call rule names word words more None is e told =
    let P : List (List ℕ) → Type 0 = λ l. AreEventWords rule names l in subst P (sym is) (inl (e, told))
event_told_call rule names word words more (Some misfit) is e told =
    let P : List (List ℕ) → Type 0 = λ l. IsWordMisfit (AreEventWords rule names) (IsWanted rule names misfit.wanted) l (suc told.0) in
    (suc told.0, omega (arith, told.1), told.2, subst P (sym is) (event_called rule names (IsWanted rule names misfit.wanted) word more told.0 e told.3))

pub event_told_take : (rule : Rule) (names : List (List ℕ)) (word : List ℕ) (words more : List (List ℕ))
    (r : Option Misfit)
    → names_fault names ≡ None → words ≡ word ∷ more → word ≡ codes "take" → Stops 1 rule names take_arguments more r
    → TellsWords (AreEventWords rule names) 0 rule names words r
event_told_take rule names word words more None h is e stops =
    let P : List (List ℕ) → Type 0 = λ l. AreEventWords rule names l in subst P (sym is) (inr (inl (e, stops)))
event_told_take rule names word words more (Some misfit) h is e stops =
    let m = stop_word 1 rule names take_arguments more misfit h ((λ x. absurd (cc)), ((λ x. absurd (cc)), ((λ x. absurd (cc)), tt))) stops in
    let P : List (List ℕ) → Type 0 = λ l. IsWordMisfit (AreEventWords rule names) (IsWanted rule names misfit.wanted) l (suc m.0) in
    (suc m.0, omega (arith, m.1), m.2, subst P (sym is) (event_taken rule names (IsWanted rule names misfit.wanted) word more m.0 e m.3))

pub event_told_tick : (rule : Rule) (names : List (List ℕ)) (word : List ℕ) (words more : List (List ℕ))
    (r : Option Misfit)
    → names_fault names ≡ None → words ≡ word ∷ more → word ≡ codes "tick" → Stops 1 rule names tick_arguments more r
    → TellsWords (AreEventWords rule names) 0 rule names words r
event_told_tick rule names word words more None h is e stops =
    let P : List (List ℕ) → Type 0 = λ l. AreEventWords rule names l in subst P (sym is) (inr (inr (e, stops)))
event_told_tick rule names word words more (Some misfit) h is e stops =
    let m = stop_word 1 rule names tick_arguments more misfit h ((λ x. absurd (cc)), tt) stops in
    let P : List (List ℕ) → Type 0 = λ l. IsWordMisfit (AreEventWords rule names) (IsWanted rule names misfit.wanted) l (suc m.0) in
    (suc m.0, omega (arith, m.1), m.2, subst P (sym is) (event_ticked rule names (IsWanted rule names misfit.wanted) word more m.0 e m.3))

pub event_why_call : (names : List (List ℕ)) (word : List ℕ) (words more : List (List ℕ)) (r : Option Misfit)
    → words ≡ word ∷ more → word ≡ codes "call" → AreEventWords Form names words
    → (AreCallWords Form names more → IfSome r (λ m. IsCallWordsWhy names more (why_of Limits m.wanted))) → IfSome r (λ m. IsEventWordsWhy names words (why_of Limits m.wanted))
event_why_call names word words more None is e form why = tt
event_why_call names word words more (Some misfit) is e form why = λ other rest same.
    let head : other ≡ word = cc in
    let tail : rest ≡ more = cc in
    let P : List (List ℕ) → Type 0 = λ l. AreEventWords Form names l in
    let Q : List (List ℕ) → Type 0 = λ l. IsCallWordsWhy names l (why_of Limits misfit.wanted) in
    (λ _. subst Q (sym tail) (why (called Form names more word e (subst P is form))), λ take. absurd (omega (arith, first_same (sym e ∙ sym head ∙ take))), λ tick. absurd (omega (arith, first_same (sym e ∙ sym head ∙ tick))))

pub event_why_numbers : (names : List (List ℕ)) (word : List ℕ) (words more : List (List ℕ)) (all : List Wanted)
    (rule : Rule) (r : Option Misfit)
    → words ≡ word ∷ more → word ≢ codes "call" → AreNumbers all → FitAll Form names all more → rule ≡ Limits
    → Stops 1 rule names all more r → IfSome r (λ m. IsEventWordsWhy names words (why_of Limits m.wanted))
event_why_numbers names word words more all rule None is none are form by stops = tt
event_why_numbers names word words more all rule (Some misfit) is none are form by stops = λ other rest same.
    let head : other ≡ word = cc in
    let Q : Rule → Type 0 = λ l. IsStop 1 l names all more misfit in
    let range = numbers_why 1 names all more misfit are (subst Q by stops) form in
    (λ call. absurd (none (sym head ∙ call)), λ take. range, λ tick. range)

-- the first word is that of no operation
pub no_op_here : (rule : Rule) (names : List (List ℕ)) (words : List (List ℕ)) (word : List ℕ) (more : List (List ℕ))
    → words ≡ word ∷ more → (IsOperationWord word → ⊥) → IsWanted rule names Operation (first_of words) → ⊥
no_op_here rule names words word more is none wanted =
    let P : List (List ℕ) → Type 0 = λ l. IsWanted rule names Operation (first_of l) in none (subst P is wanted)

pub op_there : (rule : Rule) (names words : List (List ℕ)) → AreOpWords Form names words
    → IsWanted rule names Operation (first_of words)
op_there rule names [] form = absurd form
op_there rule names (word ∷ words) form = op_word word form.0 form.1

pub no_process_here : (rule : Rule) (names words : List (List ℕ)) (word : List ℕ) (more : List (List ℕ)) (fits : Bool)
    → words ≡ word ∷ more → fits ≡ false → (IsWanted rule names Process (Some word) → IsTrue fits)
    → IsWanted rule names Process (first_of words) → ⊥
no_process_here rule names words word more fits is none fit wanted = let P : List (List ℕ) → Type 0 = λ l. IsWanted rule names Process (first_of l) in let bad = fit (subst P is wanted) in absurd (cc)

pub none_here : (rule : Rule) (names words : List (List ℕ)) → words ≡ [] → IsWanted rule names Process (first_of words)
    → ⊥
none_here rule names words is wanted =
    let P : List (List ℕ) → Type 0 = λ l. IsWanted rule names Process (first_of l) in subst P is wanted

-- a call ends behind its process
pub op_missing : (rule : Rule) (names words : List (List ℕ)) (process : List ℕ) (more : List (List ℕ))
    → names_fault names ≡ None → words ≡ process ∷ more → more ≡ [] → IsWanted rule names Process (Some process)
    → (place : ℕ) × (1 + place ≡ 2) × (rule ≡ rule) × IsWordMisfit (AreCallWords rule names) (IsWanted rule names Operation) words place
op_missing rule names words process more h is none fit =
    let W : Option (List ℕ) → Type 0 = IsWanted rule names Operation in
    let P : List (List ℕ) → Type 0 = λ l. IsWordMisfit (AreCallWords rule names) W l 1 in
    let same : words ≡ process ∷ [] = is ∙ ap (λ l. process ∷ l) none in
    (1, refl, refl, subst P (sym same) (call_behind rule names W process [] 0 fit (op_here rule names [] h (λ x. x))))

pub no_call_alone : (names words : List (List ℕ)) (process : List ℕ) → words ≡ process ∷ []
    → AreCallWords Form names words → ⊥
no_call_alone names words process is form =
    let P : List (List ℕ) → Type 0 = λ l. AreCallWords Form names l in (subst P is form).1

none_of_three : (word : List ℕ) → (word ≡ codes "call" → ⊥) → (word ≡ codes "take" → ⊥) → (word ≡ codes "tick" → ⊥)
    → IsEventWord word → ⊥
none_of_three word call take tick (inl e) = call e
none_of_three word call take tick (inr (inl e)) = take e
none_of_three word call take tick (inr (inr e)) = tick e

pub no_event_here : (rule : Rule) (names words : List (List ℕ)) (word : List ℕ) (more : List (List ℕ))
    → words ≡ word ∷ more → (word ≡ codes "call" → ⊥) → (word ≡ codes "take" → ⊥) → (word ≡ codes "tick" → ⊥)
    → IsWanted rule names Event (first_of words) → ⊥
no_event_here rule names words word more is call take tick wanted = let P : List (List ℕ) → Type 0 = λ l. IsWanted rule names Event (first_of l) in none_of_three word call take tick (subst P is wanted)

event_word : (names : List (List ℕ)) (word : List ℕ) (more : List (List ℕ)) → AreEventWords Form names (word ∷ more)
    → IsEventWord word
event_word names word more (inl is) = inl is.0
event_word names word more (inr (inl is)) = inr (inl is.0)
event_word names word more (inr (inr is)) = inr (inr is.0)

pub no_event_words : (names words : List (List ℕ)) (word : List ℕ) (more : List (List ℕ)) → words ≡ word ∷ more
    → (word ≡ codes "call" → ⊥) → (word ≡ codes "take" → ⊥) → (word ≡ codes "tick" → ⊥) → AreEventWords Form names words
    → ⊥
no_event_words names words word more is call take tick form = let P : List (List ℕ) → Type 0 = λ l. AreEventWords Form names l in none_of_three word call take tick (event_word names word more (subst P is form))

pub event_why_take : (names : List (List ℕ)) (word : List ℕ) (words more : List (List ℕ)) (rule : Rule)
    (r : Option Misfit)
    → words ≡ word ∷ more → word ≡ codes "take" → AreEventWords Form names words → rule ≡ Limits
    → Stops 1 rule names take_arguments more r → IfSome r (λ m. IsEventWordsWhy names words (why_of Limits m.wanted))
event_why_take names word words more rule r is e form by stops =
    let P : List (List ℕ) → Type 0 = λ l. AreEventWords Form names l in
    event_why_numbers names word words more take_arguments rule r is (λ call. omega (arith, first_same (sym e ∙ call))) (refl, (refl, (refl, tt))) (taken Form names more word e (subst P is form)) by stops

pub event_why_tick : (names : List (List ℕ)) (word : List ℕ) (words more : List (List ℕ)) (rule : Rule)
    (r : Option Misfit)
    → words ≡ word ∷ more → word ≡ codes "tick" → AreEventWords Form names words → rule ≡ Limits
    → Stops 1 rule names tick_arguments more r → IfSome r (λ m. IsEventWordsWhy names words (why_of Limits m.wanted))
event_why_tick names word words more rule r is e form by stops =
    let P : List (List ℕ) → Type 0 = λ l. AreEventWords Form names l in
    event_why_numbers names word words more tick_arguments rule r is (λ call. omega (arith, first_same (sym e ∙ call))) (refl, tt) (ticked Form names more word e (subst P is form)) by stops
