-- The first word that is none of such words.
use Rattle.std.proofs.Common.{ℕ, suc, ◌≡◌, ◌≢◌, ◌+◌, ◌^◌, ◌-◌, List, [], ◌∷◌, ◌++◌, length, codes, slice_get, get_or}
use Rattle.std.proofs.Common.{refl, sym, ap, subst, ◌∙◌, arith, inl, inr, Option, Some, None, append-nil}
use Rattle.std.specs.Fmt.{decimal}
use Rattle.reg_base.specs.Names.{names_fault}
use Rattle.reg_text.proofs.Formed.{number_form, first_same}
use Rattle.reg_inputs.specs.declared.misfits.Rule.{Rule}
use Rattle.reg_inputs.specs.declared.misfits.Rule.TheVariants.{Form, Limits}
use Rattle.reg_inputs.specs.declared.misfits.Wanted.{Wanted}
use Rattle.reg_inputs.specs.declared.misfits.Wanted.TheVariants.{Event, Operation, Process, Frame, Value, Register, End}
use Rattle.reg_inputs.specs.declared.misfits.Misfit.{Misfit}
use Rattle.reg_inputs.specs.Misfits.{IsWanted, IsNumber, first_of}
use Rattle.reg_inputs.specs.Arguments.{FitAll, IsPlain, IsStop, next_of, TakesArguments, AreOpWords, AreCallWords}
use Rattle.reg_inputs.specs.Arguments.{AreEventWords, Follows, IsWordMisfit, take_arguments, tick_arguments}

some_name : (names : List (List ℕ)) → names_fault names ≡ None → (name : List ℕ) × (slice_get names 0 ≡ Some name)
some_name [] h = absurd (cc)
some_name (n ∷ ns) h = (n, refl)

zero_number : (rule : Rule) (most : ℕ) → IsNumber rule most (decimal 0)
zero_number Form most = number_form (decimal 0) 0 (omega arith) refl
zero_number Limits most = (0, omega arith, refl)

-- some word is what is wanted
pub a_word : (rule : Rule) (names : List (List ℕ)) (wanted : Wanted) → names_fault names ≡ None → wanted ≢ End
    → (word : List ℕ) × IsWanted rule names wanted (Some word)
a_word rule names Event h plain = (codes "call", inl refl)
a_word rule names Operation h plain = (codes "read", inl refl)
a_word rule names Process h plain = (decimal 0, zero_number rule 255)
a_word rule names Frame h plain = (decimal 0, zero_number rule 4294967295)
a_word rule names Value h plain = (decimal 0, zero_number rule (2 ^ 64 - 1))
a_word Form names Register h plain = (codes "x", refl)
a_word Limits names Register h plain = let name = some_name names h in (name.0, (0, name.1))
a_word rule names End h plain = absurd (plain refl)

pub fit_some : (rule : Rule) (names : List (List ℕ)) (left : List Wanted) → names_fault names ≡ None → IsPlain left
    → (words : List (List ℕ)) × FitAll rule names left words
fit_some rule names [] h plain = ([], refl)
fit_some rule names (x ∷ left) h plain =
    let one = a_word rule names x h plain.0 in
    let more = fit_some rule names left h plain.1 in
    (one.0 ∷ more.0, (one.1, more.1))

fit_left : (rule : Rule) (names : List (List ℕ)) (done left : List Wanted) (before after : List (List ℕ))
    → FitAll rule names done before → FitAll rule names (done ++ left) (before ++ after) → FitAll rule names left after
fit_left rule names [] left before after fit all =
    let P : List (List ℕ) → Type 0 = λ l. FitAll rule names left (l ++ after) in subst P fit all
fit_left rule names (d ∷ done) left [] after fit all = absurd fit
fit_left rule names (d ∷ done) left (b ∷ before) after fit all = fit_left rule names done left before after fit.1 all.1

fit_join : (rule : Rule) (names : List (List ℕ)) (done left : List Wanted) (before after : List (List ℕ))
    → FitAll rule names done before → FitAll rule names left after → FitAll rule names (done ++ left) (before ++ after)
fit_join rule names [] left before after fit all =
    let P : List (List ℕ) → Type 0 = λ l. FitAll rule names left (l ++ after) in subst P (sym fit) all
fit_join rule names (d ∷ done) left [] after fit all = absurd fit
fit_join rule names (d ∷ done) left (b ∷ before) after fit all =
    (fit.0, fit_join rule names done left before after fit.1 all)

plain_left : (done left : List Wanted) → IsPlain (done ++ left) → IsPlain left
plain_left [] left plain = plain
plain_left (d ∷ done) left plain = plain_left done left plain.1

ends : (rule : Rule) (names : List (List ℕ)) (left : List Wanted) → FitAll rule names left []
    → IsWanted rule names (next_of left) None
ends rule names [] fit = tt
ends rule names (x ∷ left) fit = absurd fit

goes : (rule : Rule) (names : List (List ℕ)) (left : List Wanted) (word : List ℕ) (after : List (List ℕ))
    → FitAll rule names left (word ∷ after) → IsWanted rule names (next_of left) (Some word)
goes rule names [] word after fit = absurd (cc)
goes rule names (x ∷ left) word after fit = fit.0

only_there : (rule : Rule) (names : List (List ℕ)) (done left : List Wanted) (before : List (List ℕ))
    → FitAll rule names done before → (next : Option (List ℕ)) → Follows (FitAll rule names (done ++ left)) before next
    → IsWanted rule names (next_of left) next
only_there rule names done left before fit None is = let P : List (List ℕ) → Type 0 = λ l. FitAll rule names (done ++ left) l in ends rule names left (fit_left rule names done left before [] fit (subst P (sym (append-nil before)) is))
only_there rule names done left before fit (Some word) is =
    goes rule names left word is.0 (fit_left rule names done left before (word ∷ is.0) fit is.1)

no_end : (rule : Rule) (names : List (List ℕ)) (wanted : Wanted) → wanted ≢ End → IsWanted rule names wanted None → ⊥
no_end rule names Event plain is = is
no_end rule names Operation plain is = is
no_end rule names Process plain is = is
no_end rule names Frame plain is = is
no_end rule names Value plain is = is
no_end rule names Register plain is = is
no_end rule names End plain is = plain refl

all_there : (rule : Rule) (names : List (List ℕ)) (done left : List Wanted) (before : List (List ℕ))
    → names_fault names ≡ None → IsPlain left → FitAll rule names done before → (next : Option (List ℕ))
    → IsWanted rule names (next_of left) next → Follows (FitAll rule names (done ++ left)) before next
all_there rule names done [] before h plain fit None is = let P : List (List ℕ) → Type 0 = λ l. FitAll rule names (done ++ []) l in subst P (append-nil before) (fit_join rule names done [] before [] fit refl)
all_there rule names done [] before h plain fit (Some word) is = absurd is
all_there rule names done (x ∷ left) before h plain fit None is = absurd (no_end rule names x plain.0 is)
all_there rule names done (x ∷ left) before h plain fit (Some word) is =
    let more = fit_some rule names left h plain.1 in
    (more.0, fit_join rule names done (x ∷ left) before (word ∷ more.0) fit (is, more.1))

begins : (rule : Rule) (names : List (List ℕ)) (left : List Wanted) → names_fault names ≡ None → IsPlain left
    → (next : Option (List ℕ)) × IsWanted rule names (next_of left) next
begins rule names [] h plain = (None, tt)
begins rule names (x ∷ left) h plain = let one = a_word rule names x h plain.0 in (Some one.0, one.1)

-- words that stop being what is wanted
pub stop_word : (skipped : ℕ) (rule : Rule) (names : List (List ℕ)) (all : List Wanted) (words : List (List ℕ))
    (misfit : Misfit)
    → names_fault names ≡ None → IsPlain all → IsStop skipped rule names all words misfit
    → (place : ℕ) × (skipped + place ≡ misfit.word) × (misfit.rule ≡ rule) × IsWordMisfit (FitAll rule names all) (IsWanted rule names misfit.wanted) words place
stop_word skipped rule names all words misfit h plain s =
    let P : List Wanted → Type 0 = λ l. IsPlain l in
    let left = plain_left s.done s.left (subst P s.arguments plain) in
    let there : IsWordMisfit (FitAll rule names (s.done ++ s.left)) (IsWanted rule names (next_of s.left)) words (length s.before) = record {
      before = s.before;
      after = s.after;
      words = s.words;
      number = refl;
      begun = begins rule names s.left h left;
      only = only_there rule names s.done s.left s.before s.fit;
      all = all_there rule names s.done s.left s.before h left s.fit;
      wrong = s.wrong;
    } in
    let Q : List Wanted → Type 0 = λ l. IsWordMisfit (FitAll rule names l) (IsWanted rule names (next_of s.left)) words (length s.before) in
    let R : Wanted → Type 0 = λ w. IsWordMisfit (FitAll rule names all) (IsWanted rule names w) words (length s.before) in
    (length s.before, s.number, s.rule, subst R (sym s.wanted) (subst Q (sym s.arguments) there))

follows_off : (Are Behind : List (List ℕ) → Type 0) (word : List ℕ) (before : List (List ℕ))
    → ((ws : List (List ℕ)) → Are (word ∷ ws) → Behind ws) → (next : Option (List ℕ)) → Follows Are (word ∷ before) next
    → Follows Behind before next
follows_off Are Behind word before off None is = off before is
follows_off Are Behind word before off (Some w) is = (is.0, off (before ++ w ∷ is.0) is.1)

follows_on : (Are Behind : List (List ℕ) → Type 0) (word : List ℕ) (before : List (List ℕ))
    → ((ws : List (List ℕ)) → Behind ws → Are (word ∷ ws)) → (next : Option (List ℕ)) → Follows Behind before next
    → Follows Are (word ∷ before) next
follows_on Are Behind word before on None is = on before is
follows_on Are Behind word before on (Some w) is = (is.0, on (before ++ w ∷ is.0) is.1)

-- one word more stands before
pub cons_word : (Are Behind : List (List ℕ) → Type 0) (W : Option (List ℕ) → Type 0) (word : List ℕ)
    (words : List (List ℕ)) (place : ℕ)
    → ((ws : List (List ℕ)) → Are (word ∷ ws) → Behind ws) → ((ws : List (List ℕ)) → Behind ws → Are (word ∷ ws))
    → IsWordMisfit Behind W words place → IsWordMisfit Are W (word ∷ words) (suc place)
cons_word Are Behind W word words place off on m = record {
  before = word ∷ m.before;
  after = m.after;
  words = ap (λ l. word ∷ l) m.words;
  number = ap suc m.number;
  begun = m.begun;
  only = λ next is. m.only next (follows_off Are Behind word m.before off next is);
  all = λ next is. follows_on Are Behind word m.before on next (m.all next is);
  wrong = m.wrong;
}

-- the first word is none
pub here_word : (Are : List (List ℕ) → Type 0) (W : Option (List ℕ) → Type 0) (words : List (List ℕ))
    → ((next : Option (List ℕ)) × W next) → ((next : Option (List ℕ)) → Follows Are [] next → W next)
    → ((next : Option (List ℕ)) → W next → Follows Are [] next)
    → (W (first_of words) → ⊥) → IsWordMisfit Are W words 0
here_word Are W words begun only all wrong = record { before = []; after = words; words = refl; number = refl; begun = begun; only = only; all = all; wrong = wrong }

pub takes_one : (word : List ℕ) (a b : List Wanted) → TakesArguments word a → TakesArguments word b → a ≡ b
takes_one word a b (inl x) (inl y) = x.1 ∙ sym y.1
takes_one word a b (inl x) (inr (inl (inl w, _))) = absurd (omega (arith, first_same (sym x.0 ∙ w)))
takes_one word a b (inl x) (inr (inl (inr w, _))) = absurd (omega (arith, first_same (sym x.0 ∙ w)))
takes_one word a b (inl x) (inr (inr y)) = absurd (omega (arith, first_same (sym x.0 ∙ y.0)))
takes_one word a b (inr (inl (inl w, _))) (inl y) = absurd (omega (arith, first_same (sym w ∙ y.0)))
takes_one word a b (inr (inl (inr w, _))) (inl y) = absurd (omega (arith, first_same (sym w ∙ y.0)))
takes_one word a b (inr (inl x)) (inr (inl y)) = x.1 ∙ sym y.1
takes_one word a b (inr (inl (inl w, _))) (inr (inr y)) = absurd (omega (arith, first_same (sym w ∙ y.0)))
takes_one word a b (inr (inl (inr w, _))) (inr (inr y)) = absurd (omega (arith, first_same (sym w ∙ y.0)))
takes_one word a b (inr (inr x)) (inl y) = absurd (omega (arith, first_same (sym x.0 ∙ y.0)))
takes_one word a b (inr (inr x)) (inr (inl (inl w, _))) = absurd (omega (arith, first_same (sym x.0 ∙ w)))
takes_one word a b (inr (inr x)) (inr (inl (inr w, _))) = absurd (omega (arith, first_same (sym x.0 ∙ w)))
takes_one word a b (inr (inr x)) (inr (inr y)) = x.1 ∙ sym y.1

-- the word of an operation is one of four
pub op_word : (word : List ℕ) (arguments : List Wanted) → TakesArguments word arguments
    → IsWanted Form [] Operation (Some word)
op_word word arguments (inl x) = inl x.0
op_word word arguments (inr (inl (inl w, _))) = inr (inl w)
op_word word arguments (inr (inl (inr w, _))) = inr (inr (inl w))
op_word word arguments (inr (inr x)) = inr (inr (inr x.0))

takes : (word : List ℕ) → IsWanted Form [] Operation (Some word)
    → (arguments : List Wanted) × TakesArguments word arguments × IsPlain arguments
takes word (inl e) = (Register ∷ [], inl (e, refl), ((λ x. absurd (cc)), tt))
takes word (inr (inl e)) =
    (Register ∷ Value ∷ [], inr (inl (inl e, refl)), ((λ x. absurd (cc)), ((λ x. absurd (cc)), tt)))
takes word (inr (inr (inl e))) =
    (Register ∷ Value ∷ [], inr (inl (inr e, refl)), ((λ x. absurd (cc)), ((λ x. absurd (cc)), tt)))
takes word (inr (inr (inr e))) = (Register ∷ Value ∷ Value ∷ [], inr (inr (e, refl)), ((λ x. absurd (cc)), ((λ x. absurd (cc)), ((λ x. absurd (cc)), tt))))

-- the arguments of an operation are numbers and names
pub takes_plain : (word : List ℕ) (arguments : List Wanted) → TakesArguments word arguments → IsPlain arguments
takes_plain word arguments t =
    let other = takes word (op_word word arguments t) in
    let P : List Wanted → Type 0 = λ l. IsPlain l in
    subst P (takes_one word other.0 arguments other.1 t) other.2

-- behind the word of an operation
pub op_behind : (rule : Rule) (names : List (List ℕ)) (W : Option (List ℕ) → Type 0) (word : List ℕ)
    (arguments : List Wanted) (words : List (List ℕ)) (place : ℕ)
    → TakesArguments word arguments → IsWordMisfit (FitAll rule names arguments) W words place
    → IsWordMisfit (AreOpWords rule names) W (word ∷ words) (suc place)
op_behind rule names W word arguments words place t m =
    cons_word (AreOpWords rule names) (FitAll rule names arguments) W word words place
    (λ ws is. let P : List Wanted → Type 0 = λ l. FitAll rule names l ws in subst P (takes_one word is.0 arguments is.1 t) is.2)
    (λ ws is. (arguments, t, is)) m

-- some words are those of an operation
pub some_op : (rule : Rule) (names : List (List ℕ)) (word : List ℕ) → names_fault names ≡ None
    → IsWanted rule names Operation (Some word) → (after : List (List ℕ)) × AreOpWords rule names (word ∷ after)
some_op rule names word h is =
    let t = takes word is in
    let more = fit_some rule names t.0 h t.2 in
    (more.0, (t.0, t.1, more.1))

op_only : (rule : Rule) (names : List (List ℕ)) (next : Option (List ℕ)) → Follows (AreOpWords rule names) [] next
    → IsWanted rule names Operation next
op_only rule names None is = absurd is
op_only rule names (Some word) is = op_word word is.1.0 is.1.1

op_all : (rule : Rule) (names : List (List ℕ)) → names_fault names ≡ None → (next : Option (List ℕ))
    → IsWanted rule names Operation next → Follows (AreOpWords rule names) [] next
op_all rule names h None is = absurd is
op_all rule names h (Some word) is = some_op rule names word h is

-- the first word is that of no operation
pub op_here : (rule : Rule) (names : List (List ℕ)) (words : List (List ℕ)) → names_fault names ≡ None
    → (IsWanted rule names Operation (first_of words) → ⊥)
    → IsWordMisfit (AreOpWords rule names) (IsWanted rule names Operation) words 0
op_here rule names words h wrong = here_word (AreOpWords rule names) (IsWanted rule names Operation) words (Some (codes "read"), inl refl) (op_only rule names) (op_all rule names h) wrong

call_only : (rule : Rule) (names : List (List ℕ)) (next : Option (List ℕ)) → Follows (AreCallWords rule names) [] next
    → IsWanted rule names Process next
call_only rule names None is = absurd is
call_only rule names (Some word) is = is.1.0

call_all : (rule : Rule) (names : List (List ℕ)) → names_fault names ≡ None → (next : Option (List ℕ))
    → IsWanted rule names Process next → Follows (AreCallWords rule names) [] next
call_all rule names h None is = absurd is
call_all rule names h (Some word) is =
    let op = some_op rule names (codes "read") h (inl refl) in (codes "read" ∷ op.0, (is, op.1))

-- the first word is that of no process
pub call_here : (rule : Rule) (names : List (List ℕ)) (words : List (List ℕ)) → names_fault names ≡ None
    → (IsWanted rule names Process (first_of words) → ⊥)
    → IsWordMisfit (AreCallWords rule names) (IsWanted rule names Process) words 0
call_here rule names words h wrong = here_word (AreCallWords rule names) (IsWanted rule names Process) words (Some (decimal 0), zero_number rule 255) (call_only rule names) (call_all rule names h) wrong

-- behind the process
pub call_behind : (rule : Rule) (names : List (List ℕ)) (W : Option (List ℕ) → Type 0) (process : List ℕ)
    (words : List (List ℕ)) (place : ℕ)
    → IsWanted rule names Process (Some process) → IsWordMisfit (AreOpWords rule names) W words place
    → IsWordMisfit (AreCallWords rule names) W (process ∷ words) (suc place)
call_behind rule names W process words place fit m = cons_word (AreCallWords rule names) (AreOpWords rule names) W process words place (λ ws is. is.1) (λ ws is. (fit, is)) m

event_only : (rule : Rule) (names : List (List ℕ)) (next : Option (List ℕ)) → Follows (AreEventWords rule names) [] next
    → IsWanted rule names Event next
event_only rule names None is = absurd is
event_only rule names (Some word) (after, inl is) = inl is.0
event_only rule names (Some word) (after, inr (inl is)) = inr (inl is.0)
event_only rule names (Some word) (after, inr (inr is)) = inr (inr is.0)

event_all : (rule : Rule) (names : List (List ℕ)) → names_fault names ≡ None → (next : Option (List ℕ))
    → IsWanted rule names Event next → Follows (AreEventWords rule names) [] next
event_all rule names h None is = absurd is
event_all rule names h (Some word) (inl e) =
    let more = call_all rule names h (Some (decimal 0)) (zero_number rule 255) in (decimal 0 ∷ more.0, inl (e, more.1))
event_all rule names h (Some word) (inr (inl e)) = let more = fit_some rule names take_arguments h ((λ x. absurd (cc)), ((λ x. absurd (cc)), ((λ x. absurd (cc)), tt))) in (more.0, inr (inl (e, more.1)))
event_all rule names h (Some word) (inr (inr e)) =
    let more = fit_some rule names tick_arguments h ((λ x. absurd (cc)), tt) in (more.0, inr (inr (e, more.1)))

-- the first word is that of no event
pub event_here : (rule : Rule) (names : List (List ℕ)) (words : List (List ℕ)) → names_fault names ≡ None
    → (IsWanted rule names Event (first_of words) → ⊥)
    → IsWordMisfit (AreEventWords rule names) (IsWanted rule names Event) words 0
event_here rule names words h wrong = here_word (AreEventWords rule names) (IsWanted rule names Event) words (Some (codes "call"), inl refl) (event_only rule names) (event_all rule names h) wrong

no_take_tick : (word : List ℕ) → word ≡ codes "take" → word ≡ codes "tick" → ⊥
no_take_tick word take tick =
    let second : 97 ≡ 105 = ap (λ l. get_or l 1 0) (sym take ∙ tick) in absurd (omega (arith, second))

pub called : (rule : Rule) (names ws : List (List ℕ)) (word : List ℕ) → word ≡ codes "call"
    → AreEventWords rule names (word ∷ ws) → AreCallWords rule names ws
called rule names ws word e (inl is) = is.1
called rule names ws word e (inr (inl is)) = absurd (omega (arith, first_same (sym e ∙ is.0)))
called rule names ws word e (inr (inr is)) = absurd (omega (arith, first_same (sym e ∙ is.0)))

pub taken : (rule : Rule) (names ws : List (List ℕ)) (word : List ℕ) → word ≡ codes "take"
    → AreEventWords rule names (word ∷ ws) → FitAll rule names take_arguments ws
taken rule names ws word e (inl is) = absurd (omega (arith, first_same (sym e ∙ is.0)))
taken rule names ws word e (inr (inl is)) = is.1
taken rule names ws word e (inr (inr is)) = absurd (no_take_tick word e is.0)

pub ticked : (rule : Rule) (names ws : List (List ℕ)) (word : List ℕ) → word ≡ codes "tick"
    → AreEventWords rule names (word ∷ ws) → FitAll rule names tick_arguments ws
ticked rule names ws word e (inl is) = absurd (omega (arith, first_same (sym e ∙ is.0)))
ticked rule names ws word e (inr (inl is)) = absurd (no_take_tick word is.0 e)
ticked rule names ws word e (inr (inr is)) = is.1

-- behind the first word
pub event_called : (rule : Rule) (names : List (List ℕ)) (W : Option (List ℕ) → Type 0) (word : List ℕ)
    (words : List (List ℕ)) (place : ℕ)
    → word ≡ codes "call" → IsWordMisfit (AreCallWords rule names) W words place
    → IsWordMisfit (AreEventWords rule names) W (word ∷ words) (suc place)
event_called rule names W word words place e m = cons_word (AreEventWords rule names) (AreCallWords rule names) W word words place (λ ws is. called rule names ws word e is) (λ ws is. inl (e, is)) m

pub event_taken : (rule : Rule) (names : List (List ℕ)) (W : Option (List ℕ) → Type 0) (word : List ℕ)
    (words : List (List ℕ)) (place : ℕ)
    → word ≡ codes "take" → IsWordMisfit (FitAll rule names take_arguments) W words place
    → IsWordMisfit (AreEventWords rule names) W (word ∷ words) (suc place)
event_taken rule names W word words place e m = cons_word (AreEventWords rule names) (FitAll rule names take_arguments) W word words place (λ ws is. taken rule names ws word e is) (λ ws is. inr (inl (e, is))) m

pub event_ticked : (rule : Rule) (names : List (List ℕ)) (W : Option (List ℕ) → Type 0) (word : List ℕ)
    (words : List (List ℕ)) (place : ℕ)
    → word ≡ codes "tick" → IsWordMisfit (FitAll rule names tick_arguments) W words place
    → IsWordMisfit (AreEventWords rule names) W (word ∷ words) (suc place)
event_ticked rule names W word words place e m = cons_word (AreEventWords rule names) (FitAll rule names tick_arguments) W word words place (λ ws is. ticked rule names ws word e is) (λ ws is. inr (inr (e, is))) m
