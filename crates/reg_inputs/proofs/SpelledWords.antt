-- The words of texts, and how texts are spelled by their words.
use Rattle.std.proofs.Common.{ℕ, ◌≡◌, ◌-◌, ◌<◌, ◌^◌, ◌==◌, not, true, false, List, [], ◌∷◌, ◌++◌, length, codes, drop}
use Rattle.std.proofs.Common.{get_or, refl, sym, ap, subst, ◌∙◌, arith, rules, inl, inr, Option, Some, None, append-nil}
use Rattle.std.specs.Fmt.{decimal}
use Rattle.std.specs.List.{list_all}
use Rattle.reg_base.specs.Names.{names_fault}
use Rattle.reg_base.specs.declared.memory.Op.TheVariants.{Read, Write, Swap, CompareAndSwap}
use Rattle.reg_process.specs.declared.events.Event.TheVariants.{Call, Take, Tick}
use Rattle.reg_text.specs.Ops.{op_text}
use Rattle.reg_text.specs.Parts.{Lacks}
use Rattle.reg_text.specs.Words.{names_text}
use Rattle.reg_text.proofs.Formed.{number_form, numeral_lacks, word_lacks}
use Rattle.reg_text.proofs.NamesLack.{got_is, is_got, nth_lacks}
use Rattle.reg_inputs.specs.declared.misfits.Rule.{Rule}
use Rattle.reg_inputs.specs.declared.misfits.Rule.TheVariants.{Form, Limits}
use Rattle.reg_inputs.specs.declared.misfits.Wanted.{Wanted}
use Rattle.reg_inputs.specs.declared.misfits.Wanted.TheVariants.{Event, Operation, Process, Frame, Value, Register, End}
use Rattle.reg_inputs.specs.Misfits.{IsWanted, IsNumber, AreApart, AreWordsOf, IsOpBy, IsEventBy, IsMisfit, GoesOn}
use Rattle.reg_inputs.specs.Arguments.{FitAll, TakesArguments, AreOpWords, AreEventWords, IsWordMisfit, Follows}
use Rattle.reg_inputs.specs.Arguments.{take_arguments, tick_arguments}
use Rattle.reg_inputs.proofs.Fitting.{same_words}

other_byte : (b : ℕ) (word : List ℕ) → (b == 32) ≡ false → Lacks 32 word → Lacks 32 (b ∷ word)
other_byte b word e lack = rw e lack

put_byte : (b : ℕ) (text : List ℕ) (words : List (List ℕ)) → (b == 32) ≡ false → AreWordsOf text words
    → (ws : List (List ℕ)) × AreWordsOf (b ∷ text) ws
put_byte b text [] e of = let bad = of.joined in absurd (cc)
put_byte b text (w ∷ words) e of =
    let rest : text ≡ w ++ names_text words = ap (drop 1) of.joined in
    ((b ∷ w) ∷ words, record { joined = ap (λ l. 32 ∷ b ∷ l) rest; apart = (other_byte b w e of.apart.0, of.apart.1) })

put_space : (b : ℕ) (text : List ℕ) (words : List (List ℕ)) → (b == 32) ≡ true → AreWordsOf text words
    → (ws : List (List ℕ)) × AreWordsOf (b ∷ text) ws
put_space b text words e of =
    let same : b ≡ 32 = search (rules, e) in
    ([] ∷ words, record { joined = ap (λ x. 32 ∷ x ∷ text) same ∙ ap (λ l. 32 ∷ l) of.joined; apart = (refl, of.apart) })

-- each text has words
pub words_of : (text : List ℕ) → (words : List (List ℕ)) × AreWordsOf text words
words_of [] = ([] ∷ [], record { joined = refl; apart = (refl, tt) })
words_of (b ∷ text) =
    let more = words_of text in
    elim (b == 32) as (λ t. (b == 32) ≡ t → (ws : List (List ℕ)) × AreWordsOf (b ∷ text) ws) [
      | true ↦ λ e. put_space b text more.0 e more.1
      | false ↦ λ e. put_byte b text more.0 e more.1
    ] refl

-- a text has its words in one way
pub one_words : (text : List ℕ) (a b : List (List ℕ)) → AreWordsOf text a → AreWordsOf text b → a ≡ b
one_words text a b of other = same_words a b of.apart other.apart (sym of.joined ∙ other.joined)

number_lacks : (n : ℕ) → n < 2 ^ 64 → Lacks 32 (decimal n)
number_lacks n small = numeral_lacks 32 (decimal n) (omega arith) (number_form (decimal n) n small refl)

number_apart : (rule : Rule) (most : ℕ) (word : List ℕ) → most < 2 ^ 64 → IsNumber rule most word → Lacks 32 word
number_apart Form most word small is = numeral_lacks 32 word (omega arith) is
number_apart Limits most word small is =
    let P : List ℕ → Type 0 = λ l. Lacks 32 l in subst P (sym is.2) (number_lacks is.0 (omega (arith, is.1, small)))

word_apart : (rule : Rule) (names : List (List ℕ)) (wanted : Wanted) (word : List ℕ) → names_fault names ≡ None
    → IsWanted rule names wanted (Some word) → Lacks 32 word
word_apart rule names Event word h (inl e) = ap (λ l. list_all (λ b. not (b == 32)) l) e
word_apart rule names Event word h (inr (inl e)) = ap (λ l. list_all (λ b. not (b == 32)) l) e
word_apart rule names Event word h (inr (inr e)) = ap (λ l. list_all (λ b. not (b == 32)) l) e
word_apart rule names Operation word h (inl e) = ap (λ l. list_all (λ b. not (b == 32)) l) e
word_apart rule names Operation word h (inr (inl e)) = ap (λ l. list_all (λ b. not (b == 32)) l) e
word_apart rule names Operation word h (inr (inr (inl e))) = ap (λ l. list_all (λ b. not (b == 32)) l) e
word_apart rule names Operation word h (inr (inr (inr e))) = ap (λ l. list_all (λ b. not (b == 32)) l) e
word_apart rule names Process word h is = number_apart rule 255 word (omega arith) is
word_apart rule names Frame word h is = number_apart rule 4294967295 word (omega arith) is
word_apart rule names Value word h is = number_apart rule (2 ^ 64 - 1) word (omega arith) is
word_apart Form names Register word h is = word_lacks word is
word_apart Limits names Register word h is =
    let got = got_is names is.0 word is.1 in
    let P : List ℕ → Type 0 = λ l. Lacks 32 l in
    subst P (sym got.1) (nth_lacks 32 names is.0 (omega arith) h got.0)
word_apart rule names End word h is = absurd is

fit_apart : (rule : Rule) (names : List (List ℕ)) (arguments : List Wanted) (words : List (List ℕ))
    → names_fault names ≡ None → FitAll rule names arguments words → AreApart words
fit_apart rule names [] words h fit = let P : List (List ℕ) → Type 0 = λ l. AreApart l in subst P (sym fit) tt
fit_apart rule names (a ∷ arguments) [] h fit = absurd fit
fit_apart rule names (a ∷ arguments) (w ∷ words) h fit =
    (word_apart rule names a w h fit.0, fit_apart rule names arguments words h fit.1)

-- words that are one, two or three, each after a space
pub one_behind : (a : List ℕ) → names_text (a ∷ []) ≡ 32 ∷ a
one_behind a = ap (λ l. 32 ∷ l) (append-nil a)

pub two_behind : (a b : List ℕ) → names_text (a ∷ b ∷ []) ≡ 32 ∷ (a ++ 32 ∷ b)
two_behind a b = ap (λ l. 32 ∷ (a ++ l)) (one_behind b)

pub three_behind : (a b c : List ℕ) → names_text (a ∷ b ∷ c ∷ []) ≡ 32 ∷ (a ++ 32 ∷ (b ++ 32 ∷ c))
three_behind a b c = ap (λ l. 32 ∷ (a ++ l)) (two_behind b c)

-- words that fit one, two or three arguments
one_fit : (rule : Rule) (names : List (List ℕ)) (x : Wanted) (words : List (List ℕ)) → FitAll rule names (x ∷ []) words
    → (a : List ℕ) × (words ≡ a ∷ []) × IsWanted rule names x (Some a)
one_fit rule names x [] fit = absurd fit
one_fit rule names x (a ∷ words) fit = (a, ap (λ l. a ∷ l) fit.1, fit.0)

two_fit : (rule : Rule) (names : List (List ℕ)) (x y : Wanted) (words : List (List ℕ))
    → FitAll rule names (x ∷ y ∷ []) words
    → (a b : List ℕ) × (words ≡ a ∷ b ∷ []) × IsWanted rule names x (Some a) × IsWanted rule names y (Some b)
two_fit rule names x y [] fit = absurd fit
two_fit rule names x y (a ∷ words) fit =
    let more = one_fit rule names y words fit.1 in (a, more.0, ap (λ l. a ∷ l) more.1, fit.0, more.2)

three_fit : (rule : Rule) (names : List (List ℕ)) (x y z : Wanted) (words : List (List ℕ))
    → FitAll rule names (x ∷ y ∷ z ∷ []) words
    → (a b c : List ℕ) × (words ≡ a ∷ b ∷ c ∷ []) × IsWanted rule names x (Some a) × IsWanted rule names y (Some b) × IsWanted rule names z (Some c)
three_fit rule names x y z [] fit = absurd fit
three_fit rule names x y z (a ∷ words) fit =
    let more = two_fit rule names y z words fit.1 in (a, more.0, more.1, ap (λ l. a ∷ l) more.2, fit.0, more.3, more.4)

named : (names : List (List ℕ)) (word : List ℕ) → IsWanted Limits names Register (Some word)
    → (i : ℕ) × (i < length names) × (word ≡ get_or names i [])
named names word is = let got = got_is names is.0 word is.1 in (is.0, got.0, got.1)

spelled_op : (names : List (List ℕ)) (rule : Rule) (word : List ℕ) (arguments : List Wanted) (more : List (List ℕ))
    → TakesArguments word arguments → FitAll rule names arguments more → IsOpBy names rule (word ++ names_text more)
spelled_op names Form word arguments more (inl x) fit =
    let P : List Wanted → Type 0 = λ l. FitAll Form names l more in
    let f = one_fit Form names Register more (subst P x.1 fit) in
    inl (inl (f.0, (f.2, ap (λ l. l ++ names_text more) x.0 ∙ ap (λ l. codes "read" ++ l) (ap names_text f.1 ∙ one_behind f.0))))
spelled_op names Form word arguments more (inr (inl (inl w, x))) fit =
    let P : List Wanted → Type 0 = λ l. FitAll Form names l more in
    let f = two_fit Form names Register Value more (subst P x fit) in
    inl (inr (inl (f.0, (f.1, (f.3, f.4, ap (λ l. l ++ names_text more) w ∙ ap (λ l. codes "write" ++ l) (ap names_text f.2 ∙ two_behind f.0 f.1))))))
spelled_op names Form word arguments more (inr (inl (inr w, x))) fit =
    let P : List Wanted → Type 0 = λ l. FitAll Form names l more in
    let f = two_fit Form names Register Value more (subst P x fit) in
    inl (inr (inr (f.0, (f.1, (f.3, f.4, ap (λ l. l ++ names_text more) w ∙ ap (λ l. codes "swap" ++ l) (ap names_text f.2 ∙ two_behind f.0 f.1))))))
spelled_op names Form word arguments more (inr (inr x)) fit =
    let P : List Wanted → Type 0 = λ l. FitAll Form names l more in
    let f = three_fit Form names Register Value Value more (subst P x.1 fit) in
    inr (f.0, f.1, f.2, (f.4, f.5, f.6, ap (λ l. l ++ names_text more) x.0 ∙ ap (λ l. codes "cas" ++ l) (ap names_text f.3 ∙ three_behind f.0 f.1 f.2)))
spelled_op names Limits word arguments more (inl x) fit =
    let P : List Wanted → Type 0 = λ l. FitAll Limits names l more in
    let f = one_fit Limits names Register more (subst P x.1 fit) in
    let n = named names f.0 f.2 in
    (Read n.0, n.1, ap (λ l. l ++ names_text more) x.0 ∙ ap (λ l. codes "read" ++ l) (ap names_text f.1 ∙ one_behind f.0 ∙ ap (λ l. 32 ∷ l) n.2))
spelled_op names Limits word arguments more (inr (inl (inl w, x))) fit =
    let P : List Wanted → Type 0 = λ l. FitAll Limits names l more in
    let f = two_fit Limits names Register Value more (subst P x fit) in
    let n = named names f.0 f.3 in
    (Write n.0 f.4.0, (n.1, omega (arith, f.4.1)), ap (λ l. l ++ names_text more) w ∙ ap (λ l. codes "write" ++ l) (ap names_text f.2 ∙ two_behind f.0 f.1 ∙ ap (λ l. 32 ∷ (l ++ 32 ∷ f.1)) n.2 ∙ ap (λ l. 32 ∷ (get_or names n.0 [] ++ 32 ∷ l)) f.4.2))
spelled_op names Limits word arguments more (inr (inl (inr w, x))) fit =
    let P : List Wanted → Type 0 = λ l. FitAll Limits names l more in
    let f = two_fit Limits names Register Value more (subst P x fit) in
    let n = named names f.0 f.3 in
    (Swap n.0 f.4.0, (n.1, omega (arith, f.4.1)), ap (λ l. l ++ names_text more) w ∙ ap (λ l. codes "swap" ++ l) (ap names_text f.2 ∙ two_behind f.0 f.1 ∙ ap (λ l. 32 ∷ (l ++ 32 ∷ f.1)) n.2 ∙ ap (λ l. 32 ∷ (get_or names n.0 [] ++ 32 ∷ l)) f.4.2))
spelled_op names Limits word arguments more (inr (inr x)) fit =
    let P : List Wanted → Type 0 = λ l. FitAll Limits names l more in
    let f = three_fit Limits names Register Value Value more (subst P x.1 fit) in
    let n = named names f.0 f.4 in (
      CompareAndSwap n.0 f.5.0 f.6.0,
      (n.1, omega (arith, f.5.1), omega (arith, f.6.1)),
      ap (λ l. l ++ names_text more) x.0 ∙ ap (λ l. codes "cas" ++ l) (ap names_text f.3 ∙ three_behind f.0 f.1 f.2 ∙ ap (λ l. 32 ∷ (l ++ 32 ∷ (f.1 ++ 32 ∷ f.2))) n.2
          ∙ ap (λ l. 32 ∷ (get_or names n.0 [] ++ 32 ∷ (l ++ 32 ∷ f.2))) f.5.2 ∙ ap (λ l. 32 ∷ (get_or names n.0 [] ++ 32 ∷ (decimal f.5.0 ++ 32 ∷ l))) f.6.2),
    )

op_word_apart : (word : List ℕ) (arguments : List Wanted) → TakesArguments word arguments → Lacks 32 word
op_word_apart word arguments (inl x) = ap (λ l. list_all (λ b. not (b == 32)) l) x.0
op_word_apart word arguments (inr (inl (inl w, x))) = ap (λ l. list_all (λ b. not (b == 32)) l) w
op_word_apart word arguments (inr (inl (inr w, x))) = ap (λ l. list_all (λ b. not (b == 32)) l) w
op_word_apart word arguments (inr (inr x)) = ap (λ l. list_all (λ b. not (b == 32)) l) x.0

-- the text of the words of an operation
pub op_read : (names : List (List ℕ)) (rule : Rule) (words : List (List ℕ)) → names_fault names ≡ None
    → AreOpWords rule names words → (text : List ℕ) × IsOpBy names rule text × AreWordsOf text words
op_read names rule [] h are = absurd are
op_read names rule (word ∷ more) h are =
    (word ++ names_text more, spelled_op names rule word are.0 more are.1 are.2, record { joined = refl; apart = (op_word_apart word are.0 are.1, fit_apart rule names are.0 more h are.2) })

op_same : (names : List (List ℕ)) (rule : Rule) (text : List ℕ) (words : List (List ℕ)) (word : List ℕ)
    (arguments : List Wanted) (more : List (List ℕ))
    → names_fault names ≡ None → AreWordsOf text words → text ≡ word ++ names_text more → TakesArguments word arguments
    → FitAll rule names arguments more → AreOpWords rule names words
op_same names rule text words word arguments more h of e t fit =
    let other : AreWordsOf text (word ∷ more) = record { joined = ap (λ l. 32 ∷ l) e; apart = (op_word_apart word arguments t, fit_apart rule names arguments more h fit) } in
    let P : List (List ℕ) → Type 0 = λ l. AreOpWords rule names l in
    subst P (one_words text (word ∷ more) words other of) (arguments, t, fit)

known : (names : List (List ℕ)) (i : ℕ) → i < length names → IsWanted Limits names Register (Some (get_or names i []))
known names i l = (i, is_got names i l)

number : (v : ℕ) → v < 2 ^ 64 → IsNumber Limits (2 ^ 64 - 1) (decimal v)
number v l = (v, omega (arith, l), refl)

-- the words of a text that is an operation
pub op_whole : (names : List (List ℕ)) (rule : Rule) (text : List ℕ) (words : List (List ℕ)) → names_fault names ≡ None
    → AreWordsOf text words → IsOpBy names rule text → AreOpWords rule names words
op_whole names Form text words h of (inl (inl (n, (word, e)))) =
    op_same names Form text words (codes "read") (Register ∷ []) (n ∷ []) h of (e ∙ ap (λ l. codes "read" ++ l) (sym (one_behind n))) (inl (refl, refl)) (word, refl)
op_whole names Form text words h of (inl (inr (inl (n, (d, (word, digits, e)))))) =
    op_same names Form text words (codes "write") (Register ∷ Value ∷ []) (n ∷ d ∷ []) h of (e ∙ ap (λ l. codes "write" ++ l) (sym (two_behind n d))) (inr (inl (inl refl, refl))) (word, (digits, refl))
op_whole names Form text words h of (inl (inr (inr (n, (d, (word, digits, e)))))) =
    op_same names Form text words (codes "swap") (Register ∷ Value ∷ []) (n ∷ d ∷ []) h of (e ∙ ap (λ l. codes "swap" ++ l) (sym (two_behind n d))) (inr (inl (inr refl, refl))) (word, (digits, refl))
op_whole names Form text words h of (inr (n, x, d, (word, low, digits, e))) =
    op_same names Form text words (codes "cas") (Register ∷ Value ∷ Value ∷ []) (n ∷ x ∷ d ∷ []) h of (e ∙ ap (λ l. codes "cas" ++ l) (sym (three_behind n x d))) (inr (inr (refl, refl))) (word, (low, (digits, refl)))
op_whole names Limits text words h of (Read i, fits, e) =
    op_same names Limits text words (codes "read") (Register ∷ []) (get_or names i [] ∷ []) h of (e ∙ ap (λ l. codes "read" ++ l) (sym (one_behind (get_or names i [])))) (inl (refl, refl)) (known names i fits, refl)
op_whole names Limits text words h of (Write i v, fits, e) =
    op_same names Limits text words (codes "write") (Register ∷ Value ∷ []) (get_or names i [] ∷ decimal v ∷ []) h of (e ∙ ap (λ l. codes "write" ++ l) (sym (two_behind (get_or names i []) (decimal v)))) (inr (inl (inl refl, refl))) (known names i fits.0, (number v fits.1, refl))
op_whole names Limits text words h of (Swap i v, fits, e) =
    op_same names Limits text words (codes "swap") (Register ∷ Value ∷ []) (get_or names i [] ∷ decimal v ∷ []) h of (e ∙ ap (λ l. codes "swap" ++ l) (sym (two_behind (get_or names i []) (decimal v)))) (inr (inl (inr refl, refl))) (known names i fits.0, (number v fits.1, refl))
op_whole names Limits text words h of (CompareAndSwap i x v, fits, e) =
    op_same names Limits text words (codes "cas") (Register ∷ Value ∷ Value ∷ []) (get_or names i [] ∷ decimal x ∷ decimal v ∷ []) h of (e ∙ ap (λ l. codes "cas" ++ l) (sym (three_behind (get_or names i []) (decimal x) (decimal v)))) (inr (inr (refl, refl))) (known names i fits.0, (number x fits.1, (number v fits.2, refl)))

-- the text of the words of an event's line
spelled_call : (names : List (List ℕ)) (rule : Rule) (word process op : List ℕ) (more : List (List ℕ))
    → word ≡ codes "call" → IsWanted rule names Process (Some process) → IsOpBy names rule op
    → 32 ∷ op ≡ names_text more → IsEventBy names rule (word ++ names_text (process ∷ more))
spelled_call names Form word process op more w fit is joined = inl (process, op, (fit, is, ap (λ l. l ++ names_text (process ∷ more)) w ∙ ap (λ l. codes "call" ++ 32 ∷ (process ++ l)) (sym joined)))
spelled_call names Limits word process op more w fit is joined =
    (Call fit.0 is.0, (fit.1, is.1), ap (λ l. l ++ names_text (process ∷ more)) w ∙ ap (λ l. codes "call" ++ 32 ∷ (process ++ l)) (sym joined) ∙ ap (λ l. codes "call " ++ (l ++ 32 ∷ op)) fit.2 ∙ ap (λ l. codes "call " ++ (decimal fit.0 ++ 32 ∷ l)) is.2)

spelled_take : (names : List (List ℕ)) (rule : Rule) (word : List ℕ) (more : List (List ℕ)) → word ≡ codes "take"
    → FitAll rule names take_arguments more → IsEventBy names rule (word ++ names_text more)
spelled_take names Form word more w fit =
    let f = three_fit Form names Process Process Frame more fit in
    inr (inl (f.0, f.1, f.2, (f.4, f.5, f.6, ap (λ l. l ++ names_text more) w ∙ ap (λ l. codes "take" ++ l) (ap names_text f.3 ∙ three_behind f.0 f.1 f.2))))
spelled_take names Limits word more w fit =
    let f = three_fit Limits names Process Process Frame more fit in (
      Take f.4.0 f.5.0 f.6.0,
      (f.4.1, f.5.1, f.6.1),
      ap (λ l. l ++ names_text more) w ∙ ap (λ l. codes "take" ++ l) (ap names_text f.3 ∙ three_behind f.0 f.1 f.2 ∙ ap (λ l. 32 ∷ (l ++ 32 ∷ (f.1 ++ 32 ∷ f.2))) f.4.2
          ∙ ap (λ l. 32 ∷ (decimal f.4.0 ++ 32 ∷ (l ++ 32 ∷ f.2))) f.5.2 ∙ ap (λ l. 32 ∷ (decimal f.4.0 ++ 32 ∷ (decimal f.5.0 ++ 32 ∷ l))) f.6.2),
    )

spelled_tick : (names : List (List ℕ)) (rule : Rule) (word : List ℕ) (more : List (List ℕ)) → word ≡ codes "tick"
    → FitAll rule names tick_arguments more → IsEventBy names rule (word ++ names_text more)
spelled_tick names Form word more w fit =
    let f = one_fit Form names Process more fit in
    inr (inr (f.0, (f.2, ap (λ l. l ++ names_text more) w ∙ ap (λ l. codes "tick" ++ l) (ap names_text f.1 ∙ one_behind f.0))))
spelled_tick names Limits word more w fit =
    let f = one_fit Limits names Process more fit in
    (Tick f.2.0, f.2.1, ap (λ l. l ++ names_text more) w ∙ ap (λ l. codes "tick" ++ l) (ap names_text f.1 ∙ one_behind f.0 ∙ ap (λ l. 32 ∷ l) f.2.2))

pub event_read : (names : List (List ℕ)) (rule : Rule) (words : List (List ℕ)) → names_fault names ≡ None
    → AreEventWords rule names words → (text : List ℕ) × IsEventBy names rule text × AreWordsOf text words
event_read names rule [] h are = absurd are
event_read names rule (word ∷ []) h (inl (w, are)) = absurd are
event_read names rule (word ∷ process ∷ more) h (inl (w, are)) =
    let op = op_read names rule more h are.1 in (
      word ++ names_text (process ∷ more),
      spelled_call names rule word process op.0 more w are.0 op.1 op.2.joined,
      record { joined = refl; apart = (ap (λ l. list_all (λ b. not (b == 32)) l) w, (word_apart rule names Process process h are.0, op.2.apart)) },
    )
event_read names rule (word ∷ more) h (inr (inl (w, fit))) =
    (word ++ names_text more, spelled_take names rule word more w fit, record { joined = refl; apart = (ap (λ l. list_all (λ b. not (b == 32)) l) w, fit_apart rule names take_arguments more h fit) })
event_read names rule (word ∷ more) h (inr (inr (w, fit))) =
    (word ++ names_text more, spelled_tick names rule word more w fit, record { joined = refl; apart = (ap (λ l. list_all (λ b. not (b == 32)) l) w, fit_apart rule names tick_arguments more h fit) })

event_same : (names : List (List ℕ)) (rule : Rule) (text : List ℕ) (words : List (List ℕ)) (word : List ℕ)
    (more : List (List ℕ))
    → AreWordsOf text words → text ≡ word ++ names_text more → Lacks 32 word → AreApart more
    → AreEventWords rule names (word ∷ more)
    → AreEventWords rule names words
event_same names rule text words word more of e lack apart are =
    let other : AreWordsOf text (word ∷ more) = record { joined = ap (λ l. 32 ∷ l) e; apart = (lack, apart) } in
    let P : List (List ℕ) → Type 0 = λ l. AreEventWords rule names l in
    subst P (one_words text (word ∷ more) words other of) are

call_same : (names : List (List ℕ)) (rule : Rule) (text : List ℕ) (words : List (List ℕ)) (process op : List ℕ)
    → names_fault names ≡ None → AreWordsOf text words → text ≡ codes "call " ++ (process ++ 32 ∷ op)
    → IsWanted rule names Process (Some process) → IsOpBy names rule op
    → AreEventWords rule names words
call_same names rule text words process op h of e fit is =
    let more = words_of op in
    event_same names rule text words (codes "call") (process ∷ more.0) of (e ∙ ap (λ l. codes "call" ++ 32 ∷ (process ++ l)) more.1.joined) refl (word_apart rule names Process process h fit, more.1.apart) (inl (refl, (fit, op_whole names rule op more.0 h more.1 is)))

take_same : (names : List (List ℕ)) (rule : Rule) (text : List ℕ) (words : List (List ℕ)) (a b c : List ℕ)
    → names_fault names ≡ None → AreWordsOf text words → text ≡ codes "take " ++ (a ++ 32 ∷ (b ++ 32 ∷ c))
    → FitAll rule names take_arguments (a ∷ b ∷ c ∷ [])
    → AreEventWords rule names words
take_same names rule text words a b c h of e fit =
    event_same names rule text words (codes "take") (a ∷ b ∷ c ∷ []) of (e ∙ ap (λ l. codes "take" ++ l) (sym (three_behind a b c))) refl (fit_apart rule names take_arguments (a ∷ b ∷ c ∷ []) h fit) (inr (inl (refl, fit)))

tick_same : (names : List (List ℕ)) (rule : Rule) (text : List ℕ) (words : List (List ℕ)) (a : List ℕ)
    → names_fault names ≡ None → AreWordsOf text words → text ≡ codes "tick " ++ a
    → FitAll rule names tick_arguments (a ∷ []) → AreEventWords rule names words
tick_same names rule text words a h of e fit =
    event_same names rule text words (codes "tick") (a ∷ []) of (e ∙ ap (λ l. codes "tick" ++ l) (sym (one_behind a))) refl (fit_apart rule names tick_arguments (a ∷ []) h fit) (inr (inr (refl, fit)))

-- the words of a text that is an event's line
pub event_whole : (names : List (List ℕ)) (rule : Rule) (text : List ℕ) (words : List (List ℕ))
    → names_fault names ≡ None → AreWordsOf text words → IsEventBy names rule text → AreEventWords rule names words
event_whole names Form text words h of (inl (process, op, (fit, is, e))) =
    call_same names Form text words process op h of e fit is
event_whole names Form text words h of (inr (inl (a, b, c, (x, y, z, e)))) =
    take_same names Form text words a b c h of e (x, (y, (z, refl)))
event_whole names Form text words h of (inr (inr (a, (x, e)))) = tick_same names Form text words a h of e (x, refl)
event_whole names Limits text words h of (Call p op, fits, e) =
    call_same names Limits text words (decimal p) (op_text names op) h of e (p, fits.0, refl) (op, fits.1, refl)
event_whole names Limits text words h of (Take a b c, fits, e) = take_same names Limits text words (decimal a) (decimal b) (decimal c) h of e ((a, fits.0, refl), ((b, fits.1, refl), ((c, fits.2, refl), refl)))
event_whole names Limits text words h of (Tick a, fits, e) =
    tick_same names Limits text words (decimal a) h of e ((a, fits, refl), refl)

goes_off : (Is : List ℕ → Type 0) (Are : List (List ℕ) → Type 0) (before : List (List ℕ))
    → ((text : List ℕ) (words : List (List ℕ)) → AreWordsOf text words → Is text → Are words) → (next : Option (List ℕ))
    → GoesOn Is before next → Follows Are before next
goes_off Is Are before whole None is = whole is.0 before is.2 is.1
goes_off Is Are before whole (Some word) is = (is.1, whole is.0 (before ++ word ∷ is.1) is.3 is.2)

goes_on : (Is : List ℕ → Type 0) (Are : List (List ℕ) → Type 0) (before : List (List ℕ))
    → ((words : List (List ℕ)) → Are words → (text : List ℕ) × Is text × AreWordsOf text words)
    → (next : Option (List ℕ)) → Follows Are before next → GoesOn Is before next
goes_on Is Are before read None is = read before is
goes_on Is Are before read (Some word) is = let t = read (before ++ word ∷ is.0) is.1 in (t.0, is.0, t.1, t.2)

-- the first word with which no such words go on is that with which no such text goes on
pub text_misfit : (Is : List ℕ → Type 0) (Are : List (List ℕ) → Type 0) (W : Option (List ℕ) → Type 0) (text : List ℕ)
    (words : List (List ℕ)) (place : ℕ)
    → ((words : List (List ℕ)) → Are words → (text : List ℕ) × Is text × AreWordsOf text words)
    → ((text : List ℕ) (words : List (List ℕ)) → AreWordsOf text words → Is text → Are words) → AreWordsOf text words → IsWordMisfit Are W words place → IsMisfit Is W text place
text_misfit Is Are W text words place read whole of m =
    let P : List (List ℕ) → Type 0 = λ l. AreWordsOf text l in
    record {
      before = m.before;
      after = m.after;
      words = subst P m.words of;
      number = m.number;
      begun = (m.begun.0, goes_on Is Are m.before read m.begun.0 (m.all m.begun.0 m.begun.1));
      exact = λ next. (λ is. m.only next (goes_off Is Are m.before whole next is), λ is. goes_on Is Are m.before read next (m.all next is));
      wrong = m.wrong;
    }
