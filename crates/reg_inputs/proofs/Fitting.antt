-- Words of a text, and what is wanted in their places.
use Rattle.std.proofs.Common.{ℕ, zero, suc, ◌≡◌, ◌≢◌, IsTrue, ◌+◌, ◌<◌, ◌≤◌, slice_index_or, get_or, ◌==◌, not, Bool}
use Rattle.std.proofs.Common.{false, List, [], ◌∷◌, ◌++◌, length, take, drop, refl, sym, ap, subst, ◌∙◌, arith, inl}
use Rattle.std.proofs.Common.{inr, Option, Some, None, append_assoc, append-nil}
use Rattle.std.specs.List.{list_all}
use Rattle.std.proofs.lemmas.Grind.{flat_map-append}
use Rattle.reg_text.specs.Parts.{Lacks}
use Rattle.reg_text.specs.Words.{names_text}
use Rattle.reg_text.specs.Reading.{Starts}
use Rattle.reg_text.proofs.NamesLack.{both_true}
use Rattle.reg_text.proofs.Worded.{starts, not_lacking}
use Rattle.reg_inputs.specs.declared.misfits.Rule.{Rule}
use Rattle.reg_inputs.specs.declared.misfits.Wanted.{Wanted}
use Rattle.reg_inputs.specs.declared.misfits.Wanted.TheVariants.{Event, Operation, Process, Frame, Value, Register, End}
use Rattle.reg_inputs.specs.declared.misfits.Misfit.{Misfit}
use Rattle.reg_inputs.specs.Misfits.{IsWanted, AreApart, first_of}
use Rattle.reg_inputs.specs.Arguments.{FitAll, IsPlain, Reached, IsStop, next_of}

tail_lacks : (b : ℕ) (bs : List ℕ) → Lacks 32 (b ∷ bs) → Lacks 32 bs
tail_lacks b bs h = (both_true (not (b == 32)) (list_all (λ c. not (c == 32)) bs) h).1

no_begin : (b : ℕ) (bs more rest : List ℕ) → Lacks 32 (b ∷ bs) → Starts 32 rest → rest ≡ b ∷ (bs ++ more) → ⊥
no_begin b bs more rest h (inl e) same = let two : [] ≡ b ∷ (bs ++ more) = sym e ∙ same in absurd (cc)
no_begin b bs more rest h (inr s) same =
    let is : 32 ≡ b = ap (λ l. get_or l 0 0) (sym s.1 ∙ same) in
    let P : ℕ → Type 0 = λ x. Lacks 32 (x ∷ bs) in
    not_lacking 32 [] bs (subst P (sym is) h)

-- words without spaces, each before a space or the end, are cut in one way
pub cut_same : (a b ra rb : List ℕ) → Lacks 32 a → Lacks 32 b → Starts 32 ra → Starts 32 rb → a ++ ra ≡ b ++ rb
    → (a ≡ b) × (ra ≡ rb)
cut_same [] [] ra rb la lb sa sb e = (refl, e)
cut_same [] (y ∷ b) ra rb la lb sa sb e = absurd (no_begin y b rb ra lb sa e)
cut_same (x ∷ a) [] ra rb la lb sa sb e = absurd (no_begin x a ra rb la sb (sym e))
cut_same (x ∷ a) (y ∷ b) ra rb la lb sa sb e =
    let head : x ≡ y = ap (λ l. get_or l 0 0) e in
    let more = cut_same a b ra rb (tail_lacks x a la) (tail_lacks y b lb) sa sb (ap (drop 1) e) in
    (ap (λ z. z ∷ a) head ∙ ap (λ l. y ∷ l) more.0, more.1)

starts_behind : (before : List (List ℕ)) (rest : List ℕ) → Starts 32 rest → Starts 32 (names_text before ++ rest)
starts_behind [] rest s = s
starts_behind (b ∷ before) rest s = inr ((b ++ names_text before) ++ rest, refl)

-- words of a text that begins with these words
pub cut_words : (before words : List (List ℕ)) (rest : List ℕ) → AreApart before → AreApart words → Starts 32 rest
    → names_text words ≡ names_text before ++ rest
    → (after : List (List ℕ)) × (words ≡ before ++ after) × (rest ≡ names_text after) × AreApart after
cut_words [] words rest ab aw s e = (words, refl, sym e, aw)
cut_words (b ∷ before) [] rest ab aw s e = absurd (cc)
cut_words (b ∷ before) (w ∷ words) rest ab aw s e =
    let inner : w ++ names_text words ≡ b ++ (names_text before ++ rest) = ap (drop 1) e ∙ append_assoc b (names_text before) rest in
    let both = cut_same w b (names_text words) (names_text before ++ rest) aw.0 ab.0 (starts words) (starts_behind before rest s) inner in
    let more = cut_words before words rest ab.1 aw.1 s both.1 in
    (more.0, ap (λ l. l ∷ words) both.0 ∙ ap (λ l. b ∷ l) more.1, more.2, more.3)

pub no_words : (words : List (List ℕ)) → names_text words ≡ [] → words ≡ []
no_words [] e = refl
no_words (w ∷ words) e = absurd (cc)

-- the words of a text
pub same_words : (a b : List (List ℕ)) → AreApart a → AreApart b → names_text a ≡ names_text b → a ≡ b
same_words a b la lb e =
    let cut = cut_words b a [] lb la (inl refl) (e ∙ sym (append-nil (names_text b))) in
    let none : cut.0 ≡ [] = no_words cut.0 (sym cut.2) in
    cut.1 ∙ ap (λ l. b ++ l) none ∙ append-nil b

pub fit_more : (rule : Rule) (names : List (List ℕ)) (done : List Wanted) (before : List (List ℕ)) (wanted : Wanted)
    (word : List ℕ)
    → FitAll rule names done before → IsWanted rule names wanted (Some word)
    → FitAll rule names (done ++ wanted ∷ []) (before ++ word ∷ [])
fit_more rule names [] before wanted word fit is = let P : List (List ℕ) → Type 0 = λ l. FitAll rule names (wanted ∷ []) (l ++ word ∷ []) in subst P (sym fit) (is, refl)
fit_more rule names (d ∷ done) [] wanted word fit is = absurd fit
fit_more rule names (d ∷ done) (b ∷ before) wanted word fit is =
    (fit.0, fit_more rule names done before wanted word fit.1 is)

pub fit_length : (rule : Rule) (names : List (List ℕ)) (done : List Wanted) (before : List (List ℕ))
    → FitAll rule names done before → length before ≡ length done
fit_length rule names [] before fit = ap length fit
fit_length rule names (d ∷ done) [] fit = absurd fit
fit_length rule names (d ∷ done) (b ∷ before) fit = ap suc (fit_length rule names done before fit.1)

apart_more : (before : List (List ℕ)) (word : List ℕ) → AreApart before → Lacks 32 word → AreApart (before ++ word ∷ [])
apart_more [] word a l = (l, tt)
apart_more (b ∷ before) word a l = (a.0, apart_more before word a.1 l)

-- nothing is read yet
pub reached_none : (rule : Rule) (names : List (List ℕ)) (text : List ℕ) → Starts 32 text
    → Reached rule names [] text text
reached_none rule names text starts = record { before = []; text = refl; apart = tt; fit = refl; starts = starts }

-- one word more
pub reached_more : (rule : Rule) (names : List (List ℕ)) (done : List Wanted) (text rest : List ℕ) (wanted : Wanted)
    (word later : List ℕ)
    → Reached rule names done text rest
    → (rest ≡ 32 ∷ (word ++ later)) × Lacks 32 word × Starts 32 later → IsWanted rule names wanted (Some word) → Reached rule names (done ++ wanted ∷ []) text later
reached_more rule names done text rest wanted word later r next is = record {
  before = r.before ++ word ∷ [];
  text = r.text ∙ ap (λ l. names_text r.before ++ l) next.0 ∙ sym (append_assoc (names_text r.before) (32 ∷ word) later) ∙ ap (λ l. (names_text r.before ++ l) ++ later) (sym (append-nil (32 ∷ word)))
      ∙ ap (λ l. l ++ later) (sym (flat_map-append (λ n. 32 ∷ n) r.before (word ∷ [])));
  apart = apart_more r.before word r.apart next.1;
  fit = fit_more rule names done r.before wanted word r.fit is;
  starts = next.2;
}

-- all words were read
pub reached_all : (rule : Rule) (names : List (List ℕ)) (done : List Wanted) (text rest : List ℕ)
    (words : List (List ℕ))
    → Reached rule names done text rest → rest ≡ [] → AreApart words → text ≡ names_text words
    → FitAll rule names done words
reached_all rule names done text rest words r none apart e =
    let same : words ≡ r.before = same_words words r.before apart r.apart (sym e ∙ r.text ∙ ap (λ l. names_text r.before ++ l) none ∙ append-nil (names_text r.before)) in
    let P : List (List ℕ) → Type 0 = λ l. FitAll rule names done l in
    subst P (sym same) r.fit

-- the next word isn't what is wanted
pub stopped : (rule : Rule) (names : List (List ℕ)) (all done left : List Wanted) (text rest : List ℕ)
    (words : List (List ℕ)) (skipped : ℕ) (misfit : Misfit)
    → Reached rule names done text rest → all ≡ done ++ left
    → AreApart words → text ≡ names_text words → misfit.word ≡ skipped + length done → misfit.wanted ≡ next_of left → misfit.rule ≡ rule
    → ((after : List (List ℕ)) → rest ≡ names_text after → AreApart after → ¬ IsWanted rule names (next_of left) (first_of after))
    → IsStop skipped rule names all words misfit
stopped rule names all done left text rest words skipped misfit r is apart e word wanted by wrong =
    let cut = cut_words r.before words rest r.apart apart r.starts (sym e ∙ r.text) in
    record {
      done = done;
      left = left;
      before = r.before;
      after = cut.0;
      arguments = is;
      words = cut.1;
      fit = r.fit;
      number = ap (λ n. skipped + n) (fit_length rule names done r.before r.fit) ∙ sym word;
      wanted = wanted;
      rule = by;
      wrong = wrong cut.0 cut.2 cut.3;
    }

-- no word is left
pub ended : (rest : List ℕ) (after : List (List ℕ)) → ((r : List ℕ) → rest ≡ 32 ∷ r → ⊥) → rest ≡ names_text after
    → after ≡ []
ended rest [] none e = refl
ended rest (a ∷ after) none e = absurd (none (a ++ names_text after) e)

only_end : (rule : Rule) (names : List (List ℕ)) (wanted : Wanted) → IsWanted rule names wanted None → wanted ≡ End
only_end rule names Event is = absurd is
only_end rule names Operation is = absurd is
only_end rule names Process is = absurd is
only_end rule names Frame is = absurd is
only_end rule names Value is = absurd is
only_end rule names Register is = absurd is
only_end rule names End is = refl

pub not_end : (rule : Rule) (names : List (List ℕ)) (wanted other : Wanted) (after : List (List ℕ)) → after ≡ []
    → wanted ≢ End → other ≡ wanted → IsWanted rule names other (first_of after) → ⊥
not_end rule names wanted other after none plain same is =
    let P : Wanted → Type 0 = λ w. IsWanted rule names w (first_of after) in
    let Q : List (List ℕ) → Type 0 = λ l. IsWanted rule names wanted (first_of l) in
    plain (only_end rule names wanted (subst Q none (subst P same is)))

pub not_word : (rule : Rule) (names : List (List ℕ)) (wanted other : Wanted) (word : List ℕ) (after : List (List ℕ))
    (found : Bool)
    → found ≡ false → (IsWanted rule names wanted (Some word) → IsTrue found) → first_of after ≡ Some word
    → other ≡ wanted → IsWanted rule names other (first_of after) → ⊥
not_word rule names wanted other word after found none fits first same is =
    let P : Wanted → Type 0 = λ w. IsWanted rule names w (first_of after) in
    let Q : Option (List ℕ) → Type 0 = λ l. IsWanted rule names wanted l in
    let R : Bool → Type 0 = λ b. IsTrue b in
    let bad = subst R none (fits (subst Q first (subst P same is))) in
    absurd (cc)

pub plain_at : (all : List Wanted) (k : ℕ) → IsPlain all → k < length all → slice_index_or all k Event ≢ End
plain_at [] k plain l = absurd (omega (arith, l))
plain_at (a ∷ all) zero plain l = plain.0
plain_at (a ∷ all) (suc k) plain l = plain_at all k plain.1 (omega (arith, l))

-- the next word of a text that begins with one
pub first_is : (after : List (List ℕ)) (rest word later : List ℕ) → rest ≡ 32 ∷ (word ++ later) → Lacks 32 word
    → Starts 32 later → rest ≡ names_text after → AreApart after → first_of after ≡ Some word
first_is [] rest word later next lack s e apart = absurd (cc)
first_is (a ∷ after) rest word later next lack s e apart =
    let inner : a ++ names_text after ≡ word ++ later = ap (drop 1) (sym e ∙ next) in
    ap Some (cut_same a word (names_text after) later apart.0 lack (starts after) s inner).0

pub take_all : (all : List Wanted) (k : ℕ) → length all ≤ k → take k all ≡ all
take_all [] zero l = refl
take_all [] (suc k) l = refl
take_all (a ∷ all) zero l = absurd (omega (arith, l))
take_all (a ∷ all) (suc k) l = ap (λ t. a ∷ t) (take_all all k (omega (arith, l)))

take_one : (all : List Wanted) (k : ℕ) (other : Wanted) → k < length all
    → take (suc k) all ≡ take k all ++ slice_index_or all k other ∷ []
take_one [] k other l = absurd (omega (arith, l))
take_one (a ∷ all) zero other l = refl
take_one (a ∷ all) (suc k) other l = ap (λ t. a ∷ t) (take_one all k other (omega (arith, l)))

pub take_next : (all : List Wanted) (k : ℕ) (other : Wanted) → k < length all
    → take (k + 1) all ≡ take k all ++ slice_index_or all k other ∷ []
take_next all k other l = let up : k + 1 ≡ suc k = omega arith in ap (λ n. take n all) up ∙ take_one all k other l

pub lengths : (all : List Wanted) (k : ℕ) → k ≤ length all → length (take k all) ≡ k
lengths [] zero l = refl
lengths [] (suc k) l = absurd (omega (arith, l))
lengths (a ∷ all) zero l = refl
lengths (a ∷ all) (suc k) l = ap suc (lengths all k (omega (arith, l)))

pub none_left : (all : List Wanted) (k : ℕ) → length all ≤ k → drop k all ≡ []
none_left [] zero l = refl
none_left [] (suc k) l = refl
none_left (a ∷ all) zero l = absurd (omega (arith, l))
none_left (a ∷ all) (suc k) l = none_left all k (omega (arith, l))

-- a word is left where none may be
pub no_more : (rule : Rule) (names : List (List ℕ)) (wanted : Wanted) (rest : List ℕ) (after : List (List ℕ))
    → (length rest == 0) ≡ false → rest ≡ names_text after → wanted ≡ End → IsWanted rule names wanted (first_of after)
    → ⊥
no_more rule names wanted rest [] some e end is =
    let P : List ℕ → Type 0 = λ l. (length l == 0) ≡ false in let bad = subst P e some in absurd (cc)
no_more rule names wanted rest (a ∷ after) some e end is =
    let P : Wanted → Type 0 = λ w. IsWanted rule names w (Some a) in subst P end is
