-- Readers that stop at a line, and what is passed on of it.
use Rattle.std.proofs.Common.{ℕ, ◌≡◌, ◌+◌, inl, inr, ◌<◌, ◌≤◌, true, false, List, [], ◌∷◌, ◌++◌, length, map, Option}
use Rattle.std.proofs.Common.{None, Some, Result, Ok, Err, refl, sym, ap, ◌∙◌, subst, arith, append_assoc, append-nil}
use Rattle.std.proofs.Common.{length-append}
use Rattle.std.specs.Prelude.{IfErr}
use Rattle.std.specs.Result.{IsErrAnd, OnOk}
use Rattle.std.specs.Fmt.{decimal}
use Rattle.reg_text.specs.Forms.{is_numeral}
use Rattle.reg_text.specs.Reading.{GoesOn, IsNext}
use Rattle.reg_text.specs.Lines.{Rest, StandsIn, IsAsked}
use Rattle.reg_text.specs.declared.faults.Why.{Why}
use Rattle.reg_text.specs.declared.faults.Why.TheVariants.{Form as TextForm, Range as TextRange, End as TextEnd}
use Rattle.reg_text.specs.declared.faults.TextFault.{TextFault}
use Rattle.reg_text.specs.declared.faults.TextFault.TheVariants.{Line as TextLine}
use Rattle.reg_text.proofs.Formed.{number_form, no_truth}
use Rattle.reg_text.proofs.Numbered.{asked_on, goes_on}
use Rattle.reg_text.proofs.Turns.{Taken}
use Rattle.reg_history.specs.ReadFaults.{read_fault, why_of}
use Rattle.reg_history.specs.Refusals.{IsNoCount, IsWrongItem, IsWrongNext}
use Rattle.reg_history.specs.Stops.{IsFailure, IsFirst, IsPlaced}
use Rattle.reg_history.specs.declared.report_faults.ReadFault.{ReadFault}
use Rattle.reg_history.specs.declared.report_faults.ReadFault.TheVariants.{Line}
use Rattle.reg_history.specs.declared.report_faults.ReadWhy.{ReadWhy}
use Rattle.reg_history.specs.declared.report_faults.ReadWhy.TheVariants.{Range}

abbrev pub Wrongs : Type 1
Wrongs = List (List ℕ) → Option (List ℕ) → ReadWhy → Type 0

-- of all lines, as many are passed as the number says
pub total : (whole : List (List ℕ)) (r : Rest) → StandsIn false whole r → r.number + length r.left ≡ length whole
total whole r s =
    let all = ap length s.lines ∙ length-append s.passed r.all in
    let left = ap length s.left in
    let number = s.number in
    omega (arith, all, left, number)

next_number : (old new : Rest) (next : Option (List ℕ)) → IsAsked old new → IsNext old.left next
    → (whole : List (List ℕ)) → StandsIn false whole old → new.number ≡ old.number + 1
next_number old new None asked comes whole s =
    let last = (asked false whole s).0 comes in
    let sum = total whole old s in
    let none = ap length comes in
    omega (arith, last, sum, none)
next_number old new (Some line) asked comes whole s =
    let sum = total whole old s in
    let on = asked_on old new line comes.0 asked comes.1 false whole s in
    let more = total whole new on in
    let one = ap length comes.1 in
    let fewer = ap length ((asked false whole s).1 line comes.0 comes.1).0 in
    omega (arith, sum, more, one, fewer)

pub placed_now : (old new : Rest) (next : Option (List ℕ)) → IsAsked old new → IsNext old.left next
    → IsPlaced old new.number [] next
placed_now old new next asked comes = record {
  middle = old.left;
  read = refl;
  comes = comes;
  number_is = λ whole s. let n = next_number old new next asked comes whole s in omega (arith, n);
}

pub placed_behind : (xs before : List (List ℕ)) (old mid : Rest) (number : ℕ) (next : Option (List ℕ))
    → old.left ≡ xs ++ mid.left → GoesOn old mid → IsPlaced mid number before next
    → IsPlaced old number (xs ++ before) next
placed_behind xs before old mid number next read on p = record {
  middle = p.middle;
  read = read ∙ ap (λ l. xs ++ l) p.read ∙ sym (append_assoc xs before p.middle);
  comes = p.comes;
  number_is = λ whole s.
      let n = p.number_is whole (on false whole s) in
      let first = total whole old s in
      let then = total whole mid (on false whole s) in
      let both = ap length read ∙ length-append xs mid.left in
      let all = length-append xs before in
      omega (arith, n, first, then, both, all);
}

-- the very next line is wrong
pub stops_now : (W : Wrongs) (old new : Rest) (fault : ReadFault) (why : ReadWhy) (next : Option (List ℕ))
    → fault ≡ Line new.number why → IsAsked old new → IsNext old.left next → W [] next why → IsFailure W old fault
stops_now W old new fault why next told asked comes wrong =
    inr (record { number = new.number; why = why; told = told; before = []; next = next; placed = placed_now old new next asked comes; wrong = wrong })

pub stops_first : (IsNone : List ℕ → ReadWhy → Type 0) (old new : Rest) (fault : ReadFault) (why : ReadWhy)
    (next : Option (List ℕ))
    → fault ≡ Line new.number why → IsAsked old new → IsNext old.left next → IsWrongNext IsNone next why
    → IsFailure (IsFirst IsNone) old fault
stops_first IsNone old new fault why next told asked comes wrong =
    stops_now (IsFirst IsNone) old new fault why next told asked comes (refl, wrong)

-- a line after these is wrong
pub fails_behind : (W V : Wrongs) (xs : List (List ℕ)) (old mid : Rest) (fault : ReadFault) → old.left ≡ xs ++ mid.left
    → GoesOn old mid
    → ((before : List (List ℕ)) (next : Option (List ℕ)) (why : ReadWhy) → V before next why → W (xs ++ before) next why) → IsFailure V mid fault → IsFailure W old fault
fails_behind W V xs old mid fault read on more (inl memory) = inl memory
fails_behind W V xs old mid fault read on more (inr s) = inr (record {
  number = s.number;
  why = s.why;
  told = s.told;
  before = xs ++ s.before;
  next = s.next;
  placed = placed_behind xs s.before old mid s.number s.next read on s.placed;
  wrong = more s.before s.next s.why s.wrong;
})

-- what is wrong, in other words
pub fails_as : (W V : Wrongs) (old : Rest) (fault : ReadFault)
    → ((before : List (List ℕ)) (next : Option (List ℕ)) (why : ReadWhy) → V before next why → W before next why)
    → IsFailure V old fault → IsFailure W old fault
fails_as W V old fault more (inl memory) = inl memory
fails_as W V old fault more (inr s) = inr (record { number = s.number; why = s.why; told = s.told; before = s.before; next = s.next; placed = s.placed; wrong = more s.before s.next s.why s.wrong })

-- what is true of a fault is true of it where it is passed on
pub failure_passed_on : {T : Type 0} (r : Result T ReadFault) (P : ReadFault → Type 0) (fault : ReadFault)
    → IsErrAnd r (λ f. f ≡ fault) → P fault → IfErr r P
failure_passed_on (Ok x) P fault h p = tt
failure_passed_on (Err f) P fault h p = subst P (sym h) p

pub not_failed : {T : Type 0} (r : Result T ReadFault) (P : Type 0) (fault : ReadFault) → IsErrAnd r (λ f. f ≡ fault)
    → OnOk r P
not_failed (Ok x) P fault h = absurd h
not_failed (Err f) P fault h = tt

pub failure_as : {T : Type 0} (r : Result T ReadFault) (P Q : ReadFault → Type 0) → ((f : ReadFault) → P f → Q f)
    → IfErr r P → IfErr r Q
failure_as (Ok x) P Q h p = tt
failure_as (Err f) P Q h p = h f p

-- what comes on after a part goes on from before it
pub on_behind : {T : Type 0} (r : Result T ReadFault) (old mid new : Rest) → GoesOn old mid → OnOk r (GoesOn mid new)
    → OnOk r (GoesOn old new)
on_behind (Ok x) old mid new first then = goes_on old mid new first then
on_behind (Err f) old mid new first then = tt

pub same_why : (n : ℕ) (a b : Why) → TextLine n a ≡ TextLine n b → a ≡ b
same_why n a b e = cc

pub told_why : {A : Type 0} (n : ℕ) (f : TextFault) (why w : Why) → f ≡ TextLine n why
    → (let r : Result A TextFault = Err f in r ≡ Err (TextLine n w)) → why ≡ w
told_why n f why w is e = let same : f ≡ TextLine n w = cc in same_why n why w (sym is ∙ same)

-- the fault of a line that is no count
pub count_fails : {A : Type 0} (mark : List ℕ) (limit : ℕ) (old new : Rest) (f : TextFault) (why : Why)
    → f ≡ TextLine new.number why → IsAsked old new
    → (old.left ≡ [] → (let r : Result A TextFault = Err f in r ≡ Err (TextLine new.number TextEnd)))
    → ((digits : List ℕ) (rest : List (List ℕ)) → is_numeral digits ≡ true → old.left ≡ (mark ++ digits) ∷ rest → f ≡ TextLine new.number TextRange)
    → ((line : List ℕ) (rest : List (List ℕ)) → old.left ≡ line ∷ rest → ((digits : List ℕ) → line ≡ mark ++ digits → is_numeral digits ≡ false) → (let r : Result A TextFault = Err f in r ≡ Err (TextLine new.number TextForm)))
    → ((k : ℕ) (rest : List (List ℕ)) → k ≤ limit → old.left ≡ (mark ++ decimal k) ∷ rest → ⊥)
    → (least : ℕ) → IsFailure (IsFirst (IsNoCount mark least limit)) old (read_fault f)
count_fails {A = A} mark limit old new f why is asked end range form whole least = go old.left refl
  where
    told : read_fault f ≡ Line new.number (why_of why)
    told = ap read_fault is

    spoken : (w : Why) → why ≡ w → why_of why ≡ why_of w
    spoken w e = ap why_of e

    go : (left : List (List ℕ)) → old.left ≡ left → IsFailure (IsFirst (IsNoCount mark least limit)) old (read_fault f)
    go [] e = stops_first (IsNoCount mark least limit) old new (read_fault f) (why_of why) None told asked e (spoken TextEnd (told_why {A = A} new.number f why TextEnd is (end e)))
    go (line ∷ rest) e =
        stops_first (IsNoCount mark least limit) old new (read_fault f) (why_of why) (Some line) told asked (rest, e)
        (record {
          none = λ n some few same. whole n rest few (e ∙ ap (λ l. l ∷ rest) same);
          range = λ digits numeral same. spoken TextRange (same_why new.number why TextRange (sym is ∙ range digits rest numeral (e ∙ ap (λ l. l ∷ rest) same)));
          form = λ none. spoken TextForm (told_why {A = A} new.number f why TextForm is (form line rest e none));
        })

-- a count of 0 where there must be one
pub zero_fails : (mark : List ℕ) (limit count : ℕ) (old new : Rest) (fault : ReadFault) → fault ≡ Line new.number Range
    → IsAsked old new → old.left ≡ (mark ++ decimal count) ∷ new.left → count ≡ 0
    → ((k : ℕ) (rest : List (List ℕ)) → k ≤ limit → old.left ≡ (mark ++ decimal k) ∷ rest → count ≡ k)
    → IsFailure (IsFirst (IsNoCount mark 1 limit)) old fault
zero_fails mark limit count old new fault told asked read zero only =
    stops_first (IsNoCount mark 1 limit) old new fault Range (Some (mark ++ decimal count)) told asked (new.left, read)
    (record {
      none = λ n some few same. let k = only n new.left few (read ∙ ap (λ l. l ∷ new.left) same) in absurd (omega (arith, k, zero, some));
      range = λ digits numeral same. refl;
      form = λ none. no_truth (sym (none (decimal count) refl) ∙ number_form (decimal count) count (omega (arith, zero)) refl);
    })

-- the line after these elements is none
pub item_fails : {X : Type 0} (line_of : X → List ℕ) (Fits : List X → X → Type 0)
    (IsNone : List X → List ℕ → ReadWhy → Type 0) (count : ℕ) (old now new : Rest) (xs : List X) (i : ℕ)
    → i < count → Taken line_of Fits count old.left now.left xs i → GoesOn old now
    → (fault : ReadFault) (why : ReadWhy) (next : Option (List ℕ)) → fault ≡ Line new.number why → IsAsked now new → IsNext now.left next → IsWrongNext (IsNone xs) next why → IsFailure (IsWrongItem line_of Fits IsNone count) old fault
item_fails line_of Fits IsNone count old now new xs i less t on fault why next told asked comes wrong =
    fails_behind (IsWrongItem line_of Fits IsNone count) (IsFirst (IsNone xs)) (map line_of xs) old now fault t.lines on
    (λ before after reason w. record { items = xs; are = ap (λ l. map line_of xs ++ l) w.0 ∙ append-nil (map line_of xs); fit = t.fit; fewer = omega (arith, t.count, less); wrong = w.1 })
    (stops_first (IsNone xs) now new fault why next told asked comes wrong)
