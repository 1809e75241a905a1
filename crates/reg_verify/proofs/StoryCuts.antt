-- The parts of a text of reports in a row.
use Rattle.std.proofs.Common.{ℕ, zero, suc, ◌≡◌, ◌+◌, ◌-◌, ◌<◌, ◌≤◌, ◌==◌, ◌&&◌, ◌⊎◌, inl, inr, Bool, true, false}
use Rattle.std.proofs.Common.{Option, None, Some, List, [], ◌∷◌, ◌++◌, length, take, drop, get_or, refl, sym, ap, ap₂}
use Rattle.std.proofs.Common.{◌∙◌, subst, arith, append_assoc, add-one}
use Rattle.std.specs.Prelude.{flat_map, nat_eq}
use Rattle.std.specs.List.{AllZip, starts_with}
use Rattle.std.specs.Str.{IsCharBoundary, IsUtf8}
use Rattle.std.proofs.lemmas.Bool.{cases_order, cond-true, cond-false, eqb-true}
use Rattle.std.proofs.lemmas.List.{drop-drop, flat_map_more, get_or-drop, length-append, length-drop, length-take-le}
use Rattle.std.proofs.lemmas.List.{take-append-drop, take_all, take_at, take_rest}
use Rattle.std.proofs.lemmas.Str.{IsCharBoundary-after_ascii, IsCharBoundary-end, IsCharBoundary-start}
use Rattle.reg_checkers.specs.History.{IsAt}
use Rattle.reg_checkers.proofs.Bridges.{zip_right}
use Rattle.reg_checkers.proofs.OwnOrder.{zip_push}
use Rattle.reg_history.specs.Reports.{Contents, IsReport, SpellsReport}
use Rattle.reg_history.specs.declared.report_faults.ReadFault.{ReadFault}
use Rattle.reg_history.specs.declared.report_faults.ReadFault.TheVariants.{Line, OutOfMemory}
use Rattle.reg_text.specs.Lines.{IsNumbered, begins_with, lines_of}
use Rattle.reg_text.proofs.Numbered.{few_lines}
use Rattle.reg_verify.specs.StoryTexts.{IsUnreadText, SpellsReports, line_feeds, parts_of, report_mark}
use Rattle.reg_verify.specs.StoryParts.{begins_behind, IsReadAs, IsUnreadPart}

-- Where parts end

-- where no further report begins, all is one part
pub whole : (s : List ℕ) → ((i : ℕ) → i < length s → begins_behind s i ≡ false) → parts_of s ≡ s ∷ []
unfolding parts_of
whole [] none = refl
whole (b ∷ s) none =
    cond-false ((b == 10) && starts_with nat_eq s report_mark) ((b ∷ []) ∷ parts_of s) (begins_with b (parts_of s)) (none 0 (omega arith))
    ∙ ap (begins_with b) (whole s (λ i lt. none (suc i) (omega (arith, lt))))

-- the first part ends where a further report begins
pub parted : (s : List ℕ) (j : ℕ) → j < length s → ((i : ℕ) → i < j → begins_behind s i ≡ false)
    → begins_behind s j ≡ true → parts_of s ≡ take (suc j) s ∷ parts_of (drop (suc j) s)
unfolding parts_of
parted [] j within none is = absurd (omega (arith, within))
parted (b ∷ s) zero within none is =
    cond-true ((b == 10) && starts_with nat_eq s report_mark) ((b ∷ []) ∷ parts_of s) (begins_with b (parts_of s)) is
parted (b ∷ s) (suc j) within none is =
    cond-false ((b == 10) && starts_with nat_eq s report_mark) ((b ∷ []) ∷ parts_of s) (begins_with b (parts_of s)) (none 0 (omega arith))
    ∙ ap (begins_with b) (parted s j (omega (arith, within)) (λ i lt. none (suc i) (omega (arith, lt))) is)

both_true : (a b : Bool) → (a && b) ≡ true → (a ≡ true) × (b ≡ true)
both_true true b e = (refl, e)
both_true false b e = absurd (cc)

-- a further report has bytes
pub further : (s : List ℕ) (j : ℕ) → begins_behind s j ≡ true → suc j < length s
further s j is = by (drop (suc j) s) refl
  where
    by : (t : List ℕ) → drop (suc j) s ≡ t → suc j < length s
    by [] e =
        let none : false ≡ true = ap (λ (t : List ℕ). starts_with nat_eq t report_mark) (sym e) ∙ (both_true (get_or s j 0 == 10) (starts_with nat_eq (drop (suc j) s) report_mark) is).1 in
        absurd (cc)
    by (x ∷ t) e =
        let size = ap length e in
        let less = length-drop (suc j) s in
        omega (arith, size, less)

pub parted_at : (s : List ℕ) (j : ℕ) → j < length s → ((i : ℕ) → i < j → begins_behind s i ≡ false)
    → begins_behind s j ≡ true → parts_of s ≡ take (j + 1) s ∷ parts_of (drop (j + 1) s)
parted_at s j within none is = rw add-one (parted s j within none is)

pub newline_at : (s : List ℕ) (j : ℕ) → begins_behind s j ≡ true → get_or s (j + 1 - 1) 0 ≡ 10
newline_at s j is =
    let here : j + 1 - 1 ≡ j = omega arith in
    ap (λ (i : ℕ). get_or s i 0) here ∙ eqb-true (get_or s j 0) 10 (both_true (get_or s j 0 == 10) (starts_with nat_eq (drop (suc j) s) report_mark) is).0

pub seam_is : (s : List ℕ) (j : ℕ) (r : Bool) → (get_or s j 0 == 10) ≡ true
    → r ≡ starts_with nat_eq (take (length s - (j + 1)) (drop (j + 1) s)) report_mark → r ≡ begins_behind s j
seam_is s j r feed is =
    let rest : take (length s - (j + 1)) (drop (j + 1) s) ≡ drop (suc j) s = take_rest s (j + 1) ∙ ap (λ (i : ℕ). drop i s) (add-one j) in
    is ∙ (ap (λ (t : List ℕ). starts_with nat_eq t report_mark) rest ∙ ap (λ (b : Bool). b && starts_with nat_eq (drop (suc j) s) report_mark) (sym feed))

-- a line's number in a text
pub line_within : (text : List ℕ) (number : ℕ) (before : List (List ℕ)) (next : Option (List ℕ))
    → IsNumbered false (lines_of text) number before next → number ≤ length text + 1
line_within text number before None numbered =
    let few = few_lines text in
    let is = numbered.1 in
    omega (arith, few, is)
line_within text number before (Some line) (first, rest, whole_is, shown_is, kept_is, is) =
    let few = few_lines text in
    let size = ap length whole_is in
    let both = length-append first (line ∷ rest) in
    omega (arith, few, size, both, is)

-- Reports that are read so far

pub record IsReadTo (text : List ℕ) (from : ℕ) (reports : List Contents) : Type 0 where
  pub done : List (List ℕ)
  pub parts : parts_of text ≡ done ++ parts_of (drop from text)
  pub text_is : text ≡ flat_map (λ p. p) done ++ drop from text
  pub size : length (flat_map (λ p. p) done) ≡ from
  pub read : AllZip IsReadAs done reports
  pub within : from ≤ length text
  pub boundary : IsCharBoundary text from

-- the first part of the rest is part `length done` of all
at_seam : {X : Type 0} (xs ys : List X) (x : X) → IsAt (xs ++ x ∷ ys) (length xs) x
at_seam [] ys x = refl
at_seam (y ∷ xs) ys x = at_seam xs ys x

left_of : {X : Type 0} (xs ys : List X) (k : ℕ) (x : X) → k < length xs → IsAt (xs ++ ys) k x → IsAt xs k x
left_of [] ys k x lt at = absurd (omega (arith, lt))
left_of (y ∷ xs) ys zero x lt at = at
left_of (y ∷ xs) ys (suc k) x lt at = left_of xs ys k x (omega (arith, lt)) at

-- a part that is no report's
pub unread : (text : List ℕ) (from : ℕ) (reports : List Contents) (part : List ℕ) (rest : List (List ℕ))
    (fault : ReadFault)
    → IsReadTo text from reports → parts_of (drop from text) ≡ part ∷ rest → IsUnreadPart (take from text) part fault
    → IsUnreadText text fault
unread text from reports part rest OutOfMemory so_far is why = tt
unread text from reports part rest (Line line told) so_far is why =
    let all : parts_of text ≡ so_far.done ++ part ∷ rest = so_far.parts ∙ ap (λ l. so_far.done ++ l) is in
    let here : IsAt (parts_of text) (length so_far.done) part = subst (λ (l : List (List ℕ)). IsAt l (length so_far.done) part) (sym all) (at_seam so_far.done rest part) in
    let first : take (length so_far.done) (parts_of text) ≡ so_far.done = ap (take (length so_far.done)) all ∙ take_at so_far.done (part ∷ rest) (length so_far.done) refl in
    let bytes : take from text ≡ flat_map (λ p. p) so_far.done = ap (take from) so_far.text_is ∙ take_at (flat_map (λ p. p) so_far.done) (drop from text) from so_far.size in
    record {
      place = length so_far.done;
      part = part;
      at = here;
      before = λ k earlier lt at.
          let in_done : IsAt so_far.done k earlier = left_of so_far.done (part ∷ rest) k earlier lt (subst (λ (l : List (List ℕ)). IsAt l k earlier) all at) in
          let found = zip_right IsReadAs so_far.done reports k earlier so_far.read in_done in
          (found.0, found.2.1);
      number = why.0;
      line_is = why.1 ∙ ap (λ (l : List ℕ). line_feeds l + why.0) (bytes ∙ ap (flat_map (λ p. p)) (sym first));
      refused = why.2;
      none = why.3;
      never = λ others spelled. let found = zip_right (λ p r. IsReport r × SpellsReport p r) (parts_of text) others (length so_far.done) part spelled here in why.3 found.0 found.2.1;
    }

-- one more report is read
pub read_more : (text : List ℕ) (from n : ℕ) (reports more : List Contents) (r : Contents) → IsReadTo text from reports
    → n ≤ length (drop from text)
    → parts_of (drop from text) ≡ take n (drop from text) ∷ parts_of (drop n (drop from text))
    → IsReadAs (take n (drop from text)) r
    → more ≡ reports ++ r ∷ [] → IsCharBoundary text (from + n) → IsReadTo text (from + n) more
read_more text from n reports more r so_far within is spelled more_is boundary =
    let rest = drop from text in
    let part = take n rest in
    let behind : drop n rest ≡ drop (from + n) text = drop-drop n from text in
    let flat : flat_map (λ p. p) (so_far.done ++ part ∷ []) ≡ flat_map (λ p. p) so_far.done ++ part = sym (flat_map_more (λ (p : List ℕ). p) [] so_far.done part) in
    let size = length-append (flat_map (λ p. p) so_far.done) part in
    let short = length-take-le n rest within in
    let long = length-drop from text in
    record {
      done = so_far.done ++ part ∷ [];
      parts = so_far.parts ∙ (ap (λ l. so_far.done ++ l) (is ∙ ap (λ l. part ∷ parts_of l) behind) ∙ sym (append_assoc so_far.done (part ∷ []) (parts_of (drop (from + n) text))));
      text_is = so_far.text_is ∙ (ap (λ l. flat_map (λ p. p) so_far.done ++ l) (sym (take-append-drop n rest)) ∙ (sym (append_assoc (flat_map (λ p. p) so_far.done) part (drop n rest)) ∙ (ap (λ l. l ++ drop n rest) (sym flat) ∙ ap (λ l. flat_map (λ p. p) (so_far.done ++ part ∷ []) ++ l) behind)));
      size = ap length flat ∙ (size ∙ (let a = so_far.size in omega (arith, a, short)));
      read = subst (λ (l : List Contents). AllZip IsReadAs (so_far.done ++ part ∷ []) l) (sym more_is) (zip_push IsReadAs so_far.done reports part r so_far.read spelled);
      within = (let a = so_far.within in omega (arith, a, within, long));
      boundary = boundary;
    }

-- the last report is read
all_read : (text : List ℕ) (from : ℕ) (reports more : List Contents) (r : Contents) → IsReadTo text from reports
    → parts_of (drop from text) ≡ drop from text ∷ [] → IsReadAs (drop from text) r → more ≡ reports ++ r ∷ []
    → AllZip IsReadAs (parts_of text) more
all_read text from reports more r so_far is spelled more_is =
    let all : parts_of text ≡ so_far.done ++ drop from text ∷ [] = so_far.parts ∙ ap (λ l. so_far.done ++ l) is in
    subst (λ (l : List (List ℕ)). AllZip IsReadAs l more) (sym all)
    (subst (λ (l : List Contents). AllZip IsReadAs (so_far.done ++ drop from text ∷ []) l) (sym more_is) (zip_push IsReadAs so_far.done reports (drop from text) r so_far.read spelled))

they_are : (parts : List (List ℕ)) (rs : List Contents) → AllZip IsReadAs parts rs
    → AllZip (λ part r. IsReport r × SpellsReport part r) parts rs
they_are [] [] zip = tt
they_are [] (r ∷ rs) zip = absurd zip
they_are (p ∷ parts) [] zip = absurd zip
they_are (p ∷ parts) (r ∷ rs) zip = ((zip.0.0, zip.0.1), they_are parts rs zip.1)

only_they : (parts : List (List ℕ)) (rs ss : List Contents) → AllZip IsReadAs parts rs
    → AllZip (λ part r. IsReport r × SpellsReport part r) parts ss → ss ≡ rs
only_they [] [] [] zip other = refl
only_they [] [] (s ∷ ss) zip other = absurd other
only_they [] (r ∷ rs) ss zip other = absurd zip
only_they (p ∷ parts) [] ss zip other = absurd zip
only_they (p ∷ parts) (r ∷ rs) [] zip other = absurd other
only_they (p ∷ parts) (r ∷ rs) (s ∷ ss) zip other =
    ap₂ (λ (x : Contents) (xs : List Contents). x ∷ xs) (zip.0.2 s other.0.1) (only_they parts rs ss zip.1 other.1)

-- nothing is read yet
pub read_none : (text : List ℕ) → IsUtf8 text → IsReadTo text 0 []
read_none text utf8 = record { done = []; parts = refl; text_is = refl; size = refl; read = tt; within = omega arith; boundary = IsCharBoundary-start text utf8 }

-- what is told of the rest of a text, told of the text
pub rest_is : (bytes text : List ℕ) (from : ℕ) → bytes ≡ text
    → take (length bytes - from) (drop from bytes) ≡ drop from text
rest_is bytes text from is = take_rest bytes from ∙ ap (drop from) is

pub boundary_at : (text s : List ℕ) (from n : ℕ) → IsUtf8 text → s ≡ drop from text → from ≤ length text → n ≤ length s
    → (n < length s → (0 < n) × (get_or s (n - 1) 0 ≡ 10) × (parts_of s ≡ take n s ∷ parts_of (drop n s)))
    → IsCharBoundary text (from + n)
boundary_at text s from n utf8 is after within more = by (cases_order n (length s))
  where
    size : length s ≡ length text - from
    size = ap length is ∙ length-drop from text

    by : (n ≡ length s) ⊎ ((n < length s) ⊎ (length s < n)) → IsCharBoundary text (from + n)
    by (inl e) = subst (IsCharBoundary text) (let z = size in omega (arith, z, e, after)) (IsCharBoundary-end text)
    by (inr (inl lt)) =
        let m = more lt in
        let feed : get_or text (from + (n - 1)) 0 ≡ 10 = sym (get_or-drop from text (n - 1) 0) ∙ (ap (λ (t : List ℕ). get_or t (n - 1) 0) (sym is) ∙ m.1) in
        let z = size in
        let some = m.0 in
        let place : from + (n - 1) + 1 ≡ from + n = omega (arith, some) in
        subst (IsCharBoundary text) place (IsCharBoundary-after_ascii text (from + (n - 1)) utf8 (omega (arith, z, lt, some, after)) (omega (arith, feed)))
    by (inr (inr lt)) = absurd (omega (arith, lt, within))

pub first_behind : (text s : List ℕ) (from n : ℕ) → s ≡ drop from text
    → (rest : List (List ℕ)) × (parts_of s ≡ take n s ∷ rest)
    → (rest : List (List ℕ)) × (parts_of (drop from text) ≡ take (from + n - from) (drop from text) ∷ rest)
first_behind text s from n is first =
    let count : n ≡ from + n - from = omega arith in
    (first.0, subst (λ (i : ℕ). parts_of (drop from text) ≡ take i (drop from text) ∷ first.0) count (subst (λ (t : List ℕ). parts_of t ≡ take n t ∷ first.0) is first.1))

pub last_behind : (text s : List ℕ) (from n : ℕ) → s ≡ drop from text → from ≤ length text
    → (n ≡ length s → parts_of s ≡ s ∷ []) → from + n ≡ length text → parts_of (drop from text) ≡ drop from text ∷ []
last_behind text s from n is after last end =
    let size = ap length is in
    let less = length-drop from text in
    subst (λ (t : List ℕ). parts_of t ≡ t ∷ []) is (last (omega (arith, size, less, end, after)))

pub more_behind : (text s : List ℕ) (from n : ℕ) → s ≡ drop from text → from ≤ length text
    → (n < length s → (0 < n) × (get_or s (n - 1) 0 ≡ 10) × (parts_of s ≡ take n s ∷ parts_of (drop n s)))
    → from + n < length text
    → (from < from + n) × (parts_of (drop from text) ≡ take (from + n - from) (drop from text) ∷ parts_of (drop (from + n) text))
more_behind text s from n is after more end =
    let size = ap length is in
    let less = length-drop from text in
    let m = more (omega (arith, size, less, end, after)) in
    let some = m.0 in
    let count : n ≡ from + n - from = omega arith in
    let here : parts_of (drop from text) ≡ take n (drop from text) ∷ parts_of (drop n (drop from text)) = subst (λ (t : List ℕ). parts_of t ≡ take n t ∷ parts_of (drop n t)) is m.2 in (
      omega (arith, some),
      here ∙ (ap (λ (i : ℕ). take i (drop from text) ∷ parts_of (drop n (drop from text))) count ∙ ap (λ (t : List ℕ). take (from + n - from) (drop from text) ∷ parts_of t) (drop-drop n from text)),
    )

-- a report is read, up to this place
pub read_to : (text : List ℕ) (from end : ℕ) (reports more : List Contents) (r : Contents) → IsReadTo text from reports
    → from ≤ end → end ≤ length text
    → parts_of (drop from text) ≡ take (end - from) (drop from text) ∷ parts_of (drop end text)
    → IsReadAs (take (end - from) (drop from text)) r → more ≡ reports ++ r ∷ [] → IsCharBoundary text end → IsReadTo text end more
read_to text from end reports more r so_far after within is spelled more_is boundary =
    let place : from + (end - from) ≡ end = omega (arith, after) in
    let long = length-drop from text in
    let behind : drop end text ≡ drop (end - from) (drop from text) = ap (λ (i : ℕ). drop i text) (sym place) ∙ sym (drop-drop (end - from) from text) in
    subst (λ (i : ℕ). IsReadTo text i more) place
    (read_more text from (end - from) reports more r so_far (omega (arith, long, within)) (is ∙ ap (λ (t : List ℕ). take (end - from) (drop from text) ∷ parts_of t) behind) spelled more_is (subst (IsCharBoundary text) (sym place) boundary))

-- the last report is read
pub read_last : (text : List ℕ) (from end : ℕ) (reports more : List Contents) (r : Contents)
    → IsReadTo text from reports → end ≡ length text → parts_of (drop from text) ≡ drop from text ∷ []
    → IsReadAs (take (end - from) (drop from text)) r → more ≡ reports ++ r ∷ []
    → SpellsReports text more × ((others : List Contents) → SpellsReports text others → others ≡ more)
read_last text from end reports more r so_far whole is spelled more_is =
    let long = length-drop from text in
    let all : take (end - from) (drop from text) ≡ drop from text = take_all (end - from) (drop from text) (omega (arith, long, whole)) in
    let zip = all_read text from reports more r so_far is (subst (λ (t : List ℕ). IsReadAs t r) all spelled) more_is in
    (they_are (parts_of text) more zip, λ others spells. only_they (parts_of text) more others zip spells)

pub unread_behind : (text bytes part : List ℕ) (from end : ℕ) (reports : List Contents) (fault : ReadFault)
    → bytes ≡ text → part ≡ take (end - from) (drop from text) → IsReadTo text from reports
    → (rest : List (List ℕ)) × (parts_of (drop from text) ≡ take (end - from) (drop from text) ∷ rest)
    → IsUnreadPart (take from bytes) part fault → IsUnreadText text fault
unread_behind text bytes part from end reports fault same is so_far first why =
    unread text from reports (take (end - from) (drop from text)) first.0 fault so_far first.1
    (subst (λ (b : List ℕ). IsUnreadPart (take from b) (take (end - from) (drop from text)) fault) same (subst (λ (p : List ℕ). IsUnreadPart (take from bytes) p fault) is why))
