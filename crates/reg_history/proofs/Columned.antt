-- A number in front of a mark, with the spaces that fill its column.
use Rattle.std.proofs.Common.{ℕ, zero, suc, ◌≡◌, ◌+◌, ◌-◌, ◌≤◌, List, ◌∷◌, ◌++◌, codes, length, take, drop, min}
use Rattle.std.proofs.Common.{replicate, refl, sym, ap, ◌∙◌, append_assoc, arith}
use Rattle.reg_text.specs.Columns.{to_right, to_left}
use Rattle.std.proofs.lemmas.List.{take-append-drop, length-append, length-replicate, length-drop, take_all}
use Rattle.std.proofs.Math.Seq.{take-append_seam, drop-append-add}

drop_spaces : (k m : ℕ) (rest : List ℕ) → drop k (replicate (k + m) 32 ++ rest) ≡ replicate m 32 ++ rest
drop_spaces zero m rest = ap (λ j. replicate j 32 ++ rest) (omega arith)
drop_spaces (suc k) m rest =
    let e : suc k + m ≡ suc (k + m) = omega arith in
    ap (λ j. drop (suc k) (replicate j 32 ++ rest)) e ∙ drop_spaces k m rest

take_spaces : (k m : ℕ) (rest : List ℕ) → take k (replicate (k + m) 32 ++ rest) ≡ replicate k 32
take_spaces zero m rest = refl
take_spaces (suc k) m rest =
    let e : suc k + m ≡ suc (k + m) = omega arith in
    ap (λ j. take (suc k) (replicate j 32 ++ rest)) e ∙ ap (λ l. 32 ∷ l) (take_spaces k m rest)

-- less of them
pub fewer_spaces : (places k : ℕ) (marked : List ℕ) → marked ≡ replicate places 32 ++ drop places marked → k ≤ places
    → drop k marked ≡ replicate (places - k) 32 ++ drop places marked
fewer_spaces places k marked e l =
    let split : places ≡ k + (places - k) = omega arith in
    ap (λ x. drop k x) (e ∙ ap (λ j. replicate j 32 ++ drop places marked) split) ∙ drop_spaces k (places - k) (drop places marked)

pub left_built : (places : ℕ) (ds marked : List ℕ) → marked ≡ replicate places 32 ++ drop places marked
    → ds ++ drop (min (length ds) places) marked ≡ to_left places ds ++ drop places marked
left_built places ds marked e =
    let k : ℕ = min (length ds) places in
    let room : k ≤ places = omega arith in
    let left : places - k ≡ places - length ds = omega arith in
    ap (λ l. ds ++ l) (fewer_spaces places k marked e room ∙ ap (λ j. replicate j 32 ++ drop places marked) left) ∙ sym (append_assoc ds (replicate (places - length ds) 32) (drop places marked))

-- a number written over the last of the blanks that a line begins with
right_written : (places start : ℕ) (ds rest old new : List ℕ) → old ≡ replicate places 32 ++ rest
    → start + length ds ≡ places → drop start new ≡ ds ++ drop places old → take start new ≡ take start old
    → new ≡ to_right places ds ++ rest
right_written places start ds rest old new e count written before =
    let split : places ≡ start + length ds = omega (arith, count) in
    let whole : places ≡ places + 0 = omega arith in
    let pad : start ≡ places - length ds = omega (arith, count) in
    let blank : take start old ≡ replicate (places - length ds) 32 = ap (λ x. take start x) (e ∙ ap (λ j. replicate j 32 ++ rest) split) ∙ take_spaces start (length ds) rest ∙ ap (λ j. replicate j 32) pad in
    let left : drop places old ≡ rest = ap (λ x. drop places x) (e ∙ ap (λ j. replicate j 32 ++ rest) whole) ∙ drop_spaces places 0 rest in
    sym (take-append-drop start new) ∙ ap (λ l. l ++ drop start new) (before ∙ blank) ∙ ap (λ l. replicate (places - length ds) 32 ++ l) (written ∙ ap (λ l. ds ++ l) left)
    ∙ sym (append_assoc (replicate (places - length ds) 32) ds rest)

-- a number written over the first of the blanks behind a front
left_written : (places : ℕ) (front ds rest old new : List ℕ) → old ≡ front ++ (replicate places 32 ++ rest)
    → length ds ≤ places → drop (length front) new ≡ ds ++ drop (length front + length ds) old
    → take (length front) new ≡ take (length front) old → new ≡ front ++ (to_left places ds ++ rest)
left_written places front ds rest old new e room written before =
    let split : places ≡ length ds + (places - length ds) = omega (arith, room) in
    let blanks = replicate places 32 ++ rest in
    let kept : take (length front) old ≡ front = ap (take (length front)) e ∙ take-append_seam front blanks in
    let left : drop (length front + length ds) old ≡ replicate (places - length ds) 32 ++ rest =
    ap (drop (length front + length ds)) e ∙ drop-append-add front blanks (length ds) ∙ ap (λ j. drop (length ds) (replicate j 32 ++ rest)) split ∙ drop_spaces (length ds) (places - length ds) rest in
    sym (take-append-drop (length front) new) ∙ ap (λ l. l ++ drop (length front) new) (before ∙ kept) ∙ ap (λ l. front ++ l) (written ∙ ap (λ l. ds ++ l) left ∙ sym (append_assoc ds (replicate (places - length ds) 32) rest))

pub columns_joined : (a p n mark : List ℕ)
    → (a ++ codes "  p") ++ ((p ++ codes "  #") ++ (n ++ mark))
    ≡ a ++ (codes "  p" ++ (p ++ (codes "  #" ++ (n ++ mark))))
columns_joined a p n mark =
    append_assoc a (codes "  p") ((p ++ codes "  #") ++ (n ++ mark)) ∙ ap (λ l. a ++ (codes "  p" ++ l)) (append_assoc p (codes "  #") (n ++ mark))

length_right : (places : ℕ) (ds : List ℕ) → length ds ≤ places → length (to_right places ds) ≡ places
length_right places ds room = length-append (replicate (places - length ds) 32) ds ∙ ap (λ n. n + length ds) (length-replicate {A = ℕ} (places - length ds) 32) ∙ omega (arith, room)

length_left : (places : ℕ) (ds : List ℕ) → length ds ≤ places → length (to_left places ds) ≡ places
length_left places ds room = length-append ds (replicate (places - length ds) 32) ∙ ap (λ n. length ds + n) (length-replicate {A = ℕ} (places - length ds) 32) ∙ omega (arith, room)

-- the number behind the columns of the event and the process
number_written : (a p n mark old new : List ℕ) → length a ≡ 8 → length p ≡ 3 → length n ≤ 6
    → old ≡ (a ++ codes "  p") ++ (p ++ (codes "  #" ++ (replicate 6 32 ++ mark)))
    → drop 17 new ≡ n ++ drop (17 + length n) old → take 17 new ≡ take 17 old
    → new ≡ a ++ (codes "  p" ++ (p ++ (codes "  #" ++ (to_left 6 n ++ mark))))
number_written a p n mark old new eight three room e written before =
    let front = (a ++ codes "  p") ++ (p ++ codes "  #") in
    let blanks = replicate 6 32 ++ mark in
    let behind : length front ≡ 17 = length-append (a ++ codes "  p") (p ++ codes "  #") ∙ omega (arith, length-append a (codes "  p"), length-append p (codes "  #"), eight, three) in
    let parts : old ≡ front ++ blanks = e ∙ ap (λ l. (a ++ codes "  p") ++ l) (sym (append_assoc p (codes "  #") blanks)) ∙ sym (append_assoc (a ++ codes "  p") (p ++ codes "  #") blanks) in
    left_written 6 front n mark old new parts room (rw behind written) (rw behind before)
    ∙ append_assoc (a ++ codes "  p") (p ++ codes "  #") (to_left 6 n ++ mark) ∙ columns_joined a p (to_left 6 n) mark

-- the process behind the column of the event
process_written : (a p rest old new : List ℕ) → length a ≡ 8 → length p ≤ 3
    → old ≡ a ++ (codes "  p" ++ (replicate 3 32 ++ rest)) → drop 11 new ≡ p ++ drop (11 + length p) old
    → take 11 new ≡ take 11 old → new ≡ (a ++ codes "  p") ++ (to_left 3 p ++ rest)
process_written a p rest old new eight room e written before =
    let front = a ++ codes "  p" in
    let behind : length front ≡ 11 = length-append a (codes "  p") ∙ omega (arith, eight) in
    left_written 3 front p rest old new (e ∙ sym (append_assoc a (codes "  p") (replicate 3 32 ++ rest))) room (rw behind written) (rw behind before)

-- three numbers written over the blanks of their columns, one after another
pub columns_written : (a p n old first second third : List ℕ) (start : ℕ)
    → old ≡ codes "          p     #      " ++ drop 23 old → length p ≤ 3 → length n ≤ 6
    → start + length a ≡ 8 → drop start first ≡ a ++ drop 8 old → take start first ≡ take start old
    → drop 11 second ≡ p ++ drop (11 + length p) first → take 11 second ≡ take 11 first
    → drop 17 third ≡ n ++ drop (17 + length n) second → take 17 third ≡ take 17 second
    → third ≡ to_right 8 a ++ (codes "  p" ++ (to_left 3 p ++ (codes "  #" ++ (to_left 6 n ++ drop 23 old))))
columns_written a p n old first second third start e narrow few count w1 b1 w2 b2 w3 b3 =
    let mark = drop 23 old in
    let rest = codes "  #" ++ (replicate 6 32 ++ mark) in
    let room : length a ≤ 8 = omega (arith, count) in
    let eight : length (to_right 8 a) ≡ 8 = length_right 8 a room in
    let one : first ≡ to_right 8 a ++ (codes "  p" ++ (replicate 3 32 ++ rest)) = right_written 8 start a (codes "  p" ++ (replicate 3 32 ++ rest)) old first e count w1 b1 in
    let two : second ≡ (to_right 8 a ++ codes "  p") ++ (to_left 3 p ++ rest) = process_written (to_right 8 a) p rest first second eight narrow one w2 b2 in
    number_written (to_right 8 a) (to_left 3 p) n mark second third eight (length_left 3 p narrow) few two w3 b3

-- a number of at most ten digits written over the last of ten blanks, of which those are left out that its column lacks
pub event_built : (start : ℕ) (ds mark old new : List ℕ) → old ≡ replicate 10 32 ++ mark → start + length ds ≡ 10
    → drop start new ≡ ds ++ drop 10 old → take start new ≡ take start old
    → drop (min start 2) new ≡ to_right 8 ds ++ mark
event_built start ds mark old new e count written before =
    let k : ℕ = min start 2 in
    let pad : 10 - length ds ≡ k + (8 - length ds) = omega (arith, count) in
    ap (λ x. drop k x) (right_written 10 start ds mark old new e count written before ∙ append_assoc (replicate (10 - length ds) 32) ds mark ∙ ap (λ j. replicate j 32 ++ (ds ++ mark)) pad)
    ∙ drop_spaces k (8 - length ds) (ds ++ mark) ∙ sym (append_assoc (replicate (8 - length ds) 32) ds mark)

-- the end of a line, as a slice of it
pub piece : (size start : ℕ) (bs new : List ℕ) → length new ≡ size → drop start new ≡ bs
    → take (size - start) (drop start new) ≡ bs
piece size start bs new whole e =
    take_all (size - start) (drop start new) (omega (arith, whole, length-drop start new)) ∙ e

-- the mark of a line with blank columns, behind the blanks of the last
pub mark_of : (line : List ℕ) → line ≡ codes "          p     #      " ++ drop 23 line → length line ≡ 33
    → drop 6 (take (33 - 17) (drop 17 line)) ≡ drop 23 line
mark_of line e whole = ap (drop 6) (piece 33 17 (drop 17 line) line whole refl ∙ ap (drop 17) e)
