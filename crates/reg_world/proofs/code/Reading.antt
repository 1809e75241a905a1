-- The loops that merge the reads with the order.
use Rattle.std.proofs.Common.{◌≡◌, ℕ, ◌+◌, ◌-◌, ◌<◌, ◌≤◌, Bool, true, false, cond, List, [], ◌∷◌, ◌++◌, map, length}
use Rattle.std.proofs.Common.{take, drop, get_or, refl, sym, ap, ◌∙◌, subst, arith, length-drop}
use Rattle.std.specs.Prelude.{nat_le}
use Rattle.std.proofs.lemmas.Bool.Decides.{nat_tests}
use Rattle.std.proofs.lemmas.List.{append_assoc, append-nil, take_rest, get_or_default, drop_more, drop_all, take_more}
use Rattle.std.proofs.lemmas.List.{map-append, drop-drop}
use Rattle.reg_base.specs.declared.memory.OpId.{OpId}
use Rattle.reg_world.specs.declared.order.First.{First}
use Rattle.reg_world.specs.declared.witnesses.Ranked.{Ranked}
use Rattle.reg_world.specs.Keys.{Keyed}
use Rattle.std.proofs.Common.{Option}
use Rattle.reg_base.specs.declared.stamps.Stamp.{Stamp}
use Rattle.reg_world.specs.Tallies.{Tally}
use Rattle.reg_world.specs.Witnesses.{lost_of, lost_from, upto, later, ids_of, merge, kept_one, keyed_read, keyed_cast}
use Rattle.reg_world.specs.Witnesses.{keyed_lost, all_keyed}

abbrev pub ids_read : List Ranked → List OpId
ids_read qs = map (λ (q : Ranked). q.id) qs

-- so many reads were added; what is left decides
pub record IsReadSoFar (place : ℕ) (reads : List Ranked) (before : List OpId) (i : ℕ) (ids : List OpId) : Type 0 where
  pub rest : later place (drop i reads) ≡ later place reads
  pub added : ids ++ ids_read (upto place (drop i reads)) ≡ before ++ ids_read (upto place reads)

pub record IsMergedSoFar (kept : First → Bool) (reads : List Ranked) (order : List First) (before : List OpId) (k next : ℕ) (ids : List OpId) : Type 0 where
  pub within : next ≤ length reads
  pub added : ids ++ ids_of (merge kept k (drop next reads) (drop k order))
      ≡ before ++ ids_of (merge kept 0 reads order)

most_true : (a b : ℕ) → a ≤ b → nat_le a b ≡ true
most_true a b h = grind (arith, nat_tests)

most_false : (a b : ℕ) → b < a → nat_le a b ≡ false
most_false a b h = grind (arith, nat_tests)

-- the first of the reads, and how many they are
abbrev pub AreFirst : ℕ → List Ranked → List OpId → ℕ → List OpId → Type 0
AreFirst place reads before n ids =
    (n ≤ length reads) × (drop n reads ≡ later place reads) × (ids ≡ before ++ ids_read (upto place reads))

-- a read of a later place: nothing more is added
pub reads_stop : (place : ℕ) (reads : List Ranked) (before : List OpId) (i : ℕ) (ids : List OpId) (d : Ranked)
    → i < length reads → place < (get_or reads i d).rank → IsReadSoFar place reads before i ids
    → AreFirst place reads before i ids
reads_stop place reads before i ids d l over I =
    let q = get_or reads i d in
    let left = drop (i + 1) reads in
    let here : drop i reads ≡ q ∷ left = drop_more reads i d l in
    let is = most_false q.rank place over in
    let none : upto place (drop i reads) ≡ [] = ap (upto place) here ∙ ap (λ b. cond b (q ∷ upto place left) []) is in
    let all : later place (drop i reads) ≡ drop i reads = ap (later place) here ∙ (ap (λ b. cond b (later place left) (q ∷ left)) is ∙ sym here) in
    (omega (arith, l), sym all ∙ I.rest, sym (append-nil ids) ∙ (ap (λ z. ids ++ ids_read z) (sym none) ∙ I.added))

pub reads_more : (place : ℕ) (reads : List Ranked) (before : List OpId) (i : ℕ) (ids ids1 : List OpId) (d : Ranked)
    → i < length reads → (get_or reads i d).rank ≤ place → ids1 ≡ ids ++ (get_or reads i d).id ∷ []
    → IsReadSoFar place reads before i ids → IsReadSoFar place reads before (i + 1) ids1
reads_more place reads before i ids ids1 d l most grown I =
    let q = get_or reads i d in
    let left = drop (i + 1) reads in
    let here : drop i reads ≡ q ∷ left = drop_more reads i d l in
    let is = most_true q.rank place most in
    let more : upto place (drop i reads) ≡ q ∷ upto place left = ap (upto place) here ∙ ap (λ b. cond b (q ∷ upto place left) []) is in
    let same : later place (drop i reads) ≡ later place left = ap (later place) here ∙ ap (λ b. cond b (later place left) (q ∷ left)) is in
    record {
      rest = sym same ∙ I.rest;
      added = ap (λ z. z ++ ids_read (upto place left)) grown ∙ (append_assoc ids (q.id ∷ []) (ids_read (upto place left)) ∙ (ap (λ z. ids ++ ids_read z) (sym more) ∙ I.added));
    }

pub reads_all : (place : ℕ) (reads : List Ranked) (before : List OpId) (i : ℕ) (ids : List OpId) → length reads ≤ i
    → IsReadSoFar place reads before i ids → AreFirst place reads before (length reads) ids
reads_all place reads before i ids all I =
    let none : drop i reads ≡ [] = drop_all i reads all in
    (omega arith, drop_all (length reads) reads (omega arith) ∙ (ap (later place) (sym none) ∙ I.rest), sym (append-nil ids) ∙ (ap (λ z. ids ++ ids_read (upto place z)) (sym none) ∙ I.added))

ids_reads : (qs : List Ranked) → ids_of (map keyed_read qs) ≡ ids_read qs
ids_reads [] = refl
ids_reads (q ∷ qs) = ap (λ l. q.id ∷ l) (ids_reads qs)

ids_one : (b : Bool) (k : ℕ) (c : First) → cond b (c.id ∷ []) [] ≡ ids_of (cond b (keyed_cast k c ∷ []) [])
ids_one true k c = refl
ids_one false k c = refl

pub merged_step : (kept : First → Bool) (reads : List Ranked) (order : List First) (before : List OpId) (k next n : ℕ)
    (ids ids1 ids2 : List OpId) (c : First)
    → k < length order → c ≡ get_or order k c → IsMergedSoFar kept reads order before k next ids
    → n ≤ length (drop next reads) → drop n (drop next reads) ≡ later k (drop next reads)
    → ids1 ≡ ids ++ ids_read (upto k (drop next reads)) → ids2 ≡ ids1 ++ cond (kept c) (c.id ∷ []) []
    → IsMergedSoFar kept reads order before (k + 1) (next + n) ids2
merged_step kept reads order before k next n ids ids1 ids2 c lt at I few left grown more =
    let here : drop k order ≡ c ∷ drop (k + 1) order = drop_more order k c lt ∙ ap (λ x. x ∷ drop (k + 1) order) (sym at) in
    let deliveries = upto k (drop next reads) in
    let one = kept_one kept k c in
    let onward : later k (drop next reads) ≡ drop (next + n) reads = sym left ∙ drop-drop n next reads in
    let rest = merge kept (k + 1) (later k (drop next reads)) (drop (k + 1) order) in
    let split : ids_of (merge kept k (drop next reads) (drop k order)) ≡ ids_read deliveries ++ (ids_of one ++ ids_of rest) =
    ap (λ l. ids_of (merge kept k (drop next reads) l)) here ∙ (map-append (λ (e : Keyed). e.id) (map keyed_read deliveries) (one ++ rest) ∙ (ap (λ l. l ++ ids_of (one ++ rest)) (ids_reads deliveries) ∙ ap (λ l. ids_read deliveries ++ l) (map-append (λ (e : Keyed). e.id) one rest))) in
    record {
      within = (let z = length-drop next reads in let w = I.within in omega (arith, few, z, w));
      added =
          ap (λ l. ids2 ++ ids_of (merge kept (k + 1) l (drop (k + 1) order))) (sym onward)
          ∙ (ap (λ l. l ++ ids_of rest) (more ∙ ap (λ l. ids1 ++ l) (ids_one (kept c) k c))
          ∙ (ap (λ l. (l ++ ids_of one) ++ ids_of rest) grown
          ∙ (append_assoc (ids ++ ids_read deliveries) (ids_of one) (ids_of rest)
          ∙ (append_assoc ids (ids_read deliveries) (ids_of one ++ ids_of rest)
          ∙ (ap (λ l. ids ++ l) (sym split) ∙ I.added)))));
    }

pub merged_all : (kept : First → Bool) (reads : List Ranked) (order : List First) (before : List OpId) (k next : ℕ)
    (ids ids1 : List OpId)
    → length order ≤ k → IsMergedSoFar kept reads order before k next ids → ids1 ≡ ids ++ ids_read (drop next reads)
    → ids1 ≡ before ++ ids_of (merge kept 0 reads order)
merged_all kept reads order before k next ids ids1 all I grown =
    grown ∙ (ap (λ l. ids ++ l) (sym (ids_reads (drop next reads))) ∙ (ap (λ l. ids ++ ids_of (merge kept k (drop next reads) l)) (sym (drop_all k order all)) ∙ I.added))

pub lost_step : (last : Option Stamp) (ts : List Tally) (i : ℕ) (t : Tally) (whole lost lost1 : List Ranked)
    → i < length ts → t ≡ get_or ts i t → lost1 ≡ lost ++ lost_of last i t
    → lost ++ lost_from last i (drop i ts) ≡ whole → lost1 ++ lost_from last (i + 1) (drop (i + 1) ts) ≡ whole
lost_step last ts i t whole lost lost1 lt at grown so =
    let here : drop i ts ≡ t ∷ drop (i + 1) ts = drop_more ts i t lt ∙ ap (λ x. x ∷ drop (i + 1) ts) (sym at) in
    ap (λ l. l ++ lost_from last (i + 1) (drop (i + 1) ts)) grown ∙ (append_assoc lost (lost_of last i t) (lost_from last (i + 1) (drop (i + 1) ts)) ∙ (ap (λ l. lost ++ lost_from last i l) (sym here) ∙ so))

pub lost_all : (last : Option Stamp) (ts : List Tally) (i : ℕ) (whole lost : List Ranked) → length ts ≤ i
    → lost ++ lost_from last i (drop i ts) ≡ whole → lost ≡ whole
lost_all last ts i whole lost all so =
    sym (append-nil lost) ∙ (ap (λ l. lost ++ lost_from last i l) (sym (drop_all i ts all)) ∙ so)

-- one more read is added, or cast that was lost
pub read_more : (qs : List Ranked) (i : ℕ) (d : Ranked) (before ids ids1 : List OpId) → i < length qs
    → ids ≡ before ++ ids_read (take i qs) → ids1 ≡ ids ++ (get_or qs i d).id ∷ []
    → ids1 ≡ before ++ ids_read (take (i + 1) qs)
read_more qs i d before ids ids1 l so grown =
    let q = get_or qs i d in
    let more : ids_read (take (i + 1) qs) ≡ ids_read (take i qs) ++ q.id ∷ [] = ap ids_read (take_more qs i d l) ∙ map-append (λ (z : Ranked). z.id) (take i qs) (q ∷ []) in
    grown ∙ (ap (λ z. z ++ q.id ∷ []) so ∙ (append_assoc before (ids_read (take i qs)) (q.id ∷ []) ∙ ap (λ z. before ++ z) (sym more)))

-- in the form that a loop gives
pub merged_more : (kept : First → Bool) (reads : List Ranked) (order : List First) (before : List OpId) (k next n : ℕ)
    (ids ids1 ids2 : List OpId) (d : First)
    → k < length order → IsMergedSoFar kept reads order before k next ids
    → (n ≤ length (take (length reads - next) (drop next reads))) × (drop n (take (length reads - next) (drop next reads)) ≡ later k (take (length reads - next) (drop next reads))) × (ids1 ≡ ids ++ ids_read (upto k (take (length reads - next) (drop next reads))))
    → ids2 ≡ ids1 ++ cond (kept (get_or order k d)) ((get_or order k d).id ∷ []) [] → IsMergedSoFar kept reads order before (k + 1) (next + n) ids2
merged_more kept reads order before k next n ids ids1 ids2 d lt I pushed more =
    let whole : take (length reads - next) (drop next reads) ≡ drop next reads = take_rest reads next in
    let p = subst (λ (l : List Ranked). (n ≤ length l) × (drop n l ≡ later k l) × (ids1 ≡ ids ++ ids_read (upto k l))) whole pushed in
    merged_step kept reads order before k next n ids ids1 ids2 (get_or order k d) lt (get_or_default order k d (get_or order k d) lt) I p.0 p.1 p.2 more

ids_lost : (all : ℕ) (qs : List Ranked) → ids_of (map (keyed_lost all) qs) ≡ ids_read qs
ids_lost all [] = refl
ids_lost all (q ∷ qs) = ap (λ l. q.id ∷ l) (ids_lost all qs)

pub all_ids : (kept : First → Bool) (reads lost : List Ranked) (order : List First) (ids ids1 : List OpId)
    → ids ≡ ids_of (merge kept 0 reads order) → ids1 ≡ ids ++ ids_read lost
    → ids1 ≡ ids_of (all_keyed kept reads order lost)
all_ids kept reads lost order ids ids1 first rest =
    rest ∙ (ap (λ l. l ++ ids_read lost) first ∙ (ap (λ l. ids_of (merge kept 0 reads order) ++ l) (sym (ids_lost (length order) lost)) ∙ sym (map-append (λ (e : Keyed). e.id) (merge kept 0 reads order) (map (keyed_lost (length order)) lost))))
