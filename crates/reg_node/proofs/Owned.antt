-- The steps of one process, and the parts of its log.
use Rattle.std.proofs.Common.{ℕ, zero, suc, ◌≡◌, ◌<◌, ◌≤◌, List, [], ◌∷◌, length, map, take, drop, get_or}
use Rattle.std.proofs.Common.{refl, sym, ap, ◌∙◌, arith}
use Rattle.reg_base.specs.Shape.{Extent}
use Rattle.reg_front.specs.declared.named.Front.{Front}
use Rattle.reg_records.specs.declared.entries.LogEntry.{LogEntry}
use Rattle.reg_node.specs.declared.transcripts.logs.LogId.{LogId}
use Rattle.reg_node.specs.declared.transcripts.recorded.Recorded.{Recorded}
use Rattle.reg_node.specs.LogTexts.{Journal, recorded_by}

take_all : (steps : List Recorded) (k : ℕ) → length steps ≤ k → take k steps ≡ steps
take_all [] zero l = refl
take_all [] (suc k) l = refl
take_all (s ∷ steps) zero l = absurd (omega (arith, l))
take_all (s ∷ steps) (suc k) l = ap (λ r. s ∷ r) (take_all steps k (omega (arith, l)))

pub all_owned : (p : ℕ) (steps : List Recorded) (k : ℕ) (es : List LogEntry) → take k steps ≡ map (recorded_by p) es
    → length steps ≤ k → steps ≡ map (recorded_by p) es
all_owned p steps k es so_far l = sym (take_all steps k l) ∙ so_far

-- the step at a place is of the process that all are of
pub process_at : (p : ℕ) (es : List LogEntry) (steps : List Recorded) (k : ℕ) (d : Recorded)
    → steps ≡ map (recorded_by p) es → k < length steps → (get_or steps k d).process ≡ p
process_at p [] [] k d e l = absurd (omega (arith, l))
process_at p [] (s ∷ steps) k d e l = absurd (cc)
process_at p (x ∷ es) [] k d e l = absurd (cc)
process_at p (x ∷ es) (s ∷ steps) zero d e l = ap (λ (q : List Recorded). (get_or q 0 s).process) e
process_at p (x ∷ es) (s ∷ steps) (suc k) d e l = process_at p es steps k d (ap (drop 1) e) (omega (arith, l))

pub entries_of : (p : ℕ) (es : List LogEntry) → map (λ r. r.entry) (map (recorded_by p) es) ≡ es
entries_of p [] = refl
entries_of p (e ∷ es) = ap (λ l. e ∷ l) (entries_of p es)

pub same_id : (a b c d : ℕ) (id : LogId) → a ≡ id.cluster → b ≡ id.process → c ≡ id.chapter → d ≡ id.begun
    → record { cluster = a; process = b; chapter = c; begun = d } ≡ id
same_id a b c d id e f g h =
    ap (λ x. record { cluster = x; process = b; chapter = c; begun = d }) e ∙ ap (λ x. record { cluster = id.cluster; process = x; chapter = c; begun = d }) f
    ∙ ap (λ x. record { cluster = id.cluster; process = id.process; chapter = x; begun = d }) g ∙ ap (λ x. record { cluster = id.cluster; process = id.process; chapter = id.chapter; begun = x }) h

pub same_journal : (id : LogId) (front : Front) (shape : Extent) (names : List (List ℕ)) (es : List LogEntry)
    (j : Journal)
    → id ≡ j.id → front ≡ j.front → shape ≡ j.shape → names ≡ j.names → es ≡ j.entries
    → record { id = id; front = front; shape = shape; names = names; entries = es } ≡ j
same_journal id front shape names es j a b c d e =
    ap (λ x. record { id = x; front = front; shape = shape; names = names; entries = es }) a ∙ ap (λ x. record { id = j.id; front = x; shape = shape; names = names; entries = es }) b
    ∙ ap (λ x. record { id = j.id; front = j.front; shape = x; names = names; entries = es }) c ∙ ap (λ x. record { id = j.id; front = j.front; shape = j.shape; names = x; entries = es }) d
    ∙ ap (λ x. record { id = j.id; front = j.front; shape = j.shape; names = j.names; entries = x }) e
