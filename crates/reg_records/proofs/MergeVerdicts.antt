-- Greatest orders and faults, against orders of all entries.
use Rattle.std.proofs.Common.{◌≡◌, ◌≢◌, ◌⊎◌, inl, inr, ℕ, zero, suc, ◌<◌, ◌≤◌, List, [], ◌∷◌, length, take, Option}
use Rattle.std.proofs.Common.{Some, None, refl, ap, ◌∙◌, subst, arith}
use Rattle.std.proofs.Math.Seq.{take-length}
use Rattle.std.specs.Prelude.{slice_get, option_and_then}
use Rattle.std.proofs.lemmas.Bool.{cases_eq, cases_lt}
use Rattle.reg_base.specs.declared.limits.TheConstants.{MOST_EVENTS}
use Rattle.reg_base.specs.declared.memory.Op.{Op}
use Rattle.reg_base.specs.Shape.{Extent}
use Rattle.reg_front.specs.declared.starts.Start.{Start}
use Rattle.reg_checkers.specs.History.{IsAt}
use Rattle.reg_world.specs.Worlds.{Made}
use Rattle.reg_records.specs.declared.entries.LogEntry.{LogEntry}
use Rattle.reg_records.specs.Records.{Plays, IsFaithful, NothingLeft, entry_of, mentions}
use Rattle.reg_records.specs.declared.merging.MergeFault.{MergeFault}
use Rattle.reg_records.specs.declared.merging.MergeFault.TheVariants.{Other, TooMany, OutOfMemory}
use Rattle.reg_records.specs.Merges.{IsGreatest, IsFull, IsMergeFault, HasOrder}
use Rattle.reg_records.proofs.Alone.{few_mentions, mention_more, mention_same}
use Rattle.reg_records.proofs.Counts.{shorter}

none_in : (log : List LogEntry) (j k : ℕ) → j ≤ k → slice_get log j ≡ None → slice_get log k ≡ None
none_in [] j k le none = refl
none_in (x ∷ log) zero k le none = absurd cc
none_in (x ∷ log) (suc j) zero le none = absurd (omega arith)
none_in (x ∷ log) (suc j) (suc k) le none = none_in log j k (omega arith) none

-- behind the end of a log there is nothing
none_after : (logs : List (List LogEntry)) (p j k : ℕ) → j ≤ k → entry_of logs p j ≡ None → entry_of logs p k ≡ None
none_after logs p j k le = by (slice_get logs p)
  where
    by : (o : Option (List LogEntry)) → option_and_then (λ log. slice_get log j) o ≡ None → option_and_then (λ log. slice_get log k) o ≡ None
    by None none = refl
    by (Some log) none = none_in log j k le none

pub has_log : (logs : List (List LogEntry)) (p k : ℕ) (entry : LogEntry) → entry_of logs p k ≡ Some entry
    → p < length logs
has_log [] p k entry is = absurd cc
has_log (log ∷ logs) zero k entry is = omega arith
has_log (log ∷ logs) (suc p) k entry is = let lt = has_log logs p k entry is in omega (arith, lt)

-- no entry stands where all are mentioned
all_mentioned : (logs : List (List LogEntry)) (order : List ℕ) (p k : ℕ) (entry : LogEntry) → NothingLeft order logs
    → mentions p order ≤ k → entry_of logs p k ≡ Some entry → ⊥
all_mentioned logs order p k entry nothing le is =
    let none : entry_of logs p k ≡ None = none_after logs p (mentions p order) k le (nothing p (has_log logs p k entry is)) in
    cc

-- each mention stands for an entry
pub stands_below : (start : Op → ℕ → Start) (shape : Extent) (logs : List (List LogEntry)) (order : List ℕ) (k : ℕ)
    (w : Made)
    → Plays start shape order logs k w → (p m : ℕ) → m < mentions p (take k order)
    → (entry : LogEntry) × (entry_of logs p m ≡ Some entry)
stands_below start shape logs order zero w plays p m lt = absurd (omega arith)
stands_below start shape logs order (suc k) w (before, plays, t) p m lt = by (λ (h : m < mentions p (take k order)). stands_below start shape logs order k before plays p m h) (cases_eq t.process p) (cases_eq m (mentions p (take k order)))
  where
    by : (m < mentions p (take k order) → (entry : LogEntry) × (entry_of logs p m ≡ Some entry)) → (t.process ≡ p) ⊎ (t.process ≡ p → ⊥) → (m ≡ mentions p (take k order)) ⊎ (m ≡ mentions p (take k order) → ⊥) → (entry : LogEntry) × (entry_of logs p m ≡ Some entry)
    by rec (inl e) (inl same) =
        (t.entry, ap (entry_of logs p) same ∙ subst (λ (q : ℕ). entry_of logs q (mentions q (take k order)) ≡ Some t.entry) e t.stands)
    by rec (inl e) (inr other) = let more = mention_more order k p (subst (λ (q : ℕ). IsAt order k q) e t.mention) in rec (omega (arith, more))
    by rec (inr off) at = let same = mention_same order k p t.process t.mention off in rec (omega (arith, same))

pub greatest_is_run : (start : Op → ℕ → Start) (shape : Extent) (logs : List (List LogEntry)) (order : List ℕ)
    → IsGreatest start shape logs order → NothingLeft order logs → (w : Made) × IsFaithful start shape order logs w
greatest_is_run start shape logs order g none = (g.world, record { plays = g.runs; all = none })

pub greatest_finds_all : (start : Op → ℕ → Start) (shape : Extent) (logs : List (List LogEntry)) (order : List ℕ)
    → IsGreatest start shape logs order → HasOrder start shape logs → NothingLeft order logs
greatest_finds_all start shape logs order g (further, w, faithful) p lt =
    none_after logs p (mentions p further) (mentions p order) (g.most p further w faithful.plays) (faithful.all p lt)

-- no run leaves an entry out for want of room, where so many mentions are of all entries
pub not_full : (start : Op → ℕ → Start) (shape : Extent) (logs : List (List LogEntry)) (order : List ℕ)
    → NothingLeft order logs → length order ≤ MOST_EVENTS → IsFull start shape logs → ⊥
not_full start shape logs order nothing few full =
    let fewer : mentions full.process full.order < mentions full.process order = below (cases_lt (mentions full.process full.order) (mentions full.process order)) in
    let less = shorter full.order order full.process (λ p. within p (cases_lt (mentions p order) (mentions p full.order))) fewer in
    let many = full.full in
    omega (arith, less, few, many)
  where
    below : (mentions full.process full.order < mentions full.process order) ⊎ (mentions full.process order ≤ mentions full.process full.order) → mentions full.process full.order < mentions full.process order
    below (inl lt) = lt
    below (inr le) = absurd (all_mentioned logs order full.process (mentions full.process full.order) full.entry nothing le full.left)

    within : (p : ℕ) → (mentions p order < mentions p full.order) ⊎ (mentions p full.order ≤ mentions p order) → mentions p full.order ≤ mentions p order
    within p (inr le) = le
    within p (inl lt) =
        let all : mentions p (take (length full.order) full.order) ≡ mentions p full.order = ap (mentions p) (take-length full.order) in
        let some = stands_below start shape logs full.order (length full.order) full.world full.runs p (mentions p order) (omega (arith, all, lt)) in
        absurd (all_mentioned logs order p (mentions p order) some.0 nothing (omega arith) some.1)

pub fault_is_no_order : (start : Op → ℕ → Start) (shape : Extent) (logs : List (List LogEntry)) (fault : MergeFault)
    → fault ≢ OutOfMemory → IsMergeFault start shape logs fault → ¬ HasOrder start shape logs
fault_is_no_order start shape logs (Other p place) other b (order, w, faithful) =
    all_mentioned logs order p place b.entry faithful.all (b.most order w faithful.plays) b.stands
fault_is_no_order start shape logs TooMany other full (order, w, faithful) = not_full start shape logs order faithful.all (few_mentions start shape logs order (length order) w faithful.plays) full
fault_is_no_order start shape logs OutOfMemory other b has = other refl
