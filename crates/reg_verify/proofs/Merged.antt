-- The steps of a record in an order that is a run.
use Rattle.std.proofs.Common.{ℕ, zero, suc, ◌≡◌, ◌+◌, ◌<◌, ◌≤◌, ◌==◌, ◌⊎◌, inl, inr, Bool, true, false, cond, List, []}
use Rattle.std.proofs.Common.{◌∷◌, ◌++◌, length, map, take, drop, get_or, Option, Some, None, refl, sym, ap, ap₂, ◌∙◌}
use Rattle.std.proofs.Common.{subst, arith, append-nil}
use Rattle.std.specs.Prelude.{slice_get, option_and_then}
use Rattle.std.specs.List.{filter}
use Rattle.std.proofs.Math.Seq.{take-length}
use Rattle.std.proofs.lemmas.Bool.{cases_eq, cases_lt, ne_eqb}
use Rattle.std.proofs.lemmas.Bool.Decides.{eqb_tells}
use Rattle.std.proofs.lemmas.List.{length-map, length-take-le, map-append, take_more}
use Rattle.std.proofs.lemmas.List.Sums.{sum_by-take-drop}
use Rattle.std.proofs.lemmas.Option.{get_or_from_slice_get, same_Some, slice_get-get_or, slice_get_within}
use Rattle.reg_base.specs.declared.limits.TheConstants.{MOST_EVENTS}
use Rattle.reg_base.specs.declared.memory.Op.{Op}
use Rattle.reg_base.specs.Shape.{Extent}
use Rattle.reg_front.specs.declared.starts.Start.{Start}
use Rattle.reg_checkers.specs.History.{IsAt}
use Rattle.reg_checkers.proofs.Places.{IsAt-map, element_at, get_push_other, get_push_same}
use Rattle.reg_world.specs.Worlds.{Made}
use Rattle.reg_records.specs.declared.entries.LogEntry.{LogEntry}
use Rattle.reg_records.specs.Playing.{AreTallied}
use Rattle.reg_records.specs.Records.{IsFaithful, Plays, Turn, entry_of, mentions}
use Rattle.reg_records.specs.Merges.{IsFirstLeft, IsFull, IsGreatest, NoneHasMore}
use Rattle.reg_records.proofs.Alone.{mention_more, mention_same}
use Rattle.reg_records.proofs.MergeVerdicts.{has_log, not_full, stands_below}
use Rattle.reg_node.specs.declared.transcripts.recorded.Recorded.{Recorded}
use Rattle.reg_node.specs.RecordLines.{EntryFits, RecordedFits}
use Rattle.reg_text.specs.Lines.{AllFit}
use Rattle.reg_verify.specs.Laying.{AllStand, AllWithin, AreLaidOut, IsStepOf}
use Rattle.reg_verify.specs.Logs.{AreLogs, log_of, order_of}
use Rattle.reg_verify.specs.Merges.{IsOrdering, IsStuckAt, Merges, Orders}
use Rattle.reg_verify.proofs.Logged.{as_many, nothing_left, one_more_step}

take_all : {X : Type 0} (xs : List X) (k : ℕ) → slice_get xs k ≡ None → take k xs ≡ xs
take_all [] zero none = refl
take_all [] (suc k) none = refl
take_all (x ∷ xs) zero none = absurd cc
take_all (x ∷ xs) (suc k) none = ap (λ l. x ∷ l) (take_all xs k none)

-- the log of p behind one more step, which is of p or of another process
log_head : (p : ℕ) (s : Recorded) (steps : List Recorded) (b : Bool) → (s.process == p) ≡ b
    → log_of p (s ∷ steps)
    ≡ map (λ r. r.entry)
    (cond b (s ∷ filter (λ (r : Recorded). r.process == p) steps) (filter (λ (r : Recorded). r.process == p) steps))
log_head p s steps b is = ap (λ (t : Bool). map (λ (r : Recorded). r.entry) (cond t (s ∷ filter (λ (r : Recorded). r.process == p) steps) (filter (λ (r : Recorded). r.process == p) steps))) is

none_of : (p : ℕ) (steps : List Recorded) → ((k : ℕ) (r : Recorded) → IsAt steps k r → r.process ≡ p → ⊥)
    → log_of p steps ≡ []
none_of p [] off = refl
none_of p (s ∷ steps) off =
    log_head p s steps false (ne_eqb s.process p (off 0 s refl)) ∙ none_of p steps (λ k r at. off (suc k) r at)

-- a step of p has its entry in the log of p, and an entry there is that of a step of p
in_log : (p : ℕ) (steps : List Recorded) (k : ℕ) (r : Recorded) → IsAt steps k r → r.process ≡ p
    → (j : ℕ) × (slice_get (log_of p steps) j ≡ Some r.entry)
in_log p [] k r at is = absurd cc
in_log p (s ∷ steps) zero r at is =
    let same : s ≡ r = same_Some s r at in
    let yes = eqb_tells s.process p in
    by yes same
  where
    by : ((s.process == p) ≡ true) × (s.process ≡ p) ⊎ (((s.process == p) ≡ false) × (s.process ≡ p → ⊥)) → s ≡ r → (j : ℕ) × (slice_get (log_of p (s ∷ steps)) j ≡ Some r.entry)
    by (inl a) same = (0, ap (λ (l : List LogEntry). slice_get l 0) (log_head p s steps true a.0) ∙ ap (λ (x : Recorded). Some x.entry) same)
    by (inr b) same = absurd (b.1 (ap (λ (x : Recorded). x.process) same ∙ is))
in_log p (s ∷ steps) (suc k) r at is = by (in_log p steps k r at is) (eqb_tells s.process p)
  where
    by : (j : ℕ) × (slice_get (log_of p steps) j ≡ Some r.entry) → (((s.process == p) ≡ true) × (s.process ≡ p)) ⊎ (((s.process == p) ≡ false) × (s.process ≡ p → ⊥)) → (j : ℕ) × (slice_get (log_of p (s ∷ steps)) j ≡ Some r.entry)
    by (j, there) (inl a) = (suc j, ap (λ (l : List LogEntry). slice_get l (suc j)) (log_head p s steps true a.0) ∙ there)
    by (j, there) (inr b) = (j, ap (λ (l : List LogEntry). slice_get l j) (log_head p s steps false b.0) ∙ there)

of_log : (p : ℕ) (steps : List Recorded) (j : ℕ) (entry : LogEntry) → slice_get (log_of p steps) j ≡ Some entry
    → (k : ℕ) × (r : Recorded) × IsAt steps k r × (r.process ≡ p) × (r.entry ≡ entry)
of_log p [] j entry is = absurd cc
of_log p (s ∷ steps) j entry is = by j (λ (i : ℕ) (h : slice_get (log_of p steps) i ≡ Some entry). of_log p steps i entry h) is (eqb_tells s.process p)
  where
    Found : Type 0
    Found = (k : ℕ) × (r : Recorded) × IsAt (s ∷ steps) k r × (r.process ≡ p) × (r.entry ≡ entry)

    by : (i : ℕ) → ((h : ℕ) → slice_get (log_of p steps) h ≡ Some entry → (k : ℕ) × (r : Recorded) × IsAt steps k r × (r.process ≡ p) × (r.entry ≡ entry)) → slice_get (log_of p (s ∷ steps)) i ≡ Some entry
        → (((s.process == p) ≡ true) × (s.process ≡ p)) ⊎ (((s.process == p) ≡ false) × (s.process ≡ p → ⊥)) → (k : ℕ) × (r : Recorded) × IsAt (s ∷ steps) k r × (r.process ≡ p) × (r.entry ≡ entry)
    by zero rec h (inl a) = (0, s, refl, a.1, same_Some s.entry entry (sym (ap (λ (l : List LogEntry). slice_get l 0) (log_head p s steps true a.0)) ∙ h))
    by (suc i) rec h (inl a) = let f = rec i (sym (ap (λ (l : List LogEntry). slice_get l (suc i)) (log_head p s steps true a.0)) ∙ h) in (suc f.0, f.1, f.2, f.3, f.4)
    by i rec h (inr b) = let f = rec i (sym (ap (λ (l : List LogEntry). slice_get l i) (log_head p s steps false b.0)) ∙ h) in (suc f.0, f.1, f.2, f.3, f.4)

-- steps in another order fit where they did
pub fits_ordered : (names : List (List ℕ)) (steps ordered : List Recorded) → IsOrdering steps ordered
    → AllFit (λ _ r. RecordedFits names r) steps → AllFit (λ _ r. RecordedFits names r) ordered
fits_ordered names steps ordered same fits k r at =
    let i = in_log r.process ordered k r at refl in
    let f = of_log r.process steps i.0 r.entry (sym (ap (λ (l : List LogEntry). slice_get l i.0) (same r.process)) ∙ i.1) in
    let there : RecordedFits names f.1 = fits f.0 f.1 f.2 in
    (subst (λ (p : ℕ). p ≤ 255) f.3 there.0, subst (λ (e : LogEntry). EntryFits names e) f.4 there.1)

module _ (logs : List (List LogEntry)) (order : List ℕ) (steps : List Recorded) (laid : AreLaidOut order logs steps) where
  mentioned : (k : ℕ) (r : Recorded) → IsAt steps k r → IsAt order k r.process
  mentioned k r at = subst (λ (o : List ℕ). IsAt o k r.process) laid.processes (IsAt-map (λ (x : Recorded). x.process) steps k r at)

  within_logs : AllWithin (length logs) steps
  within_logs k r at = has_log logs r.process (mentions r.process (take k order)) r.entry (laid.each k r at)

  module _ (p : ℕ) (log : List LogEntry) (is : slice_get logs p ≡ Some log) where
    log_so_far : (k : ℕ) → k ≤ length steps → log_of p (take k steps) ≡ take (mentions p (take k order)) log
    log_so_far zero le = refl
    log_so_far (suc k) le = by (log_so_far k (omega arith)) (element_at steps k (omega arith))
      where
        next : k + 1 ≡ suc k
        next = omega arith

        by : log_of p (take k steps) ≡ take (mentions p (take k order)) log → (r : Recorded) × IsAt steps k r → log_of p (take (suc k) steps) ≡ take (mentions p (take (suc k) order)) log
        by before (r, at) = go (eqb_tells r.process p)
          where
            lt : k < length steps
            lt = slice_get_within steps k r at

            got : get_or steps k r ≡ r
            got = get_or_from_slice_get steps k r r at

            m : ℕ
            m = mentions p (take k order)

            go : (((r.process == p) ≡ true) × (r.process ≡ p)) ⊎ (((r.process == p) ≡ false) × (r.process ≡ p → ⊥)) → log_of p (take (suc k) steps) ≡ take (mentions p (take (suc k) order)) log
            go (inl a) =
                let more = one_more_step p steps k r true lt (ap (λ (x : Recorded). x.process == p) got ∙ a.0) in
                let stands : slice_get log (mentions p (take k order)) ≡ Some r.entry =
                sym (ap (λ (o : Option (List LogEntry)). option_and_then (λ (l : List LogEntry). slice_get l (mentions p (take k order))) o) is) ∙ subst (λ (q : ℕ). entry_of logs q (mentions q (take k order)) ≡ Some r.entry) a.1 (laid.each k r at) in
                let grown : take (mentions p (take k order) + 1) log ≡ take (mentions p (take k order)) log ++ get_or log (mentions p (take k order)) r.entry ∷ [] =
                take_more log (mentions p (take k order)) r.entry (slice_get_within log (mentions p (take k order)) r.entry stands) in
                let entry : get_or log (mentions p (take k order)) r.entry ≡ r.entry = get_or_from_slice_get log (mentions p (take k order)) r.entry r.entry stands in
                let count : mentions p (take k order) + 1 ≡ mentions p (take (suc k) order) =
                let one = mention_more order k p (subst (λ (q : ℕ). IsAt order k q) a.1 (mentioned k r at)) in omega (arith, one) in
                ap (λ (j : ℕ). log_of p (take j steps)) (sym next)
                ∙ (more ∙ (ap₂ (λ (l : List LogEntry) (e : LogEntry). l ++ e ∷ []) before (ap (λ (x : Recorded). x.entry) got ∙ sym entry) ∙ (sym grown ∙ ap (λ (j : ℕ). take j log) count)))
            go (inr b) =
                let more = one_more_step p steps k r false lt (ap (λ (x : Recorded). x.process == p) got ∙ b.0) in
                ap (λ (j : ℕ). log_of p (take j steps)) (sym next)
                ∙ (more ∙ (append-nil (log_of p (take k steps)) ∙ (before ∙ ap (λ (j : ℕ). take j log) (sym (mention_same order k p r.process (mentioned k r at) b.1)))))

    whole_log : entry_of logs p (mentions p order) ≡ None → log_of p steps ≡ log
    whole_log none =
        let same : length steps ≡ length order = sym (length-map steps (λ (r : Recorded). r.process)) ∙ ap length laid.processes in
        let end : slice_get log (mentions p order) ≡ None = sym (ap (λ (o : Option (List LogEntry)). option_and_then (λ (l : List LogEntry). slice_get l (mentions p order)) o) is) ∙ none in
        sym (ap (log_of p) (take-length steps))
        ∙ (log_so_far (length steps) (omega arith)
        ∙ (ap (λ (j : ℕ). take (mentions p (take j order)) log) same ∙ (ap (λ (o : List ℕ). take (mentions p o) log) (take-length order) ∙ take_all log (mentions p order) end)))

-- what is laid out by an order of all entries that is a run is an order of the steps that is one
pub orders : (start : Op → ℕ → Start) (shape : Extent) (steps ordered : List Recorded) (logs : List (List LogEntry))
    (order : List ℕ) (w : Made)
    → AreLogs shape.processes steps logs → AllWithin shape.processes steps → AreLaidOut order logs ordered
    → IsFaithful start shape order logs w
    → Orders start shape steps ordered
orders start shape steps ordered logs order w split within laid faithful = record {
  same = λ p. by p (cases_lt p shape.processes);
  world = w;
  runs = record {
    logs = logs;
    split = record { count = split.count; each = λ p lt. split.each p lt ∙ ap Some (sym (here p lt)) };
    faithful = subst (λ (o : List ℕ). IsFaithful start shape o logs w) (sym laid.processes) faithful;
  };
}
  where
    here : (p : ℕ) → p < shape.processes → log_of p ordered ≡ log_of p steps
    here p lt = whole_log logs order ordered laid p (log_of p steps) (split.each p lt) (faithful.all p (let c = split.count in omega (arith, c, lt)))

    by : (p : ℕ) → (p < shape.processes) ⊎ (shape.processes ≤ p) → log_of p ordered ≡ log_of p steps
    by p (inl lt) = here p lt
    by p (inr le) =
        none_of p ordered (λ k r at e. let lt = within_logs logs order ordered laid k r at in let c = split.count in absurd (omega (arith, lt, c, le, e)))
        ∙ sym (none_of p steps (λ k r at e. let lt = within k r at in absurd (omega (arith, lt, le, e))))

turn_at : (start : Op → ℕ → Start) (shape : Extent) (order : List ℕ) (logs : List (List LogEntry)) (k : ℕ) (w : Made)
    → Plays start shape order logs k w → (j : ℕ) → j < k → (old : Made) × (new : Made) × Turn start order logs j old new
turn_at start shape order logs zero w plays j lt = absurd (omega arith)
turn_at start shape order logs (suc k) w (before, plays, t) j lt =
    by (λ (h : j < k). turn_at start shape order logs k before plays j h) (cases_eq j k)
  where
    by : (j < k → (old : Made) × (new : Made) × Turn start order logs j old new) → (j ≡ k) ⊎ (j ≡ k → ⊥) → (old : Made) × (new : Made) × Turn start order logs j old new
    by rec (inl e) = (before, w, subst (λ (i : ℕ). Turn start order logs i before w) (sym e) t)
    by rec (inr off) = rec (omega arith)

-- each mention of a run stands for an entry
pub all_stand : (start : Op → ℕ → Start) (shape : Extent) (order : List ℕ) (logs : List (List LogEntry)) (w : Made)
    → IsFaithful start shape order logs w → AllStand order logs
all_stand start shape order logs w faithful k p at =
    let t = turn_at start shape order logs (length order) w faithful.plays k (slice_get_within order k p at) in
    let same : t.2.process ≡ p = same_Some t.2.process p (sym t.2.mention ∙ at) in
    (t.2.entry, subst (λ (q : ℕ). entry_of logs q (mentions q (take k order)) ≡ Some t.2.entry) same t.2.stands)

pub same_lists : {X : Type 0} (xs ys : List X) → ((k : ℕ) → k < length xs → slice_get xs k ≡ slice_get ys k)
    → length xs ≡ length ys → xs ≡ ys
same_lists [] [] each e = refl
same_lists [] (y ∷ ys) each e = absurd (omega arith)
same_lists (x ∷ xs) [] each e = absurd (omega arith)
same_lists (x ∷ xs) (y ∷ ys) each e =
    let first : x ≡ y = same_Some x y (each 0 (omega arith)) in
    let rest : xs ≡ ys = same_lists xs ys (λ k lt. each (suc k) (omega arith)) (omega arith) in
    ap₂ (λ h t. h ∷ t) first rest

mentions_within : (p k : ℕ) (xs : List ℕ) → mentions p (take k xs) ≤ mentions p xs
mentions_within p k xs = let sum : mentions p (take k xs) + mentions p (drop k xs) ≡ mentions p xs = sum_by-take-drop (λ q. cond (q == p) 1 0) xs k in omega (arith, sum)

-- where a step is in no run of first steps, no order of all steps is a run
pub stuck : (start : Op → ℕ → Start) (shape : Extent) (steps : List Recorded) (logs : List (List LogEntry)) (place : ℕ)
    (step : Recorded)
    → AreLogs shape.processes steps logs → IsAt steps place step
    → NoneHasMore start shape logs step.process (mentions step.process (take place (order_of steps))) → IsStuckAt start shape steps place
stuck start shape steps logs place step split at never =
    record { logs = logs; split = split; step = step; at = at; never = never; none = none }
  where
    none : (ordered : List Recorded) → ¬ Orders start shape steps ordered
    none ordered o =
        let p = step.process in
        let same : o.runs.logs ≡ logs =
        same_lists o.runs.logs logs
        (λ k lt. let c = o.runs.split.count in let less : k < shape.processes = omega (arith, c, lt) in o.runs.split.each k less ∙ (ap Some (o.same k) ∙ sym (split.each k less)))
        (o.runs.split.count ∙ sym split.count) in
        let many : mentions step.process (order_of ordered) ≡ mentions step.process (order_of steps) = sym (as_many step.process ordered) ∙ (ap length (o.same step.process) ∙ as_many step.process steps) in
        let most = never (order_of ordered) o.world (subst (λ (ls : List (List LogEntry)). Plays start shape (order_of ordered) ls (length (order_of ordered)) o.world) same o.runs.faithful.plays) in
        let more = mention_more (order_of steps) place step.process (IsAt-map (λ (x : Recorded). x.process) steps place step at) in
        let whole = mentions_within step.process (suc place) (order_of steps) in
        omega (arith, many, most, more, whole)

-- the entry of a process with this number stands in its log
pub stuck_step : (start : Op → ℕ → Start) (shape : Extent) (steps : List Recorded) (logs : List (List LogEntry))
    (p number place : ℕ)
    → AreLogs shape.processes steps logs → NoneHasMore start shape logs p number → IsStepOf steps p number place
    → IsStuckAt start shape steps place
stuck_step start shape steps logs p number place split never of =
    let there : NoneHasMore start shape logs of.step.process number = subst (λ (q : ℕ). NoneHasMore start shape logs q number) (sym of.process) never in
    let count : mentions of.step.process (take place (order_of steps)) ≡ number = ap (λ (q : ℕ). mentions q (take place (order_of steps))) of.process ∙ of.before in
    stuck start shape steps logs place of.step split of.at (subst (λ (n : ℕ). NoneHasMore start shape logs of.step.process n) (sym count) there)

-- a step of a process that isn't there is in no run
pub stuck_beyond : (start : Op → ℕ → Start) (shape : Extent) (steps : List Recorded) (logs : List (List LogEntry))
    (place : ℕ) (step : Recorded)
    → AreLogs shape.processes steps logs → IsAt steps place step → shape.processes ≤ step.process
    → IsStuckAt start shape steps place
stuck_beyond start shape steps logs place step split at beyond = stuck start shape steps logs place step split at never
  where
    never : NoneHasMore start shape logs step.process (mentions step.process (take place (order_of steps)))
    never further w plays = by (cases_lt 0 (mentions step.process further))
      where
        by : (0 < mentions step.process further) ⊎ (mentions step.process further ≤ 0) → mentions step.process further ≤ mentions step.process (take place (order_of steps))
        by (inl some) =
            let all : mentions step.process (take (length further) further) ≡ mentions step.process further = ap (mentions step.process) (take-length further) in
            let e = stands_below start shape logs further (length further) w plays step.process 0 (omega (arith, all, some)) in
            let lt = has_log logs step.process 0 e.0 e.1 in
            let c = split.count in
            absurd (omega (arith, lt, c, beyond))
        by (inr le) = omega (arith, le)

-- a step of p with a number below how many there are
pub has_number : (n : ℕ) (steps : List Recorded) (logs : List (List LogEntry)) (p number : ℕ) (entry : LogEntry)
    → AreLogs n steps logs → entry_of logs p number ≡ Some entry → number < mentions p (order_of steps)
has_number n steps logs p number entry split is =
    let lt : p < n = let c = split.count in let h = has_log logs p number entry is in omega (arith, c, h) in
    let there : slice_get (log_of p steps) number ≡ Some entry = sym (ap (λ (o : Option (List LogEntry)). option_and_then (λ (l : List LogEntry). slice_get l number) o) (split.each p lt)) ∙ is in
    let many = as_many p steps in
    let less = slice_get_within (log_of p steps) number entry there in
    omega (arith, many, less)

any_default : (xs : List ℕ) (i d e : ℕ) → i < length xs → get_or xs i d ≡ get_or xs i e
any_default xs i d e lt =
    same_Some (get_or xs i d) (get_or xs i e) (sym (slice_get-get_or xs i d lt) ∙ slice_get-get_or xs i e lt)

-- the entry of a mention
pub next_stands : (order counts : List ℕ) (logs : List (List LogEntry)) (place p i n : ℕ) → AllStand order logs
    → place < length order → IsAt order place p → i ≡ p → AreTallied counts order place → length counts ≡ length logs
    → n ≡ get_or counts i n
    → (o : Option LogEntry) → o ≡ entry_of logs i n → (entry : LogEntry) × (o ≡ Some entry) × (entry_of logs p (mentions p (take place order)) ≡ Some entry)
next_stands order counts logs place p i n all lt at is tallied len read o got =
    let e = all place p at in
    let within = has_log logs p (mentions p (take place order)) e.0 e.1 in
    let inside : i < length counts = omega (arith, within, len, is) in
    let inside_p : p < length counts = omega (arith, within, len) in
    let count : n ≡ mentions p (take place order) = read ∙ (any_default counts i n 0 inside ∙ (ap (λ (q : ℕ). get_or counts q 0) is ∙ tallied p inside_p)) in
    (e.0, got ∙ (ap (λ (q : ℕ). entry_of logs q n) is ∙ (ap (λ (k : ℕ). entry_of logs p k) count ∙ e.1)), e.1)

-- one mention more is laid out
pub laid_more : (order : List ℕ) (logs : List (List LogEntry)) (steps new : List Recorded) (place : ℕ) (r : Recorded)
    → IsAt order place r.process → order_of steps ≡ take place order
    → ((k : ℕ) (x : Recorded) → IsAt steps k x
    → entry_of logs x.process (mentions x.process (take k order)) ≡ Some x.entry)
    → entry_of logs r.process (mentions r.process (take place order)) ≡ Some r.entry → new ≡ steps ++ r ∷ []
    → (order_of new ≡ take (place + 1) order) × ((k : ℕ) (x : Recorded) → IsAt new k x → entry_of logs x.process (mentions x.process (take k order)) ≡ Some x.entry)
laid_more order logs steps new place r at so_far each stands is = (processes, entries)
  where
    within : place < length order
    within = slice_get_within order place r.process at

    processes : order_of new ≡ take (place + 1) order
    processes =
        ap order_of is ∙ (map-append (λ (x : Recorded). x.process) steps (r ∷ [])
        ∙ (ap₂ (λ (front : List ℕ) (p : ℕ). front ++ p ∷ []) so_far (sym (get_or_from_slice_get order place r.process 0 at)) ∙ sym (take_more order place 0 within)))

    many : length steps ≡ place
    many = let l = length-map steps (λ (x : Recorded). x.process) in let m : length (order_of steps) ≡ length (take place order) = ap length so_far in let t = length-take-le place order (omega (arith, within)) in omega (arith, l, m, t)

    entries : (k : ℕ) (x : Recorded) → IsAt new k x → entry_of logs x.process (mentions x.process (take k order)) ≡ Some x.entry
    entries k x here = by (cases_eq k (length steps)) (subst (λ (l : List Recorded). IsAt l k x) is here)
      where
        by : (k ≡ length steps) ⊎ (k ≡ length steps → ⊥) → IsAt (steps ++ r ∷ []) k x → entry_of logs x.process (mentions x.process (take k order)) ≡ Some x.entry
        by (inl e) there =
            let same : r ≡ x = same_Some r x (sym (get_push_same steps k r (sym e)) ∙ there) in
            let place_is : place ≡ k = sym many ∙ sym e in
            subst (λ (y : Recorded). entry_of logs y.process (mentions y.process (take k order)) ≡ Some y.entry) same (subst (λ (j : ℕ). entry_of logs r.process (mentions r.process (take j order)) ≡ Some r.entry) place_is stands)
        by (inr off) there = each k x (sym (get_push_other steps k r off) ∙ there)

-- what is left of a greatest order is in no run
pub left_out : (start : Op → ℕ → Start) (shape : Extent) (logs : List (List LogEntry)) (order : List ℕ) (p place : ℕ)
    → IsGreatest start shape logs order → IsFirstLeft logs order p place
    → ((entry : LogEntry) × (entry_of logs p place ≡ Some entry)) × NoneHasMore start shape logs p place
left_out start shape logs order p place g f =
    ((f.entry, f.left), subst (λ (k : ℕ). NoneHasMore start shape logs p k) (sym f.here) (g.most p))

-- so many steps leave room
pub room_for : (start : Op → ℕ → Start) (shape : Extent) (steps : List Recorded) (logs : List (List LogEntry))
    → AreLogs shape.processes steps logs → length steps ≤ MOST_EVENTS → ¬ IsFull start shape logs
room_for start shape steps logs split few full =
    let many = length-map steps (λ (x : Recorded). x.process) in
    not_full start shape logs (order_of steps) (nothing_left shape.processes steps logs split) (omega (arith, many, few)) full

-- how many steps of p there are before a place, and before the next one
pub own_step : (steps : List Recorded) (place p : ℕ) (r : Recorded) → IsAt steps place r → r.process ≡ p
    → mentions p (take (place + 1) (order_of steps)) ≡ mentions p (take place (order_of steps)) + 1
own_step steps place p r at is =
    let one = mention_more (order_of steps) place p (subst (λ (q : ℕ). IsAt (order_of steps) place q) is (IsAt-map (λ (x : Recorded). x.process) steps place r at)) in
    let next : suc place ≡ place + 1 = omega arith in
    subst (λ (k : ℕ). mentions p (take k (order_of steps)) ≡ mentions p (take place (order_of steps)) + 1) next (let sum : suc (mentions p (take place (order_of steps))) ≡ mentions p (take place (order_of steps)) + 1 = omega arith in one ∙ sum)

pub other_step : (steps : List Recorded) (place p : ℕ) (r : Recorded) → IsAt steps place r → (r.process ≡ p → ⊥)
    → mentions p (take (place + 1) (order_of steps)) ≡ mentions p (take place (order_of steps))
other_step steps place p r at off =
    let same = mention_same (order_of steps) place p r.process (IsAt-map (λ (x : Recorded). x.process) steps place r at) off in
    let next : suc place ≡ place + 1 = omega arith in
    subst (λ (k : ℕ). mentions p (take k (order_of steps)) ≡ mentions p (take place (order_of steps))) next same

pub step_of : (steps : List Recorded) (p number place : ℕ) (r : Recorded) → IsAt steps place r → r.process ≡ p
    → mentions p (take place (order_of steps)) ≡ number → IsStepOf steps p number place
step_of steps p number place r at is before = record { step = r; at = at; process = is; before = before }

-- the same text, written otherwise
pub written_as : (Wrote : List ℕ → Type 0) (text bytes : List ℕ) → Merges (λ written. written ≡ bytes) text
    → Wrote bytes → Merges Wrote text
written_as Wrote text bytes m wrote = record { account = m.account; good = m.good; read = m.read; merged = m.merged; shown = m.shown; written = subst Wrote (sym m.written) wrote }
