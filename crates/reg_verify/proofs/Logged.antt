-- The logs of a record's steps.
use Rattle.std.proofs.Common.{ℕ, zero, suc, ◌≡◌, ◌+◌, ◌<◌, ◌≤◌, ◌==◌, ◌⊎◌, inl, inr, Bool, true, false, cond, List, []}
use Rattle.std.proofs.Common.{◌∷◌, ◌++◌, length, map, take, get_or, set, Vec, Some, refl, sym, ap, ◌∙◌, subst, arith}
use Rattle.std.proofs.Common.{append-nil}
use Rattle.std.specs.Prelude.{slice_get, option_and_then}
use Rattle.std.specs.List.{filter}
use Rattle.std.proofs.lemmas.Bool.{cases_eq, cases_order, ne_eqb}
use Rattle.std.proofs.lemmas.Bool.Decides.{eqb_tells}
use Rattle.std.proofs.lemmas.List.{length-map, map-append}
use Rattle.std.proofs.lemmas.List.Elements.{filter_more}
use Rattle.std.proofs.lemmas.List.Sums.{length-filter}
use Rattle.std.proofs.lemmas.Option.{slice_get_past}
use Rattle.reg_base.specs.declared.memory.Op.{Op}
use Rattle.reg_base.specs.Shape.{Extent}
use Rattle.reg_front.specs.declared.starts.Start.{Start}
use Rattle.reg_checkers.proofs.Places.{get_set_same, get_set_other, get_push_same, get_push_other}
use Rattle.reg_records.specs.declared.entries.LogEntry.{LogEntry}
use Rattle.reg_records.specs.Records.{FailsAt, NothingLeft, mentions}
use Rattle.reg_node.specs.declared.transcripts.recorded.Recorded.{Recorded}
use Rattle.reg_verify.specs.Adding.{IsAdded}
use Rattle.reg_verify.specs.Logs.{AreLogs, log_of, order_of}
use Rattle.reg_verify.specs.Verifies.{FailsFirst, line_at}
use Rattle.reg_verify.specs.Judging.{BlamesSteps}
use Rattle.reg_verify.specs.declared.faults.VerifyFault.{VerifyFault}
use Rattle.reg_verify.specs.declared.faults.VerifyFault.TheVariants.{Command, Unfaithful}
use Rattle.reg_commands.specs.declared.faults.Fault.TheVariants.{OutOfMemory}

-- as many of the processes are p as steps are its
as_long : (p : ℕ) (steps : List Recorded)
    → length (filter (λ q. q == p) (order_of steps)) ≡ length (filter (λ (r : Recorded). r.process == p) steps)
as_long p [] = refl
as_long p (s ∷ steps) =
    elim (s.process == p) as (λ t. length (cond t (s.process ∷ filter (λ q. q == p) (order_of steps)) (filter (λ q. q == p) (order_of steps))) ≡ length (cond t (s ∷ filter (λ (r : Recorded). r.process == p) steps) (filter (λ (r : Recorded). r.process == p) steps))) [
      | true ↦ ap suc (as_long p steps)
      | false ↦ as_long p steps
    ]

-- a process is mentioned as often as its log has entries
pub as_many : (p : ℕ) (steps : List Recorded) → length (log_of p steps) ≡ mentions p (order_of steps)
as_many p steps = length-map (filter (λ (r : Recorded). r.process == p) steps) (λ r. r.entry) ∙ sym (as_long p steps) ∙ length-filter (λ q. q == p) (order_of steps)

-- each entry is mentioned
pub nothing_left : (n : ℕ) (steps : List Recorded) (logs : List (List LogEntry)) → AreLogs n steps logs
    → NothingLeft (order_of steps) logs
nothing_left n steps logs split p within =
    let lt : p < n = let m = split.count in omega (arith, within, m) in
    let many = as_many p steps in
    ap (λ o. option_and_then (λ log. slice_get log (mentions p (order_of steps))) o) (split.each p lt) ∙ slice_get_past (log_of p steps) (mentions p (order_of steps)) (omega (arith, many))

-- so the first place that can't be played is that of a step
pub fails_first : (start : Op → ℕ → Start) (shape : Extent) (steps : List Recorded) (logs : List (List LogEntry))
    (place : ℕ)
    → AreLogs shape.processes steps logs → FailsAt start shape (order_of steps) logs place
    → FailsFirst start shape steps place
fails_first start shape steps logs place split fails =
    record { logs = logs; split = split; within = within (cases_order place (length steps)); fails = fails }
  where
    same : length (order_of steps) ≡ length steps
    same = length-map steps (λ r. r.process)

    within : (place ≡ length steps) ⊎ ((place < length steps) ⊎ (length steps < place)) → place < length steps
    within (inl e) = absurd (fails.left (e ∙ sym same) (nothing_left shape.processes steps logs split))
    within (inr (inl lt)) = lt
    within (inr (inr gt)) = let le = fails.within in absurd (omega (arith, le, same, gt))

-- what is blamed where these processes and logs are no run
pub blames : (start : Op → ℕ → Start) (shape : Extent) (steps : List Recorded) (order : List ℕ)
    (logs : List (List LogEntry)) (f : VerifyFault)
    → AreLogs shape.processes steps logs → order ≡ order_of steps
    → (f ≡ Command OutOfMemory) ⊎ ((place : ℕ) × (f ≡ Unfaithful (line_at place)) × FailsAt start shape order logs place) → BlamesSteps start shape steps f
blames start shape steps order logs f split same (inl e) =
    subst (λ (g : VerifyFault). BlamesSteps start shape steps g) (sym e) refl
blames start shape steps order logs f split same (inr (place, e, fails)) =
    let first = fails_first start shape steps logs place split (subst (λ (o : List ℕ). FailsAt start shape o logs place) same fails) in
    subst (λ (g : VerifyFault). BlamesSteps start shape steps g) (sym e) (place, refl, first)

module _ {A : Type 0} where
  items : Vec LogEntry A → List LogEntry
  items v = v.items

  item_at : (rows : List (Vec LogEntry A)) (k : ℕ) (v : Vec LogEntry A) → slice_get rows k ≡ Some v → slice_get (map (λ l. l.items) rows) k ≡ Some v.items
  item_at [] k v h = absurd (cc)
  item_at (r ∷ rows) zero v h = let e : r ≡ v = cc in ap (λ (x : Vec LogEntry A). Some x.items) e
  item_at (r ∷ rows) (suc k) v h = item_at rows k v h

  item_set : (rows : List (Vec LogEntry A)) (k : ℕ) (v : Vec LogEntry A) → map (λ l. l.items) (set rows k v) ≡ set (map (λ l. l.items) rows) k v.items
  item_set [] k v = refl
  item_set (r ∷ rows) zero v = refl
  item_set (r ∷ rows) (suc k) v = ap (λ l. r.items ∷ l) (item_set rows k v)

  -- the log of one process grows
  pub added : (rows : List (Vec LogEntry A)) (p : ℕ) (entry : LogEntry) (row new : Vec LogEntry A) → p < length rows
      → slice_get rows p ≡ Some row → new.items ≡ row.items ++ entry ∷ []
      → IsAdded (map (λ l. l.items) rows) (map (λ l. l.items) (set rows p new)) p entry
  added rows p entry row new within here grown =
      let olds : List (List LogEntry) = map (λ (l : Vec LogEntry A). l.items) rows in
      let long : p < length olds = let n = length-map rows (λ (l : Vec LogEntry A). l.items) in omega (arith, n, within) in
      record {
        here = λ log was.
            let same : log ≡ row.items = (let e : Some log ≡ Some row.items = sym was ∙ item_at rows p row here in cc) in
            ap (λ l. slice_get l p) (item_set rows p new) ∙ get_set_same olds p new.items long ∙ ap Some (grown ∙ ap (λ l. l ++ entry ∷ []) (sym same));
        others = λ q other. ap (λ l. slice_get l q) (item_set rows p new) ∙ get_set_other olds p q new.items other;
      }

-- no steps have empty logs
pub one_more_log : (n : ℕ) (logs : List (List LogEntry)) → AreLogs n [] logs → AreLogs (n + 1) [] (logs ++ [] ∷ [])
one_more_log n logs split = record {
  count = (let c = split.count in let l = longer logs in omega (arith, c, l));
  each = λ p lt. elim (cases_eq p (length logs)) [
    | inl e ↦ get_push_same logs p [] (sym e)
    | inr other ↦ get_push_other logs p [] other ∙ split.each p (let c = split.count in below p other lt c)
  ];
}
  where
    longer : (ls : List (List LogEntry)) → length (ls ++ [] ∷ []) ≡ length ls + 1
    longer [] = refl
    longer (l ∷ ls) = let e = longer ls in omega (arith, e)

    below : (p : ℕ) → (p ≡ length logs → ⊥) → p < n + 1 → length logs ≡ n → p < n
    below p other lt c = elim (cases_order p n) [
      | inl e ↦ absurd (other (e ∙ sym c))
      | inr (inl less) ↦ less
      | inr (inr more) ↦ absurd (omega (arith, lt, more))
    ]

pub one_more_step : (p : ℕ) (steps : List Recorded) (i : ℕ) (d : Recorded) (t : Bool) → i < length steps
    → ((get_or steps i d).process == p) ≡ t
    → log_of p (take (i + 1) steps) ≡ log_of p (take i steps) ++ map (λ r. r.entry) (cond t (get_or steps i d ∷ []) [])
one_more_step p steps i d t lt is =
    ap (map (λ r. r.entry)) (filter_more (λ (r : Recorded). r.process == p) steps i d lt) ∙ map-append (λ r. r.entry) (filter (λ r. r.process == p) (take i steps)) (cond ((get_or steps i d).process == p) (get_or steps i d ∷ []) [])
    ∙ ap (λ b. log_of p (take i steps) ++ map (λ r. r.entry) (cond b (get_or steps i d ∷ []) [])) is

module _ (n : ℕ) (steps : List Recorded) (i : ℕ) (d : Recorded) (logs : List (List LogEntry)) (lt : i < length steps) (split : AreLogs n (take i steps) logs) where
  -- the step of a process that has a log
  pub logs_more : (new : List (List LogEntry)) → length new ≡ length logs
      → IsAdded logs new (get_or steps i d).process (get_or steps i d).entry → AreLogs n (take (i + 1) steps) new
  logs_more new same grown = record {
    count = same ∙ split.count;
    each = λ p less. elim (eqb_tells (get_or steps i d).process p) [
      | inl a ↦
          let at : (get_or steps i d).process ≡ p = a.1 in
          let P : ℕ → Type 0 = λ q. slice_get new q ≡ Some (log_of p (take i steps) ++ (get_or steps i d).entry ∷ []) in
          subst P at (grown.here (log_of p (take i steps)) (ap (slice_get logs) at ∙ split.each p less)) ∙ ap Some (sym (one_more_step p steps i d true lt a.0))
      | inr b ↦ grown.others p (λ e. b.1 (sym e)) ∙ split.each p less ∙ ap Some (sym (one_more_step p steps i d false lt b.0 ∙ append-nil (log_of p (take i steps))))
    ];
  }

  -- the step of another one
  pub logs_kept : (q : ℕ) → q ≡ (get_or steps i d).process → n ≤ q → AreLogs n (take (i + 1) steps) logs
  logs_kept q is past = record {
    count = split.count;
    each = λ p less.
        let other : (get_or steps i d).process ≡ p → ⊥ = λ e. omega (arith, e, is, past, less) in
        split.each p less ∙ ap Some (sym (one_more_step p steps i d false lt (ne_eqb (get_or steps i d).process p other) ∙ append-nil (log_of p (take i steps))));
  }
