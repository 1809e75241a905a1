-- A process after its own entries: what the others did doesn't matter.
use Rattle.std.proofs.Common.{◌≡◌, ◌⊎◌, inl, inr, ℕ, zero, suc, ◌+◌, ◌<◌, ◌≤◌, List, [], ◌∷◌, ◌++◌, length, take}
use Rattle.std.proofs.Common.{get_or, true, false, Option, Some, None, ap, sym, ◌∙◌, subst, arith}
use Rattle.std.specs.Prelude.{◌==◌}
use Rattle.std.proofs.lemmas.Bool.{cases_order, cases_eq, eq-eqb, ne_eqb}
use Rattle.std.proofs.lemmas.List.Sums.{count_by_more_yes, count_by_more_no}
use Rattle.std.proofs.lemmas.Option.{get_or_from_slice_get, slice_get_within}
use Rattle.reg_base.specs.declared.limits.TheConstants.{MOST_EVENTS}
use Rattle.reg_base.specs.declared.memory.Op.{Op}
use Rattle.reg_base.specs.Shape.{Extent}
use Rattle.reg_frames.specs.declared.bodies.Frame.{Frame}
use Rattle.reg_front.specs.declared.starts.Start.{Start}
use Rattle.reg_process.specs.Process.{step}
use Rattle.reg_checkers.specs.History.{IsAt}
use Rattle.reg_world.specs.Nodes.{Node, Nodes, empty, put, after_step}
use Rattle.reg_world.specs.World.{World}
use Rattle.reg_world.specs.Worlds.{Made, run_in}
use Rattle.reg_world.proofs.one_order.NodeEvents.{put_same, put_other}
use Rattle.reg_world.proofs.run.Along.{few_events}
use Rattle.reg_records.specs.declared.entries.LogEntry.{LogEntry}
use Rattle.reg_records.specs.Records.{Turn, Plays, entry_of, mentions}
use Rattle.reg_records.proofs.Alike.{next_run, count_moved}

pub at_front : {X : Type 0} (xs ys : List X) (m : ℕ) (x : X) → IsAt xs m x → IsAt (xs ++ ys) m x
at_front [] ys m x at = absurd cc
at_front (y ∷ xs) ys zero x at = at
at_front (y ∷ xs) ys (suc m) x at = at_front xs ys m x at

abbrev pub after_entry : (Op → ℕ → Start) → Node → Option LogEntry → Node
after_entry start x None = x
after_entry start x (Some entry) = after_step start x entry.step

-- the process p after this many of its entries
abbrev pub node_after : (Op → ℕ → Start) → Extent → List (List LogEntry) → ℕ → ℕ → Node
node_after start shape logs p zero = empty shape.processes shape.registers p
node_after start shape logs p (suc k) = after_entry start (node_after start shape logs p k) (entry_of logs p k)

-- one more mention of p, or of another process
pub mention_more : (order : List ℕ) (k p : ℕ) → IsAt order k p
    → mentions p (take (suc k) order) ≡ suc (mentions p (take k order))
mention_more order k p at =
    let yes : (get_or order k 0 == p) ≡ true = eq-eqb (get_or order k 0) p (get_or_from_slice_get order k p 0 at) in
    let more : mentions p (take (k + 1) order) ≡ mentions p (take k order) + 1 = count_by_more_yes (λ q. q == p) order k 0 (slice_get_within order k p at) yes in
    let next : k + 1 ≡ suc k = omega arith in
    let sum : mentions p (take k order) + 1 ≡ suc (mentions p (take k order)) = omega arith in
    subst (λ (j : ℕ). mentions p (take j order) ≡ suc (mentions p (take k order))) next (more ∙ sum)

pub mention_same : (order : List ℕ) (k p q : ℕ) → IsAt order k q → (q ≡ p → ⊥)
    → mentions p (take (suc k) order) ≡ mentions p (take k order)
mention_same order k p q at other =
    let no : (get_or order k 0 == p) ≡ false = ne_eqb (get_or order k 0) p (λ e. other (sym (get_or_from_slice_get order k q 0 at) ∙ e)) in
    let more : mentions p (take (k + 1) order) ≡ mentions p (take k order) = count_by_more_no (λ r. r == p) order k 0 (slice_get_within order k q at) no in
    let next : k + 1 ≡ suc k = omega arith in
    subst (λ (j : ℕ). mentions p (take j order) ≡ mentions p (take k order)) next more

module _ (start : Op → ℕ → Start) (shape : Extent) (logs : List (List LogEntry)) where
  -- one entry more
  entry_more : (p k : ℕ) (entry : LogEntry) → entry_of logs p k ≡ Some entry → node_after start shape logs p (suc k) ≡ after_step start (node_after start shape logs p k) entry.step
  entry_more p k entry is = ap (after_entry start (node_after start shape logs p k)) is

  module _ (order : List ℕ) where
    nodes_more : (k : ℕ) (old new : Made) → Turn start order logs k old new → ((p : ℕ) → (run_in start old).nodes p ≡ node_after start shape logs p (mentions p (take k order)))
        → (p : ℕ) → (run_in start new).nodes p ≡ node_after start shape logs p (mentions p (take (suc k) order))
    nodes_more k old new t before p = nodes ∙ by (cases_eq t.process p)
      where
        goes : Nodes
        goes = put (run_in start old).nodes t.process (after_step start ((run_in start old).nodes t.process) t.entry.step)

        nodes : (run_in start new).nodes p ≡ put (run_in start old).nodes t.process (after_step start ((run_in start old).nodes t.process) t.entry.step) p
        nodes = ap (λ (w : Made). (run_in start w).nodes p) t.then ∙ ap (λ (w : World). w.nodes p) (next_run start old t.event (t.process, t.entry.step) t.move)

        by : (t.process ≡ p) ⊎ (t.process ≡ p → ⊥) → put (run_in start old).nodes t.process (after_step start ((run_in start old).nodes t.process) t.entry.step) p ≡ node_after start shape logs p (mentions p (take (suc k) order))
        by (inl e) =
            let here : IsAt order k p = subst (λ (q : ℕ). IsAt order k q) e t.mention in
            let stands : entry_of logs p (mentions p (take k order)) ≡ Some t.entry = subst (λ (q : ℕ). entry_of logs q (mentions q (take k order)) ≡ Some t.entry) e t.stands in
            put_same (run_in start old).nodes t.process (after_step start ((run_in start old).nodes t.process) t.entry.step) p (sym e)
            ∙ (ap (λ (q : ℕ). after_step start ((run_in start old).nodes q) t.entry.step) e
            ∙ (ap (λ (x : Node). after_step start x t.entry.step) (before p)
            ∙ (sym (entry_more p (mentions p (take k order)) t.entry stands)
            ∙ ap (node_after start shape logs p) (sym (mention_more order k p here)))))
        by (inr other) =
            put_other (run_in start old).nodes t.process (after_step start ((run_in start old).nodes t.process) t.entry.step) p (λ e. other (sym e))
            ∙ (before p ∙ ap (node_after start shape logs p) (sym (mention_same order k p t.process t.mention other)))

    -- a process of a run is as its own entries alone have it
    pub nodes_are : (k : ℕ) (w : Made) → Plays start shape order logs k w → (p : ℕ) → (run_in start w).nodes p ≡ node_after start shape logs p (mentions p (take k order))
    nodes_are zero w e p = ap (λ (v : Made). (run_in start v).nodes p) e
    nodes_are (suc k) w (before, plays, turn) p = nodes_more k before w turn (nodes_are k before plays) p

    -- a run has as many events as mentions
    pub events_are : (k : ℕ) (w : Made) → Plays start shape order logs k w → length (run_in start w).accepted ≡ k
    events_are zero w e = ap (λ (v : Made). length (run_in start v).accepted) e
    events_are (suc k) w (before, plays, t) =
        let runs : length (run_in start w).accepted ≡ length (run_in start before).accepted + 1 =
        ap (λ (v : Made). length (run_in start v).accepted) t.then ∙ (ap (λ (v : World). length v.accepted) (next_run start before t.event (t.process, t.entry.step) t.move) ∙ count_moved start (run_in start before) t.event (t.process, t.entry.step)) in
        let rest : length (run_in start before).accepted ≡ k = events_are k before plays in
        omega arith

    pub few_mentions : (k : ℕ) (w : Made) → Plays start shape order logs k w → k ≤ MOST_EVENTS
    few_mentions k w plays =
        let few = few_events start w.processes w.registers w.accepted in
        let are = events_are k w plays in omega (arith, few, are)

  wire_more : (p q k m : ℕ) (frame : Frame) → IsAt ((node_after start shape logs p k).wire q) m frame → IsAt ((node_after start shape logs p (suc k)).wire q) m frame
  wire_more p q k m frame at = by (entry_of logs p k)
    where
      by : (o : Option LogEntry) → IsAt ((after_entry start (node_after start shape logs p k) o).wire q) m frame
      by None = at
      by (Some entry) = at_front ((node_after start shape logs p k).wire q) ((step start (node_after start shape logs p k).state entry.step).1.frames q) m frame at

  -- what was put stays put
  pub wire_grows : (p q m : ℕ) (frame : Frame) (i j : ℕ) → i ≤ j
      → IsAt ((node_after start shape logs p i).wire q) m frame
      → IsAt ((node_after start shape logs p j).wire q) m frame
  wire_grows p q m frame i zero le at = let e : i ≡ zero = omega arith in subst (λ (k : ℕ). IsAt ((node_after start shape logs p k).wire q) m frame) e at
  wire_grows p q m frame i (suc j) le at = by (λ (h : i ≤ j). wire_grows p q m frame i j h at) (cases_order i (suc j))
    where
      by : (i ≤ j → IsAt ((node_after start shape logs p j).wire q) m frame) → (i ≡ suc j) ⊎ ((i < suc j) ⊎ (suc j < i)) → IsAt ((node_after start shape logs p (suc j)).wire q) m frame
      by rec (inl e) = subst (λ (k : ℕ). IsAt ((node_after start shape logs p k).wire q) m frame) e at
      by rec (inr (inl lt)) = wire_more p q j m frame (rec (omega arith))
      by rec (inr (inr gt)) = absurd (omega arith)
