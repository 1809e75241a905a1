-- Logs decide the steps of their processes, whatever the order of their entries.
use Rattle.std.proofs.Common.{◌≡◌, ℕ, zero, suc, ◌+◌, ◌<◌, true, false, List, [], ◌∷◌, ◌++◌, length, map, take, get_or}
use Rattle.std.proofs.Common.{Some, None, refl, sym, ap, ◌∙◌, subst, inl, inr, arith}
use Rattle.std.specs.Prelude.{◌==◌, cond}
use Rattle.std.proofs.lemmas.Bool.{eq-eqb, ne_eqb}
use Rattle.std.proofs.lemmas.Bool.Decides.{eqb_tells}
use Rattle.std.proofs.lemmas.List.{append-nil}
use Rattle.std.proofs.Math.Seq.{take-length}
use Rattle.std.proofs.lemmas.List.Sums.{count_by_more_yes, count_by_more_no}
use Rattle.std.proofs.lemmas.Option.{none-some}
use Rattle.reg_base.specs.declared.memory.Op.{Op}
use Rattle.reg_base.specs.declared.memory.OpId.{OpId}
use Rattle.reg_base.specs.Shape.{Extent}
use Rattle.reg_front.specs.declared.starts.Start.{Start}
use Rattle.reg_front.specs.Fronts.{KeepsLaws}
use Rattle.reg_process.specs.declared.steps.Step.{Step}
use Rattle.reg_checkers.specs.History.{IsAt}
use Rattle.reg_checkers.proofs.Places.{within}
use Rattle.reg_world.specs.Keys.{IsWitness}
use Rattle.reg_world.specs.World.{run_of, empty_world, whole}
use Rattle.reg_world.specs.Worlds.{Made, run_in}
use Rattle.reg_records.specs.declared.entries.LogEntry.{LogEntry}
use Rattle.reg_records.specs.Records.{Plays, Turn, IsFaithful, entry_of, mentions}
use Rattle.reg_records.specs.Steps.{step_in, steps_of}
use Rattle.reg_records.proofs.Lives.{steps_more}
use Rattle.reg_records.proofs.OneWitness.{one_witness}

-- the log of a process; of one that has none it is empty
abbrev log_of : List (List LogEntry) → ℕ → List LogEntry
log_of [] p = []
log_of (log ∷ logs) zero = log
log_of (log ∷ logs) (suc p) = log_of logs p

no_entry : (k : ℕ) (e : LogEntry) → IsAt [] k e → ⊥
no_entry k e h = cc

entry_at : (logs : List (List LogEntry)) (p k : ℕ) (e : LogEntry) → entry_of logs p k ≡ Some e
    → IsAt (log_of logs p) k e
entry_at [] p k e h = absurd (none-some e h)
entry_at (log ∷ logs) zero k e h = h
entry_at (log ∷ logs) (suc p) k e h = entry_at logs p k e h

no_entry_at : (logs : List (List LogEntry)) (p k : ℕ) → (p < length logs → entry_of logs p k ≡ None) → (e : LogEntry)
    → IsAt (log_of logs p) k e → ⊥
no_entry_at [] p k none e h = no_entry k e h
no_entry_at (log ∷ logs) zero k none e h = none-some e (sym (none (omega arith)) ∙ h)
no_entry_at (log ∷ logs) (suc p) k none e h = no_entry_at logs p k (λ l. none (omega (arith, l))) e h

-- one more step of a log
map_step_more : (log : List LogEntry) (k : ℕ) (e : LogEntry) → IsAt log k e
    → map (λ x. x.step) (take (suc k) log) ≡ map (λ x. x.step) (take k log) ++ e.step ∷ []
map_step_more [] k e h = absurd (no_entry k e h)
map_step_more (x ∷ log) zero e h = ap (λ (y : LogEntry). y.step ∷ []) (same x e h)
  where
    same : (x e : LogEntry) → Some x ≡ Some e → x ≡ e
    same x e h = cc
map_step_more (x ∷ log) (suc k) e h = ap (λ l. x.step ∷ l) (map_step_more log k e h)

-- where no entry stands at the place, all stand before it
take_all : (log : List LogEntry) (k : ℕ) → ((e : LogEntry) → IsAt log k e → ⊥) → take k log ≡ log
take_all [] zero none = refl
take_all [] (suc k) none = refl
take_all (x ∷ log) zero none = absurd (none x refl)
take_all (x ∷ log) (suc k) none = ap (λ l. x ∷ l) (take_all log k none)

element : (order : List ℕ) (k p : ℕ) → IsAt order k p → get_or order k 0 ≡ p
element [] k p h = absurd cc
element (q ∷ order) zero p h = cc
element (q ∷ order) (suc k) p h = element order k p h

module _ (start : Op → ℕ → Start) (shape : Extent) (order : List ℕ) (logs : List (List LogEntry)) where
  -- what the first mentions, so many, stand for in the log of a process
  Steps : ℕ → ℕ → List Step
  Steps k p = map (λ x. x.step) (take (mentions p (take k order)) (log_of logs p))

  plays_shape : (k : ℕ) (w : Made) → Plays start shape order logs k w → (w.processes ≡ shape.processes) × (w.registers ≡ shape.registers)
  plays_shape zero w e = (ap (λ (m : Made). m.processes) e, ap (λ (m : Made). m.registers) e)
  plays_shape (suc k) w (before, plays, turn) =
      let r = plays_shape k before plays in
      (ap (λ (m : Made). m.processes) turn.then ∙ r.0, ap (λ (m : Made). m.registers) turn.then ∙ r.1)

  one_more : (k : ℕ) (before w : Made) (turn : Turn start order logs k before w) (p : ℕ) → Steps k p ++ step_in p (Some (turn.process, turn.entry.step)) ≡ Steps (suc k) p
  unfolding Steps
  one_more k before w turn p = elim (eqb_tells p turn.process) [
    | inl same ↦
        let q : p ≡ turn.process = same.1 in
        let here : IsAt (log_of logs p) (mentions p (take k order)) turn.entry =
        subst (λ r. IsAt (log_of logs r) (mentions r (take k order)) turn.entry) (sym q) (entry_at logs turn.process (mentions turn.process (take k order)) turn.entry turn.stands) in
        let more : mentions p (take (suc k) order) ≡ suc (mentions p (take k order)) = next ∙ (count_by_more_yes (λ x. x == p) order k 0 (within order k turn.process turn.mention) (is_it q) ∙ one (mentions p (take k order))) in
        ap (λ b. map (λ x. x.step) (take (mentions p (take k order)) (log_of logs p)) ++ cond b (turn.entry.step ∷ []) []) same.0
        ∙ (sym (map_step_more (log_of logs p) (mentions p (take k order)) turn.entry here) ∙ ap (λ m. map (λ x. x.step) (take m (log_of logs p))) (sym more))
    | inr other ↦
        let more : mentions p (take (suc k) order) ≡ mentions p (take k order) = next ∙ count_by_more_no (λ x. x == p) order k 0 (within order k turn.process turn.mention) (is_not other.1) in
        ap (λ b. map (λ x. x.step) (take (mentions p (take k order)) (log_of logs p)) ++ cond b (turn.entry.step ∷ []) []) other.0
        ∙ (append-nil (map (λ x. x.step) (take (mentions p (take k order)) (log_of logs p))) ∙ ap (λ m. map (λ x. x.step) (take m (log_of logs p))) (sym more))
  ]
    where
      one : (m : ℕ) → m + 1 ≡ suc m
      one m = omega arith

      next : mentions p (take (suc k) order) ≡ mentions p (take (k + 1) order)
      next = ap (λ (j : ℕ). mentions p (take j order)) (sym (one k))

      is_it : p ≡ turn.process → (get_or order k 0 == p) ≡ true
      is_it q = eq-eqb (get_or order k 0) p (element order k turn.process turn.mention ∙ sym q)

      is_not : (p ≡ turn.process → ⊥) → (get_or order k 0 == p) ≡ false
      is_not ne = ne_eqb (get_or order k 0) p (λ e. ne (sym e ∙ element order k turn.process turn.mention))

  plays_steps : (k : ℕ) (w : Made) → Plays start shape order logs k w → (p : ℕ) → steps_of start w.processes w.registers w.accepted p ≡ Steps k p
  unfolding Steps
  plays_steps zero w e p = ap (λ (m : Made). steps_of start m.processes m.registers m.accepted p) e
  plays_steps (suc k) w (before, plays, turn) p =
      ap (λ (m : Made). steps_of start m.processes m.registers m.accepted p) turn.then
      ∙ (steps_more start before.processes before.registers p before.accepted turn.event (empty_world before.processes before.registers)
      ∙ (ap (λ m. steps_of start before.processes before.registers before.accepted p ++ step_in p m) turn.move
      ∙ (ap (λ l. l ++ step_in p (Some (turn.process, turn.entry.step))) (plays_steps k before plays p) ∙ one_more k before w turn p)))

  -- in a faithful record each process makes the steps of its log, all of them
  pub faithful_steps : (w : Made) → IsFaithful start shape order logs w → (p : ℕ)
      → steps_of start shape.processes shape.registers w.accepted p ≡ map (λ x. x.step) (log_of logs p)
  unfolding Steps
  faithful_steps w faithful p =
      let shapes = plays_shape (length order) w faithful.plays in
      let last : mentions p (take (length order) order) ≡ mentions p order = ap (mentions p) (take-length order) in
      (λ i. steps_of start (sym shapes.0 i) (sym shapes.1 i) w.accepted p)
      ∙ (plays_steps (length order) w faithful.plays p
      ∙ ap (map (λ x. x.step)) (ap (λ m. take m (log_of logs p)) last ∙ take_all (log_of logs p) (mentions p order) (no_entry_at logs p (mentions p order) (faithful.all p))))

-- the runs of the same logs, in whatever orders, have one witness
pub one_witness_of_logs : (start : Op → ℕ → Start) (shape : Extent) (logs : List (List LogEntry)) (order other : List ℕ)
    (u v : Made) (ids others : List OpId)
    → KeepsLaws start → IsFaithful start shape order logs u → IsFaithful start shape other logs v
    → IsWitness (run_of u.registers (run_in start u)) ids → IsWitness (run_of v.registers (run_in start v)) others
    → ids ≡ others
one_witness_of_logs start shape logs order other u v ids others laws one two here there =
    let a = plays_shape start shape order logs (length order) u one.plays in
    let b = plays_shape start shape other logs (length other) v two.plays in
    one_witness start shape.processes shape.registers u.accepted v.accepted ids others laws
    (λ p l. faithful_steps start shape order logs u one p ∙ sym (faithful_steps start shape other logs v two p))
    (witness_in u ids a.0 a.1 here) (witness_in v others b.0 b.1 there)
  where
    witness_in : (w : Made) (is : List OpId) → w.processes ≡ shape.processes → w.registers ≡ shape.registers → IsWitness (run_of w.registers (run_in start w)) is → IsWitness (run_of shape.registers (whole start shape.processes shape.registers w.accepted)) is
    witness_in w is p r h = subst (λ (x : ℕ × ℕ). IsWitness (run_of x.1 (whole start x.0 x.1 w.accepted)) is) (λ i. (p i, r i)) h
