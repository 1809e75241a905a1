-- One more mention of a record, and its end.
use Rattle.std.proofs.Common.{◌≡◌, ℕ, zero, suc, ◌<◌, Bool, true, false, List, length, take, Some, IsTrue, rules, refl}
use Rattle.std.proofs.Common.{ap, sym, ◌∙◌, subst, arith}
use Rattle.std.specs.Prelude.{slice_index}
use Rattle.std.proofs.lemmas.Option.{same_Some}
use Rattle.reg_base.specs.declared.memory.Op.{Op}
use Rattle.reg_base.specs.Shape.{Extent}
use Rattle.reg_front.specs.declared.starts.Start.{Start}
use Rattle.reg_checkers.specs.declared.entries.Entry.{Entry}
use Rattle.reg_checkers.specs.Log.{Log, IsLog}
use Rattle.reg_checkers.specs.History.{IsAt, IsHistory}
use Rattle.reg_process.specs.declared.events.Event.{Event}
use Rattle.reg_world.specs.declared.faults.WorldFault.{WorldFault}
use Rattle.reg_world.specs.declared.faults.WorldFault.TheVariants.{Failed, TooManyEvents, NoProcess, Busy, NoRegister}
use Rattle.reg_world.specs.declared.faults.WorldFault.TheVariants.{TooManyOperations, NoFrame, OutOfMemory}
use Rattle.reg_world.specs.Worlds.{Made, run_in, reply_in, refusal, Accepts, Refuses}
use Rattle.reg_records.specs.declared.entries.LogEntry.{LogEntry}
use Rattle.reg_records.specs.Records.{Plays, FailsAt, NothingLeft, entry_of, mentions}
use Rattle.reg_records.specs.Playing.{IsEventOf, Moves, IsMade, IsTurn, AreTallied, StandsForNone}
use Rattle.reg_records.proofs.Steps.{moves, no_move, same_reply}
use Rattle.reg_records.proofs.Alike.{no_turn}

false_is_false : IsTrue false → ⊥
false_is_false h = search rules

-- a refusal that isn't want of memory
pub refused_fault : (start : Op → ℕ → Start) (w new : Made) (e : Event) (fault : WorldFault)
    → Refuses start w e fault new → (fault ≡ OutOfMemory → ⊥) → refusal start w e ≡ Some fault
refused_fault start w new e OutOfMemory h off = absurd (off refl)
refused_fault start w new e Failed h off = h.0
refused_fault start w new e TooManyEvents h off = h.0
refused_fault start w new e NoProcess h off = h.0
refused_fault start w new e Busy h off = h.0
refused_fault start w new e NoRegister h off = h.0
refused_fault start w new e TooManyOperations h off = h.0
refused_fault start w new e NoFrame h off = h.0

-- the entry of a mention
pub stands_is : (logs : List (List LogEntry)) (order counts : List ℕ) (place p q : ℕ) (entry : LogEntry) → p ≡ q
    → p < length counts → AreTallied counts order place → Some entry ≡ entry_of logs p (slice_index counts p)
    → entry_of logs q (mentions q (take place order)) ≡ Some entry
stands_is logs order counts place p q entry e lt tallied is =
    subst (λ (r : ℕ). entry_of logs r (mentions r (take place order)) ≡ Some entry) e (ap (entry_of logs p) (sym (tallied p lt)) ∙ sym is)

module _ (start : Op → ℕ → Start) (w : Made) (p : ℕ) (entry : LogEntry) (going : w.failed ≡ false) where
  -- an event whose reply is the entry's, or another
  pub reply_made : (e : Event) (new : Made) (same : Bool) → IsEventOf (run_in start w).nodes p entry.step e
      → Accepts start w e new
      → ((IsTrue same → reply_in start w e ≡ entry.reply) × (reply_in start w e ≡ entry.reply → IsTrue same)) → IsMade start w p entry same new
  reply_made e new true is accepts tells = made
    where
      made : IsMade start w p entry true new
      made = (e, record { move = moves start w p entry.step e is going accepts.no_fault; reply = tells.0 refl }, accepts.after)
  reply_made e new false is accepts tells = none
    where
      none : IsMade start w p entry false new
      none f other =
          let here : Moves start w p entry.step e = moves start w p entry.step e is going accepts.no_fault in
          false_is_false (tells.1 (same_reply start w p entry.step e f here other.move ∙ other.reply))

  -- an event to which a fault applies
  pub fault_made : (e : Event) (new : Made) (fault : WorldFault) → IsEventOf (run_in start w).nodes p entry.step e
      → refusal start w e ≡ Some fault → IsMade start w p entry false new
  fault_made e new fault is some f other = no_move start w p entry.step e fault is going some f other.move

module _ (start : Op → ℕ → Start) (order : List ℕ) (logs : List (List LogEntry)) (place : ℕ) (w : Made) where
  -- the mention's entry is made, or it isn't
  pub turns : (p : ℕ) (entry : LogEntry) (new : Made) (made : Bool) → IsAt order place p
      → entry_of logs p (mentions p (take place order)) ≡ Some entry → IsMade start w p entry made new
      → IsTurn start order logs place w made new
  turns p entry new true mention stands made = let e = made.0 in let is = made.1 in let then = made.2 in record { process = p; entry = entry; event = e; mention = mention; stands = stands; move = is.move; reply = is.reply; then = then }
  turns p entry new false mention stands none = off
    where
      off : IsTurn start order logs place w false new
      off next t =
          let process : t.process ≡ p = same_Some t.process p (sym t.mention ∙ mention) in
          let same : t.entry ≡ entry = same_Some t.entry entry (sym t.stands ∙ (ap (λ (q : ℕ). entry_of logs q (mentions q (take place order))) process ∙ stands)) in
          let move : Moves start w p entry.step t.event = t.move ∙ (ap (λ (q : ℕ). Some (q, t.entry.step)) process ∙ ap (λ (x : LogEntry). Some (p, x.step)) same) in
          none t.event (record { move = move; reply = t.reply ∙ ap (λ (x : LogEntry). x.reply) same })

  -- a mention that stands for no entry isn't played
  pub none_turns : (new : Made) → StandsForNone order logs place → IsTurn start order logs place w false new
  none_turns new none next t = none t.process t.entry (t.mention, t.stands)

-- the first place that can't be played
pub fails_in : (start : Op → ℕ → Start) (shape : Extent) (order : List ℕ) (logs : List (List LogEntry)) (place : ℕ)
    (u new : Made)
    → place < length order → Plays start shape order logs place u → IsTurn start order logs place u false new
    → FailsAt start shape order logs place
fails_in start shape order logs place u new lt plays off = record {
  reached = u;
  plays = plays;
  within = omega arith;
  stuck = λ less. no_turn start shape order logs place u plays off;
  left = λ e. absurd (omega arith);
}

-- some entry is left
pub fails_behind : (start : Op → ℕ → Start) (shape : Extent) (order : List ℕ) (logs : List (List LogEntry)) (place : ℕ)
    (u : Made)
    → place ≡ length order → Plays start shape order logs place u → (NothingLeft order logs → ⊥)
    → FailsAt start shape order logs place
fails_behind start shape order logs place u e plays some = record {
  reached = u;
  plays = plays;
  within = omega arith;
  stuck = λ less. absurd (omega arith);
  left = λ same. some;
}

-- a run of a shape is of that shape
pub plays_shape : (start : Op → ℕ → Start) (shape : Extent) (order : List ℕ) (logs : List (List LogEntry)) (k : ℕ)
    (w : Made)
    → Plays start shape order logs k w → (w.processes ≡ shape.processes) × (w.registers ≡ shape.registers)
plays_shape start shape order logs zero w e = (ap (λ (m : Made). m.processes) e, ap (λ (m : Made). m.registers) e)
plays_shape start shape order logs (suc k) w (before, plays, turn) =
    let r = plays_shape start shape order logs k before plays in
    (ap (λ (m : Made). m.processes) turn.then ∙ r.0, ap (λ (m : Made). m.registers) turn.then ∙ r.1)

-- and its history is in place
pub history_of : (start : Op → ℕ → Start) (shape : Extent) (order : List ℕ) (logs : List (List LogEntry)) (k : ℕ)
    (w : Made)
    → Plays start shape order logs k w
    → (h : Log) (es : List Entry) → h.shape ≡ record { processes = w.processes; registers = w.registers } → IsLog h → es ≡ h.entries → IsHistory shape.processes shape.registers es
history_of start shape order logs k w plays h es same good is =
    let r = plays_shape start shape order logs k w plays in
    let processes : h.shape.processes ≡ shape.processes = ap (λ (e : Extent). e.processes) same ∙ r.0 in
    let registers : h.shape.registers ≡ shape.registers = ap (λ (e : Extent). e.registers) same ∙ r.1 in
    subst (λ (xs : List Entry). IsHistory shape.processes shape.registers xs) (sym is)
    (subst (λ (n : ℕ). IsHistory n shape.registers h.entries) processes (subst (λ (n : ℕ). IsHistory h.shape.processes n h.entries) registers good))
