-- The history of every run has a serial order.
use Rattle.std.proofs.Common.{ℕ, zero, suc, ◌<◌, List, [], ◌∷◌, ◌++◌, map, sym, subst, inl, inr, arith}
use Rattle.std.specs.Cmp.{IsTotalOrder}
use Rattle.std.proofs.lemmas.Bool.{cases_eq}
use Rattle.std.proofs.lemmas.Cmp.{nat_cmp_total, on_total, then_total}
use Rattle.reg_base.specs.declared.memory.Op.{Op}
use Rattle.reg_base.specs.declared.memory.OpId.{OpId}
use Rattle.reg_front.specs.declared.starts.Start.{Start}
use Rattle.reg_front.specs.Fronts.{KeepsLaws}
use Rattle.reg_process.specs.declared.events.Event.{Event}
use Rattle.reg_checkers.specs.History.{IsAt}
use Rattle.reg_checkers.specs.Orders.{IsSerial}
use Rattle.reg_checkers.proofs.Places.{get_push_same}
use Rattle.reg_world.specs.Books.{AreTallies, tally_of}
use Rattle.reg_world.specs.Members.{listed}
use Rattle.reg_world.specs.Tallies.{Tally}
use Rattle.reg_world.specs.Witnesses.{ranked_cmp, ranked_read, last_stamp, lost_from, is_kept, all_keyed, ids_of}
use Rattle.reg_world.specs.World.{World, whole}
use Rattle.reg_world.proofs.code.Tallied.{keyed_is}
use Rattle.reg_world.proofs.lists.Bodies.{place_first}
use Rattle.reg_world.proofs.witness.Premises.{R, is_run}
use Rattle.reg_world.proofs.witness.Serial.{witness_serial}
use Rattle.reg_outcomes.proofs.MissingSort.{sorted_list}
use Rattle.reg_world.proofs.code.Sending.{length-listed}

at_listed : {X : Type 0} (f : ℕ → X) (n p : ℕ) → p < n → IsAt (listed f n) p (f p)
at_listed f zero p lt = absurd (omega arith)
at_listed f (suc n) p lt = elim (cases_eq p n) [
  | inl e ↦ subst (λ q. IsAt (listed f n ++ f n ∷ []) q (f q)) (sym e) (get_push_same (listed f n) n (f n) (length-listed f n))
  | inr ne ↦ place_first (listed f n) (f n ∷ []) p (f p) (at_listed f n p (omega (arith, lt, ne)))
]

ranked_total : IsTotalOrder ranked_cmp
ranked_total = then_total (on_total (λ q. q.rank) nat_cmp_total) (then_total (on_total (λ q. q.id.process) nat_cmp_total) (on_total (λ q. q.id.number) nat_cmp_total))

pub serial_order : (start : Op → ℕ → Start) (n registers : ℕ) → KeepsLaws start → (events : List Event)
    → (ids : List OpId) × IsSerial registers (whole start n registers events).history ids
serial_order start n registers laws events =
    let w : World = whole start n registers events in
    let tallies : List Tally = listed (tally_of w) n in
    let are : AreTallies n w tallies = record { size = length-listed (tally_of w) n; each = at_listed (tally_of w) n } in
    let reads = sorted_list ranked_cmp ranked_total (map ranked_read w.reads) in
    let lost = sorted_list ranked_cmp ranked_total (lost_from (last_stamp w.order) 0 tallies) in
    let ids : List OpId = ids_of (all_keyed (is_kept tallies) reads.0 w.order lost.0) in
    (ids, witness_serial (R start n registers laws events) ids (is_run start n registers laws events) (keyed_is start n registers laws events tallies are reads.0 lost.0 (record { sorted = reads.1; stable = reads.2 }) (record { sorted = lost.1; stable = lost.2 })))
