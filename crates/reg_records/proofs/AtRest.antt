-- A run is at no distance from rest exactly where nothing is pending.
use Rattle.std.proofs.Common.{◌≡◌, ℕ, ◌+◌, ◌-◌, ◌*◌, ◌<◌, Bool, true, false, List, length, cond, refl, ap, ◌∙◌, inl}
use Rattle.std.proofs.Common.{inr, arith, length-drop}
use Rattle.std.specs.Prelude.{◌==◌, ◌↔◌}
use Rattle.std.specs.List.{count_by}
use Rattle.std.proofs.lemmas.Bool.{cases_eq, cond-true, eq-eqb}
use Rattle.std.proofs.lemmas.List.{drop_all}
use Rattle.reg_base.specs.declared.memory.Op.{Op}
use Rattle.reg_front.specs.declared.starts.Start.{Start}
use Rattle.reg_process.specs.Process.{peer_at, pending_of}
use Rattle.reg_process.specs.declared.events.Event.{Event}
use Rattle.reg_world.specs.Laws.{AllAcknowledged}
use Rattle.reg_world.specs.Nodes.{Nodes}
use Rattle.reg_world.specs.World.{whole}
use Rattle.reg_world.proofs.one_order.NodeLaws.{inv_of}
use Rattle.reg_world.proofs.one_order.Settled.{none_on_link}
use Rattle.reg_world.proofs.one_order.Worlds.{Inv}
use Rattle.reg_base.specs.Sums.{total}
use Rattle.reg_records.specs.Rest.{is_cast, casts_between, casts_to, left_at, distance}
use Rattle.reg_records.proofs.Nearer.{pending_within}
use Rattle.reg_base.proofs.Totals.{total_same, total_zero}

all_none : (n : ℕ) (f : ℕ → ℕ) → ((p : ℕ) → p < n → f p ≡ 0) → total n f ≡ 0
all_none n f h = total_same n f (λ _. 0) h ∙ total_zero n

module _ (n registers k : ℕ) (w : Nodes) (I : Inv n registers k w) (none : AllAcknowledged n w) where
  none_between : (q p : ℕ) → q < n → p < n → (q ≡ p → ⊥) → casts_between w q p ≡ 0
  none_between q p lq lp ne =
      let K = I.link q p lq lp ne in
      let empty = ap length (none_on_link (w q).state.peers p (none q lq)) in
      let same = ap length K.pending in
      let rest = length-drop (peer_at (w q).state p).first (w q).queued in
      let acked = K.acked in
      ap (count_by is_cast) (drop_all (peer_at (w p).state q).expected (w q).queued (omega (arith, empty, same, rest, acked)))

  none_to : (p : ℕ) → p < n → casts_to n w p ≡ 0
  none_to p lp = all_none n (λ q. cond (q == p) 0 (casts_between w q p)) (λ q lq. elim (cases_eq q p) [
    | inl e ↦ cond-true (q == p) 0 (casts_between w q p) (eq-eqb q p e)
    | inr ne ↦ ap (cond (q == p) 0) (none_between q p lq lp ne) ∙ both (q == p)
  ])
    where
      both : (b : Bool) → (let z : ℕ = 0 in cond b z z ≡ z)
      both true = refl
      both false = refl

  at_rest : distance n w ≡ 0
  at_rest = all_none n (left_at n w) (λ p lp. nothing (pending_of (w p).state.peers) (casts_to n w p) (n - 1) (none p lp) (none_to p lp))
    where
      nothing : (a c m : ℕ) → a ≡ 0 → c ≡ 0 → a + c * m ≡ 0
      nothing a c m e f = let g : c * m ≡ 0 * m = ap (λ z. z * m) f in omega (arith, e, g)

pub rests_at_none : (start : Op → ℕ → Start) (n registers : ℕ) (events : List Event)
    → AllAcknowledged n (whole start n registers events).nodes ↔ distance n (whole start n registers events).nodes ≡ 0
rests_at_none start n registers events =
    let w = whole start n registers events in (
      λ none. at_rest n registers (length w.accepted) w.nodes (inv_of start n registers events) none,
      λ e p l. let a = pending_within n p w.nodes l in omega (arith, a, e),
    )
