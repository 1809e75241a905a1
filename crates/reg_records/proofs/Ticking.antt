-- A tick, and passing on what it put again.
use Rattle.std.proofs.Common.{◌≡◌, ℕ, ◌+◌, ◌*◌, ◌<◌, ◌≤◌, [], ◌∷◌, ◌++◌, length, refl, sym, ap, ◌∙◌, subst, inl, inr}
use Rattle.std.proofs.Common.{arith, length-append}
use Rattle.std.proofs.lemmas.Bool.{cases_eq}
use Rattle.reg_base.specs.declared.limits.TheConstants.{MOST_EVENTS}
use Rattle.reg_base.specs.declared.memory.Op.{Op}
use Rattle.reg_front.specs.declared.starts.Start.{Start}
use Rattle.reg_process.specs.declared.steps.Step.TheVariants.{Tick as TickStep}
use Rattle.reg_process.specs.Process.{peer_at, pending_of, resent}
use Rattle.reg_process.specs.declared.events.Event.TheVariants.{Tick}
use Rattle.reg_world.specs.Nodes.{Node, Nodes, after_step}
use Rattle.reg_world.specs.Worlds.{Made, Accepts, run_in}
use Rattle.reg_world.proofs.one_order.NodeEvents.{put_same}
use Rattle.reg_world.proofs.one_order.NodeLaws.{inv_of}
use Rattle.reg_records.specs.declared.faults.SettleFault.{SettleFault}
use Rattle.reg_records.specs.Rest.{distance, put_for}
use Rattle.reg_records.specs.RestParts.{nodes_in, link_in, pending_in, distance_in, IsGoingOn, Misses, Halts, Passes}
use Rattle.reg_records.specs.RestParts.{Ticked, Nears, IsPending}
use Rattle.reg_records.proofs.EntryFacts.{pending_one}
use Rattle.reg_records.proofs.Nearer.{pending_within}
use Rattle.reg_records.proofs.Taking.{quiet_same}
use Rattle.reg_records.proofs.GoingOn.{longer, moves_both, later_both, later_one, halts_here, halts_both}
use Rattle.reg_records.proofs.Making.{stepped, ticks}

module _ (start : Op → ℕ → Start) (old : Made) (p first : ℕ) where
  pub ticked_first : (new : Made) → IsGoingOn start old → IsPending start old p first → Accepts start old (Tick p) new
      → Ticked start old p first first new
  ticked_first new G L made =
      let w = nodes_in start old in
      let n = old.processes in
      let S = stepped start old new (Tick p) (p, TickStep) G made (ticks n old.registers w p L.sender) in
      let y = after_step start (w p) TickStep in
      let own : nodes_in start new p ≡ y = ap (λ (z : Nodes). z p) S.nodes ∙ put_same w p y p refl in
      let same : pending_in start new p ≡ pending_in start old p = ap (λ (z : Node). pending_of z.state.peers) own in
      let far : distance_in start new ≡ distance_in start old =
      ap (λ k. distance k (nodes_in start new)) S.moves.processes ∙ (ap (distance n) S.nodes ∙ quiet_same n old.registers (length (run_in start old).accepted) w (inv_of start n old.registers old.accepted) p L.sender y refl refl) in
      record {
        moves = S.moves;
        later = later_one (put_for w) old new (Tick p) S.accepted tt;
        ticked = let a = ap length S.accepted in let b = length-append old.accepted (Tick p ∷ []) in omega (arith, a, b);
        spent = let a = ap length S.accepted in let b = length-append old.accepted (Tick p ∷ []) in omega (arith, a, b, same);
        nearer = omega (arith, far, same);
        less = omega (arith, same);
        left = λ _. let a = L.some in let b = ap (λ (z : Node). length (peer_at z.state first).pending) own in omega (arith, a, b);
        some = λ l. absurd (omega (arith, l));
        again = λ r _ _ _. record {
          before = (w p).wire r;
          wire = ap (λ (z : Node). z.wire r) own ∙ ap (λ (z : Node). (w p).wire r ++ resent z.state r) (sym own);
          behind = omega arith;
          back = S.moves.grows r p;
        };
      }

  module _ (to : ℕ) (mid : Made) (T : Ticked start old p first to mid) (within : first ≤ to) where
    pub ticked_more : (new : Made) → (to < old.processes) → (p ≡ to → ⊥) → Passes start (put_for (nodes_in start old)) mid p to new → Ticked start old p first (to + 1) new
    ticked_more new l ne P = record {
      moves = moves_both start old mid new T.moves P.moves;
      later = later_both start (put_for (nodes_in start old)) old mid new P.moves T.later P.later;
      ticked = let a = T.ticked in let b = longer start mid new P.moves in omega (arith, a, b);
      spent = let a = T.spent in let b = P.spent in omega (arith, a, b);
      nearer = let a = T.nearer in let b = P.nearer in omega (arith, a, b);
      less = let a = T.less in let b = P.less in omega (arith, a, b);
      left = λ e. absurd (omega (arith, e, within));
      some = λ _. elim (cases_eq to first) [
        | inl e ↦ let a = T.left e in let b = P.some (subst (λ z. 0 < length (link_in start mid p z).pending) (sym e) a) in let c = T.less in omega (arith, b, c)
        | inr other ↦ let a = T.some (omega (arith, within, other)) in let b = P.less in omega (arith, a, b)
      ];
      again = λ r lr rn away.
          let A = T.again r (omega (arith, lr)) rn away in
          record {
            before = A.before;
            wire = P.wires r ∙ (A.wire ∙ ap (λ fs. A.before ++ fs) (sym (P.links r (λ e. absurd (omega (arith, lr, e))))));
            behind = A.behind;
            back = let a = A.back in let b = P.moves.grows r p in omega (arith, a, b);
          };
    }

    -- the process itself
    pub ticked_skip : to ≡ p → (p ≡ first → ⊥) → Ticked start old p first (to + 1) mid
    ticked_skip e ne = record {
      moves = T.moves;
      later = T.later;
      ticked = T.ticked;
      spent = T.spent;
      nearer = T.nearer;
      less = T.less;
      left = λ q. absurd (omega (arith, q, within));
      some = λ _. elim (cases_eq to first) [
        | inl q ↦ absurd (ne (sym e ∙ q))
        | inr other ↦ T.some (omega (arith, within, other))
      ];
      again = λ r lr rn away. T.again r (omega (arith, lr)) rn away;
    }

    -- where what a link put again was not passed on
    pub ticked_halts : (new : Made) (fault : SettleFault) → p < old.processes → 0 < pending_in start old p → Halts start (put_for (nodes_in start old)) mid (2 * pending_in start mid p) fault new → Halts start (put_for (nodes_in start old)) old (3 * distance_in start old) fault new
    ticked_halts new fault l some H =
        let a = T.spent in
        let b = pending_within old.processes p (nodes_in start old) l in
        halts_both start (put_for (nodes_in start old)) old mid new (2 * pending_in start mid p) (3 * distance_in start old) fault T.moves T.later (omega (arith, a, b, some)) H

    pub ticked_all : first < to → Nears start old mid × (length old.accepted < length mid.accepted)
    ticked_all l = (record { moves = T.moves; later = T.later; nearer = let a = T.spent in let b = T.nearer in let c = T.some l in omega (arith, a, b, c) }, T.ticked)

  pub some_pending : IsPending start old p first → 0 < pending_in start old p
  some_pending L = let a = pending_one (nodes_in start old p).state.peers first in let b = L.some in omega (arith, a, b)

  pub tick_halts : (new : Made) (fault : SettleFault) → IsGoingOn start old → length old.accepted ≤ MOST_EVENTS
      → IsPending start old p first → Misses start old (Tick p) fault new
      → Halts start (put_for (nodes_in start old)) old (3 * distance_in start old) fault new
  tick_halts new fault G few L H =
      let a = some_pending L in
      let b = pending_within old.processes p (nodes_in start old) L.sender in
      halts_here start (put_for (nodes_in start old)) old new (Tick p) (3 * distance_in start old) fault G few (omega (arith, a, b)) (omega (arith, a, b)) H
