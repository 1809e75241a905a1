-- Rounds, one after another, and what they come to.
use Rattle.std.proofs.Common.{◌≡◌, ℕ, suc, ◌+◌, ◌*◌, false, List, [], ◌∷◌, ◌++◌, length, Some, sym, ap, ◌∙◌, inl, inr}
use Rattle.std.proofs.Common.{arith}
use Rattle.std.specs.Prelude.{slice_get}
use Rattle.reg_base.specs.declared.memory.Op.{Op}
use Rattle.reg_base.specs.Order.{In}
use Rattle.reg_front.specs.declared.starts.Start.{Start}
use Rattle.reg_front.specs.Fronts.{KeepsLaws}
use Rattle.reg_process.specs.declared.events.Event.{Event}
use Rattle.reg_world.specs.Laws.{AllAcknowledged}
use Rattle.reg_world.specs.World.{whole}
use Rattle.reg_world.specs.Worlds.{Made}
use Rattle.reg_world.proofs.witness.Promised.{rests}
use Rattle.reg_records.specs.declared.faults.SettleFault.{SettleFault}
use Rattle.reg_records.specs.declared.faults.SettleFault.TheVariants.{Failed, TooManyEvents, OutOfMemory}
use Rattle.reg_records.specs.Rest.{put_for, with_events, GoesOn, Settles, Stops}
use Rattle.reg_records.specs.RestParts.{nodes_in, distance_in, IsGoingOn, Moves, AreLaterSince, Halts, Nears}
use Rattle.reg_records.proofs.GoingOn.{at_behind, moves_none, moves_both, later_none, later_both, later_weaker}
use Rattle.reg_records.proofs.GoingOn.{halts_both, halts_weaker}

pub nears_none : (start : Op → ℕ → Start) (m : Made) → IsGoingOn start m → Nears start m m
nears_none start m G =
    record { moves = moves_none start m G; later = later_none (put_for (nodes_in start m)) m; nearer = omega arith }

pub nears_both : (start : Op → ℕ → Start) (old mid new : Made) → Nears start old mid → Nears start mid new
    → Nears start old new
nears_both start old mid new A B = record {
  moves = moves_both start old mid new A.moves B.moves;
  later = later_both start (put_for (nodes_in start old)) old mid new B.moves A.later (later_weaker (put_for (nodes_in start mid)) (put_for (nodes_in start old)) mid new A.moves.grows B.later);
  nearer = let a = A.nearer in let b = B.nearer in omega (arith, a, b);
}

pub nears_halts : (start : Op → ℕ → Start) (old mid new : Made) (fault : SettleFault) → Nears start old mid
    → Halts start (put_for (nodes_in start mid)) mid (3 * distance_in start mid) fault new
    → Halts start (put_for (nodes_in start old)) old (3 * distance_in start old) fault new
nears_halts start old mid new fault A H =
    halts_both start (put_for (nodes_in start old)) old mid new (3 * distance_in start mid) (3 * distance_in start old) fault A.moves A.later A.nearer
    (halts_weaker start (put_for (nodes_in start mid)) (put_for (nodes_in start old)) mid new (3 * distance_in start mid) fault A.moves.grows H)

place_of : (e : Event) (es : List Event) → In e es → (k : ℕ) × (slice_get es k ≡ Some e)
place_of e [] h = absurd h
place_of e (x ∷ xs) (inl q) = (0, ap Some (sym q))
place_of e (x ∷ xs) (inr h) = let r = place_of e xs h in (suc r.0, r.1)

pub goes_on : (start : Op → ℕ → Start) (old new : Made) → old.failed ≡ false → Moves start old new
    → AreLaterSince (put_for (nodes_in start old)) old new → GoesOn start old new
goes_on start old new going M L = record {
  more = M.more;
  later = λ e h.
      let r = place_of e M.more h in
      L.each (length old.accepted + r.0) e (omega arith) (ap (λ es. slice_get es (length old.accepted + r.0)) M.accepted ∙ (at_behind old.accepted M.more r.0 ∙ r.1));
  after = after;
  accepted = M.on.accepted;
}
  where
    failed : new.failed ≡ old.failed
    failed = M.on.going ∙ sym going

    history : new.history ≡ (whole start old.processes old.registers (old.accepted ++ M.more)).history
    history = M.on.history ∙ (λ i. (whole start (M.processes i) (M.registers i) (M.accepted i)).history)

    after : new ≡ with_events start old M.more
    after = λ i. record { failed = failed i; processes = M.processes i; registers = M.registers i; accepted = M.accepted i; history = history i }

pub settles : (start : Op → ℕ → Start) → KeepsLaws start → (old new : Made) (count : ℕ) → old.failed ≡ false
    → Nears start old new → AllAcknowledged new.processes (nodes_in start new)
    → length new.accepted ≡ length old.accepted + count → Settles start old count new
settles start laws old new count going N none is = record {
  going = going;
  goes = goes_on start old new going N.moves N.later;
  made = is;
  few = let a = N.nearer in omega (arith, a, is);
  acknowledged = none;
  quiescent = rests start new.processes new.registers laws new.accepted none;
}

pub stops : (start : Op → ℕ → Start) (old new : Made) (fault : SettleFault) → old.failed ≡ false
    → Halts start (put_for (nodes_in start old)) old (3 * distance_in start old) fault new → Stops start old fault new
stops start old new Failed going H = absurd H
stops start old new TooManyEvents going H =
    (going, goes_on start old new going H.0 H.1, H.2, H.3, let a = H.3 in let b = H.4 in omega (arith, a, b))
stops start old new OutOfMemory going H = (going, H.0, goes_on start old H.0 going H.1 H.2, H.3, H.4)
