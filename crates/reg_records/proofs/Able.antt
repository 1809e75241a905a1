-- That a run with room for enough events can come to rest: by ticks, each with one frame passed on.
use Rattle.std.proofs.Common.{◌≡◌, ℕ, zero, suc, ◌+◌, ◌*◌, ◌<◌, ◌≤◌, Bool, true, false, List, [], ◌∷◌, ◌++◌, length}
use Rattle.std.proofs.Common.{Option, Some, None, refl, sym, ap, ◌∙◌, subst, inl, inr, arith, length-append}
use Rattle.std.specs.Prelude.{cond, ◌==◌, nat_lt, slice_get}
use Rattle.std.proofs.lemmas.Bool.{lt-ltb, ne_eqb, cases_lt, cond-true}
use Rattle.reg_base.specs.declared.limits.TheConstants.{MOST_EVENTS}
use Rattle.reg_base.specs.declared.memory.Op.{Op}
use Rattle.reg_frames.specs.declared.bodies.Frame.{Frame}
use Rattle.reg_front.specs.declared.starts.Start.{Start}
use Rattle.reg_front.specs.Fronts.{KeepsLaws}
use Rattle.reg_process.specs.Process.{peer_at, resent}
use Rattle.reg_process.specs.declared.events.Event.{Event}
use Rattle.reg_process.specs.declared.events.Event.TheVariants.{Take, Tick}
use Rattle.reg_world.specs.declared.faults.WorldFault.{WorldFault}
use Rattle.reg_world.specs.declared.faults.WorldFault.TheVariants.{Failed, TooManyEvents, NoProcess, NoFrame}
use Rattle.reg_world.specs.Laws.{AllAcknowledged}
use Rattle.reg_world.specs.Nodes.{Nodes}
use Rattle.reg_world.specs.World.{World, whole, run, empty_world, event_fault, frame_fault}
use Rattle.reg_world.specs.Worlds.{Made, Accepts, run_in, with_event}
use Rattle.reg_world.proofs.one_order.NodeLaws.{inv_of}
use Rattle.reg_world.proofs.run.Along.{run_parts}
use Rattle.reg_world.proofs.run.Begun.{again}
use Rattle.reg_world.proofs.witness.Promised.{rests}
use Rattle.reg_base.specs.Sums.{total}
use Rattle.reg_records.specs.Rest.{put_for, most_to_rest, AreLater, CanRest}
use Rattle.reg_records.specs.RestParts.{nodes_in, link_in, pending_in, distance_in, IsGoingOn, Nears, IsPending}
use Rattle.reg_records.specs.RestParts.{IsAgain, Passing, Passes, Ticked}
use Rattle.reg_base.proofs.Totals.{total_none, total_some}
use Rattle.reg_records.proofs.EntryFacts.{pending_some}
use Rattle.reg_records.proofs.Nearer.{pending_within}
use Rattle.reg_records.proofs.Own.{none_own}
use Rattle.reg_records.proofs.Passing.{end_is, resent_at, passing_none, passing_more, passed_on}
use Rattle.reg_records.proofs.Ticking.{ticked_first, ticked_more, ticked_all}
use Rattle.reg_records.proofs.GoingOn.{at_behind}
use Rattle.reg_records.proofs.Settling.{nears_none, nears_both, goes_on}

-- an event that no fault applies to
no_fault : (failed few : Bool) (o : Option WorldFault) → failed ≡ false → few ≡ true → o ≡ None
    → cond failed (Some Failed) (cond few o (Some TooManyEvents)) ≡ None
no_fault failed few o e f g = rw (e, f, g) refl

accepts : (start : Op → ℕ → Start) (m : Made) (e : Event) → IsGoingOn start m → length m.accepted < MOST_EVENTS
    → event_fault m.processes m.registers (nodes_in start m) e ≡ None → Accepts start m e (with_event start m e)
accepts start m e G few none =
    let count = ap length G.accepted in
    record {
      no_fault = no_fault m.failed (nat_lt (length (run_in start m).accepted) MOST_EVENTS) (event_fault m.processes m.registers (nodes_in start m) e) G.going (lt-ltb (length (run_in start m).accepted) MOST_EVENTS (omega (arith, count, few))) none;
      after = refl;
    }

tick_allowed : (n registers p : ℕ) (w : Nodes) → p < n → event_fault n registers w (Tick p) ≡ None
tick_allowed n registers p w l = cond-true (nat_lt p n) None (Some NoProcess) (lt-ltb p n l)

take_tests : (a b c : Bool) (o : Option Frame) (f : Frame) → a ≡ true → b ≡ true → c ≡ false → o ≡ Some f
    → cond a (cond b (cond c (Some NoFrame) (frame_fault o)) (Some NoProcess)) (Some NoProcess) ≡ None
take_tests a b c o f e g h i = rw (e, g, h, i) refl

take_allowed : (n registers a p number : ℕ) (w : Nodes) (f : Frame) → a < n → p < n → (a ≡ p → ⊥)
    → slice_get ((w a).wire p) number ≡ Some f → event_fault n registers w (Take a p number) ≡ None
take_allowed n registers a p number w f la lp ne at = take_tests (nat_lt a n) (nat_lt p n) (a == p) (slice_get ((w a).wire p) number) f (lt-ltb a n la) (lt-ltb p n lp) (ne_eqb a p ne) at

module _ (start : Op → ℕ → Start) where
  -- a tick, one frame and its count
  one_round : (m : Made) (p q : ℕ) → IsGoingOn start m → IsPending start m p q → length m.accepted + 3 ≤ MOST_EVENTS → (new : Made) × Nears start m new × (length m.accepted < length new.accepted)
  one_round m p q G L room =
      let n = m.processes in
      let A1 = accepts start m (Tick p) G (omega (arith, room)) (tick_allowed n m.registers p (nodes_in start m) L.sender) in
      let m1 = with_event start m (Tick p) in
      let T : Ticked start m p q q m1 = ticked_first start m p q m1 G L A1 in
      let passed = put_for (nodes_in start m) in
      let qp : q ≡ p → ⊥ = λ e. L.apart (sym e) in
      let again : IsAgain start passed m1 p q = T.again q (omega arith) L.receiver qp in
      let long1 : length m1.accepted ≡ length m.accepted + 1 = length-append m.accepted (Tick p ∷ []) in
      let some : 0 < length (link_in start m1 p q).pending = T.left refl in
      let me = ((inv_of start n m.registers m1.accepted).local p L.sender).me in
      let here = resent_at (nodes_in start m1 p).state q 0 (λ e. qp (e ∙ me)) (omega (arith, some)) in
      let at : slice_get ((nodes_in start m1 p).wire q) (length again.before + 0) ≡ Some _ =
      ap (λ fs. slice_get fs (length again.before + 0)) again.wire ∙ (at_behind again.before (resent (nodes_in start m1 p).state q) 0 ∙ here.1) in
      let number : ℕ = length again.before + 0 in
      let A2 = accepts start m1 (Take p q number) T.moves.on (omega (arith, room, long1)) (take_allowed n m.registers p q number (nodes_in start m1) _ L.sender L.receiver L.apart at) in
      let m2 = with_event start m1 (Take p q number) in
      let end = end_is start passed p q m1 L.sender L.receiver L.apart again m1 in
      let first = (link_in start m1 p q).first in
      let P0 : Passing start passed m1 p q first 0 0 m1 = passing_none start passed p q m1 L.sender L.receiver L.apart 0 T.moves.on in
      let answer = put_for (nodes_in start m1) q p in
      let P : Passing start passed m1 p q first (0 + 1) answer m2 = passing_more start passed p q m1 L.sender L.receiver L.apart again m1 0 number 0 answer m2 P0 (omega (arith, some)) (omega (arith, end)) refl A2 in
      let long2 : length m2.accepted ≡ length m1.accepted + 1 = length-append m1.accepted (Take p q number ∷ []) in
      let A3 = accepts start m2 (Take q p answer) P.moves.on (omega (arith, room, long1, long2)) (take_allowed n m.registers q p answer (nodes_in start m2) _ L.receiver L.sender qp (P.answered (omega arith))) in
      let m3 = with_event start m2 (Take q p answer) in
      let Q : Passes start passed m1 p q m3 = passed_on start passed p q m1 L.sender L.receiver L.apart again m2 (0 + 1) answer m3 P (omega (arith, some)) (omega arith) A3 in
      let all = ticked_all start m p q (q + 1) m3 (ticked_more start m p q q m1 T (omega arith) m3 L.receiver L.apart Q) (omega arith) (omega arith) in
      (m3, all.0, all.1)

  -- a link on which something is pending
  some_link : (m : Made) (p : ℕ) → p < m.processes → 0 < pending_in start m p → (q : ℕ) × IsPending start m p q
  some_link m p l some =
      let s = (nodes_in start m p).state in
      let r = pending_some s.peers some in
      let size = ((inv_of start m.processes m.registers m.accepted).local p l).size in (
        r.0,
        record {
          sender = l;
          receiver = let a = r.1 in omega (arith, a, size);
          apart = λ e.
              let own = ap length (none_own start m.processes m.registers m.accepted p).pending in
              let x = ap (λ z. length (peer_at s z).pending) e in
              let y = r.2 in
              omega (arith, own, x, y);
          some = r.2;
        },
      )

  can_settle : (far : ℕ) (m : Made) → IsGoingOn start m → distance_in start m ≤ far → length m.accepted + 3 * distance_in start m ≤ MOST_EVENTS → (new : Made) × Nears start m new × AllAcknowledged new.processes (nodes_in start new)
  can_settle zero m G near room = (m, nears_none start m G, λ p l. let a = pending_within m.processes p (nodes_in start m) l in omega (arith, a, near))
  can_settle (suc far) m G near room = elim (cases_lt 0 (total m.processes (pending_in start m))) [
    | inr none ↦ (m, nears_none start m G, λ p l. total_none m.processes (pending_in start m) (omega (arith, none)) p l)
    | inl l ↦
        let r = total_some m.processes (pending_in start m) l in
        let L = some_link m r.0 r.1 r.2 in
        let within = pending_within m.processes r.0 (nodes_in start m) r.1 in
        let some = r.2 in
        let R = one_round m r.0 L.0 G L.1 (omega (arith, room, within, some)) in
        let a = R.1.nearer in
        let b = R.2 in
        let S = can_settle far R.0 R.1.moves.on (omega (arith, a, b, near)) (omega (arith, a, room)) in
        (S.0, nears_both start m R.0 S.0 R.1 S.1, S.2)
  ]

  module _ (n registers : ℕ) (events : List Event) where
    -- the run of the events that were accepted
    abbrev made : Made
    made = record { failed = false; processes = n; registers = registers; accepted = (whole start n registers events).accepted; history = (whole start n registers (whole start n registers events).accepted).history }

    same_run : run_in start made ≡ whole start n registers events
    same_run = again start n registers events

    same_after : (more : List Event) → whole start n registers (events ++ more) ≡ whole start n registers ((whole start n registers events).accepted ++ more)
    same_after more =
        run_parts start n registers events more (empty_world n registers)
        ∙ (ap (run start n registers more) (sym same_run) ∙ sym (run_parts start n registers (whole start n registers events).accepted more (empty_world n registers)))

    pub can_rest : KeepsLaws start → length (whole start n registers events).accepted + most_to_rest n (whole start n registers events).nodes ≤ MOST_EVENTS → CanRest start n registers events
    can_rest laws room =
        let G : IsGoingOn start made = record { going = refl; accepted = ap (λ (w : World). w.accepted) same_run; history = refl } in
        let far = ap (λ (w : World). most_to_rest n w.nodes) same_run in
        let S = can_settle (distance_in start made) made G (omega arith) (omega (arith, room, far)) in
        let on = goes_on start made S.0 refl S.1.moves S.1.later in
        let after : run_in start S.0 ≡ whole start n registers (events ++ on.more) = ap (run_in start) on.after ∙ sym (same_after on.more) in
        let accepted : S.0.accepted ≡ (whole start n registers events).accepted ++ on.more = ap Made.accepted on.after in
        let none : AllAcknowledged n (whole start n registers (events ++ on.more)).nodes = subst (λ (w : World). AllAcknowledged n w.nodes) after (subst (λ k. AllAcknowledged k (nodes_in start S.0)) S.1.moves.processes S.2) in
        record {
          more = on.more;
          later = subst (λ (w : World). AreLater w.nodes on.more) same_run on.later;
          few = let a = S.1.nearer in let b = ap length accepted in let c = length-append (whole start n registers events).accepted on.more in omega (arith, a, b, c, far);
          accepted = ap (λ (w : World). w.accepted) (sym after) ∙ (on.accepted ∙ accepted);
          acknowledged = none;
          quiescent = rests start n registers laws (events ++ on.more) none;
        }
