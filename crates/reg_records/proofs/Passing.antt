-- Passing on the frames that a tick put again on one link.
use Rattle.std.proofs.Common.{◌≡◌, ℕ, zero, suc, ◌+◌, ◌*◌, ◌<◌, ◌≤◌, min, List, [], ◌∷◌, ◌++◌, length, take, Some, refl}
use Rattle.std.proofs.Common.{sym, ap, ◌∙◌, arith, length-append, length-take}
use Rattle.std.specs.Prelude.{◌==◌, slice_get}
use Rattle.std.proofs.lemmas.Bool.{cond-false, ne_eqb}
use Rattle.reg_base.specs.declared.limits.TheConstants.{MOST_RESENT, MOST_EVENTS}
use Rattle.reg_base.specs.declared.memory.Op.{Op}
use Rattle.reg_frames.specs.declared.bodies.Body.{Body}
use Rattle.reg_frames.specs.declared.bodies.Frame.TheVariants.{Numbered, Got}
use Rattle.reg_front.specs.declared.starts.Start.{Start}
use Rattle.reg_process.specs.declared.steps.Step.TheVariants.{Take as TakeStep}
use Rattle.reg_process.specs.Process.{State, peer_at, pending_of, numbered_from, resent}
use Rattle.reg_process.specs.declared.events.Event.{Event}
use Rattle.reg_process.specs.declared.events.Event.TheVariants.{Take}
use Rattle.reg_world.specs.Nodes.{Node, Nodes, put, after_step, op_in}
use Rattle.reg_world.specs.Worlds.{Made, Accepts, run_in}
use Rattle.reg_world.proofs.lists.Bodies.{place_in}
use Rattle.reg_world.proofs.one_order.Worlds.{Inv}
use Rattle.reg_world.proofs.one_order.NodeEvents.{put_same, put_other}
use Rattle.reg_world.proofs.one_order.NodeLaws.{inv_of}
use Rattle.reg_records.proofs.Few.{numbered_many}
use Rattle.reg_records.specs.declared.faults.SettleFault.{SettleFault}
use Rattle.reg_records.specs.Rest.{distance, put_for}
use Rattle.reg_records.specs.RestParts.{nodes_in, link_in, pending_in, distance_in, IsGoingOn, Misses, Halts, IsAgain}
use Rattle.reg_records.specs.RestParts.{Passing, Passes}
use Rattle.reg_records.proofs.EntryFacts.{pending_one}
use Rattle.reg_records.proofs.Nearer.{pending_within}
use Rattle.reg_records.proofs.Taking.{Took, Counted, took, counted}
use Rattle.reg_records.proofs.GoingOn.{at_behind, moves_none, moves_both, later_none, later_both, later_one, halts_here}
use Rattle.reg_records.proofs.GoingOn.{halts_both}
use Rattle.reg_records.proofs.Making.{stepped, takes}

numbered_at : (i : ℕ) (bs : List Body) (j : ℕ) → j < length bs
    → (b : Body) × (slice_get (numbered_from i bs) j ≡ Some (Numbered (i + j) b))
numbered_at i [] j l = absurd (omega (arith, l))
numbered_at i (b ∷ bs) zero l = (b, let e : i ≡ i + 0 = omega arith in ap (λ k. Some (Numbered k b)) e)
numbered_at i (b ∷ bs) (suc j) l =
    let r = numbered_at (i + 1) bs j (omega (arith, l)) in
    let e : i + 1 + j ≡ i + suc j = omega arith in
    (r.0, r.1 ∙ ap (λ k. Some (Numbered k r.0)) e)

-- what a tick puts again for another process
resent_is : (s : State) (r : ℕ) → (r ≡ s.me → ⊥)
    → resent s r ≡ numbered_from (peer_at s r).first (take MOST_RESENT (peer_at s r).pending)
resent_is s r ne = cond-false (r == s.me) [] (numbered_from (peer_at s r).first (take MOST_RESENT (peer_at s r).pending)) (ne_eqb r s.me ne)

resent_many : (s : State) (r : ℕ) → (r ≡ s.me → ⊥)
    → length (resent s r) ≡ min MOST_RESENT (length (peer_at s r).pending)
resent_many s r ne = ap length (resent_is s r ne) ∙ (numbered_many (peer_at s r).first (take MOST_RESENT (peer_at s r).pending) ∙ length-take MOST_RESENT (peer_at s r).pending)

pub resent_at : (s : State) (r j : ℕ) → (r ≡ s.me → ⊥) → j < min MOST_RESENT (length (peer_at s r).pending)
    → (b : Body) × (slice_get (resent s r) j ≡ Some (Numbered ((peer_at s r).first + j) b))
resent_at s r j ne l =
    let m = length-take MOST_RESENT (peer_at s r).pending in
    let n = numbered_at (peer_at s r).first (take MOST_RESENT (peer_at s r).pending) j (omega (arith, l, m)) in
    (n.0, ap (λ fs. slice_get fs j) (resent_is s r ne) ∙ n.1)

module _ (start : Op → ℕ → Start) (passed : ℕ → ℕ → ℕ) (from to : ℕ) where
  -- nothing was put again
  pub passes_none : (m : Made) → IsGoingOn start m → min MOST_RESENT (length (link_in start m from to).pending) ≡ 0
      → Passes start passed m from to m
  passes_none m G none = record {
    moves = moves_none start m G;
    later = later_none passed m;
    spent = omega arith;
    nearer = omega arith;
    less = omega arith;
    some = λ l. absurd (omega (arith, none, l));
    wires = λ r. refl;
    links = λ r _. refl;
  }

  module _ (old : Made) (lf : from < old.processes) (lt : to < old.processes) (ne : from ≡ to → ⊥) where
    abbrev pub first : ℕ
    first = (link_in start old from to).first

    abbrev pub count : ℕ
    count = min MOST_RESENT (length (link_in start old from to).pending)

    inv_in : (m : Made) → Inv m.processes m.registers (length (run_in start m).accepted) (nodes_in start m)
    inv_in m = inv_of start m.processes m.registers m.accepted

    not_me : to ≡ (nodes_in start old from).state.me → ⊥
    not_me e = ne (sym (e ∙ ((inv_in old).local from lf).me))

    pub passing_none : (answer : ℕ) → IsGoingOn start old → Passing start passed old from to first 0 answer old
    passing_none answer G = record {
      moves = moves_none start old G;
      later = later_none passed old;
      count = omega arith;
      same = refl;
      far = refl;
      expects = let K = ((inv_in old).link from to lf lt ne).acked in omega (arith, K);
      answered = λ l. absurd (omega (arith, l));
      behind = λ l. absurd (omega (arith, l));
    }

    module _ (A : IsAgain start passed old from to) (mid : Made) where
      pub end_is : put_for (nodes_in start old) from to ≡ length A.before + count
      end_is =
          let a = ap length A.wire in
          let b = length-append A.before (resent (nodes_in start old from).state to) in
          let c = resent_many (nodes_in start old from).state to not_me in
          omega (arith, a, b, c)

      -- one more was taken
      pub passing_more : (done number answer answer1 : ℕ) (new : Made) → Passing start passed old from to first done answer mid → done < count → number + count ≡ put_for (nodes_in start old) from to + done → answer1 ≡ put_for (nodes_in start mid) to from → Accepts start mid (Take from to number) new → Passing start passed old from to first (done + 1) answer1 new
      passing_more done number answer answer1 new P l at is made =
          let w = nodes_in start mid in
          let n = mid.processes in
          let lf1 : from < n = let e = P.moves.processes in omega (arith, e, lf) in
          let lt1 : to < n = let e = P.moves.processes in omega (arith, e, lt) in
          let place : number ≡ length A.before + done = let e = end_is in omega (arith, at, e) in
          let here = resent_at (nodes_in start old from).state to done not_me l in
          let frame : slice_get ((w from).wire to) number ≡ Some (Numbered (first + done) here.0) =
          ap (λ (z : Node). slice_get (z.wire to) number) P.same
          ∙ (ap (λ fs. slice_get fs number) A.wire
          ∙ (ap (slice_get (A.before ++ resent (nodes_in start old from).state to)) place
          ∙ (at_behind A.before (resent (nodes_in start old from).state to) done ∙ here.1))) in
          let I = inv_in mid in
          let K = I.link from to lf1 lt1 ne in
          let queued = K.numbered (first + done) here.0 (place_in ((w from).wire to) number (Numbered (first + done) here.0) frame) in
          let step = TakeStep from (Numbered (first + done) here.0) in
          let S = stepped start mid new (Take from to number) (to, step) P.moves.on made (takes n mid.registers w from to number (Numbered (first + done) here.0) lf1 lt1 ne frame) in
          let y = after_step start (w to) step in
          let T : Took n to from (first + done) w y = took n mid.registers (length (run_in start mid).accepted) w I to lt1 from lf1 ne (first + done) here.0 (op_in (w to).state step) queued in
          let own : nodes_in start new to ≡ y = ap (λ (z : Nodes). z to) S.nodes ∙ put_same w to y to refl in
          record {
            moves = moves_both start old mid new P.moves S.moves;
            later = later_both start passed old mid new S.moves P.later (later_one passed mid new (Take from to number) S.accepted (let b = A.behind in omega (arith, place, b)));
            count = let a = ap length S.accepted in let b = length-append mid.accepted (Take from to number ∷ []) in let c = P.count in omega (arith, a, b, c);
            same = ap (λ (z : Nodes). z from) S.nodes ∙ (put_other w to y from ne ∙ P.same);
            far = ap (λ k. distance k (nodes_in start new)) S.moves.processes ∙ (ap (distance n) S.nodes ∙ (T.distance ∙ P.far));
            expects = let a = T.expects P.expects in let b = ap (λ (z : Node). (peer_at z.state from).expected) own in omega (arith, a, b);
            answered = λ _. ap (λ (z : Node). slice_get (z.wire from) answer1) own ∙ (ap (slice_get (y.wire from)) is ∙ (T.answer ∙ ap (λ (z : Node). Some (Got (peer_at z.state from).expected)) (sym own)));
            behind = λ _. let g = P.moves.grows to from in omega (arith, g, is);
          }

      -- some were taken, and then the count
      pub passed_on : (done answer : ℕ) (new : Made) → Passing start passed old from to first done answer mid → done ≤ count → 0 < done → Accepts start mid (Take to from answer) new → Passes start passed old from to new
      passed_on done answer new P most some made =
          let w = nodes_in start mid in
          let n = mid.processes in
          let lf1 : from < n = let e = P.moves.processes in omega (arith, e, lf) in
          let lt1 : to < n = let e = P.moves.processes in omega (arith, e, lt) in
          let en : to ≡ from → ⊥ = λ e. ne (sym e) in
          let told = (link_in start mid to from).expected in
          let I = inv_in mid in
          let step = TakeStep to (Got told) in
          let S = stepped start mid new (Take to from answer) (from, step) P.moves.on made (takes n mid.registers w to from answer (Got told) lt1 lf1 en (P.answered some)) in
          let y = after_step start (w from) step in
          let C : Counted n from to told w y = counted n mid.registers (length (run_in start mid).accepted) w I from lf1 to lt1 en told (op_in (w from).state step) in
          let own : nodes_in start new from ≡ y = ap (λ (z : Nodes). z from) S.nodes ∙ put_same w from y from refl in
          let same_first : (peer_at (w from).state to).first ≡ first = ap (λ (z : Node). (peer_at z.state to).first) P.same in
          let same_many : length (peer_at (w from).state to).pending ≡ length (link_in start old from to).pending = ap (λ (z : Node). length (peer_at z.state to).pending) P.same in
          let enough : done ≤ C.fall = let e = P.expects in C.enough done (omega (arith, e, same_first)) (omega (arith, same_many, most)) in
          let was : pending_of (w from).state.peers ≡ pending_in start old from = ap (λ (z : Node). pending_of z.state.peers) P.same in
          let is : pending_in start new from ≡ pending_of y.state.peers = ap (λ (z : Node). pending_of z.state.peers) own in
          let fell : pending_in start new from + C.fall ≡ pending_in start old from = let a = C.pending in omega (arith, a, was, is) in
          let far : distance_in start new + C.fall ≡ distance_in start old =
          let a = C.distance in
          let b : distance_in start new ≡ distance n (put w from y) = ap (λ k. distance k (nodes_in start new)) S.moves.processes ∙ ap (distance n) S.nodes in
          let c = P.far in
          omega (arith, a, b, c) in
          let long : length new.accepted ≡ length old.accepted + done + 1 =
          let a = ap length S.accepted in let b = length-append mid.accepted (Take to from answer ∷ []) in let c = P.count in omega (arith, a, b, c) in
          record {
            moves = moves_both start old mid new P.moves S.moves;
            later = later_both start passed old mid new S.moves P.later (later_one passed mid new (Take to from answer) S.accepted (let a = A.back in let b = P.behind some in omega (arith, a, b)));
            spent = omega (arith, long, fell, enough, some);
            nearer = omega (arith, far, fell);
            less = omega (arith, fell);
            some = λ _. omega (arith, fell, enough, some);
            wires = λ r. ap (λ (z : Node). z.wire r) own ∙ (C.wires r ∙ ap (λ (z : Node). z.wire r) P.same);
            links = λ r other. ap (λ (z : Node). resent z.state r) own ∙ (C.links r other ∙ ap (λ (z : Node). resent z.state r) P.same);
          }

      -- the next one was not
      pub passing_halts : (done answer : ℕ) (new : Made) (e : Event) (fault : SettleFault) → Passing start passed old from to first done answer mid → done ≤ count → 0 < count → length mid.accepted ≤ MOST_EVENTS → Misses start mid e fault new → Halts start passed old (2 * pending_in start old from) fault new
      passing_halts done answer new e fault P most l few H =
          let within = pending_one (nodes_in start old from).state.peers to in
          let all = pending_within old.processes from (nodes_in start old) lf in
          let far : 0 < distance_in start mid = let a = P.far in omega (arith, a, all, within, l) in
          halts_both start passed old mid new 1 (2 * pending_in start old from) fault P.moves P.later (let c = P.count in omega (arith, c, most, l, within)) (halts_here start passed mid new e 1 fault P.moves.on few (omega arith) far H)
