-- What a fair play keeps, and what it has come to where it rests.
use Rattle.std.proofs.Common.{◌≡◌, ℕ, zero, suc, ◌+◌, ◌-◌, ◌*◌, ◌<◌, ◌≤◌, ◌≢◌, Bool, true, false, not, List, [], ◌∷◌}
use Rattle.std.proofs.Common.{◌++◌, length, drop, Option, Some, None, refl, sym, ap, ◌∙◌, subst, inl, inr, arith}
use Rattle.std.proofs.Common.{length-append}
use Rattle.std.specs.Prelude.{cond, ◌==◌, ◌&&◌, nat_lt, slice_get, slice_index_or, replicate}
use Rattle.std.specs.Option.{is_some}
use Rattle.std.specs.List.{range_with_len}
use Rattle.std.proofs.lemmas.List.{append-nil}
use Rattle.std.proofs.lemmas.Bool.{cond-true, cond-false, cond_both, eq-eqb, ne_eqb, cases_eq, eqb-false, ltb-true}
use Rattle.std.proofs.lemmas.Bool.{and_parts, not-true, false≢true}
use Rattle.std.proofs.lemmas.Option.{slice_get_within}
use Rattle.reg_base.specs.declared.limits.TheConstants.{MOST_EVENTS, MOST_OPERATIONS}
use Rattle.reg_base.specs.declared.memory.Op.{Op}
use Rattle.reg_base.specs.Memory.{register_of}
use Rattle.reg_base.specs.Shape.{Extent}
use Rattle.reg_frames.specs.declared.bodies.Frame.{Frame}
use Rattle.reg_front.specs.declared.starts.Start.{Start}
use Rattle.reg_front.specs.Fronts.{KeepsLaws}
use Rattle.reg_process.specs.declared.steps.Step.{Step}
use Rattle.reg_process.specs.declared.steps.Step.TheVariants.{Call as CallStep, Take as TakeStep}
use Rattle.reg_process.specs.declared.events.Event.{Event}
use Rattle.reg_process.specs.declared.events.Event.TheVariants.{Call, Take}
use Rattle.reg_world.specs.NodeParts.{NothingPending}
use Rattle.reg_world.specs.Nodes.{put, after_step, take_step}
use Rattle.reg_world.specs.World.{World, move_of, moved, world_fault}
use Rattle.reg_world.specs.Worlds.{Made, Accepts, run_in, with_event, new_world}
use Rattle.reg_process.specs.Process.{Peer, no_peer, unsettled, called, taken}
use Rattle.reg_process.proofs.Again.{replicate_at}
use Rattle.reg_world.proofs.one_order.NodeLaws.{inv_of}
use Rattle.reg_world.proofs.one_memory.Refusals.{refused_by_fault}
use Rattle.reg_workload.specs.Plays.{Playing, cursor_at}
use Rattle.reg_workload.specs.Fair.{takes_of, most_for_call}
use Rattle.reg_workload.specs.FairParts.{expected_after, counted_after, takes_for_all, left_on, left_in, InStep, IsFair}
use Rattle.reg_workload.specs.FairParts.{IsBehind, Leaves}
use Rattle.reg_workload.proofs.InOrder.{takes_more, ticks_same, taken_here, taken_other, range_more}
use Rattle.reg_workload.proofs.Wires.{Takes, moves_on, all_behind, first_left}
use Rattle.reg_workload.proofs.Moving.{none_got, one_got, called_moves, taken_moves}
use Rattle.reg_base.specs.Sums.{total}
use Rattle.reg_base.proofs.Totals.{total_same, total_zero}
use Rattle.reg_workload.proofs.Load.{calls_in, left_after, for_none, for_one, called_left, taken_left, calls_of_call}
use Rattle.reg_workload.proofs.Load.{calls_of_take, more_calls}
use Rattle.reg_world.proofs.run.Along.{one_more}

-- an event that was accepted made a step
accepted_moves : (start : Op → ℕ → Start) (m m1 : Made) (e : Event) → Accepts start m e m1
    → is_some (move_of m.processes m.registers (run_in start m) e) ≡ true
accepted_moves start m m1 e A =
    let w = run_in start m in
    refused_by_fault m.processes m.registers w e ∙ ap (λ f. not (is_some f)) (no_fault _ m.failed (world_fault m.processes m.registers w e) A.no_fault)
  where
    no_fault : {X : Type 0} (x : X) (b : Bool) (o : Option X) → cond b (Some x) o ≡ None → o ≡ None
    no_fault x true o h = cc
    no_fault x false o h = h

-- which step it made
pub record CallMade (n registers : ℕ) (w : World) (p : ℕ) (op : Op) : Type 0 where
  pub process : p < n
  pub step : move_of n registers w (Call p op) ≡ Some (p, CallStep op)

pub record TakeMade (n registers : ℕ) (w : World) (a p number : ℕ) : Type 0 where
  pub few : length w.accepted < MOST_EVENTS
  pub from : a < n
  pub to : p < n
  pub apart : a ≢ p
  pub frame : Frame
  pub is : slice_get ((w.nodes a).wire p) number ≡ Some frame
  pub step : move_of n registers w (Take a p number) ≡ Some (p, TakeStep a frame)

call_made : (n registers : ℕ) (w : World) (p : ℕ) (op : Op) → is_some (move_of n registers w (Call p op)) ≡ true
    → CallMade n registers w p op
call_made n registers w p op h =
    let few = nat_lt (length w.accepted) MOST_EVENTS in
    let may = nat_lt p n && (not (is_some (w.nodes p).state.running) && (nat_lt (register_of op) registers && nat_lt (w.nodes p).state.calls MOST_OPERATIONS)) in
    let r = go few may (Some (p, CallStep op)) (λ e. ltb-true p n (and_parts (nat_lt p n) _ e).0) h in
    record { process = r.0; step = r.1 }
  where
    go : (few may : Bool) (step : Option (ℕ × Step)) → (may ≡ true → p < n) → is_some {T = ℕ × Step} (cond few (cond may step None) None) ≡ true → (p < n) × (cond few (cond may step None) None ≡ step)
    go true true step l h = (l refl, refl)
    go true false step l h = absurd (false≢true h)
    go false may step l h = absurd (false≢true h)

take_made : (n registers : ℕ) (w : World) (a p number : ℕ) → is_some (move_of n registers w (Take a p number)) ≡ true
    → TakeMade n registers w a p number
take_made n registers w a p number h =
    let few = nat_lt (length w.accepted) MOST_EVENTS in
    let may = nat_lt a n && (nat_lt p n && not (a == p)) in
    let r = go few may (slice_get ((w.nodes a).wire p) number) h in
    let x = and_parts (nat_lt a n) _ r.1.0 in
    let y = and_parts (nat_lt p n) _ x.1 in
    record {
      few = ltb-true (length w.accepted) MOST_EVENTS r.0;
      from = ltb-true a n x.0;
      to = ltb-true p n y.0;
      apart = eqb-false a p (not-true _ y.1);
      frame = r.1.1;
      is = r.1.2;
      step = r.1.3;
    }
  where
    go : (few may : Bool) (o : Option Frame) → is_some {T = ℕ × Step} (cond few (cond may (take_step a p o) None) None) ≡ true → (few ≡ true) × ((may ≡ true) × (f : Frame) × (o ≡ Some f) × (cond few (cond may (take_step a p o) None) None ≡ Some (p, TakeStep a f)))
    go true true (Some f) h = (refl, (refl, f, refl, refl))
    go true true None h = absurd (false≢true h)
    go true false o h = absurd (false≢true h)
    go false may o h = absurd (false≢true h)

-- the world after the step
after_step_fair : (start : Op → ℕ → Start) (m m1 : Made) (e : Event) (s : ℕ × Step) (behind : ℕ → ℕ → ℕ)
    → m1 ≡ with_event start m e → move_of m.processes m.registers (run_in start m) e ≡ Some s
    → InStep m.processes (put (run_in start m).nodes s.0 (after_step start ((run_in start m).nodes s.0) s.1)) behind
    → ((p q : ℕ) → behind p q ≤ length (run_in start m).accepted + 1)
    → InStep m1.processes (run_in start m1).nodes behind × ((p q : ℕ) → behind p q ≤ length (run_in start m1).accepted)
after_step_fair start m m1 e s behind now is S few =
    let w = run_in start m in
    subst (λ (z : Made). InStep z.processes (run_in start z).nodes behind × ((p q : ℕ) → behind p q ≤ length (run_in start z).accepted)) (sym now)
    (subst (λ (v : World). InStep m.processes v.nodes behind × ((p q : ℕ) → behind p q ≤ length v.accepted)) (sym (one_more start m.processes m.registers m.accepted e ∙ ap (moved start w e) is))
    (S, λ p q. let l = few p q in let a = length-append w.accepted (e ∷ []) in omega (arith, l, a)))

-- what was spent and is left after the step
spent_after : (start : Op → ℕ → Start) (m m1 : Made) (e : Event) (s : ℕ × Step) (behind : ℕ → ℕ → ℕ)
    → m1 ≡ with_event start m e → move_of m.processes m.registers (run_in start m) e ≡ Some s
    → length m.accepted + 1 + left_in m.processes (put (run_in start m).nodes s.0 (after_step start ((run_in start m).nodes s.0) s.1)) behind ≤ calls_in m.processes (m.accepted ++ e ∷ []) * most_for_call m.processes
    → length m1.accepted + left_in m1.processes (run_in start m1).nodes behind ≤ calls_in m1.processes m1.accepted * most_for_call m1.processes
spent_after start m m1 e s behind now is spent =
    let w = run_in start m in
    subst (λ (z : Made). length z.accepted + left_in z.processes (run_in start z).nodes behind ≤ calls_in z.processes z.accepted * most_for_call z.processes) (sym now)
    (subst (λ (v : World). length (m.accepted ++ e ∷ []) + left_in m.processes v.nodes behind ≤ calls_in m.processes (m.accepted ++ e ∷ []) * most_for_call m.processes) (sym (one_more start m.processes m.registers m.accepted e ∙ ap (moved start w e) is))
    (let a = length-append m.accepted (e ∷ []) in omega (arith, spent, a)))

cursors_of : List (List ℕ) → ℕ → ℕ → ℕ
cursors_of cursors a b = slice_index_or (slice_index_or cursors a []) b 0

pub call_fair : (start : Op → ℕ → Start) → KeepsLaws start → (s s1 : Playing) (p : ℕ) (op : Op) → IsFair start s
    → Accepts start s.made (Call p op) s1.made → s1.cursors ≡ s.cursors → IsFair start s1
unfolding cursors_of
call_fair start laws s s1 p op F A c =
    let m = s.made in
    let w = run_in start m in
    let M = call_made m.processes m.registers w p op (accepted_moves start m s1.made (Call p op) A) in
    let I = inv_of start m.processes m.registers m.accepted in
    let n = m.processes in
    let T : Takes n p w.nodes none_got (cursor_at s) (cursor_at s) = record { within = λ b lb ne. F.in_step.within b p lb M.process (λ q. ne (sym q)); taken = λ b _ _. refl; same = λ a b _. refl } in
    let S = moves_on n p w.nodes (after_step start (w.nodes p) (CallStep op)) _ none_got (cursor_at s) (cursor_at s) M.process F.in_step
    (called_moves n m.registers (length w.accepted) w.nodes I p M.process op _) T in
    let st = start op (unsettled (w.nodes p).state) in
    let went = left_after n p w.nodes (after_step start (w.nodes p) (CallStep op)) (called (w.nodes p).state op st).1.frames none_got (cursor_at s) (cursor_at s) M.process F.in_step (λ b _ _. refl) T in
    let none = for_none n p in
    let brought = called_left n m.registers (length w.accepted) w.nodes I p M.process op st in
    let calls = ap (λ c. c * most_for_call n) (calls_of_call n p op m.accepted M.process) ∙ more_calls n (calls_in n m.accepted) in
    let each : most_for_call n ≡ 1 + 2 * n * (n - 1) = refl in
    let before : length m.accepted + left_in n w.nodes (cursor_at s) ≤ calls_in n m.accepted * most_for_call n = F.spent in
    let spent = spent_after start m s1.made (Call p op) (p, CallStep op) (cursor_at s) A.after M.step (omega (arith, went, none, brought, calls, each, before)) in
    let r = after_step_fair start m s1.made (Call p op) (p, CallStep op) (cursor_at s) A.after M.step S (λ a b. let l = F.few a b in omega (arith, l)) in
    let same : cursor_at s1 ≡ cursor_at s = ap cursors_of c in
    record {
      spent = subst (λ (f : ℕ → ℕ → ℕ). length s1.made.accepted + left_in s1.made.processes (run_in start s1.made).nodes f ≤ calls_in s1.made.processes s1.made.accepted * most_for_call s1.made.processes) (sym same) spent;
      in_step = subst (InStep s1.made.processes (run_in start s1.made).nodes) (sym same) r.0;
      few = λ a b. let l = r.1 a b in let e = ap (λ (f : ℕ → ℕ → ℕ). f a b) same in omega (arith, l, e);
      takes = λ a b.
          takes_more a b m.accepted s1.made.accepted (Call p op) (ap Made.accepted A.after)
          ∙ (append-nil (takes_of a b m.accepted) ∙ (F.takes a b ∙ ap (range_with_len 0) (sym (ap (λ (f : ℕ → ℕ → ℕ). f a b) same))));
      ticks = ticks_same m.accepted s1.made.accepted (Call p op) (ap Made.accepted A.after) refl ∙ F.ticks;
    }

pub take_fair : (start : Op → ℕ → Start) → KeepsLaws start → (s s1 s2 : Playing) (a p number : ℕ) → IsFair start s
    → number ≡ cursor_at s a p → Accepts start s.made (Take a p number) s1.made → s1.cursors ≡ s.cursors
    → Leaves s1 a p s2 → IsFair start s2
unfolding cursors_of
take_fair start laws s s1 s2 a p number F at A c L =
    let m = s.made in
    let n = m.processes in
    let w = run_in start m in
    let M = take_made n m.registers w a p number (accepted_moves start m s1.made (Take a p number) A) in
    let I = inv_of start n m.registers m.accepted in
    let f = M.frame in
    let same : cursor_at s1 ≡ cursor_at s = ap cursors_of c in
    let at_same : (x y : ℕ) → cursor_at s1 x y ≡ cursor_at s x y = λ x y. ap (λ (f : ℕ → ℕ → ℕ). f x y) same in
    let one : cursor_at s2 a p ≡ number + 1 = (let l = F.few a p in let e = at_same a p in let r = M.few in let g = L.behind (omega (arith, l, e, r)) in omega (arith, g, e, at)) in
    let others : (x y : ℕ) → (x ≡ a → y ≡ p → ⊥) → cursor_at s2 x y ≡ cursor_at s x y = λ x y ne. L.others x y ne ∙ at_same x y in
    let T : Takes n p w.nodes (one_got a f) (cursor_at s) (cursor_at s2) = record {
      within = λ b lb ne. elim (cases_eq b a) [
        | inl e ↦ subst (λ z. cursor_at s2 z p ≤ length ((w.nodes z).wire p)) (sym e) (let l = slice_get_within ((w.nodes a).wire p) number f M.is in omega (arith, l, one))
        | inr away ↦ let l = F.in_step.within b p lb M.to (λ q. ne (sym q)) in let e = others b p (λ q _. away q) in omega (arith, l, e)
      ];
      taken = λ b lb ne. elim (cases_eq b a) [
        | inl e ↦ subst (λ z. drop (cursor_at s z p) ((w.nodes z).wire p) ≡ one_got a f z ++ drop (cursor_at s2 z p) ((w.nodes z).wire p)) (sym e)
            (ap (λ j. drop j ((w.nodes a).wire p)) (sym at) ∙ (first_left number ((w.nodes a).wire p) f M.is
            ∙ (ap (λ j. f ∷ drop j ((w.nodes a).wire p)) (sym one) ∙ ap (λ fs. fs ++ drop (cursor_at s2 a p) ((w.nodes a).wire p)) (sym (cond-true (a == a) (f ∷ []) [] (eq-eqb a a refl))))))
        | inr away ↦
            ap (λ j. drop j ((w.nodes b).wire p)) (sym (others b p (λ q _. away q)))
            ∙ ap (λ fs. fs ++ drop (cursor_at s2 b p) ((w.nodes b).wire p)) (sym (cond-false (b == a) (f ∷ []) [] (ne_eqb b a away)))
      ];
      same = λ x y ne. others x y (λ _ q. ne (sym q));
    } in
    let S = moves_on n p w.nodes (after_step start (w.nodes p) (TakeStep a f)) _ (one_got a f) (cursor_at s) (cursor_at s2) M.to F.in_step
    (taken_moves n m.registers (length w.accepted) w.nodes I p M.to a M.from _ f) T in
    let went = left_after n p w.nodes (after_step start (w.nodes p) (TakeStep a f)) (taken (w.nodes p).state a f).1.frames (one_got a f) (cursor_at s) (cursor_at s2) M.to F.in_step (λ b _ _. refl) T in
    let took = for_one n p a f M.from M.apart in
    let brought = taken_left n m.registers (length w.accepted) w.nodes I p M.to a M.from M.apart f in
    let calls = ap (λ c. c * most_for_call n) (calls_of_take n a p number m.accepted) in
    let before : length m.accepted + left_in n w.nodes (cursor_at s) ≤ calls_in n m.accepted * most_for_call n = F.spent in
    let spent = spent_after start m s1.made (Take a p number) (p, TakeStep a f) (cursor_at s2) A.after M.step (omega (arith, went, took, brought, calls, before)) in
    let few : (x y : ℕ) → cursor_at s2 x y ≤ length w.accepted + 1 = λ x y. elim (cases_eq x a) [
      | inl e ↦ elim (cases_eq y p) [
        | inl g ↦ (let l = F.few a p in let u = ap (cursor_at s2 x) g in let v = ap (λ z. cursor_at s2 z p) e in omega (arith, l, u, v, one, at))
        | inr away ↦ (let l = F.few x y in let u = others x y (λ _ q. away q) in omega (arith, l, u))
      ]
      | inr away ↦ (let l = F.few x y in let u = others x y (λ q _. away q) in omega (arith, l, u))
    ] in
    let now : s1.made.accepted ≡ m.accepted ++ Take a p number ∷ [] = ap Made.accepted A.after in
    let passed_by : (x y : ℕ) → (x ≡ a → y ≡ p → ⊥) → takes_of x y s1.made.accepted ≡ range_with_len 0 (cursor_at s2 x y) = λ x y ne.
    takes_more x y m.accepted s1.made.accepted (Take a p number) now
    ∙ (ap (λ l. takes_of x y m.accepted ++ l) (taken_other x y a p number ne) ∙ (append-nil (takes_of x y m.accepted) ∙ (F.takes x y ∙ ap (range_with_len 0) (sym (others x y ne))))) in
    let takes : (x y : ℕ) → takes_of x y s1.made.accepted ≡ range_with_len 0 (cursor_at s2 x y) = λ x y. elim (cases_eq x a) [
      | inl e ↦ elim (cases_eq y p) [
        | inl g ↦
            let was : takes_of x y m.accepted ≡ range_with_len 0 number = F.takes x y ∙ ap (range_with_len 0) (ap (λ z. cursor_at s z y) e ∙ (ap (cursor_at s a) g ∙ sym at)) in
            let becomes : number + 1 ≡ cursor_at s2 x y = sym (ap (λ z. cursor_at s2 z y) e ∙ (ap (cursor_at s2 a) g ∙ one)) in
            takes_more x y m.accepted s1.made.accepted (Take a p number) now
            ∙ (ap (λ l. takes_of x y m.accepted ++ l) (taken_here x y a p number e g) ∙ (ap (λ l. l ++ number ∷ []) was ∙ (sym (range_more 0 number number (omega arith)) ∙ ap (range_with_len 0) becomes)))
        | inr away ↦ passed_by x y (λ _ q. away q)
      ]
      | inr away ↦ passed_by x y (λ q _. away q)
    ] in
    let r = after_step_fair start m s1.made (Take a p number) (p, TakeStep a f) (cursor_at s2) A.after M.step S few in
    subst (λ (z : Made). IsFair start (record s2 { made = z })) (sym L.made) (record { spent = spent; in_step = r.0; few = r.1; takes = takes; ticks = ticks_same m.accepted s1.made.accepted (Take a p number) now refl ∙ F.ticks })

-- where each frame is behind, nothing is pending
pub rests : (start : Op → ℕ → Start) → KeepsLaws start → (s : Playing) → IsFair start s
    → ((p q : ℕ) → p < s.made.processes → q < s.made.processes → IsBehind start s p q)
    → NothingPending s.made.processes (run_in start s.made).nodes
rests start laws s F all =
    let m = s.made in
    let w = run_in start m in
    all_behind m.processes m.registers (length w.accepted) w.nodes (cursor_at s) (inv_of start m.processes m.registers m.accepted) F.in_step (λ p q lp lq ne. all p q lp lq ne)

-- nothing happened yet
pub begins_fair : (start : Op → ℕ → Start) (shape : Extent) (s : Playing) → s.made ≡ new_world shape
    → ((a b : ℕ) → cursor_at s a b ≡ 0) → IsFair start s
begins_fair start shape s new none = subst (λ (m : Made). IsFair start (record s { made = m })) (sym new) (record {
  spent = let z = nothing_left in omega (arith, z);
  in_step = record {
    within = λ p q _ _ _. let z = none p q in omega (arith, z);
    bodies = λ p q _ _ _. ap (λ k. expected_after (slice_index_or (replicate shape.processes no_peer) p no_peer).expected (drop k [])) (none p q) ∙ ap (λ (z : Peer). z.expected) (replicate_at shape.processes p no_peer);
    counts = λ p q _ _ _. ap (λ k. counted_after (slice_index_or (replicate shape.processes no_peer) q no_peer).first (drop k [])) (none q p) ∙ (ap (λ (z : Peer). z.first) (replicate_at shape.processes q no_peer) ∙ sym (ap (λ (z : Peer). z.expected) (replicate_at shape.processes p no_peer)));
  };
  few = λ p q. let z = none p q in omega (arith, z);
  takes = λ p q. ap (range_with_len 0) (sym (none p q));
  ticks = refl;
})
  where
    nothing_left : left_in shape.processes (run_in start (new_world shape)).nodes (cursor_at s) ≡ 0
    nothing_left = total_same shape.processes (λ a. total shape.processes (left_on shape.processes (run_in start (new_world shape)).nodes (cursor_at s) a)) (λ _. 0) (λ a _.
        total_same shape.processes (left_on shape.processes (run_in start (new_world shape)).nodes (cursor_at s) a) (λ _. 0) (λ b _.
        cond_both (a == b) 0 (takes_for_all shape.processes (drop (cursor_at s a b) [])) (λ z. z ≡ 0) (λ _. refl) (λ _. ap (λ k. takes_for_all shape.processes (drop k [])) (none a b)))
        ∙ total_zero shape.processes) ∙ total_zero shape.processes

pub none_behind : (n m a b : ℕ)
    → let z : ℕ = 0 in slice_index_or (slice_index_or (replicate n (replicate m z)) a []) b z ≡ z
none_behind zero m a b = refl
none_behind (suc n) m zero b = replicate_at m b 0
none_behind (suc n) m (suc a) b = none_behind n m a b
