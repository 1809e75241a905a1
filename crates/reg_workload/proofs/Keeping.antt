-- What a turn leaves as it was: what is listed for the processes and wires that its choice doesn't touch.
use Rattle.std.proofs.Common.{◌≡◌, ℕ, suc, zero, ◌+◌, ◌^◌, ◌<◌, ◌≤◌, Bool, true, false, not, List, [], ◌∷◌, ◌++◌}
use Rattle.std.proofs.Common.{Option, Some, None, refl, sym, ap, ◌∙◌, subst, inl, inr, arith, length-append}
use Rattle.std.specs.Prelude.{cond, ◌==◌, ◌&&◌, nat_lt, length, slice_get, slice_set, slice_index_or}
use Rattle.std.specs.Option.{is_some}
use Rattle.std.proofs.lemmas.Bool.{cond_both, cases_eq, and_parts, and_from, ltb-true, lt-ltb}
use Rattle.std.proofs.lemmas.List.{get_or-set_other}
use Rattle.reg_base.specs.declared.limits.TheConstants.{MOST_EVENTS, MOST_OPERATIONS, MOST_PROCESSES}
use Rattle.reg_base.specs.declared.memory.Op.{Op}
use Rattle.reg_base.specs.Memory.{register_of}
use Rattle.reg_frames.specs.declared.bodies.Frame.{Frame}
use Rattle.reg_front.specs.declared.starts.Start.{Start}
use Rattle.reg_process.specs.declared.steps.Step.{Step}
use Rattle.reg_process.specs.declared.steps.Step.TheVariants.{Call as CallStep, Take as TakeStep, Tick as TickStep}
use Rattle.reg_process.specs.Process.{pending_of}
use Rattle.reg_process.specs.declared.events.Event.{Event}
use Rattle.reg_process.specs.declared.events.Event.TheVariants.{Call, Take, Tick}
use Rattle.reg_world.specs.Nodes.{Node, after_step, take_step}
use Rattle.reg_world.specs.World.{World, move_of, moved}
use Rattle.reg_world.specs.Worlds.{Made, run_in, with_event}
use Rattle.reg_world.proofs.one_order.Acts.{put_cases}
use Rattle.reg_world.proofs.run.Along.{one_more}
use Rattle.reg_workload.specs.declared.choices.Chances.{Chances}
use Rattle.reg_workload.specs.declared.choices.Choice.{Choice}
use Rattle.reg_workload.specs.declared.choices.Choice.TheVariants.{Call as CallNext, Take as TakeNext, Tick as PutAgain}
use Rattle.reg_workload.specs.Plays.{Playing, script_of, next_at, cursor_at, may_call, next_frame, next_op, makes}
use Rattle.reg_workload.specs.Plays.{calls_next, passes}
use Rattle.reg_workload.specs.Seeded.{takes_next, chooses}
use Rattle.reg_base.specs.Words.{says}
use Rattle.reg_workload.specs.Listed.{bit_of, may_take, may_tick, takes_at, AreListed, AreOthersListed, Acts, Passes}

-- the process that an event changes
abbrev actor : Event → ℕ
actor (Call p op) = p
actor (Take from to number) = to
actor (Tick p) = p

-- an event leaves the other processes as they were
abbrev Leaves : (Op → ℕ → Start) → World → Event → ℕ → Option (ℕ × Step) → Type 0
Leaves start w e p m = (moved start w e m).nodes p ≡ w.nodes p

step_leaves : (start : Op → ℕ → Start) (w : World) (e : Event) (p q : ℕ) (st : Step) → (q ≡ p → ⊥)
    → Leaves start w e p (Some (q, st))
step_leaves start w e p q st ne = put_cases (λ (z : Node). z ≡ w.nodes p) w.nodes q (after_step start (w.nodes q) st) p (λ s. absurd (ne (sym s))) (λ _. refl)

event_leaves : (start : Op → ℕ → Start) (n registers : ℕ) (w : World) (e : Event) (p : ℕ) → (actor e ≡ p → ⊥)
    → Leaves start w e p (move_of n registers w e)
event_leaves start n registers w (Call q op) p ne =
    cond_both (nat_lt (length w.accepted) MOST_EVENTS) (cond (nat_lt q n && (not (is_some (w.nodes q).state.running) && (nat_lt (register_of op) registers && nat_lt (w.nodes q).state.calls MOST_OPERATIONS))) (Some (q, CallStep op)) None) None (Leaves start w (Call q op) p)
    (λ _. cond_both (nat_lt q n && (not (is_some (w.nodes q).state.running) && (nat_lt (register_of op) registers && nat_lt (w.nodes q).state.calls MOST_OPERATIONS))) (Some (q, CallStep op)) None (Leaves start w (Call q op) p)
    (λ _. step_leaves start w (Call q op) p q (CallStep op) ne)
    (λ _. refl))
    (λ _. refl)
event_leaves start n registers w (Take from to number) p ne =
    cond_both (nat_lt (length w.accepted) MOST_EVENTS) (cond (nat_lt from n && (nat_lt to n && not (from == to))) (take_step from to (slice_get ((w.nodes from).wire to) number)) None) None (Leaves start w (Take from to number) p)
    (λ _. cond_both (nat_lt from n && (nat_lt to n && not (from == to))) (take_step from to (slice_get ((w.nodes from).wire to) number)) None (Leaves start w (Take from to number) p)
    (λ _. taken (slice_get ((w.nodes from).wire to) number))
    (λ _. refl))
    (λ _. refl)
  where
    taken : (o : Option Frame) → Leaves start w (Take from to number) p (take_step from to o)
    taken None = refl
    taken (Some f) = step_leaves start w (Take from to number) p to (TakeStep from f) ne
event_leaves start n registers w (Tick q) p ne =
    cond_both (nat_lt (length w.accepted) MOST_EVENTS) (cond (nat_lt q n) (Some (q, TickStep)) None) None (Leaves start w (Tick q) p)
    (λ _. cond_both (nat_lt q n) (Some (q, TickStep)) None (Leaves start w (Tick q) p)
    (λ _. step_leaves start w (Tick q) p q TickStep ne)
    (λ _. refl))
    (λ _. refl)

node_same : (start : Op → ℕ → Start) (m : Made) (e : Event) (p : ℕ) → (actor e ≡ p → ⊥)
    → (run_in start (with_event start m e)).nodes p ≡ (run_in start m).nodes p
node_same start m e p ne = ap (λ (w : World). w.nodes p) (one_more start m.processes m.registers m.accepted e) ∙ event_leaves start m.processes m.registers (run_in start m) e p ne

-- and a wire only grows
grown : {X : Type 0} (xs ys : List X) → length xs ≤ length (xs ++ ys)
grown xs ys = let e = length-append xs ys in omega (arith, e)

moves_grow : (start : Op → ℕ → Start) (w : World) (e : Event) (m : Option (ℕ × Step)) (p b : ℕ)
    → length ((w.nodes p).wire b) ≤ length (((moved start w e m).nodes p).wire b)
moves_grow start w e None p b = omega arith
moves_grow start w e (Some m) p b = put_cases (λ (z : Node). length ((w.nodes p).wire b) ≤ length (z.wire b)) w.nodes m.0 (after_step start (w.nodes m.0) m.1) p
    (λ at. subst (λ (k : ℕ). length ((w.nodes k).wire b) ≤ length ((after_step start (w.nodes m.0) m.1).wire b)) (sym at) (grown ((w.nodes m.0).wire b) _))
    (λ _. omega arith)

-- what a process can do is the same
record Same (start : Op → ℕ → Start) (old new : Playing) (p : ℕ) : Type 0 where
  node : (run_in start new.made).nodes p ≡ (run_in start old.made).nodes p
  scripts : new.scripts ≡ old.scripts
  next : next_at new p ≡ next_at old p

frame_in : Node → ℕ → ℕ → ℕ → Option ℕ
frame_in x cursor from to = cond (not (from == to) && nat_lt cursor (length (x.wire to))) (Some cursor) None

frame_is : (start : Op → ℕ → Start) (s : Playing) (p q : ℕ)
    → next_frame start s p q ≡ frame_in ((run_in start s.made).nodes p) (cursor_at s p q) p q
unfolding frame_in
frame_is start s p q = refl

-- and so is a wire
abbrev SameCursor : Playing → Playing → ℕ → ℕ → Type 0
SameCursor old new a b = cursor_at new a b ≡ cursor_at old a b

abbrev Longer : (Op → ℕ → Start) → Playing → Playing → ℕ → ℕ → Type 0
Longer start old new a b =
    length (((run_in start old.made).nodes a).wire b) ≤ length (((run_in start new.made).nodes a).wire b)

module _ (start : Op → ℕ → Start) where
  call_same : (s t : Playing) (p : ℕ) → Same start s t p → may_call start s p ≡ may_call start t p
  call_same s t p S = sym (ap (λ k. nat_lt k (length (script_of t.scripts p)) && not (is_some ((run_in start t.made).nodes p).state.running)) S.next
      ∙ (ap (λ (scripts : List (List Op)). nat_lt (next_at s p) (length (script_of scripts p)) && not (is_some ((run_in start t.made).nodes p).state.running)) S.scripts
      ∙ ap (λ (x : Node). nat_lt (next_at s p) (length (script_of s.scripts p)) && not (is_some x.state.running)) S.node))

  tick_same : (s t : Playing) (p : ℕ) → Same start s t p → may_tick start s p ≡ may_tick start t p
  tick_same s t p S = sym (ap (λ (x : Node). nat_lt 0 (pending_of x.state.peers)) S.node)

  take_same : (s t : Playing) (p q : ℕ) → Same start s t p → cursor_at t p q ≡ cursor_at s p q → may_take start s p q ≡ may_take start t p q
  take_same s t p q S e = ap is_some (frame_is start s p q
      ∙ (sym (ap (λ (x : Node). frame_in x (cursor_at s p q) p q) S.node) ∙ (sym (ap (λ (k : ℕ). frame_in ((run_in start t.made).nodes p) k p q) e) ∙ sym (frame_is start t p q))))

  take_stays : (s t : Playing) (p q : ℕ) → Longer start s t p q → cursor_at t p q ≡ cursor_at s p q → may_take start s p q ≡ true → may_take start t p q ≡ true
  take_stays s t p q more same may =
      let parts = and_parts (not (p == q)) _ (test_of _ (cursor_at s p q) may) in
      let less = ltb-true (cursor_at s p q) (length (((run_in start s.made).nodes p).wire q)) parts.1 in
      some_if _ (cursor_at t p q) (and_from _ _ parts.0 (lt-ltb (cursor_at t p q) (length (((run_in start t.made).nodes p).wire q)) (omega (arith, less, more, same))))
    where
      test_of : (b : Bool) (k : ℕ) → is_some (cond b (Some k) None) ≡ true → b ≡ true
      test_of true k e = refl
      test_of false k e = e

      some_if : (b : Bool) (k : ℕ) → b ≡ true → is_some (cond b (Some k) None) ≡ true
      some_if true k e = refl
      some_if false k e = e

  makes_longer : (s : Playing) (e : Event) (a b : ℕ) → Longer start s (makes start s e) a b
  makes_longer s e a b = subst (λ (w : World). length (((run_in start s.made).nodes a).wire b) ≤ length ((w.nodes a).wire b)) (sym (one_more start s.made.processes s.made.registers s.made.accepted e))
      (moves_grow start (run_in start s.made) e (move_of s.made.processes s.made.registers (run_in start s.made) e) a b)

  makes_same : (s : Playing) (e : Event) (p : ℕ) → (actor e ≡ p → ⊥) → Same start s (makes start s e) p
  makes_same s e p ne = record { node = node_same start s.made e p ne; scripts = refl; next = refl }

  calls_same : (s : Playing) (q p : ℕ) → (q ≡ p → ⊥) → Same start s (calls_next start s q) p
  calls_same s q p ne = record {
    node = node_same start s.made (Call q (next_op s q)) p ne;
    scripts = refl;
    next = get_or-set_other s.next q p (next_at s q + 1) 0 (λ e. ne (sym e));
  }

  passes_same : (s : Playing) (from to p : ℕ) → Same start s (passes s from to) p
  passes_same s from to p = record { node = refl; scripts = refl; next = refl }

  passes_cursor : (s : Playing) (from to a b : ℕ) → ((from ≡ a) × (to ≡ b) → ⊥) → cursor_at (passes s from to) a b ≡ cursor_at s a b
  passes_cursor s from to a b ne = elim (cases_eq a from) [
    | inl e ↦
        let row = slice_index_or s.cursors from [] in
        let here : cursor_at (passes s from to) from b ≡ cursor_at s from b =
        set_cases (λ (xs : List ℕ). slice_index_or xs b 0 ≡ slice_index_or row b 0) s.cursors from (slice_set row to (cursor_at s from to + 1)) []
        (get_or-set_other row to b (cursor_at s from to + 1) 0 (λ f. ne (sym e, sym f))) refl in
        subst (λ (k : ℕ). cursor_at (passes s from to) k b ≡ cursor_at s k b) (sym e) here
    | inr away ↦ ap (λ (xs : List ℕ). slice_index_or xs b 0) (get_or-set_other s.cursors from a (slice_set (slice_index_or s.cursors from []) to (cursor_at s from to + 1)) [] away)
  ]
    where
      set_cases : {X : Type 0} (P : X → Type 0) (xs : List X) (i : ℕ) (v d : X) → P v → P (slice_index_or xs i d) → P (slice_index_or (slice_set xs i v) i d)
      set_cases P [] i v d h p = p
      set_cases P (x ∷ xs) zero v d h p = h
      set_cases P (x ∷ xs) (suc i) v d h p = set_cases P xs i v d h p

  module _ {W : Type 0} (next_word : W → ℕ × W) (loss repeat : ℕ) where
    takes_same : (s : Playing) (from to number : ℕ) (w : W) (p : ℕ) → (to ≡ p → ⊥) → Same start s (takes_next start next_word repeat s from to number w).0 p
    takes_same s from to number w p ne =
        let t = makes start s (Take from to number) in
        let made : Same start s t p = makes_same s (Take from to number) p ne in
        cond_both (says repeat (next_word w).0) t (passes t from to) (λ u. Same start s u p) (λ _. made) (λ _. record { node = made.node; scripts = made.scripts; next = made.next })

    takes_cursor : (s : Playing) (from to number : ℕ) (w : W) (a b : ℕ) → ((from ≡ a) × (to ≡ b) → ⊥) → SameCursor s (takes_next start next_word repeat s from to number w).0 a b
    takes_cursor s from to number w a b ne =
        let t = makes start s (Take from to number) in
        cond_both (says repeat (next_word w).0) t (passes t from to) (λ (u : Playing). cursor_at u a b ≡ cursor_at s a b) (λ _. refl) (λ _. passes_cursor t from to a b ne)

    chooses_same : (s : Playing) (c : Choice) (w : W) (p : ℕ) → (Acts c p → ⊥) → Same start s (chooses start next_word loss repeat s c w).0 p
    unfolding chooses
    chooses_same s (CallNext q) w p ne = calls_same s q p ne
    chooses_same s (TakeNext from to number) w p ne = cond_both (says loss (next_word w).0) (passes s from to, (next_word w).1) (takes_next start next_word repeat s from to number (next_word w).1) (λ (x : Playing × W). Same start s x.0 p)
        (λ _. passes_same s from to p)
        (λ _. takes_same s from to number (next_word w).1 p ne)
    chooses_same s (PutAgain q) w p ne = makes_same s (Tick q) p ne

    chooses_cursor : (s : Playing) (c : Choice) (w : W) (a b : ℕ) → (Passes c a b → ⊥) → SameCursor s (chooses start next_word loss repeat s c w).0 a b
    unfolding chooses
    chooses_cursor s (CallNext q) w a b ne = refl
    chooses_cursor s (TakeNext from to number) w a b ne = cond_both (says loss (next_word w).0) (passes s from to, (next_word w).1) (takes_next start next_word repeat s from to number (next_word w).1) (λ (x : Playing × W). cursor_at x.0 a b ≡ cursor_at s a b)
        (λ _. passes_cursor s from to a b ne)
        (λ _. takes_cursor s from to number (next_word w).1 a b ne)
    chooses_cursor s (PutAgain q) w a b ne = refl

    chooses_longer : (s : Playing) (c : Choice) (w : W) (a b : ℕ) → Longer start s (chooses start next_word loss repeat s c w).0 a b
    unfolding chooses
    chooses_longer s (CallNext q) w a b = makes_longer s (Call q (next_op s q)) a b
    chooses_longer s (TakeNext from to number) w a b = cond_both (says loss (next_word w).0) (passes s from to, (next_word w).1) (takes_next start next_word repeat s from to number (next_word w).1) (λ (x : Playing × W). Longer start s x.0 a b)
        (λ _. omega arith)
        (λ _. cond_both (says repeat (next_word (next_word w).1).0) (makes start s (Take from to number)) (passes (makes start s (Take from to number)) from to) (λ (u : Playing). Longer start s u a b)
        (λ _. makes_longer s (Take from to number) a b)
        (λ _. makes_longer s (Take from to number) a b))
    chooses_longer s (PutAgain q) w a b = makes_longer s (Tick q) a b

    -- a choice that was made leaves what it doesn't touch
    pub others_listed : (s t : Playing) (x : Choice) (w v : W) (c : Chances) → (t, v) ≡ chooses start next_word loss repeat s x w → AreListed start s c → t.made.processes ≡ s.made.processes → AreOthersListed start t x c
    others_listed s t x w v c is L n = record {
      processes = subst (λ (k : ℕ). k ≤ MOST_PROCESSES) (sym n) L.processes;
      few_calls = subst (λ (k : ℕ). c.calls < 2 ^ k) (sym n) L.few_calls;
      few_ticks = subst (λ (k : ℕ). c.ticks < 2 ^ k) (sym n) L.few_ticks;
      few_takes = λ p l. subst (λ (k : ℕ). takes_at c p < 2 ^ k) (sym n) (L.few_takes p (in_old p l));
      known = λ p q lp lq apart set. take_stays s t p q (more p q) (cursor p q apart) (L.known p q (in_old p lp) (in_old q lq) (λ a. a) set);
      call = λ p l free. L.call p (in_old p l) (λ a. a) ∙ ap bit_of (call_same s t p (same p free));
      tick = λ p l free. L.tick p (in_old p l) (λ a. a) ∙ ap bit_of (tick_same s t p (same p free));
      take = λ p q lp lq free apart. L.take p q (in_old p lp) (in_old q lq) (λ a. a) (λ a. a) ∙ ap bit_of (take_same s t p q (same p free) (cursor p q apart));
    }
      where
        in_old : (p : ℕ) → p < t.made.processes → p < s.made.processes
        in_old p l = subst (λ (k : ℕ). p < k) n l

        same : (p : ℕ) → (Acts x p → ⊥) → Same start s t p
        same p free = subst (λ (y : Playing × W). Same start s y.0 p) (sym is) (chooses_same s x w p free)

        more : (a b : ℕ) → Longer start s t a b
        more a b = subst (λ (y : Playing × W). Longer start s y.0 a b) (sym is) (chooses_longer s x w a b)

        cursor : (a b : ℕ) → (Passes x a b → ⊥) → cursor_at t a b ≡ cursor_at s a b
        cursor a b apart = subst (λ (y : Playing × W). cursor_at y.0 a b ≡ cursor_at s a b) (sym is) (chooses_cursor s x w a b apart)
