-- A frame that is taken was put by an earlier event.
use Rattle.std.proofs.Common.{ℕ, zero, suc, ◌≡◌, ◌+◌, ◌<◌, ◌≤◌, ◌⊎◌, inl, inr, Bool, true, false, List, [], ◌∷◌, ◌++◌}
use Rattle.std.proofs.Common.{length, map, drop, Option, None, Some, refl, sym, ap, ◌∙◌, subst, arith, append_assoc}
use Rattle.std.proofs.Common.{length-append}
use Rattle.std.specs.Prelude.{All, cond, ◌==◌, ◌&&◌, ◌||◌, not, nat_lt, position, slice_get}
use Rattle.std.specs.List.{list_any, prefix_len}
use Rattle.std.proofs.lemmas.Bool.{and_parts, cases_eq, cases_order, cond_both, eq-eqb, eqb-false, lt-ltb, ltb-true}
use Rattle.std.proofs.lemmas.Bool.{ne_eqb, not-true}
use Rattle.std.proofs.lemmas.List.{length-drop}
use Rattle.std.proofs.lemmas.List.Elements.{All-nil, All-cons}
use Rattle.std.proofs.lemmas.List.Folds.{list_any-append}
use Rattle.std.proofs.lemmas.Option.{none-some, same_Some}
use Rattle.reg_base.specs.Shape.{Extent}
use Rattle.reg_base.specs.declared.memory.Op.{Op}
use Rattle.reg_frames.specs.declared.bodies.Frame.{Frame}
use Rattle.reg_front.specs.declared.starts.Start.{Start}
use Rattle.reg_process.specs.declared.steps.Reply.{Reply}
use Rattle.reg_process.specs.declared.steps.Step.{Step}
use Rattle.reg_process.specs.declared.steps.Step.TheVariants.{Call as CallStep, Tick as TickStep}
use Rattle.reg_process.specs.declared.events.Event.{Event}
use Rattle.reg_process.specs.declared.events.Event.TheVariants.{Call, Take, Tick}
use Rattle.reg_world.specs.Histories.{process_of}
use Rattle.reg_world.specs.Nodes.{Node, Nodes, after_step, put, step_of, take_step}
use Rattle.reg_world.specs.World.{World, move_of, moved, run, whole}
use Rattle.reg_world.specs.Worlds.{Made, new_world, reply_in, run_in, with_event}
use Rattle.reg_world.proofs.one_order.NodeEvents.{put_other}
use Rattle.reg_trace.specs.declared.figures.Arrow.{Arrow}
use Rattle.reg_trace.specs.declared.moments.Sent.{Sent}
use Rattle.reg_trace.specs.Figures.{HaveArrows, arrow_from, arrow_of, arrows_in, arrows_of, is_put, putter, takes_in}
use Rattle.reg_trace.specs.Moments.{Fact, moment_between, moment_of, moments_from, moments_of, placed, puts_since}
use Rattle.reg_trace.proofs.Moving.{first_moved}
use Rattle.reg_world.proofs.run.Along.{move_is, one_more}

-- in a list whose front has an element that passes, the first one is there
passes_first : {X : Type 0} (p : X → Bool) (xs ys : List X) → list_any p xs ≡ true
    → prefix_len (λ x. not (p x)) (xs ++ ys) < length xs
passes_first p [] ys h = absurd (cc)
passes_first p (x ∷ xs) ys h = by (p x) refl (λ later. passes_first p xs ys later)
  where
    by : (b : Bool) → p x ≡ b → (list_any p xs ≡ true → prefix_len (λ x. not (p x)) (xs ++ ys) < length xs) → prefix_len (λ x. not (p x)) ((x ∷ xs) ++ ys) < length (x ∷ xs)
    by true e rest = rw e (omega arith)
    by false e rest =
        let k = rest (sym (ap (λ b. b || list_any p xs) e) ∙ h) in
        rw e (omega (arith, k))

first_place : {X : Type 0} (p : X → Bool) (xs ys : List X) → list_any p xs ≡ true
    → (j : ℕ) × (position p (xs ++ ys) ≡ Some j) × (j < length xs)
first_place p xs ys h =
    let k = prefix_len (λ x. not (p x)) (xs ++ ys) in
    let front = passes_first p xs ys h in
    let all = length-append xs ys in
    (k, ap (λ b. cond b (Some k) None) (lt-ltb k (length (xs ++ ys)) (omega (arith, front, all))), front)

or_left : (a b : Bool) → a ≡ true → (a || b) ≡ true
or_left true b h = refl
or_left false b h = absurd (cc)

or_right : (a b : Bool) → b ≡ true → (a || b) ≡ true
or_right true b h = refl
or_right false b h = h

-- the frame is the one at this place for this process
abbrev is_at : ℕ → ℕ → Sent → Bool
is_at to place s = (s.to == to) && (s.place == place)

placed_has : (to place first : ℕ) (frames : List Frame) → first ≤ place → place < first + length frames
    → list_any (is_at to place) (placed to first frames) ≡ true
placed_has to place first [] low high = absurd (omega (arith, low, high))
placed_has to place first (f ∷ fs) low high =
    by (cases_eq first place) (λ lower higher. placed_has to place (first + 1) fs lower higher)
  where
    rest : Bool
    rest = list_any (is_at to place) (placed to (first + 1) fs)

    by : (first ≡ place) ⊎ (first ≡ place → ⊥) → (first + 1 ≤ place → place < first + 1 + length fs → rest ≡ true) → (((to == to) && (first == place)) || rest) ≡ true
    by (inl e) later = or_left ((to == to) && (first == place)) rest (rw (eq-eqb to to refl, eq-eqb first place e) refl)
    by (inr ne) later = or_right ((to == to) && (first == place)) rest (later (omega (arith, low, ne)) (omega (arith, high)))

-- among the frames that an event put is each that stands after the wire as it was
puts_has : (p to place : ℕ) (lengths : ℕ → ℕ) (wire : ℕ → List Frame) (n : ℕ) → to < n → (to ≡ p → ⊥)
    → lengths to ≤ place → place < length (wire to) → list_any (is_at to place) (puts_since p lengths wire n) ≡ true
puts_has p to place lengths wire zero l ne low high = absurd (omega (arith, l))
puts_has p to place lengths wire (suc n) l ne low high =
    list_any-append (is_at to place) (puts_since p lengths wire n) (cond (n == p) [] (placed n (lengths n) (drop (lengths n) (wire n)))) ∙ by (cases_eq to n) (λ less. puts_has p to place lengths wire n less ne low high)
  where
    last : ℕ → Bool
    last m = list_any (is_at to place) (cond (m == p) [] (placed m (lengths m) (drop (lengths m) (wire m))))

    lower : Bool
    lower = list_any (is_at to place) (puts_since p lengths wire n)

    here : last to ≡ true
    here =
        let k = length-drop (lengths to) (wire to) in
        ap (λ b. list_any (is_at to place) (cond b [] (placed to (lengths to) (drop (lengths to) (wire to))))) (ne_eqb to p ne) ∙ placed_has to place (lengths to) (drop (lengths to) (wire to)) low (omega (arith, k, high, low))

    by : (to ≡ n) ⊎ (to ≡ n → ⊥) → (to < n → lower ≡ true) → (lower || last n) ≡ true
    by (inl e) rest = or_right lower (last n) (subst (λ m. last m ≡ true) e here)
    by (inr other) rest = or_left lower (last n) (rest (omega (arith, l, other)))

-- the process that makes a step in an event is that of the event
took : (from to : ℕ) (o : Option Frame) (m : ℕ × Step) → take_step from to o ≡ Some m → m.0 ≡ to
took from to None m h = absurd (none-some m h)
took from to (Some frame) m h = sym (ap (λ (s : ℕ × Step). s.0) (same_Some _ m h))

mover : (n registers : ℕ) (w : Nodes) (e : Event) (m : ℕ × Step) → step_of n registers w e ≡ Some m → m.0 ≡ process_of e
mover n registers w (Call p op) m =
    cond_both _ (Some (p, CallStep op)) None (λ (o : Option (ℕ × Step)). o ≡ Some m → m.0 ≡ p) (λ _ h. sym (ap (λ (s : ℕ × Step). s.0) (same_Some (p, CallStep op) m h))) (λ _ h. absurd (none-some m h))
mover n registers w (Take from to place) m =
    cond_both _ (take_step from to (slice_get ((w from).wire to) place)) None (λ (o : Option (ℕ × Step)). o ≡ Some m → m.0 ≡ to) (λ _ h. took from to (slice_get ((w from).wire to) place) m h) (λ _ h. absurd (none-some m h))
mover n registers w (Tick p) m =
    cond_both _ (Some (p, TickStep)) None (λ (o : Option (ℕ × Step)). o ≡ Some m → m.0 ≡ p) (λ _ h. sym (ap (λ (s : ℕ × Step). s.0) (same_Some (p, TickStep) m h))) (λ _ h. absurd (none-some m h))

-- the other processes stand as they were
others_stand : (start : Op → ℕ → Start) (n registers : ℕ) (w : World) (e : Event) (m : Option (ℕ × Step))
    → move_of n registers w e ≡ m → (q : ℕ) → (q ≡ process_of e → ⊥) → (moved start w e m).nodes q ≡ w.nodes q
others_stand start n registers w e None is q ne = refl
others_stand start n registers w e (Some m) is q ne = put_other w.nodes m.0 (after_step start (w.nodes m.0) m.1) q (λ same. ne (same ∙ mover n registers w.nodes e m (move_is n registers w e m is).1))

-- each frame on a wire was put by one of these events
abbrev AllPut : ℕ → Nodes → List Fact → Type 0
AllPut n w facts = (from to place : ℕ) → to < n → (from ≡ to → ⊥) → place < length ((w from).wire to) → list_any (is_put from to place) facts ≡ true

-- so it is behind one more event
one_more_put : (start : Op → ℕ → Start) (n registers : ℕ) (w : World) (e : Event) (reply : Option Reply)
    (facts : List Fact)
    → AllPut n w.nodes facts
    → AllPut n (moved start w e (move_of n registers w e)).nodes (facts ++ moment_between n e (process_of e) reply w (moved start w e (move_of n registers w e)) ∷ [])
one_more_put start n registers w e reply facts so from to place l ne there =
    list_any-append (is_put from to place) facts (moment_between n e (process_of e) reply w after ∷ []) ∙ by (cases_eq from (process_of e))
  where
    after : World
    after = moved start w e (move_of n registers w e)

    p : ℕ
    p = process_of e

    fact : Fact
    fact = moment_between n e p reply w after

    early : place < length ((w.nodes from).wire to) → (list_any (is_put from to place) facts || list_any (is_put from to place) (fact ∷ [])) ≡ true
    early h = or_left (list_any (is_put from to place) facts) (list_any (is_put from to place) (fact ∷ [])) (so from to place l ne h)

    late : from ≡ p → length ((w.nodes from).wire to) ≤ place → (list_any (is_put from to place) facts || list_any (is_put from to place) (fact ∷ [])) ≡ true
    late same h =
        let sent : list_any (is_at to place) fact.sent ≡ true =
        puts_has p to place (λ t. length ((w.nodes p).wire t)) (after.nodes p).wire n l (λ q. ne (same ∙ sym q)) (subst (λ q. length ((w.nodes q).wire to) ≤ place) same h) (subst (λ q. place < length ((after.nodes q).wire to)) same there) in
        or_right (list_any (is_put from to place) facts) (list_any (is_put from to place) (fact ∷ [])) (or_left (is_put from to place fact) false (rw (eq-eqb p from (sym same)) sent))

    by : (from ≡ p) ⊎ (from ≡ p → ⊥) → (list_any (is_put from to place) facts || list_any (is_put from to place) (fact ∷ [])) ≡ true
    by (inl same) = elim (cases_order place (length ((w.nodes from).wire to))) [
      | inl e ↦ late same (omega (arith, e))
      | inr q ↦ elim q [ inl less ↦ early less | inr more ↦ late same (omega (arith, more)) ]
    ]
    by (inr other) = early (subst (λ (x : Node). place < length (x.wire to)) (others_stand start n registers w e (move_of n registers w e) refl from other) there)

-- the frame of a take stands on its wire
got_within : (from to place : ℕ) (frames : List Frame) (m : ℕ × Step)
    → take_step from to (slice_get frames place) ≡ Some m → place < length frames
got_within from to place [] m h = absurd (none-some m h)
got_within from to zero (f ∷ fs) m h = omega arith
got_within from to (suc place) (f ∷ fs) m h = let k = got_within from to place fs m h in omega (arith, k)

taken_stands : (n registers : ℕ) (w : Nodes) (from to place : ℕ) (m : ℕ × Step)
    → step_of n registers w (Take from to place) ≡ Some m
    → (to < n) × (from ≡ to → ⊥) × (place < length ((w from).wire to))
taken_stands n registers w from to place m =
    cond_both (nat_lt from n && (nat_lt to n && not (from == to))) (take_step from to (slice_get ((w from).wire to) place)) None (λ (o : Option (ℕ × Step)). o ≡ Some m → (to < n) × (from ≡ to → ⊥) × (place < length ((w from).wire to)))
    (λ e h.
    let a = and_parts _ _ e in
    let b = and_parts _ _ a.1 in
    (ltb-true to n b.0, eqb-false from to (not-true (from == to) b.1), got_within from to place ((w from).wire to) m h))
    (λ _ h. absurd (none-some m h))

-- the takes of these events, the first of which has the number k, have arrows
record Arrowed (k : ℕ) (events : List Event) (arrows : List Arrow) : Type 0 where
  each : map (λ (a : Arrow). a.takes) arrows ≡ takes_in k events
  earlier : All (λ (a : Arrow). a.puts < a.takes) arrows

one_arrow : (facts : List Fact) (k from to place j : ℕ) (es : List Event) (rest : List Arrow)
    → putter from to place facts ≡ Some j → j < k → Arrowed (k + 1) es rest
    → Arrowed k (Take from to place ∷ es) (arrow_of facts k (Take from to place) ++ rest)
one_arrow facts k from to place j es rest is less others =
    let arrow : Arrow = record { from = from; to = to; place = place; puts = j; takes = k } in
    let P : Option ℕ → Type 0 = λ o. Arrowed k (Take from to place ∷ es) (arrow_from k from to place o ++ rest) in
    subst P (sym is) (record { each = ap (λ l. k ∷ l) others.each; earlier = All-cons (λ (a : Arrow). a.puts < a.takes) arrow rest less others.earlier })

first_arrow : (n registers : ℕ) (w : World) (e : Event) (m : ℕ × Step) (before after all : List Fact) (es : List Event)
    (rest : List Arrow)
    → move_of n registers w e ≡ Some m → all ≡ before ++ after → AllPut n w.nodes before
    → Arrowed (length before + 1) es rest → Arrowed (length before) (e ∷ es) (arrow_of all (length before) e ++ rest)
first_arrow n registers w (Call p op) m before after all es rest is same put others =
    record { each = others.each; earlier = others.earlier }
first_arrow n registers w (Take from to place) m before after all es rest is same put others =
    let stands = taken_stands n registers w.nodes from to place m (move_is n registers w (Take from to place) m is).1 in
    let found = first_place (is_put from to place) before after (put from to place stands.0 stands.1 stands.2) in
    one_arrow all (length before) from to place found.0 es rest (ap (putter from to place) same ∙ found.1) found.2 others
first_arrow n registers w (Tick p) m before after all es rest is same put others =
    record { each = others.each; earlier = others.earlier }

all_arrows : (start : Op → ℕ → Start) (w : Made) (es : List Event) (before all : List Fact)
    → all ≡ before ++ moments_from start w es → AllPut w.processes (run_in start w).nodes before
    → (run start w.processes w.registers es (run_in start w)).accepted ≡ (run_in start w).accepted ++ es → Arrowed (length before) es (arrows_in all (length before) (moments_from start w es))
all_arrows start w [] before all same put accepted =
    record { each = refl; earlier = All-nil (λ (a : Arrow). a.puts < a.takes) }
all_arrows start w (e ∷ es) before all same put accepted =
    let n = w.processes in
    let r = w.registers in
    let now : World = run_in start w in
    let next : Made = with_event start w e in
    let fact : Fact = moment_of start w e in
    let rest : List Fact = moments_from start next es in
    let first = first_moved start n r e es now (move_of n r now e) refl accepted in
    let after : run_in start next ≡ moved start now e (move_of n r now e) = one_more start n r w.accepted e in
    let all_put : AllPut n (run_in start next).nodes (before ++ fact ∷ []) =
    subst (λ (v : World). AllPut n v.nodes (before ++ moment_between n e (process_of e) (reply_in start w e) now v ∷ [])) (sym after) (one_more_put start n r now e (reply_in start w e) before put) in
    let going : (run start n r es (run_in start next)).accepted ≡ (run_in start next).accepted ++ es = subst (λ (v : World). (run start n r es v).accepted ≡ v.accepted ++ es) (sym after) first.2 in
    let count : length (before ++ fact ∷ []) ≡ length before + 1 = length-append before (fact ∷ []) in
    let others : Arrowed (length before + 1) es (arrows_in all (length before + 1) rest) =
    subst (λ k. Arrowed k es (arrows_in all k rest)) count (all_arrows start next es (before ++ fact ∷ []) all (same ∙ sym (append_assoc before (fact ∷ []) rest)) all_put going) in
    first_arrow n r now e first.0 before (fact ∷ rest) all es (arrows_in all (length before + 1) rest) first.1 same put others

-- each take of an accepted run has its arrow
pub have_arrows : (start : Op → ℕ → Start) (shape : Extent) (events : List Event)
    → (whole start shape.processes shape.registers events).accepted ≡ events
    → HaveArrows events (arrows_of (moments_of start shape events))
have_arrows start shape events accepted =
    let all = all_arrows start (new_world shape) events [] (moments_of start shape events) refl (λ from to place l ne there. absurd (omega (arith, there))) accepted in
    record { each = all.each; earlier = all.earlier }
