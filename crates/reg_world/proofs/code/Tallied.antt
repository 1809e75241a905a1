-- What is kept of the operations of each process tells which are finished, and which casts were delivered nowhere.
use Rattle.std.proofs.Common.{◌≡◌, ◌≢◌, ℕ, zero, suc, ◌+◌, ◌-◌, ◌<◌, ◌≤◌, ◌⊎◌, ◌↔◌, Bool, true, false, List, [], ◌∷◌}
use Rattle.std.proofs.Common.{◌++◌, map, length, Option, Some, None, refl, sym, ap, ◌∙◌, subst, inl, inr, arith}
use Rattle.std.specs.Prelude.{slice_get, slice_index_or, nat_lt, ◌==◌, ◌||◌, if◌then◌else◌}
use Rattle.std.specs.Option.{is_some}
use Rattle.std.specs.List.{filter}
use Rattle.std.proofs.lemmas.Bool.{cond_both, cases_lt, cases_order, ltb-true, eqb-true, eq-eqb, and_parts, and_from}
use Rattle.std.proofs.lemmas.Bool.{false≢true}
use Rattle.std.proofs.lemmas.Bool.Decides.{nat_tests}
use Rattle.std.proofs.lemmas.List.{get_or_past}
use Rattle.std.proofs.lemmas.Option.{same_Some}
use Rattle.reg_base.specs.declared.memory.OpId.{OpId}
use Rattle.reg_base.specs.declared.memory.Op.{Op}
use Rattle.reg_base.specs.declared.stamps.Stamp.{Stamp}
use Rattle.reg_base.specs.Memory.{updates}
use Rattle.reg_base.specs.Order.{Below, below, In}
use Rattle.reg_front.specs.declared.starts.Start.{Start}
use Rattle.reg_front.specs.Fronts.{KeepsLaws}
use Rattle.reg_process.specs.declared.steps.Step.{Step}
use Rattle.reg_process.specs.declared.steps.Step.TheVariants.{Call, Take, Tick}
use Rattle.reg_process.specs.Process.{State, Running, step}
use Rattle.reg_checkers.specs.declared.entries.Entry.TheVariants.{Answered}
use Rattle.reg_checkers.specs.History.{IsAt, IsFinished, IsAnswered}
use Rattle.reg_process.specs.declared.events.Event.{Event}
use Rattle.reg_world.specs.declared.order.First.{First}
use Rattle.reg_world.specs.declared.order.CopyRead.{CopyRead}
use Rattle.reg_world.specs.declared.callers.Note.{Note}
use Rattle.reg_world.specs.declared.witnesses.Ranked.{Ranked}
use Rattle.reg_world.specs.Runs.{Run, Cast, IsWaiting}
use Rattle.reg_world.specs.Keys.{IsKept, Keeps, Nothing, Takes, Leaves, IsWitness, ArePoints}
use Rattle.reg_world.specs.World.{World, op_id, casts_in, move_of, moved, whole}
use Rattle.reg_world.specs.Tallies.{Tally, no_calls, finished, is_done}
use Rattle.reg_world.specs.Books.{note_of, tally_of, AreTallies}
use Rattle.reg_world.specs.Witnesses.{is_kept, point_of, ranked_read, last_stamp, stamp_in, is_after, ranked_note}
use Rattle.reg_world.specs.Witnesses.{is_lost, lost_of, lost_from, IsSortedFrom, IsMerged, all_keyed}
use Rattle.reg_world.proofs.lists.Rises.{RisesBy, rises_append, rises_map, rises_filter, rises_weaker}
use Rattle.reg_world.proofs.lists.Rises.{rises_from_places, in_kept, kept_in}
use Rattle.reg_world.proofs.witness.Ranking.{Lower, sorted_in, in_sorted, sorted_rises}
use Rattle.reg_world.proofs.code.Merging.{by_keys}
use Rattle.reg_base.proofs.Lists.{in_left, in_right, in_cases}
use Rattle.reg_world.proofs.lists.Members.{in_at, at_in, in_map, map_in, from_end}
use Rattle.reg_world.proofs.lists.Bodies.{place_within}
use Rattle.reg_base.proofs.Orders.{Decides-below, below_trans, below_irrefl}
use Rattle.reg_world.proofs.one_memory.Turns.{done_calls}
use Rattle.reg_world.proofs.one_memory.Joined.{Joined}
use Rattle.reg_world.proofs.one_memory.Added.{same_op_id}
use Rattle.reg_world.proofs.one_memory.Kept.{Known}
use Rattle.reg_world.proofs.witness.Grounds.{IsRun}
use Rattle.reg_world.proofs.witness.Once.{cast_of}
use Rattle.reg_world.proofs.witness.Premises.{W, V, R, J, G, one_id, is_run}
use Rattle.reg_world.proofs.witness.Promised.{replies_right}
use Rattle.reg_world.proofs.one_memory.Arrivals.{reads_right}
use Rattle.reg_world.proofs.run.Along.{one_more}

pub at_or : {X : Type 0} (xs : List X) (k : ℕ) (x d : X) → IsAt xs k x → slice_index_or xs k d ≡ x
at_or [] k x d h = absurd cc
at_or (y ∷ xs) zero x d h = same_Some y x h
at_or (y ∷ xs) (suc k) x d h = at_or xs k x d h

done_is : (s : State) (o : Option Running) → (if is_some o then s.calls - 1 else s.calls) ≡ done_calls s o
done_is s None = refl
done_is s (Some r) = refl

-- of casts of one process the later has the higher number
abbrev pub OwnLater : Cast → Cast → Type 0
OwnLater a b = a.id.process ≡ b.id.process → a.id.number < b.id.number

one_cast_in : (id : OpId) (st : Step) (o : Option Stamp) (c : Cast) → In c (casts_in id st o) → c.id ≡ id
one_cast_in id (Call op) None c h = absurd h
one_cast_in id (Call op) (Some stamp) c (inl e) = ap (λ (z : Cast). z.id) e
one_cast_in id (Call op) (Some stamp) c (inr f) = absurd f
one_cast_in id (Take a f) o c h = absurd h
one_cast_in id Tick o c h = absurd h

casts_alone : (id : OpId) (st : Step) (o : Option Stamp) → RisesBy OwnLater (casts_in id st o)
casts_alone id (Call op) None = tt
casts_alone id (Call op) (Some stamp) = (λ y i. absurd i, tt)
casts_alone id (Take a f) o = tt
casts_alone id Tick o = tt

grown_casts : (start : Op → ℕ → Start) (w : World) (e : Event) (m : Option (ℕ × Step))
    → ((c : Cast) → In c w.casts → c.id.number < (w.nodes c.id.process).state.calls) → RisesBy OwnLater w.casts
    → RisesBy OwnLater (moved start w e m).casts
grown_casts start w e None fresh r = r
grown_casts start w e (Some m) fresh r =
    let s = (w.nodes m.0).state in
    let more = casts_in (op_id m.0 s.calls) m.1 (step start s m.1).1.cast in
    rises_append OwnLater w.casts more r (casts_alone (op_id m.0 s.calls) m.1 (step start s m.1).1.cast)
    (λ x y i j same.
    let id : y.id ≡ op_id m.0 s.calls = one_cast_in (op_id m.0 s.calls) m.1 (step start s m.1).1.cast y j in
    let p : x.id.process ≡ m.0 = same ∙ ap (λ (z : OpId). z.process) id in
    let k : y.id.number ≡ s.calls = ap (λ (z : OpId). z.number) id in
    let l : x.id.number < s.calls = subst (λ q. x.id.number < (w.nodes q).state.calls) p (fresh x i) in
    omega (arith, k, l))

-- what stands in the list of lost casts
abbrev IsLostOf : Option Stamp → List Tally → ℕ → Ranked → Type 0
IsLostOf last ts k x = (p : ℕ) × (t : Tally) × (note : Note) × IsAt ts p t × In note t.casts × (is_lost last (k + p) t note ≡ true) × (x ≡ ranked_note (k + p) note)

in_lost : (last : Option Stamp) (k : ℕ) (ts : List Tally) (x : Ranked) → In x (lost_from last k ts)
    → IsLostOf last ts k x
in_lost last k [] x h = absurd h
in_lost last k (t ∷ ts) x h = elim (in_cases x (lost_of last k t) (lost_from last (k + 1) ts) h) [
  | inl i ↦
      let m = map_in (ranked_note k) x (filter (is_lost last k t) t.casts) i in
      let f = in_kept (is_lost last k t) m.0 t.casts m.1 in
      let z : k ≡ k + 0 = omega arith in
      (0, t, m.0, refl, f.0, subst (λ j. is_lost last j t m.0 ≡ true) z f.1, m.2 ∙ ap (λ j. ranked_note j m.0) z)
  | inr i ↦
      let r = in_lost last (k + 1) ts x i in
      let z : (k + 1) + r.0 ≡ k + suc r.0 = omega arith in
      (suc r.0, r.1, r.2, r.3, r.4, subst (λ j. is_lost last j r.1 r.2 ≡ true) z r.5, r.6 ∙ ap (λ j. ranked_note j r.2) z)
]

lost_in : (last : Option Stamp) (k : ℕ) (ts : List Tally) (p : ℕ) (t : Tally) (note : Note) → IsAt ts p t
    → In note t.casts → is_lost last (k + p) t note ≡ true → In (ranked_note (k + p) note) (lost_from last k ts)
lost_in last k [] p t note at i e = absurd cc
lost_in last k (u ∷ ts) zero t note at i e =
    let z : k + 0 ≡ k = omega arith in
    let same : u ≡ t = same_Some u t at in
    let here : In (ranked_note k note) (lost_of last k t) = in_map (ranked_note k) note (filter (is_lost last k t) t.casts) (kept_in (is_lost last k t) note t.casts i (subst (λ j. is_lost last j t note ≡ true) z e)) in
    subst (λ j. In (ranked_note j note) (lost_of last k u ++ lost_from last (k + 1) ts)) (sym z)
    (in_left (ranked_note k note) (lost_of last k u) (lost_from last (k + 1) ts) (subst (λ v. In (ranked_note k note) (lost_of last k v)) (sym same) here))
lost_in last k (u ∷ ts) (suc p) t note at i e =
    let z : (k + 1) + p ≡ k + suc p = omega arith in
    let there = lost_in last (k + 1) ts p t note at i (subst (λ j. is_lost last j t note ≡ true) (sym z) e) in
    in_right (ranked_note (k + suc p) note) (lost_of last k u) (lost_from last (k + 1) ts) (subst (λ j. In (ranked_note j note) (lost_from last (k + 1) ts)) z there)

-- by process, then by number
abbrev ById : Ranked → Ranked → Type 0
ById a b = (a.id.process < b.id.process) ⊎ ((a.id.process ≡ b.id.process) × (a.id.number < b.id.number))

abbrev Numbered : Note → Note → Type 0
Numbered a b = a.number < b.number

of_rises : (last : Option Stamp) (k : ℕ) (t : Tally) → RisesBy Numbered t.casts → RisesBy ById (lost_of last k t)
of_rises last k t r = rises_map Numbered ById (ranked_note k) (filter (is_lost last k t) t.casts) (rises_filter Numbered (is_lost last k t) t.casts r) (λ a b i j h. inr (refl, h))

from_rises : (last : Option Stamp) (k : ℕ) (ts : List Tally)
    → ((p : ℕ) (t : Tally) → IsAt ts p t → RisesBy Numbered t.casts) → RisesBy ById (lost_from last k ts)
from_rises last k [] h = tt
from_rises last k (t ∷ ts) h =
    rises_append ById (lost_of last k t) (lost_from last (k + 1) ts) (of_rises last k t (h 0 t refl)) (from_rises last (k + 1) ts (λ p u at. h (suc p) u at))
    (λ x y i j.
    let m = map_in (ranked_note k) x (filter (is_lost last k t) t.casts) i in
    let r = in_lost last (k + 1) ts y j in
    let a : x.id.process ≡ k = ap (λ (z : Ranked). z.id.process) m.2 in
    let b : y.id.process ≡ (k + 1) + r.0 = ap (λ (z : Ranked). z.id.process) r.6 in
    inl (omega (arith, a, b)))

by_id_apart : (a b : Ranked) → ById a b → a ≢ b
by_id_apart a b h e = grind arith

keeps_filter : {X : Type 0} (P : X → Type 0) (p : X → Bool) → ((x : X) → P x ↔ (p x ≡ true)) → (xs : List X)
    → Keeps P xs (filter p xs)
keeps_filter P p iff [] = Nothing
keeps_filter P p iff (x ∷ xs) =
    cond_both (p x) (x ∷ filter p xs) (filter p xs) (Keeps P (x ∷ xs))
    (λ e. Takes ((iff x).1 e) (keeps_filter P p iff xs))
    (λ e. Leaves (λ h. false≢true (sym e ∙ (iff x).0 h)) (keeps_filter P p iff xs))

module _ (start : Op → ℕ → Start) (n registers : ℕ) (laws : KeepsLaws start) where
  pub fresh : (events : List Event) (c : Cast) → In c (whole start n registers events).casts
      → c.id.number < ((whole start n registers events).nodes c.id.process).state.calls
  fresh events c i =
      let v = V start n registers laws events in
      let x = (J start n registers laws events).cast c i in
      let count = ((G start n registers laws events).pasts c.id.process x.1.0).0.count in
      let l = place_within (v.pasts c.id.process).calls c.id.number x.0 x.1.1 in
      omega (arith, count, l)

  pub casts_rise : (events : List Event) → RisesBy OwnLater (whole start n registers events).casts
  casts_rise events =
      from_end (λ (es : List Event). RisesBy OwnLater (whole start n registers es).casts) tt
      (λ es e r. subst (λ (z : World). RisesBy OwnLater z.casts) (sym (one_more start n registers es e)) (grown_casts start (whole start n registers es) e (move_of n registers (whole start n registers es) e) (fresh es) r))
      events

module _ (start : Op → ℕ → Start) (n registers : ℕ) (laws : KeepsLaws start) (events : List Event) (tallies : List Tally) (T : AreTallies n (whole start n registers events) tallies) where
  abbrev w : World
  w = W start n registers laws events

  abbrev r : Run
  r = R start n registers laws events

  ok : IsRun r
  ok = is_run start n registers laws events

  joined : Joined n w (V start n registers laws events).pasts
  joined = J start n registers laws events

  known : Known n registers (V start n registers laws events)
  known = G start n registers laws events

  -- how many operations of a process are finished
  done_at : (p : ℕ) → p < n → finished (slice_index_or tallies p no_calls) ≡ done_calls (w.nodes p).state (w.nodes p).state.running
  done_at p l = ap finished (at_or tallies p (tally_of w p) no_calls (T.each p l)) ∙ done_is (w.nodes p).state (w.nodes p).state.running

  none_past : (id : OpId) → length tallies ≤ id.process → is_done tallies id ≡ true → ⊥
  none_past id h e =
      let z : slice_index_or tallies id.process no_calls ≡ no_calls = get_or_past tallies id.process no_calls h in
      let f : nat_lt id.number 0 ≡ true = sym (ap (λ t. nat_lt id.number (finished t)) z) ∙ e in
      let l = ltb-true id.number 0 f in
      omega (arith, l)

  pub done_finished : (id : OpId) → is_done tallies id ≡ true → IsFinished w.history id
  done_finished id e = elim (cases_lt id.process n) [
    | inl l ↦
        let d = done_at id.process l in
        let less = ltb-true id.number (finished (slice_index_or tallies id.process no_calls)) e in
        let a = known.answered id.process id.number l (omega (arith, d, less)) in
        let i = joined.answers id a.0 (l, a.1, a.2) in
        (a.0.at, a.0.reply.answer, in_at (Answered a.0.at id a.0.reply.answer) w.history i)
    | inr h ↦ absurd (none_past id (let s = T.size in omega (arith, h, s)) e)
  ]

  pub finished_done : (id : OpId) → IsFinished w.history id → is_done tallies id ≡ true
  finished_done id (at, x, is) =
      let a = joined.answered at id x (at_in (Answered at id x) w.history is) in
      let b = (known.places id.process a.1.0).below a.0 a.1.1 in
      let d = done_at id.process a.1.0 in
      let same = a.1.2 in
      let less : id.number < finished (slice_index_or tallies id.process no_calls) = omega (arith, b, d, same) in
      (let t : nat_lt id.number (finished (slice_index_or tallies id.process no_calls)) ≡ true = less_true id.number (finished (slice_index_or tallies id.process no_calls)) less in t)
    where
      less_true : (a b : ℕ) → a < b → nat_lt a b ≡ true
      less_true a b h = grind (arith, nat_tests)

  -- the kept casts
  pub keeps : (c : First) → IsKept r c ↔ (is_kept tallies c ≡ true)
  keeps c = (into, out (updates c.op) (is_done tallies c.id) refl refl)
    where
      or_right : (b : Bool) → (b || true) ≡ true
      or_right true = refl
      or_right false = refl

      into : IsKept r c → is_kept tallies c ≡ true
      into (inl up) = ap (λ b. b || is_done tallies c.id) up
      into (inr fin) = ap (λ b. updates c.op || b) (finished_done c.id fin) ∙ or_right (updates c.op)

      out : (a b : Bool) → updates c.op ≡ a → is_done tallies c.id ≡ b → (a || b) ≡ true → IsKept r c
      out true b e f h = inl e
      out false b e f h = inr (done_finished c.id (f ∙ h))

  pub points_are : ArePoints r (map point_of (filter (is_kept tallies) w.order))
  points_are = (filter (is_kept tallies) w.order, keeps_filter (IsKept r) (is_kept tallies) keeps w.order, refl)

  -- the casts that come after the last one that was delivered are those that were delivered nowhere
  last_at : (c : First) (k : ℕ) → IsAt w.order k c → (l : First) × IsAt w.order (length w.order - 1) l × ((c ≡ l) ⊎ Below c.stamp l.stamp)
  last_at c k at =
      let less = place_within w.order k c at in
      let l = element w.order (length w.order - 1) (omega (arith, less)) in (
        l.0,
        l.1,
        elim (cases_order k (length w.order - 1)) [
          | inl e ↦ inl (same_Some c l.0 (sym (subst (λ j. slice_get w.order j ≡ Some c) e at) ∙ l.1))
          | inr q ↦ elim q [ inl h ↦ inr (ok.rising k (length w.order - 1) c l.0 at l.1 h) | inr h ↦ absurd (omega (arith, less, h)) ]
        ],
      )
    where
      element : (xs : List First) (k : ℕ) → k < length xs → (x : First) × IsAt xs k x
      element [] k h = absurd (omega arith)
      element (x ∷ xs) zero h = (x, refl)
      element (x ∷ xs) (suc k) h = element xs k (omega arith)

  after_waits : (d : Cast) → ((k : ℕ) × IsAt w.casts k d) → is_after (last_stamp w.order) d.stamp ≡ true → IsWaiting r d.id
  after_waits d i e k c at same =
      let l = last_at c k at in
      let stamps : c.stamp ≡ d.stamp = ap (λ (z : Cast). z.stamp) (ok.one_cast (cast_of c) d (ok.delivered k c at) i same) in
      let test : below l.0.stamp d.stamp ≡ true = sym (ap (λ o. is_after (stamp_in o) d.stamp) l.1) ∙ e in
      let b : Below l.0.stamp d.stamp = (Decides-below l.0.stamp d.stamp).0 test in
      elim l.2 [
        | inl q ↦ below_irrefl d.stamp (subst (λ z. Below z d.stamp) (sym (ap (λ (z : First). z.stamp) q) ∙ stamps) b)
        | inr q ↦ below_irrefl d.stamp (below_trans d.stamp l.0.stamp d.stamp (subst (λ z. Below z l.0.stamp) stamps q) b)
      ]

  waits_after : (d : Cast) → ((k : ℕ) × IsAt w.casts k d) → IsWaiting r d.id → is_after (last_stamp w.order) d.stamp ≡ true
  waits_after d i waits = go (slice_get w.order (length w.order - 1)) refl
    where
      go : (o : Option First) → slice_get w.order (length w.order - 1) ≡ o → is_after (stamp_in o) d.stamp ≡ true
      go None e = refl
      go (Some l) e = (Decides-below l.stamp d.stamp).1 (ok.waiting d i waits (length w.order - 1) l e)

  -- the notes of a process are its casts
  note_cast : (p : ℕ) (t : Tally) (note : Note) → IsAt tallies p t → In note t.casts → (d : Cast) × ((k : ℕ) × IsAt w.casts k d) × (d.id ≡ op_id p note.number) × (d.stamp.time ≡ note.time) × (d.stamp.process ≡ p)
  note_cast p t note at i =
      let l : p < n = (let z = place_within tallies p t at in let s = T.size in omega (arith, z, s)) in
      let same : t ≡ tally_of w p = same_Some t (tally_of w p) (sym at ∙ T.each p l) in
      let m = map_in note_of note (filter (λ (c : Cast). c.id.process == p) w.casts) (subst (λ (z : Tally). In note z.casts) same i) in
      let f = in_kept (λ (c : Cast). c.id.process == p) m.0 w.casts m.1 in
      let process : m.0.id.process ≡ p = eqb-true m.0.id.process p f.1 in
      let x = joined.cast m.0 f.0 in
      let stamp : m.0.stamp.process ≡ m.0.id.process = ((known.pasts m.0.id.process x.1.0).0.casts m.0.id.number x.0 m.0.stamp x.1.1 x.2).0 in
      (m.0, in_at m.0 w.casts f.0, same_op_id m.0.id (op_id p note.number) process (ap (λ (z : Note). z.number) (sym m.2)), ap (λ (z : Note). z.time) (sym m.2), stamp ∙ process)

  own_stamp : (d : Cast) → ((k : ℕ) × IsAt w.casts k d) → (d.id.process < n) × (d.stamp.process ≡ d.id.process)
  own_stamp d i =
      let x = joined.cast d (at_in d w.casts i) in
      (x.1.0, ((known.pasts d.id.process x.1.0).0.casts d.id.number x.0 d.stamp x.1.1 x.2).0)

  cast_note : (d : Cast) → ((k : ℕ) × IsAt w.casts k d) → In (note_of d) (tally_of w d.id.process).casts
  cast_note d i = in_map note_of d (filter (λ (c : Cast). c.id.process == d.id.process) w.casts) (kept_in (λ (c : Cast). c.id.process == d.id.process) d w.casts (at_in d w.casts i) (eq-eqb d.id.process d.id.process refl))

  done_of : (p : ℕ) (t : Tally) (number : ℕ) → IsAt tallies p t → nat_lt number (finished t) ≡ is_done tallies (op_id p number)
  done_of p t number at = ap (λ z. nat_lt number (finished z)) (sym (at_or tallies p t no_calls at))

  notes_rise : (p : ℕ) (t : Tally) → IsAt tallies p t → RisesBy (λ (a b : Note). a.number < b.number) t.casts
  notes_rise p t at =
      let l : p < n = (let z = place_within tallies p t at in let s = T.size in omega (arith, z, s)) in
      let same : t ≡ tally_of w p = same_Some t (tally_of w p) (sym at ∙ T.each p l) in
      let own = λ (c : Cast). c.id.process == p in
      subst (λ (z : Tally). RisesBy (λ (a b : Note). a.number < b.number) z.casts) (sym same)
      (rises_map OwnLater (λ (a b : Note). a.number < b.number) note_of (filter own w.casts) (rises_filter OwnLater own w.casts (casts_rise start n registers laws events))
      (λ a b i j h. h (eqb-true a.id.process p (in_kept own a w.casts i).1 ∙ sym (eqb-true b.id.process p (in_kept own b w.casts j).1))))

  reads_apart : RisesBy (λ (a b : Ranked). a ≢ b) (map ranked_read w.reads)
  reads_apart =
      let Q = reads_right start n registers laws events in
      let S = replies_right start n registers laws events in
      rises_map (λ (a b : CopyRead). a.id ≢ b.id) (λ (a b : Ranked). a ≢ b) ranked_read w.reads
      (rises_from_places (λ (a b : CopyRead). a.id ≢ b.id) w.reads (λ i j a b at1 at2 lt same.
      let x = Q.some a (i, at1) in
      let here : IsAnswered w.history a.id x.0.at x.0.reply.answer = subst (λ z. IsAnswered w.history z x.0.at x.0.reply.answer) x.2 (S.answered x.0 x.1) in
      let there : IsAnswered w.history b.id x.0.at x.0.reply.answer = subst (λ z. IsAnswered w.history z x.0.at x.0.reply.answer) same here in
      let l = Q.in_order i j a b x.0.at x.0.at x.0.reply.answer x.0.reply.answer at1 at2 lt here there in
      omega (arith, l)))
      (λ a b i j h e. h (ap (λ (z : Ranked). z.id) e))

  module _ (sorted lost : List Ranked) (reads_sorted : IsSortedFrom (map ranked_read w.reads) sorted) (lost_sorted : IsSortedFrom (lost_from (last_stamp w.order) 0 tallies) lost) where
    reads_some : (q : Ranked) → In q sorted → (x : CopyRead) × ((k : ℕ) × IsAt w.reads k x) × (x.id ≡ q.id) × (x.place ≡ q.rank)
    reads_some q i =
        let m = map_in ranked_read q w.reads (sorted_in (map ranked_read w.reads) sorted reads_sorted q i) in
        (m.0, in_at m.0 w.reads m.1, ap (λ (z : Ranked). z.id) (sym m.2), ap (λ (z : Ranked). z.rank) (sym m.2))

    lost_some : (q : Ranked) → In q lost → (d : Cast) × ((k : ℕ) × IsAt w.casts k d) × (d.id ≡ q.id) × (d.stamp.time ≡ q.rank) × (d.stamp.process ≡ q.id.process) × IsWaiting r d.id × IsFinished w.history d.id
    lost_some q i =
        let from = sorted_in (lost_from (last_stamp w.order) 0 tallies) lost lost_sorted q i in
        let m = in_lost (last_stamp w.order) 0 tallies q from in
        let p = m.0 in
        let zero_p : 0 + p ≡ p = omega arith in
        let d = note_cast p m.1 m.2 m.3 m.4 in
        let test : is_lost (last_stamp w.order) p m.1 m.2 ≡ true = subst (λ j. is_lost (last_stamp w.order) j m.1 m.2 ≡ true) zero_p m.5 in
        let parts = and_parts (nat_lt m.2.number (finished m.1)) (is_after (last_stamp w.order) (record { time = m.2.time; process = p })) test in
        let is : q ≡ ranked_note p m.2 = m.6 ∙ ap (λ j. ranked_note j m.2) zero_p in
        let fin : IsFinished w.history d.0.id = subst (IsFinished w.history) (sym d.2) (done_finished (op_id p m.2.number) (sym (done_of p m.1 m.2.number m.3) ∙ parts.0)) in
        let stamp : record { time = m.2.time; process = p } ≡ d.0.stamp = stamps (record { time = m.2.time; process = p }) d.0.stamp (sym d.3) (sym d.4) in (
          d.0,
          d.1,
          d.2 ∙ sym (ap (λ (z : Ranked). z.id) is),
          d.3 ∙ sym (ap (λ (z : Ranked). z.rank) is),
          d.4 ∙ sym (ap (λ (z : Ranked). z.id.process) is),
          after_waits d.0 d.1 (subst (λ z. is_after (last_stamp w.order) z ≡ true) stamp parts.1),
          fin,
        )
      where
        stamps : (a b : Stamp) → a.time ≡ b.time → a.process ≡ b.process → a ≡ b
        stamps a b t p = λ i. record { time = t i; process = p i }

    lost_all : (d : Cast) → ((k : ℕ) × IsAt w.casts k d) → IsWaiting r d.id → IsFinished w.history d.id → In (record { rank = d.stamp.time; id = d.id }) lost × (d.stamp.process ≡ d.id.process)
    lost_all d i waits fin =
        let own = own_stamp d i in
        let p = d.id.process in
        let t = tally_of w p in
        let zero_p : 0 + p ≡ p = omega arith in
        let after : is_after (last_stamp w.order) (record { time = d.stamp.time; process = p }) ≡ true = subst (λ z. is_after (last_stamp w.order) (record { time = d.stamp.time; process = z }) ≡ true) own.1 (waits_after d i waits) in
        let test : is_lost (last_stamp w.order) (0 + p) t (note_of d) ≡ true =
        subst (λ j. is_lost (last_stamp w.order) j t (note_of d) ≡ true) (sym zero_p)
        (and_from (nat_lt d.id.number (finished t)) (is_after (last_stamp w.order) (record { time = d.stamp.time; process = p })) (done_of p t d.id.number (T.each p own.0) ∙ finished_done d.id fin) after) in
        let there = lost_in (last_stamp w.order) 0 tallies p t (note_of d) (T.each p own.0) (cast_note d i) test in (
          in_sorted (lost_from (last_stamp w.order) 0 tallies) lost lost_sorted (record { rank = d.stamp.time; id = d.id })
              (subst (λ j. In (ranked_note j (note_of d)) (lost_from (last_stamp w.order) 0 tallies)) zero_p there),
          own.1,
        )

    lost_rise : RisesBy (λ (a b : Ranked). (a.rank < b.rank) ⊎ ((a.rank ≡ b.rank) × (a.id.process < b.id.process))) lost
    lost_rise =
        rises_weaker Lower (λ (a b : Ranked). (a.rank < b.rank) ⊎ ((a.rank ≡ b.rank) × (a.id.process < b.id.process))) lost
        (sorted_rises (lost_from (last_stamp w.order) 0 tallies) lost lost_sorted (rises_weaker ById (λ (a b : Ranked). a ≢ b) (lost_from (last_stamp w.order) 0 tallies) (from_rises (last_stamp w.order) 0 tallies notes_rise) (λ a b i j h. by_id_apart a b h)))
        (λ a b i j h. weaker a b i j h)
      where
        weaker : (a b : Ranked) → In a lost → In b lost → Lower a b → (a.rank < b.rank) ⊎ ((a.rank ≡ b.rank) × (a.id.process < b.id.process))
        weaker a b i j (inl h) = inl h
        weaker a b i j (inr (e, inl h)) = inr (e, h)
        weaker a b i j (inr (e, inr (p, h))) =
            let x = lost_some a i in
            let y = lost_some b j in
            let stamp : x.0.stamp ≡ y.0.stamp = λ k. record { time = (x.3 ∙ (e ∙ sym y.3)) k; process = (x.4 ∙ (p ∙ sym y.4)) k } in
            let id : a.id ≡ b.id = sym x.2 ∙ (one_id start n registers laws events x.0 y.0 x.1 y.1 stamp ∙ y.2) in
            let number = ap (λ (z : OpId). z.number) id in
            absurd (omega (arith, h, number))

    pub keyed_is : IsWitness r (map (λ e. e.id) (all_keyed (is_kept tallies) sorted w.order lost))
    keyed_is = (
      all_keyed (is_kept tallies) sorted w.order lost,
      by_keys r (is_kept tallies) sorted lost keeps reads_some
          (λ x i. in_sorted (map ranked_read w.reads) sorted reads_sorted (ranked_read x) (in_map ranked_read x w.reads (at_in x w.reads i)))
          (sorted_rises (map ranked_read w.reads) sorted reads_sorted reads_apart)
          (λ x i. (ok.copied x i).within) lost_some lost_all lost_rise,
      refl,
    )

  pub witness_is : (ids : List OpId) → IsMerged w.order w.reads tallies ids → IsWitness r ids
  witness_is ids M = subst (IsWitness r) (sym M.merged) (keyed_is M.sorted M.lost M.reads_sorted M.lost_sorted)
