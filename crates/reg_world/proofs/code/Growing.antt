-- What one more event adds to a run is what the book of the world enters.
use Rattle.std.proofs.Common.{◌≡◌, ℕ, zero, suc, ◌+◌, ◌-◌, ◌<◌, ◌≤◌, Bool, true, false, not, cond, List, [], ◌∷◌, ◌++◌}
use Rattle.std.proofs.Common.{map, length, Option, Some, None, refl, sym, ap, ◌∙◌, subst, inl, inr, arith, length-set}
use Rattle.std.specs.Prelude.{slice_get, ◌==◌, ◌&&◌}
use Rattle.std.specs.Option.{is_some}
use Rattle.std.specs.List.{filter, list_any}
use Rattle.std.proofs.lemmas.Bool.{cond_both, cases_order, cases_eq, eqb-true, eq-eqb, and_parts, and_from}
use Rattle.std.proofs.lemmas.List.{append-nil, map-append}
use Rattle.std.proofs.lemmas.Option.{same_Some}
use Rattle.reg_base.specs.declared.stamps.Stamp.{Stamp}
use Rattle.reg_base.specs.declared.stamps.Delivered.{Delivered}
use Rattle.reg_base.specs.declared.memory.Op.{Op}
use Rattle.reg_base.specs.declared.memory.OpId.{OpId}
use Rattle.reg_base.specs.Order.{Below, below, In}
use Rattle.reg_front.specs.declared.starts.Start.{Start}
use Rattle.reg_front.specs.Fronts.{KeepsLaws}
use Rattle.reg_process.specs.declared.steps.Reply.{Reply}
use Rattle.reg_process.specs.declared.steps.Step.{Step}
use Rattle.reg_process.specs.declared.steps.Step.TheVariants.{Call, Take, Tick}
use Rattle.reg_process.specs.Process.{State, Outcome, step}
use Rattle.reg_checkers.specs.History.{IsAt}
use Rattle.reg_process.specs.declared.events.Event.{Event}
use Rattle.reg_world.specs.declared.order.First.{First}
use Rattle.reg_world.specs.declared.order.CopyRead.{CopyRead}
use Rattle.reg_world.specs.declared.callers.Note.{Note}
use Rattle.reg_world.specs.Runs.{Cast}
use Rattle.reg_world.specs.Nodes.{Node, after_step, unseen}
use Rattle.reg_world.specs.World.{World, op_id, cast_in, casts_in, has_cast, reads_in, id_of, first_of, delivered_of}
use Rattle.reg_world.specs.World.{move_of, moved, whole}
use Rattle.reg_world.specs.Tallies.{Tally, no_calls}
use Rattle.reg_world.specs.Books.{note_of, notes_of, tally_of, AreTallies}
use Rattle.reg_world.specs.Witnesses.{stamp_in, last_stamp, is_after}
use Rattle.reg_world.specs.Pages.{calls_after, note_in, notes_in, tally_after, tally_at, tallies_after, is_number}
use Rattle.reg_world.specs.Pages.{last_casts, read_in, number_at, first_in, firsts_in, TimesDiffer}
use Rattle.reg_world.proofs.lists.Changes.{at_set_same, at_set_other, filter_append, filter_same, map_same}
use Rattle.reg_world.proofs.lists.Rises.{RisesBy, rises_at, rises_filter, rises_map, in_kept, kept_in}
use Rattle.reg_base.proofs.Lists.{in_right}
use Rattle.reg_world.proofs.lists.Members.{in_at, in_map, map_in}
use Rattle.reg_world.proofs.lists.Bodies.{place_in, place_within, place_first}
use Rattle.reg_base.proofs.Orders.{Decides-below, below_trans, below_irrefl, same_stamp}
use Rattle.reg_world.proofs.one_order.NodeEvents.{put_same, put_other}
use Rattle.reg_world.proofs.one_order.Allowed.{calls_made}
use Rattle.reg_world.proofs.one_memory.Added.{cast_found, cast_finds}
use Rattle.reg_world.proofs.witness.Promised.{order_right, casts_right}
use Rattle.reg_world.proofs.witness.Premises.{is_run}
use Rattle.reg_world.proofs.code.Tallied.{at_or, OwnLater, fresh, casts_rise}
use Rattle.reg_world.proofs.run.Along.{one_more}
use Rattle.reg_world.proofs.one_order.NodeLaws.{deliveries_made}
use Rattle.reg_process.proofs.Deliver.{any_found}

same_bool : (a b : Bool) → (a ≡ true → b ≡ true) → (b ≡ true → a ≡ true) → a ≡ b
same_bool true b f g = sym (f refl)
same_bool false true f g = g refl
same_bool false false f g = refl

-- the calls of a step
pub calls_are : (start : Op → ℕ → Start) (s : State) (st : Step) → (step start s st).0.calls ≡ calls_after st s.calls
calls_are start s (Call op) = calls_made start s (Call op)
calls_are start s (Take a f) = calls_made start s (Take a f)
calls_are start s Tick = calls_made start s Tick

abbrev own : ℕ → Cast → Bool
own q c = c.id.process == q

notes_own : (p number : ℕ) (op : Op) (cast : Option Stamp)
    → map note_of (filter (own p) (cast_in (op_id p number) op cast)) ≡ note_in number cast
notes_own p number op None = refl
notes_own p number op (Some stamp) =
    let c : Cast = record { stamp = stamp; id = op_id p number; op = op } in
    ap (λ b. map note_of (cond b (c ∷ []) [])) (eq-eqb p p refl)

notes_step : (p number : ℕ) (st : Step) (cast : Option Stamp)
    → map note_of (filter (own p) (casts_in (op_id p number) st cast)) ≡ notes_in st number cast
notes_step p number (Call op) cast = notes_own p number op cast
notes_step p number (Take a f) cast = refl
notes_step p number Tick cast = refl

none_own : (q p number : ℕ) (op : Op) (cast : Option Stamp) → (q ≡ p → ⊥)
    → filter (own q) (cast_in (op_id p number) op cast) ≡ []
none_own q p number op None ne = refl
none_own q p number op (Some stamp) ne =
    let c : Cast = record { stamp = stamp; id = op_id p number; op = op } in
    cond_both (p == q) (c ∷ []) [] (λ l. l ≡ []) (λ e. absurd (ne (sym (eqb-true p q e)))) (λ e. refl)

none_step : (q p number : ℕ) (st : Step) (cast : Option Stamp) → (q ≡ p → ⊥)
    → filter (own q) (casts_in (op_id p number) st cast) ≡ []
none_step q p number (Call op) cast ne = none_own q p number op cast ne
none_step q p number (Take a f) cast ne = refl
none_step q p number Tick cast ne = refl

pub notes_grow : (p number : ℕ) (st : Step) (cast : Option Stamp) (casts : List Cast)
    → notes_of p (casts ++ casts_in (op_id p number) st cast) ≡ notes_of p casts ++ notes_in st number cast
notes_grow p number st cast casts =
    ap (map note_of) (filter_append (own p) casts (casts_in (op_id p number) st cast))
    ∙ (map-append note_of (filter (own p) casts) (filter (own p) (casts_in (op_id p number) st cast)) ∙ ap (λ l. notes_of p casts ++ l) (notes_step p number st cast))

pub notes_stay : (q p number : ℕ) (st : Step) (cast : Option Stamp) (casts : List Cast) → (q ≡ p → ⊥)
    → notes_of q (casts ++ casts_in (op_id p number) st cast) ≡ notes_of q casts
notes_stay q p number st cast casts ne =
    ap (map note_of) (filter_append (own q) casts (casts_in (op_id p number) st cast) ∙ (ap (λ l. filter (own q) casts ++ l) (none_step q p number st cast ne) ∙ append-nil (filter (own q) casts)))

-- the id of a stamp, by the notes of its process
pub id_by_notes : (casts : List Cast) (stamp : Stamp) → ((c : Cast) → In c casts → c.stamp.process ≡ c.id.process)
    → id_of casts stamp ≡ op_id stamp.process (number_at (notes_of stamp.process casts) stamp.time)
id_by_notes [] stamp own_stamps = refl
id_by_notes (c ∷ cs) stamp own_stamps =
    let rest = id_by_notes cs stamp (λ d i. own_stamps d (inr i)) in
    let same = own_stamps c (inl refl) in
    let notes = notes_of stamp.process cs in
    elim (cases_eq c.id.process stamp.process) [
      | inl e ↦
          let test : (c.stamp.process == stamp.process) ≡ true = eq-eqb c.stamp.process stamp.process (same ∙ e) in
          let kept : notes_of stamp.process (c ∷ cs) ≡ note_of c ∷ notes = ap (λ b. map note_of (cond b (c ∷ filter (own stamp.process) cs) (filter (own stamp.process) cs))) (eq-eqb c.id.process stamp.process e) in
          cond_both (c.stamp.time == stamp.time) c.id.number (number_at notes stamp.time) (λ z. cond ((c.stamp.time == stamp.time) && (c.stamp.process == stamp.process)) c.id (id_of cs stamp) ≡ op_id stamp.process z)
          (λ t. ap (λ b. cond b c.id (id_of cs stamp)) (and_from _ _ t test) ∙ (λ i. record { process = e i; number = c.id.number }))
          (λ t. ap (λ b. cond (b && (c.stamp.process == stamp.process)) c.id (id_of cs stamp)) t ∙ rest)
          ∙ ap (λ l. op_id stamp.process (number_at l stamp.time)) (sym kept)
      | inr ne ↦
          let kept : notes_of stamp.process (c ∷ cs) ≡ notes = cond_both (c.id.process == stamp.process) (c ∷ filter (own stamp.process) cs) (filter (own stamp.process) cs) (λ l. map note_of l ≡ notes) (λ t. absurd (ne (eqb-true c.id.process stamp.process t))) (λ t. refl) in
          cond_both ((c.stamp.time == stamp.time) && (c.stamp.process == stamp.process)) c.id (id_of cs stamp) (λ z. z ≡ op_id stamp.process (number_at notes stamp.time))
          (λ t. absurd (ne (sym same ∙ eqb-true c.stamp.process stamp.process (and_parts _ _ t).1)))
          (λ t. rest)
          ∙ ap (λ l. op_id stamp.process (number_at l stamp.time)) (sym kept)
    ]

module _ (start : Op → ℕ → Start) (n registers : ℕ) (laws : KeepsLaws start) (events : List Event) (e : Event) (p : ℕ) (st : Step) (move : move_of n registers (whole start n registers events) e ≡ Some (p, st)) where
  abbrev pub w : World
  w = whole start n registers events

  -- the world after the event, as the definition has it
  abbrev pub v : World
  v = moved start w e (Some (p, st))

  abbrev pub s : State
  s = (w.nodes p).state

  abbrev pub r : State × Outcome
  r = step start s st

  abbrev pub longer : List Event
  longer = events ++ e ∷ []

  pub next_is : whole start n registers longer ≡ v
  next_is = one_more start n registers events e ∙ ap (moved start w e) move

  pub node_here : v.nodes p ≡ after_step start (w.nodes p) st
  node_here = put_same w.nodes p (after_step start (w.nodes p) st) p refl

  pub node_there : (q : ℕ) → (q ≡ p → ⊥) → v.nodes q ≡ w.nodes q
  node_there q ne = put_other w.nodes p (after_step start (w.nodes p) st) q ne

  -- the tallies
  pub tally_here : tally_of v p ≡ tally_after (tally_of w p) st (is_some r.0.running) r.1.cast
  tally_here =
      let node : (v.nodes p).state ≡ r.0 = ap (λ (z : Node). z.state) node_here in
      λ i. record {
        calls = (ap (λ (z : State). z.calls) node ∙ calls_are start s st) i;
        runs = is_some (node i).running;
        casts = notes_grow p s.calls st r.1.cast w.casts i;
      }

  pub tally_there : (q : ℕ) → (q ≡ p → ⊥) → tally_of v q ≡ tally_of w q
  tally_there q ne =
      let node : (v.nodes q).state ≡ (w.nodes q).state = ap (λ (z : Node). z.state) (node_there q ne) in
      λ i. record { calls = (node i).calls; runs = is_some (node i).running; casts = notes_stay q p s.calls st r.1.cast w.casts ne i }

  module _ (tallies : List Tally) (T : AreTallies n w tallies) (l : p < n) where
    pub tally_is : tally_at tallies p ≡ tally_of w p
    tally_is = at_or tallies p (tally_of w p) no_calls (T.each p l)

    abbrev pub ts : List Tally
    ts = tallies_after tallies p st (is_some r.0.running) r.1.cast

    pub new_here : tally_after (tally_at tallies p) st (is_some r.0.running) r.1.cast ≡ tally_of v p
    new_here = ap (λ t. tally_after t st (is_some r.0.running) r.1.cast) tally_is ∙ sym tally_here

    pub tallies_now : AreTallies n v ts
    tallies_now = record {
      size = length-set tallies p (tally_after (tally_at tallies p) st (is_some r.0.running) r.1.cast) ∙ T.size;
      each = λ q lq. elim (cases_eq q p) [
        | inl same ↦
            subst (λ z. IsAt ts z (tally_of v z)) (sym same)
            (at_set_same tallies p (tally_after (tally_at tallies p) st (is_some r.0.running) r.1.cast) (let size = T.size in omega (arith, size, l)) ∙ ap Some new_here)
        | inr ne ↦ at_set_other tallies p q (tally_after (tally_at tallies p) st (is_some r.0.running) r.1.cast) ne ∙ (T.each q lq ∙ ap Some (sym (tally_there q ne)))
      ];
    }

    fresh_now : (c : Cast) → In c v.casts → c.id.number < (v.nodes c.id.process).state.calls
    fresh_now = subst (λ (z : World). (c : Cast) → In c z.casts → c.id.number < (z.nodes c.id.process).state.calls) next_is (fresh start n registers laws longer)

    rise_now : RisesBy OwnLater v.casts
    rise_now = subst (λ (z : World). RisesBy OwnLater z.casts) next_is (casts_rise start n registers laws longer)

    stamps_now : (c : Cast) → In c v.casts → c.stamp.process ≡ c.id.process
    stamps_now = subst (λ (z : World). (c : Cast) → In c z.casts → c.stamp.process ≡ c.id.process) next_is (λ c i. ((casts_right start n registers laws longer).made c (in_at c (whole start n registers longer).casts i)).1)

    later_now : (a b : Cast) → In a v.casts → In b v.casts → a.id.process ≡ b.id.process → a.id.number < b.id.number → Below a.stamp b.stamp
    later_now = subst (λ (z : World). (a b : Cast) → In a z.casts → In b z.casts → a.id.process ≡ b.id.process → a.id.number < b.id.number → Below a.stamp b.stamp) next_is
        (λ a b i j same less. (is_run start n registers laws longer).own_casts a b (in_at a (whole start n registers longer).casts i) (in_at b (whole start n registers longer).casts j) same less)

    -- the casts of a process
    own_rise : (q : ℕ) → RisesBy (λ (a b : Cast). (a.id.number < b.id.number) × (a.stamp.time < b.stamp.time)) (filter (own q) v.casts)
    own_rise q = weaken (filter (own q) v.casts) (rises_filter OwnLater (own q) v.casts rise_now) (λ c i. in_kept (own q) c v.casts i)
      where
        times : (a b : Stamp) → a.process ≡ b.process → Below a b → a.time < b.time
        times a b same h = grind arith

        weaken : (xs : List Cast) → RisesBy OwnLater xs → ((c : Cast) → In c xs → In c v.casts × (own q c ≡ true)) → RisesBy (λ (a b : Cast). (a.id.number < b.id.number) × (a.stamp.time < b.stamp.time)) xs
        weaken [] r h = tt
        weaken (x ∷ xs) r h = (
          λ y i.
              let hx = h x (inl refl) in
              let hy = h y (inr i) in
              let same : x.id.process ≡ y.id.process = eqb-true x.id.process q hx.1 ∙ sym (eqb-true y.id.process q hy.1) in
              let less = r.0 y i same in
              (less, times x.stamp y.stamp (stamps_now x hx.0 ∙ (same ∙ sym (stamps_now y hy.0))) (later_now x y hx.0 hy.0 same less)),
          weaken xs r.1 (λ c i. h c (inr i)),
        )

    notes_rise : (q : ℕ) → RisesBy (λ (a b : Note). (a.number < b.number) × (a.time < b.time)) (notes_of q v.casts)
    notes_rise q = rises_map (λ (a b : Cast). (a.id.number < b.id.number) × (a.stamp.time < b.stamp.time)) (λ (a b : Note). (a.number < b.number) × (a.time < b.time)) note_of (filter (own q) v.casts) (own_rise q) (λ a b i j h. h)

    pub times_differ : (q : ℕ) (t : Tally) → IsAt ts q t → TimesDiffer t.casts
    times_differ q t at =
        let lq : q < n = (let z = place_within ts q t at in let size = tallies_now.size in omega (arith, z, size)) in
        let same : t ≡ tally_of v q = same_Some t (tally_of v q) (sym at ∙ tallies_now.each q lq) in
        subst (λ (z : Tally). TimesDiffer z.casts) (sym same) (differ (notes_of q v.casts) (notes_rise q))
      where
        differ : (xs : List Note) → RisesBy (λ (a b : Note). (a.number < b.number) × (a.time < b.time)) xs → TimesDiffer xs
        differ xs up i j a b at1 at2 e = elim (cases_order i j) [
          | inl q ↦ q
          | inr q ↦ elim q [
            | inl h ↦ let z = rises_at (λ (a b : Note). (a.number < b.number) × (a.time < b.time)) xs i j a b up at1 at2 h in absurd (let t = z.1 in omega (arith, t, e))
            | inr h ↦ let z = rises_at (λ (a b : Note). (a.number < b.number) × (a.time < b.time)) xs j i b a up at2 at1 h in absurd (let t = z.1 in omega (arith, t, e))
          ]
        ]

    -- the reads
    last_number : has_cast v.casts (op_id p (r.0.calls - 1)) ≡ last_casts (tally_of v p)
    last_number = same_bool (has_cast v.casts (op_id p (r.0.calls - 1))) (last_casts (tally_of v p)) to from
      where
        xs : List Note
        xs = notes_of p v.casts

        count : (tally_of v p).calls ≡ r.0.calls
        count = ap (λ (z : Node). z.state.calls) node_here

        element : (ys : List Note) (k : ℕ) → k < length ys → (y : Note) × IsAt ys k y
        element [] k h = absurd (omega arith)
        element (y ∷ ys) zero h = (y, refl)
        element (y ∷ ys) (suc k) h = element ys k (omega arith)

        cast_of_note : (note : Note) → In note (notes_of p v.casts) → (c : Cast) × In c v.casts × (c.id.process ≡ p) × (c.id.number ≡ note.number)
        cast_of_note note i =
            let m = map_in note_of note (filter (own p) v.casts) i in
            let f = in_kept (own p) m.0 v.casts m.1 in
            (m.0, f.0, eqb-true m.0.id.process p f.1, ap (λ (z : Note). z.number) (sym m.2))

        to : has_cast v.casts (op_id p (r.0.calls - 1)) ≡ true → last_casts (tally_of v p) ≡ true
        to h =
            let c = cast_found v.casts (op_id p (r.0.calls - 1)) h in
            let process : c.0.id.process ≡ p = ap (λ (z : OpId). z.process) c.2 in
            let number : c.0.id.number ≡ r.0.calls - 1 = ap (λ (z : OpId). z.number) c.2 in
            let i = in_map note_of c.0 (filter (own p) v.casts) (kept_in (own p) c.0 v.casts c.1 (eq-eqb c.0.id.process p process)) in
            let place = in_at (note_of c.0) (notes_of p v.casts) i in
            let here = place_within (notes_of p v.casts) place.0 (note_of c.0) place.1 in
            let last = element (notes_of p v.casts) (length (notes_of p v.casts) - 1) (omega (arith, here)) in
            let at_least : c.0.id.number ≤ last.0.number = elim (cases_order place.0 (length (notes_of p v.casts) - 1)) [
              | inl q ↦ (let same : note_of c.0 ≡ last.0 = same_Some (note_of c.0) last.0 (sym (subst (λ k. slice_get (notes_of p v.casts) k ≡ Some (note_of c.0)) q place.1) ∙ last.1) in let z = ap (λ (y : Note). y.number) same in omega (arith, z))
              | inr q ↦ elim q [
                | inl less ↦ (let z = (rises_at (λ (a b : Note). (a.number < b.number) × (a.time < b.time)) (notes_of p v.casts) place.0 (length (notes_of p v.casts) - 1) (note_of c.0) last.0 (notes_rise p) place.1 last.1 less).0 in omega (arith, z))
                | inr more ↦ absurd (omega (arith, here, more))
              ]
            ] in
            let d = cast_of_note last.0 (place_in (notes_of p v.casts) (length (notes_of p v.casts) - 1) last.0 last.1) in
            let bound : d.0.id.number < (v.nodes p).state.calls = subst (λ q. d.0.id.number < (v.nodes q).state.calls) d.2 (fresh_now d.0 d.1) in
            let same : last.0.number ≡ (tally_of v p).calls - 1 = (let a = at_least in let b = bound in let k = d.3 in let m = count in let o = number in omega (arith, a, b, k, m, o)) in
            ap (λ z. is_number z ((tally_of v p).calls - 1)) last.1 ∙ eq-eqb last.0.number ((tally_of v p).calls - 1) same

        from : last_casts (tally_of v p) ≡ true → has_cast v.casts (op_id p (r.0.calls - 1)) ≡ true
        from h = go (slice_get (notes_of p v.casts) (length (notes_of p v.casts) - 1)) refl h
          where
            go : (o : Option Note) → slice_get (notes_of p v.casts) (length (notes_of p v.casts) - 1) ≡ o → is_number o ((tally_of v p).calls - 1) ≡ true → has_cast v.casts (op_id p (r.0.calls - 1)) ≡ true
            go None at e = absurd (let bad : ⊥ = cc in bad)
            go (Some note) at e =
                let d = cast_of_note note (place_in (notes_of p v.casts) (length (notes_of p v.casts) - 1) note at) in
                let number : d.0.id.number ≡ r.0.calls - 1 = d.3 ∙ (eqb-true note.number ((tally_of v p).calls - 1) e ∙ ap (λ k. k - 1) count) in
                cast_finds v.casts (op_id p (r.0.calls - 1)) d.0 d.1 (λ i. record { process = d.2 i; number = number i })

    pub reads_now : (reply : Option Reply) → reads_in v.casts (op_id p (r.0.calls - 1)) reply ≡ read_in (tally_after (tally_at tallies p) st (is_some r.0.running) r.1.cast) p reply
    reads_now None = refl
    reads_now (Some y) =
        let t = tally_after (tally_at tallies p) st (is_some r.0.running) r.1.cast in
        let id0 = op_id p (r.0.calls - 1) in
        let same : t ≡ tally_of v p = new_here in
        let count : t.calls ≡ r.0.calls = ap (λ (z : Tally). z.calls) same ∙ ap (λ (z : Node). z.state.calls) node_here in
        let test : has_cast v.casts id0 ≡ last_casts t = last_number ∙ ap last_casts (sym same) in
        ap (λ b. cond b [] (record { id = id0; place = y.place } ∷ [])) test
        ∙ (turned (last_casts t) (record { id = id0; place = y.place }) ∙ ap (λ k. cond (not (last_casts t)) (record { id = op_id p (k - 1); place = y.place } ∷ []) []) (sym count))
      where
        turned : (b : Bool) (q : CopyRead) → cond b [] (q ∷ []) ≡ cond (not b) (q ∷ []) []
        turned true q = refl
        turned false q = refl

    -- the first deliveries
    abbrev known_casts : List Delivered
    known_casts = map delivered_of w.order

    abbrev is_new : Delivered → Bool
    is_new c = not (list_any (λ (d : Delivered). (d.stamp.time == c.stamp.time) && (d.stamp.process == c.stamp.process)) known_casts)

    pub casters_now : (d : Delivered) → In d r.1.delivered → d.stamp.process < n
    casters_now d i =
        let there : In d (v.nodes p).deliveries = subst (λ (z : Node). In d z.deliveries) (sym node_here) (in_right d (w.nodes p).deliveries r.1.delivered i) in
        (subst (λ (z : World). (d : Delivered) → In d (z.nodes p).deliveries → d.stamp.process < n) next_is (λ d j. (deliveries_made start n registers longer p d l j).0) d there)

    rising_now : (i j : ℕ) (a b : First) → IsAt v.order i a → IsAt v.order j b → i < j → Below a.stamp b.stamp
    rising_now = subst (λ (z : World). (i j : ℕ) (a b : First) → IsAt z.order i a → IsAt z.order j b → i < j → Below a.stamp b.stamp) next_is (order_right start n registers laws longer).rising

    rising_old : (i j : ℕ) (a b : First) → IsAt w.order i a → IsAt w.order j b → i < j → Below a.stamp b.stamp
    rising_old = (order_right start n registers laws events).rising

    at_append : {X : Type 0} (xs ys : List X) (j : ℕ) (y : X) → IsAt ys j y → IsAt (xs ++ ys) (length xs + j) y
    at_append [] ys j y h = (let e : 0 + j ≡ j = omega arith in ap (slice_get ys) e) ∙ h
    at_append (x ∷ xs) ys j y h = (let e : suc (length xs) + j ≡ suc (length xs + j) = omega arith in ap (slice_get (x ∷ (xs ++ ys))) e) ∙ at_append xs ys j y h

    new_after : (c : Delivered) → In c r.1.delivered → is_new c ≡ true → is_after (last_stamp w.order) c.stamp ≡ true
    new_after c i e = go (slice_get w.order (length w.order - 1)) refl
      where
        go : (o : Option First) → slice_get w.order (length w.order - 1) ≡ o → is_after (stamp_in o) c.stamp ≡ true
        go None at = refl
        go (Some f) at =
            let there = in_map (first_of v.casts (length w.accepted)) c (unseen known_casts r.1.delivered) (kept_in is_new c r.1.delivered i e) in
            let place = in_at (first_of v.casts (length w.accepted) c) (map (first_of v.casts (length w.accepted)) (unseen known_casts r.1.delivered)) there in
            let here = place_within w.order (length w.order - 1) f at in
            let b = rising_now (length w.order - 1) (length w.order + place.0) f (first_of v.casts (length w.accepted) c) (place_first w.order (map (first_of v.casts (length w.accepted)) (unseen known_casts r.1.delivered)) (length w.order - 1) f at)
            (at_append w.order (map (first_of v.casts (length w.accepted)) (unseen known_casts r.1.delivered)) place.0 (first_of v.casts (length w.accepted) c) place.1) (omega (arith, here)) in
            (Decides-below f.stamp c.stamp).1 b

    after_new : (c : Delivered) → is_after (last_stamp w.order) c.stamp ≡ true → is_new c ≡ true
    after_new c e = not_true (list_any (λ (d : Delivered). (d.stamp.time == c.stamp.time) && (d.stamp.process == c.stamp.process)) known_casts) seen
      where
        not_true : (b : Bool) → (b ≡ true → ⊥) → not b ≡ true
        not_true true h = absurd (h refl)
        not_true false h = refl

        seen : list_any (λ (d : Delivered). (d.stamp.time == c.stamp.time) && (d.stamp.process == c.stamp.process)) known_casts ≡ true → ⊥
        seen h =
            let f = any_found (λ (d : Delivered). (d.stamp.time == c.stamp.time) && (d.stamp.process == c.stamp.process)) known_casts h in
            let parts = and_parts (f.0.stamp.time == c.stamp.time) (f.0.stamp.process == c.stamp.process) f.2 in
            let stamps : f.0.stamp ≡ c.stamp = same_stamp f.0.stamp c.stamp (eqb-true _ _ parts.0) (eqb-true _ _ parts.1) in
            let m = map_in delivered_of f.0 w.order f.1 in
            let first_stamp : m.0.stamp ≡ c.stamp = ap (λ (z : Delivered). z.stamp) (sym m.2) ∙ stamps in
            let place = in_at m.0 w.order m.1 in
            let here = place_within w.order place.0 m.0 place.1 in
            let last = element w.order (length w.order - 1) (omega (arith, here)) in
            let test : below last.0.stamp c.stamp ≡ true = sym (ap (λ o. is_after (stamp_in o) c.stamp) last.1) ∙ e in
            let b : Below last.0.stamp c.stamp = (Decides-below last.0.stamp c.stamp).0 test in
            elim (cases_order place.0 (length w.order - 1)) [
              | inl q ↦
                  let same : m.0 ≡ last.0 = same_Some m.0 last.0 (sym (subst (λ k. slice_get w.order k ≡ Some m.0) q place.1) ∙ last.1) in
                  below_irrefl c.stamp (subst (λ z. Below z c.stamp) (sym (ap (λ (z : First). z.stamp) same) ∙ first_stamp) b)
              | inr q ↦ elim q [
                | inl less ↦
                    let up : Below m.0.stamp last.0.stamp = rising_old place.0 (length w.order - 1) m.0 last.0 place.1 last.1 less in
                    below_irrefl c.stamp (below_trans c.stamp last.0.stamp c.stamp (subst (λ z. Below z last.0.stamp) first_stamp up) b)
                | inr more ↦ absurd (omega (arith, here, more))
              ]
            ]
          where
            element : (ys : List First) (k : ℕ) → k < length ys → (y : First) × IsAt ys k y
            element [] k h = absurd (omega arith)
            element (y ∷ ys) zero h = (y, refl)
            element (y ∷ ys) (suc k) h = element ys k (omega arith)

    pub firsts_now : map (first_of v.casts (length w.accepted)) (unseen known_casts r.1.delivered) ≡ firsts_in ts (length w.accepted) (last_stamp w.order) r.1.delivered
    firsts_now =
        let after = λ (d : Delivered). is_after (last_stamp w.order) d.stamp in
        let same : unseen known_casts r.1.delivered ≡ filter after r.1.delivered = filter_same is_new after r.1.delivered (λ c i. same_bool (is_new c) (after c) (new_after c i) (after_new c)) in
        ap (map (first_of v.casts (length w.accepted))) same
        ∙ map_same (first_of v.casts (length w.accepted)) (first_in ts (length w.accepted)) (filter after r.1.delivered) (λ d i.
        let process : d.stamp.process < n = casters_now d (in_kept after d r.1.delivered i).0 in
        let id : id_of v.casts d.stamp ≡ op_id d.stamp.process (number_at (tally_at ts d.stamp.process).casts d.stamp.time) =
        id_by_notes v.casts d.stamp stamps_now ∙ ap (λ (t : Tally). op_id d.stamp.process (number_at t.casts d.stamp.time)) (sym (at_or ts d.stamp.process (tally_of v d.stamp.process) no_calls (tallies_now.each d.stamp.process process))) in
        λ k. record { stamp = d.stamp; id = id k; op = d.op; at = length w.accepted })
