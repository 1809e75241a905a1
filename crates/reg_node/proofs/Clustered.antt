-- What holds of all nodes of a cluster, whatever happened: an order of all their entries is supported.
use Rattle.std.proofs.Common.{◌≡◌, ◌⊎◌, inl, inr, ℕ, zero, suc, ◌+◌, ◌<◌, ◌≤◌, List, [], ◌∷◌, length, min, Option, Some}
use Rattle.std.proofs.Common.{None, refl, ap, sym, ◌∙◌, subst, arith}
use Rattle.std.specs.Prelude.{option_and_then, slice_get, slice_set}
use Rattle.std.specs.List.{sum_by}
use Rattle.std.specs.Option.{option_map}
use Rattle.std.proofs.lemmas.Bool.{cases_eq}
use Rattle.std.proofs.lemmas.List.{length-set}
use Rattle.std.proofs.lemmas.Option.{none-some, same_Some, slice_get_past, slice_get_within, slice_get-map}
use Rattle.reg_base.specs.declared.limits.TheConstants.{MOST_EVENTS}
use Rattle.reg_base.specs.declared.memory.Op.{Op}
use Rattle.reg_base.specs.Order.{In}
use Rattle.reg_base.specs.Shape.{Extent}
use Rattle.reg_frames.specs.declared.puts.Put.{Put}
use Rattle.reg_front.specs.declared.starts.Start.{Start}
use Rattle.reg_process.specs.declared.steps.Step.{Step}
use Rattle.reg_process.specs.declared.steps.Step.TheVariants.{Call, Take, Tick}
use Rattle.reg_process.specs.Puts.{put_to}
use Rattle.reg_world.specs.Nodes.{put}
use Rattle.reg_world.proofs.lists.Bodies.{place_in}
use Rattle.reg_world.proofs.one_order.NodeEvents.{put_same, put_other}
use Rattle.reg_records.specs.declared.entries.LogEntry.{LogEntry}
use Rattle.reg_records.specs.Merges.{HasOrder}
use Rattle.reg_records.specs.Records.{NothingLeft, entry_of, mentions}
use Rattle.reg_node.specs.Logs.{Outgoing, AreSteps, first_state, outputs_of}
use Rattle.reg_node.specs.Nodes.{Past}
use Rattle.reg_node.specs.Clusters.{Member, Comes, HappensTo, IsNewCluster, Happened, logs_of}
use Rattle.reg_node.proofs.Changes.{Works, Changed, share, log_changed, refuse_changed, mark_changed, hand_changed}
use Rattle.reg_node.proofs.Changes.{crash_changed, new_works}
use Rattle.reg_node.proofs.Running.{forwards, mentions_forwards, supported_runs}
use Rattle.reg_node.proofs.Supported.{Share, AreSupported, IsBacked, IsKept, keep_first, mention_yes, mention_no}
use Rattle.reg_node.proofs.Supported.{mentions_kept, supported_kept}
use Rattle.reg_node.proofs.Totals.{order_length}

got_set_same : {X : Type 0} (xs : List X) (p : ℕ) (x y : X) → slice_get xs p ≡ Some y
    → slice_get (slice_set xs p x) p ≡ Some x
got_set_same [] p x y h = absurd (let bad : ⊥ = cc in bad)
got_set_same (z ∷ xs) zero x y h = refl
got_set_same (z ∷ xs) (suc p) x y h = got_set_same xs p x y h

got_set_other : {X : Type 0} (xs : List X) (p q : ℕ) (x : X) → (q ≡ p → ⊥)
    → slice_get (slice_set xs p x) q ≡ slice_get xs q
got_set_other [] p q x other = refl
got_set_other (z ∷ xs) zero zero x other = absurd (other refl)
got_set_other (z ∷ xs) zero (suc q) x other = refl
got_set_other (z ∷ xs) (suc p) zero x other = refl
got_set_other (z ∷ xs) (suc p) (suc q) x other = got_set_other xs p q x (λ e. other (ap suc e))

module _ (start : Op → ℕ → Start) (shape : Extent) where
  -- the share of the process p; there is none where there is no such process
  abbrev share_from : ℕ → Option Member → Share
  share_from p None = record { log = []; outputs = []; durable = 0 }
  share_from p (Some m) = share start (first_state shape p) m

  abbrev share_of : List Member → ℕ → Share
  share_of cluster p = share_from p (slice_get cluster p)

  share_is : (cluster : List Member) (p : ℕ) (m : Member) → slice_get cluster p ≡ Some m → share_of cluster p ≡ share start (first_state shape p) m
  share_is cluster p m at = ap (share_from p) at

  record Stays (cluster : List Member) : Type 0 where
    count : length cluster ≡ shape.processes
    each : (p : ℕ) (m : Member) → slice_get cluster p ≡ Some m → Works start (first_state shape p) m
    order : List ℕ
    supported : AreSupported shape.processes (share_of cluster) order
    all : (p : ℕ) (m : Member) → slice_get cluster p ≡ Some m → mentions p order ≡ length m.past.log

  share_kept : (p : ℕ) (o : Option Member) → ((m : Member) → o ≡ Some m → Works start (first_state shape p) m) → IsKept (length (share_from p o).log) (share_from p o) (share_from p o)
  share_kept p None works = record { entries = λ k e lt at. at; outputs = λ k o lt at. at; safe = λ k o x lt at f. omega (arith, lt); durable = omega arith }
  share_kept p (Some m) works =
      let lives = (works m refl).lives in
      record {
        entries = λ k e lt at. at;
        outputs = λ k o lt at. at;
        safe = λ k o x lt at f. let a = lives.within in let b = lives.logged in omega (arith, lt, a, b);
        durable = omega arith;
      }

  -- Something happened to the process p.
  module _ (cluster : List Member) (stays : Stays cluster) (p : ℕ) (was : Member) (at : slice_get cluster p ≡ Some was) (now : Member) (many : ℕ) (c : Changed start (first_state shape p) many was now) where
    abbrev next : List Member
    next = slice_set cluster p now

    abbrev kept : ℕ → ℕ
    kept = put (λ (q : ℕ). length (share_of cluster q).log) p many

    is_kept : (q : ℕ) → IsKept (kept q) (share_of cluster q) (share_of next q)
    is_kept q = by (cases_eq q p)
      where
        here : IsKept many (share_of cluster p) (share_of next p)
        here =
            subst (λ (s : Share). IsKept many s (share_of next p)) (sym (share_is cluster p was at))
            (subst (λ (s : Share). IsKept many (share start (first_state shape p) was) s) (sym (share_is next p now (got_set_same cluster p now was at))) c.is)

        by : (q ≡ p) ⊎ (q ≡ p → ⊥) → IsKept (kept q) (share_of cluster q) (share_of next q)
        by (inl e) =
            subst (λ (k : ℕ). IsKept k (share_of cluster q) (share_of next q)) (sym (put_same (λ (r : ℕ). length (share_of cluster r).log) p many q e))
            (subst (λ (r : ℕ). IsKept many (share_of cluster r) (share_of next r)) (sym e) here)
        by (inr other) =
            subst (λ (k : ℕ). IsKept k (share_of cluster q) (share_of next q)) (sym (put_other (λ (r : ℕ). length (share_of cluster r).log) p many q other))
            (subst (λ (s : Share). IsKept (length (share_of cluster q).log) (share_of cluster q) s) (sym (ap (share_from q) (got_set_other cluster p q now other)))
            (share_kept q (slice_get cluster q) (stays.each q)))

    left : List ℕ
    left = keep_first kept stays.order

    left_supported : AreSupported shape.processes (share_of next) left
    unfolding left
    left_supported = supported_kept kept (share_of cluster) (share_of next) is_kept shape.processes stays.order stays.supported

    left_are : (q : ℕ) → mentions q left ≡ min (kept q) (mentions q stays.order)
    unfolding left
    left_are q = mentions_kept kept q stays.order

    left_here : mentions p left ≡ min many (length was.past.log)
    left_here =
        left_are p
        ∙ (ap (λ (k : ℕ). min k (mentions p stays.order)) (put_same (λ (r : ℕ). length (share_of cluster r).log) p many p refl)
        ∙ ap (min many) (stays.all p was at))

    left_other : (q : ℕ) (m : Member) → (q ≡ p → ⊥) → slice_get next q ≡ Some m → mentions q left ≡ length m.past.log
    left_other q m other there =
        let same : slice_get cluster q ≡ Some m = sym (got_set_other cluster p q now other) ∙ there in
        let few : kept q ≡ length m.past.log = put_other (λ (r : ℕ). length (share_of cluster r).log) p many q other ∙ ap (λ (s : Share). length s.log) (share_is cluster q m same) in
        let are = left_are q in
        let all = stays.all q m same in
        omega (arith, few, are, all)

    next_count : length next ≡ shape.processes
    next_count = length-set cluster p now ∙ stays.count

    next_here : (m : Member) → slice_get next p ≡ Some m → now ≡ m
    next_here m there = same_Some now m (sym (got_set_same cluster p now was at) ∙ there)

    next_each : (q : ℕ) (m : Member) → slice_get next q ≡ Some m → Works start (first_state shape q) m
    next_each q m there = by (cases_eq q p)
      where
        by : (q ≡ p) ⊎ (q ≡ p → ⊥) → Works start (first_state shape q) m
        by (inl e) =
            let is : now ≡ m = next_here m (subst (λ (r : ℕ). slice_get next r ≡ Some m) e there) in
            subst (λ (r : ℕ). Works start (first_state shape r) m) (sym e) (subst (λ (x : Member). Works start (first_state shape p) x) is c.works)
        by (inr other) = stays.each q m (sym (got_set_other cluster p q now other) ∙ there)

    -- no entry was added
    stays_same : length now.past.log ≡ min many (length was.past.log) → Stays next
    stays_same same = record {
      count = next_count;
      each = next_each;
      order = left;
      supported = left_supported;
      all = λ q m there. by q m there (cases_eq q p);
    }
      where
        by : (q : ℕ) (m : Member) → slice_get next q ≡ Some m → (q ≡ p) ⊎ (q ≡ p → ⊥) → mentions q left ≡ length m.past.log
        by q m there (inl e) =
            let is : now ≡ m = next_here m (subst (λ (r : ℕ). slice_get next r ≡ Some m) e there) in
            ap (λ (r : ℕ). mentions r left) e ∙ (left_here ∙ (sym same ∙ ap (λ (x : Member). length x.past.log) is))
        by q m there (inr other) = left_other q m other there

    -- an entry was added behind all
    stays_more : (entry : LogEntry) → length was.past.log ≡ many → length now.past.log ≡ length was.past.log + 1 → slice_get now.past.log (length was.past.log) ≡ Some entry → IsBacked (share_of next) left p entry.step → Stays next
    stays_more entry whole longer stands backed = record {
      count = next_count;
      each = next_each;
      order = p ∷ left;
      supported = (within, record { entry = entry; at = there; backed = backed }, left_supported);
      all = λ q m at_next. by q m at_next (cases_eq q p);
    }
      where
        within : p < shape.processes
        within = let a = slice_get_within cluster p was at in let b = stays.count in omega (arith, a, b)

        all_here : mentions p left ≡ length was.past.log
        all_here = let a = left_here in omega (arith, a, whole)

        there : slice_get (share_of next p).log (mentions p left) ≡ Some entry
        there =
            ap (λ (s : Share). slice_get s.log (mentions p left)) (share_is next p now (got_set_same cluster p now was at))
            ∙ (ap (slice_get now.past.log) all_here ∙ stands)

        by : (q : ℕ) (m : Member) → slice_get next q ≡ Some m → (q ≡ p) ⊎ (q ≡ p → ⊥) → mentions q (p ∷ left) ≡ length m.past.log
        by q m at_next (inl e) =
            let is : now ≡ m = next_here m (subst (λ (r : ℕ). slice_get next r ≡ Some m) e at_next) in
            let more = mention_yes q p left (sym e) in
            let old : mentions q left ≡ length was.past.log = ap (λ (r : ℕ). mentions r left) e ∙ all_here in
            let long : length m.past.log ≡ length now.past.log = ap (λ (x : Member). length x.past.log) (sym is) in
            omega (arith, more, old, long, longer)
        by q m at_next (inr other) = mention_no q p left (λ e. other (sym e)) ∙ left_other q m other at_next

    -- a step that comes is backed: its frame went out of a durable entry
    comes_backed : (e : Step) → Comes cluster p e → length was.past.log ≡ many → IsBacked (share_of next) left p e
    comes_backed (Call op) comes whole = tt
    comes_backed (Take from frame) comes whole =
        let sender = comes.sender in
        let works = stays.each from sender comes.stands in
        let safe = works.handed comes.output (put_to p frame) comes.handed comes.put in
        let share_there = share_is cluster from sender comes.stands in
        let stands : slice_get (share_of cluster from).outputs safe.place ≡ Some comes.output = ap (λ (s : Share). slice_get s.outputs safe.place) share_there ∙ safe.stands in
        let durable : (share_of cluster from).durable ≡ sender.node.durable = ap (λ (s : Share). s.durable) share_there in
        let kept_there = is_kept from in
        let low = safe.safe in
        let k = kept_there.safe safe.place comes.output (put_to p frame) (omega (arith, low, durable)) stands comes.put in
        let d = kept_there.durable in
        let all = stays.all from sender comes.stands in
        let are = left_are from in
        let logged = works.lives.logged in
        let within = works.lives.within in
        record {
          place = safe.place;
          output = comes.output;
          stands = kept_there.outputs safe.place comes.output k stands;
          older = omega (arith, low, k, all, are, logged, within);
          safe = omega (arith, low, durable, k, d);
          put = comes.put;
        }
    comes_backed Tick comes whole = tt

  new_stays : (cluster : List Member) → IsNewCluster start shape cluster → Stays cluster
  new_stays cluster is = record {
    count = is.count;
    each = λ p m at. new_works start (first_state shape p) m (is.each p m at);
    order = [];
    supported = tt;
    all = λ p m at. ap (λ (past : Past). length past.log) (sym (is.each p m at).past);
  }

  module _ (cluster : List Member) (stays : Stays cluster) (p : ℕ) (was now : Member) (at : slice_get cluster p ≡ Some was) where
    works : Works start (first_state shape p) was
    works = stays.each p was at

    happens_stays : HappensTo start shape cluster p was now → Stays (slice_set cluster p now)
    happens_stays (inl l) =
        let c = log_changed start (first_state shape p) cluster p was now l works in
        let n = length was.past.log in
        let same : l.step ≡ l.entry.step = ap (λ (x : LogEntry). x.step) (sym l.logs.written) in
        stays_more cluster stays p was at now n c.0 l.entry refl c.1 c.2
        (subst (λ (e : Step). IsBacked (share_of (slice_set cluster p now)) (left cluster stays p was at now n c.0) p e) same (comes_backed cluster stays p was at now n c.0 l.step l.comes refl))
    happens_stays (inr (inl r)) = let c = refuse_changed start (first_state shape p) was now r works in stays_same cluster stays p was at now c.0 c.1 c.2
    happens_stays (inr (inr (inl m))) = let c = mark_changed start (first_state shape p) was now m works in stays_same cluster stays p was at now c.0 c.1 c.2
    happens_stays (inr (inr (inr (inl h)))) = let c = hand_changed start (first_state shape p) was now h works in stays_same cluster stays p was at now c.0 c.1 c.2
    happens_stays (inr (inr (inr (inr k)))) = let c = crash_changed start (first_state shape p) was now k works in stays_same cluster stays p was at now c.0 c.1 c.2

  happened_stays : (k : ℕ) (cluster : List Member) → Happened start shape k cluster → Stays cluster
  happened_stays zero cluster is = new_stays cluster is
  happened_stays (suc k) cluster (before, past, h) =
      subst (λ (xs : List Member). Stays xs) (sym h.rest) (happens_stays before (happened_stays k before past) h.process h.was h.becomes h.stands h.happens)

  module _ (cluster : List Member) (stays : Stays cluster) where
    option_is : (p k : ℕ) → entry_of (logs_of cluster) p k ≡ option_and_then (λ (log : List LogEntry). slice_get log k) (option_map (λ (m : Member). m.past.log) (slice_get cluster p))
    option_is p k = ap (option_and_then (λ (log : List LogEntry). slice_get log k)) (slice_get-map (λ (m : Member). m.past.log) cluster p)

    entry_is : (p k : ℕ) (m : Member) → slice_get cluster p ≡ Some m → entry_of (logs_of cluster) p k ≡ slice_get m.past.log k
    entry_is p k m is = option_is p k ∙ ap (λ (o : Option Member). option_and_then (λ (log : List LogEntry). slice_get log k) (option_map (λ (x : Member). x.past.log) o)) is

    entries_are : (p k : ℕ) (e : LogEntry) → slice_get (share_of cluster p).log k ≡ Some e → entry_of (logs_of cluster) p k ≡ Some e
    entries_are p k e = by (slice_get cluster p) refl
      where
        by : (o : Option Member) → slice_get cluster p ≡ o → slice_get (share_from p o).log k ≡ Some e → entry_of (logs_of cluster) p k ≡ Some e
        by None is h = absurd (none-some e h)
        by (Some m) is h = entry_is p k m is ∙ h

    none_left : NothingLeft (forwards stays.order) (logs_of cluster)
    none_left p lt = by (slice_get cluster p) refl
      where
        by : (o : Option Member) → slice_get cluster p ≡ o → entry_of (logs_of cluster) p (mentions p (forwards stays.order)) ≡ None
        by None is = option_is p (mentions p (forwards stays.order)) ∙ ap (λ (o : Option Member). option_and_then (λ (log : List LogEntry). slice_get log (mentions p (forwards stays.order))) (option_map (λ (x : Member). x.past.log) o)) is
        by (Some m) is =
            let all = stays.all p m is in
            let same = mentions_forwards p stays.order in
            entry_is p (mentions p (forwards stays.order)) m is ∙ slice_get_past m.past.log (mentions p (forwards stays.order)) (omega (arith, all, same))

    outputs_from : (p : ℕ) (o : Option Member) → (share_from p o).outputs ≡ outputs_of start (first_state shape p) (share_from p o).log
    outputs_from p None = refl
    outputs_from p (Some m) = refl

    steps_from : (p : ℕ) (o : Option Member) → ((m : Member) → o ≡ Some m → Works start (first_state shape p) m) → AreSteps start (first_state shape p) (share_from p o).log
    steps_from p None each = tt
    steps_from p (Some m) each = (each m refl).lives.steps

    has_order : sum_by length (logs_of cluster) ≤ MOST_EVENTS → HasOrder start shape (logs_of cluster)
    has_order few =
        let long = order_length (λ (m : Member). m.past.log) cluster shape.processes (share_of cluster) stays.order stays.count stays.supported stays.all in
        let runs = supported_runs start shape (logs_of cluster) (share_of cluster) entries_are (λ p. outputs_from p (slice_get cluster p)) (λ p. steps_from p (slice_get cluster p) (stays.each p)) stays.order stays.supported (omega (arith, long, few)) in
        (forwards stays.order, runs.0, record { plays = runs.1; all = none_left })

  pub one_run : (k : ℕ) (cluster : List Member) → Happened start shape k cluster
      → sum_by length (logs_of cluster) ≤ MOST_EVENTS → HasOrder start shape (logs_of cluster)
  one_run k cluster happened few = has_order cluster (happened_stays k cluster happened) few

  pub handed_stays : (k : ℕ) (cluster : List Member) → Happened start shape k cluster
      → (p : ℕ) (m : Member) (o : Outgoing) (x : Put) → slice_get cluster p ≡ Some m → In o m.handed → In x o.frames
      → In o (outputs_of start (first_state shape p) m.past.log)
  handed_stays k cluster happened p m o x at h f =
      let safe = ((happened_stays k cluster happened).each p m at).handed o x h f in
      place_in (outputs_of start (first_state shape p) m.past.log) safe.place o safe.stands
