-- A serial order of a history is within the limits of a report, and so is a point order at events that a run may have.
use Rattle.std.proofs.Common.{◌≡◌, ℕ, zero, suc, ◌+◌, ◌*◌, ◌<◌, ◌≤◌, ◌⊎◌, inl, inr, Bool, true, false, ◌||◌, List, []}
use Rattle.std.proofs.Common.{◌∷◌, map, take, length, Option, Some, None, get_or, refl, ap, sym, ◌∙◌, subst, arith}
use Rattle.std.specs.List.{list_any}
use Rattle.std.proofs.Math.Dec.{eqb}
use Rattle.std.proofs.lemmas.Bool.{cases_order, cases_eq, ne_eqb}
use Rattle.std.proofs.lemmas.Option.{same_Some, slice_get-get_or}
use Rattle.std.proofs.lemmas.List.{length-map}
use Rattle.std.proofs.lemmas.Map.Keys.{IsDistinct-from_apart}
use Rattle.std.proofs.lemmas.Map.Steps.{length-le_from_distinct_below}
use Rattle.reg_base.specs.declared.limits.TheConstants.{MOST_PROCESSES, LAST_EVENT}
use Rattle.reg_base.specs.declared.memory.Op.{Op}
use Rattle.reg_base.specs.declared.memory.OpId.{OpId}
use Rattle.reg_front.specs.declared.named.Front.{Front}
use Rattle.reg_front.specs.declared.named.Front.TheVariants.{Linear, LocalRead, LocalWrite}
use Rattle.reg_front.specs.Table.{front_name}
use Rattle.reg_checkers.specs.declared.entries.Entry.{Entry}
use Rattle.reg_checkers.specs.declared.entries.Entry.TheVariants.{Called, Answered}
use Rattle.reg_checkers.specs.declared.entries.Point.{Point}
use Rattle.reg_history.specs.declared.report_faults.ReportFault.{ReportFault}
use Rattle.reg_history.specs.declared.report_faults.ReportFault.TheVariants.{Front as FrontFault, Names as NamesFault}
use Rattle.reg_history.specs.declared.report_faults.ReportFault.TheVariants.{Range as RangeFault}
use Rattle.reg_history.specs.declared.report_limits.TheConstants.{MOST_ENTRIES, MOST_IDS}
use Rattle.reg_checkers.specs.History.{IsAt, IsCalled, WasCalled, MayCall, MayAnswer, IsHistory, event_of}
use Rattle.reg_history.specs.declared.versions.Version.TheVariants.{Three}
use Rattle.reg_history.specs.IdLines.{IdFits}
use Rattle.reg_checkers.specs.Orders.{IsDistinct, IsSelection, IsSerial}
use Rattle.reg_checkers.specs.Table.{MayStand}
use Rattle.reg_history.specs.Reports.{Contents, is_front, InRange, PointsFit, IsReportFault}
use Rattle.reg_commands.specs.Replays.{PointsStand}
use Rattle.reg_checkers.proofs.Places.{within, same_at, at_take, element_at, IsAt-map}
use Rattle.reg_checkers.proofs.Histories.{answered_was_called}

-- twice the event of an entry, and one more for an answer
abbrev rank : Entry → ℕ
rank (Called at id op) = 2 * at
rank (Answered at id answer) = 2 * at + 1

rank_within : (e : Entry) → rank e ≤ 2 * event_of e + 1
rank_within (Called at id op) = omega arith
rank_within (Answered at id answer) = omega arith

any_at : (q : ℕ) (xs : List ℕ) → list_any (eqb q) xs ≡ true → (k : ℕ) × IsAt xs k q
any_at q [] any = absurd cc
any_at q (x ∷ xs) any = go (cases_eq q x) (any_at q xs)
  where
    go : (q ≡ x) ⊎ (q ≡ x → ⊥) → (list_any (eqb q) xs ≡ true → (k : ℕ) × IsAt xs k q) → (k : ℕ) × IsAt (x ∷ xs) k q
    go (inl e) further = (0, ap Some (sym e))
    go (inr ne) further =
        let rest : list_any (eqb q) xs ≡ true = sym (ap (λ (b : Bool). b || list_any (eqb q) xs) (ne_eqb q x ne)) ∙ any in
        let there : (k : ℕ) × IsAt xs k q = further rest in
        (suc there.0, there.1)

-- numbers below n, no two of them equal, are at most n
few_numbers : (xs : List ℕ) (n : ℕ) → ((i j t : ℕ) → IsAt xs i t → IsAt xs j t → i ≡ j)
    → ((k t : ℕ) → IsAt xs k t → t < n) → length xs ≤ n
few_numbers xs n apart below =
    length-le_from_distinct_below xs n (IsDistinct-from_apart eqb xs differ) (λ q any. let there : (k : ℕ) × IsAt xs k q = any_at q xs any in below there.0 q there.1)
  where
    differ : (i j d : ℕ) → i < j → j < length xs → eqb (get_or xs i d) (get_or xs j d) ≡ false
    differ i j d lt inside = ne_eqb (get_or xs i d) (get_or xs j d) other
      where
        other : get_or xs i d ≡ get_or xs j d → ⊥
        other e =
            let there : IsAt xs j (get_or xs j d) = slice_get-get_or xs j d inside in
            let here : IsAt xs i (get_or xs j d) = slice_get-get_or xs i d (omega arith) ∙ ap Some e in
            let one : i ≡ j = apart i j (get_or xs j d) here there in
            omega arith

module _ (n registers : ℕ) (es : List Entry) (good : IsHistory n registers es) where
  -- an event has a call and an answer at most
  rank_at : (k : ℕ) (e : Entry) → IsAt es k e → k ≤ rank e
  rank_at zero e here = omega arith
  rank_at (suc j) e here =
      let inside : suc j < length es = within es (suc j) e here in
      let before : (c : Entry) × IsAt es j c = element_at es j (omega arith) in
      go e here before.0 before.1 (rank_at j before.0 before.1)
    where
      after : (c : Entry) (at : ℕ) → j ≤ rank c → event_of c < at → suc j ≤ 2 * at
      after c at le less = let cap : rank c ≤ 2 * event_of c + 1 = rank_within c in omega arith

      front : (c : Entry) → IsAt es j c → IsAt (take (suc j) es) j c
      front c last = at_take es (suc j) j (omega arith) ∙ last

      go : (e : Entry) → IsAt es (suc j) e → (c : Entry) → IsAt es j c → j ≤ rank c → suc j ≤ rank e
      go (Called at id op) here c last le = after c at le ((good (suc j) (Called at id op) here).later j c (front c last))
      go (Answered at id answer) here c last le = cases (good (suc j) (Answered at id answer) here)
        where
          either : (op : Op) → (event_of c < at) ⊎ (c ≡ Called at id op) → suc j ≤ 2 * at + 1
          either op (inl less) = let bound : suc j ≤ 2 * at = after c at le less in omega arith
          either op (inr own) = let equal : rank c ≡ 2 * at = ap rank own in omega arith

          cases : MayAnswer (take (suc j) es) at id answer → suc j ≤ 2 * at + 1
          cases may = either may.op (may.later j c (front c last))

  event_within : (k : ℕ) (e : Entry) → IsAt es k e → event_of e ≤ LAST_EVENT
  event_within k (Called at id op) here = (good k (Called at id op) here).event
  event_within k (Answered at id answer) here = (good k (Answered at id answer) here).event

  few_entries : length es ≤ MOST_ENTRIES
  few_entries = go (length es) refl
    where
      go : (m : ℕ) → length es ≡ m → m ≤ MOST_ENTRIES
      go zero e = omega arith
      go (suc j) e =
          let last : (c : Entry) × IsAt es j c = element_at es j (omega arith) in
          let place : j ≤ rank last.0 = rank_at j last.0 last.1 in
          let cap : rank last.0 ≤ 2 * event_of last.0 + 1 = rank_within last.0 in
          let event : event_of last.0 ≤ LAST_EVENT = event_within j last.0 last.1 in
          omega arith

  -- what may stand in an order was called
  stands_called : (id : OpId) → MayStand es id → WasCalled es id
  stands_called id (inl (at, answer, answered)) = answered_was_called n registers es good id at answer answered
  stands_called id (inr (at, op, called, update)) = (at, op, called)

  id_fits : n ≤ MOST_PROCESSES → (id : OpId) → WasCalled es id → IdFits Three id
  id_fits few id (at, op, (k, here)) =
      let may : MayCall n registers (take k es) at id op = good k (Called at id op) here in
      let process : id.process < n = may.process in
      (omega arith, may.fits)

  -- an event calls one operation
  one_called : (a b : OpId) (t : ℕ) (o p : Op) → IsCalled es a t o → IsCalled es b t p → a ≡ b
  one_called a b t o p (i, at1) (j, at2) = go (cases_order i j)
    where
      apart : (a b : OpId) (o p : Op) (i j : ℕ) → IsAt es i (Called t a o) → IsAt es j (Called t b p) → i < j → ⊥
      apart a b o p i j at1 at2 lt =
          let less : t < t = (good j (Called t b p) at2).later i (Called t a o) (at_take es j i lt ∙ at1) in
          omega arith

      go : (i ≡ j) ⊎ ((i < j) ⊎ (j < i)) → a ≡ b
      go (inl e) =
          let one : Called t a o ≡ Called t b p = same_at es j (Called t a o) (Called t b p) (subst (λ (k : ℕ). IsAt es k (Called t a o)) e at1) at2 in
          cc
      go (inr (inl less)) = absurd (apart a b o p i j at1 at2 less)
      go (inr (inr more)) = absurd (apart b a p o j i at2 at1 more)

  -- the events that called these operations
  record Moments (ids : List OpId) : Type 0 where
    ats : List ℕ
    size : length ats ≡ length ids
    each : (k t : ℕ) → IsAt ats k t → (id : OpId) × (op : Op) × IsAt ids k id × IsCalled es id t op

  moments : (ids : List OpId) → ((k : ℕ) (id : OpId) → IsAt ids k id → WasCalled es id) → Moments ids
  moments [] called = record { ats = []; size = refl; each = λ k t here. absurd cc }
  moments (id ∷ ids) called = go (called 0 id refl) (moments ids (λ k x here. called (suc k) x here))
    where
      go : WasCalled es id → Moments ids → Moments (id ∷ ids)
      go (at, op, here) rest = record { ats = at ∷ rest.ats; size = ap suc rest.size; each = each }
        where
          each : (k t : ℕ) → IsAt (at ∷ rest.ats) k t → (x : OpId) × (o : Op) × IsAt (id ∷ ids) k x × IsCalled es x t o
          each zero t first = (id, op, refl, subst (λ (u : ℕ). IsCalled es id u op) (same_Some at t first) here)
          each (suc k) t later = rest.each k t later

  few_called : (ids : List OpId) → IsDistinct ids → ((k : ℕ) (id : OpId) → IsAt ids k id → WasCalled es id) → length ids ≤ MOST_IDS
  few_called ids distinct called =
      let few : length times.ats ≤ 1048576 = few_numbers times.ats 1048576 apart below in
      omega (arith, times.size)
    where
      times : Moments ids
      times = moments ids called

      apart : (i j t : ℕ) → IsAt times.ats i t → IsAt times.ats j t → i ≡ j
      apart i j t here there = go (times.each i t here) (times.each j t there)
        where
          go : (id : OpId) × (op : Op) × IsAt ids i id × IsCalled es id t op → (id : OpId) × (op : Op) × IsAt ids j id × IsCalled es id t op → i ≡ j
          go (a, o, at1, called1) (b, p, at2, called2) =
              let same : a ≡ b = one_called a b t o p called1 called2 in
              distinct i j b (subst (λ (x : OpId). IsAt ids i x) same at1) at2

      below : (k t : ℕ) → IsAt times.ats k t → t < 1048576
      below k t here = go (times.each k t here)
        where
          go : (id : OpId) × (op : Op) × IsAt ids k id × IsCalled es id t op → t < 1048576
          go (id, op, at, (i, called)) = let event : t ≤ LAST_EVENT = event_within i (Called t id op) called in omega arith

  few_selected : (ids : List OpId) → IsSelection es ids → length ids ≤ MOST_IDS
  few_selected ids selection = few_called ids selection.distinct (λ k id here. stands_called id (selection.known k id here))

  few_points : n ≤ MOST_PROCESSES → (points : Option (List Point)) → PointsStand registers es points → PointsFit Three points
  few_points few None stand = tt
  few_points few (Some ps) (order, events) =
      (λ k p here. (id_fits few p.id (stands_called p.id (order.selection.known k p.id (IsAt-map (λ (q : Point). q.id) ps k p here))), events k p here), subst (λ (m : ℕ). m ≤ MOST_IDS) (length-map ps (λ (q : Point). q.id)) (few_selected (map (λ (q : Point). q.id) ps) order.selection))

  pub in_range : n ≤ MOST_PROCESSES → (ids : List OpId) (points : Option (List Point)) → IsSerial registers es ids
      → PointsStand registers es points → InRange Three es ids points
  in_range few ids points serial stand = record {
    few_entries = few_entries;
    ids = λ k id here. id_fits few id (stands_called id (serial.selection.known k id here));
    few_ids = few_selected ids serial.selection;
    points_fit = few_points few points stand;
  }

front_fits : (front : Front) → is_front (front_name front) ≡ true
front_fits Linear = refl
front_fits LocalRead = refl
front_fits LocalWrite = refl

no_fault : (r : Contents) (fault : ReportFault) → is_front r.front ≡ true → r.shape.registers ≡ length r.names
    → InRange Three r.entries r.order r.points → IsReportFault r fault → ⊥
no_fault r FrontFault front names range refused = refused front
no_fault r NamesFault front names range refused = refused.1 names
no_fault r RangeFault front names range refused = refused.2 range

-- parts of a run are no report for no reason
pub never_refused : (front : Front) (r : Contents) (fault : ReportFault) → r.shape.processes ≤ MOST_PROCESSES
    → r.front ≡ front_name front → r.shape.registers ≡ length r.names
    → IsHistory r.shape.processes r.shape.registers r.entries
    → IsSerial r.shape.registers r.entries r.order → PointsStand r.shape.registers r.entries r.points → IsReportFault r fault → ⊥
never_refused front r fault few same_front names good serial stand refused =
    no_fault r fault (rw same_front (front_fits front)) names (in_range r.shape.processes r.shape.registers r.entries good few r.order r.points serial stand) refused
