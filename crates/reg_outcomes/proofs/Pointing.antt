-- Points at the latest calls so far: of an order that keeps the real time they are a point order, and each point order
-- keeps it. So where there is a point order, it is a serial order of fewer stages.
use Rattle.std.proofs.Common.{◌≡◌, ◌⊎◌, inl, inr, ℕ, zero, suc, ◌+◌, ◌<◌, ◌≤◌, List, [], ◌∷◌, ◌++◌, length, map, max}
use Rattle.std.proofs.Common.{take, Option, Some, None, Result, Ok, Err, Vec, MatchOption, IfOk, refl, ap, sym, ◌∙◌}
use Rattle.std.proofs.Common.{subst, arith, length-append}
use Rattle.std.proofs.lemmas.Bool.{cases_lt}
use Rattle.std.proofs.lemmas.List.{take_all}
use Rattle.reg_base.specs.Shape.{Extent}
use Rattle.reg_base.specs.declared.limits.TheConstants.{LAST_EVENT}
use Rattle.reg_base.specs.declared.memory.Answer.{Answer}
use Rattle.reg_base.specs.declared.memory.Op.{Op}
use Rattle.reg_base.specs.declared.memory.OpId.{OpId}
use Rattle.reg_checkers.specs.declared.entries.Entry.{Entry}
use Rattle.reg_checkers.specs.declared.entries.Entry.TheVariants.{Called}
use Rattle.reg_checkers.specs.declared.entries.Point.{Point}
use Rattle.reg_checkers.specs.History.{IsAt, IsAnswered, IsCalled, IsHistory, WasCalled}
use Rattle.reg_checkers.specs.Orders.{IsLegal, IsPointOrder, IsSelection, IsSerial}
use Rattle.reg_checkers.proofs.Histories.{answered_was_called, call_is}
use Rattle.reg_checkers.proofs.Places.{IsAt-map, at_map, element_at, within}
use Rattle.reg_checkers.proofs.Pushing.{at_push}
use Rattle.reg_checkers.proofs.RealTime.{point_order_is_serial, stands_before}
use Rattle.reg_outcomes.proofs.Elements.{take_at as first_and_next}
use Rattle.reg_world.proofs.lists.Members.{map_append}
use Rattle.reg_outcomes.specs.declared.faults.InterleavingFault.{InterleavingFault}
use Rattle.reg_outcomes.specs.declared.faults.InterleavingFault.TheVariants.{TooManyStages, OutOfMemory}
use Rattle.reg_outcomes.specs.declared.orders.kinds.OrderKind.{OrderKind}
use Rattle.reg_outcomes.specs.declared.orders.kinds.OrderKind.TheVariants.{Serial, Points}
use Rattle.reg_outcomes.specs.Finding.{IsFindFault, Next, Nothing, Places}
use Rattle.reg_outcomes.specs.Interleavings.{Stage}
use Rattle.reg_outcomes.specs.Placing.{ArePointsOf, IsOrder, KeepsRealTime}
use Rattle.reg_outcomes.specs.Sought.{Sought}

-- what is placed for a point order is placed for a serial order too
places_serially : (n registers : ℕ) (h : List Entry) (ids : List OpId) (s : Stage) → Places Points n registers h ids s
    → Places Serial n registers h ids s
places_serially n registers h ids s Nothing = Nothing
places_serially n registers h ids s (Next {ids = old} {s = from} id op at places number called comes follows) =
    Next id op at (places_serially n registers h old from places) number called comes tt

pub serial_fault : (n registers : ℕ) (h : List Entry) (limit : ℕ) (fault : InterleavingFault)
    → IsFindFault Points n registers h limit fault → IsFindFault Serial n registers h limit fault
serial_fault n registers h limit TooManyStages wide = record {
  placed = wide.placed;
  stages = wide.stages;
  more = wide.more;
  once = wide.once;
  led = λ k s at. let led = wide.led k s at in (led.0, places_serially n registers h led.0 s led.1, led.2);
}
serial_fault n registers h limit OutOfMemory refused = tt

module _ (n registers : ℕ) (h : List Entry) (good : IsHistory n registers h) where
  -- what may stand in an order was called
  pub stands_called : (ids : List OpId) → IsSerial registers h ids → (k : ℕ) (id : OpId) → IsAt ids k id
      → WasCalled h id
  stands_called ids serial k id at = elim (serial.selection.known k id at) [
    | inl fin ↦ answered_was_called n registers h good id fin.0 fin.1 fin.2
    | inr call ↦ (call.0, call.1, call.2)
  ]

  pub order_of_points : (ps : List Point) → IsPointOrder registers h ps
      → IsOrder Points registers h (map (λ p. p.id) ps)
  order_of_points ps order = record { serial = point_order_is_serial n registers h ps good order; time = time }
    where
      time : KeepsRealTime h (map (λ p. p.id) ps)
      time i id other at answered op answer here call ans lt =
          let p = at_map (λ (x : Point). x.id) ps i id here in
          let there = order.selection.finished other (answered, answer, ans) in
          let q = at_map (λ (x : Point). x.id) ps there.0 other there.1 in
          let before = stands_before registers h ps order there.0 i q.0 p.0 q.1 p.1 answered at answer op
          (subst (λ (x : OpId). IsAnswered h x answered answer) (sym q.2) ans) (subst (λ (x : OpId). IsCalled h x at op) (sym p.2) call) lt in
          (there.0, before, there.1)

  pub points_of_order : (ids : List OpId) (ps : List Point) → IsOrder Points registers h ids → ArePointsOf h ids ps
      → IsPointOrder registers h ps
  points_of_order ids ps order are = record {
    selection = subst (λ (l : List OpId). IsSelection h l) (sym are.same) order.serial.selection;
    legal = subst (λ (l : List OpId). IsLegal registers h l) (sym are.same) order.serial.legal;
    called = λ k p at op here call. are.late k p at op here call;
    answered = answered;
    rising = are.rising;
  }
    where
      answered : (k : ℕ) (p : Point) (at : ℕ) (answer : Answer) → IsAt ps k p → IsAnswered h p.id at answer → p.at ≤ at
      answered k p at answer here ans = elim (cases_lt at p.at) [
        | inl lt ↦
            let from = are.call k p here in
            let own : IsAt ids k p.id = subst (λ (l : List OpId). IsAt l k p.id) are.same (IsAt-map (λ (x : Point). x.id) ps k p here) in
            let before = order.time from.0 from.1 p.id p.at at from.2 answer from.4 from.5 ans lt in
            let same : before.0 ≡ k = order.serial.selection.distinct before.0 k p.id before.2 own in
            let a = before.1 in
            let b = from.3 in
            absurd (omega (arith, a, b, same))
        | inr le ↦ le
      ]

  pub at_events : (ids : List OpId) (ps : List Point) → ArePointsOf h ids ps → (k : ℕ) (p : Point) → IsAt ps k p
      → p.at ≤ LAST_EVENT
  at_events ids ps are k p here = let from = are.call k p here in (good from.5.0 (Called p.at from.1 from.2) from.5.1).event

-- the same of what a search goes by
module _ (s : Sought) (shape : Extent) (h : List Entry) (good : IsHistory s.shape.processes s.shape.registers s.entries) (same_shape : s.shape ≡ shape) (same_entries : s.entries ≡ h) (same_kind : s.kind ≡ Points) where
  pub no_points : ((ids : List OpId) → ¬ IsOrder s.kind s.shape.registers s.entries ids) → (ps : List Point)
      → ¬ IsPointOrder shape.registers h ps
  no_points none ps order =
      let here = subst (λ (x : Extent). IsPointOrder x.registers s.entries ps) (sym same_shape) (subst (λ (es : List Entry). IsPointOrder shape.registers es ps) (sym same_entries) order) in
      none (map (λ p. p.id) ps) (subst (λ (k : OrderKind). IsOrder k s.shape.registers s.entries (map (λ p. p.id) ps)) (sym same_kind) (order_of_points s.shape.processes s.shape.registers s.entries good ps here))

  pub are_points : (ids : List OpId) (ps : List Point) → IsOrder s.kind s.shape.registers s.entries ids
      → ArePointsOf s.entries ids ps → IsPointOrder shape.registers h ps
  are_points ids ps order are =
      let here = points_of_order s.shape.processes s.shape.registers s.entries good ids ps (subst (λ (k : OrderKind). IsOrder k s.shape.registers s.entries ids) same_kind order) are in
      subst (λ (es : List Entry). IsPointOrder shape.registers es ps) same_entries (subst (λ (x : Extent). IsPointOrder x.registers s.entries ps) same_shape here)

-- an order is found, or there is none
abbrev FindsIn : {A E : Type 0} → OrderKind → ℕ → List Entry → Result (Option (Vec OpId A)) E → Type 0
FindsIn kind registers h r = IfOk r (λ o. MatchOption o ((ids : List OpId) → ¬ IsOrder kind registers h ids) (λ v. IsOrder kind registers h v.items))

-- what a search finds is so of the history that it goes by
pub found_in : {A E : Type 0} (s : Sought) (kind : OrderKind) (shape : Extent) (h : List Entry) → s.kind ≡ kind
    → s.shape ≡ shape → s.entries ≡ h → (r : Result (Option (Vec OpId A)) E)
    → FindsIn s.kind s.shape.registers s.entries r → FindsIn kind shape.registers h r
found_in s kind shape h same_kind same_shape same_entries r found =
    subst (λ (k : OrderKind). FindsIn k shape.registers h r) same_kind (subst (λ (x : Extent). FindsIn s.kind x.registers h r) same_shape (subst (λ (es : List Entry). FindsIn s.kind s.shape.registers es r) same_entries found))

-- an order that need keep no time is a serial order
pub serially : {A E : Type 0} (registers : ℕ) (h : List Entry) (r : Result (Option (Vec OpId A)) E)
    → IfOk r
    (λ o. MatchOption o ((ids : List OpId) → ¬ IsOrder Serial registers h ids)
    (λ v. IsOrder Serial registers h v.items))
    → IfOk r (λ o. MatchOption o ((ids : List OpId) → ¬ IsSerial registers h ids) (λ v. IsSerial registers h v.items))
serially registers h (Ok None) none = λ ids serial. none ids (record { serial = serial; time = tt })
serially registers h (Ok (Some v)) order = order.serial
serially registers h (Err e) refused = tt

pub if_none : {X : Type 0} (o : Option X) (P : Type 0) (Q : X → Type 0) → ((x : X) → o ≡ Some x → ⊥) → MatchOption o P Q
    → P
if_none None P Q never h = h
if_none (Some x) P Q never h = absurd (never x refl)

-- The points of the first k operations, and the latest of their calls.
pub record IsPointing (h : List Entry) (ids : List OpId) (k at : ℕ) (ps : List Point) : Type 0 where
  pub same : map (λ p. p.id) ps ≡ take k ids
  pub count : length ps ≡ k
  pub late : (i : ℕ) (p : Point) (t : ℕ) (op : Op) → IsAt ps i p → IsCalled h p.id t op → t ≤ p.at
  pub call : (i : ℕ) (p : Point) → IsAt ps i p
      → (j : ℕ) × (id : OpId) × (op : Op) × (j ≤ i) × IsAt ids j id × IsCalled h id p.at op
  pub rising : (i j : ℕ) (p q : Point) → IsAt ps i p → IsAt ps j q → i < j → p.at ≤ q.at
  pub below : (i : ℕ) (p : Point) → IsAt ps i p → p.at ≤ at
  pub last : (at ≡ 0) ⊎ ((j : ℕ) × (id : OpId) × (op : Op) × (j < k) × IsAt ids j id × IsCalled h id at op)

pub pointing_none : (h : List Entry) (ids : List OpId) (ps : List Point) → ps ≡ [] → IsPointing h ids 0 0 ps
pointing_none h ids ps e = record {
  same = ap (λ (l : List Point). map (λ p. p.id) l) e;
  count = ap length e;
  late = λ i p t op here. absurd (nothing i p (subst (λ (l : List Point). IsAt l i p) e here));
  call = λ i p here. absurd (nothing i p (subst (λ (l : List Point). IsAt l i p) e here));
  rising = λ i j p q here. absurd (nothing i p (subst (λ (l : List Point). IsAt l i p) e here));
  below = λ i p here. absurd (nothing i p (subst (λ (l : List Point). IsAt l i p) e here));
  last = inl refl;
}
  where
    nothing : (k : ℕ) (p : Point) → IsAt [] k p → ⊥
    nothing k p at = cc

module _ (n registers : ℕ) (h : List Entry) (good : IsHistory n registers h) (ids : List OpId) (k at : ℕ) (ps : List Point) (old : IsPointing h ids k at ps) (id : OpId) (here : IsAt ids k id) (t : ℕ) (op : Op) (called : IsCalled h id t op) (now : ℕ) (latest : now ≡ max at t) where
  abbrev point : Point
  point = record { id = id; at = now }

  own_below : t ≤ now
  own_below = omega (arith, latest)

  all_below : at ≤ now
  all_below = omega (arith, latest)

  from : (j : ℕ) × (x : OpId) × (o : Op) × (j ≤ k) × IsAt ids j x × IsCalled h x now o
  from = elim (cases_lt at t) [
    | inl lt ↦ (k, id, op, omega arith, here, subst (λ m. IsCalled h id m op) (omega (arith, latest, lt)) called)
    | inr le ↦ elim old.last [
      | inl none ↦ (k, id, op, omega arith, here, subst (λ m. IsCalled h id m op) (omega (arith, latest, le, none)) called)
      | inr (j, x, o, lt, there, is) ↦ (j, x, o, omega (arith, lt), there, subst (λ m. IsCalled h x m o) (omega (arith, latest, le)) is)
    ]
  ]

  pub pointing_more : (new : List Point) → new ≡ ps ++ point ∷ [] → IsPointing h ids (k + 1) now new
  pointing_more new e = subst (λ (l : List Point). IsPointing h ids (k + 1) now l) (sym e) (record {
    same = map_append (λ (p : Point). p.id) ps (point ∷ []) ∙ ap (λ (l : List OpId). l ++ id ∷ []) old.same ∙ sym (first_and_next ids k id here);
    count = (let l = length-append ps (point ∷ []) in let c = old.count in omega (arith, l, c));
    late = late;
    call = call;
    rising = rising;
    below = λ i p there. elim (at_push ps i point p there) [
      | inl before ↦ let le = old.below i p before in let all = all_below in omega (arith, le, all)
      | inr (i_is, is) ↦ let n : p.at ≡ now = ap (λ (x : Point). x.at) is in omega (arith, n)
    ];
    last = inr (let f = from in let le = f.3 in (f.0, f.1, f.2, omega (arith, le), f.4, f.5));
  })
    where
      late : (i : ℕ) (p : Point) (s : ℕ) (o : Op) → IsAt (ps ++ point ∷ []) i p → IsCalled h p.id s o → s ≤ p.at
      late i p s o there call = elim (at_push ps i point p there) [
        | inl before ↦ old.late i p s o before call
        | inr (i_is, is) ↦
            let e : s ≡ t = (call_is n registers h good id s t o op (subst (λ (x : Point). IsCalled h x.id s o) is call) called).0 in
            let n : p.at ≡ now = ap (λ (x : Point). x.at) is in
            let le = own_below in
            omega (arith, e, n, le)
      ]

      call : (i : ℕ) (p : Point) → IsAt (ps ++ point ∷ []) i p → (j : ℕ) × (x : OpId) × (o : Op) × (j ≤ i) × IsAt ids j x × IsCalled h x p.at o
      call i p there = elim (at_push ps i point p there) [
        | inl before ↦ old.call i p before
        | inr (i_is, is) ↦
            let f = from in
            let le = f.3 in
            let c = old.count in
            (f.0, f.1, f.2, omega (arith, le, i_is, c), f.4, subst (λ (x : Point). IsCalled h f.1 x.at f.2) (sym is) f.5)
      ]

      rising : (i j : ℕ) (p q : Point) → IsAt (ps ++ point ∷ []) i p → IsAt (ps ++ point ∷ []) j q → i < j → p.at ≤ q.at
      rising i j p q first second lt = go (at_push ps i point p first) (at_push ps j point q second)
        where
          go : IsAt ps i p ⊎ ((i ≡ length ps) × (p ≡ point)) → IsAt ps j q ⊎ ((j ≡ length ps) × (q ≡ point)) → p.at ≤ q.at
          go (inl a) (inl b) = old.rising i j p q a b lt
          go (inl a) (inr (j_is, is)) =
              let le = old.below i p a in
              let all = all_below in
              let n : q.at ≡ now = ap (λ (x : Point). x.at) is in
              omega (arith, le, all, n)
          go (inr (i_is, is)) (inl b) = let inside = within ps j q b in absurd (omega (arith, inside, i_is, lt))
          go (inr (i_is, is)) (inr (j_is, other)) = absurd (omega (arith, i_is, j_is, lt))

pub pointed : (h : List Entry) (ids : List OpId) (k at : ℕ) (ps : List Point) → length ids ≤ k
    → IsPointing h ids k at ps → ArePointsOf h ids ps
pointed h ids k at ps le is =
    record { same = is.same ∙ take_all k ids le; late = is.late; call = is.call; rising = is.rising }

-- so an order that keeps the real time has points
module _ (n registers : ℕ) (h : List Entry) (good : IsHistory n registers h) (ids : List OpId) (order : IsOrder Points registers h ids) where
  first_points : (k : ℕ) → k ≤ length ids → (at : ℕ) × (ps : List Point) × IsPointing h ids k at ps
  first_points zero le = (0, [], pointing_none h ids [] refl)
  first_points (suc k) le =
      let old = first_points k (omega arith) in
      let here = element_at ids k (omega arith) in
      let call = stands_called n registers h good ids order.serial k here.0 here.1 in
      let now = max old.0 call.0 in
      let new : List Point = old.1 ++ record { id = here.0; at = now } ∷ [] in
      let is = pointing_more n registers h good ids k old.0 old.1 old.2 here.0 here.1 call.0 call.1 call.2 now refl new refl in
      let e : k + 1 ≡ suc k = omega arith in
      (now, new, subst (λ (m : ℕ). IsPointing h ids m now new) e is)

  pub has_points : (ps : List Point) × IsPointOrder registers h ps
  has_points =
      let all = first_points (length ids) (omega arith) in
      (all.1, points_of_order n registers h good ids all.1 order (pointed h ids (length ids) all.0 all.1 (omega arith) all.2))
