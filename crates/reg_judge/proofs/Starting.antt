-- A history that has a point order can be gone through, for each register.
use Rattle.std.proofs.Common.{◌≡◌, ◌≢◌, ◌⊎◌, inl, inr, ℕ, zero, suc, ◌+◌, ◌-◌, ◌<◌, ◌≤◌, true, List, [], ◌∷◌, map}
use Rattle.std.proofs.Common.{Option, Some, None, MatchOption, take, drop, length, replicate, refl, ap, sym, ◌∙◌, subst}
use Rattle.std.proofs.Common.{arith}
use Rattle.std.specs.Prelude.{slice_index}
use Rattle.std.proofs.Math.Seq.{drop-length}
use Rattle.std.proofs.lemmas.Bool.{cases_eq, cases_lt, cases_order}
use Rattle.std.proofs.lemmas.List.{get_or-replicate, length-replicate}
use Rattle.std.proofs.lemmas.Option.{same_Some}
use Rattle.reg_base.specs.declared.memory.OpId.{OpId}
use Rattle.reg_base.specs.declared.memory.Op.{Op}
use Rattle.reg_base.specs.declared.memory.Answer.{Answer}
use Rattle.reg_base.specs.Memory.{after, answer_of, memory, register_of, updates}
use Rattle.reg_checkers.specs.declared.entries.Entry.{Entry}
use Rattle.reg_checkers.specs.declared.entries.Entry.TheVariants.{Called, Answered}
use Rattle.reg_checkers.specs.declared.entries.Point.{Point}
use Rattle.reg_checkers.specs.declared.facts.Fact.{Fact}
use Rattle.reg_checkers.specs.declared.facts.Given.{Given}
use Rattle.reg_checkers.specs.Facts.{IsFactOf}
use Rattle.reg_checkers.specs.History.{IsAt, IsAnswered, IsCalled, IsFinished, IsHistory, MayAnswer, WasCalled}
use Rattle.reg_checkers.specs.Orders.{IsPointOrder}
use Rattle.reg_checkers.proofs.Bridges.{zip_right}
use Rattle.reg_checkers.proofs.Histories.{answered_was_called, call_is}
use Rattle.reg_checkers.proofs.Places.{at_map, at_take, element_at, in_take, same_at, within}
use Rattle.reg_judge.specs.declared.acts.Act.{Act}
use Rattle.reg_judge.specs.Acts.{Fits, act_of, value_after}
use Rattle.reg_judge.specs.Completing.{Answers, Calls, Completes, Elsewhere, Ends, IsOn, Places, Running, put}
use Rattle.reg_judge.proofs.Covering.{longer}
use Rattle.reg_judge.proofs.Cuts.{IsCut, IsOnRegister, IsOpen, cut_answer, cut_call, cut_place}
use Rattle.reg_judge.proofs.Puts.{put_here, put_there}
use Rattle.reg_judge.proofs.Registers.{Goes, IsActing, act_goes, acts_answered, acts_update, drop_at, memory_length}
use Rattle.reg_judge.proofs.Registers.{memory_next, value_off}

-- each operation that was called asks and leaves what its fact says
abbrev pub AreKnown : List Entry → (OpId → Option Act) → Type 0
AreKnown h act = (id : OpId) → WasCalled h id → (f : Fact) × IsFactOf h id f × (act id ≡ act_of f)

-- what an operation that may stand in an order asks and leaves
pub record IsMoving (h : List Entry) (act : OpId → Option Act) (id : OpId) : Type 0 where
  pub fact : Fact
  pub of : IsFactOf h id fact
  pub moves : Act
  pub acts : IsActing fact.op fact.answered moves
  pub is : act id ≡ Some moves

module _ (n registers : ℕ) (h : List Entry) (good : IsHistory n registers h) (act : OpId → Option Act) (known : AreKnown h act) where
  pub moving : (id : OpId) → WasCalled h id
      → IsFinished h id ⊎ ((at : ℕ) × (op : Op) × IsCalled h id at op × (updates op ≡ true)) → IsMoving h act id
  moving id was may = (let k = known id was in go k.0 k.1 k.2 k.0.answered refl may)
    where
      go : (f : Fact) → IsFactOf h id f → act id ≡ act_of f → (answered : Option Given) → f.answered ≡ answered → IsFinished h id ⊎ ((at : ℕ) × (op : Op) × IsCalled h id at op × (updates op ≡ true)) → IsMoving h act id
      go f of is (Some g) e may =
          let a = acts_answered f.op g in
          let acts : IsActing f.op f.answered a.0 = subst (λ (o : Option Given). IsActing f.op o a.0) (sym e) a.1 in
          record { fact = f; of = of; moves = a.0; acts = acts; is = is ∙ acts.is }
      go f of is None e (inl fin) = absurd (let not : ¬ IsFinished h id = subst (λ (o : Option Given). MatchOption o (¬ IsFinished h id) (λ r. IsAnswered h id r.at r.answer)) e of.answered in not fin)
      go f of is None e (inr (at, op, called, up)) =
          let same : op ≡ f.op = (call_is n registers h good id at f.called op f.op called of.called).1 in
          let a = acts_update f.op (subst (λ (o : Op). updates o ≡ true) same up) in
          let acts : IsActing f.op f.answered a.0 = subst (λ (o : Option Given). IsActing f.op o a.0) (sym e) a.1 in
          record { fact = f; of = of; moves = a.0; acts = acts; is = is ∙ acts.is }

  module _ (ps : List Point) (order : IsPointOrder registers h ps) (r : ℕ) (fits : r < registers) where
    ids : List OpId
    ids = map (λ p. p.id) ps

    -- the next operation of the order runs, where the answer is to one that stands not before it
    next_runs : (k j : ℕ) (run : Running) (placed : ℕ → ℕ) → IsCut h ids act r k j run placed → (t : ℕ) (x : OpId) (answer : Answer) → IsAt h k (Answered t x answer) → (spot : ℕ) → IsAt ids spot x → j ≤ spot → (y : OpId) → IsAt ids j y → IsOpen h k y
    unfolding ids
    next_runs k j run placed cut t x answer here spot there le y next = (was, λ fin. (let high = cut.high y fin in let lt = high.2 in let same : high.0 ≡ j = order.selection.distinct high.0 j y high.1 next in omega (arith, lt, same)))
      where
        call_of : WasCalled h y
        call_of = elim (order.selection.known j y next) [
          | inl fin ↦ answered_was_called n registers h good y fin.0 fin.1 fin.2
          | inr (at, op, called, up) ↦ (at, op, called)
        ]

        own : (p : Point) × IsAt ps j p × (p.id ≡ y)
        own = at_map (λ (p : Point). p.id) ps j y next

        other : (p : Point) × IsAt ps spot p × (p.id ≡ x)
        other = at_map (λ (p : Point). p.id) ps spot x there

        late : call_of.0 ≤ own.0.at
        late = order.called j own.0 call_of.0 call_of.1 own.1 (subst (λ (id : OpId). IsCalled h id call_of.0 call_of.1) (sym own.2) call_of.2)

        early : other.0.at ≤ t
        early = order.answered spot other.0 t answer other.1 (subst (λ (id : OpId). IsAnswered h id t answer) (sym other.2) (k, here))

        rising : own.0.at ≤ other.0.at
        rising = elim (cases_eq j spot) [
          | inl e ↦ (let same : own.0 ≡ other.0 = same_at ps spot own.0 other.0 (subst (λ (i : ℕ). IsAt ps i own.0) e own.1) other.1 in let at : own.0.at ≡ other.0.at = ap (λ (p : Point). p.at) same in omega (arith, at))
          | inr not ↦ order.rising j spot own.0 other.0 own.1 other.1 (omega (arith, le, not))
        ]

        was : WasCalled (take k h) y
        was = (let call = call_of in elim (cases_order call.2.0 k) [
          | inl e ↦ absurd (let same : Called call.0 y call.1 ≡ Answered t x answer = same_at h k (Called call.0 y call.1) (Answered t x answer) (subst (λ (i : ℕ). IsAt h i (Called call.0 y call.1)) e call.2.1) here in cc)
          | inr (inl lt) ↦ (call.0, call.1, (call.2.0, at_take h k call.2.0 lt ∙ call.2.1))
          | inr (inr gt) ↦
              let less : t < call.0 = (good call.2.0 (Called call.0 y call.1) call.2.1).later k (Answered t x answer) (at_take h call.2.0 k gt ∙ here) in
              let a = late in
              let b = early in
              let c = rising in
              absurd (omega (arith, less, a, b, c))
        ])

    -- what the first operations of the order leave in the register
    value_at : ℕ → ℕ
    value_at j = slice_index (memory registers (take j order.legal.ops)) r

    op_at : (j : ℕ) (y : OpId) → IsAt ids j y → (m : IsMoving h act y) → (o : Op) × IsAt order.legal.ops j o × (o ≡ m.fact.op)
    unfolding ids
    op_at j y next m =
        let called = zip_right (λ id op. (at : ℕ) × IsCalled h id at op) (map (λ p. p.id) ps) order.legal.ops j y order.legal.called next in
        (called.0, called.1, (call_is n registers h good y called.2.0 m.fact.called called.0 m.fact.op called.2.1 m.of.called).1)

    has_room : (j : ℕ) → r < length (memory registers (take j order.legal.ops))
    has_room j = (let a = memory_length (take j order.legal.ops) (replicate registers 0) in let b = length-replicate {A = ℕ} registers 0 in omega (arith, a, b, fits))

    next_on : (j : ℕ) (y : OpId) → IsAt ids j y → (m : IsMoving h act y) → register_of m.fact.op ≡ r → Goes m.moves.asks m.moves.makes (value_at j) (value_at (suc j)) ⊎ ((¬ IsFinished h y) × (value_at j ≡ value_at (suc j)))
    unfolding value_at ids
    next_on j y next m on =
        let o = op_at j y next m in
        let mem = memory registers (take j order.legal.ops) in
        let step : memory registers (take (suc j) order.legal.ops) ≡ after m.fact.op mem = memory_next (replicate registers 0) order.legal.ops j o.0 o.1 ∙ ap (λ (p : Op). after p mem) o.2 in
        let told : (g : Given) → m.fact.answered ≡ Some g → g.answer ≡ answer_of m.fact.op mem = λ g e. (
        let given : IsAnswered h y g.at g.answer = subst (λ (x : Option Given). MatchOption x (¬ IsFinished h y) (λ r. IsAnswered h y r.at r.answer)) e m.of.answered in
        order.legal.right j y o.0 g.at g.answer next o.1 given ∙ ap (λ (p : Op). answer_of p mem) o.2
        ) in
        elim (act_goes m.fact.op m.fact.answered m.moves m.acts mem r on (has_room j) told) [
          | inl goes ↦ inl (record { suits = goes.suits; leaves = goes.leaves ∙ ap (λ (l : List ℕ). slice_index l r) (sym step) })
          | inr (none, same) ↦ inr (subst (λ (x : Option Given). MatchOption x (¬ IsFinished h y) (λ r. IsAnswered h y r.at r.answer)) none m.of.answered, same ∙ ap (λ (l : List ℕ). slice_index l r) (sym step))
        ]

    value_next_off : (j : ℕ) (y : OpId) → IsAt ids j y → (m : IsMoving h act y) → register_of m.fact.op ≢ r → value_at j ≡ value_at (suc j)
    unfolding value_at
    value_next_off j y next m off =
        let o = op_at j y next m in
        let mem = memory registers (take j order.legal.ops) in
        let step : memory registers (take (suc j) order.legal.ops) ≡ after m.fact.op mem = memory_next (replicate registers 0) order.legal.ops j o.0 o.1 ∙ ap (λ (p : Op). after p mem) o.2 in
        sym (value_off m.fact.op mem r off) ∙ ap (λ (l : List ℕ). slice_index l r) (sym step)

    on_register : (y : OpId) (m : IsMoving h act y) → register_of m.fact.op ≡ r → IsOnRegister h r y
    on_register y m on = (m.fact.called, m.fact.op, m.of.called, on)

    off_register : (y : OpId) (m : IsMoving h act y) → register_of m.fact.op ≢ r → ¬ IsOnRegister h r y
    off_register y m off (at, op, called, on) = off (ap register_of (sym (call_is n registers h good y at m.fact.called op m.fact.op called m.of.called).1) ∙ on)

    -- from a cut on all can be gone through, where few enough entries and operations are left
    abbrev Gone : ℕ → Type 0
    Gone fuel = (k j : ℕ) (run : Running) (placed : ℕ → ℕ) (v : ℕ) → k ≤ length h → j ≤ length ids → (length h - k) + (length ids - j) ≤ fuel → IsCut h ids act r k j run placed → v ≡ value_at j → Completes r act (length ids - j) run placed v (drop k h)

    module _ (fuel : ℕ) (again : Gone fuel) (k j : ℕ) (run : Running) (placed : ℕ → ℕ) (v : ℕ) (inside : k < length h) (j_le : j ≤ length ids) (enough : (length h - k) + (length ids - j) ≤ suc fuel) (cut : IsCut h ids act r k j run placed) (value : v ≡ value_at j) where
      at_call : (t : ℕ) (x : OpId) (o : Op) → IsAt h k (Called t x o) → Completes r act (length ids - j) run placed v (Called t x o ∷ drop (suc k) h)
      at_call t x o here =
          let idle : run x.process ≡ None = (cut.idle x.process (λ id same was. (good k (Called t x o) here).idle id same was)).0 in
          Calls t x o idle (again (suc k) j (put run x.process (act x)) placed v inside j_le (omega (arith, enough, inside)) (cut_call n registers h good ids act r k j run placed cut t x o here) value)

      -- what is answered runs
      module _ (t : ℕ) (x : OpId) (answer : Answer) (here : IsAt h k (Answered t x answer)) where
        may : MayAnswer (take k h) t x answer
        may = good k (Answered t x answer) here

        runs : IsOpen h k x
        runs = (((may).called_at, (may).op, (may).called), (may).running)

        moves : IsMoving h act x
        moves = (let was = answered_was_called n registers h good x t answer (k, here) in moving x was (inl (t, answer, (k, here))))

        -- what stands before the cut
        module _ (spot : ℕ) (there : IsAt ids spot x) (lt : spot < j) where
          before_on : register_of (moves).fact.op ≡ r → Completes r act (length ids - j) run placed v (Answered t x answer ∷ drop (suc k) h)
          before_on on =
              let is : IsOn r run x.process = ((moves).moves, cut.runs x runs ∙ (moves).is, (moves).acts.register ∙ on) in
              let one : placed x.process ≡ 1 = cut.yes x spot runs there lt (on_register x moves on) (t, answer, (k, here)) in
              let next = cut_answer n registers h good ids act r k j run placed cut t x answer here runs spot there lt (put placed x.process 0) (put_here placed x.process 0 x.process refl) (λ q apart. put_there placed x.process 0 q apart) in
              Answers t x answer is one (again (suc k) j (put run x.process None) (put placed x.process 0) v inside j_le (omega (arith, enough, inside)) next value)

          before_off : register_of (moves).fact.op ≢ r → Completes r act (length ids - j) run placed v (Answered t x answer ∷ drop (suc k) h)
          before_off off =
              let not : ¬ IsOn r run x.process = λ (a, is, on). off (sym (moves).acts.register ∙ ap (λ (b : Act). b.register) (same_Some (moves).moves a (sym (cut.runs x runs ∙ (moves).is) ∙ is)) ∙ on) in
              let none : placed x.process ≡ 0 = cut.no x runs (λ i at le. off_register x moves off) in
              let next = cut_answer n registers h good ids act r k j run placed cut t x answer here runs spot there lt placed none (λ q apart. refl) in
              Elsewhere t x answer not (again (suc k) j (put run x.process None) placed v inside j_le (omega (arith, enough, inside)) next value)

          answered_before : Completes r act (length ids - j) run placed v (Answered t x answer ∷ drop (suc k) h)
          answered_before = elim (cases_eq (register_of (moves).fact.op) r) [
            | inl on ↦ before_on on
            | inr off ↦ before_off off
          ]

        -- what stands at the cut or behind it
        module _ (spot : ℕ) (there : IsAt ids spot x) (le : j ≤ spot) where
          few : j < length ids
          few = (let lt = within ids spot x there in omega (arith, lt, le))

          y : OpId
          y = (element_at ids j few).0

          there_y : IsAt ids j y
          unfolding y
          there_y = (element_at ids j few).1

          running : IsOpen h k y
          running = next_runs k j run placed cut t x answer here spot there le y there_y

          m : IsMoving h act y
          unfolding ids
          m = (let was = (running).0 in moving y (was.0, was.1, (was.2.0, (in_take h k was.2.0 (Called was.0 y was.1) was.2.1).1)) (order.selection.known j y there_y))

          not_yet : (i : ℕ) → IsAt ids i y → i < j → ⊥
          unfolding ids
          not_yet i at lt = let same : i ≡ j = order.selection.distinct i j y at there_y in omega (arith, lt, same)

          one_less : suc (length ids - suc j) ≡ length ids - j
          one_less = let lt = few in omega (arith, lt)

          behind_on : register_of (m).fact.op ≡ r → Goes (m).moves.asks (m).moves.makes (value_at j) (value_at (suc j)) → Completes r act (length ids - j) run placed v (drop k h)
          unfolding ids
          behind_on on goes =
              let a = (m).moves in
              let fits_here : Fits a v = subst (λ (w : ℕ). Fits a w) (sym value) goes.suits in
              let none : placed y.process ≡ 0 = cut.no y running (λ i at lt. absurd (not_yet i at lt)) in
              let next = cut_place n registers h good ids act r k j run placed cut (order.selection.distinct) y there_y running (put placed y.process 1) (λ is fin. put_here placed y.process 1 y.process refl) (λ not. absurd (not (on_register y m on))) (λ q apart. put_there placed y.process 1 q apart) in
              let lt = few in
              let later = again k (suc j) run (put placed y.process 1) (value_after a v) (omega (arith, inside)) (omega (arith, lt)) (omega (arith, enough, inside, lt)) next (ap (value_after a) value ∙ goes.leaves) in
              subst (λ (i : ℕ). Completes r act i run placed v (drop k h)) one_less (Places y.process a (cut.runs y running ∙ (m).is) ((m).acts.register ∙ on) none fits_here later)

          -- what has no answer, and leaves all as it is, isn't placed
          behind_idle : ¬ IsFinished h y → value_at j ≡ value_at (suc j) → Completes r act (length ids - j) run placed v (drop k h)
          unfolding ids
          behind_idle open_ same =
              let next = cut_place n registers h good ids act r k j run placed cut (order.selection.distinct) y there_y running placed (λ is fin. absurd (open_ fin)) (λ not. refl) (λ q apart. refl) in
              let lt = few in
              let later = again k (suc j) run placed v (omega (arith, inside)) (omega (arith, lt)) (omega (arith, enough, inside, lt)) next (value ∙ same) in
              subst (λ (i : ℕ). Completes r act i run placed v (drop k h)) one_less (longer r act later)

          behind_off : register_of (m).fact.op ≢ r → Completes r act (length ids - j) run placed v (drop k h)
          unfolding ids
          behind_off off =
              let none : placed y.process ≡ 0 = cut.no y running (λ i at lt. absurd (not_yet i at lt)) in
              let next = cut_place n registers h good ids act r k j run placed cut (order.selection.distinct) y there_y running placed (λ is fin. absurd (off_register y m off is)) (λ not. refl) (λ q apart. refl) in
              let lt = few in
              let later = again k (suc j) run placed v (omega (arith, inside)) (omega (arith, lt)) (omega (arith, enough, inside, lt)) next (value ∙ value_next_off j y there_y m off) in
              subst (λ (i : ℕ). Completes r act i run placed v (drop k h)) one_less (longer r act later)

          answered_behind : Completes r act (length ids - j) run placed v (drop k h)
          answered_behind = elim (cases_eq (register_of (m).fact.op) r) [
            | inl on ↦ elim (next_on j y there_y m on) [
              | inl goes ↦ behind_on on goes
              | inr (open_, same) ↦ behind_idle open_ same
            ]
            | inr off ↦ behind_off off
          ]

        at_answer : Completes r act (length ids - j) run placed v (drop k h)
        unfolding ids
        at_answer = (let place = order.selection.finished x (t, answer, (k, here)) in elim (cases_lt place.0 j) [
          | inl lt ↦ subst (λ (l : List Entry). Completes r act (length ids - j) run placed v l) (sym (drop_at h k (Answered t x answer) here)) (answered_before place.0 place.1 lt)
          | inr le ↦ answered_behind place.0 place.1 le
        ])

      at_entry : (e : Entry) → IsAt h k e → Completes r act (length ids - j) run placed v (drop k h)
      at_entry (Called t x o) here = subst (λ (l : List Entry). Completes r act (length ids - j) run placed v l) (sym (drop_at h k (Called t x o) here)) (at_call t x o here)
      at_entry (Answered t x answer) here = at_answer t x answer here

    goes : (fuel : ℕ) → Gone fuel
    goes zero k j run placed v k_le j_le enough cut value =
        let end : k ≡ length h = omega (arith, enough, k_le) in
        subst (λ (l : List Entry). Completes r act (length ids - j) run placed v l) (sym (ap (λ (i : ℕ). drop i h) end ∙ drop-length h)) Ends
    goes (suc fuel) k j run placed v k_le j_le enough cut value = elim (cases_eq k (length h)) [
      | inl end ↦ subst (λ (l : List Entry). Completes r act (length ids - j) run placed v l) (sym (ap (λ (i : ℕ). drop i h) end ∙ drop-length h)) Ends
      | inr not ↦
          let lt : k < length h = omega (arith, k_le, not) in
          let e = element_at h k lt in
          at_entry fuel (λ k j run placed v a b c d e. goes fuel k j run placed v a b c d e) k j run placed v lt j_le enough cut value e.0 e.1
    ]

    -- so from the start on
    pub starts : (m : ℕ) × Completes r act m (λ p. None) (λ p. 0) 0 h
    unfolding ids value_at
    starts = (length ids - 0, goes (length h + length ids) 0 0 (λ p. None) (λ p. 0) 0 (omega arith) (omega arith) (omega arith) first (sym (get_or-replicate registers r 0 0 fits)))
      where
        nothing : {X : Type 0} (i : ℕ) (x : X) → IsAt [] i x → ⊥
        nothing i x at = cc

        first : IsCut h (map (λ p. p.id) ps) act r 0 0 (λ p. None) (λ p. 0)
        first = record {
          low = λ i id at lt. absurd (omega (arith, lt));
          high = λ id (at, answer, (i, here)). absurd (nothing i (Answered at id answer) here);
          runs = λ id ((at, op, (i, here)), not). absurd (nothing i (Called at id op) here);
          idle = λ p rests. (refl, refl);
          yes = λ id i open_ at lt on. absurd (omega (arith, lt));
          no = λ id open_ none. refl;
        }
