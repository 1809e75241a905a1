-- Stages from which an order goes on, and paths to them.
use Rattle.std.proofs.Common.{◌≡◌, ◌≢◌, ◌⊎◌, inl, inr, ℕ, ◌+◌, ◌<◌, ◌≤◌, zero, suc, Bool, true, false, List, [], ◌∷◌}
use Rattle.std.proofs.Common.{◌++◌, length, Option, Some, None, MatchOption, refl, ap, ap₂, sym, ◌∙◌, subst, arith}
use Rattle.std.proofs.Common.{get_or-set_other, length-set, set-set}
use Rattle.std.specs.Prelude.{◌==◌, if◌then◌else◌, slice_index, slice_set}
use Rattle.std.specs.Int.{bit_at}
use Rattle.std.proofs.lemmas.Bool.{cases_eq}
use Rattle.std.proofs.lemmas.List.{length-map, map-append, same_from_push, set-get_or, set_comm}
use Rattle.std.proofs.lemmas.Option.{same_Some}
use Rattle.reg_base.specs.declared.memory.Answer.{Answer}
use Rattle.reg_base.specs.declared.memory.Op.{Op}
use Rattle.reg_base.specs.declared.memory.OpId.{OpId}
use Rattle.reg_base.specs.declared.memory.Op.TheVariants.{Read, Write, Swap, CompareAndSwap}
use Rattle.reg_base.specs.Memory.{after, answer_of, register_of}
use Rattle.reg_base.proofs.Operations.{length-after}
use Rattle.reg_checkers.specs.declared.entries.Entry.{Entry}
use Rattle.reg_checkers.specs.declared.facts.Fact.{Fact}
use Rattle.reg_checkers.specs.declared.facts.Given.{Given}
use Rattle.reg_checkers.specs.Facts.{IsFactOf}
use Rattle.reg_checkers.specs.History.{IsAnswered, IsCalled, IsFinished, IsHistory}
use Rattle.reg_checkers.specs.Progress.{op_of}
use Rattle.reg_checkers.proofs.Histories.{call_is}
use Rattle.reg_outcomes.specs.declared.orders.choices.Choice.{Choice}
use Rattle.reg_outcomes.specs.declared.orders.kinds.OrderKind.{OrderKind}
use Rattle.reg_outcomes.specs.declared.orders.kinds.OrderKind.TheVariants.{Serial, Points}
use Rattle.reg_outcomes.specs.declared.orders.walk.Step.{Step}
use Rattle.reg_outcomes.specs.Finding.{MayCome, MayFollow, Next, Nothing, Places, placed_after}
use Rattle.reg_outcomes.specs.Interleavings.{Stage, first_stage}
use Rattle.reg_outcomes.specs.Placing.{IsComplete, IsOrder, IsPlaced}
use Rattle.reg_outcomes.specs.Walking.{AreTried, Ends, FitsIn, Goes, IsChoice, IsChoiceOf, IsPast, IsPastBy, IsPath}
use Rattle.reg_outcomes.specs.Walking.{IsStill, Leaves, Longer, On, Start, ids_of, stage_before, step_of}
use Rattle.reg_outcomes.proofs.Placed.{in_bounds, placed_once, placing, room}
use Rattle.reg_outcomes.proofs.Serial.{few, whole_is}

-- one operation more of a process is placed, which leaves the memory as it is
abbrev pub skipped : ℕ → Stage → Stage
skipped p s = record { next = slice_set s.next p (slice_index s.next p + 1); memory = s.memory; told = [] }

-- the next operation of a process is finished, and leaves the memory as it is
pub record IsIdle (h : List Entry) (p : ℕ) (next : List ℕ) : Type 0 where
  pub op : Op
  pub at : ℕ
  pub given : Answer
  pub answered : ℕ
  pub called : IsCalled h (op_of p (slice_index next p)) at op
  pub answer : IsAnswered h (op_of p (slice_index next p)) answered given
  pub leaves : Leaves op given

pub grows : (next : List ℕ) (p q : ℕ) → slice_index next q ≤ slice_index (slice_set next p (slice_index next p + 1)) q
grows next p q = elim (cases_eq q p) [
  | inl same ↦ subst (λ (x : ℕ). slice_index next x ≤ slice_index (slice_set next p (slice_index next p + 1)) x) (sym same) (own next p)
  | inr away ↦ let e = get_or-set_other next p q (slice_index next p + 1) 0 away in omega (arith, e)
]
  where
    own : (l : List ℕ) (i : ℕ) → slice_index l i ≤ slice_index (slice_set l i (slice_index l i + 1)) i
    own l i = own_at l i (slice_index l i + 1) (omega arith)
      where
        own_at : (l : List ℕ) (i v : ℕ) → slice_index l i ≤ v → slice_index l i ≤ slice_index (slice_set l i v) i
        own_at [] i v le = omega arith
        own_at (x ∷ l) zero v le = le
        own_at (x ∷ l) (suc i) v le = own_at l i v le

-- what may follow may follow later too
follows_later : (kind : OrderKind) (h : List Entry) (next : List ℕ) (p : ℕ) (id : OpId) → MayFollow kind h next id
    → MayFollow kind h (slice_set next p (slice_index next p + 1)) id
follows_later Serial h next p id may = tt
follows_later Points h next p id may = λ at op call other answered answer ans lt. let old = may at op call other answered answer ans lt in let more = grows next p other.process in omega (arith, old, more)

module _ (kind : OrderKind) (n registers : ℕ) (h : List Entry) (good : IsHistory n registers h) (p : ℕ) where
  -- another process's operation may come after the one that is skipped, as before it
  others_on : (q : ℕ) (s t : Stage) → q ≢ p → IsPlaced kind h q s t → IsPlaced kind h q (skipped p s) (skipped p t)
  others_on q s t away step =
      let same : slice_index (slice_set s.next p (slice_index s.next p + 1)) q ≡ slice_index s.next q = get_or-set_other s.next p q (slice_index s.next p + 1) 0 away in
      let back : slice_index (slice_set s.next q (slice_index s.next q + 1)) p ≡ slice_index s.next p = get_or-set_other s.next q p (slice_index s.next q + 1) 0 (λ e. away (sym e)) in
      let next : slice_set (slice_set s.next q (slice_index s.next q + 1)) p (slice_index (slice_set s.next q (slice_index s.next q + 1)) p + 1) ≡ slice_set (slice_set s.next p (slice_index s.next p + 1)) q (slice_index (slice_set s.next p (slice_index s.next p + 1)) q + 1) =
      ap (λ (m : ℕ). slice_set (slice_set s.next q (slice_index s.next q + 1)) p (m + 1)) back
      ∙ set_comm s.next q p (slice_index s.next q + 1) (slice_index s.next p + 1) away
      ∙ ap (λ (m : ℕ). slice_set (slice_set s.next p (slice_index s.next p + 1)) q (m + 1)) (sym same) in
      record {
        op = step.op;
        at = step.at;
        called = subst (λ (m : ℕ). IsCalled h (op_of q m) step.at step.op) (sym same) step.called;
        comes = subst (λ (m : ℕ). MayCome h (op_of q m) step.op (answer_of step.op s.memory)) (sym same) step.comes;
        follows = subst (λ (m : ℕ). MayFollow kind h (slice_set s.next p (slice_index s.next p + 1)) (op_of q m)) (sym same) (follows_later kind h s.next p (op_of q (slice_index s.next q)) step.follows);
        stage = ap (skipped p) step.stage ∙ ap (λ (l : List ℕ). record { next = l; memory = after step.op s.memory; told = [] }) next;
      }

  -- and its own next operation is that one
  own_on : (s t : Stage) → IsIdle h p s.next → IsPlaced kind h p s t → t ≡ skipped p s
  own_on s t idle step =
      let same : step.op ≡ idle.op = (call_is n registers h good (op_of p (slice_index s.next p)) step.at idle.at step.op idle.op step.called idle.called).1 in
      let given : idle.given ≡ answer_of idle.op s.memory = step.comes.0 idle.answered idle.given idle.answer ∙ ap (λ (o : Op). answer_of o s.memory) same in
      let kept : after step.op s.memory ≡ s.memory = ap (λ (o : Op). after o s.memory) same ∙ idle.leaves s.memory (sym given) in
      step.stage ∙ ap (λ (m : List ℕ). record { next = slice_set s.next p (slice_index s.next p + 1); memory = m; told = [] }) kept

  idle_later : (q : ℕ) (s t : Stage) → q ≢ p → IsPlaced kind h q s t → IsIdle h p s.next → IsIdle h p t.next
  idle_later q s t away step idle = subst (λ (l : List ℕ). IsIdle h p l) (sym (ap (λ (x : Stage). x.next) step.stage)) (
      let back : slice_index (slice_set s.next q (slice_index s.next q + 1)) p ≡ slice_index s.next p = get_or-set_other s.next q p (slice_index s.next q + 1) 0 (λ e. away (sym e)) in
      record {
        op = idle.op;
        at = idle.at;
        given = idle.given;
        answered = idle.answered;
        called = subst (λ (m : ℕ). IsCalled h (op_of p m) idle.at idle.op) (sym back) idle.called;
        answer = subst (λ (m : ℕ). IsAnswered h (op_of p m) idle.answered idle.given) (sym back) idle.answer;
        leaves = idle.leaves;
      }
      )

  -- so where an order goes on, it does so too with that one first
  pub goes_skipped : (s : Stage) → IsIdle h p s.next → Goes kind h s → Goes kind h (skipped p s)
  goes_skipped s idle (Ends complete) = let lt : slice_index s.next p < slice_index s.next p = complete (op_of p (slice_index s.next p)) (idle.answered, idle.given, idle.answer) in absurd (omega (arith, lt))
  goes_skipped s idle (On q t step go) = elim (cases_eq q p) [
    | inl same ↦ subst (λ (x : Stage). Goes kind h x) (own_on s t idle (subst (λ (x : ℕ). IsPlaced kind h x s t) same step)) go
    | inr away ↦ On q (skipped p t) (others_on q s t away step) (goes_skipped t (idle_later q s t away step idle) go)
  ]

-- an operation is undone by the value that its register had
value_back : (op : Op) (m : List ℕ) → slice_set (after op m) (register_of op) (slice_index m (register_of op)) ≡ m
value_back (Read r) m = set-get_or m r 0
value_back (Write r v) m = set-set m r v (slice_index m r) ∙ set-get_or m r 0
value_back (Swap r v) m = set-set m r v (slice_index m r) ∙ set-get_or m r 0
value_back (CompareAndSwap r e v) m = by_test (slice_index m r == e)
  where
    by_test : (b : Bool) → slice_set (if b then slice_set m r v else m) r (slice_index m r) ≡ m
    by_test true = set-set m r v (slice_index m r) ∙ set-get_or m r 0
    by_test false = set-get_or m r 0

undone : (c : Choice) (s : Stage) → s.told ≡ [] → stage_before (step_of c s) (placed_after c.process c.op s) ≡ s
undone c s none =
    let next : slice_set (slice_set s.next c.process (slice_index s.next c.process + 1)) c.process (slice_index s.next c.process) ≡ s.next = set-set s.next c.process (slice_index s.next c.process + 1) (slice_index s.next c.process) ∙ set-get_or s.next c.process 0 in
    λ i. record { next = next i; memory = value_back c.op s.memory i; told = sym none i }

module _ (kind : OrderKind) (n registers : ℕ) (h : List Entry) where
  -- where an order goes on after operations that were placed, one goes on from the first stage
  goes_from_first : (ids : List OpId) (s : Stage) → Places kind n registers h ids s → Goes kind h s → Goes kind h (first_stage n registers)
  goes_from_first ids s Nothing go = go
  goes_from_first ids s (Next {ids = old} {s = from} id op at places number called comes follows) go =
      goes_from_first old from places (On id.process s (placing kind n registers h id op at from number called comes follows) go)

  -- the operations of a path were placed
  pub places_of : (steps : List Step) (s : Stage) → IsPath kind n registers h steps s
      → Places kind n registers h (ids_of steps) s
  places_of steps s Start = Nothing
  places_of steps s (Longer {steps = old} {s = from} c path known placed tried) =
      let id : OpId = op_of c.process (slice_index from.next c.process) in
      let same : after placed.op from.memory ≡ after c.op from.memory = ap (λ (x : Stage). x.memory) (sym placed.stage) in
      let more : Places kind n registers h (ids_of old ++ id ∷ []) (placed_after c.process placed.op from) = Next id placed.op placed.at (places_of old from path) refl placed.called placed.comes placed.follows in
      subst (λ (l : List OpId). Places kind n registers h l s) (sym (map-append (λ (x : Step). x.id) old (step_of c from ∷ []))) (subst (λ (x : Stage). Places kind n registers h (ids_of old ++ id ∷ []) x) (sym placed.stage) more)

  -- what the last step of a path was
  record IsLast (steps : List Step) (x : Step) (s : Stage) : Type 0 where
    from : Stage
    c : Choice
    path : IsPath kind n registers h steps from
    known : register_of c.op < registers
    placed : IsPlaced kind h c.process from (placed_after c.process c.op from)
    tried : (¬ Goes kind h (placed_after c.process c.op from)) → AreTried kind h from c.tried
    step : x ≡ step_of c from
    stage : s ≡ placed_after c.process c.op from

  last_of : (steps whole : List Step) (x : Step) (s : Stage) → whole ≡ steps ++ x ∷ [] → IsPath kind n registers h whole s → IsLast steps x s
  last_of steps whole x s e Start = absurd (not_empty steps e)
    where
      not_empty : (l : List Step) → [] ≡ l ++ x ∷ [] → ⊥
      not_empty [] e = cc
      not_empty (y ∷ l) e = cc
  last_of steps whole x s e (Longer {steps = old} {s = from} c path known placed tried) =
      let both = same_from_push old steps (step_of c from) x e in
      record { from = from; c = c; path = subst (λ (l : List Step). IsPath kind n registers h l from) both.0 path; known = known; placed = placed; tried = tried; step = sym both.1; stage = refl }

  module _ (good : IsHistory n registers h) where
    -- where no order goes on from the first stage, there is none
    pub no_order : (¬ Goes kind h (first_stage n registers)) → (ids : List OpId) → ¬ IsOrder kind registers h ids
    no_order none ids order = let whole = whole_is kind n registers h good ids order in none (goes_from_first ids whole.0 whole.1 (Ends whole.2))

    -- nor where each process was tried or may not come next
    pub none_past : (s : Stage) (tried : ℕ) → (¬ IsComplete h s.next) → AreTried kind h s tried → IsPast kind h tried s n → ¬ Goes kind h s
    none_past s tried open_ are past (Ends complete) = open_ complete
    none_past s tried open_ are past (On p t step go) = elim (past p (in_bounds kind n registers h good (op_of p (slice_index s.next p)) step.at step.op step.called).0) [
      | inl was ↦ are p t was step go
      | inr not_next ↦ not_next t step
    ]

    -- what a choice is
    pub choice_is : (p : ℕ) (s : Stage) (tried : ℕ) (fact : Fact) (c : Choice) → p < n → (bit_at tried p ≡ 1 → ⊥) → IsPlaced kind h p s (placed_after p fact.op s) → IsFactOf h (op_of p (slice_index s.next p)) fact → IsChoiceOf p fact tried c → IsChoice kind n registers h tried s c
    choice_is p s tried fact c less never placed of is =
        let succ : Stage = placed_after p fact.op s in
        let same : placed_after c.process c.op s ≡ succ = ap₂ (λ (q : ℕ) (o : Op). placed_after q o s) is.process is.op in
        let apart : tried ≢ c.tried = λ e. never (ap (λ (m : ℕ). bit_at m p) e ∙ is.here) in
        let most = is.more in
        let bounds = in_bounds kind n registers h good (op_of p (slice_index s.next p)) fact.called fact.op of.called in
        let register : register_of c.op ≡ register_of fact.op = ap register_of is.op in
        let known = bounds.1 in
        let own = is.process in
        record {
          process = omega (arith, own, less);
          register = omega (arith, register, known);
          more = omega (arith, most, apart);
          top = is.top;
          placed = subst (λ (q : ℕ). IsPlaced kind h q s (placed_after c.process c.op s)) (sym is.process) (subst (λ (t : Stage). IsPlaced kind h p s t) (sym same) placed);
          rest = λ are none. all_tried are (λ go. none (subst (λ (t : Stage). Goes kind h t) (sym same) go));
        }
      where
        given_by : (o : Option Given) (given : Given) → o ≡ Some given → MatchOption o (¬ IsFinished h (op_of p (slice_index s.next p))) (λ r. IsAnswered h (op_of p (slice_index s.next p)) r.at r.answer) → IsAnswered h (op_of p (slice_index s.next p)) given.at given.answer
        given_by None given e m = absurd cc
        given_by (Some r) given e m = subst (λ (x : Given). IsAnswered h (op_of p (slice_index s.next p)) x.at x.answer) (same_Some r given e) m

        still : IsStill fact → IsIdle h p s.next
        still (given, e, leaves) = record { op = fact.op; at = fact.called; given = given.answer; answered = given.at; called = of.called; answer = given_by fact.answered given e of.answered; leaves = leaves }

        all_tried : AreTried kind h s tried → (¬ Goes kind h (placed_after p fact.op s)) → AreTried kind h s c.tried
        all_tried are none q t bit step go = elim is.others [
          | inr idle ↦ none (subst (λ (x : Stage). Goes kind h x) (sym (own_on kind n registers h good p s (placed_after p fact.op s) (still idle) placed)) (goes_skipped kind n registers h good p s (still idle) (On q t step go)))
          | inl others ↦ elim (cases_eq q p) [
            | inl own ↦ none (subst (λ (x : Stage). Goes kind h x) (placed_once kind n registers h good p s t (placed_after p fact.op s) (subst (λ (m : ℕ). IsPlaced kind h m s t) own step) placed) go)
            | inr away ↦ are q t (sym (others q away) ∙ bit) step go
          ]
        ]

    -- one operation more
    pub longer : (steps : List Step) (s : Stage) (tried : ℕ) (c : Choice) → IsPath kind n registers h steps s → AreTried kind h s tried → IsChoice kind n registers h tried s c → IsPath kind n registers h (steps ++ step_of c s ∷ []) (placed_after c.process c.op s)
    longer steps s tried c path are is = Longer c path is.register is.placed (is.rest are)

    -- a path is no longer than the history
    pub short : (steps : List Step) (s : Stage) → IsPath kind n registers h steps s → length steps ≤ length h
    short steps s path = let most = few kind n registers h good (ids_of steps) s (places_of steps s path) in let same = length-map steps (λ (x : Step). x.id) in omega (arith, most, same)

    pub told_none : (steps : List Step) (s : Stage) → IsPath kind n registers h steps s → s.told ≡ []
    told_none steps s Start = refl
    told_none steps s (Longer c path known placed tried) = refl

    -- the last step brings the stage before it back
    pub record IsBack (steps : List Step) (x : Step) (s : Stage) : Type 0 where
      pub path : IsPath kind n registers h steps (stage_before x s)
      pub fits : FitsIn x s
      pub tried : (¬ Goes kind h s) → AreTried kind h (stage_before x s) x.tried

    pub back_of : (steps whole : List Step) (x : Step) (s : Stage) → whole ≡ steps ++ x ∷ [] → IsPath kind n registers h whole s → IsBack steps x s
    back_of steps whole x s e path =
        let l = last_of steps whole x s e path in
        let c : Choice = l.c in
        let from : Stage = l.from in
        let sizes = room kind n registers h (ids_of steps) from (places_of steps from l.path) in
        let bounds = in_bounds kind n registers h good (op_of c.process (slice_index from.next c.process)) l.placed.at l.placed.op l.placed.called in
        let process : c.process < length (slice_set from.next c.process (slice_index from.next c.process + 1)) = (let a = bounds.0 in let b = sizes.next in let d = length-set from.next c.process (slice_index from.next c.process + 1) in omega (arith, a, b, d)) in
        let register : register_of c.op < length (after c.op from.memory) = (let a = l.known in let b = sizes.memory in let d = length-after c.op from.memory in omega (arith, a, b, d)) in
        let before : stage_before x s ≡ from = ap₂ stage_before l.step l.stage ∙ undone c from (told_none steps from l.path) in
        record {
          path = subst (λ (t : Stage). IsPath kind n registers h steps t) (sym before) l.path;
          fits = subst (λ (y : Step). FitsIn y s) (sym l.step) (subst (λ (t : Stage). FitsIn (step_of c from) t) (sym l.stage) (record { process = process; register = register }));
          tried = λ none. subst (λ (t : Stage). AreTried kind h t x.tried) (sym before) (subst (λ (y : Step). AreTried kind h from y.tried) (sym l.step) (l.tried (λ go. none (subst (λ (t : Stage). Goes kind h t) (sym l.stage) go))));
        }

module _ (kind : OrderKind) (h : List Entry) (tried : ℕ) (s : Stage) (IsOne : Choice → Type 0) where
  -- the lesser of two choices, where one process more was looked at
  pub lesser_is : (m : ℕ) (best offered lesser : Option Choice) → (lesser ≡ best) ⊎ (lesser ≡ offered)
      → (lesser ≡ None → (best ≡ None) × (offered ≡ None)) → MatchOption best (IsPast kind h tried s m) IsOne
      → MatchOption offered (IsPastBy kind h tried s m) IsOne → MatchOption lesser (IsPast kind h tried s (m + 1)) IsOne
  lesser_is m best offered None one none was is =
      let both = none refl in
      let past : IsPast kind h tried s m = subst (λ (o : Option Choice). MatchOption o (IsPast kind h tried s m) IsOne) both.0 was in
      let by : IsPastBy kind h tried s m = subst (λ (o : Option Choice). MatchOption o (IsPastBy kind h tried s m) IsOne) both.1 is in
      λ p less. elim (cases_eq p m) [ inl same ↦ subst (λ (q : ℕ). IsPastBy kind h tried s q) (sym same) by | inr other ↦ past p (omega (arith, less, other)) ]
  lesser_is m best offered (Some c) (inl e) none was is = subst (λ (o : Option Choice). MatchOption o (IsPast kind h tried s m) IsOne) (sym e) was
  lesser_is m best offered (Some c) (inr e) none was is = subst (λ (o : Option Choice). MatchOption o (IsPastBy kind h tried s m) IsOne) (sym e) is

  -- no choice is left
  pub past_all : (m n : ℕ) (best : Option Choice) → n ≤ m → MatchOption best (IsPast kind h tried s m) IsOne
      → MatchOption best (IsPast kind h tried s n) IsOne
  past_all m n None le past = λ p less. past p (omega (arith, less, le))
  past_all m n (Some c) le one = one
