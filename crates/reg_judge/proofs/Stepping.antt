-- Steps of a search: what goes on before an entry goes on after it.
use Rattle.std.proofs.Common.{◌≡◌, ◌≢◌, ◌⊎◌, inl, inr, ℕ, zero, suc, ◌+◌, ◌<◌, ◌≤◌, true, List, [], ◌∷◌, Option, Some}
use Rattle.std.proofs.Common.{None, MatchOption, Vec, take, drop, length, set, slice_get, refl, ap, sym, ◌∙◌, subst}
use Rattle.std.proofs.Common.{arith}
use Rattle.std.specs.Prelude.{IfSome, false, is_some, option_and_then, option_map, vec_len, ◌==◌}
use Rattle.std.specs.Int.{bit_at}
use Rattle.std.proofs.lemmas.Bool.{cases_eq, eqb-true}
use Rattle.std.proofs.lemmas.Option.{same_Some}
use Rattle.reg_base.specs.declared.memory.OpId.{OpId}
use Rattle.reg_base.specs.declared.memory.Op.{Op}
use Rattle.reg_base.specs.declared.memory.Answer.{Answer}
use Rattle.reg_base.specs.declared.memory.Answer.TheVariants.{Done}
use Rattle.reg_checkers.specs.declared.entries.Entry.{Entry}
use Rattle.reg_checkers.specs.declared.entries.Entry.TheVariants.{Called, Answered}
use Rattle.reg_checkers.specs.declared.facts.Fact.{Fact}
use Rattle.reg_checkers.specs.declared.facts.Given.{Given}
use Rattle.reg_checkers.specs.Facts.{IsFactOf}
use Rattle.reg_checkers.specs.History.{IsAt, IsAnswered, IsFinished, MayAnswer}
use Rattle.reg_checkers.specs.Table.{Rows, cell}
use Rattle.reg_checkers.proofs.Histories.{called_once}
use Rattle.reg_checkers.proofs.Places.{element_at, get_set_other, get_set_same, in_take, same_at, within}
use Rattle.reg_judge.specs.declared.acts.Act.{Act}
use Rattle.reg_judge.specs.declared.calls.Call.{Call}
use Rattle.reg_judge.specs.declared.stages.Mover.{Mover}
use Rattle.reg_judge.specs.declared.stages.Stage.{Stage}
use Rattle.reg_judge.specs.Acts.{Heeds, act_in, act_of, acting, asked, made, made_of, unanswered}
use Rattle.reg_judge.specs.Completing.{Completes, IsFree, IsOn, IsUnneeded, Running, put}
use Rattle.reg_judge.specs.Searching.{AreAlive, AreMoversOf, AreRead, AreWaiting, IsAnswering, IsCallOf, IsKnown}
use Rattle.reg_judge.specs.Searching.{IsLayerAfter, IsStep, IsUnanswered, IsWaiting, NeedsMap, RunsTo, run_of}
use Rattle.reg_judge.specs.declared.search.Stepped.{Stepped}
use Rattle.reg_judge.specs.declared.search.Stepped.TheVariants.{On, Stuck, TooMany}
use Rattle.reg_base.specs.Memory.{register_of}
use Rattle.reg_judge.specs.Stages.{AreMovers, IsAlive, Reads}
use Rattle.reg_judge.proofs.Covering.{covering}
use Rattle.reg_judge.proofs.Going.{after_answer, alive_after_answer, alive_after_call, alive_after_other}
use Rattle.reg_judge.proofs.Going.{alive_after_reads, same_placed}
use Rattle.reg_judge.proofs.Puts.{none_some, put_here, put_there}
use Rattle.reg_judge.proofs.Registers.{drop_at}

at_drop : {X : Type 0} (xs : List X) (k i : ℕ) (x : X) → IsAt (drop k xs) i x → IsAt xs (k + i) x
at_drop xs zero i x at = let e : i ≡ zero + i = omega arith in subst (λ (j : ℕ). IsAt xs j x) e at
at_drop [] (suc k) i x at = absurd cc
at_drop (y ∷ xs) (suc k) i x at =
    let e : suc (k + i) ≡ suc k + i = omega arith in subst (λ (j : ℕ). IsAt (y ∷ xs) j x) e (at_drop xs k i x at)

nothing : {X : Type 0} (i : ℕ) (x : X) → IsAt [] i x → ⊥
nothing i x at = cc

-- what runs where a call is at its place, and where none is
run_at : (running : List (Option Call)) (p : ℕ) (c : Call) → IsAt running p (Some c) → run_of running p ≡ Some c.act
run_at running p c at = ap (λ (o : Option (Option Call)). option_and_then (λ o. option_map (λ c. c.act) o) o) at

run_none : (running : List (Option Call)) (p : ℕ) → IsAt running p None → run_of running p ≡ None
run_none running p at = ap (λ (o : Option (Option Call)). option_and_then (λ o. option_map (λ c. c.act) o) o) at

call_at : (running : List (Option Call)) (p : ℕ) (a : Act) → run_of running p ≡ Some a
    → (c : Call) × IsAt running p (Some c) × (c.act ≡ a)
call_at running p a is = go (slice_get running p) refl is
  where
    go : (o : Option (Option Call)) → slice_get running p ≡ o → option_and_then (λ o. option_map (λ c. c.act) o) o ≡ Some a → (c : Call) × IsAt running p (Some c) × (c.act ≡ a)
    go None e h = absurd cc
    go (Some None) e h = absurd cc
    go (Some (Some c)) e h = (c, e, same_Some c.act a h)

run_set : (running : List (Option Call)) (p : ℕ) (o : Option Call) → p < length running → (q : ℕ)
    → run_of (set running p o) q ≡ put (run_of running) p (option_map (λ c. c.act) o) q
run_set running p o lt q = elim (cases_eq q p) [
  | inl is ↦ ap (λ (x : Option (Option Call)). option_and_then (λ o. option_map (λ c. c.act) o) x) (ap (slice_get (set running p o)) is ∙ get_set_same running p o lt) ∙ sym (put_here (run_of running) p (option_map (λ c. c.act) o) q is)
  | inr apart ↦ ap (λ (x : Option (Option Call)). option_and_then (λ o. option_map (λ c. c.act) o) x) (get_set_other running p q o apart) ∙ sym (put_there (run_of running) p (option_map (λ c. c.act) o) q apart)
]

-- what runs may be told by another function
same_run : (r : ℕ) (act : OpId → Option Act) (run other : Running) (es : List Entry) (stages : List Stage)
    → ((q : ℕ) → other q ≡ run q) → IsAlive r act run es stages → IsAlive r act other es stages
same_run r act run other es stages same (n, j, s, here, completes) =
    (n, j, s, here, covering r act completes other same (bit_at s.placed) (λ q. inl refl))

module _ {A : Type 0} (n registers : ℕ) (h : List Entry) (rows : Rows A) (needs : NeedsMap) (known : IsKnown n registers h rows needs) where
  act : OpId → Option Act
  act id = act_in rows id

  -- an operation is answered, or has no answer
  end_of : (x : OpId) (a : Act) → act_in rows x ≡ Some a → ((j : ℕ) × (at : ℕ) × (answer : Answer) × IsAt h j (Answered at x answer)) ⊎ IsUnanswered h x
  end_of x a is = go (cell rows x) refl is
    where
      go : (o : Option Fact) → cell rows x ≡ o → option_and_then act_of o ≡ Some a → ((j : ℕ) × (at : ℕ) × (answer : Answer) × IsAt h j (Answered at x answer)) ⊎ IsUnanswered h x
      go None e h = absurd cc
      go (Some f) e is = by_answer (known.table.facts x f e) f.answered refl
        where
          by_answer : IsFactOf h x f → (o : Option Given) → f.answered ≡ o → ((j : ℕ) × (at : ℕ) × (answer : Answer) × IsAt h j (Answered at x answer)) ⊎ IsUnanswered h x
          by_answer fact None e = inr ((f.called, f.op, fact.called), subst (λ (o : Option Given). MatchOption o (¬ IsFinished h x) (λ r. IsAnswered h x r.at r.answer)) e fact.answered)
          by_answer fact (Some g) e =
              let given : IsAnswered h x g.at g.answer = subst (λ (o : Option Given). MatchOption o (¬ IsFinished h x) (λ r. IsAnswered h x r.at r.answer)) e fact.answered in
              inl (given.0, g.at, g.answer, given.1)

  -- it is answered after its call
  answered_later : (x : OpId) (k t j at : ℕ) (op : Op) (answer : Answer) → IsAt h k (Called t x op) → IsAt h j (Answered at x answer) → k < j
  answered_later x k t j at op answer called here =
      let may : MayAnswer (take j h) at x answer = known.history j (Answered at x answer) here in
      let there = in_take h j may.called.0 (Called may.called_at x may.op) may.called.1 in
      let same : may.called.0 ≡ k = called_once n registers h known.history may.called.0 k x may.called_at t may.op op there.1 called in
      let lt = there.0 in
      omega (arith, lt, same)

  module _ (k : ℕ) (running : List (Option Call)) (waiting : AreWaiting h (act_in rows) k running) where
    -- what runs up to this entry or a later one, and isn't answered by this one, runs up to a later one
    lasts_more : (id : OpId) (e : Entry) → IsAt h k e → ((at : ℕ) (answer : Answer) → e ≡ Answered at id answer → ⊥) → k < length h → (j : ℕ) × (k ≤ j) × RunsTo h id j → k + 1 < length h → (j : ℕ) × (k + 1 ≤ j) × RunsTo h id j
    lasts_more id e here other inside (j, le, inl (at, answer, told)) more =
        let not : j ≢ k = λ same. other at answer (same_at h k e (Answered at id answer) here (subst (λ (i : ℕ). IsAt h i (Answered at id answer)) same told)) in
        (j, omega (arith, le, not), inl (at, answer, told))
    lasts_more id e here other inside (j, le, inr (none, lt)) more = (k + 1, omega arith, inr (none, more))

    -- the operations that run on a register, with what is known of them
    movers_are : k < length h → (r : ℕ) (movers : List Mover) → AreMoversOf running r k movers → AreMovers r (act_in rows) (run_of running) (drop k h) movers
    movers_are open_ r movers are = record { all = all; each = each; free = free }
      where
        all : (p : ℕ) (a : Act) → run_of running p ≡ Some a → a.register ≡ r → (i : ℕ) × (m : Mover) × IsAt movers i m × (m.id.process ≡ p) × (m.act ≡ a)
        all p a is on =
            let c = call_at running p a is in
            let m = are.all p c.0 (within running p (Some c.0) c.1) c.1 (ap (λ (b : Act). b.register) c.2 ∙ on) in
            (m.0, m.1, m.2, ap (λ (id : OpId). id.process) m.3 ∙ (waiting p c.0 c.1).process, m.4 ∙ c.2)

        each : (i : ℕ) (m : Mover) → IsAt movers i m → (run_of running m.id.process ≡ Some m.act) × (m.act.register ≡ r)
        each i m at =
            let c = are.each i m at in
            let p : m.id.process ≡ c.0 = ap (λ (id : OpId). id.process) c.4 ∙ (waiting c.0 c.1 c.2).process in
            (ap (run_of running) p ∙ run_at running c.0 c.1 c.2 ∙ ap (λ (a : Act). Some a) (sym c.5), ap (λ (a : Act). a.register) c.5 ∙ c.3)

        free : (i : ℕ) (m : Mover) → IsAt movers i m → m.free ≡ true → IsFree r (act_in rows) (run_of running) (drop k h) m.act
        free i m at is =
            let c = are.each i m at in
            let f = c.6 is in
            inr (ap (λ (a : Act). a.asks) c.5 ∙ f.0, λ u makes. unneeded c.0 c.1 c.2 c.3 f.1 u (sym (ap (λ (a : Act). a.makes) c.5) ∙ makes))
          where
            unneeded : (p : ℕ) (c : Call) → IsAt running p (Some c) → c.act.register ≡ r → c.needed_until ≤ k → (u : ℕ) → c.act.makes ≡ Some u → IsUnneeded r (act_in rows) (run_of running) (drop k h) u
            unneeded p c here on le u makes = record {
              running = λ q b is b_on heeds. (
                  let d = call_at running q b is in
                  let w = waiting q d.0 d.1 in
                  let a = w.lasts open_ in
                  let lt = (waiting p c here).needed a.0 d.0.id d.0.act u a.2 w.is (ap (λ (x : Act). x.register) d.2 ∙ b_on ∙ sym on) (subst (λ (x : Act). Heeds x.asks u) (sym d.2) heeds) makes in
                  let late = a.1 in
                  omega (arith, lt, late, le)
                  );
              later = λ i t id op b there is b_on heeds. (
                  let called = at_drop h k i (Called t id op) there in
                  elim (end_of id b is) [
                    | inl (j, at, answer, told) ↦
                        let after = answered_later id (k + i) t j at op answer called told in
                        let lt = (waiting p c here).needed j id b u (inl (at, answer, told)) is (b_on ∙ sym on) heeds makes in
                        omega (arith, lt, after, le)
                    | inr none ↦
                        let lt = (waiting p c here).needed (k + i) id b u (inr (none, within h (k + i) (Called t id op) called)) is (b_on ∙ sym on) heeds makes in
                        omega (arith, lt, le)
                  ]
                  );
            }

    -- a call
    module _ (t : ℕ) (x : OpId) (op : Op) (entry : IsAt h k (Called t x op)) (o : Option Call) (is_call : IsCallOf rows needs x o) (inside : x.process < length running) where
      act_is : option_map (λ c. c.act) o ≡ act_in rows x
      act_is = go o is_call
        where
          go : (o : Option Call) → IsCallOf rows needs x o → option_map (λ c. c.act) o ≡ act_in rows x
          go None none = sym none
          go (Some c) call = sym call.0

      pub waiting_call : AreWaiting h (act_in rows) (k + 1) (set running x.process o)
      waiting_call p c at = elim (cases_eq p x.process) [
        | inl is ↦ new o is_call (sym (get_set_same running x.process o inside) ∙ sym (ap (slice_get (set running x.process o)) is) ∙ at) is
        | inr apart ↦ old (sym (get_set_other running x.process p o apart) ∙ at)
      ]
        where
          old : IsAt running p (Some c) → IsWaiting h (act_in rows) (k + 1) p c
          old here = (let w = waiting p c here in record {
            process = w.process;
            is = w.is;
            needed = w.needed;
            lasts = λ more. (let now : k < length h = omega (arith, more) in lasts_more c.id (Called t x op) entry (λ at answer e. (let bad : ⊥ = cc in bad)) now (w.lasts now) more);
          })

          new : (o : Option Call) → IsCallOf rows needs x o → Some o ≡ Some (Some c) → p ≡ x.process → IsWaiting h (act_in rows) (k + 1) p c
          new None none e is = absurd cc
          new (Some d) call e is =
              let same : d ≡ c = same_Some d c (same_Some (Some d) (Some c) e) in
              let fresh : IsWaiting h (act_in rows) (k + 1) p d = record {
                process = ap (λ (y : OpId). y.process) call.1 ∙ sym is;
                is = ap (act_in rows) call.1 ∙ call.0;
                needed = call.2 h known.needed;
                lasts = λ more. elim (end_of x d.act call.0) [
                  | inl (j, at, answer, told) ↦
                      let after = answered_later x k t j at op answer entry told in
                      (j, omega (arith, after), inl (at, answer, subst (λ (y : OpId). IsAt h j (Answered at y answer)) (sym call.1) told))
                  | inr none ↦ (k + 1, omega arith, inr (subst (IsUnanswered h) (sym call.1) none, more))
                ];
              } in
              subst (λ (y : Call). IsWaiting h (act_in rows) (k + 1) p y) same fresh

      pub alive_call : {B : Type 0} (layers later : List (Vec Stage B)) → AreRead (act_in rows) x layers later → length later ≡ length layers → AreAlive (act_in rows) (run_of running) (drop k h) layers → AreAlive (act_in rows) (run_of (set running x.process o)) (drop (k + 1) h) later
      alive_call {B} layers later read count alive r layer at =
          let before = element_at layers r (let lt = within later r layer at in omega (arith, lt, count)) in
          let went = read r before.0 before.1 in
          let same : went.0 ≡ layer = same_at later r went.0 layer went.1 at in
          let entries : drop k h ≡ Called t x op ∷ drop (suc k) h = drop_at h k (Called t x op) entry in
          let was : IsAlive r (act_in rows) (run_of running) (Called t x op ∷ drop (suc k) h) before.0.items = subst (λ (es : List Entry). IsAlive r (act_in rows) (run_of running) es before.0.items) entries (alive r before.0 before.1) in
          let called = alive_after_call r (act_in rows) (run_of running) t x op (drop (suc k) h) before.0.items was in
          let told = same_run r (act_in rows) (put (run_of running) x.process (act_in rows x)) (run_of (set running x.process o)) (drop (suc k) h) before.0.items (λ q. run_set running x.process o inside q ∙ ap (λ (a : Option Act). put (run_of running) x.process a q) act_is) called in
          let e : suc k ≡ k + 1 = omega arith in
          subst (λ (l : Vec Stage B). IsAlive r (act_in rows) (run_of (set running x.process o)) (drop (k + 1) h) l.items) same
          (subst (λ (i : ℕ). IsAlive r (act_in rows) (run_of (set running x.process o)) (drop i h) went.0.items) e (reading r before.0 went.0 went.2 told))
        where
          reading : (r : ℕ) (before after : Vec Stage B) → (after.items ≡ before.items) ⊎ ((a : Act) × (act_in rows x ≡ Some a) × (a.register ≡ r) × (a.makes ≡ None) × Reads x.process before.items after.items) → IsAlive r (act_in rows) (run_of (set running x.process o)) (drop (suc k) h) before.items → IsAlive r (act_in rows) (run_of (set running x.process o)) (drop (suc k) h) after.items
          reading r before after (inl same) alive = subst (λ (l : List Stage). IsAlive r (act_in rows) (run_of (set running x.process o)) (drop (suc k) h) l) (sym same) alive
          reading r before after (inr (a, is, on, makes, reads)) alive = alive_after_reads r (act_in rows) (run_of (set running x.process o)) x a (drop (suc k) h) before.items after.items (run_set running x.process o inside x.process ∙ put_here (run_of running) x.process (option_map (λ c. c.act) o) x.process refl ∙ act_is ∙ is) on makes reads alive

    -- an answer
    module _ (t : ℕ) (x : OpId) (answer : Answer) (entry : IsAt h k (Answered t x answer)) where
      entries_are : drop k h ≡ Answered t x answer ∷ drop (suc k) h
      entries_are = drop_at h k (Answered t x answer) entry

      -- what runs in another process waits on
      waits : (p : ℕ) (c : Call) → p ≢ x.process → IsWaiting h (act_in rows) k p c → IsWaiting h (act_in rows) (k + 1) p c
      waits p c apart w = record {
        process = w.process;
        is = w.is;
        needed = w.needed;
        lasts = λ more. (
            let now : k < length h = omega (arith, more) in
            lasts_more c.id (Answered t x answer) entry (λ at other e. (let same : x ≡ c.id = cc in apart (sym w.process ∙ ap (λ (y : OpId). y.process) (sym same)))) now (w.lasts now) more
            );
      }

      pub waiting_none : IsAt running x.process None → AreWaiting h (act_in rows) (k + 1) running
      waiting_none none p c at = waits p c (λ e. (let one : None ≡ Some c = same_at running x.process None (Some c) none (subst (λ (i : ℕ). IsAt running i (Some c)) e at) in cc)) (waiting p c at)

      pub alive_none : {B : Type 0} (layers : List (Vec Stage B)) → IsAt running x.process None → AreAlive (act_in rows) (run_of running) (drop k h) layers → AreAlive (act_in rows) (run_of running) (drop (k + 1) h) layers
      alive_none {B} layers none alive r layer at =
          let off : ¬ IsOn r (run_of running) x.process = λ (a, is, on). none_some (run_of running x.process) a (run_none running x.process none) is in
          let was = subst (λ (es : List Entry). IsAlive r (act_in rows) (run_of running) es layer.items) entries_are (alive r layer at) in
          let after = alive_after_other r (act_in rows) (run_of running) t x answer (drop (suc k) h) layer.items off was in
          let e : suc k ≡ k + 1 = omega arith in
          subst (λ (i : ℕ). IsAlive r (act_in rows) (run_of running) (drop i h) layer.items) e
          (same_run r (act_in rows) (put (run_of running) x.process None) (run_of running) (drop (suc k) h) layer.items (λ q. elim (cases_eq q x.process) [
            | inl is ↦ ap (run_of running) is ∙ run_none running x.process none ∙ sym (put_here (run_of running) x.process None q is)
            | inr apart ↦ sym (put_there (run_of running) x.process None q apart)
          ]) after)

      module _ (c : Call) (here : IsAt running x.process (Some c)) where
        inside : x.process < length running
        inside = within running x.process (Some c) here

        on_it : IsOn c.act.register (run_of running) x.process
        on_it = (c.act, run_at running x.process c here, refl)

        pub waiting_some : AreWaiting h (act_in rows) (k + 1) (set running x.process None)
        waiting_some p d at = elim (cases_eq p x.process) [
          | inl is ↦ absurd (let e : Some None ≡ Some (Some d) = sym (get_set_same running x.process None inside) ∙ sym (ap (slice_get (set running x.process None)) is) ∙ at in let bad : None ≡ Some d = same_Some None (Some d) e in cc)
          | inr apart ↦ waits p d apart (waiting p d (sym (get_set_other running x.process p None apart) ∙ at))
        ]

        -- the register of the answer
        alive_here : (old new : List Stage) → IsLayerAfter running c.act.register k x.process old new → IsAlive c.act.register (act_in rows) (run_of running) (drop k h) old → IsAlive c.act.register (act_in rows) (put (run_of running) x.process None) (drop (suc k) h) new
        alive_here old new after alive = go after (subst (λ (es : List Entry). IsAlive c.act.register (act_in rows) (run_of running) es old) entries_are alive)
          where
            go : IsLayerAfter running c.act.register k x.process old new → IsAlive c.act.register (act_in rows) (run_of running) (Answered t x answer ∷ drop (suc k) h) old → IsAlive c.act.register (act_in rows) (put (run_of running) x.process None) (drop (suc k) h) new
            go (inl (all, keeps)) (n, j, s, at, completes) =
                let one = all j s at in
                let kept = keeps j s at one in
                let y : Stage = kept.1 in
                let later = after_answer c.act.register (act_in rows) t x answer completes on_it one in
                (n, kept.0, y, kept.2, subst (λ (v : ℕ). Completes c.act.register (act_in rows) n (put (run_of running) x.process None) (bit_at y.placed) v (drop (suc k) h)) (sym kept.3) (same_placed c.act.register (act_in rows) later (bit_at y.placed) kept.4))
            go (inr (movers, are, closed)) alive =
                let known_movers = subst (λ (es : List Entry). AreMovers c.act.register (act_in rows) (run_of running) es movers) entries_are (movers_are (within h k (Answered t x answer) entry) c.act.register movers are) in
                alive_after_answer c.act.register (act_in rows) (run_of running) t x answer (drop (suc k) h) movers known_movers on_it closed.stages closed.done old new closed.each closed.kept alive

        pub stuck : {B : Type 0} (layers : List (Vec Stage B)) (layer : Vec Stage B) → IsAt layers c.act.register layer → IsLayerAfter running c.act.register k x.process layer.items [] → ¬ AreAlive (act_in rows) (run_of running) (drop k h) layers
        stuck {B} layers layer at after alive = let left = alive_here layer.items [] after (alive c.act.register layer at) in nothing left.1 left.2 left.3

        pub alive_some : {B : Type 0} (layers : List (Vec Stage B)) (layer later : Vec Stage B) → IsAt layers c.act.register layer → IsLayerAfter running c.act.register k x.process layer.items later.items → AreAlive (act_in rows) (run_of running) (drop k h) layers → AreAlive (act_in rows) (run_of (set running x.process None)) (drop (k + 1) h) (set layers c.act.register later)
        alive_some {B} layers layer later at after alive r new there =
            let e : suc k ≡ k + 1 = omega arith in
            subst (λ (i : ℕ). IsAlive r (act_in rows) (run_of (set running x.process None)) (drop i h) new.items) e
            (same_run r (act_in rows) (put (run_of running) x.process None) (run_of (set running x.process None)) (drop (suc k) h) new.items (run_set running x.process None inside) (go (cases_eq r c.act.register)))
          where
            go : (r ≡ c.act.register) ⊎ (r ≡ c.act.register → ⊥) → IsAlive r (act_in rows) (put (run_of running) x.process None) (drop (suc k) h) new.items
            go (inl is) =
                let same : later ≡ new = same_Some later new (sym (get_set_same layers c.act.register later (within layers c.act.register layer at)) ∙ sym (ap (slice_get (set layers c.act.register later)) is) ∙ there) in
                subst (λ (q : ℕ). IsAlive q (act_in rows) (put (run_of running) x.process None) (drop (suc k) h) new.items) (sym is)
                (subst (λ (l : Vec Stage B). IsAlive c.act.register (act_in rows) (put (run_of running) x.process None) (drop (suc k) h) l.items) same (alive_here layer.items later.items after (alive c.act.register layer at)))
            go (inr apart) =
                let off : ¬ IsOn r (run_of running) x.process = λ (a, is, on). apart (sym on ∙ sym (ap (λ (b : Act). b.register) (same_Some c.act a (sym (run_at running x.process c here) ∙ is)))) in
                let was = alive r new (sym (get_set_other layers c.act.register r later apart) ∙ there) in
                alive_after_other r (act_in rows) (run_of running) t x answer (drop (suc k) h) new.items off (subst (λ (es : List Entry). IsAlive r (act_in rows) (run_of running) es new.items) entries_are was)

-- the stages stay, but those of one register
pub read_none : {B : Type 0} (act : OpId → Option Act) (x : OpId) (layers : List (Vec Stage B))
    → AreRead act x layers layers
read_none act x layers r layer at = (layer, at, inl refl)

pub read_one : {B : Type 0} (act : OpId → Option Act) (x : OpId) (layers : List (Vec Stage B)) (i : ℕ)
    (old new : Vec Stage B) (a : Act)
    → IsAt layers i old → act x ≡ Some a → a.register ≡ i → a.makes ≡ None → Reads x.process old.items new.items
    → AreRead act x layers (set layers i new)
read_one {B} act x layers i old new a here is on makes reads r layer at = elim (cases_eq r i) [
  | inl e ↦
      let same : old ≡ layer = same_at layers i old layer here (subst (λ (j : ℕ). IsAt layers j layer) e at) in
      (new, subst (λ (j : ℕ). IsAt (set layers i new) j new) (sym e) (get_set_same layers i new (within layers i old here)), inr (a, is, on ∙ sym e, makes, subst (λ (l : Vec Stage B). Reads x.process l.items new.items) same reads))
  | inr apart ↦ (layer, get_set_other layers i r new apart ∙ at, inl refl)
]

acting_register : (op : Op) (answered : Option Given) (a : Act) → acting op answered ≡ Some a
    → a.register ≡ register_of op
acting_register op (Some g) a is = ap (λ (b : Act). b.register) (sym (same_Some (record { register = register_of op; asks = asked op g.answer; makes = made op g.answer }) a is))
acting_register op None a is = go (made_of op) is
  where
    go : (o : Option ℕ) → unanswered op o ≡ Some a → a.register ≡ register_of op
    go None e = absurd cc
    go (Some v) e = ap (λ (b : Act). b.register) (sym (same_Some (record { register = register_of op; asks = asked op Done; makes = Some v }) a e))

module _ {A : Type 0} (n registers : ℕ) (h : List Entry) (rows : Rows A) (needs : NeedsMap) (known : IsKnown n registers h rows needs) where
  -- what is called is on one of the registers
  pub register_fits : (x : OpId) (a : Act) → act_in rows x ≡ Some a → a.register < registers
  register_fits x a is = go (cell rows x) refl is
    where
      go : (o : Option Fact) → cell rows x ≡ o → option_and_then act_of o ≡ Some a → a.register < registers
      go None e h = absurd cc
      go (Some f) e is =
          let called = (known.table.facts x f e).called in
          let may = known.history called.0 (Called f.called x f.op) called.1 in
          let on : a.register ≡ register_of f.op = acting_register f.op f.answered a is in
          let fits = may.register in
          omega (arith, fits, on)

  pub caller_fits : (k t : ℕ) (x : OpId) (op : Op) → IsAt h k (Called t x op) → x.process < n
  caller_fits k t x op here = (known.history k (Called t x op) here).process

  pub answerer_fits : (k t : ℕ) (x : OpId) (answer : Answer) → IsAt h k (Answered t x answer) → x.process < n
  answerer_fits k t x answer here =
      let may : MayAnswer (take k h) t x answer = known.history k (Answered t x answer) here in
      (known.history may.called.0 (Called may.called_at x may.op) (in_take h k may.called.0 (Called may.called_at x may.op) may.called.1).1).process

  module _ (k : ℕ) (running : List (Option Call)) (waiting : AreWaiting h (act_in rows) k running) where
    pub step_call : {B : Type 0} (t : ℕ) (x : OpId) (op : Op) → IsAt h k (Called t x op) → x.process < length running → (running' : List (Option Call)) (layers layers' : List (Vec Stage B)) → ((o : Option Call) × IsCallOf rows needs x o × (running' ≡ set running x.process o)) → AreRead (act_in rows) x layers layers' → length layers' ≡ length layers → AreAlive (act_in rows) (run_of running) (drop k h) layers → AreAlive (act_in rows) (run_of running') (drop (k + 1) h) layers'
    step_call {B} t x op here inside running' layers layers' (o, is, e) read count alive = subst (λ (l : List (Option Call)). AreAlive (act_in rows) (run_of l) (drop (k + 1) h) layers') (sym e) (alive_call n registers h rows needs known k running waiting t x op here o is inside layers layers' read count alive)

    pub wait_call : (t : ℕ) (x : OpId) (op : Op) → IsAt h k (Called t x op) → x.process < length running → (running' : List (Option Call)) → ((o : Option Call) × IsCallOf rows needs x o × (running' ≡ set running x.process o)) → AreWaiting h (act_in rows) (k + 1) running'
    wait_call t x op here inside running' (o, is, e) = subst (λ (l : List (Option Call)). AreWaiting h (act_in rows) (k + 1) l) (sym e) (waiting_call n registers h rows needs known k running waiting t x op here o is inside)

    pub step_answer : {B : Type 0} (t : ℕ) (x : OpId) (answer : Answer) → IsAt h k (Answered t x answer) → (running' : List (Option Call)) (layers layers' : List (Vec Stage B)) (s : Stepped) → IsAnswering x.process k running layers running' layers' s → IsStep (act_in rows) k h running layers running' layers' s
    step_answer {B} t x answer here running' layers layers' TooMany is = tt
    step_answer {B} t x answer here running' layers layers' Stuck (c, layer, at, there, after) = stuck n registers h rows needs known k running waiting t x answer here c at layers layer there after
    step_answer {B} t x answer here running' layers layers' On (inl (none, same, kept)) = λ alive. subst (λ (l : List (Option Call)). AreAlive (act_in rows) (run_of l) (drop (k + 1) h) layers') (sym same) (subst (λ (l : List (Vec Stage B)). AreAlive (act_in rows) (run_of running) (drop (k + 1) h) l) (sym kept) (alive_none n registers h rows needs known k running waiting t x answer here layers none alive))
    step_answer {B} t x answer here running' layers layers' On (inr (c, layer, later, at, there, after, ran, went)) = λ alive. subst (λ (l : List (Option Call)). AreAlive (act_in rows) (run_of l) (drop (k + 1) h) layers') (sym ran) (subst (λ (l : List (Vec Stage B)). AreAlive (act_in rows) (run_of (set running x.process None)) (drop (k + 1) h) l) (sym went) (alive_some n registers h rows needs known k running waiting t x answer here c at layers layer later there after alive))

    pub wait_answer : {B : Type 0} (t : ℕ) (x : OpId) (answer : Answer) → IsAt h k (Answered t x answer) → (running' : List (Option Call)) (layers layers' : List (Vec Stage B)) (s : Stepped) → IsAnswering x.process k running layers running' layers' s → s ≡ On → AreWaiting h (act_in rows) (k + 1) running'
    wait_answer t x answer here running' layers layers' TooMany is e = absurd cc
    wait_answer t x answer here running' layers layers' Stuck is e = absurd cc
    wait_answer t x answer here running' layers layers' On (inl (none, same, kept)) e = subst (λ (l : List (Option Call)). AreWaiting h (act_in rows) (k + 1) l) (sym same) (waiting_none n registers h rows needs known k running waiting t x answer here none)
    wait_answer t x answer here running' layers layers' On (inr (c, layer, later, at, there, after, ran, went)) e = subst (λ (l : List (Option Call)). AreWaiting h (act_in rows) (k + 1) l) (sym ran) (waiting_some n registers h rows needs known k running waiting t x answer here c at)

-- what functions say, in the terms of a step
pub none_if : {X : Type 0} (o : Option X) → false ≡ is_some o → o ≡ None
none_if None e = refl
none_if (Some x) e = absurd cc

pub nothing_in : {B : Type 0} (v : Vec Stage B) → true ≡ (vec_len v == 0) → v.items ≡ []
nothing_in v e = go v.items (let zero = eqb-true (vec_len v) 0 (sym e) in let is = v.ok in omega (arith, zero, is))
  where
    go : (l : List Stage) → length l ≡ 0 → l ≡ []
    go [] e = refl
    go (x ∷ xs) e = absurd (omega (arith, e))

pub layer_is : {B : Type 0} (running told : List (Option Call)) (r k p : ℕ) (layer : Vec Stage B) (stages : List Stage)
    (o : Option (Vec Stage B)) (next : Vec Stage B)
    → told ≡ running → stages ≡ layer.items → IfSome o (λ v. IsLayerAfter told r k p stages v.items) → o ≡ Some next
    → IsLayerAfter running r k p layer.items next.items
layer_is {B} running told r k p layer stages o next same items after is =
    let a : IsLayerAfter told r k p stages next.items = subst (λ (x : Option (Vec Stage B)). IfSome x (λ v. IsLayerAfter told r k p stages v.items)) is after in
    subst (λ (l : List Stage). IsLayerAfter running r k p l next.items) items (subst (λ (l : List (Option Call)). IsLayerAfter l r k p stages next.items) same a)
