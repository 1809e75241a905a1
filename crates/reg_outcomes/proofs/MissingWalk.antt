-- Along a serial order each process does its script, and the turns tell what the history tells.
use Rattle.std.proofs.Common.{◌≡◌, ◌≢◌, inl, inr, ℕ, zero, suc, ◌+◌, ◌<◌, ◌≤◌, ◌↔◌, cond, List, [], ◌∷◌, ◌++◌, length}
use Rattle.std.proofs.Common.{map, take, replicate, refl, ap, ap₂, sym, ◌∙◌, subst, arith, append-nil, length-set}
use Rattle.std.proofs.Common.{ext_get_or, get_or-set_same, get_or-set_other}
use Rattle.std.specs.Prelude.{◌==◌, slice_get, slice_index}
use Rattle.std.specs.Option.{unwrap_or}
use Rattle.std.specs.List.{flat_map, range_with_len}
use Rattle.std.proofs.lemmas.Bool.{cases_eq, cases_order, eq-eqb, ne_eqb}
use Rattle.std.proofs.lemmas.List.{length-map, length-replicate}
use Rattle.reg_base.specs.declared.memory.Answer.{Answer}
use Rattle.reg_base.specs.declared.memory.Op.{Op}
use Rattle.reg_base.specs.declared.memory.Op.TheVariants.{Read}
use Rattle.reg_base.specs.declared.memory.OpId.{OpId}
use Rattle.reg_base.specs.Memory.{after, answer_of, memory}
use Rattle.reg_checkers.specs.declared.entries.Entry.{Entry}
use Rattle.reg_checkers.specs.History.{IsAt, IsCalled, IsFinished}
use Rattle.reg_checkers.specs.Orders.{IsSerial}
use Rattle.reg_checkers.specs.Progress.{op_of}
use Rattle.reg_checkers.proofs.Bridges.{zip_right}
use Rattle.reg_checkers.proofs.Histories.{answered_was_called}
use Rattle.reg_checkers.proofs.Places.{element_at, same_at, within}
use Rattle.reg_outcomes.specs.declared.told.ToldAnswer.{ToldAnswer}
use Rattle.reg_outcomes.specs.Told.{told_in, told_of, outcome_of}
use Rattle.reg_outcomes.proofs.Elements.{none_at_first, take_at}
use Rattle.reg_world.proofs.lists.Members.{map_append}
use Rattle.reg_world.proofs.one_memory.Replicas.{memory-append}
use Rattle.reg_outcomes.specs.Interleavings.{Leads, Nothing, Turn, Stage, IsInterleaving, first_stage, stage_after}
use Rattle.reg_outcomes.specs.Interleavings.{script_of}
use Rattle.reg_outcomes.proofs.ByProcess.{told_to, rises, part_after, by_process}
use Rattle.reg_outcomes.proofs.MissingCalls.{HasScripts}
use Rattle.reg_outcomes.proofs.MissingTold.{Answers, Calls, IsTold, told_first, told_one_more, answer_in, answers_in}
use Rattle.reg_outcomes.proofs.MissingTold.{history_told}
use Rattle.reg_outcomes.proofs.Stepping.{has_script}

take_next : {X : Type 0} (xs : List X) (k : ℕ) (x : X) → IsAt xs k x → take (suc k) xs ≡ take k xs ++ x ∷ []
take_next xs k x at = let one : suc k ≡ k + 1 = omega arith in ap (λ n. take n xs) one ∙ take_at xs k x at

pub length_of_script : (scripts : List (List Op)) (p : ℕ)
    → slice_index (map length scripts) p ≡ length (script_of scripts p)
length_of_script [] p = refl
length_of_script (s ∷ ss) zero = refl
length_of_script (s ∷ ss) (suc p) = length_of_script ss p

-- numbers above the same numbers
same_bound : (a b : ℕ) → ((m : ℕ) → m < a → m < b) → ((m : ℕ) → m < b → m < a) → a ≡ b
same_bound a b to from = elim (cases_order a b) [
  | inl e ↦ e
  | inr q ↦ elim q [ inl l ↦ (let bad : a < a = from a l in absurd (omega arith)) | inr l ↦ (let bad : b < b = to b l in absurd (omega arith)) ]
]

abbrev processes : List OpId → List ℕ
processes ids = map (λ (id : OpId). id.process) ids

-- A stage at which the first k operations of an order are behind, and no other.
record IsBehind (n registers : ℕ) (ids : List OpId) (ops : List Op) (asked : OpId → Op) (given : OpId → Answer) (k : ℕ) (s : Stage) : Type 0 where
  size : length s.next ≡ n
  next : (p m : ℕ) → (m < slice_index s.next p) ↔ ((j : ℕ) × (j < k) × IsAt ids j (op_of p m))
  memory : s.memory ≡ memory registers (take k ops)
  told : (p : ℕ) → told_to s.told p ≡ told_first asked given p (slice_index s.next p)

module _ (scripts : List (List Op)) (registers : ℕ) (h : List Entry) (has : HasScripts scripts registers h) (ids : List OpId) (serial : IsSerial registers h ids) (asked : OpId → Op) (calls : Calls h asked) (given : OpId → Answer) (answers : Answers h given) where
  abbrev n : ℕ
  n = length scripts

  abbrev ops : List Op
  ops = serial.legal.ops

  abbrev Behind : ℕ → Stage → Type 0
  Behind k s = IsBehind n registers ids ops asked given k s

  -- a finished operation is one of a script
  in_script : (id : OpId) → IsFinished h id → (op : Op) × IsAt (script_of scripts id.process) id.number op
  in_script id (at, x, is) = let c = answered_was_called n registers h has.history id at x is in (c.1, has.called id c.0 c.1 c.2)

  all_finished : (k : ℕ) (id : OpId) → IsAt ids k id → IsFinished h id
  all_finished k id at = elim (serial.selection.known k id at) [ inl fin ↦ fin | inr c ↦ has.finished id.process id.number c.1 (has.called id c.0 c.1 c.2) ]

  -- the next operation of the order is the next one of its process
  is_next : (k : ℕ) (s : Stage) (id : OpId) (op : Op) → Behind k s → IsAt ids k id → IsAt (script_of scripts id.process) id.number op → slice_index s.next id.process ≡ id.number
  is_next k s id op behind here at = elim (cases_order (slice_index s.next id.process) id.number) [
    | inl e ↦ e
    | inr q ↦ elim q [
      | inl less ↦
          let number = slice_index s.next id.process in
          let inside : id.number < length (script_of scripts id.process) = within (script_of scripts id.process) id.number op at in
          let other = element_at (script_of scripts id.process) number (omega (arith, inside, less)) in
          let there = serial.selection.finished (op_of id.process number) (has.finished id.process number other.0 other.1) in
          let before : there.0 < k = serial.own_order there.0 k (op_of id.process number) id there.1 here refl less in
          let bad : number < number = (behind.next id.process number).1 (there.0, before, there.1) in
          absurd (omega arith)
      | inr more ↦
          let there = (behind.next id.process id.number).0 more in
          let same = serial.selection.distinct there.0 k id there.2 here in
          let lt = there.1 in
          absurd (omega (arith, lt, same))
    ]
  ]

  first_behind : Behind 0 (first_stage n registers)
  first_behind = record {
    size = length-replicate n 0;
    next = λ p m. (λ lt. let e = none_at_first n p in absurd (omega (arith, lt, e)), λ there. let lt = there.1 in absurd (omega (arith, lt)));
    memory = refl;
    told = λ p. sym (ap (told_first asked given p) (none_at_first n p));
  }

  module _ (k : ℕ) (s : Stage) (turns : List ℕ) (leads : Leads scripts registers turns s) (behind : Behind k s) (id : OpId) (op : Op) (at : ℕ) (here : IsAt ids k id) (its : IsAt ops k op) (call : IsCalled h id at op) where
    abbrev mover : ℕ
    mover = id.process

    abbrev now : Stage
    now = stage_after mover op s

    next_is : slice_index s.next mover ≡ id.number
    next_is = is_next k s id op behind here (has.called id at op call)

    id_is : op_of mover (slice_index s.next mover) ≡ id
    id_is = λ i. record { process = mover; number = next_is i }

    inside : mover < length s.next
    inside = let l = has_script scripts mover id.number op (has.called id at op call) in let e = behind.size in omega (arith, l, e)

    one_more : slice_index now.next mover ≡ slice_index s.next mover + 1
    one_more = get_or-set_same s.next mover (slice_index s.next mover + 1) 0 inside

    no_more : (q : ℕ) → q ≢ mover → slice_index now.next q ≡ slice_index s.next q
    no_more q away = get_or-set_other s.next mover q (slice_index s.next mover + 1) 0 away

    to_next : (q m : ℕ) → m < slice_index now.next q → (j : ℕ) × (j < suc k) × IsAt ids j (op_of q m)
    to_next q m lt = elim (cases_eq q mover) [
      | inl same ↦ elim (cases_eq m id.number) [
        | inl e ↦ let ids_same : id ≡ op_of q m = (λ i. record { process = sym same i; number = sym e i }) in (k, omega arith, subst (λ z. IsAt ids k z) ids_same here)
        | inr ne ↦
            let more : slice_index now.next q ≡ id.number + 1 = ap (slice_index now.next) same ∙ (one_more ∙ ap (λ z. z + 1) next_is) in
            let old : slice_index s.next q ≡ id.number = ap (slice_index s.next) same ∙ next_is in
            let there = (behind.next q m).0 (omega (arith, lt, more, old, ne)) in
            let less = there.1 in
            (there.0, omega (arith, less), there.2)
      ]
      | inr away ↦
          let e = no_more q away in
          let there = (behind.next q m).0 (omega (arith, lt, e)) in
          let less = there.1 in
          (there.0, omega (arith, less), there.2)
    ]

    grows : (q : ℕ) → slice_index s.next q ≤ slice_index now.next q
    grows q = elim (cases_eq q mover) [
      | inl same ↦
          let a : slice_index now.next q ≡ slice_index now.next mover = ap (slice_index now.next) same in
          let b : slice_index s.next q ≡ slice_index s.next mover = ap (slice_index s.next) same in
          let e = one_more in
          omega (arith, a, b, e)
      | inr away ↦ let e = no_more q away in omega (arith, e)
    ]

    from_next : (q m j : ℕ) → j < suc k → IsAt ids j (op_of q m) → m < slice_index now.next q
    from_next q m j lt there = elim (cases_eq j k) [
      | inl e ↦
          let same : op_of q m ≡ id = same_at ids k (op_of q m) id (subst (λ i. IsAt ids i (op_of q m)) e there) here in
          let a : slice_index now.next q ≡ slice_index now.next mover = ap (λ (z : OpId). slice_index now.next z.process) same in
          let b : m ≡ id.number = ap (λ (z : OpId). z.number) same in
          let e = one_more in
          let c = next_is in
          omega (arith, a, b, c, e)
      | inr ne ↦ let old = (behind.next q m).1 (j, omega (arith, lt, ne), there) in let g = grows q in omega (arith, old, g)
    ]

    answer_is : given (op_of mover (slice_index s.next mover)) ≡ answer_of op s.memory
    answer_is =
        let fin = all_finished k id here in
        let right = serial.legal.right k id op fin.0 fin.1 here its fin.2 in
        ap given id_is ∙ answers id fin.0 fin.1 fin.2 ∙ right ∙ ap (answer_of op) (sym behind.memory)

    asked_is : asked (op_of mover (slice_index s.next mover)) ≡ op
    asked_is = ap asked id_is ∙ calls id at op call

    told_now : (q : ℕ) → told_to now.told q ≡ told_to s.told q ++ cond (mover == q) (told_in op (op_of mover (slice_index s.next mover)) (answer_of op s.memory)) []
    told_now q = part_after n q op (op_of mover (slice_index s.next mover)) (answer_of op s.memory) s.told (rises scripts registers turns s leads)

    told_here : told_to now.told mover ≡ told_first asked given mover (slice_index now.next mover)
    told_here =
        let number = slice_index s.next mover in
        told_now mover ∙ ap (λ b. told_to s.told mover ++ cond b (told_in op (op_of mover number) (answer_of op s.memory)) []) (eq-eqb mover mover refl)
        ∙ ap₂ (λ (l : List ToldAnswer) (x : Answer). l ++ told_in op (op_of mover number) x) (behind.told mover) (sym answer_is)
        ∙ ap (λ (o : Op). told_first asked given mover number ++ told_in o (op_of mover number) (given (op_of mover number))) (sym asked_is)
        ∙ sym (told_one_more asked given mover number) ∙ ap (told_first asked given mover) (sym one_more)

    told_all : (q : ℕ) → told_to now.told q ≡ told_first asked given q (slice_index now.next q)
    told_all q = elim (cases_eq q mover) [
      | inl same ↦ subst (λ r. told_to now.told r ≡ told_first asked given r (slice_index now.next r)) (sym same) told_here
      | inr away ↦
          told_now q ∙ ap (λ b. told_to s.told q ++ cond b (told_in op (op_of mover (slice_index s.next mover)) (answer_of op s.memory)) []) (ne_eqb mover q (λ e. away (sym e)))
          ∙ append-nil (told_to s.told q) ∙ behind.told q ∙ ap (told_first asked given q) (sym (no_more q away))
    ]

    turn : Leads scripts registers (turns ++ mover ∷ []) now
    turn = Turn mover op leads (subst (λ m. IsAt (script_of scripts mover) m op) (sym next_is) (has.called id at op call))

    behind_now : Behind (suc k) now
    behind_now = record {
      size = length-set s.next mover (slice_index s.next mover + 1) ∙ behind.size;
      next = λ q m. (to_next q m, λ there. from_next q m there.0 there.1 there.2);
      memory = ap (after op) behind.memory ∙ sym (ap (memory registers) (take_next ops k op its) ∙ memory-append (take k ops) (op ∷ []) (replicate registers 0));
      told = told_all;
    }

  -- the stage after the first k operations
  walk : (k : ℕ) → k ≤ length ids → (s : Stage) × Leads scripts registers (processes (take k ids)) s × Behind k s
  walk zero le = (first_stage n registers, Nothing, first_behind)
  walk (suc k) le =
      let before = walk k (omega (arith, le)) in
      let id = element_at ids k (omega (arith, le)) in
      let op = zip_right (λ i o. (at : ℕ) × IsCalled h i at o) ids ops k id.0 serial.legal.called id.1 in
      let turns : processes (take (suc k) ids) ≡ processes (take k ids) ++ id.0.process ∷ [] = ap processes (take_next ids k id.0 id.1) ∙ map_append (λ (i : OpId). i.process) (take k ids) (id.0 ∷ []) in (
        stage_after id.0.process op.0 before.0,
        subst (λ t. Leads scripts registers t (stage_after id.0.process op.0 before.0)) (sym turns) (turn k before.0 (processes (take k ids)) before.1 before.2 id.0 op.0 op.2.0 id.1 op.1 op.2.1),
        behind_now k before.0 (processes (take k ids)) before.1 before.2 id.0 op.0 op.2.0 id.1 op.1 op.2.1,
      )

  module _ (last : Stage) (behind : Behind (length ids) last) where
    -- as many operations of a process are behind as it finished
    finished_are : (p m : ℕ) → (m < slice_index last.next p) ↔ IsFinished h (op_of p m)
    finished_are p m = (
      λ lt. let there = (behind.next p m).0 lt in all_finished there.0 (op_of p m) there.2,
      λ fin. let there = serial.selection.finished (op_of p m) fin in (behind.next p m).1 (there.0, within ids there.0 (op_of p m) there.1, there.1),
    )

    all_done : (p : ℕ) → slice_index last.next p ≡ length (script_of scripts p)
    all_done p =
        same_bound (slice_index last.next p) (length (script_of scripts p))
        (λ m lt. let op = in_script (op_of p m) ((finished_are p m).0 lt) in within (script_of scripts p) m op.0 op.1)
        (λ m lt. let op = element_at (script_of scripts p) m lt in (finished_are p m).1 (has.finished p m op.0 op.1))

    used_up : last.next ≡ map length scripts
    used_up = ext_get_or 0 last.next (map length scripts) (behind.size ∙ sym (length-map scripts length)) (λ p lt. all_done p ∙ sym (length_of_script scripts p))

    told_same : (p : ℕ) → told_to last.told p ≡ told_of p h
    told_same p =
        let t : IsTold asked given p h = history_told n registers asked given p h has.history calls answers in
        let count : slice_index last.next p ≡ t.count = same_bound (slice_index last.next p) t.count (λ m lt. (t.done m).1 ((finished_are p m).0 lt)) (λ m lt. (finished_are p m).1 ((t.done m).0 lt)) in
        behind.told p ∙ ap (told_first asked given p) count ∙ sym t.told

    tells : (turns : List ℕ) → Leads scripts registers turns last → last.told ≡ outcome_of n h
    unfolding outcome_of
    tells turns leads = by_process scripts registers turns last leads ∙ ap (λ (f : ℕ → List ToldAnswer). flat_map f (range_with_len 0 n)) (λ i p. told_same p i)

-- the turns of a serial order are an interleaving with the outcome of the history
pub interleaved : (scripts : List (List Op)) (registers : ℕ) (h : List Entry) → HasScripts scripts registers h
    → (ids : List OpId) → IsSerial registers h ids → (told : List ToldAnswer) → outcome_of (length scripts) h ≡ told
    → (turns : List ℕ) × IsInterleaving scripts registers (record { turns = turns; told = told })
interleaved scripts registers h has ids serial told is =
    let asked : OpId → Op = λ id. unwrap_or (slice_get (script_of scripts id.process) id.number) (Read 0) in
    let calls : Calls h asked = (λ id at op c. ap (λ o. unwrap_or o (Read 0)) (has.called id at op c)) in
    let given : OpId → Answer = answer_in h in
    let answers : Answers h given = answers_in (length scripts) registers h has.history in
    let end = walk scripts registers h has ids serial asked calls given answers (length ids) (omega arith) in (
      processes (take (length ids) ids),
      record {
        last = end.0;
        leads = end.1;
        used_up = used_up scripts registers h has ids serial asked calls given answers end.0 end.2;
        tells = tells scripts registers h has ids serial asked calls given answers end.0 end.2 (processes (take (length ids) ids)) end.1 ∙ is;
      },
    )
