-- The first events of a run that accepts all: they are accepted, and where later ones answer nothing all operations
-- that are finished are finished by them.
use Rattle.std.proofs.Common.{ℕ, ◌≡◌, ◌+◌, ◌-◌, ◌≤◌, List, [], ◌∷◌, ◌++◌, length, take, drop, Option, None, Some, refl}
use Rattle.std.proofs.Common.{sym, ap, ◌∙◌, subst, inl, inr, arith, append_assoc, append-nil, length-append}
use Rattle.std.proofs.Common.{length-take-le, take-append-drop, take_all}
use Rattle.std.proofs.lemmas.Bool.{cases_order}
use Rattle.reg_base.specs.declared.memory.Op.{Op}
use Rattle.reg_base.specs.declared.memory.OpId.{OpId}
use Rattle.reg_base.specs.Shape.{Extent}
use Rattle.reg_front.specs.declared.starts.Start.{Start}
use Rattle.reg_checkers.specs.declared.entries.Entry.{Entry}
use Rattle.reg_checkers.specs.declared.entries.Entry.TheVariants.{Called, Answered}
use Rattle.reg_checkers.specs.History.{event_of}
use Rattle.reg_process.specs.declared.events.Event.{Event}
use Rattle.reg_process.specs.declared.steps.Reply.{Reply}
use Rattle.reg_process.specs.declared.steps.Step.{Step}
use Rattle.reg_process.specs.declared.steps.Step.TheVariants.{Call, Take, Tick}
use Rattle.reg_process.specs.Process.{State, Outcome, step}
use Rattle.reg_trace.proofs.Moving.{first_moved}
use Rattle.reg_world.proofs.code.Ahead.{same_extent}
use Rattle.reg_world.proofs.run.Along.{run_parts}
use Rattle.reg_world.specs.World.{World, answers_in, calls_in, empty_world, happens, move_of, moved, op_id, run, whole}
use Rattle.reg_world.specs.Worlds.{Made, run_in}
use Rattle.reg_show.specs.declared.shortening.Finished.{Finished}
use Rattle.reg_show.specs.Shorts.{KeepsAnswers, finished_by, finished_from, finished_of, last_after, up_to_end}
use Rattle.reg_show.specs.Shorts.{up_to_last_answer}

-- ---- entries of events from a number on

abbrev pub AllFrom : ℕ → List Entry → Type 0
AllFrom k [] = Unit {0}
AllFrom k (e ∷ es) = (k ≤ event_of e) × AllFrom k es

all_joined : (k : ℕ) (xs ys : List Entry) → AllFrom k xs → AllFrom k ys → AllFrom k (xs ++ ys)
all_joined k [] ys all others = others
all_joined k (x ∷ xs) ys all others = (all.0, all_joined k xs ys all.1 others)

call_from : (k at : ℕ) (id : OpId) (st : Step) → k ≤ at → AllFrom k (calls_in at id st)
call_from k at id (Call op) le = (le, tt)
call_from k at id (Take from frame) le = tt
call_from k at id Tick le = tt

answer_from : (k at : ℕ) (id : OpId) (reply : Option Reply) → k ≤ at → AllFrom k (answers_in at id reply)
answer_from k at id None le = tt
answer_from k at id (Some reply) le = (le, tt)

-- the history is the old one, and then entries of events from this number on
abbrev GrowsFrom : ℕ → List Entry → List Entry → Type 0
GrowsFrom k old new = (rest : List Entry) × (new ≡ old ++ rest) × AllFrom k rest

grown : (start : Op → ℕ → Start) (k : ℕ) (w : World) (e : Event) (m : Option (ℕ × Step)) → k ≤ length w.accepted
    → GrowsFrom k w.history (moved start w e m).history
grown start k w e None le = ([], sym (append-nil w.history), tt)
grown start k w e (Some m) le =
    let S : State = (w.nodes m.0).state in
    let R : State × Outcome = step start S m.1 in
    let C = calls_in (length w.accepted) (op_id m.0 S.calls) m.1 in
    let A = answers_in (length w.accepted) (op_id m.0 (R.0.calls - 1)) R.1.reply in
    (C ++ A, append_assoc w.history C A, all_joined k C A (call_from k (length w.accepted) (op_id m.0 S.calls) m.1 le) (answer_from k (length w.accepted) (op_id m.0 (R.0.calls - 1)) R.1.reply le))

longer : (start : Op → ℕ → Start) (k : ℕ) (w : World) (e : Event) (m : Option (ℕ × Step)) → k ≤ length w.accepted
    → k ≤ length (moved start w e m).accepted
longer start k w e None le = le
longer start k w e (Some m) le = let l : length (w.accepted ++ e ∷ []) ≡ length w.accepted + 1 = length-append w.accepted (e ∷ []) in omega (arith, l, le)

later : (start : Op → ℕ → Start) (n registers k : ℕ) (es : List Event) (w : World) → k ≤ length w.accepted
    → GrowsFrom k w.history (run start n registers es w).history
later start n registers k [] w le = ([], sym (append-nil w.history), tt)
later start n registers k (e ∷ es) w le =
    let m = move_of n registers w e in
    let first = grown start k w e m le in
    let more = later start n registers k es (happens start n registers w e) (longer start k w e m le) in
    (first.0 ++ more.0, more.1 ∙ (ap (λ (l : List Entry). l ++ more.0) first.1 ∙ append_assoc w.history first.0 more.0), all_joined k first.0 more.0 first.2 more.2)

-- ---- what such entries finish

pub up_to_right : (xs ys : List Entry) → up_to_last_answer ys ≤ up_to_last_answer (xs ++ ys)
up_to_right [] ys = omega arith
up_to_right (x ∷ xs) ys = let r = up_to_right xs ys in omega (arith, r)

pub finishes_none : (p k : ℕ) (es : List Entry) (last : Option Op) → up_to_last_answer es ≤ k → AllFrom k es
    → finished_from p last es ≡ []
finishes_none p k [] last few all = refl
finishes_none p k (Called at id op ∷ es) last few all =
    finishes_none p k es (last_after p last (Called at id op)) (omega (arith, few)) all.1
finishes_none p k (Answered at id answer ∷ es) last few all =
    let here : k ≤ at = all.0 in absurd (omega (arith, few, here))

finishes_no_more : (p : ℕ) (xs ys : List Entry) (last : Option Op) → ((l : Option Op) → finished_from p l ys ≡ [])
    → finished_from p last (xs ++ ys) ≡ finished_from p last xs
finishes_no_more p [] ys last none = none last
finishes_no_more p (x ∷ xs) ys last none =
    ap (λ (l : List Finished). finished_by p last x ++ l) (finishes_no_more p xs ys (last_after p last x) none)

-- ---- the beginning of a run

pub accepted_first : (start : Op → ℕ → Start) (n registers : ℕ) (es more : List Event) (w : World)
    → (run start n registers (es ++ more) w).accepted ≡ w.accepted ++ (es ++ more)
    → (run start n registers es w).accepted ≡ w.accepted ++ es
accepted_first start n registers [] more w all = sym (append-nil w.accepted)
accepted_first start n registers (e ∷ es) more w all =
    let first = first_moved start n registers e (es ++ more) w (move_of n registers w e) refl all in
    let rest = accepted_first start n registers es more (happens start n registers w e) first.2 in
    let now : (happens start n registers w e).accepted ≡ w.accepted ++ e ∷ [] = ap (λ (m : Option (ℕ × Step)). (moved start w e m).accepted) first.1 in
    rest ∙ (ap (λ (l : List Event). l ++ es) now ∙ append_assoc w.accepted (e ∷ []) es)

module _ (start : Op → ℕ → Start) (n registers : ℕ) where
  pub begun : (es more : List Event) → (whole start n registers (es ++ more)).accepted ≡ es ++ more
      → (whole start n registers es).accepted ≡ es
  begun es more all = accepted_first start n registers es more (empty_world n registers) all

  same_first : (p : ℕ) (es more : List Event) → (whole start n registers es).accepted ≡ es → up_to_last_answer (whole start n registers (es ++ more)).history ≤ length es
      → finished_of p (whole start n registers es).history ≡ finished_of p (whole start n registers (es ++ more)).history
  same_first p es more accepted few =
      let w : World = whole start n registers es in
      let parts : whole start n registers (es ++ more) ≡ run start n registers more w = run_parts start n registers es more (empty_world n registers) in
      let size : length w.accepted ≡ length es = ap length accepted in
      let rest = later start n registers (length es) more w (omega (arith, size)) in
      let is : (whole start n registers (es ++ more)).history ≡ w.history ++ rest.0 = ap (λ (v : World). v.history) parts ∙ rest.1 in
      let few_there : up_to_last_answer (w.history ++ rest.0) ≤ length es = subst (λ (h : List Entry). up_to_last_answer h ≤ length es) is few in
      let right = up_to_right w.history rest.0 in
      let none : (l : Option Op) → finished_from p l rest.0 ≡ [] = λ l. finishes_none p (length es) rest.0 l (omega (arith, right, few_there)) rest.2 in
      sym (ap (λ (h : List Entry). finished_of p h) is ∙ finishes_no_more p w.history rest.0 None none)

  -- all that is finished is finished by the events up to the last answer, and they are accepted
  module _ (es : List Event) (all : (whole start n registers es).accepted ≡ es) (k : ℕ) where
    parted : take k es ++ drop k es ≡ es
    parted = take-append-drop k es

    pub first_accepted : (whole start n registers (take k es)).accepted ≡ take k es
    first_accepted = begun (take k es) (drop k es) (subst (λ (l : List Event). (whole start n registers l).accepted ≡ l) (sym parted) all)

    pub first_answers : up_to_last_answer (whole start n registers es).history ≤ k → (p : ℕ) → finished_of p (whole start n registers (take k es)).history ≡ finished_of p (whole start n registers es).history
    first_answers few p = elim (cases_order k (length es)) [
      | inl same ↦ whole_list (omega (arith, same))
      | inr other ↦ elim other [
        | inl less ↦
            let size : length (take k es) ≡ k = length-take-le k es (omega (arith, less)) in
            let there : up_to_last_answer (whole start n registers (take k es ++ drop k es)).history ≤ length (take k es) = subst (λ (l : List Event). up_to_last_answer (whole start n registers l).history ≤ length (take k es)) (sym parted) (omega (arith, size, few)) in
            same_first p (take k es) (drop k es) first_accepted there ∙ ap (λ (l : List Event). finished_of p (whole start n registers l).history) parted
        | inr more ↦ whole_list (omega (arith, more))
      ]
    ]
      where
        whole_list : length es ≤ k → finished_of p (whole start n registers (take k es)).history ≡ finished_of p (whole start n registers es).history
        whole_list le = ap (λ (l : List Event). finished_of p (whole start n registers l).history) (take_all k es le)

-- the events of a play up to its last answer keep all answers
pub beginning_keeps : (start : Op → ℕ → Start) (shape : Extent) (made : Made) → made.processes ≡ shape.processes
    → made.registers ≡ shape.registers → (run_in start made).accepted ≡ made.accepted
    → made.history ≡ (run_in start made).history
    → KeepsAnswers start shape made.history (up_to_end made)
beginning_keeps start shape made processes registers all history =
    let own : Extent = record { processes = made.processes; registers = made.registers } in
    let k = up_to_last_answer made.history in
    let few : up_to_last_answer (run_in start made).history ≤ k = subst (λ (h : List Entry). up_to_last_answer h ≤ k) history (omega arith) in
    let answers = first_answers start made.processes made.registers made.accepted all k few in
    let keeps : KeepsAnswers start own made.history (up_to_end made) = record {
      accepted = first_accepted start made.processes made.registers made.accepted all k;
      answers = λ p lt. answers p ∙ ap (λ (h : List Entry). finished_of p h) (sym history);
    } in
    subst (λ (s : Extent). KeepsAnswers start s made.history (up_to_end made)) (same_extent own shape processes registers) keeps
