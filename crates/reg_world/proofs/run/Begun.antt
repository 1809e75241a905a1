-- What a run keeps of each of its beginnings: all that was told, and that what is told later is of later events.
use Rattle.std.proofs.Common.{◌≡◌, ℕ, ◌+◌, ◌-◌, ◌≤◌, List, [], ◌∷◌, ◌++◌, length, map, Option, Some, None, refl, sym}
use Rattle.std.proofs.Common.{ap, ◌∙◌, subst, inl, inr, arith, append_assoc, length-append}
use Rattle.std.proofs.lemmas.Bool.{cases_order}
use Rattle.std.proofs.lemmas.List.{append-nil}
use Rattle.reg_base.specs.declared.memory.Op.{Op}
use Rattle.reg_base.specs.declared.memory.OpId.{OpId}
use Rattle.reg_base.specs.Order.{In}
use Rattle.reg_base.proofs.Lists.{in_cases}
use Rattle.reg_front.specs.declared.starts.Start.{Start}
use Rattle.reg_process.specs.declared.steps.Reply.{Reply}
use Rattle.reg_process.specs.declared.steps.Step.{Step}
use Rattle.reg_process.specs.declared.steps.Step.TheVariants.{Call, Take, Tick}
use Rattle.reg_process.specs.Process.{State, Outcome, step}
use Rattle.reg_checkers.specs.declared.entries.Entry.{Entry}
use Rattle.reg_checkers.specs.History.{event_of}
use Rattle.reg_process.specs.declared.events.Event.{Event}
use Rattle.reg_world.specs.declared.order.First.{First}
use Rattle.reg_world.specs.declared.order.CopyRead.{CopyRead}
use Rattle.reg_world.specs.Nodes.{unseen}
use Rattle.reg_world.specs.World.{World, op_id, calls_in, answers_in, casts_in, reads_in, first_of, delivered_of}
use Rattle.reg_world.specs.World.{move_of, moved, happens, empty_world, whole}
use Rattle.reg_world.proofs.lists.Members.{from_end}
use Rattle.reg_world.proofs.run.Along.{run_parts, one_more}

module _ (start : Op → ℕ → Start) (n registers : ℕ) where
  -- a world that its accepted events make
  abbrev IsAgain : World → Type 0
  IsAgain w = whole start n registers w.accepted ≡ w

  pub again_moved : (w : World) (e : Event) (m : Option (ℕ × Step)) → move_of n registers w e ≡ m → IsAgain w
      → IsAgain (moved start w e m)
  again_moved w e None is h = h
  again_moved w e (Some m) is h = run_parts start n registers w.accepted (e ∷ []) (empty_world n registers) ∙ (ap (λ z. happens start n registers z e) h ∙ ap (moved start w e) is)

  pub again : (events : List Event) → IsAgain (whole start n registers events)
  again =
      from_end (λ es. IsAgain (whole start n registers es)) refl
      (λ es e h. let w = whole start n registers es in subst IsAgain (sym (one_more start n registers es e)) (again_moved w e (move_of n registers w e) refl h))

call_event : (at : ℕ) (id : OpId) (st : Step) (x : Entry) → In x (calls_in at id st) → event_of x ≡ at
call_event at id (Call op) x (inl e) = ap event_of e
call_event at id (Call op) x (inr f) = absurd f
call_event at id (Take a f) x i = absurd i
call_event at id Tick x i = absurd i

answer_event : (at : ℕ) (id : OpId) (o : Option Reply) (x : Entry) → In x (answers_in at id o) → event_of x ≡ at
answer_event at id None x i = absurd i
answer_event at id (Some y) x (inl e) = ap event_of e
answer_event at id (Some y) x (inr f) = absurd f

-- u is a beginning of w
pub record IsBeginning (u w : World) : Type 0 where
  pub order : (rest : List First) × (w.order ≡ u.order ++ rest)
  pub reads : (rest : List CopyRead) × (w.reads ≡ u.reads ++ rest)
  pub history : (rest : List Entry) × (w.history ≡ u.history ++ rest)
      × ((x : Entry) → In x rest → length u.accepted ≤ event_of x)
  pub count : length u.accepted ≤ length w.accepted

begins_itself : (w : World) → IsBeginning w w
begins_itself w = record {
  order = ([], sym (append-nil w.order));
  reads = ([], sym (append-nil w.reads));
  history = ([], sym (append-nil w.history), λ x i. absurd i);
  count = omega arith;
}

begins_moved : (start : Op → ℕ → Start) (u w : World) (e : Event) (m : Option (ℕ × Step)) → IsBeginning u w
    → IsBeginning u (moved start w e m)
begins_moved start u w e None B = B
begins_moved start u w e (Some m) B =
    let S : State = (w.nodes m.0).state in
    let R : State × Outcome = step start S m.1 in
    let At = length w.accepted in
    let Old = op_id m.0 S.calls in
    let New = op_id m.0 (R.0.calls - 1) in
    let Casts = w.casts ++ casts_in Old m.1 R.1.cast in
    let F = map (first_of Casts At) (unseen (map delivered_of w.order) R.1.delivered) in
    let N = reads_in Casts New R.1.reply in
    let C = calls_in At Old m.1 in
    let A = answers_in At New R.1.reply in
    let more = length-append w.accepted (e ∷ []) in
    let le = B.count in
    record {
      order = (B.order.0 ++ F, ap (λ l. l ++ F) B.order.1 ∙ append_assoc u.order B.order.0 F);
      reads = (B.reads.0 ++ N, ap (λ l. l ++ N) B.reads.1 ∙ append_assoc u.reads B.reads.0 N);
      history = (
        (B.history.0 ++ C) ++ A,
        ap (λ l. (l ++ C) ++ A) B.history.1 ∙ (ap (λ l. l ++ A) (append_assoc u.history B.history.0 C) ∙ append_assoc u.history (B.history.0 ++ C) A),
        λ x i. elim (in_cases x (B.history.0 ++ C) A i) [
          | inl j ↦ elim (in_cases x B.history.0 C j) [
            | inl k ↦ B.history.2 x k
            | inr k ↦ let z = call_event At Old m.1 x k in omega (arith, z, le)
          ]
          | inr j ↦ let z = answer_event At New R.1.reply x j in omega (arith, z, le)
        ],
      );
      count = omega (arith, le, more);
    }

abbrev Begun : (Op → ℕ → Start) → ℕ → ℕ → ℕ → World → Type 0
Begun start n registers t w = (before : List Event) × (length (whole start n registers before).accepted ≡ t) × IsBeginning (whole start n registers before) w

-- a run was once as long as each number up to its length
pub begun : (start : Op → ℕ → Start) (n registers : ℕ) (events : List Event) (t : ℕ)
    → t ≤ length (whole start n registers events).accepted → Begun start n registers t (whole start n registers events)
begun start n registers =
    from_end (λ es. (t : ℕ) → t ≤ length (whole start n registers es).accepted → Begun start n registers t (whole start n registers es))
    (λ t le. ([], (let z : 0 ≡ t = omega arith in z), begins_itself (whole start n registers [])))
    (λ es e h t le.
    let w = whole start n registers es in
    let m = move_of n registers w e in
    let next = one_more start n registers es e in
    elim (cases_order t (length (whole start n registers (es ++ e ∷ [])).accepted)) [
      | inl same ↦ (es ++ e ∷ [], sym same, begins_itself (whole start n registers (es ++ e ∷ [])))
      | inr other ↦ elim other [
        | inl less ↦
            let longest = at_most_one w e m in
            let size = ap (λ (z : World). length z.accepted) next in
            let r = h t (omega (arith, less, longest, size)) in
            (r.0, r.1, subst (IsBeginning (whole start n registers r.0)) (sym next) (begins_moved start (whole start n registers r.0) w e m r.2))
        | inr more ↦ absurd (omega (arith, more, le))
      ]
    ])
  where
    at_most_one : (w : World) (e : Event) (m : Option (ℕ × Step)) → length (moved start w e m).accepted ≤ length w.accepted + 1
    at_most_one w e None = omega arith
    at_most_one w e (Some m) = let z = length-append w.accepted (e ∷ []) in omega (arith, z)
