-- A history stands as the rows of its entries, each under the number of its own process.
use Rattle.std.proofs.Common.{◌≡◌, ◌≢◌, ◌⊎◌, inl, inr, ℕ, zero, suc, ◌<◌, ◌≤◌, List, [], ◌∷◌, ◌++◌, length, take}
use Rattle.std.proofs.Common.{get_or, set, Some, None, refl, ap, sym, ◌∙◌, subst, arith}
use Rattle.std.specs.Prelude.{slice_set}
use Rattle.std.proofs.lemmas.List.{get_or-set_same, get_or-set_other}
use Rattle.std.proofs.lemmas.Option.{same_Some}
use Rattle.reg_base.specs.declared.memory.OpId.{OpId}
use Rattle.reg_base.specs.declared.memory.Op.{Op}
use Rattle.reg_base.specs.declared.memory.Answer.{Answer as Reply}
use Rattle.reg_base.specs.Memory.{register_of}
use Rattle.reg_checkers.specs.declared.entries.Entry.{Entry}
use Rattle.reg_checkers.specs.declared.entries.Entry.TheVariants.{Called, Answered}
use Rattle.reg_checkers.specs.History.{IsAt, IsFinished, IsHistory, MayAnswer, MayCall, WasCalled}
use Rattle.reg_checkers.proofs.Bridges.{zip_right}
use Rattle.reg_checkers.proofs.Histories.{call_is}
use Rattle.reg_checkers.proofs.OneMore.{pushed}
use Rattle.reg_checkers.proofs.Places.{element_at, in_take}
use Rattle.reg_judge.specs.declared.rulings.rows.Row.{Row}
use Rattle.reg_judge.specs.declared.rulings.rows.Step.{Step}
use Rattle.reg_judge.specs.declared.rulings.rows.Step.TheVariants.{Call, Answer}
use Rattle.reg_judge.specs.declared.rulings.seats.Naming.TheVariants.{Own}
use Rattle.reg_judge.specs.Reported.{AreRowsOf, IsRegisterOf, IsRowOf}
use Rattle.reg_judge.specs.Standing.{IsStood, OneMore, OneMore-by, Stands, Nothing, More, act_op, no_calls}
use Rattle.reg_judge.proofs.Agreeing.{Seats, stood_many}
use Rattle.reg_judge.proofs.Linking.{zip_length}
use Rattle.reg_judge.proofs.Seating.{is_new, take_all}

take_next : {X : Type 0} (xs : List X) (i : ℕ) (x : X) → IsAt xs i x → take (suc i) xs ≡ take i xs ++ x ∷ []
take_next [] i x at = absurd cc
take_next (y ∷ xs) zero x at = ap (λ z. z ∷ []) (same_Some y x at)
take_next (y ∷ xs) (suc i) x at = ap (λ l. y ∷ l) (take_next xs i x at)

nothing : {X : Type 0} (k : ℕ) (x : X) → IsAt [] k x → ⊥
nothing k x at = cc

-- what is under way was called last by its process
abbrev IsLast : List Entry → Seats → OpId → Type 0
IsLast es held id =
    (key : ℕ) × (get_or held id.process None ≡ Some (record { id = id; key = key })) × IsRegisterOf es id key

abbrev AreLast : List Entry → Seats → Type 0
AreLast es held = (id : OpId) → WasCalled es id → ¬ IsFinished es id → IsLast es held id

still_finished : (es : List Entry) (e : Entry) (id : OpId) → IsFinished es id → IsFinished (es ++ e ∷ []) id
still_finished es e id (at, answer, was) = (at, answer, (pushed es e).old (Answered at id answer) was)

still_last : (es : List Entry) (e : Entry) (held after : Seats) (id : OpId)
    → get_or after id.process None ≡ get_or held id.process None → IsLast es held id → IsLast (es ++ e ∷ []) after id
still_last es e held after id same (key, has, (at, op, called, on)) =
    (key, same ∙ has, (at, op, (pushed es e).old (Called at id op) called, on))

last_call : (n registers : ℕ) (es : List Entry) (held : Seats) (at p key : ℕ) (id : OpId) (op : Op)
    → MayCall n registers es at id op → length held ≡ n → p ≡ id.process → key ≡ register_of op → AreLast es held
    → AreLast (es ++ Called at id op ∷ []) (slice_set held p (Some (record { id = id; key = key })))
last_call n registers es held at p key id op may many here on are other (s, o, called) running =
    go ((pushed es (Called at id op)).cases (Called s other o) called)
  where
    still : ¬ IsFinished es other
    still was = running (still_finished es (Called at id op) other was)

    apart : WasCalled es other → other.process ≢ p
    apart was same = still (may.idle other (same ∙ here) was)

    go : ((k : ℕ) × IsAt es k (Called s other o)) ⊎ (Called s other o ≡ Called at id op) → IsLast (es ++ Called at id op ∷ []) (slice_set held p (Some (record { id = id; key = key }))) other
    go (inl old) = still_last es (Called at id op) held (set held p (Some (record { id = id; key = key }))) other (get_or-set_other held p other.process (Some (record { id = id; key = key })) None (apart (s, o, old))) (are other (s, o, old) still)
    go (inr new) =
        let same : id ≡ other = cc in
        let inside = may.process in
        subst (λ (x : OpId). IsLast (es ++ Called at id op ∷ []) (slice_set held p (Some (record { id = id; key = key }))) x) same (
          key,
          ap (λ (q : ℕ). get_or (set held p (Some (record { id = id; key = key }))) q None) (sym here) ∙ get_or-set_same held p (Some (record { id = id; key = key })) None (omega (arith, inside, here, many)),
          (at, op, (pushed es (Called at id op)).new, on),
        )

last_answer : (es : List Entry) (held : Seats) (at : ℕ) (id : OpId) (answer : Reply) → AreLast es held
    → AreLast (es ++ Answered at id answer ∷ []) held
last_answer es held at id answer are other (s, o, called) running =
    go ((pushed es (Answered at id answer)).cases (Called s other o) called)
  where
    go : ((k : ℕ) × IsAt es k (Called s other o)) ⊎ (Called s other o ≡ Answered at id answer) → IsLast (es ++ Answered at id answer ∷ []) held other
    go (inl old) = still_last es (Answered at id answer) held held other refl (are other (s, o, old) (λ was. running (still_finished es (Answered at id answer) other was)))
    go (inr new) = absurd cc

module _ (n registers : ℕ) (h : List Entry) (good : IsHistory n registers h) (rows : List Row) (are : AreRowsOf h rows) where
  -- the first entries stand as the first rows
  record Stood (i : ℕ) : Type 0 where
    held : Seats
    stands : Stands Own n (take i rows) held (take i h)
    last : AreLast (take i h) held

  -- one more of each
  record Next (row : Row) (held : Seats) (front : List Entry) (e : Entry) : Type 0 where
    after : Seats
    one : OneMore Own row held front after (front ++ e ∷ [])
    still : AreLast (front ++ e ∷ []) after

  next : (i : ℕ) (e : Entry) (row : Row) → IsAt h i e → IsRowOf h e row → (held : Seats) → length held ≡ n → AreLast (take i h) held → Next row held (take i h) e
  next i (Called at id op) row here (when, who, on, (act, expected, value, step, same)) held many last =
      let may : MayCall n registers (take i h) at id op = good i (Called at id op) here in
      let entry : take i h ++ Called at id op ∷ [] ≡ take i h ++ Called row.at id (act_op act row.key expected value) ∷ [] =
      ap (λ (o : Op). take i h ++ Called at id o ∷ []) (sym same ∙ ap (λ (k : ℕ). act_op act k expected value) (sym on)) ∙ ap (λ (t : ℕ). take i h ++ Called t id (act_op act row.key expected value) ∷ []) (sym when) in
      let after : Seats = slice_set held row.process (Some (record { id = id; key = row.key })) in
      let by : OneMore-by (Call act expected value) Own row held (take i h) after (take i h ++ Called at id op ∷ []) = (id, sym who, is_new n registers (take i h) at id op may, entry, refl) in
      record {
        after = after;
        one = subst (λ (s : Step). OneMore-by s Own row held (take i h) after (take i h ++ Called at id op ∷ [])) (sym step) by;
        still = last_call n registers (take i h) held at row.process row.key id op may many who on last;
      }
  next i (Answered at id answer) row here (when, who, (t, o, called, on), step) held many last =
      let may : MayAnswer (take i h) at id answer = good i (Answered at id answer) here in
      let found = last id (may.called_at, may.op, may.called) may.running in
      let began = in_take h i found.2.2.0 (Called found.2.0 id found.2.1) found.2.2.1 in
      let keys : found.0 ≡ row.key = found.2.3 ∙ ap register_of (call_is n registers h good id found.2.0 t found.2.1 o (found.2.2.0, began.1) called).1 ∙ sym on in
      let had : get_or held row.process None ≡ Some (record { id = id; key = row.key }) = ap (λ (p : ℕ). get_or held p None) who ∙ found.1 ∙ ap (λ (k : ℕ). Some (record { id = id; key = k })) keys in
      let entry : take i h ++ Answered at id answer ∷ [] ≡ take i h ++ Answered row.at id answer ∷ [] = ap (λ (s : ℕ). take i h ++ Answered s id answer ∷ []) (sym when) in
      let by : OneMore-by (Answer answer) Own row held (take i h) held (take i h ++ Answered at id answer ∷ []) = (id, had, entry, refl) in
      record {
        after = held;
        one = subst (λ (s : Step). OneMore-by s Own row held (take i h) held (take i h ++ Answered at id answer ∷ [])) (sym step) by;
        still = last_answer (take i h) held at id answer last;
      }

  none_stood : Stood 0
  none_stood = record { held = no_calls n; stands = Nothing; last = λ id (at, op, (k, here)). absurd (nothing k (Called at id op) here) }

  more_stood : (i : ℕ) → i < length h → Stood i → Stood (suc i)
  more_stood i lt s =
      let e = element_at h i lt in
      let row = zip_right (IsRowOf h) h rows i e.0 are e.1 in
      let m = next i e.0 row.0 e.1 row.2 s.held (stood_many Own n (take i rows) s.held (take i h) s.stands) s.last in
      let entries = sym (take_next h i e.0 e.1) in
      let stands : Stands Own n (take i rows ++ row.0 ∷ []) m.after (take i h ++ e.0 ∷ []) = More row.0 s.stands m.one in
      record {
        held = m.after;
        stands = subst (λ (l : List Row). Stands Own n l m.after (take (suc i) h)) (sym (take_next rows i row.0 row.1)) (subst (λ (l : List Entry). Stands Own n (take i rows ++ row.0 ∷ []) m.after l) entries stands);
        last = subst (λ (l : List Entry). AreLast l m.after) entries m.still;
      }

  first_stood : (i : ℕ) → i ≤ length h → Stood i
  first_stood zero le = none_stood
  first_stood (suc i) le = more_stood i (omega (arith, le)) (first_stood i (omega (arith, le)))

  pub history_stood : IsStood Own n registers rows h
  history_stood =
      let s = first_stood (length h) (omega arith) in
      let many = zip_length (IsRowOf h) h rows are in
      record {
        held = s.held;
        stands = subst (λ (l : List Row). Stands Own n l s.held h) (take_all rows (length h) (omega (arith, many))) (subst (λ (l : List Entry). Stands Own n (take (length h) rows) s.held l) (take_all h (length h) (omega arith)) s.stands);
        places = n;
        history = good;
      }
