-- What stands in the history of a key's rows is alike to the key's part of the whole history.
use Rattle.std.proofs.Common.{◌≡◌, ◌≢◌, ◌↔◌, inl, inr, ℕ, zero, suc, Bool, true, false, cond, ◌==◌, List, [], ◌∷◌, ◌++◌}
use Rattle.std.proofs.Common.{length, get_or, set, slice_set, replicate, Option, Some, None, refl, ap, sym, ◌∙◌, subst}
use Rattle.std.proofs.Common.{arith, append-nil}
use Rattle.std.proofs.lemmas.Bool.{cases_eq, eq-eqb, eqb-true, false_from_ne_true}
use Rattle.std.proofs.lemmas.Grind.{flat_map-append}
use Rattle.std.proofs.lemmas.List.{get_or-set_same, get_or-set_other}
use Rattle.std.proofs.lemmas.Option.{same_Some}
use Rattle.reg_base.specs.declared.memory.OpId.{OpId}
use Rattle.reg_base.specs.declared.memory.Op.{Op}
use Rattle.reg_base.specs.declared.memory.Answer.{Answer as Reply}
use Rattle.reg_base.specs.Memory.{register_of}
use Rattle.reg_checkers.specs.declared.entries.Entry.{Entry}
use Rattle.reg_checkers.specs.declared.entries.Entry.TheVariants.{Called, Answered}
use Rattle.reg_checkers.specs.History.{IsAt, IsCalled, IsHistory, WasCalled}
use Rattle.reg_checkers.proofs.OneMore.{pushed}
use Rattle.reg_checkers.proofs.Places.{get_push_same}
use Rattle.reg_judge.specs.Alike.{AreAlike, IsLike, at_register, name_of}
use Rattle.reg_judge.specs.Parts.{is_of, part_at}
use Rattle.reg_judge.proofs.Filters.{was_kept}
use Rattle.reg_judge.proofs.PartFacts.{is_on, off_register, on_register_is}
use Rattle.reg_judge.specs.declared.rulings.rows.Act.{Act}
use Rattle.reg_judge.specs.declared.rulings.rows.Act.TheVariants.{Read, Write, Swap, CompareAndSwap}
use Rattle.reg_judge.specs.declared.rulings.rows.Step.{Step}
use Rattle.reg_judge.specs.declared.rulings.rows.Step.TheVariants.{Call, Answer}
use Rattle.reg_judge.specs.declared.rulings.rows.Row.{Row}
use Rattle.reg_judge.specs.declared.rulings.seats.LastCall.{LastCall}
use Rattle.reg_judge.specs.declared.rulings.seats.Naming.{Naming}
use Rattle.reg_judge.specs.Keys.{of_key, rows_of_key}
use Rattle.reg_judge.specs.Standing.{OneMore, OneMore-by, Stands, Nothing, More, act_op, no_calls}
use Rattle.reg_judge.proofs.Keying.{key_here, key_off}
use Rattle.reg_judge.proofs.Linking.{AfterSet, after_set, alike_more, front_history, name_called, not_pushed}
use Rattle.reg_judge.proofs.Linking.{part_answer, part_call, same_pushed, zip_length}
use Rattle.reg_judge.proofs.Seating.{as_many, length_replicate}

-- Operations of rows

act_register : (act : Act) (key expected value : ℕ) → register_of (act_op act key expected value) ≡ key
act_register Read key expected value = refl
act_register Write key expected value = refl
act_register Swap key expected value = refl
act_register CompareAndSwap key expected value = refl

act_moved : (act : Act) (key expected value : ℕ)
    → act_op act 0 expected value ≡ at_register 0 (act_op act key expected value)
act_moved Read key expected value = refl
act_moved Write key expected value = refl
act_moved Swap key expected value = refl
act_moved CompareAndSwap key expected value = refl

-- The last call of each process

abbrev pub Seats : Type 0
Seats = List (Option LastCall)

last : OpId → ℕ → Option LastCall
last id key = Some (record { id = id; key = key })

-- each was called, at its key
abbrev AreCalls : List Entry → Seats → Type 0
AreCalls entries held = (process : ℕ) (id : OpId) (key : ℕ) → get_or held process None ≡ Some (record { id = id; key = key }) → (at : ℕ) × (op : Op) × IsCalled entries id at op × (register_of op ≡ key)

none_at : {X : Type 0} (n k : ℕ) (x : X) → get_or (replicate n None) k None ≡ Some x → ⊥
none_at zero k x e = cc
none_at (suc n) zero x e = cc
none_at (suc n) (suc k) x e = none_at n k x e

still_called : (es : List Entry) (e : Entry) (id : OpId) (key : ℕ)
    → (at : ℕ) × (op : Op) × IsCalled es id at op × (register_of op ≡ key)
    → (at : ℕ) × (op : Op) × IsCalled (es ++ e ∷ []) id at op × (register_of op ≡ key)
still_called es e id key (at, op, called, on) = (at, op, (pushed es e).old (Called at id op) called, on)

calls_push : (es : List Entry) (e : Entry) (held : Seats) → AreCalls es held → AreCalls (es ++ e ∷ []) held
calls_push es e held are process id key is = still_called es e id key (are process id key is)

calls_call : (es : List Entry) (at p : ℕ) (id : OpId) (op : Op) (key : ℕ) (held : Seats) → AreCalls es held
    → register_of op ≡ key
    → AreCalls (es ++ Called at id op ∷ []) (slice_set held p (Some (record { id = id; key = key })))
calls_call es at p id op key held are on process name k is =
    go (after_set held p process (Some (record { id = id; key = key })) None (Some (record { id = name; key = k })) is)
  where
    go : AfterSet held p process (Some (record { id = id; key = key })) None (Some (record { id = name; key = k })) → (s : ℕ) × (o : Op) × IsCalled (es ++ Called at id op ∷ []) name s o × (register_of o ≡ k)
    go (inl (here, lt, same)) =
        let it : record { id = id; key = key } ≡ record { id = name; key = k } = same_Some (record { id = id; key = key }) (record { id = name; key = k }) same in
        (at, op, subst (λ (x : OpId). IsCalled (es ++ Called at id op ∷ []) x at op) (ap (λ (l : LastCall). l.id) it) (pushed es (Called at id op)).new, on ∙ ap (λ (l : LastCall). l.key) it)
    go (inr (inl (apart, old))) = still_called es (Called at id op) name k (are process name k old)
    go (inr (inr none)) = absurd cc

pub stood_calls : (naming : Naming) (processes : ℕ) (rows : List Row) (held : Seats) (entries : List Entry)
    → Stands naming processes rows held entries → AreCalls entries held
stood_calls naming processes rows held entries Nothing =
    λ process id key is. absurd (none_at processes process (record { id = id; key = key }) is)
stood_calls naming processes rows held entries (More {held = before} {after = after} {entries = front} {more = more} row stands one) = go row.step one (stood_calls naming processes _ before front stands)
  where
    go : (s : Step) → OneMore-by s naming row before front after more → AreCalls front before → AreCalls more after
    go (Call act expected value) (id, may, anew, grown, is) are =
        let op = act_op act row.key expected value in
        subst (λ (es : List Entry). AreCalls es after) (sym grown) (subst (λ (l : Seats). AreCalls (front ++ Called row.at id op ∷ []) l) (sym is) (calls_call front row.at row.process id op row.key before are (act_register act row.key expected value)))
    go (Answer answer) (id, had, grown, is) are =
        subst (λ (es : List Entry). AreCalls es after) (sym grown) (subst (λ (l : Seats). AreCalls (front ++ Answered row.at id answer ∷ []) l) (sym is) (calls_push front (Answered row.at id answer) before are))

pub stood_many : (naming : Naming) (processes : ℕ) (rows : List Row) (held : Seats) (entries : List Entry)
    → Stands naming processes rows held entries → length held ≡ processes
stood_many naming processes rows held entries Nothing = length_replicate processes None
stood_many naming processes rows held entries (More {held = before} {after = after} {entries = front} {more = more} row stands one) = as_many naming row before after front more one ∙ stood_many naming processes _ before front stands

-- The rows before the last

record Before (naming : Naming) (processes : ℕ) (rows : List Row) (row : Row) (held : Seats) (entries : List Entry) : Type 0 where
  seats : Seats
  front : List Entry
  stands : Stands naming processes rows seats front
  one : OneMore naming row seats front held entries

stood_before : (naming : Naming) (processes : ℕ) (all : List Row) (held : Seats) (entries : List Entry)
    (rows : List Row) (row : Row)
    → Stands naming processes all held entries → all ≡ rows ++ row ∷ [] → Before naming processes rows row held entries
stood_before naming processes all held entries rows row Nothing e = absurd (not_pushed rows row e)
stood_before naming processes all held entries rows row (More {rows = old} {held = before} {after = after} {entries = front} {more = more} new stands one) e =
    let same = same_pushed old rows new row e in
    record {
      seats = before;
      front = front;
      stands = subst (λ (l : List Row). Stands naming processes l before front) same.0 stands;
      one = subst (λ (x : Row). OneMore naming x before front after more) same.1 one;
    }

stood_none : (naming : Naming) (processes : ℕ) (all : List Row) (held : Seats) (entries : List Entry)
    → Stands naming processes all held entries → all ≡ [] → entries ≡ []
stood_none naming processes all held entries Nothing e = refl
stood_none naming processes all held entries (More {rows = old} new stands one) e = absurd (not_pushed old new (sym e))

-- The key's part of the whole beside the history of its rows

-- an operation stands under one name here and under another there
pub record Link (one other : List Entry) (id name : OpId) : Type 0 where
  pub place : ℕ
  pub here : Entry
  pub there : Entry
  pub at_here : IsAt one place here
  pub at_there : IsAt other place there
  pub named_here : name_of here ≡ id
  pub named_there : name_of there ≡ name

abbrev pub HasLink : ℕ → List Entry → List Entry → Seats → ℕ → OpId → Type 0
HasLink k one other seats process id =
    (name : OpId) × (get_or seats process None ≡ Some (record { id = name; key = 0 })) × Link one other id name

-- The two are alike, and what a process called last, if at this key, stands there under the name of its last call.
pub record Agree (k : ℕ) (held : Seats) (part : List Entry) (seats : Seats) (alone : List Entry) : Type 0 where
  pub alike : AreAlike k 0 part alone
  pub linked : (process : ℕ) (id : OpId) → get_or held process None ≡ Some (record { id = id; key = k })
      → HasLink k part alone seats process id

at_left : {X : Type 0} (xs : List X) (k : ℕ) (v x : X) → IsAt xs k x → IsAt (xs ++ v ∷ []) k x
at_left [] k v x h = absurd cc
at_left (y ∷ xs) zero v x h = h
at_left (y ∷ xs) (suc k) v x h = at_left xs k v x h

still_linked : (one other : List Entry) (a b : Entry) (id name : OpId) → Link one other id name
    → Link (one ++ a ∷ []) (other ++ b ∷ []) id name
still_linked one other a b id name l = record { place = l.place; here = l.here; there = l.there; at_here = at_left one l.place a l.here l.at_here; at_there = at_left other l.place b l.there l.at_there; named_here = l.named_here; named_there = l.named_there }

-- a call at another key
off_call : (k : ℕ) (held : Seats) (part : List Entry) (seats : Seats) (alone : List Entry) (p key : ℕ) (id : OpId)
    → key ≢ k → Agree k held part seats alone
    → Agree k (slice_set held p (Some (record { id = id; key = key }))) part seats alone
off_call k held part seats alone p key id apart agree = record {
  alike = agree.alike;
  linked = λ process name is. go process name (after_set held p process (Some (record { id = id; key = key })) None (Some (record { id = name; key = k })) is);
}
  where
    go : (process : ℕ) (name : OpId) → AfterSet held p process (Some (record { id = id; key = key })) None (Some (record { id = name; key = k })) → HasLink k part alone seats process name
    go process name (inl (here, lt, same)) = absurd (apart (ap (λ (l : LastCall). l.key) (same_Some (record { id = id; key = key }) (record { id = name; key = k }) same)))
    go process name (inr (inl (other, old))) = agree.linked process name old
    go process name (inr (inr none)) = absurd cc

-- a call at this key
on_call : (k : ℕ) (held : Seats) (part : List Entry) (seats : Seats) (alone : List Entry) (at p : ℕ) (id name : OpId)
    (op : Op)
    → length held ≡ length seats → register_of op ≡ k → ((i : ℕ) (e : Entry) → IsAt part i e → name_of e ≢ id)
    → ((i : ℕ) (e : Entry) → IsAt alone i e → name_of e ≢ name)
    → Agree k held part seats alone → Agree k (slice_set held p (Some (record { id = id; key = k }))) (part ++ Called at id op ∷ []) (slice_set seats p (Some (record { id = name; key = 0 }))) (alone ++ Called at name (at_register 0 op) ∷ [])
on_call k held part seats alone at p id name op many on new_here new_there agree = record {
  alike = alike_more k 0 part alone a b agree.alike (refl, on, refl) (λ i c d at_c at_d. ((λ e. absurd (new_here i c at_c e)), (λ e. absurd (new_there i d at_d e))));
  linked = λ process other is. go process other (after_set held p process (Some (record { id = id; key = k })) None (Some (record { id = other; key = k })) is);
}
  where
    a : Entry
    a = Called at id op

    b : Entry
    b = Called at name (at_register 0 op)

    go : (process : ℕ) (other : OpId) → AfterSet held p process (Some (record { id = id; key = k })) None (Some (record { id = other; key = k })) → HasLink k (part ++ Called at id op ∷ []) (alone ++ Called at name (at_register 0 op) ∷ []) (slice_set seats p (Some (record { id = name; key = 0 }))) process other
    go process other (inl (here, lt, same)) = (
      name,
      ap (λ (q : ℕ). get_or (set seats p (Some (record { id = name; key = 0 }))) q None) here ∙ get_or-set_same seats p (Some (record { id = name; key = 0 })) None (omega (arith, lt, many)),
      record {
        place = length part;
        here = Called at id op;
        there = Called at name (at_register 0 op);
        at_here = get_push_same part (length part) (Called at id op) refl;
        at_there = get_push_same alone (length part) (Called at name (at_register 0 op)) (sym (zip_length (IsLike k 0) part alone agree.alike.entries));
        named_here = ap (λ (l : LastCall). l.id) (same_Some (record { id = id; key = k }) (record { id = other; key = k }) same);
        named_there = refl;
      },
    )
    go process other (inr (inl (apart, old))) =
        let was = agree.linked process other old in
        (was.0, get_or-set_other seats p process (Some (record { id = name; key = 0 })) None apart ∙ was.1, still_linked part alone (Called at id op) (Called at name (at_register 0 op)) other was.0 was.2)
    go process other (inr (inr none)) = absurd cc

-- an answer at this key
on_answer : (k : ℕ) (held : Seats) (part : List Entry) (seats : Seats) (alone : List Entry) (at p : ℕ) (id name : OpId)
    (answer : Reply)
    → get_or held p None ≡ Some (record { id = id; key = k })
    → get_or seats p None ≡ Some (record { id = name; key = 0 })
    → Agree k held part seats alone → Agree k held (part ++ Answered at id answer ∷ []) seats (alone ++ Answered at name answer ∷ [])
on_answer k held part seats alone at p id name answer had has agree = record {
  alike = alike_more k 0 part alone (Answered at id answer) (Answered at name answer) agree.alike (refl, refl) (λ i c d at_c at_d. both i c d at_c at_d);
  linked = λ process other is. (let was = agree.linked process other is in (was.0, was.1, still_linked part alone (Answered at id answer) (Answered at name answer) other was.0 was.2));
}
  where
    link : Link part alone id name
    link =
        let was = agree.linked p id had in
        let it : record { id = was.0; key = 0 } ≡ record { id = name; key = 0 } = same_Some (record { id = was.0; key = 0 }) (record { id = name; key = 0 }) (sym was.1 ∙ has) in
        subst (λ (x : OpId). Link part alone id x) (ap (λ (l : LastCall). l.id) it) was.2

    both : (i : ℕ) (c d : Entry) → IsAt part i c → IsAt alone i d → (name_of c ≡ id) ↔ (name_of d ≡ name)
    both i c d at_c at_d =
        let l = link in
        let same = agree.alike.names i l.place c d l.here l.there at_c at_d l.at_here l.at_there in
        ((λ e. same.0 (e ∙ sym l.named_here) ∙ l.named_there), (λ e. same.1 (e ∙ sym l.named_there) ∙ l.named_here))

-- what is found of rows of the key, by those before
abbrev Agrees : Naming → ℕ → ℕ → List Row → Seats → List Entry → Type 0
Agrees named processes k rows held entries =
    (part : List Row) (seats : Seats) (alone : List Entry) → Stands named processes part seats alone → part ≡ rows_of_key k rows → (places registers : ℕ) → IsHistory places registers alone → Agree k held (part_at k entries) seats alone

key_push : (k : ℕ) (rows : List Row) (row : Row) → rows_of_key k (rows ++ row ∷ []) ≡ rows_of_key k rows ++ of_key k row
key_push k rows row = flat_map-append (of_key k) rows (row ∷ []) ∙ ap (λ (l : List Row). rows_of_key k rows ++ l) (append-nil (of_key k row))

-- One row more. Up to the row before, each history of the rows of the key is alike to the part.
module _ (named : Naming) (processes k : ℕ) (rows : List Row) (held : Seats) (entries : List Entry) (places registers : ℕ) (good : IsHistory places registers entries) (calls : AreCalls entries held) (many : length held ≡ processes) (agrees : Agrees named processes k rows held entries) where
  -- of another key
  call_off : (row : Row) (at : ℕ) (id : OpId) (op : Op) → row.key ≢ k → register_of op ≡ row.key → ¬ WasCalled entries id
      → Agrees named processes k (rows ++ row ∷ []) (slice_set held row.process (Some (record { id = id; key = row.key }))) (entries ++ Called at id op ∷ [])
  call_off row at id op apart on anew part seats alone stands is p r alone_good =
      let same : rows_of_key k (rows ++ row ∷ []) ≡ rows_of_key k rows = key_push k rows row ∙ ap (λ (l : List Row). rows_of_key k rows ++ l) (key_off k row apart) ∙ append-nil (rows_of_key k rows) in
      let parts : part_at k (entries ++ Called at id op ∷ []) ≡ part_at k entries =
      part_call places registers k entries at id op good anew
      ∙ ap (λ (b : Bool). part_at k entries ++ cond b (Called at id op ∷ []) []) (false_from_ne_true (register_of op == k) (λ e. apart (sym on ∙ eqb-true (register_of op) k e)))
      ∙ append-nil (part_at k entries) in
      subst (λ (l : List Entry). Agree k (slice_set held row.process (Some (record { id = id; key = row.key }))) l seats alone) (sym parts)
      (off_call k held (part_at k entries) seats alone row.process row.key id apart (agrees part seats alone stands (is ∙ same) p r alone_good))

  answer_off : (row : Row) (at : ℕ) (id : OpId) (answer : Reply) → row.key ≢ k → get_or held row.process None ≡ Some (record { id = id; key = row.key })
      → Agrees named processes k (rows ++ row ∷ []) held (entries ++ Answered at id answer ∷ [])
  answer_off row at id answer apart had part seats alone stands is p r alone_good =
      let same : rows_of_key k (rows ++ row ∷ []) ≡ rows_of_key k rows = key_push k rows row ∙ ap (λ (l : List Row). rows_of_key k rows ++ l) (key_off k row apart) ∙ append-nil (rows_of_key k rows) in
      let call = calls row.process id row.key had in
      let off : is_on k entries id ≡ false = off_register places registers entries good k id call.0 call.1 call.2 (λ e. apart (sym call.3 ∙ e)) in
      let parts : part_at k (entries ++ Answered at id answer ∷ []) ≡ part_at k entries =
      part_answer k entries at id answer
      ∙ ap (λ (b : Bool). part_at k entries ++ cond b (Answered at id answer ∷ []) []) off
      ∙ append-nil (part_at k entries) in
      subst (λ (l : List Entry). Agree k held l seats alone) (sym parts) (agrees part seats alone stands (is ∙ same) p r alone_good)

  -- no entry of the part has a new name
  new_name : (id : OpId) → ¬ WasCalled entries id → (i : ℕ) (e : Entry) → IsAt (part_at k entries) i e → name_of e ≢ id
  new_name id anew i e at same =
      let was = was_kept (is_of k entries) entries i e at in
      anew (subst (λ (x : OpId). WasCalled entries x) same (name_called places registers entries good was.0.0 e was.0.1))

  call_here : (row : Row) (act : Act) (expected value : ℕ) (id : OpId) → row.key ≡ k → row.step ≡ Call act expected value → ¬ WasCalled entries id
      → Agrees named processes k (rows ++ row ∷ []) (slice_set held row.process (Some (record { id = id; key = row.key }))) (entries ++ Called row.at id (act_op act row.key expected value) ∷ [])
  call_here row act expected value id here step anew part seats alone stands is p r alone_good =
      let same : part ≡ rows_of_key k rows ++ record row { key = 0 } ∷ [] = is ∙ key_push k rows row ∙ ap (λ (l : List Row). rows_of_key k rows ++ l) (key_here k row here) in
      let before = stood_before named processes part seats alone (rows_of_key k rows) (record row { key = 0 }) stands same in
      let one : OneMore-by (Call act expected value) named (record row { key = 0 }) before.seats before.front seats alone = subst (λ (s : Step). OneMore-by s named (record row { key = 0 }) before.seats before.front seats alone) step before.one in
      go before.seats before.front before.stands one
    where
      op : Op
      op = act_op act row.key expected value

      go : (first : Seats) (front : List Entry) → Stands named processes (rows_of_key k rows) first front → OneMore-by (Call act expected value) named (record row { key = 0 }) first front seats alone → Agree k (slice_set held row.process (Some (record { id = id; key = row.key }))) (part_at k (entries ++ Called row.at id (act_op act row.key expected value) ∷ [])) seats alone
      go first front stood (name, may, new, grown, set_is) =
          let front_good : IsHistory p r front = front_history p r front (Called row.at name (act_op act 0 expected value)) (subst (λ (l : List Entry). IsHistory p r l) grown alone_good) in
          let on : register_of (act_op act row.key expected value) ≡ k = act_register act row.key expected value ∙ here in
          let agree : Agree k held (part_at k entries) first front = agrees (rows_of_key k rows) first front stood refl p r front_good in
          let more = on_call k held (part_at k entries) first front row.at row.process id name (act_op act row.key expected value) (many ∙ sym (stood_many named processes (rows_of_key k rows) first front stood)) on (new_name id anew) (λ i e at same. new (subst (λ (x : OpId). WasCalled front x) same (name_called p r front front_good i e at))) agree in
          let parts : part_at k (entries ++ Called row.at id (act_op act row.key expected value) ∷ []) ≡ part_at k entries ++ Called row.at id (act_op act row.key expected value) ∷ [] =
          part_call places registers k entries row.at id (act_op act row.key expected value) good anew ∙ ap (λ (b : Bool). part_at k entries ++ cond b (Called row.at id (act_op act row.key expected value) ∷ []) []) (eq-eqb (register_of (act_op act row.key expected value)) k on) in
          let moved : front ++ Called row.at name (at_register 0 (act_op act row.key expected value)) ∷ [] ≡ alone = ap (λ (o : Op). front ++ Called row.at name o ∷ []) (sym (act_moved act row.key expected value)) ∙ sym grown in
          subst (λ (n : ℕ). Agree k (slice_set held row.process (Some (record { id = id; key = n }))) (part_at k (entries ++ Called row.at id (act_op act row.key expected value) ∷ [])) seats alone) (sym here)
          (subst (λ (l : List Entry). Agree k (slice_set held row.process (Some (record { id = id; key = k }))) l seats alone) (sym parts)
          (subst (λ (l : List Entry). Agree k (slice_set held row.process (Some (record { id = id; key = k }))) (part_at k entries ++ Called row.at id (act_op act row.key expected value) ∷ []) seats l) moved
          (subst (λ (s : Seats). Agree k (slice_set held row.process (Some (record { id = id; key = k }))) (part_at k entries ++ Called row.at id (act_op act row.key expected value) ∷ []) s (front ++ Called row.at name (at_register 0 (act_op act row.key expected value)) ∷ [])) (sym set_is) more)))

  answer_here : (row : Row) (answer : Reply) (id : OpId) → row.key ≡ k → row.step ≡ Answer answer → get_or held row.process None ≡ Some (record { id = id; key = row.key })
      → Agrees named processes k (rows ++ row ∷ []) held (entries ++ Answered row.at id answer ∷ [])
  answer_here row answer id here step had part seats alone stands is p r alone_good =
      let same : part ≡ rows_of_key k rows ++ record row { key = 0 } ∷ [] = is ∙ key_push k rows row ∙ ap (λ (l : List Row). rows_of_key k rows ++ l) (key_here k row here) in
      let before = stood_before named processes part seats alone (rows_of_key k rows) (record row { key = 0 }) stands same in
      let one : OneMore-by (Answer answer) named (record row { key = 0 }) before.seats before.front seats alone = subst (λ (s : Step). OneMore-by s named (record row { key = 0 }) before.seats before.front seats alone) step before.one in
      go before.seats before.front before.stands one
    where
      go : (first : Seats) (front : List Entry) → Stands named processes (rows_of_key k rows) first front → OneMore-by (Answer answer) named (record row { key = 0 }) first front seats alone → Agree k held (part_at k (entries ++ Answered row.at id answer ∷ [])) seats alone
      go first front stood (name, has, grown, seats_is) =
          let front_good : IsHistory p r front = front_history p r front (Answered row.at name answer) (subst (λ (l : List Entry). IsHistory p r l) grown alone_good) in
          let agree : Agree k held (part_at k entries) first front = agrees (rows_of_key k rows) first front stood refl p r front_good in
          let had_here : get_or held row.process None ≡ Some (record { id = id; key = k }) = had ∙ ap (λ (n : ℕ). Some (record { id = id; key = n })) here in
          let more = on_answer k held (part_at k entries) first front row.at row.process id name answer had_here has agree in
          let call = calls row.process id row.key had in
          let on : is_on k entries id ≡ true = on_register_is k entries id (call.0, call.1, call.2, call.3 ∙ here) in
          let parts : part_at k (entries ++ Answered row.at id answer ∷ []) ≡ part_at k entries ++ Answered row.at id answer ∷ [] =
          part_answer k entries row.at id answer ∙ ap (λ (b : Bool). part_at k entries ++ cond b (Answered row.at id answer ∷ []) []) on in
          subst (λ (l : List Entry). Agree k held l seats alone) (sym parts)
          (subst (λ (l : List Entry). Agree k held (part_at k entries ++ Answered row.at id answer ∷ []) seats l) (sym grown)
          (subst (λ (s : Seats). Agree k held (part_at k entries ++ Answered row.at id answer ∷ []) s (front ++ Answered row.at name answer ∷ [])) (sym seats_is) more))

  row_more : (naming : Naming) (row : Row) (after : Seats) (more : List Entry) → OneMore naming row held entries after more → Agrees named processes k (rows ++ row ∷ []) after more
  row_more naming row after more one = go row.step refl one
    where
      go : (s : Step) → row.step ≡ s → OneMore-by s naming row held entries after more → Agrees named processes k (rows ++ row ∷ []) after more
      go (Call act expected value) step (id, may, anew, grown, is) =
          let found : Agrees named processes k (rows ++ row ∷ []) (slice_set held row.process (Some (record { id = id; key = row.key }))) (entries ++ Called row.at id (act_op act row.key expected value) ∷ []) =
          elim (cases_eq row.key k) [
            | inl here ↦ call_here row act expected value id here step anew
            | inr apart ↦ call_off row row.at id (act_op act row.key expected value) apart (act_register act row.key expected value) anew
          ] in
          subst (λ (l : List Entry). Agrees named processes k (rows ++ row ∷ []) after l) (sym grown) (subst (λ (s : Seats). Agrees named processes k (rows ++ row ∷ []) s (entries ++ Called row.at id (act_op act row.key expected value) ∷ [])) (sym is) found)
      go (Answer answer) step (id, had, grown, is) =
          let found : Agrees named processes k (rows ++ row ∷ []) held (entries ++ Answered row.at id answer ∷ []) =
          elim (cases_eq row.key k) [
            | inl here ↦ answer_here row answer id here step had
            | inr apart ↦ answer_off row row.at id answer apart had
          ] in
          subst (λ (l : List Entry). Agrees named processes k (rows ++ row ∷ []) after l) (sym grown) (subst (λ (s : Seats). Agrees named processes k (rows ++ row ∷ []) s (entries ++ Answered row.at id answer ∷ [])) (sym is) found)

entries_before : (naming : Naming) (row : Row) (held after : Seats) (entries more : List Entry) (places registers : ℕ)
    → OneMore naming row held entries after more → IsHistory places registers more → IsHistory places registers entries
entries_before naming row held after entries more places registers one good = go row.step one
  where
    go : (s : Step) → OneMore-by s naming row held entries after more → IsHistory places registers entries
    go (Call act expected value) (id, may, anew, grown, is) = front_history places registers entries (Called row.at id (act_op act row.key expected value)) (subst (λ (l : List Entry). IsHistory places registers l) grown good)
    go (Answer answer) (id, had, grown, is) = front_history places registers entries (Answered row.at id answer) (subst (λ (l : List Entry). IsHistory places registers l) grown good)

nothing_stands : {X : Type 0} (k : ℕ) (x : X) → IsAt [] k x → ⊥
nothing_stands k x at = cc

none_agree : (k processes : ℕ) (seats : Seats) (alone : List Entry) → alone ≡ []
    → Agree k (no_calls processes) [] seats alone
none_agree k processes seats alone none =
    subst (λ (l : List Entry). Agree k (no_calls processes) [] seats l) (sym none) (record {
      alike = record { entries = tt; names = λ i j a b c d at. absurd (nothing_stands i a at) };
      linked = λ process id is. absurd (none_at processes process (record { id = id; key = k }) is);
    })

pub stood_agrees : (naming named : Naming) (processes k : ℕ) (rows : List Row) (held : Seats) (entries : List Entry)
    (places registers : ℕ)
    → Stands naming processes rows held entries → IsHistory places registers entries
    → Agrees named processes k rows held entries
stood_agrees naming named processes k rows held entries places registers Nothing good = λ part seats alone stands is p r alone_good. none_agree k processes seats alone (stood_none named processes part seats alone stands is)
stood_agrees naming named processes k rows held entries places registers (More {rows = old} {held = before} {after = after} {entries = front} {more = more} row stands one) good =
    let front_good = entries_before naming row before after front more places registers one good in
    row_more named processes k old before front places registers front_good (stood_calls naming processes old before front stands) (stood_many naming processes old before front stands) (stood_agrees naming named processes k old before front places registers stands front_good) naming row after more one

pub agree_alike : (k : ℕ) (held : Seats) (part : List Entry) (seats : Seats) (alone : List Entry)
    → Agree k held part seats alone → AreAlike k 0 part alone
agree_alike k held part seats alone agree = agree.alike
