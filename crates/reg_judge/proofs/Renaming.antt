-- Histories of one register that are alike have point orders alike.
use Rattle.std.proofs.Common.{◌≡◌, ◌≢◌, ◌⊎◌, inl, inr, ℕ, zero, suc, ◌<◌, ◌≤◌, cond, ◌==◌, List, [], ◌∷◌, map}
use Rattle.std.proofs.Common.{replicate, length, refl, ap, ap₂, sym, ◌∙◌, subst, arith}
use Rattle.std.specs.Prelude.{slice_index}
use Rattle.std.specs.Option.{unwrap_or}
use Rattle.std.specs.List.{AllZip}
use Rattle.std.proofs.lemmas.List.{get_or-replicate, length-replicate}
use Rattle.std.proofs.lemmas.Option.{same_Some}
use Rattle.reg_base.specs.declared.memory.OpId.{OpId}
use Rattle.reg_base.specs.declared.memory.Op.{Op}
use Rattle.reg_base.specs.declared.memory.Op.TheVariants.{Read, Write, Swap, CompareAndSwap}
use Rattle.reg_base.specs.declared.memory.Answer.{Answer}
use Rattle.reg_base.specs.declared.memory.Answer.TheVariants.{Done, Value, Unequal}
use Rattle.reg_base.specs.Memory.{Memory, after, answer_of, register_of, updates}
use Rattle.reg_base.proofs.Operations.{length-after}
use Rattle.reg_checkers.specs.declared.entries.Entry.{Entry}
use Rattle.reg_checkers.specs.declared.entries.Entry.TheVariants.{Called, Answered}
use Rattle.reg_checkers.specs.declared.entries.Point.{Point}
use Rattle.reg_checkers.specs.History.{IsAt, IsAnswered, IsCalled, IsFinished, WasCalled}
use Rattle.reg_checkers.specs.Orders.{IsPointOrder}
use Rattle.reg_checkers.proofs.Bridges.{zip_right}
use Rattle.reg_checkers.proofs.Places.{IsAt-map, at_map, same_id}
use Rattle.reg_judge.specs.Acts.{made}
use Rattle.reg_judge.specs.Alike.{AreAlike, IsLike, at_register, name_of}
use Rattle.reg_judge.specs.Judging.{HasPointOrder}
use Rattle.reg_judge.proofs.Locality.{legal_from, runs_by}
use Rattle.reg_judge.proofs.Registers.{goes_on}
use Rattle.reg_judge.proofs.SameMemory.{Runs}

-- An operation at another register

moved : (r q : ℕ) (op : Op) → register_of op ≡ r → op ≡ at_register r (at_register q op)
moved r q (Read s) is = ap Read is
moved r q (Write s v) is = ap (λ (x : ℕ). Write x v) is
moved r q (Swap s v) is = ap (λ (x : ℕ). Swap x v) is
moved r q (CompareAndSwap s e v) is = ap (λ (x : ℕ). CompareAndSwap x e v) is

moved_to : (q : ℕ) (op : Op) → register_of (at_register q op) ≡ q
moved_to q (Read s) = refl
moved_to q (Write s v) = refl
moved_to q (Swap s v) = refl
moved_to q (CompareAndSwap s e v) = refl

moved_updates : (q : ℕ) (op : Op) → updates (at_register q op) ≡ updates op
moved_updates q (Read s) = refl
moved_updates q (Write s v) = refl
moved_updates q (Swap s v) = refl
moved_updates q (CompareAndSwap s e v) = refl

moved_made : (q : ℕ) (op : Op) (answer : Answer) → made (at_register q op) answer ≡ made op answer
moved_made q (Read s) answer = refl
moved_made q (Write s v) answer = refl
moved_made q (Swap s v) answer = refl
moved_made q (CompareAndSwap s e v) Done = refl
moved_made q (CompareAndSwap s e v) (Value u) = refl
moved_made q (CompareAndSwap s e v) Unequal = refl

moved_answer : (r q : ℕ) (op : Op) (m other : Memory) → register_of op ≡ r → slice_index m r ≡ slice_index other q
    → answer_of op m ≡ answer_of (at_register q op) other
moved_answer r q (Read s) m other is same = ap Value (ap (slice_index m) is ∙ same)
moved_answer r q (Write s v) m other is same = refl
moved_answer r q (Swap s v) m other is same = ap Value (ap (slice_index m) is ∙ same)
moved_answer r q (CompareAndSwap s e v) m other is same =
    ap (λ (x : ℕ). cond (x == e) Done Unequal) (ap (slice_index m) is ∙ same)

moved_after : (r q : ℕ) (op : Op) (m other : Memory) → register_of op ≡ r → r < length m → q < length other
    → slice_index m r ≡ slice_index other q
    → slice_index (after op m) r ≡ slice_index (after (at_register q op) other) q
moved_after r q op m other is fits also same =
    let one = goes_on op m r (answer_of op m) is fits refl in
    let two = goes_on (at_register q op) other q (answer_of (at_register q op) other) (moved_to q op) also refl in
    sym one.leaves
    ∙ ap₂ (λ (a : Answer) (v : ℕ). unwrap_or (made op a) v) (moved_answer r q op m other is same) same
    ∙ ap (λ (x : Rattle.std.specs.Prelude.Option ℕ). unwrap_or x (slice_index other q)) (sym (moved_made q op (answer_of (at_register q op) other)))
    ∙ two.leaves

-- Alike the other way round

turned_like : (r q : ℕ) (a b : Entry) → IsLike r q a b → IsLike q r b a
turned_like r q (Called at id op) (Called event name called) (when, is, same) =
    (sym when, ap register_of same ∙ moved_to q op, moved r q op is ∙ ap (at_register r) (sym same))
turned_like r q (Answered at id answer) (Answered event name answered) (when, same) = (sym when, sym same)
turned_like r q (Called at id op) (Answered event name answered) like = absurd like
turned_like r q (Answered at id answer) (Called event name called) like = absurd like

turned_entries : (r q : ℕ) (one other : List Entry) → AllZip (IsLike r q) one other → AllZip (IsLike q r) other one
turned_entries r q [] [] all = tt
turned_entries r q [] (b ∷ other) all = absurd all
turned_entries r q (a ∷ one) [] all = absurd all
turned_entries r q (a ∷ one) (b ∷ other) (like, rest) = (turned_like r q a b like, turned_entries r q one other rest)

pub turned_alike : (r q : ℕ) (one other : List Entry) → AreAlike r q one other → AreAlike q r other one
turned_alike r q one other are = record {
  entries = turned_entries r q one other are.entries;
  names = λ i j a b c d at_a at_b at_c at_d. (let same = are.names i j b a d c at_b at_a at_d at_c in (same.1, same.0));
}

-- The name in the other history

-- an operation of the one stands under this name in the other
record Match (one other : List Entry) (id name : OpId) : Type 0 where
  pub place : ℕ
  pub here : Entry
  pub there : Entry
  pub at_here : IsAt one place here
  pub at_there : IsAt other place there
  pub named_here : name_of here ≡ id
  pub named_there : name_of there ≡ name

turned_match : (one other : List Entry) (id name : OpId) → Match one other id name → Match other one name id
turned_match one other id name m = record { place = m.place; here = m.there; there = m.here; at_here = m.at_there; at_there = m.at_here; named_here = m.named_there; named_there = m.named_here }

module _ (r q : ℕ) (one other : List Entry) (are : AreAlike r q one other) where
  -- the other entry at a place
  across : (k : ℕ) (a : Entry) → IsAt one k a → (b : Entry) × IsAt other k b × IsLike r q a b
  across k a at = zip_right (IsLike r q) one other k a are.entries at

  one_name : (id name also : OpId) → Match one other id name → Match one other id also → name ≡ also
  one_name id name also m n = sym m.named_there ∙ ((are.names m.place n.place m.here m.there n.here n.there m.at_here m.at_there n.at_here n.at_there).0 (m.named_here ∙ sym n.named_here) ∙ n.named_there)

  one_id : (id also name : OpId) → Match one other id name → Match one other also name → id ≡ also
  one_id id also name m n = sym m.named_here ∙ ((are.names m.place n.place m.here m.there n.here n.there m.at_here m.at_there n.at_here n.at_there).1 (m.named_there ∙ sym n.named_there) ∙ n.named_here)

  called_there : (id name : OpId) (at : ℕ) (op : Op) → Match one other id name → IsCalled one id at op → IsCalled other name at (at_register q op) × (register_of op ≡ r)
  called_there id name at op m (k, here) = go (across k (Called at id op) here)
    where
      go : (b : Entry) × IsAt other k b × IsLike r q (Called at id op) b → IsCalled other name at (at_register q op) × (register_of op ≡ r)
      go (Answered event x answer, there, like) = absurd like
      go (Called event x called, there, (when, is, same)) =
          let named : x ≡ name = one_name id x name (record { place = k; here = Called at id op; there = Called event x called; at_here = here; at_there = there; named_here = refl; named_there = refl }) m in
          let n : IsAt other k (Called event name called) = subst (λ (y : OpId). IsAt other k (Called event y called)) named there in
          let t : IsAt other k (Called at name called) = subst (λ (y : ℕ). IsAt other k (Called y name called)) when n in
          ((k, subst (λ (y : Op). IsAt other k (Called at name y)) same t), is)

  answered_there : (id name : OpId) (at : ℕ) (answer : Answer) → Match one other id name → IsAnswered one id at answer → IsAnswered other name at answer
  answered_there id name at answer m (k, here) = go (across k (Answered at id answer) here)
    where
      go : (b : Entry) × IsAt other k b × IsLike r q (Answered at id answer) b → IsAnswered other name at answer
      go (Called event x called, there, like) = absurd like
      go (Answered event x answered, there, (when, same)) =
          let named : x ≡ name = one_name id x name (record { place = k; here = Answered at id answer; there = Answered event x answered; at_here = here; at_there = there; named_here = refl; named_there = refl }) m in
          let n : IsAt other k (Answered event name answered) = subst (λ (y : OpId). IsAt other k (Answered event y answered)) named there in
          let t : IsAt other k (Answered at name answered) = subst (λ (y : ℕ). IsAt other k (Answered y name answered)) when n in
          (k, subst (λ (y : Answer). IsAt other k (Answered at name y)) same t)

  finished_there : (id name : OpId) → Match one other id name → IsFinished one id → IsFinished other name
  finished_there id name m (at, answer, was) = (at, answer, answered_there id name at answer m was)

-- the first, where the two are one, and else the second
either : {X : Type 0} (a b : OpId) (x y : X) → (a ≡ b) ⊎ (a ≢ b) → X
either a b x y (inl same) = x
either a b x y (inr apart) = y

-- the name in the other history of the operation of this id: that of its first entry
renamed : List Entry → List Entry → OpId → OpId
renamed [] other id = id
renamed (a ∷ one) [] id = id
renamed (a ∷ one) (b ∷ other) id = either (name_of a) id (name_of b) (renamed one other id) (same_id (name_of a) id)

nothing : {X : Type 0} (k : ℕ) (x : X) → IsAt [] k x → ⊥
nothing k x at = cc

more_match : (a b : Entry) (one other : List Entry) (id name : OpId) → Match one other id name
    → Match (a ∷ one) (b ∷ other) id name
more_match a b one other id name m = record { place = suc m.place; here = m.here; there = m.there; at_here = m.at_here; at_there = m.at_there; named_here = m.named_here; named_there = m.named_there }

renamed_match : (r q : ℕ) (one other : List Entry) (id : OpId) (k : ℕ) (e : Entry) → AllZip (IsLike r q) one other
    → IsAt one k e → name_of e ≡ id → Match one other id (renamed one other id)
unfolding either renamed
renamed_match r q [] other id k e all at named = absurd (nothing k e at)
renamed_match r q (a ∷ one) [] id k e all at named = absurd all
renamed_match r q (a ∷ one) (b ∷ other) id k e all at named =
    go (same_id (name_of a) id) (λ j here. renamed_match r q one other id j e all.1 here named)
  where
    later : (j : ℕ) → IsAt (a ∷ one) j e → (name_of a ≢ id) → ((i : ℕ) → IsAt one i e → Match one other id (renamed one other id)) → Match one other id (renamed one other id)
    later zero here apart rest = absurd (apart (ap name_of (same_Some a e here) ∙ named))
    later (suc j) here apart rest = rest j here

    go : (is : (name_of a ≡ id) ⊎ (name_of a ≢ id)) → ((i : ℕ) → IsAt one i e → Match one other id (renamed one other id)) → Match (a ∷ one) (b ∷ other) id (either (name_of a) id (name_of b) (renamed one other id) is)
    go (inl same) rest = record { place = 0; here = a; there = b; at_here = refl; at_there = refl; named_here = same; named_there = refl }
    go (inr apart) rest = more_match a b one other id (renamed one other id) (later k at apart rest)

renamed_point : List Entry → List Entry → Point → Point
renamed_point one other p = record { id = renamed one other p.id; at = p.at }

renamed_ids : (one other : List Entry) (ps : List Point)
    → map (λ p. p.id) (map (renamed_point one other) ps) ≡ map (renamed one other) (map (λ p. p.id) ps)
unfolding renamed_point
renamed_ids one other [] = refl
renamed_ids one other (p ∷ ps) = ap (λ l. renamed one other p.id ∷ l) (renamed_ids one other ps)

module _ (r q : ℕ) (one other : List Entry) (are : AreAlike r q one other) where
  back : AreAlike q r other one
  back = turned_alike r q one other are

  match_called : (id : OpId) → WasCalled one id → Match one other id (renamed one other id)
  match_called id (at, op, (k, here)) = renamed_match r q one other id k (Called at id op) are.entries here refl

  called_back : (id name : OpId) (at : ℕ) (op : Op) → Match one other id name → IsCalled other name at op → IsCalled one id at (at_register r op)
  called_back id name at op m was = (called_there q r other one (back) name id at op (turned_match one other id name m) was).0

  answered_back : (id name : OpId) (at : ℕ) (answer : Answer) → Match one other id name → IsAnswered other name at answer → IsAnswered one id at answer
  answered_back id name at answer m was = answered_there q r other one (back) name id at answer (turned_match one other id name m) was

  runs_renamed : (ids : List OpId) (m also : Memory) → r < length m → q < length also → slice_index m r ≡ slice_index also q → Runs one m ids → Runs other also (map (renamed one other) ids)
  runs_renamed [] m also fits fit same runs = tt
  runs_renamed (id ∷ ids) m also fits fit same (op, (at, called), gives, rest) =
      let match = match_called id (at, op, called) in
      let there = called_there r q one other are id (renamed one other id) at op match called in (
        at_register q op,
        (at, there.0),
        λ s answer was. gives s answer (answered_back id (renamed one other id) s answer match was) ∙ moved_answer r q op m also there.1 same,
        runs_renamed ids (after op m) (after (at_register q op) also) (subst (λ (l : ℕ). r < l) (sym (length-after op m)) fits) (subst (λ (l : ℕ). q < l) (sym (length-after (at_register q op) also)) fit) (moved_after r q op m also there.1 fits fit same) rest,
      )

  module _ (n m : ℕ) (fits : r < n) (fit : q < m) (ps : List Point) (order : IsPointOrder n one ps) where
    ids : List OpId
    ids = map (λ p. p.id) ps

    was_called : (k : ℕ) (id : OpId) → IsAt (map (λ p. p.id) ps) k id → WasCalled one id
    was_called k id at = let found = zip_right (λ id op. (at : ℕ) × IsCalled one id at op) (map (λ p. p.id) ps) order.legal.ops k id order.legal.called at in (found.2.0, found.0, found.2.1)

    -- a name comes from an operation
    named_by : (k : ℕ) (name : OpId) → IsAt (map (λ p. p.id) (map (renamed_point one other) ps)) k name → (id : OpId) × IsAt (map (λ p. p.id) ps) k id × Match one other id name
    named_by k name at =
        let found = at_map (renamed one other) (map (λ p. p.id) ps) k name (subst (λ (l : List OpId). IsAt l k name) (renamed_ids one other ps) at) in
        (found.0, found.1, subst (λ (x : OpId). Match one other found.0 x) found.2 (match_called found.0 (was_called k found.0 found.1)))

    point_by : (k : ℕ) (p : Point) → IsAt (map (renamed_point one other) ps) k p → (o : Point) × IsAt ps k o × (o.at ≡ p.at) × Match one other o.id p.id
    unfolding renamed_point
    point_by k p at =
        let found = at_map (renamed_point one other) ps k p at in
        (found.0, found.1, ap (λ (x : Point). x.at) found.2, subst (λ (x : Point). Match one other found.0.id x.id) found.2 (match_called found.0.id (was_called k found.0.id (IsAt-map (λ (x : Point). x.id) ps k found.0 found.1))))

    order_renamed : IsPointOrder m other (map (renamed_point one other) ps)
    order_renamed = record {
      selection = record {
        distinct = λ i j name at also. (
            let a = named_by i name at in
            let b = named_by j name also in
            let same : b.0 ≡ a.0 = one_id r q one other are b.0 a.0 name b.2 a.2 in
            order.selection.distinct i j a.0 a.1 (subst (λ (x : OpId). IsAt (map (λ p. p.id) ps) j x) same b.1)
            );
        finished = λ name fin. finished_by name fin;
        known = λ k name at. (
            let a = named_by k name at in
            elim (order.selection.known k a.0 a.1) [
              | inl fin ↦ inl (finished_there r q one other are a.0 name a.2 fin)
              | inr (s, op, called, up) ↦ inr (s, at_register q op, (called_there r q one other are a.0 name s op a.2 called).0, moved_updates q op ∙ up)
            ]
            );
      };
      legal = legal_from m other (map (λ p. p.id) (map (renamed_point one other) ps)) (subst (Runs other (replicate m 0)) (sym (renamed_ids one other ps)) (runs_renamed (map (λ p. p.id) ps) (replicate n 0) (replicate m 0) (subst (λ (l : ℕ). r < l) (sym (length-replicate n 0)) fits) (subst (λ (l : ℕ). q < l) (sym (length-replicate m 0)) fit) (get_or-replicate n r 0 0 fits ∙ sym (get_or-replicate m q 0 0 fit)) (runs_by n one (map (λ p. p.id) ps) order.legal)));
      called = λ k p at op here was. (let o = point_by k p here in subst (λ (x : ℕ). at ≤ x) o.2 (order.called k o.0 at (at_register r op) o.1 (called_back o.0.id p.id at op o.3 was)));
      answered = λ k p at answer here was. (let o = point_by k p here in subst (λ (x : ℕ). x ≤ at) o.2 (order.answered k o.0 at answer o.1 (answered_back o.0.id p.id at answer o.3 was)));
      rising = λ i j p s here there lt. (let a = point_by i p here in let b = point_by j s there in let le = order.rising i j a.0 b.0 a.1 b.1 lt in omega (arith, le, a.2, b.2));
    }
      where
        finished_by : (name : OpId) → IsFinished other name → (k : ℕ) × IsAt (map (λ p. p.id) (map (renamed_point one other) ps)) k name
        finished_by name (at, answer, (k, here)) =
            let e = across q r other one (back) k (Answered at name answer) here in
            let id = name_of e.0 in
            let match : Match one other id name = record { place = k; here = e.0; there = Answered at name answer; at_here = e.1; at_there = here; named_here = refl; named_there = refl } in
            let found = order.selection.finished id (at, answer, answered_back id name at answer match (k, here)) in
            let same : renamed one other id ≡ name = one_name r q one other are id (renamed one other id) name (match_called id (was_called found.0 id found.1)) match in
            (found.0, subst (λ (l : List OpId). IsAt l found.0 name) (sym (renamed_ids one other ps)) (subst (λ (x : OpId). IsAt (map (renamed one other) (map (λ p. p.id) ps)) found.0 x) same (IsAt-map (renamed one other) (map (λ p. p.id) ps) found.0 id found.1)))

pub order_there : (n m r q : ℕ) (one other : List Entry) → r < n → q < m → AreAlike r q one other → HasPointOrder n one
    → HasPointOrder m other
order_there n m r q one other fits fit are (ps, order) =
    (map (renamed_point one other) ps, order_renamed r q one other are n m fits fit ps order)
