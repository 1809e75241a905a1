-- The operations of a history, each with its answer; a serial order of the history arranges them.
use Rattle.std.proofs.Common.{◌≡◌, ℕ, zero, suc, true, List, [], ◌∷◌, take, replicate, Option, Some, None, refl, sym}
use Rattle.std.proofs.Common.{ap, ◌∙◌, subst, inl, inr}
use Rattle.std.specs.Prelude.{cond}
use Rattle.std.specs.List.{AllZip}
use Rattle.std.proofs.lemmas.Bool.{cond_both, false≢true}
use Rattle.std.proofs.lemmas.Option.{same_Some, none-some}
use Rattle.reg_base.specs.declared.memory.OpId.{OpId}
use Rattle.reg_base.specs.declared.memory.Op.{Op}
use Rattle.reg_base.specs.declared.memory.Answer.{Answer}
use Rattle.reg_base.specs.Memory.{Memory, answer_of, after, memory_after}
use Rattle.reg_base.specs.Order.{In}
use Rattle.reg_checkers.specs.declared.entries.Entry.{Entry}
use Rattle.reg_checkers.specs.declared.entries.Entry.TheVariants.{Called, Answered}
use Rattle.reg_checkers.specs.History.{IsAt, IsCalled, IsAnswered, IsHistory}
use Rattle.reg_checkers.specs.Orders.{IsDistinct, KeepsOwnOrder, IsSerial}
use Rattle.reg_checkers.proofs.Places.{at_map}
use Rattle.reg_checkers.proofs.Histories.{call_is}
use Rattle.reg_world.proofs.lists.Bodies.{place_in}
use Rattle.reg_records.proofs.Search.{Fact, is_id, is_finished}
use Rattle.reg_records.proofs.Arranged.{ids_of, is_id_same, IsLegalOn, IsArranged}

-- the first answer to this operation
abbrev pub answer_for : OpId → List Entry → Option Answer
answer_for id [] = None
answer_for id (Called at other op ∷ h) = answer_for id h
answer_for id (Answered at other x ∷ h) = cond (is_id other id) (Some x) (answer_for id h)

abbrev pub fact : List Entry → OpId → Op → Fact
fact h id op = record { id = id; op = op; told = answer_for id h }

-- the operations that these entries call, with the answers of the history
abbrev pub facts_in : List Entry → List Entry → List Fact
facts_in h [] = []
facts_in h (Called at id op ∷ es) = fact h id op ∷ facts_in h es
facts_in h (Answered at id x ∷ es) = facts_in h es

answer_found : (id : OpId) (h : List Entry) (y : Answer) → answer_for id h ≡ Some y → (at : ℕ) × IsAnswered h id at y
answer_found id [] y e = absurd (none-some y e)
answer_found id (Called at other op ∷ h) y e = let r = answer_found id h y e in (r.0, (suc r.1.0, r.1.1))
answer_found id (Answered at other x ∷ h) y e =
    cond_both (is_id other id) (Some x) (answer_for id h) (λ o. o ≡ Some y → (t : ℕ) × IsAnswered (Answered at other x ∷ h) id t y)
    (λ same q. (at, (0, (λ i. Some (Answered at (is_id_same other id same i) (same_Some x y q i))))))
    (λ _ q. let r = answer_found id h y q in (r.0, (suc r.1.0, r.1.1))) e

fact_called : (h es : List Entry) (f : Fact) → In f (facts_in h es)
    → ((at : ℕ) × IsCalled es f.id at f.op) × (f.told ≡ answer_for f.id h)
fact_called h [] f i = absurd i
fact_called h (Called at id op ∷ es) f (inl e) = ((at, (0, (λ i. Some (Called at ((sym e i).id) ((sym e i).op))))), ap (λ (z : Fact). z.told) e ∙ ap (λ (z : Fact). answer_for z.id h) (sym e))
fact_called h (Called at id op ∷ es) f (inr i) = let r = fact_called h es f i in ((r.0.0, (suc r.0.1.0, r.0.1.1)), r.1)
fact_called h (Answered at id x ∷ es) f i = let r = fact_called h es f i in ((r.0.0, (suc r.0.1.0, r.0.1.1)), r.1)

called_fact : (h es : List Entry) (k at : ℕ) (id : OpId) (op : Op) → IsAt es k (Called at id op)
    → In (fact h id op) (facts_in h es)
called_fact h [] k at id op here = absurd (none-some (Called at id op) here)
called_fact h (Called t i o ∷ es) zero at id op here = inl (first (same_Some (Called t i o) (Called at id op) here))
  where
    first : Called t i o ≡ Called at id op → fact h id op ≡ fact h i o
    first e = cc
called_fact h (Called t i o ∷ es) (suc k) at id op here = inr (called_fact h es k at id op here)
called_fact h (Answered t i x ∷ es) zero at id op here =
    absurd (other (same_Some (Answered t i x) (Called at id op) here))
  where
    other : Answered t i x ≡ Called at id op → ⊥
    other e = cc
called_fact h (Answered t i x ∷ es) (suc k) at id op here = called_fact h es k at id op here

-- the facts of an order's ids and operations
abbrev pub facts_of : List Entry → List OpId → List Op → List Fact
facts_of h [] ops = []
facts_of h (id ∷ ids) [] = []
facts_of h (id ∷ ids) (op ∷ ops) = fact h id op ∷ facts_of h ids ops

module _ (h : List Entry) where
  abbrev IsZip : List OpId → List Op → Type 0
  IsZip ids ops = AllZip (λ id op. (at : ℕ) × IsCalled h id at op) ids ops

  same_ids : (ids : List OpId) (ops : List Op) → IsZip ids ops → ids_of (facts_of h ids ops) ≡ ids
  same_ids [] [] z = refl
  same_ids [] (op ∷ ops) z = absurd z
  same_ids (id ∷ ids) [] z = absurd z
  same_ids (id ∷ ids) (op ∷ ops) z = ap (λ l. id ∷ l) (same_ids ids ops z.1)

  are_facts : (ids : List OpId) (ops : List Op) → IsZip ids ops → (f : Fact) → In f (facts_of h ids ops) → In f (facts_in h h)
  are_facts [] ops z f i = absurd i
  are_facts (id ∷ ids) [] z f i = absurd z
  are_facts (id ∷ ids) (op ∷ ops) z f (inl e) = subst (λ (g : Fact). In g (facts_in h h)) (sym e) (called_fact h h z.0.1.0 z.0.0 id op z.0.1.1)
  are_facts (id ∷ ids) (op ∷ ops) z f (inr i) = are_facts ids ops z.1 f i

  are_legal : (ids : List OpId) (ops : List Op) (m : Memory) → IsZip ids ops
      → ((k : ℕ) (id : OpId) (op : Op) (at : ℕ) (answer : Answer) → IsAt ids k id → IsAt ops k op → IsAnswered h id at answer → answer ≡ answer_of op (memory_after (take k ops) m))
      → IsLegalOn m (facts_of h ids ops)
  are_legal [] ops m z right = tt
  are_legal (id ∷ ids) [] m z right = absurd z
  are_legal (id ∷ ids) (op ∷ ops) m z right = (
    λ y e. let r = answer_found id h y e in right 0 id op r.0 y refl refl r.1,
    are_legal ids ops (after op m) z.1 (λ k i o at answer here there is. right (suc k) i o at answer here there is),
  )

-- a serial order of a history arranges its operations
pub arranged : (n registers : ℕ) (h : List Entry) → IsHistory n registers h → (ids : List OpId)
    → (serial : IsSerial registers h ids)
    → (xs : List Fact) × (ids_of xs ≡ ids) × IsArranged (facts_in h h) (replicate registers 0) xs
arranged n registers h good ids serial =
    let legal = serial.legal in
    let xs = facts_of h ids legal.ops in
    let same = same_ids h ids legal.ops legal.called in (
      xs,
      same,
      record {
        known = are_facts h ids legal.ops legal.called;
        all = λ f i done.
            let told = finished f done in
            let c = fact_called h h f i in
            let answered = answer_found f.id h told.0 (sym c.1 ∙ told.1) in
            let stood = serial.selection.finished f.id (answered.0, told.0, answered.1) in
            let x = at_map (λ (f : Fact). f.id) xs stood.0 f.id (subst (λ (l : List OpId). IsAt l stood.0 f.id) (sym same) stood.1) in
            let d = fact_called h h x.0 (are_facts h ids legal.ops legal.called x.0 (place_in xs stood.0 x.0 x.1)) in
            let op = (call_is n registers h good f.id d.0.0 c.0.0 x.0.op f.op (subst (λ (z : OpId). IsCalled h z d.0.0 x.0.op) x.2 d.0.1) c.0.1).1 in
            let one : x.0 ≡ f = one_fact x.0 f x.2 op (d.1 ∙ (ap (λ (z : OpId). answer_for z h) x.2 ∙ sym c.1)) in
            subst (λ (g : Fact). In g xs) one (place_in xs stood.0 x.0 x.1);
        distinct = subst IsDistinct (sym same) serial.selection.distinct;
        own = subst KeepsOwnOrder (sym same) serial.own_order;
        legal = are_legal h ids legal.ops (replicate registers 0) legal.called legal.right;
      },
    )
  where
    one_fact : (x f : Fact) → x.id ≡ f.id → x.op ≡ f.op → x.told ≡ f.told → x ≡ f
    one_fact x f e o t = (λ i. record { id = e i; op = o i; told = t i })

    finished : (f : Fact) → is_finished f ≡ true → (y : Answer) × (f.told ≡ Some y)
    finished f done = go f.told refl done
      where
        go : (o : Option Answer) → f.told ≡ o → is_finished (record { id = f.id; op = f.op; told = o }) ≡ true → (y : Answer) × (f.told ≡ Some y)
        go None e d = absurd (false≢true d)
        go (Some y) e d = (y, e)
