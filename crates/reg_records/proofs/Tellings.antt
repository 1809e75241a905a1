-- Receipts checked along a history.
use Rattle.std.proofs.Common.{◌≡◌, ◌⊎◌, inl, inr, ℕ, suc, ◌+◌, ◌<◌, ◌≤◌, List, length, map, take, Option, Some, None}
use Rattle.std.proofs.Common.{refl, ap, sym, ◌∙◌, subst, arith, ◌↔◌}
use Rattle.std.proofs.lemmas.Bool.{cases_order, cases_eq}
use Rattle.reg_base.specs.declared.memory.Op.{Op}
use Rattle.reg_base.specs.declared.memory.OpId.{OpId}
use Rattle.reg_base.specs.declared.memory.Answer.{Answer}
use Rattle.reg_checkers.specs.declared.entries.Entry.{Entry}
use Rattle.reg_checkers.specs.declared.entries.Entry.TheVariants.{Called, Answered}
use Rattle.reg_checkers.specs.History.{IsAt, IsCalled, IsAnswered, IsFinished, WasCalled, IsHistory, MayCall, MayAnswer}
use Rattle.reg_checkers.specs.Progress.{op_of, IsState, IsProgressOf}
use Rattle.reg_checkers.proofs.Histories.{answered_was_called, call_is, answer_is}
use Rattle.reg_checkers.proofs.Adding.{after_call, after_answer, call_elsewhere, answer_elsewhere}
use Rattle.reg_checkers.proofs.OneMore.{IsOneMore, one_more}
use Rattle.reg_checkers.proofs.Noting.{history_front}
use Rattle.reg_checkers.proofs.Places.{element_at, within, same_at, in_take, at_map}
use Rattle.reg_checkers.proofs.Placing.{runs_last}
use Rattle.reg_world.specs.World.{op_id}
use Rattle.reg_records.specs.declared.entries.Receipt.{Receipt}
use Rattle.reg_records.specs.declared.telling.Pending.{Pending}
use Rattle.reg_records.specs.declared.telling.Matched.{Matched}
use Rattle.reg_records.specs.Receipts.{IsReceipt, AreFinished}
use Rattle.reg_records.specs.Telling.{receipt_by, IsNextReceipt, IsAfter, IsOther, progress_of, IsToldIn}

receipt_more : (es ys : List Entry) (e : Entry) (id : OpId) (r : Receipt) → IsOneMore es e ys → IsReceipt es id r
    → IsReceipt ys id r
receipt_more es ys e id r more h = record { id_is = h.id_is; call = more.old (Called r.called id r.op) h.call; answer_of = more.old (Answered r.answered id r.answer) h.answer_of }

-- the call that runs has the number of the next finished operation
pending_is : (es : List Entry) (p done : ℕ) (call : Pending) → IsProgressOf es p (progress_of done (Some call))
    → IsCalled es (op_of p done) call.at call.op × (¬ IsFinished es (op_of p done))
pending_is es p done call kept = go kept.state
  where
    go : IsState es p (done + 1) (Some (record { at = call.at; op = call.op })) → IsCalled es (op_of p done) call.at call.op × (¬ IsFinished es (op_of p done))
    go (n, e, called, open_, before) =
        let same : n ≡ done = omega arith in
        subst (λ (m : ℕ). IsCalled es (op_of p m) call.at call.op × (¬ IsFinished es (op_of p m))) same (called, open_)

-- what is finished has a number below
finished_below : (count registers : ℕ) (es : List Entry) → IsHistory count registers es
    → (p done : ℕ) (o : Option Pending) → IsProgressOf es p (progress_of done o) → (k : ℕ) → IsFinished es (op_of p k)
    → k < done
finished_below count registers es good p done None kept k fin =
    (kept.calls k).1 (answered_was_called count registers es good (op_of p k) fin.0 fin.1 fin.2)
finished_below count registers es good p done (Some call) kept k fin = by (cases_order k done)
  where
    low : k < done + 1
    low = (kept.calls k).1 (answered_was_called count registers es good (op_of p k) fin.0 fin.1 fin.2)

    by : (k ≡ done) ⊎ ((k < done) ⊎ (done < k)) → k < done
    by (inl e) = absurd ((pending_is es p done call kept).1 (subst (λ (m : ℕ). IsFinished es (op_of p m)) e fin))
    by (inr (inl lt)) = lt
    by (inr (inr gt)) = absurd (let l : k < done + 1 = low in omega arith)

module _ (count registers : ℕ) (h : List Entry) (good : IsHistory count registers h) (p : ℕ) (receipts : List Receipt) where
  -- the same where another process went on
  other_goes : (es ys : List Entry) (e : Entry) (told : Matched) → IsOneMore es e ys → IsToldIn es p receipts told → IsProgressOf ys p (progress_of told.done told.running) → IsToldIn ys p receipts told
  other_goes es ys e told more t kept = record { progress = kept; within = t.within; each = λ k r lt at. receipt_more es ys e (op_id p k) r more (t.each k r lt at) }

  -- one call more
  told_call : (i at : ℕ) (id : OpId) (op : Op) (told next : Matched) → IsAt h i (Called at id op) → IsToldIn (take i h) p receipts told → IsAfter told p receipts (Called at id op) next → IsToldIn (take (suc i) h) p receipts next
  told_call i at id op told next here t is = by (cases_eq id.process p)
    where
      more : IsOneMore (take i h) (Called at id op) (take (suc i) h)
      more = one_more h i (Called at id op) here

      front : IsHistory count registers (take i h)
      front = history_front count registers h i good

      may : MayCall count registers (take i h) at id op
      may = good i (Called at id op) here

      calls : (done : ℕ) → IsProgressOf (take i h) p (progress_of done None) → p ≡ id.process → (done ≡ id.number) ⊎ ((done < id.number) ⊎ (id.number < done)) → done ≡ id.number
      calls done kept same (inl e) = e
      calls done kept same (inr (inl lt)) =
          let was : WasCalled (take i h) (op_of p done) = subst (λ (q : ℕ). WasCalled (take i h) (op_of q done)) (sym same) ((may.next done).0 lt) in
          let less : done < done = (kept.calls done).1 was in absurd (omega arith)
      calls done kept same (inr (inr gt)) =
          let was : WasCalled (take i h) (op_of id.process id.number) = subst (λ (q : ℕ). WasCalled (take i h) (op_of q id.number)) same ((kept.calls id.number).0 gt) in
          let less : id.number < id.number = (may.next id.number).1 was in absurd (omega arith)

      -- the process runs nothing where it may call
      runs : (done : ℕ) (o : Option Pending) → IsProgressOf (take i h) p (progress_of done o) → p ≡ id.process → IsProgressOf (take (suc i) h) p (progress_of done (Some (record { at = at; op = op })))
      runs done None kept same = after_call count registers (take i h) (take (suc i) h) p (progress_of done None) front kept at id op same may (calls done kept same (cases_order done id.number)) more
      runs done (Some call) kept same =
          let r = pending_is (take i h) p done call kept in
          absurd (r.1 (may.idle (op_of p done) same (call.at, call.op, r.0)))

      by : (id.process ≡ p) ⊎ (id.process ≡ p → ⊥) → IsToldIn (take (suc i) h) p receipts next
      by (inl same) = subst (λ (x : Matched). IsToldIn (take (suc i) h) p receipts x) (sym (is.0 same)) (record {
        progress = runs told.done told.running t.progress (sym same);
        within = t.within;
        each = λ k r lt stands. receipt_more (take i h) (take (suc i) h) (Called at id op) (op_id p k) r more (t.each k r lt stands);
      })
      by (inr other) = subst (λ (x : Matched). IsToldIn (take (suc i) h) p receipts x) (sym (is.1 other))
          (other_goes (take i h) (take (suc i) h) (Called at id op) told more t (call_elsewhere (take i h) (take (suc i) h) p (progress_of told.done told.running) at id op (λ e. other (sym e)) t.progress more))

  -- the answer is that of the call that runs
  answers : (i at done : ℕ) (id : OpId) (a : Answer) (call : Pending) → IsAt h i (Answered at id a) → IsProgressOf (take i h) p (progress_of done (Some call)) → id.process ≡ p → id ≡ op_id p done
  answers i at done id a call here kept same =
      let may : MayAnswer (take i h) at id a = good i (Answered at id a) here in
      let last : done + 1 ≡ suc id.number =
      runs_last (take i h) id (progress_of done (Some call)) (subst (λ (q : ℕ). IsProgressOf (take i h) q (progress_of done (Some call))) (sym same) kept) (record { at = call.at; op = call.op }) refl (may.called_at, may.op, may.called) may.running in
      let number : id.number ≡ done = omega arith in
      (λ k. record { process = same k; number = number k })

  -- one answer more
  told_answer : (i at : ℕ) (id : OpId) (a : Answer) (told next : Matched) → IsAt h i (Answered at id a) → IsToldIn (take i h) p receipts told → IsAfter told p receipts (Answered at id a) next → IsToldIn (take (suc i) h) p receipts next
  told_answer i at id a told next here t is = by (cases_eq id.process p)
    where
      more : IsOneMore (take i h) (Answered at id a) (take (suc i) h)
      more = one_more h i (Answered at id a) here

      front : IsHistory count registers (take i h)
      front = history_front count registers h i good

      may : MayAnswer (take i h) at id a
      may = good i (Answered at id a) here

      ends : (call : Pending) → told.running ≡ Some call → IsAt receipts told.done (receipt_by id call at a) → id.process ≡ p → IsToldIn (take (suc i) h) p receipts (record { done = told.done + 1; running = None })
      ends call runs stands same = record {
        progress = after_answer count registers (take i h) (take (suc i) h) p (progress_of told.done (Some call)) front kept at id a (sym same) (record { at = call.at; op = call.op }) refl may more;
        within = let lt = within receipts told.done (receipt_by id call at a) stands in omega arith;
        each = each;
      }
        where
          kept : IsProgressOf (take i h) p (progress_of told.done (Some call))
          kept = subst (λ (o : Option Pending). IsProgressOf (take i h) p (progress_of told.done o)) runs t.progress

          name : id ≡ op_id p told.done
          name = answers i at told.done id a call here kept same

          last : IsReceipt (take (suc i) h) (op_id p told.done) (receipt_by id call at a)
          last = record {
            id_is = name;
            call = more.old (Called call.at (op_of p told.done) call.op) (pending_is (take i h) p told.done call kept).0;
            answer_of = subst (λ (x : OpId). IsAnswered (take (suc i) h) x at a) name more.new;
          }

          each : (k : ℕ) (r : Receipt) → k < told.done + 1 → IsAt receipts k r → IsReceipt (take (suc i) h) (op_id p k) r
          each k r lt at' = go (cases_order k told.done)
            where
              go : (k ≡ told.done) ⊎ ((k < told.done) ⊎ (told.done < k)) → IsReceipt (take (suc i) h) (op_id p k) r
              go (inl e) =
                  let one : r ≡ receipt_by id call at a = same_at receipts told.done r (receipt_by id call at a) (subst (λ (j : ℕ). IsAt receipts j r) e at') stands in
                  subst (λ (x : Receipt). IsReceipt (take (suc i) h) (op_id p k) x) (sym one) (subst (λ (j : ℕ). IsReceipt (take (suc i) h) (op_id p j) (receipt_by id call at a)) (sym e) last)
              go (inr (inl less)) = receipt_more (take i h) (take (suc i) h) (Answered at id a) (op_id p k) r more (t.each k r less at')
              go (inr (inr gt)) = absurd (omega arith)

      by : (id.process ≡ p) ⊎ (id.process ≡ p → ⊥) → IsToldIn (take (suc i) h) p receipts next
      by (inl same) = let r = is.0 same in subst (λ (x : Matched). IsToldIn (take (suc i) h) p receipts x) (sym r.1) (ends r.0.0 r.0.1 r.0.2 same)
      by (inr other) = subst (λ (x : Matched). IsToldIn (take (suc i) h) p receipts x) (sym (is.1 other))
          (other_goes (take i h) (take (suc i) h) (Answered at id a) told more t (answer_elsewhere (take i h) (take (suc i) h) p (progress_of told.done told.running) at id a (λ e. other (sym e)) t.progress more))

  -- one entry more
  pub told_more : (i : ℕ) (e : Entry) (told next : Matched) → IsAt h i e → IsToldIn (take i h) p receipts told
      → IsAfter told p receipts e next → IsToldIn (take (suc i) h) p receipts next
  told_more i (Called at id op) told next here t is = told_call i at id op told next here t is
  told_more i (Answered at id a) told next here t is = told_answer i at id a told next here t is

  -- another receipt is none of the finished operations
  pub told_other : (i : ℕ) (e : Entry) (told : Matched) → IsAt h i e → IsToldIn (take i h) p receipts told
      → IsOther told p receipts e → AreFinished h p receipts → ⊥
  told_other i (Called at id op) told here t is all = is
  told_other i (Answered at id a) told here t is all = is.1 (go told.running refl)
    where
      may : MayAnswer (take i h) at id a
      may = good i (Answered at id a) here

      go : (o : Option Pending) → told.running ≡ o → IsNextReceipt told receipts at id a
      go None none =
          let kept : IsProgressOf (take i h) p (progress_of told.done None) = subst (λ (o : Option Pending). IsProgressOf (take i h) p (progress_of told.done o)) none t.progress in
          absurd (may.running (kept.state id is.0 (may.called_at, may.op, may.called)))
      go (Some call) runs = (call, runs, subst (λ (x : Receipt). IsAt receipts told.done x) same r.1)
        where
          kept : IsProgressOf (take i h) p (progress_of told.done (Some call))
          kept = subst (λ (o : Option Pending). IsProgressOf (take i h) p (progress_of told.done o)) runs t.progress

          name : id ≡ op_id p told.done
          name = answers i at told.done id a call here kept is.0

          answered : IsAnswered h (op_id p told.done) at a
          answered = (i, subst (λ (x : OpId). IsAt h i (Answered at x a)) name here)

          r : (x : Receipt) × IsAt receipts told.done x
          r = element_at receipts told.done (all.all told.done (at, a, answered))

          is_r : IsReceipt h (op_id p told.done) r.0
          is_r = all.each told.done r.0 r.1

          called : IsCalled h (op_id p told.done) call.at call.op
          called = let c = (pending_is (take i h) p told.done call kept).0 in (c.0, (in_take h i c.0 (Called call.at (op_of p told.done) call.op) c.1).1)

          call_same : (r.0.called ≡ call.at) × (r.0.op ≡ call.op)
          call_same = call_is count registers h good (op_id p told.done) r.0.called call.at r.0.op call.op is_r.call called

          answer_same : (r.0.answered ≡ at) × (r.0.answer ≡ a)
          answer_same = answer_is count registers h good (op_id p told.done) r.0.answered at r.0.answer a is_r.answer_of answered

          same : r.0 ≡ receipt_by id call at a
          same k = record { id = (is_r.id_is ∙ sym name) k; op = call_same.1 k; answer = answer_same.1 k; called = call_same.0 k; answered = answer_same.0 k }

  -- at the end the receipts are just those of the finished operations, or there are more of them
  pub told_all : (told : Matched) → IsToldIn h p receipts told → told.done ≡ length receipts ↔ AreFinished h p receipts
  told_all told t = (there, back)
    where
      there : told.done ≡ length receipts → AreFinished h p receipts
      there e = record {
        each = λ k r at. let lt = within receipts k r at in t.each k r (omega arith) at;
        all = λ k fin. let lt = finished_below count registers h good p told.done told.running t.progress k fin in omega arith;
      }

      back : AreFinished h p receipts → told.done ≡ length receipts
      back all = go (cases_order told.done (length receipts))
        where
          go : (told.done ≡ length receipts) ⊎ ((told.done < length receipts) ⊎ (length receipts < told.done)) → told.done ≡ length receipts
          go (inl e) = e
          go (inr (inl lt)) =
              let r = element_at receipts told.done lt in
              let is_r = all.each told.done r.0 r.1 in
              let less : told.done < told.done = finished_below count registers h good p told.done told.running t.progress told.done (r.0.answered, r.0.answer, is_r.answer_of) in absurd (omega arith)
          go (inr (inr gt)) = let w = t.within in absurd (omega arith)

-- one list more
pub lists_more : {X : Type 0} (h : List Entry) (f : X → List Receipt) (lists : List X) (i : ℕ) (x : X) → IsAt lists i x
    → ((p : ℕ) (those : List Receipt) → p < i → IsAt (map f lists) p those → AreFinished h p those) → AreFinished h i (f x)
    → (p : ℕ) (those : List Receipt) → p < i + 1 → IsAt (map f lists) p those → AreFinished h p those
lists_more {X = X} h f lists i x here before last p those lt at = by (cases_order p i)
  where
    by : (p ≡ i) ⊎ ((p < i) ⊎ (i < p)) → AreFinished h p those
    by (inl e) =
        let r = at_map f lists p those at in
        let one : r.0 ≡ x = same_at lists i r.0 x (subst (λ (j : ℕ). IsAt lists j r.0) e r.1) here in
        let list : f x ≡ those = ap f (sym one) ∙ r.2 in
        subst (λ (l : List Receipt). AreFinished h p l) list (subst (λ (j : ℕ). AreFinished h j (f x)) (sym e) last)
    by (inr (inl less)) = before p those less at
    by (inr (inr more)) = absurd (omega arith)

pub lists_all : {X : Type 0} (h : List Entry) (f : X → List Receipt) (lists : List X) (i : ℕ) → length lists ≤ i
    → ((p : ℕ) (those : List Receipt) → p < i → IsAt (map f lists) p those → AreFinished h p those) → (p : ℕ) (those : List Receipt) → IsAt (map f lists) p those → AreFinished h p those
lists_all h f lists i all before p those at =
    let r = at_map f lists p those at in let lt = within lists p r.0 r.1 in before p those (omega arith) at
