-- What holds of a history in which each entry was in place.
use Rattle.std.proofs.Common.{◌≡◌, ℕ, ◌-◌, ◌<◌, ◌≤◌, ◌⊎◌, inl, inr, List, take, length, Option, Some, None, IfSome}
use Rattle.std.proofs.Common.{refl, ap, sym, ◌∙◌, subst, arith}
use Rattle.std.proofs.lemmas.Bool.{cases_order}
use Rattle.reg_base.specs.declared.memory.OpId.{OpId}
use Rattle.reg_base.specs.declared.memory.Op.{Op}
use Rattle.reg_base.specs.declared.memory.Answer.{Answer}
use Rattle.reg_checkers.specs.declared.entries.Entry.{Entry}
use Rattle.reg_checkers.specs.declared.entries.Entry.TheVariants.{Called, Answered}
use Rattle.reg_checkers.specs.History.{IsAt, IsCalled, IsAnswered, IsFinished, WasCalled, MayCall, MayAnswer, IsHistory}
use Rattle.reg_checkers.specs.History.{event_of}
use Rattle.reg_checkers.specs.Progress.{last_of, IsBehindLast}
use Rattle.reg_checkers.proofs.Places.{within, same_at, at_take, in_take, element_at}

module _ (n registers : ℕ) (es : List Entry) (good : IsHistory n registers es) where
  -- events never fall
  pub events_rise : (i j : ℕ) (a b : Entry) → IsAt es i a → IsAt es j b → i < j → event_of a ≤ event_of b
  events_rise i j a (Called at id op) at1 at2 lt =
      let less : event_of a < at = (good j (Called at id op) at2).later i a (at_take es j i lt ∙ at1) in
      omega arith
  events_rise i j a (Answered at id answer) at1 at2 lt = go (good j (Answered at id answer) at2)
    where
      cases : (op : Op) → (event_of a < at) ⊎ (a ≡ Called at id op) → event_of a ≤ at
      cases op (inl less) = omega arith
      cases op (inr own) = let same : event_of a ≡ at = ap event_of own in omega arith

      go : MayAnswer (take j es) at id answer → event_of a ≤ at
      go may = cases may.op (may.later i a (at_take es j i lt ∙ at1))

  -- an entry is the last one, or stands before it
  at_last : (k : ℕ) (e c : Entry) → IsAt es k e → last_of es ≡ Some c → (e ≡ c) ⊎ (k < length es - 1)
  at_last k e c here last = go (cases_order k (length es - 1))
    where
      go : (k ≡ length es - 1) ⊎ ((k < length es - 1) ⊎ (length es - 1 < k)) → (e ≡ c) ⊎ (k < length es - 1)
      go (inl same) = inl (same_at es (length es - 1) e c (subst (λ (l : ℕ). IsAt es l e) same here) last)
      go (inr (inl less)) = inr less
      go (inr (inr more)) = let inside : k < length es = within es k e here in absurd (omega arith)

  -- what comes after the last entry comes after all
  pub behind_all : (t : ℕ) → IsBehindLast es t → (k : ℕ) (e : Entry) → IsAt es k e → event_of e < t
  behind_all t behind k e here =
      let last : (c : Entry) × IsAt es (length es - 1) c = element_at es (length es - 1) (let inside : k < length es = within es k e here in omega arith) in
      let less : event_of last.0 < t = subst (λ (o : Option Entry). IfSome o (λ e. event_of e < t)) last.1 behind in
      go last.0 last.1 less (at_last k e last.0 here last.1)
    where
      go : (c : Entry) → IsAt es (length es - 1) c → event_of c < t → (e ≡ c) ⊎ (k < length es - 1) → event_of e < t
      go c last less (inl same) = subst (λ (d : Entry). event_of d < t) (sym same) less
      go c last less (inr before) = let le : event_of e ≤ event_of c = events_rise k (length es - 1) e c here last before in omega arith

  -- and the other way about
  pub behind_last : (t : ℕ) → ((k : ℕ) (e : Entry) → IsAt es k e → event_of e < t) → IsBehindLast es t
  behind_last t all = go (last_of es) refl
    where
      go : (o : Option Entry) → last_of es ≡ o → IfSome o (λ e. event_of e < t)
      go None is = tt
      go (Some c) is = all (length es - 1) c is

  -- where a call stands last, all else is of earlier events
  pub behind_call : (at : ℕ) (id : OpId) (op : Op) → last_of es ≡ Some (Called at id op) → (k : ℕ) (e : Entry)
      → IsAt es k e → (event_of e < at) ⊎ (e ≡ Called at id op)
  behind_call at id op last k e here = go (at_last k e (Called at id op) here last)
    where
      go : (e ≡ Called at id op) ⊎ (k < length es - 1) → (event_of e < at) ⊎ (e ≡ Called at id op)
      go (inl same) = inr same
      go (inr before) = inl ((good (length es - 1) (Called at id op) last).later k e (at_take es (length es - 1) k before ∙ here))

  pub last_or_call : (at : ℕ) (id : OpId) (op : Op)
      → ((k : ℕ) (e : Entry) → IsAt es k e → (event_of e < at) ⊎ (e ≡ Called at id op))
      → IsBehindLast es at ⊎ ((op : Op) × (last_of es ≡ Some (Called at id op)))
  last_or_call at id op all = go (last_of es) refl
    where
      pick : (c : Entry) → (event_of c < at) ⊎ (c ≡ Called at id op) → (event_of c < at) ⊎ ((op : Op) × (Some c ≡ Some (Called at id op)))
      pick c (inl less) = inl less
      pick c (inr own) = inr (op, ap (λ (x : Entry). Some x) own)

      go : (o : Option Entry) → last_of es ≡ o → IfSome o (λ e. event_of e < at) ⊎ ((op : Op) × (o ≡ Some (Called at id op)))
      go None is = inl tt
      go (Some c) is = pick c (all (length es - 1) c is)

  -- calls of one process come by their numbers
  pub called_in_turn : (i j : ℕ) (a b : OpId) (s t : ℕ) (o p : Op) → IsAt es i (Called s a o) → IsAt es j (Called t b p)
      → a.process ≡ b.process → a.number < b.number → i < j
  called_in_turn i j a b s t o p at1 at2 same lt = go (cases_order i j)
    where
      go : (i ≡ j) ⊎ ((i < j) ⊎ (j < i)) → i < j
      go (inl e) =
          let one : Called s a o ≡ Called t b p = same_at es j (Called s a o) (Called t b p) (subst (λ (k : ℕ). IsAt es k (Called s a o)) e at1) at2 in
          let ids : a ≡ b = cc in
          absurd (not_less ids lt)
        where
          not_less : {u v : OpId} → u ≡ v → u.number < v.number → ⊥
          not_less e lt = grind arith
      go (inr (inl less)) = less
      go (inr (inr more)) =
          let here : IsAt (take i es) j (Called t b p) = at_take es i j more ∙ at2 in
          let ids : b ≡ record { process = a.process; number = b.number } = ap (λ (x : ℕ). record { process = x; number = b.number }) (sym same) in
          let was : WasCalled (take i es) (record { process = a.process; number = b.number }) = subst (λ (x : OpId). WasCalled (take i es) x) ids (t, p, (j, here)) in
          let less : b.number < a.number = ((good i (Called s a o) at1).next b.number).1 was in
          absurd (omega arith)

  -- an id is called once
  pub called_once : (i j : ℕ) (id : OpId) (s t : ℕ) (o p : Op) → IsAt es i (Called s id o) → IsAt es j (Called t id p)
      → i ≡ j
  called_once i j id s t o p at1 at2 = go (cases_order i j)
    where
      again : (i j : ℕ) (s t : ℕ) (o p : Op) → IsAt es i (Called s id o) → IsAt es j (Called t id p) → i < j → ⊥
      again i j s t o p at1 at2 lt =
          let less : id.number < id.number = ((good j (Called t id p) at2).next id.number).1 (s, o, (i, at_take es j i lt ∙ at1)) in
          omega arith

      go : (i ≡ j) ⊎ ((i < j) ⊎ (j < i)) → i ≡ j
      go (inl e) = e
      go (inr (inl less)) = absurd (again i j s t o p at1 at2 less)
      go (inr (inr more)) = absurd (again j i t s p o at2 at1 more)

  pub call_is : (id : OpId) (s t : ℕ) (o p : Op) → IsCalled es id s o → IsCalled es id t p → (s ≡ t) × (o ≡ p)
  call_is id s t o p (i, at1) (j, at2) =
      let one : Called s id o ≡ Called t id p = same_at es j (Called s id o) (Called t id p) (subst (λ (k : ℕ). IsAt es k (Called s id o)) (called_once i j id s t o p at1 at2) at1) at2 in
      (cc, cc)

  -- an id is answered once
  pub answer_is : (id : OpId) (s t : ℕ) (x y : Answer) → IsAnswered es id s x → IsAnswered es id t y → (s ≡ t) × (x ≡ y)
  answer_is id s t x y (i, at1) (j, at2) = go (cases_order i j)
    where
      again : (i j : ℕ) (s t : ℕ) (x y : Answer) → IsAt es i (Answered s id x) → IsAt es j (Answered t id y) → i < j → ⊥
      again i j s t x y at1 at2 lt = (good j (Answered t id y) at2).running (s, x, (i, at_take es j i lt ∙ at1))

      go : (i ≡ j) ⊎ ((i < j) ⊎ (j < i)) → (s ≡ t) × (x ≡ y)
      go (inl e) =
          let one : Answered s id x ≡ Answered t id y = same_at es j (Answered s id x) (Answered t id y) (subst (λ (k : ℕ). IsAt es k (Answered s id x)) e at1) at2 in
          (cc, cc)
      go (inr (inl less)) = absurd (again i j s t x y at1 at2 less)
      go (inr (inr more)) = absurd (again j i t s y x at2 at1 more)

  -- what was answered was called
  pub answered_was_called : (id : OpId) (s : ℕ) (x : Answer) → IsAnswered es id s x → WasCalled es id
  answered_was_called id s x (j, at) =
      let may : MayAnswer (take j es) s id x = good j (Answered s id x) at in
      (may.called_at, may.op, (may.called.0, (in_take es j may.called.0 (Called may.called_at id may.op) may.called.1).1))

  -- a process calls only after its last answer, at a later event
  pub answered_before_next : (a b : OpId) (t : ℕ) (p : Op) → WasCalled es a → IsCalled es b t p → a.process ≡ b.process
      → a.number < b.number
      → (s : ℕ) × (x : Answer) × IsAnswered es a s x × (s < t)
  answered_before_next a b t p (s, o, (i, at1)) (j, at2) same lt =
      let order : i < j = called_in_turn i j a b s t o p at1 at2 same lt in
      let may : MayCall n registers (take j es) t b p = good j (Called t b p) at2 in
      let fin : IsFinished (take j es) a = may.idle a same (s, o, (i, at_take es j i order ∙ at1)) in
      let there = in_take es j fin.2.0 (Answered fin.0 a fin.1) fin.2.1 in
      (fin.0, fin.1, (fin.2.0, there.1), may.later fin.2.0 (Answered fin.0 a fin.1) fin.2.1)
