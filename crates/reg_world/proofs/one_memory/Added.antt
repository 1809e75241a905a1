-- What a step adds to what is told of a run and to the past of a process, in both forms.
use Rattle.std.proofs.Common.{◌≡◌, ℕ, ◌<◌, ◌≤◌, true, false, List, [], ◌∷◌, ◌++◌, length, Option, Some, None, refl, sym}
use Rattle.std.proofs.Common.{ap, ◌∙◌, inl, inr, arith}
use Rattle.std.specs.Prelude.{slice_get, not, ◌==◌, ◌&&◌}
use Rattle.std.specs.List.{list_any}
use Rattle.std.proofs.lemmas.Bool.{cond_both, eqb-true, eq-eqb, and_parts, and_from, false≢true}
use Rattle.std.proofs.lemmas.Option.{same_Some, none-some}
use Rattle.reg_base.specs.declared.stamps.Stamp.{Stamp}
use Rattle.reg_base.specs.declared.memory.Op.{Op}
use Rattle.reg_base.specs.declared.memory.OpId.{OpId}
use Rattle.reg_base.specs.declared.memory.Answer.{Answer}
use Rattle.reg_base.specs.declared.stamps.Delivered.{Delivered}
use Rattle.reg_base.specs.Order.{In}
use Rattle.reg_process.specs.declared.steps.Reply.{Reply}
use Rattle.reg_process.specs.declared.steps.Step.{Step}
use Rattle.reg_process.specs.declared.steps.Step.TheVariants.{Call, Take, Tick}
use Rattle.reg_checkers.specs.declared.entries.Entry.TheVariants.{Called, Answered}
use Rattle.reg_world.specs.declared.order.First.{First}
use Rattle.reg_world.specs.declared.order.CopyRead.{CopyRead}
use Rattle.reg_world.specs.Nodes.{unseen}
use Rattle.reg_world.specs.Runs.{Cast}
use Rattle.reg_world.specs.World.{Replied, calls_in, answers_in, replies_in, casts_in, has_cast, reads_in, id_of}
use Rattle.reg_world.proofs.run.Traced.{Called as PastCall, Answered as PastAnswer, Past, called_in, answered_in}
use Rattle.reg_base.proofs.Lists.{in_filter}
use Rattle.reg_world.proofs.lists.Bodies.{place_last}
use Rattle.reg_base.proofs.Orders.{same_stamp}
use Rattle.reg_process.proofs.Deliver.{any_found, any_finds}

abbrev pub cast_of_first : First → Cast
cast_of_first f = record { stamp = f.stamp; id = f.id; op = f.op }

-- the past has this call under this id
abbrev pub IsPastCall : ℕ → (ℕ → Past) → OpId → PastCall → Type 0
IsPastCall n pasts id d = (id.process < n) × (slice_get (pasts id.process).calls id.number ≡ Some d)

abbrev pub IsPastAnswer : ℕ → (ℕ → Past) → OpId → PastAnswer → Type 0
IsPastAnswer n pasts id a = (id.process < n) × In a (pasts id.process).answers × (a.number ≡ id.number)

-- what a step adds, in both forms
pub new_called : (at : ℕ) (id0 : OpId) (st : Step) (c : Option Stamp) (x : ℕ) (id : OpId) (op : Op)
    → In (Called x id op) (calls_in at id0 st)
    → (x ≡ at) × (id ≡ id0) × In (record { op = op; at = at; cast = c }) (called_in at st c)
new_called at id0 (Call o) c x id op (inl e) =
    (cc, cc, inl (let q : op ≡ o = cc in ap (λ z. record { op = z; at = at; cast = c }) q))
new_called at id0 (Call o) c x id op (inr f) = absurd f
new_called at id0 (Take a f) c x id op h = absurd h
new_called at id0 Tick c x id op h = absurd h

pub called_new : (at : ℕ) (id : OpId) (st : Step) (c : Option Stamp) (d : PastCall) → In d (called_in at st c)
    → In (Called d.at id d.op) (calls_in at id st)
called_new at id (Call o) c d (inl e) = inl (ap (λ (z : PastCall). Called z.at id z.op) e)
called_new at id (Call o) c d (inr f) = absurd f
called_new at id (Take a f) c d h = absurd h
called_new at id Tick c d h = absurd h

pub no_answer : (at : ℕ) (id0 : OpId) (st : Step) (x : ℕ) (id : OpId) (y : Answer)
    → In (Answered x id y) (calls_in at id0 st) → ⊥
no_answer at id0 (Call o) x id y (inl e) = let bad : ⊥ = cc in bad
no_answer at id0 (Call o) x id y (inr f) = f
no_answer at id0 (Take a f) x id y h = h
no_answer at id0 Tick x id y h = h

pub no_call : (at : ℕ) (id0 : OpId) (o : Option Reply) (x : ℕ) (id : OpId) (op : Op)
    → In (Called x id op) (answers_in at id0 o) → ⊥
no_call at id0 None x id op h = h
no_call at id0 (Some r) x id op (inl e) = let bad : ⊥ = cc in bad
no_call at id0 (Some r) x id op (inr f) = f

pub new_answered : (at number : ℕ) (op : Op) (id0 : OpId) (o : Option Reply) (x : ℕ) (id : OpId) (y : Answer)
    → In (Answered x id y) (answers_in at id0 o)
    → (id ≡ id0)
    × ((a : PastAnswer) × In a (answered_in at number op o) × (a.number ≡ number) × (a.at ≡ x) × (a.reply.answer ≡ y))
new_answered at number op id0 None x id y h = absurd h
new_answered at number op id0 (Some r) x id y (inl e) =
    (cc, (record { number = number; at = at; op = op; reply = r }, inl refl, refl, cc, cc))
new_answered at number op id0 (Some r) x id y (inr f) = absurd f

pub answered_new : (at number : ℕ) (op : Op) (id : OpId) (o : Option Reply) (a : PastAnswer)
    → In a (answered_in at number op o)
    → (a.number ≡ number) × In (Answered a.at id a.reply.answer) (answers_in at id o)
    × In (record { id = id; at = a.at; reply = a.reply }) (replies_in at id o)
answered_new at number op id None a h = absurd h
answered_new at number op id (Some r) a (inl e) = (ap (λ (z : PastAnswer). z.number) e, inl (ap (λ (z : PastAnswer). Answered z.at id z.reply.answer) e), inl (ap (λ (z : PastAnswer). record { id = id; at = z.at; reply = z.reply }) e))
answered_new at number op id (Some r) a (inr f) = absurd f

pub new_replied : (at number : ℕ) (op : Op) (id0 : OpId) (o : Option Reply) (y : Replied) → In y (replies_in at id0 o)
    → (y.id ≡ id0)
    × ((a : PastAnswer) × In a (answered_in at number op o) × (a.number ≡ number) × (a.at ≡ y.at) × (a.reply ≡ y.reply))
new_replied at number op id0 None y h = absurd h
new_replied at number op id0 (Some r) y (inl e) = (ap (λ (z : Replied). z.id) e, (record { number = number; at = at; op = op; reply = r }, inl refl, refl, ap (λ (z : Replied). z.at) (sym e), ap (λ (z : Replied). z.reply) (sym e)))
new_replied at number op id0 (Some r) y (inr f) = absurd f

pub new_cast : (at : ℕ) (id0 : OpId) (st : Step) (o : Option Stamp) (c : Cast) → In c (casts_in id0 st o)
    → (c.id ≡ id0) × ((d : PastCall) × In d (called_in at st o) × (d.cast ≡ Some c.stamp) × (d.op ≡ c.op))
new_cast at id0 (Call op) None c h = absurd h
new_cast at id0 (Call op) (Some stamp) c (inl e) = (ap (λ (z : Cast). z.id) e, (record { op = op; at = at; cast = Some stamp }, inl refl, ap (λ (z : Cast). Some z.stamp) (sym e), ap (λ (z : Cast). z.op) (sym e)))
new_cast at id0 (Call op) (Some stamp) c (inr f) = absurd f
new_cast at id0 (Take a f) o c h = absurd h
new_cast at id0 Tick o c h = absurd h

pub cast_new : (at : ℕ) (id : OpId) (st : Step) (o : Option Stamp) (d : PastCall) (stamp : Stamp)
    → In d (called_in at st o) → d.cast ≡ Some stamp
    → In (record { stamp = stamp; id = id; op = d.op }) (casts_in id st o)
cast_new at id (Call op) None d stamp (inl e) c = absurd (none-some stamp (sym (ap (λ (z : PastCall). z.cast) e) ∙ c))
cast_new at id (Call op) (Some s) d stamp (inl e) c =
    let same : stamp ≡ s = same_Some stamp s (sym c ∙ ap (λ (z : PastCall). z.cast) e) in
    inl (λ i. record { stamp = same i; id = id; op = ap (λ (z : PastCall). z.op) e i })
cast_new at id (Call op) None d stamp (inr f) c = absurd f
cast_new at id (Call op) (Some s) d stamp (inr f) c = absurd f
cast_new at id (Take a f) o d stamp h c = absurd h
cast_new at id Tick o d stamp h c = absurd h

-- the call is the only one of its step
pub called_once : (at : ℕ) (st : Step) (c : Option Stamp) → length (called_in at st c) ≤ 1
called_once at (Call op) c = omega arith
called_once at (Take a f) c = omega arith
called_once at Tick c = omega arith

pub last_new : (calls : List PastCall) (at : ℕ) (st : Step) (c : Option Stamp) (d : PastCall) → In d (called_in at st c)
    → slice_get (calls ++ called_in at st c) (length calls) ≡ Some d
last_new calls at (Call op) c d (inl e) = place_last calls (record { op = op; at = at; cast = c }) ∙ ap Some (sym e)
last_new calls at (Call op) c d (inr f) = absurd f
last_new calls at (Take a f) c d h = absurd h
last_new calls at Tick c d h = absurd h

pub same_op_id : (a b : OpId) → a.process ≡ b.process → a.number ≡ b.number → a ≡ b
same_op_id a b p q = λ i. record { process = p i; number = q i }

-- a cast of the id is found by the test
pub cast_found : (casts : List Cast) (id : OpId) → has_cast casts id ≡ true → (c : Cast) × In c casts × (c.id ≡ id)
cast_found casts id h =
    let f = any_found (λ (c : Cast). (c.id.process == id.process) && (c.id.number == id.number)) casts h in
    let parts = and_parts (f.0.id.process == id.process) (f.0.id.number == id.number) f.2 in
    (f.0, f.1, same_op_id f.0.id id (eqb-true _ _ parts.0) (eqb-true _ _ parts.1))

pub cast_finds : (casts : List Cast) (id : OpId) (c : Cast) → In c casts → c.id ≡ id → has_cast casts id ≡ true
cast_finds casts id c i e =
    any_finds (λ (c : Cast). (c.id.process == id.process) && (c.id.number == id.number)) c casts i
    (and_from _ _ (eq-eqb c.id.process id.process (ap (λ (z : OpId). z.process) e)) (eq-eqb c.id.number id.number (ap (λ (z : OpId). z.number) e)))

-- the id of a stamp is that of a cast of this stamp
pub id_found : (casts : List Cast) (c : Cast) → In c casts
    → (k : Cast) × In k casts × (k.stamp ≡ c.stamp) × (id_of casts c.stamp ≡ k.id)
id_found [] c h = absurd h
id_found (x ∷ xs) c h =
    cond_both ((x.stamp.time == c.stamp.time) && (x.stamp.process == c.stamp.process)) x.id (id_of xs c.stamp)
    (λ z. (k : Cast) × In k (x ∷ xs) × (k.stamp ≡ c.stamp) × (z ≡ k.id))
    (λ e. let parts = and_parts (x.stamp.time == c.stamp.time) (x.stamp.process == c.stamp.process) e in (x, inl refl, same_stamp x.stamp c.stamp (eqb-true _ _ parts.0) (eqb-true _ _ parts.1), refl))
    (λ e. elim h [
      | inl q ↦ absurd (false≢true (sym e ∙ and_from _ _ (eq-eqb x.stamp.time c.stamp.time (ap (λ (z : Cast). z.stamp.time) (sym q))) (eq-eqb x.stamp.process c.stamp.process (ap (λ (z : Cast). z.stamp.process) (sym q)))))
      | inr i ↦ let r = id_found xs c i in (r.0, inr r.1, r.2, r.3)
    ])

pub new_read : (casts : List Cast) (at number : ℕ) (op : Op) (id0 : OpId) (o : Option Reply) (q : CopyRead)
    → In q (reads_in casts id0 o)
    → (q.id ≡ id0) × (has_cast casts id0 ≡ false)
    × ((a : PastAnswer) × In a (answered_in at number op o) × (a.number ≡ number) × (a.reply.place ≡ q.place))
new_read casts at number op id0 None q h = absurd h
new_read casts at number op id0 (Some r) q h =
    cond_both (has_cast casts id0) [] (record { id = id0; place = r.place } ∷ [])
    (λ l. In q l → (q.id ≡ id0) × (has_cast casts id0 ≡ false) × ((a : PastAnswer) × In a (answered_in at number op (Some r)) × (a.number ≡ number) × (a.reply.place ≡ q.place)))
    (λ e i. absurd i)
    (λ e i. elim i [
      | inl same ↦ (ap (λ (z : CopyRead). z.id) same, e, (record { number = number; at = at; op = op; reply = r }, inl refl, refl, ap (λ (z : CopyRead). z.place) (sym same)))
      | inr f ↦ absurd f
    ])
    h

pub read_new : (casts : List Cast) (at number : ℕ) (op : Op) (id : OpId) (o : Option Reply) (a : PastAnswer)
    → In a (answered_in at number op o) → has_cast casts id ≡ false
    → In (record { id = id; place = a.reply.place }) (reads_in casts id o)
read_new casts at number op id None a h e = absurd h
read_new casts at number op id (Some r) a (inl q) e =
    cond_both (has_cast casts id) [] (record { id = id; place = r.place } ∷ []) (λ l. In (record { id = id; place = a.reply.place }) l)
    (λ t. absurd (false≢true (sym e ∙ t)))
    (λ _. inl (ap (λ (z : PastAnswer). record { id = id; place = z.reply.place }) q))
read_new casts at number op id (Some r) a (inr f) e = absurd f

pub unseen_in : (c : Delivered) (known cs : List Delivered) → In c (unseen known cs) → In c cs
unseen_in c known cs h = (in_filter c (λ c. not (list_any (λ (d : Delivered). (d.stamp.time == c.stamp.time) && (d.stamp.process == c.stamp.process)) known)) cs h).0
