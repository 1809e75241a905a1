-- What is told of a run, against the past of each process: what both have in common, and one step.
use Rattle.std.proofs.Common.{◌≡◌, ℕ, ◌-◌, ◌<◌, ◌⊎◌, false, List, [], ◌∷◌, ◌++◌, length, map, Option, Some, None, refl}
use Rattle.std.proofs.Common.{sym, ap, ◌∙◌, subst, inl, inr, arith, length-append}
use Rattle.std.specs.Prelude.{slice_get}
use Rattle.std.proofs.lemmas.Bool.{cases_Bool, false≢true}
use Rattle.std.proofs.lemmas.Option.{same_Some, none-some}
use Rattle.reg_base.specs.declared.stamps.Stamp.{Stamp}
use Rattle.reg_base.specs.declared.memory.Op.{Op}
use Rattle.reg_base.specs.declared.memory.OpId.{OpId}
use Rattle.reg_base.specs.declared.memory.Answer.{Answer}
use Rattle.reg_base.specs.declared.stamps.Delivered.{Delivered}
use Rattle.reg_base.specs.Order.{In}
use Rattle.reg_front.specs.declared.starts.Start.{Start}
use Rattle.reg_process.specs.declared.steps.Reply.{Reply}
use Rattle.reg_process.specs.declared.steps.Step.{Step}
use Rattle.reg_process.specs.declared.steps.Step.TheVariants.{Call, Take, Tick}
use Rattle.reg_process.specs.Process.{State, Outcome, step}
use Rattle.reg_checkers.specs.declared.entries.Entry.{Entry}
use Rattle.reg_checkers.specs.declared.entries.Entry.TheVariants.{Called, Answered}
use Rattle.reg_checkers.specs.History.{event_of}
use Rattle.reg_process.specs.declared.events.Event.{Event}
use Rattle.reg_world.specs.declared.order.First.{First}
use Rattle.reg_world.specs.declared.order.CopyRead.{CopyRead}
use Rattle.reg_world.specs.Nodes.{op_in, put, after_step, unseen}
use Rattle.reg_world.specs.Runs.{Cast}
use Rattle.reg_world.specs.World.{World, Replied, op_id, calls_in, answers_in, replies_in, casts_in, has_cast, reads_in}
use Rattle.reg_world.specs.World.{first_of, delivered_of, told}
use Rattle.reg_world.proofs.run.Traced.{Called as PastCall, Answered as PastAnswer, Past, called_in, answered_in}
use Rattle.reg_world.proofs.run.Traced.{past_after, pasts_after, traced_by}
use Rattle.reg_base.proofs.Lists.{in_left, in_right, in_cases}
use Rattle.reg_world.proofs.lists.Bodies.{place_first, place_split, place_within}
use Rattle.reg_world.proofs.one_order.Acts.{put_cases}
use Rattle.reg_world.proofs.lists.Members.{map_in}
use Rattle.reg_world.proofs.one_memory.Added.{cast_of_first, IsPastCall, IsPastAnswer, new_called, called_new}
use Rattle.reg_world.proofs.one_memory.Added.{no_answer, no_call, new_answered, answered_new, new_replied, new_cast}
use Rattle.reg_world.proofs.one_memory.Added.{cast_new, called_once, last_new, same_op_id, cast_found, cast_finds}
use Rattle.reg_world.proofs.one_memory.Added.{id_found, new_read, read_new, unseen_in}

pub record Joined (n : ℕ) (t : World) (pasts : ℕ → Past) : Type 0 where
  pub called : (at : ℕ) (id : OpId) (op : Op) → In (Called at id op) t.history
      → (d : PastCall) × IsPastCall n pasts id d × (d.op ≡ op) × (d.at ≡ at)
  pub calls : (id : OpId) (d : PastCall) → IsPastCall n pasts id d → In (Called d.at id d.op) t.history
  pub answered : (at : ℕ) (id : OpId) (x : Answer) → In (Answered at id x) t.history
      → (a : PastAnswer) × IsPastAnswer n pasts id a × (a.at ≡ at) × (a.reply.answer ≡ x)
  pub answers : (id : OpId) (a : PastAnswer) → IsPastAnswer n pasts id a
      → In (Answered a.at id a.reply.answer) t.history
  pub replied : (y : Replied) → In y t.replies
      → (a : PastAnswer) × IsPastAnswer n pasts y.id a × (a.at ≡ y.at) × (a.reply ≡ y.reply)
  pub replies : (id : OpId) (a : PastAnswer) → IsPastAnswer n pasts id a
      → In (record { id = id; at = a.at; reply = a.reply }) t.replies
  pub cast : (c : Cast) → In c t.casts
      → (d : PastCall) × IsPastCall n pasts c.id d × (d.cast ≡ Some c.stamp) × (d.op ≡ c.op)
  pub casts : (id : OpId) (d : PastCall) (stamp : Stamp) → IsPastCall n pasts id d → d.cast ≡ Some stamp
      → In (record { stamp = stamp; id = id; op = d.op }) t.casts
  pub first : (f : First) → In f t.order → In (cast_of_first f) t.casts
  pub read : (q : CopyRead) → In q t.reads
      → (a : PastAnswer) × (d : PastCall) × IsPastAnswer n pasts q.id a × IsPastCall n pasts q.id d
      × (a.reply.place ≡ q.place) × (d.cast ≡ None)
  pub reads : (id : OpId) (a : PastAnswer) (d : PastCall) → IsPastAnswer n pasts id a → IsPastCall n pasts id d
      → d.cast ≡ None → In (record { id = id; place = a.reply.place }) t.reads
  pub below : (e : Entry) → In e t.history → event_of e < length t.accepted

module _ (start : Op → ℕ → Start) (n : ℕ) (t : World) (pasts : ℕ → Past) (e : Event) (p : ℕ) (st : Step) (l : p < n) (numbers : length (pasts p).calls ≡ (t.nodes p).state.calls) (J : Joined n t pasts) where
  abbrev pub S : State
  S = (t.nodes p).state

  abbrev pub R : State × Outcome
  R = step start S st

  abbrev pub pasts_now : ℕ → Past
  pasts_now = pasts_after start (traced_by t pasts) (Some (p, st))

  abbrev pub told_now : World
  told_now = told t e p S st R (put t.nodes p (after_step start (t.nodes p) st))

  abbrev pub Asked : List PastCall
  Asked = called_in (length t.accepted) st R.1.cast

  abbrev pub Given : List PastAnswer
  Given = answered_in (length t.accepted) (R.0.calls - 1) (op_in S st) R.1.reply

  abbrev pub This : Past
  This = past_after (length t.accepted) S (pasts p) st R

  abbrev pub Old : OpId
  Old = op_id p S.calls

  abbrev pub New : OpId
  New = op_id p (R.0.calls - 1)

  pub call_stays : (id : OpId) (d : PastCall) → IsPastCall n pasts id d → IsPastCall n pasts_now id d
  call_stays id d h = (
    h.0,
    put_cases (λ (g : Past). slice_get g.calls id.number ≡ Some d) pasts p This id.process
        (λ q. place_first (pasts p).calls Asked id.number d (subst (λ z. slice_get (pasts z).calls id.number ≡ Some d) q h.1)) (λ ne. h.1),
  )

  pub answer_stays : (id : OpId) (a : PastAnswer) → IsPastAnswer n pasts id a → IsPastAnswer n pasts_now id a
  answer_stays id a h = (
    h.0,
    put_cases (λ (g : Past). In a g.answers) pasts p This id.process (λ q. in_left a (pasts p).answers Given (subst (λ z. In a (pasts z).answers) q h.1)) (λ ne. h.1),
    h.2,
  )

  pub call_added : (d : PastCall) → In d Asked → IsPastCall n pasts_now Old d
  call_added d i = (
    l,
    put_cases (λ (g : Past). slice_get g.calls S.calls ≡ Some d) pasts p This p
        (λ _. ap (slice_get ((pasts p).calls ++ Asked)) (sym numbers) ∙ last_new (pasts p).calls (length t.accepted) st R.1.cast d i) (λ ne. absurd (ne refl)),
  )

  pub answer_added : (a : PastAnswer) → In a Given → a.number ≡ R.0.calls - 1 → IsPastAnswer n pasts_now New a
  answer_added a i k = (l, put_cases (λ (g : Past). In a g.answers) pasts p This p (λ _. in_right a (pasts p).answers Given i) (λ ne. absurd (ne refl)), k)

  pub call_cases : (id : OpId) (d : PastCall) → IsPastCall n pasts_now id d
      → IsPastCall n pasts id d ⊎ ((id ≡ Old) × In d Asked)
  call_cases id d h =
      put_cases (λ (g : Past). slice_get g.calls id.number ≡ Some d → IsPastCall n pasts id d ⊎ ((id ≡ Old) × In d Asked)) pasts p This id.process
      (λ q at. elim (place_split (pasts p).calls Asked id.number d at) [
        | inl k ↦ inl (h.0, subst (λ z. slice_get (pasts z).calls id.number ≡ Some d) (sym q) k)
        | inr k ↦
            let z = place_within ((pasts p).calls ++ Asked) id.number d at in
            let u = length-append (pasts p).calls Asked in
            let one = called_once (length t.accepted) st R.1.cast in
            let least = k.0 in
            let is : id.number ≡ S.calls = omega (arith, z, u, one, least, numbers) in
            inr (same_op_id id Old q is, k.1)
      ])
      (λ ne at. inl (h.0, at))
      h.1

  pub answer_cases : (id : OpId) (a : PastAnswer) → IsPastAnswer n pasts_now id a
      → IsPastAnswer n pasts id a ⊎ ((id ≡ New) × In a Given)
  answer_cases id a h =
      put_cases (λ (g : Past). In a g.answers → IsPastAnswer n pasts id a ⊎ ((id ≡ New) × In a Given)) pasts p This id.process
      (λ q i. elim (in_cases a (pasts p).answers Given i) [
        | inl k ↦ inl (h.0, subst (λ z. In a (pasts z).answers) (sym q) k, h.2)
        | inr k ↦ inr (same_op_id id New q (sym h.2 ∙ (answered_new (length t.accepted) (R.0.calls - 1) (op_in S st) New R.1.reply a k).0), k)
      ])
      (λ ne i. inl (h.0, i, h.2))
      h.1

  pub called_now : (at : ℕ) (id : OpId) (op : Op) → In (Called at id op) told_now.history
      → (d : PastCall) × IsPastCall n pasts_now id d × (d.op ≡ op) × (d.at ≡ at)
  called_now at id op i = elim (in_cases (Called at id op) (t.history ++ calls_in (length t.accepted) Old st) (answers_in (length t.accepted) New R.1.reply) i) [
    | inl j ↦ elim (in_cases (Called at id op) t.history (calls_in (length t.accepted) Old st) j) [
      | inl k ↦ let r = J.called at id op k in (r.0, call_stays id r.0 r.1, r.2, r.3)
      | inr k ↦
          let r = new_called (length t.accepted) Old st R.1.cast at id op k in
          (record { op = op; at = length t.accepted; cast = R.1.cast }, subst (λ z. IsPastCall n pasts_now z (record { op = op; at = length t.accepted; cast = R.1.cast })) (sym r.1) (call_added _ r.2), refl, sym r.0)
    ]
    | inr j ↦ absurd (no_call (length t.accepted) New R.1.reply at id op j)
  ]

  pub calls_now : (id : OpId) (d : PastCall) → IsPastCall n pasts_now id d
      → In (Called d.at id d.op) (t.history ++ calls_in (length t.accepted) Old st)
  calls_now id d h = elim (call_cases id d h) [
    | inl k ↦ in_left (Called d.at id d.op) t.history (calls_in (length t.accepted) Old st) (J.calls id d k)
    | inr k ↦ in_right (Called d.at id d.op) t.history (calls_in (length t.accepted) Old st)
        (subst (λ z. In (Called d.at id d.op) (calls_in (length t.accepted) z st)) k.0 (called_new (length t.accepted) id st R.1.cast d k.1))
  ]

  pub answered_now : (at : ℕ) (id : OpId) (x : Answer) → In (Answered at id x) told_now.history
      → (a : PastAnswer) × IsPastAnswer n pasts_now id a × (a.at ≡ at) × (a.reply.answer ≡ x)
  answered_now at id x i = elim (in_cases (Answered at id x) (t.history ++ calls_in (length t.accepted) Old st) (answers_in (length t.accepted) New R.1.reply) i) [
    | inl j ↦ elim (in_cases (Answered at id x) t.history (calls_in (length t.accepted) Old st) j) [
      | inl k ↦ let r = J.answered at id x k in (r.0, answer_stays id r.0 r.1, r.2, r.3)
      | inr k ↦ absurd (no_answer (length t.accepted) Old st at id x k)
    ]
    | inr j ↦
        let r = new_answered (length t.accepted) (R.0.calls - 1) (op_in S st) New R.1.reply at id x j in
        (r.1.0, subst (λ z. IsPastAnswer n pasts_now z r.1.0) (sym r.0) (answer_added r.1.0 r.1.1 r.1.2), r.1.3, r.1.4)
  ]

  pub answers_now : (id : OpId) (a : PastAnswer) → IsPastAnswer n pasts_now id a
      → In (Answered a.at id a.reply.answer) told_now.history
  answers_now id a h = elim (answer_cases id a h) [
    | inl k ↦ in_left _ (t.history ++ calls_in (length t.accepted) Old st) (answers_in (length t.accepted) New R.1.reply) (in_left _ t.history (calls_in (length t.accepted) Old st) (J.answers id a k))
    | inr k ↦ in_right _ (t.history ++ calls_in (length t.accepted) Old st) (answers_in (length t.accepted) New R.1.reply)
        (subst (λ z. In (Answered a.at id a.reply.answer) (answers_in (length t.accepted) z R.1.reply)) k.0 (answered_new (length t.accepted) (R.0.calls - 1) (op_in S st) id R.1.reply a k.1).1)
  ]

  replied_now : (y : Replied) → In y told_now.replies → (a : PastAnswer) × IsPastAnswer n pasts_now y.id a × (a.at ≡ y.at) × (a.reply ≡ y.reply)
  replied_now y i = elim (in_cases y t.replies (replies_in (length t.accepted) New R.1.reply) i) [
    | inl k ↦ let r = J.replied y k in (r.0, answer_stays y.id r.0 r.1, r.2, r.3)
    | inr j ↦
        let r = new_replied (length t.accepted) (R.0.calls - 1) (op_in S st) New R.1.reply y j in
        (r.1.0, subst (λ z. IsPastAnswer n pasts_now z r.1.0) (sym r.0) (answer_added r.1.0 r.1.1 r.1.2), r.1.3, r.1.4)
  ]

  replies_now : (id : OpId) (a : PastAnswer) → IsPastAnswer n pasts_now id a → In (record { id = id; at = a.at; reply = a.reply }) told_now.replies
  replies_now id a h = elim (answer_cases id a h) [
    | inl k ↦ in_left _ t.replies (replies_in (length t.accepted) New R.1.reply) (J.replies id a k)
    | inr k ↦ in_right _ t.replies (replies_in (length t.accepted) New R.1.reply)
        (subst (λ z. In (record { id = id; at = a.at; reply = a.reply }) (replies_in (length t.accepted) z R.1.reply)) k.0 (answered_new (length t.accepted) (R.0.calls - 1) (op_in S st) id R.1.reply a k.1).2)
  ]

  pub cast_now : (c : Cast) → In c told_now.casts
      → (d : PastCall) × IsPastCall n pasts_now c.id d × (d.cast ≡ Some c.stamp) × (d.op ≡ c.op)
  cast_now c i = elim (in_cases c t.casts (casts_in Old st R.1.cast) i) [
    | inl k ↦ let r = J.cast c k in (r.0, call_stays c.id r.0 r.1, r.2, r.3)
    | inr k ↦
        let r = new_cast (length t.accepted) Old st R.1.cast c k in
        (r.1.0, subst (λ z. IsPastCall n pasts_now z r.1.0) (sym r.0) (call_added r.1.0 r.1.1), r.1.2, r.1.3)
  ]

  pub casts_now : (id : OpId) (d : PastCall) (stamp : Stamp) → IsPastCall n pasts_now id d → d.cast ≡ Some stamp
      → In (record { stamp = stamp; id = id; op = d.op }) told_now.casts
  casts_now id d stamp h c = elim (call_cases id d h) [
    | inl k ↦ in_left _ t.casts (casts_in Old st R.1.cast) (J.casts id d stamp k c)
    | inr k ↦ in_right _ t.casts (casts_in Old st R.1.cast) (subst (λ z. In (record { stamp = stamp; id = id; op = d.op }) (casts_in z st R.1.cast)) k.0 (cast_new (length t.accepted) id st R.1.cast d stamp k.1 c))
  ]

  module _ (made : (c : Delivered) → In c R.1.delivered → (id : OpId) × (d : PastCall) × IsPastCall n pasts_now id d × (d.cast ≡ Some c.stamp) × (d.op ≡ c.op)) (one : (a b : OpId) (d f : PastCall) (stamp : Stamp) → IsPastCall n pasts_now a d → IsPastCall n pasts_now b f → d.cast ≡ Some stamp → f.cast ≡ Some stamp → a ≡ b) (has : (id : OpId) (a : PastAnswer) → IsPastAnswer n pasts id a → (d : PastCall) × IsPastCall n pasts id d) (has_now : (id : OpId) (a : PastAnswer) → IsPastAnswer n pasts_now id a → (d : PastCall) × IsPastCall n pasts_now id d) where
    same_call : (id : OpId) (d f : PastCall) → IsPastCall n pasts_now id d → IsPastCall n pasts_now id f → d ≡ f
    same_call id d f a b = same_Some d f (sym a.1 ∙ b.1)

    new_first : (c : Delivered) → In c R.1.delivered → In (cast_of_first (first_of told_now.casts (length t.accepted) c)) told_now.casts
    new_first c i =
        let m = made c i in
        let k = id_found told_now.casts (record { stamp = c.stamp; id = m.0; op = m.1.op }) (casts_now m.0 m.1 c.stamp m.2 m.3) in
        let r = cast_now k.0 k.1 in
        let stamps : r.0.cast ≡ Some c.stamp = r.2 ∙ ap Some k.2 in
        let ids : m.0 ≡ k.0.id = one m.0 k.0.id m.1 r.0 c.stamp m.2 r.1 m.3 stamps in
        let calls : m.1 ≡ r.0 = same_call k.0.id m.1 r.0 (subst (λ z. IsPastCall n pasts_now z m.1) ids m.2) r.1 in
        let ops : c.op ≡ k.0.op = sym m.4 ∙ (ap (λ (z : PastCall). z.op) calls ∙ r.3) in
        let all : cast_of_first (first_of told_now.casts (length t.accepted) c) ≡ k.0 = (λ i. record { stamp = sym k.2 i; id = k.3 i; op = ops i }) in
        subst (λ z. In z told_now.casts) (sym all) k.1

    first_now : (f : First) → In f told_now.order → In (cast_of_first f) told_now.casts
    first_now f i = elim (in_cases f t.order (map (first_of told_now.casts (length t.accepted)) (unseen (map delivered_of t.order) R.1.delivered)) i) [
      | inl k ↦ in_left _ t.casts (casts_in Old st R.1.cast) (J.first f k)
      | inr k ↦
          let r = map_in (first_of told_now.casts (length t.accepted)) f (unseen (map delivered_of t.order) R.1.delivered) k in
          subst (λ z. In (cast_of_first z) told_now.casts) (sym r.2) (new_first r.0 (unseen_in r.0 (map delivered_of t.order) R.1.delivered r.1))
    ]

    read_now : (q : CopyRead) → In q told_now.reads → (a : PastAnswer) × (d : PastCall) × IsPastAnswer n pasts_now q.id a × IsPastCall n pasts_now q.id d × (a.reply.place ≡ q.place) × (d.cast ≡ None)
    read_now q i = elim (in_cases q t.reads (reads_in told_now.casts New R.1.reply) i) [
      | inl k ↦ let r = J.read q k in (r.0, r.1, answer_stays q.id r.0 r.2, call_stays q.id r.1 r.3, r.4, r.5)
      | inr k ↦
          let r = new_read told_now.casts (length t.accepted) (R.0.calls - 1) (op_in S st) New R.1.reply q k in
          let a = r.2.0 in
          let given : IsPastAnswer n pasts_now q.id a = subst (λ z. IsPastAnswer n pasts_now z a) (sym r.0) (answer_added a r.2.1 r.2.2) in
          let d = has_now q.id a given in
          (a, d.0, given, d.1, r.2.3, none q.id d.0 d.1 (ap (has_cast told_now.casts) r.0 ∙ r.1) d.0.cast refl)
    ]
      where
        none : (id : OpId) (d : PastCall) → IsPastCall n pasts_now id d → has_cast told_now.casts id ≡ false → (o : Option Stamp) → d.cast ≡ o → d.cast ≡ None
        none id d h e None q = q
        none id d h e (Some stamp) q = absurd (false≢true (sym e ∙ cast_finds told_now.casts id (record { stamp = stamp; id = id; op = d.op }) (casts_now id d stamp h q) refl))

    reads_now : (id : OpId) (a : PastAnswer) (d : PastCall) → IsPastAnswer n pasts_now id a → IsPastCall n pasts_now id d → d.cast ≡ None → In (record { id = id; place = a.reply.place }) told_now.reads
    reads_now id a d h c none = elim (answer_cases id a h) [
      | inl k ↦
          let old = has id a k in
          let same : old.0 ≡ d = same_call id old.0 d (call_stays id old.0 old.1) c in
          in_left _ t.reads (reads_in told_now.casts New R.1.reply) (J.reads id a old.0 k old.1 (ap (λ (z : PastCall). z.cast) same ∙ none))
      | inr k ↦ in_right _ t.reads (reads_in told_now.casts New R.1.reply) (subst (λ z. In (record { id = id; place = a.reply.place }) (reads_in told_now.casts z R.1.reply)) k.0 (read_new told_now.casts (length t.accepted) (R.0.calls - 1) (op_in S st) id R.1.reply a k.1 not_cast))
    ]
      where
        not_cast : has_cast told_now.casts id ≡ false
        not_cast = elim (cases_Bool (has_cast told_now.casts id)) [
          | inl y ↦
              let f = cast_found told_now.casts id y in
              let r = cast_now f.0 f.1 in
              let same : d ≡ r.0 = same_call id d r.0 c (subst (λ z. IsPastCall n pasts_now z r.0) f.2 r.1) in
              absurd (none-some f.0.stamp (sym none ∙ (ap (λ (z : PastCall). z.cast) same ∙ r.2)))
          | inr y ↦ y
        ]

    below_now : (x : Entry) → In x told_now.history → event_of x < length told_now.accepted
    below_now x i =
        let more = length-append t.accepted (e ∷ []) in
        elim (in_cases x (t.history ++ calls_in (length t.accepted) Old st) (answers_in (length t.accepted) New R.1.reply) i) [
          | inl j ↦ elim (in_cases x t.history (calls_in (length t.accepted) Old st) j) [
            | inl k ↦ let z = J.below x k in omega (arith, z, more)
            | inr k ↦ let z = call_event (length t.accepted) Old st x k in omega (arith, z, more)
          ]
          | inr k ↦ let z = answer_event (length t.accepted) New R.1.reply x k in omega (arith, z, more)
        ]
      where
        call_event : (at : ℕ) (id : OpId) (st : Step) (x : Entry) → In x (calls_in at id st) → event_of x ≡ at
        call_event at id (Call op) x (inl e) = ap event_of e
        call_event at id (Call op) x (inr f) = absurd f
        call_event at id (Take a f) x h = absurd h
        call_event at id Tick x h = absurd h

        answer_event : (at : ℕ) (id : OpId) (o : Option Reply) (x : Entry) → In x (answers_in at id o) → event_of x ≡ at
        answer_event at id None x h = absurd h
        answer_event at id (Some r) x (inl e) = ap event_of e
        answer_event at id (Some r) x (inr f) = absurd f

    pub joined_now : Joined n told_now pasts_now
    joined_now = record {
      called = called_now;
      calls = λ id d h. in_left _ (t.history ++ calls_in (length t.accepted) Old st) (answers_in (length t.accepted) New R.1.reply) (calls_now id d h);
      answered = answered_now;
      answers = answers_now;
      replied = replied_now;
      replies = replies_now;
      cast = cast_now;
      casts = casts_now;
      first = first_now;
      read = read_now;
      reads = reads_now;
      below = below_now;
    }
