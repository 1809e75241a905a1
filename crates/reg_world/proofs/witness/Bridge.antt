-- The facts by places in the order, from the laws.
use Rattle.std.proofs.Common.{◌≡◌, ℕ, zero, suc, ◌<◌, List, [], ◌∷◌, take, Option, Some, None, sym, ap, ◌∙◌, subst, inl}
use Rattle.std.proofs.Common.{inr, arith}
use Rattle.std.specs.Prelude.{slice_get}
use Rattle.std.proofs.lemmas.Option.{same_Some, none-some}
use Rattle.std.proofs.lemmas.Bool.{cases_lt, cases_order}
use Rattle.reg_base.specs.declared.stamps.Stamp.{Stamp}
use Rattle.reg_base.specs.declared.memory.Op.{Op}
use Rattle.reg_base.specs.declared.stamps.Delivered.{Delivered}
use Rattle.reg_front.specs.declared.starts.Start.{Start}
use Rattle.reg_process.specs.declared.events.Event.{Event}
use Rattle.reg_base.specs.Order.{Below, In, Rising}
use Rattle.reg_base.specs.Memory.{answer_of}
use Rattle.reg_front.specs.Fronts.{KeepsLaws}
use Rattle.reg_world.proofs.run.Traced.{Called, Answered, casts_of, cast_of, Stands, HistoryRight, traced}
use Rattle.reg_world.specs.Laws.{IsMade}
use Rattle.reg_world.proofs.witness.Facts.{IsCastAt, memory_at, RunFacts}
use Rattle.reg_base.proofs.Orders.{below_irrefl}
use Rattle.reg_base.proofs.Lists.{in_cases}
use Rattle.reg_world.proofs.lists.Bodies.{place_in}
use Rattle.reg_world.proofs.one_order.Worlds.{delivered_made, held_made, undelivered_above}
use Rattle.reg_world.proofs.one_order.Wholes.{whole_inv}
use Rattle.reg_world.proofs.one_memory.Named.{casts_called}
use Rattle.reg_world.proofs.one_memory.Copied.{copies_change_nothing}
use Rattle.reg_world.proofs.one_memory.History.{PastsOk, whole_pasts, history_right}

rising_at : (xs : List Delivered) (i j : ℕ) (a b : Delivered) → Rising xs → slice_get xs i ≡ Some a
    → slice_get xs j ≡ Some b → i < j → Below a.stamp b.stamp
rising_at [] i j a b r p q l = absurd (none-some a p)
rising_at (x ∷ xs) i zero a b r p q l = absurd (omega arith)
rising_at (x ∷ xs) zero (suc j) a b r p q l =
    subst (λ (z : Delivered). Below z.stamp b.stamp) (same_Some x a p) (r.0 b (place_in xs j b q))
rising_at (x ∷ xs) (suc i) (suc j) a b r p q l = rising_at xs i j a b r.1 p q (omega arith)

in_at : {X : Type 0} (x : X) (xs : List X) → In x xs → (k : ℕ) × (slice_get xs k ≡ Some x)
in_at x [] h = absurd h
in_at x (y ∷ xs) (inl e) = (0, ap Some (sym e))
in_at x (y ∷ xs) (inr h) = let r = in_at x xs h in (suc r.0, r.1)

in_take_at : {X : Type 0} (x : X) (m : ℕ) (xs : List X) → In x (take m xs)
    → (k : ℕ) × (k < m) × (slice_get xs k ≡ Some x)
in_take_at x zero [] h = absurd h
in_take_at x zero (y ∷ xs) h = absurd h
in_take_at x (suc m) [] h = absurd h
in_take_at x (suc m) (y ∷ xs) (inl e) = (0, omega arith, ap Some (sym e))
in_take_at x (suc m) (y ∷ xs) (inr h) = let r = in_take_at x m xs h in (suc r.0, (let z = r.1 in omega (arith, z)), r.2)

take_at_in : {X : Type 0} (x : X) (m : ℕ) (xs : List X) (k : ℕ) → k < m → slice_get xs k ≡ Some x → In x (take m xs)
take_at_in x m [] k l e = absurd (none-some x e)
take_at_in x zero (y ∷ xs) k l e = absurd (omega arith)
take_at_in x (suc m) (y ∷ xs) zero l e = inl (sym (same_Some y x e))
take_at_in x (suc m) (y ∷ xs) (suc k) l e = inr (take_at_in x m xs k (omega arith) e)

pub run_facts : (start : Op → ℕ → Start) (n registers : ℕ) (events : List Event) → KeepsLaws start
    → RunFacts n registers (traced start n registers events)
run_facts start n registers events laws =
    let w = traced start n registers events in
    let k0 = w.count in
    let V = whole_inv start n registers events in
    let I = V.inv in
    let O = V.ordered in
    let order = casts_of w.order in
    let P : PastsOk n w = whole_pasts start n registers events laws in
    let H : HistoryRight n registers w = history_right start n registers events laws in
    let made : (c : Delivered) → In c order → IsMade n w.nodes c = λ c h. let s = O.some c h in delivered_made n registers k0 w.nodes I s.0 s.1 c s.2 in
    -- a cast of a call was made by its process
    let called_made : (p number : ℕ) (c : Delivered) → p < n → IsCastAt w p number c → (c.stamp.process ≡ p) × IsMade n w.nodes c =
    λ p number c l d.
    let r = (P p l).0.casts number d.0 c.stamp d.1 d.2 in
    let is : cast_of c.stamp d.0.op ≡ c = ap (cast_of c.stamp) d.3 in (
      r.0,
      subst (IsMade n w.nodes) is (elim (in_cases (cast_of c.stamp d.0.op) (w.nodes p).deliveries (w.nodes p).state.held r.1) [
        | inl i ↦ delivered_made n registers k0 w.nodes I p l (cast_of c.stamp d.0.op) i
        | inr i ↦ held_made n registers k0 w.nodes I p l (cast_of c.stamp d.0.op) i
      ]),
    ) in
    -- the answer's call is the one in hand
    let the_call : (p : ℕ) (a : Answered) (d : Called) → (l : p < n) → (i : In a (w.pasts p).answers) → slice_get (w.pasts p).calls a.number ≡ Some d → (H p a l i).0 ≡ d = λ p a d l i at. same_Some _ _ (sym (H p a l i).1 ∙ at) in
    let stands : (p : ℕ) (a : Answered) (d : Called) (o : Option Stamp) → p < n → In a (w.pasts p).answers → slice_get (w.pasts p).calls a.number ≡ Some d → d.cast ≡ o → Stands order (w.pasts p).calls a.number a.reply.place d o =
    λ p a d o l i at c. subst (Stands order (w.pasts p).calls a.number a.reply.place d) c (subst (λ (z : Called). Stands order (w.pasts p).calls a.number a.reply.place z z.cast) (the_call p a d l i at) (H p a l i).4) in
    let answer : (p : ℕ) (a : Answered) (d : Called) → p < n → In a (w.pasts p).answers → slice_get (w.pasts p).calls a.number ≡ Some d → a.reply.answer ≡ answer_of d.op (memory_at registers w a.reply.place) =
    λ p a d l i at. (H p a l i).3 ∙ ap (λ (z : Called). answer_of z.op (memory_at registers w a.reply.place)) (the_call p a d l i at) in
    record {
      rising = λ i j a b p q l. rising_at order i j a b O.rises p q l;
      delivered = λ k c at. let m = made c (place_in order k c at) in let q = casts_called start n registers events c m in (m.0, (q.0, (q.1, q.2, q.3, q.4)));
      waiting = λ p number c l d wait k o at.
          let s = O.some o (place_in order k o at) in
          undelivered_above n registers k0 w.nodes I s.0 s.1 c o (called_made p number c l d).1 (λ h. let r = in_at c order (O.all s.0 c s.1 h) in wait r.0 r.1) s.2;
      own_casts = λ p i j a b l d e less. ((called_made p i a l d).0, (called_made p j b l e).0, inl ((P p l).0.rises i j d.0 e.0 a.stamp b.stamp d.1 e.1 d.2 e.2 less));
      earlier = λ p a d j c l i at none e less.
          let r = in_take_at (cast_of c.stamp e.0.op) a.reply.place order ((stands p a d None l i at none j e.0 c.stamp e.1 e.2).0 less) in
          (r.0, r.1, r.2 ∙ ap (λ o. Some (cast_of c.stamp o)) e.3);
      later = λ p a d j c k l i at none e less here. elim (cases_lt k a.reply.place) [
        | inl b ↦ absurd ((stands p a d None l i at none j e.0 c.stamp e.1 e.2).1 less (take_at_in (cast_of c.stamp e.0.op) a.reply.place order k b (here ∙ ap (λ o. Some (cast_of c.stamp o)) (sym e.3))))
        | inr b ↦ b
      ];
      answered = λ p a d l i at. ((H p a l i).2, answer p a d l i at);
      own_answer = λ p a c k l i d here. elim (stands p a d.0 (Some c.stamp) l i d.1 d.2) [
        | inl done ↦ answer p a d.0 l i d.1 ∙ (done (memory_at registers w a.reply.place) ∙ (sym (done (memory_at registers w k)) ∙ ap (λ o. answer_of o (memory_at registers w k)) d.3))
        | inr placed ↦ answer p a d.0 l i d.1 ∙ (ap (λ o. answer_of o (memory_at registers w a.reply.place)) d.3 ∙ ap (λ m. answer_of c.op (memory_at registers w m)) (one_place order a.reply.place k c O.rises (placed ∙ ap (λ o. Some (cast_of c.stamp o)) d.3) here))
      ];
      copied = copies_change_nothing start n registers events laws;
      blind = λ p a c l i d wait m. elim (stands p a d.0 (Some c.stamp) l i d.1 d.2) [
        | inl done ↦ answer p a d.0 l i d.1 ∙ (done (memory_at registers w a.reply.place) ∙ (sym (done m) ∙ ap (λ o. answer_of o m) d.3))
        | inr placed ↦ absurd (wait a.reply.place (placed ∙ ap (λ o. Some (cast_of c.stamp o)) d.3))
      ];
    }
  where
    one_place : (order : List Delivered) (i j : ℕ) (c : Delivered) → Rising order → slice_get order i ≡ Some c → slice_get order j ≡ Some c → i ≡ j
    one_place order i j c r p q = elim (cases_order i j) [
      | inl e ↦ e
      | inr h ↦ absurd (elim h [ inl l ↦ below_irrefl c.stamp (rising_at order i j c c r p q l) | inr l ↦ below_irrefl c.stamp (rising_at order j i c c r q p l) ])
    ]
