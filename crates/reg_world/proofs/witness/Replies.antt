-- From the replies and their places to the premises of the walk.
use Rattle.std.proofs.Common.{◌≡◌, ℕ, ◌<◌, ◌≤◌, ◌⊎◌, inl, inr, refl, ap, ◌∙◌, subst, arith}
use Rattle.std.proofs.lemmas.Bool.{cases_order}
use Rattle.reg_base.specs.declared.memory.OpId.{OpId}
use Rattle.reg_base.specs.declared.memory.Op.{Op}
use Rattle.reg_base.specs.declared.memory.Answer.{Answer}
use Rattle.reg_base.specs.declared.stamps.Stamp.{Stamp}
use Rattle.reg_world.specs.declared.order.First.{First}
use Rattle.reg_world.specs.declared.order.CopyRead.{CopyRead}
use Rattle.reg_base.specs.Memory.{Memory, IsUpdate, answer_of}
use Rattle.reg_checkers.specs.History.{IsAt, IsAnswered, IsFinished, IsHistory}
use Rattle.reg_base.specs.Order.{Below}
use Rattle.reg_world.specs.Runs.{Run, Cast, IsWaiting, memory_of}
use Rattle.reg_checkers.proofs.Histories.{answered_was_called}
use Rattle.reg_world.proofs.witness.Once.{cast_of, before_not_after}
use Rattle.reg_world.proofs.witness.Grounds.{IsCopied, IsRun, Came, AtDelivery, AtOnce, FromCopy, IsOrdered}

-- an id stands once in the order
stands_once : (r : Run) → IsOrdered r → (i j : ℕ) (a b : First) → IsAt r.order i a → IsAt r.order j b → a.id ≡ b.id
    → i ≡ j
stands_once r ok i j a b at1 at2 same = go (cases_order i j)
  where
    stamps : a.stamp ≡ b.stamp
    stamps = ap (λ (d : Cast). d.stamp) (ok.one_cast (cast_of a) (cast_of b) (ok.delivered i a at1) (ok.delivered j b at2) same)

    self : (s : Stamp) → Below s s → ⊥
    self s h = before_not_after s s h h

    go : (i ≡ j) ⊎ ((i < j) ⊎ (j < i)) → i ≡ j
    go (inl e) = e
    go (inr (inl lt)) = absurd (self b.stamp (subst (λ (s : Stamp). Below s b.stamp) stamps (ok.rising i j a b at1 at2 lt)))
    go (inr (inr gt)) = absurd (self b.stamp (subst (λ (s : Stamp). Below b.stamp s) stamps (ok.rising j i b a at2 at1 gt)))

module _ (n registers : ℕ) (r : Run) (good : IsHistory n registers r.history) (ok : IsOrdered r) where
  finished : (id : OpId) → IsFinished r.history id → ((d : Cast) × ((k : ℕ) × IsAt r.casts k d) × (d.id ≡ id)) ⊎ ((q : CopyRead) × ((k : ℕ) × IsAt r.reads k q) × (q.id ≡ id))
  finished id (t, a, is) =
      let was = answered_was_called n registers r.history good id t a is in
      let reply = ok.replied id was.0 t was.1 a was.2 is in
      go was.1 reply.0 reply.1
    where
      go : (op : Op) (place : ℕ) → Came r id op place → ((d : Cast) × ((k : ℕ) × IsAt r.casts k d) × (d.id ≡ id)) ⊎ ((q : CopyRead) × ((k : ℕ) × IsAt r.reads k q) × (q.id ≡ id))
      go op place (AtDelivery c at same) = inl (cast_of c, ok.delivered place c at, same)
      go op place (AtOnce d in' same blind) = inl (d, in', same)
      go op place (FromCopy in' reads) = inr (record { id = id; place = place }, in', refl)

  copied : (q : CopyRead) → ((k : ℕ) × IsAt r.reads k q) → IsCopied r q
  copied q in' =
      let facts = ok.copies q in' in
      let was = answered_was_called n registers r.history good q.id facts.finished.0 facts.finished.1 facts.finished.2 in
      let reply = ok.replied q.id was.0 facts.finished.0 was.1 facts.finished.1 was.2 facts.finished.2 in
      record {
        called_at = was.0;
        op = was.1;
        called = was.2;
        reads = reads was.1 reply.0 reply.1;
        finished = facts.finished;
        answer = λ t a is. (let other = ok.replied q.id was.0 t was.1 a was.2 is in other.2 ∙ ap (λ (k : ℕ). answer_of was.1 (memory_of r k)) (its_place was.1 other.0 other.1));
        within = facts.within;
        no_cast = facts.no_cast;
        earlier = facts.earlier;
        later = facts.later;
      }
    where
      reads : (op : Op) (place : ℕ) → Came r q.id op place → IsUpdate op → ⊥
      reads op place (AtDelivery c at same) up = (ok.copies q in').no_cast (cast_of c) (ok.delivered place c at) same
      reads op place (AtOnce d is same blind) up = (ok.copies q in').no_cast d is same
      reads op place (FromCopy is no_update) up = no_update up

      its_place : (op : Op) (place : ℕ) → Came r q.id op place → place ≡ q.place
      its_place op place (AtDelivery c at same) = absurd ((ok.copies q in').no_cast (cast_of c) (ok.delivered place c at) same)
      its_place op place (AtOnce d is same blind) = absurd ((ok.copies q in').no_cast d is same)
      its_place op place (FromCopy is no_update) =
          let le : place ≤ q.place = ok.places (record { id = q.id; place = place }) q is in' refl (omega arith) in
          let ge : q.place ≤ place = ok.places q (record { id = q.id; place = place }) in' is refl (omega arith) in
          omega arith

  answer : (k : ℕ) (c : First) (t : ℕ) (a : Answer) → IsAt r.order k c → IsAnswered r.history c.id t a → a ≡ answer_of c.op (memory_of r k)
  answer k c t a at is =
      let made = ok.called (cast_of c) (ok.delivered k c at) in
      let reply = ok.replied c.id made.0 t c.op a made.1 is in
      reply.2 ∙ go reply.0 reply.1
    where
      go : (place : ℕ) → Came r c.id c.op place → answer_of c.op (memory_of r place) ≡ answer_of c.op (memory_of r k)
      go place (AtDelivery d here same) = ap (λ (n : ℕ). answer_of c.op (memory_of r n)) (stands_once r ok place k d c here at same)
      go place (AtOnce d in' same blind) = blind (memory_of r place) (memory_of r k)
      go place (FromCopy in' reads) = absurd ((ok.copies (record { id = c.id; place = place }) in').no_cast (cast_of c) (ok.delivered k c at) refl)

  blind : (d : Cast) (t : ℕ) (a : Answer) → ((k : ℕ) × IsAt r.casts k d) → IsWaiting r d.id → IsAnswered r.history d.id t a → (m : Memory) → a ≡ answer_of d.op m
  blind d t a in' waits is m =
      let made = ok.called d in' in
      let reply = ok.replied d.id made.0 t d.op a made.1 is in
      reply.2 ∙ go reply.0 reply.1
    where
      go : (place : ℕ) → Came r d.id d.op place → answer_of d.op (memory_of r place) ≡ answer_of d.op m
      go place (AtDelivery c here same) = absurd (waits place c here same)
      go place (AtOnce e here same no_eyes) = no_eyes (memory_of r place) m
      go place (FromCopy here reads) = absurd ((ok.copies (record { id = d.id; place = place }) here).no_cast d in' refl)

  pub ordered_is_run : IsRun r
  ordered_is_run = record {
    rising = ok.rising;
    delivered = ok.delivered;
    waiting = ok.waiting;
    one_cast = ok.one_cast;
    own_casts = ok.own_casts;
    called = ok.called;
    copied = copied;
    places = ok.places;
    finished = finished;
    answer = answer;
    blind = blind;
  }
