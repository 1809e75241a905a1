-- One link: what was accepted is a prefix of what was queued, and the times of what is queued rise.
use Rattle.std.proofs.Common.{◌≡◌, ℕ, ◌+◌, ◌<◌, ◌≤◌, ◌⊎◌, List, [], ◌∷◌, ◌++◌, length, drop, Some, sym, ap, ◌∙◌, subst}
use Rattle.std.proofs.Common.{inl, inr, arith, length-append}
use Rattle.std.specs.Prelude.{slice_get}
use Rattle.reg_frames.specs.declared.bodies.Body.{Body}
use Rattle.reg_frames.specs.declared.bodies.Frame.{Frame}
use Rattle.reg_frames.specs.declared.bodies.Frame.TheVariants.{Numbered, Got}
use Rattle.reg_base.specs.Order.{In}
use Rattle.reg_world.specs.Laws.{names_register}
use Rattle.reg_process.specs.Process.{Peer, time_of}
use Rattle.reg_base.proofs.Lists.{in_left, in_right, in_cases}
use Rattle.reg_world.proofs.lists.Bodies.{place_first, place_back, place_split, place_within}

-- what a process queued: the times rise, up to its clock
pub record Sent (registers : ℕ) (queued : List Body) (clock : ℕ) : Type 0 where
  pub rises : (i j : ℕ) (a b : Body) → slice_get queued i ≡ Some a → slice_get queued j ≡ Some b → i < j
      → time_of a < time_of b
  pub past : (i : ℕ) (a : Body) → slice_get queued i ≡ Some a → time_of a ≤ clock
  pub ranges : (i : ℕ) (a : Body) → slice_get queued i ≡ Some a → names_register registers a

-- A link: what the sender queued, its clock, its outbox, the receiver's inbox, the wire and the wire back.
pub record Link (queued : List Body) (clock : ℕ) (outbox inbox : Peer) (forth back : List Frame) : Type 0 where
  pub within : inbox.expected ≤ length queued
  pub acked : outbox.first ≤ inbox.expected
  pub pending : outbox.pending ≡ drop outbox.first queued
  pub numbered : (i : ℕ) (b : Body) → In (Numbered i b) forth → slice_get queued i ≡ Some b
  pub out : (i : ℕ) (b : Body) → slice_get queued i ≡ Some b → In (Numbered i b) forth
  pub counts : (c : ℕ) → In (Got c) back → c ≤ inbox.expected
  pub past : (i : ℕ) (b : Body) → slice_get queued i ≡ Some b → i < inbox.expected → time_of b ≤ inbox.seen
  pub future : (i : ℕ) (b : Body) → slice_get queued i ≡ Some b → inbox.expected ≤ i → inbox.seen < time_of b
  pub seen : inbox.seen ≤ clock

pub sent_same : (registers : ℕ) (queued : List Body) (clock clock' : ℕ) → Sent registers queued clock → clock ≤ clock'
    → Sent registers queued clock'
sent_same registers queued clock clock' S l =
    record { rises = S.rises; past = λ i a h. let k = S.past i a h in omega (arith, k); ranges = S.ranges }

pub sent_more : (registers : ℕ) (queued : List Body) (clock clock' : ℕ) (body : Body) → Sent registers queued clock
    → clock < time_of body → time_of body ≤ clock' → names_register registers body
    → Sent registers (queued ++ body ∷ []) clock'
sent_more registers queued clock clock' body S l m r =
    let old : (i : ℕ) (a : Body) → slice_get (queued ++ body ∷ []) i ≡ Some a → (slice_get queued i ≡ Some a) ⊎ ((length queued ≤ i) × (a ≡ body)) =
    λ i a h. elim (place_split queued (body ∷ []) i a h) [ inl k ↦ inl k | inr k ↦ inr (k.0, elim k.1 [ inl e ↦ e | inr f ↦ absurd f ]) ] in
    record {
      rises = λ i j a b h k l'. elim (old j b k) [
        | inl k' ↦ S.rises i j a b (place_back queued (body ∷ []) i a (let w = place_within queued j b k' in omega (arith, w)) h) k' l'
        | inr k' ↦ elim (old i a h) [
          | inl h' ↦ let x = S.past i a h' in let y = ap time_of k'.1 in omega (arith, x, y)
          | inr h' ↦ let w = place_within (queued ++ body ∷ []) j b k in let z = length-append queued (body ∷ []) in let y = h'.0 in absurd (omega (arith, w, z, y))
        ]
      ];
      past = λ i a h. elim (old i a h) [ inl k ↦ let x = S.past i a k in omega (arith, x) | inr k ↦ let y = ap time_of k.1 in omega (arith, y) ];
      ranges = λ i a h. elim (old i a h) [ inl k ↦ S.ranges i a k | inr k ↦ subst (names_register registers) (sym k.1) r ];
    }

-- the sender's side
pub link_sends : (queued more : List Body) (clock clock' : ℕ) (outbox outbox' inbox : Peer)
    (put_frames new counts : List Frame)
    → Link queued clock outbox inbox put_frames counts → clock ≤ clock' → outbox'.first ≤ inbox.expected
    → outbox'.pending ≡ drop outbox'.first (queued ++ more)
    → ((i : ℕ) (b : Body) → In (Numbered i b) new → slice_get (queued ++ more) i ≡ Some b)
    → ((b : Body) → In b more → clock < time_of b)
    → ((i : ℕ) (b : Body) → slice_get (queued ++ more) i ≡ Some b → length queued ≤ i → In b more
    → In (Numbered i b) new)
    → Link (queued ++ more) clock' outbox' inbox (put_frames ++ new) counts
link_sends queued more clock clock' outbox outbox' inbox put_frames new counts L l f p d t o = record {
  within = omega (arith, L.within, length-append queued more);
  acked = f;
  pending = p;
  numbered = λ i b h. elim (in_cases (Numbered i b) put_frames new h) [ inl k ↦ place_first queued more i b (L.numbered i b k) | inr k ↦ d i b k ];
  out = λ i b h. elim (place_split queued more i b h) [ inl k ↦ in_left (Numbered i b) put_frames new (L.out i b k) | inr k ↦ in_right (Numbered i b) put_frames new (o i b h k.0 k.1) ];
  counts = L.counts;
  past = λ i b h k. L.past i b (place_back queued more i b (let w = L.within in omega (arith, w)) h) k;
  future = λ i b h k. elim (place_split queued more i b h) [
    | inl h' ↦ L.future i b h' k
    | inr h' ↦ let x = t b h'.1 in let y = L.seen in omega (arith, x, y)
  ];
  seen = let y = L.seen in omega (arith, y);
}

-- the receiver's side, where nothing is accepted
pub link_receives : (queued : List Body) (clock : ℕ) (outbox inbox inbox' : Peer) (put_frames counts new : List Frame)
    → Link queued clock outbox inbox put_frames counts → inbox'.expected ≡ inbox.expected → inbox'.seen ≡ inbox.seen
    → ((c : ℕ) → In (Got c) new → c ≤ inbox.expected) → Link queued clock outbox inbox' put_frames (counts ++ new)
link_receives queued clock outbox inbox inbox' put_frames counts new L e s g = record {
  within = let x = L.within in omega (arith, x);
  acked = let x = L.acked in omega (arith, x);
  pending = L.pending;
  numbered = L.numbered;
  out = L.out;
  counts = λ c h. elim (in_cases (Got c) counts new h) [ inl k ↦ let x = L.counts c k in omega (arith, x) | inr k ↦ let x = g c k in omega (arith, x) ];
  past = λ i b h k. let x = L.past i b h (omega arith) in omega (arith, x);
  future = λ i b h k. let x = L.future i b h (omega arith) in omega (arith, x);
  seen = let x = L.seen in omega (arith, x);
}

-- and where a body is
pub link_accepts : (registers : ℕ) (queued : List Body) (clock : ℕ) (outbox inbox inbox' : Peer)
    (put_frames counts new : List Frame) (body : Body)
    → Link queued clock outbox inbox put_frames counts → Sent registers queued clock
    → slice_get queued inbox.expected ≡ Some body → inbox'.expected ≡ inbox.expected + 1 → inbox'.seen ≡ time_of body
    → ((c : ℕ) → In (Got c) new → c ≤ inbox.expected + 1) → Link queued clock outbox inbox' put_frames (counts ++ new)
link_accepts registers queued clock outbox inbox inbox' put_frames counts new body L S at e s g = record {
  within = let x = place_within queued inbox.expected body at in omega (arith, x);
  acked = let x = L.acked in omega (arith, x);
  pending = L.pending;
  numbered = L.numbered;
  out = L.out;
  counts = λ c h. elim (in_cases (Got c) counts new h) [ inl k ↦ let x = L.counts c k in omega (arith, x) | inr k ↦ let x = g c k in omega (arith, x) ];
  past = λ i b h k. elim (last_or_before i (omega arith)) [
    | inl l ↦ let x = S.rises i inbox.expected b body h at l in omega (arith, x)
    | inr q ↦ let x = same i b h q in omega (arith, x)
  ];
  future = λ i b h k. let x = S.rises inbox.expected i body b at h (omega arith) in omega (arith, x);
  seen = let x = S.past inbox.expected body at in omega (arith, x);
}
  where
    last_or_before : (i : ℕ) → i < inbox.expected + 1 → (i < inbox.expected) ⊎ (i ≡ inbox.expected)
    last_or_before i l = grind arith

    same : (i : ℕ) (b : Body) → slice_get queued i ≡ Some b → i ≡ inbox.expected → time_of b ≡ time_of body
    same i b h q = let e : Some b ≡ Some body = sym h ∙ (ap (slice_get queued) q ∙ at) in let r : b ≡ body = cc in ap time_of r
