-- What holds of one process and its list of deliveries, and that delivery keeps it.
use Rattle.std.proofs.Common.{◌≡◌, ℕ, ◌<◌, ◌≤◌, ◌⊎◌, false, not, List, ◌++◌, length, sym, ap, ◌∙◌, subst, inl, inr}
use Rattle.std.proofs.Common.{arith}
use Rattle.std.proofs.lemmas.Bool.{cases_Bool, not-true}
use Rattle.reg_base.specs.declared.stamps.Stamp.{Stamp}
use Rattle.reg_base.specs.declared.stamps.Delivered.{Delivered}
use Rattle.reg_base.specs.Order.{Below, AtMost, In, Rising}
use Rattle.reg_process.specs.Process.{State, seen_at, stamp_at, IsClear, is_clear, clear_casts, delivered_state}
use Rattle.reg_base.proofs.Orders.{below_or}
use Rattle.reg_base.proofs.Lists.{in_left, in_right, in_cases, in_filter, filter_in, rising_filter, rising_append}
use Rattle.reg_process.proofs.Peers.{Decides-clear, clear_down}

-- p is the process's number, of n
pub record Local (n p : ℕ) (s : State) (deliveries : List Delivered) : Type 0 where
  pub me : s.me ≡ p
  pub size : length s.peers ≡ n
  pub held : Rising s.held
  pub deliveries_rise : Rising deliveries
  pub waits : (c : Delivered) → In c s.held → IsClear s c.stamp → ⊥
  pub clear : (c : Delivered) → In c deliveries → IsClear s c.stamp
  pub held_times : (c : Delivered) → In c s.held → c.stamp.time ≤ s.clock
  pub delivery_times : (c : Delivered) → In c deliveries → c.stamp.time ≤ s.clock
  pub seen : (r : ℕ) → r < n → (r ≡ p → ⊥) → seen_at s r ≤ s.clock

-- the same before delivery: each held cast stands above the list of deliveries
pub record Before (n p : ℕ) (s : State) (deliveries : List Delivered) : Type 0 where
  pub me : s.me ≡ p
  pub size : length s.peers ≡ n
  pub held : Rising s.held
  pub deliveries_rise : Rising deliveries
  pub above : (o c : Delivered) → In o deliveries → In c s.held → Below o.stamp c.stamp
  pub clear : (c : Delivered) → In c deliveries → IsClear s c.stamp
  pub held_times : (c : Delivered) → In c s.held → c.stamp.time ≤ s.clock
  pub delivery_times : (c : Delivered) → In c deliveries → c.stamp.time ≤ s.clock
  pub seen : (r : ℕ) → r < n → (r ≡ p → ⊥) → seen_at s r ≤ s.clock

-- a held cast stands above every delivered one
pub held_above : (n p : ℕ) (s : State) (deliveries : List Delivered) → Local n p s deliveries → (o c : Delivered)
    → In o deliveries → In c s.held → Below o.stamp c.stamp
held_above n p s deliveries L o c i j = elim (below_or o.stamp c.stamp) [
  | inl b ↦ b
  | inr a ↦ absurd (L.waits c j (clear_down s c.stamp o.stamp a (L.clear o i)))
]

clear_kept : (s : State) (c : Delivered) → In c (clear_casts s) → In c s.held × IsClear s c.stamp
clear_kept s c h = let r = in_filter c (λ c. is_clear s c.stamp) s.held h in (r.0, (Decides-clear s c.stamp).0 r.1)

left_kept : (s : State) (c : Delivered) → In c (delivered_state s).held → In c s.held × (is_clear s c.stamp ≡ false)
left_kept s c h =
    let r = in_filter c (λ c. not (is_clear s c.stamp)) s.held h in (r.0, not-true (is_clear s c.stamp) r.1)

pub delivers : (n p : ℕ) (s : State) (deliveries : List Delivered) → Before n p s deliveries
    → Local n p (delivered_state s) (deliveries ++ clear_casts s)
delivers n p s deliveries B = record {
  me = B.me;
  size = B.size;
  held = rising_filter (λ c. not (is_clear s c.stamp)) s.held B.held;
  deliveries_rise = rising_append deliveries (clear_casts s) B.deliveries_rise (rising_filter (λ c. is_clear s c.stamp) s.held B.held) (λ o c i j. B.above o c i (clear_kept s c j).0);
  waits = λ c h k. let r = left_kept s c h in let t = (Decides-clear s c.stamp).1 k in let bad : ⊥ = cc in bad;
  clear = λ c h. elim (in_cases c deliveries (clear_casts s) h) [ inl i ↦ B.clear c i | inr j ↦ (clear_kept s c j).1 ];
  held_times = λ c h. B.held_times c (left_kept s c h).0;
  delivery_times = λ c h. elim (in_cases c deliveries (clear_casts s) h) [ inl i ↦ B.delivery_times c i | inr j ↦ B.held_times c (clear_kept s c j).0 ];
  seen = B.seen;
}

-- delivery loses no cast
pub delivery_keeps : (s : State) (deliveries : List Delivered) (c : Delivered) → In c (deliveries ++ s.held)
    → In c ((deliveries ++ clear_casts s) ++ (delivered_state s).held)
delivery_keeps s deliveries c h = elim (in_cases c deliveries s.held h) [
  | inl i ↦ in_left c (deliveries ++ clear_casts s) _ (in_left c deliveries (clear_casts s) i)
  | inr j ↦ elim (cases_Bool (is_clear s c.stamp)) [
    | inl e ↦ in_left c (deliveries ++ clear_casts s) _ (in_right c deliveries (clear_casts s) (filter_in c (λ c. is_clear s c.stamp) s.held j e))
    | inr e ↦ in_right c (deliveries ++ clear_casts s) _ (filter_in c (λ c. not (is_clear s c.stamp)) s.held j (ap not e))
  ]
]

-- and makes none
pub delivery_adds_none : (s : State) (deliveries : List Delivered) (c : Delivered)
    → In c ((deliveries ++ clear_casts s) ++ (delivered_state s).held) → In c (deliveries ++ s.held)
delivery_adds_none s deliveries c h = elim (in_cases c (deliveries ++ clear_casts s) (delivered_state s).held h) [
  | inl i ↦ elim (in_cases c deliveries (clear_casts s) i) [ inl k ↦ in_left c deliveries s.held k | inr k ↦ in_right c deliveries s.held (clear_kept s c k).0 ]
  | inr j ↦ in_right c deliveries s.held (left_kept s c j).0
]

at_most_later : (a : Stamp) (t u r : ℕ) → t ≤ u → AtMost a (stamp_at t r) → AtMost a (stamp_at u r)
at_most_later a t u r l h = grind arith

-- what is clear stays clear as the others are heard of
pub clear_mono : (s s' : State) (a : Stamp) → s'.me ≡ s.me → length s'.peers ≡ length s.peers
    → ((r : ℕ) → r < length s.peers → (r ≡ s.me → ⊥) → seen_at s r ≤ seen_at s' r) → IsClear s a → IsClear s' a
clear_mono s s' a e l h c = λ r m ne.
    let m' : r < length s.peers = omega arith in
    let ne' : r ≡ s.me → ⊥ = λ q. ne (q ∙ sym e) in
    at_most_later a (seen_at s r) (seen_at s' r) r (h r m' ne') (c r m' ne')

-- a process between its event and delivery
pub before_of : (n p : ℕ) (s s1 : State) (deliveries : List Delivered) → Local n p s deliveries → s1.me ≡ s.me
    → length s1.peers ≡ length s.peers → s.clock ≤ s1.clock
    → ((r : ℕ) → r < n → (r ≡ p → ⊥) → seen_at s r ≤ seen_at s1 r)
    → ((r : ℕ) → r < n → (r ≡ p → ⊥) → seen_at s1 r ≤ s1.clock) → Rising s1.held
    → ((c : Delivered) → In c s1.held
    → In c s.held ⊎ ((c.stamp.time ≤ s1.clock) × ((o : Delivered) → In o deliveries → Below o.stamp c.stamp)))
    → Before n p s1 deliveries
before_of n p s s1 deliveries L e m l up seen r new = record {
  me = e ∙ L.me;
  size = m ∙ L.size;
  held = r;
  deliveries_rise = L.deliveries_rise;
  above = λ o c i j. elim (new c j) [ inl h ↦ held_above n p s deliveries L o c i h | inr h ↦ h.1 o i ];
  clear = λ c h. clear_mono s s1 c.stamp e m (λ r k ne. up r (let z = L.size in omega (arith, z, k)) (λ q. ne (q ∙ sym L.me))) (L.clear c h);
  held_times = λ c h. elim (new c h) [ inl i ↦ let z = L.held_times c i in omega (arith, z) | inr i ↦ i.0 ];
  delivery_times = λ c h. let z = L.delivery_times c h in omega (arith, z);
  seen = seen;
}

-- nothing changed that the list of deliveries depends on
pub local_same : (n p : ℕ) (s s' : State) (deliveries : List Delivered) → Local n p s deliveries → s'.me ≡ s.me
    → length s'.peers ≡ length s.peers → s'.clock ≡ s.clock → s'.held ≡ s.held → ((r : ℕ) → seen_at s' r ≡ seen_at s r)
    → Local n p s' deliveries
local_same n p s s' deliveries L e m k g h = record {
  me = e ∙ L.me;
  size = m ∙ L.size;
  held = subst Rising (sym g) L.held;
  deliveries_rise = L.deliveries_rise;
  waits = λ c i j. L.waits c (subst (In c) g i) (clear_mono s' s c.stamp (sym e) (sym m) (λ r _ _. let z = h r in omega (arith, z)) j);
  clear = λ c i. clear_mono s s' c.stamp e m (λ r _ _. let z = h r in omega (arith, z)) (L.clear c i);
  held_times = λ c i. let z = L.held_times c (subst (In c) g i) in omega (arith, z);
  delivery_times = λ c i. let z = L.delivery_times c i in omega (arith, z);
  seen = λ r l ne. let z = L.seen r l ne in let y = h r in omega (arith, z, y);
}
