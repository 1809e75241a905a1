-- Delivery one cast after another gives what delivery at once gives.
use Rattle.std.proofs.Common.{◌≡◌, ℕ, ◌+◌, ◌<◌, Bool, true, false, not, List, [], ◌∷◌, length, Option, Some, None, refl}
use Rattle.std.proofs.Common.{sym, ap, ◌∙◌, subst, inl, inr, arith}
use Rattle.std.specs.Prelude.{cond, ◌&&◌, ◌||◌, ◌==◌, count_by}
use Rattle.std.specs.List.{filter, list_any}
use Rattle.std.proofs.lemmas.Bool.{cond-true, cond-false, false≢true, false_from_ne_true, or_cases, or_left, or_right}
use Rattle.std.proofs.lemmas.Bool.{and_parts, and_from, eqb-true, eq-eqb, ne_eqb, cases_eq}
use Rattle.std.proofs.lemmas.List.Sums.{sum_by-cons}
use Rattle.reg_base.specs.declared.stamps.Stamp.{Stamp}
use Rattle.reg_base.specs.declared.memory.Op.{Op}
use Rattle.reg_base.specs.declared.stamps.Delivered.{Delivered}
use Rattle.reg_process.specs.declared.steps.Reply.{Reply}
use Rattle.reg_base.specs.Order.{In, Rising, Below, AtMost, below, at_most}
use Rattle.reg_base.specs.Memory.{answer_of, memory_after, after}
use Rattle.reg_process.specs.Process.{State, Running, Own, Held, is_own, is_clear, clear_casts, delivered_state}
use Rattle.reg_process.specs.Process.{reply_of, reply_after, still, unsettled, casts_before, up_to_own, ops_of}
use Rattle.reg_process.specs.Process.{is_stamp}
use Rattle.reg_process.specs.Delivery.{reply_one, popped, Waits}
use Rattle.reg_process.specs.Faults.{first_of}
use Rattle.reg_base.proofs.Orders.{Decides-below, Decides-at_most, below_irrefl, below_asym, same_stamp}
use Rattle.reg_base.proofs.Lists.{none_kept, in_filter}
use Rattle.reg_process.proofs.Pops.{first_clear}

pub any_found : {X : Type 0} (f : X → Bool) (xs : List X) → list_any f xs ≡ true → (d : X) × In d xs × (f d ≡ true)
any_found f [] h = absurd (false≢true h)
any_found f (x ∷ xs) h = elim (or_cases (f x) (list_any f xs) h) [
  | inl e ↦ (x, inl refl, e)
  | inr e ↦ let r = any_found f xs e in (r.0, inr r.1, r.2)
]

pub any_finds : {X : Type 0} (f : X → Bool) (d : X) (xs : List X) → In d xs → f d ≡ true → list_any f xs ≡ true
any_finds f d [] h e = absurd h
any_finds f d (x ∷ xs) (inl q) e = or_left (f x) (list_any f xs) (ap f (sym q) ∙ e)
any_finds f d (x ∷ xs) (inr q) e = or_right (f x) (list_any f xs) (any_finds f d xs q e)

abbrev pub one_if : Bool → ℕ
one_if b = cond b 1 0

pub count_cons : (f : Delivered → Bool) (x : Delivered) (xs : List Delivered)
    → count_by f (x ∷ xs) ≡ cond (f x) 1 0 + count_by f xs
count_cons f x xs = sum_by-cons (λ x. cond (f x) 1 0) x xs

-- what is counted stands there, and what stands there is counted
pub counted : (f : Delivered → Bool) (xs : List Delivered) → 0 < count_by f xs
    → (d : Delivered) × In d xs × (f d ≡ true)
counted f [] h = absurd (omega arith)
counted f (x ∷ xs) h = go (f x) refl (counted f xs)
  where
    go : (b : Bool) → f x ≡ b → (0 < count_by f xs → (d : Delivered) × In d xs × (f d ≡ true)) → (d : Delivered) × In d (x ∷ xs) × (f d ≡ true)
    go true e k = (x, inl refl, e)
    go false e k =
        let a = count_cons f x xs in
        let z : one_if (f x) ≡ 0 = ap one_if e in
        let r = k (omega (arith, a, z, h)) in (r.0, inr r.1, r.2)

pub none_counted : (f : Delivered → Bool) (d : Delivered) (xs : List Delivered) → count_by f xs ≡ 0 → In d xs
    → f d ≡ false
none_counted f d [] e i = absurd i
none_counted f d (x ∷ xs) e (inl q) = false_from_ne_true (f d) (λ t.
    let a = count_cons f x xs in
    let z : one_if (f x) ≡ 1 = ap one_if (ap f (sym q) ∙ t) in
    absurd (omega (arith, a, z, e)))
none_counted f d (x ∷ xs) e (inr i) = none_counted f d xs (let a = count_cons f x xs in omega (arith, a, e)) i

filter_same : (p q : Delivered → Bool) (xs : List Delivered) → ((d : Delivered) → In d xs → p d ≡ q d)
    → filter p xs ≡ filter q xs
filter_same p q [] h = refl
filter_same p q (x ∷ xs) h =
    ap (λ b. cond b (x ∷ filter p xs) (filter p xs)) (h x (inl refl)) ∙ ap (λ l. cond (q x) (x ∷ l) l) (filter_same p q xs (λ d i. h d (inr i)))

stamp_is : (stamp : Stamp) (c : Delivered) → is_stamp stamp c ≡ true → c.stamp ≡ stamp
stamp_is stamp c h =
    let r = and_parts (c.stamp.time == stamp.time) (c.stamp.process == stamp.process) h in
    same_stamp c.stamp stamp (eqb-true _ _ r.0) (eqb-true _ _ r.1)

not_below_self : (a b : Stamp) → (Below a b → ⊥) → below a b ≡ false
not_below_self a b h = false_from_ne_true (below a b) (λ t. h ((Decides-below a b).0 t))

not_at_most : (a b : Stamp) → Below a b → AtMost b a → ⊥
not_at_most a b (inl h) (inl k) = omega arith
not_at_most a b (inl h) (inr k) = omega (arith, k.0)
not_at_most a b (inr h) (inl k) = omega (arith, h.0)
not_at_most a b (inr h) (inr k) = omega (arith, h.1, k.1)

module _ (s : State) (c : Delivered) (cs : List Delivered) (above : (d : Delivered) → In d cs → Below c.stamp d.stamp) where
  abbrev after_one : State
  after_one = record s { copy = after c.op s.copy; delivered = s.delivered + 1 }

  -- the reply after c and some more
  reply_on : (more : List Delivered) (op : Op) → reply_after s (c ∷ more) op ≡ reply_after after_one more op
  reply_on more op = let e : s.delivered + length (c ∷ more) ≡ s.delivered + 1 + length more = omega arith in ap (λ n. record (reply_after after_one more op) { place = n }) e

  -- nothing stands before c
  none_before : (stamp : Stamp) → c.stamp ≡ stamp → casts_before stamp (c ∷ cs) ≡ []
  none_before stamp e = none_kept (λ d. below d.stamp stamp) (c ∷ cs) (λ d i. not_below_self d.stamp stamp (λ b. elim i [
    | inl q ↦ below_irrefl d.stamp (subst (λ (x : Stamp). Below d.stamp x) (sym e ∙ sym (ap (λ (x : Delivered). x.stamp) q)) b)
    | inr j ↦ below_asym c.stamp d.stamp (above d j) (subst (λ (x : Stamp). Below d.stamp x) (sym e) b)
  ]))

  -- the reply before c
  abbrev reply_now : Op → Reply
  reply_now op = record { answer = answer_of op s.copy; place = s.delivered }

  reply_first : (op : Op) → reply_after s [] op ≡ reply_now op
  reply_first op = let e : s.delivered + 0 ≡ s.delivered = omega arith in ap (λ n. record (reply_now op) { place = n }) e

  own_here : (stamp : Stamp) (op : Op) (b : Bool) → is_stamp stamp c ≡ b → (held : List Delivered) →
      reply_of s (c ∷ cs) (Some (Own stamp op)) ≡ first_of (cond b (Some (reply_now op)) None) (reply_of (record after_one { held = held }) cs (still (cond b (Some (reply_now op)) None) (Some (Own stamp op))))
  own_here stamp op true e held =
      cond-true (is_stamp stamp c || list_any (is_stamp stamp) cs) (Some (reply_after s (casts_before stamp (c ∷ cs)) op)) None (or_left (is_stamp stamp c) (list_any (is_stamp stamp) cs) e)
      ∙ ap (λ l. Some (reply_after s l op)) (none_before stamp (stamp_is stamp c e))
      ∙ ap Some (reply_first op)
  own_here stamp op false e held =
      ap (λ b. cond (b || list_any (is_stamp stamp) cs) (Some (reply_after s (casts_before stamp (c ∷ cs)) op)) None) e
      ∙ go (list_any (is_stamp stamp) cs) refl
    where
      go : (b : Bool) → list_any (is_stamp stamp) cs ≡ b → cond b (Some (reply_after s (casts_before stamp (c ∷ cs)) op)) None ≡ cond b (Some (reply_after after_one (casts_before stamp cs) op)) None
      go false h = refl
      go true h =
          let r = any_found (is_stamp stamp) cs h in
          let low : Below c.stamp stamp = subst (λ (x : Stamp). Below c.stamp x) (stamp_is stamp r.0 r.2) (above r.0 r.1) in
          ap (λ l. Some (reply_after s l op)) (cond-true (below c.stamp stamp) (c ∷ casts_before stamp cs) (casts_before stamp cs) ((Decides-below c.stamp stamp).1 low))
          ∙ ap Some (reply_on (casts_before stamp cs) op)

  -- what stands above c, up to the last own one, doesn't look at c
  up_same : filter (λ d. list_any (λ e. is_own s e && at_most d.stamp e.stamp) (c ∷ cs)) cs ≡ up_to_own s cs
  up_same = filter_same _ _ cs (λ d i.
      let no : (is_own s c && at_most d.stamp c.stamp) ≡ false = false_from_ne_true _ (λ t. not_at_most c.stamp d.stamp (above d i) ((Decides-at_most d.stamp c.stamp).0 (and_parts (is_own s c) (at_most d.stamp c.stamp) t).1)) in
      ap (λ b. b || list_any (λ e. is_own s e && at_most d.stamp e.stamp) cs) no)

  none_own : count_by (is_own s) cs ≡ 0 → up_to_own s cs ≡ []
  none_own z = none_kept (λ d. list_any (λ e. is_own s e && at_most d.stamp e.stamp) cs) cs (λ d i. false_from_ne_true _ (λ t.
      let r = any_found (λ e. is_own s e && at_most d.stamp e.stamp) cs t in
      false≢true (sym (none_counted (is_own s) r.0 cs z r.1) ∙ (and_parts (is_own s r.0) (at_most d.stamp r.0.stamp) r.2).0)))

  at_most_self : (a : Stamp) → at_most a a ≡ true
  at_most_self a = (Decides-at_most a a).1 (inr (refl, omega arith))

  -- c is at or before an own one
  kept_own : ((d : Delivered) × In d (c ∷ cs) × (is_own s d ≡ true)) → up_to_own s (c ∷ cs) ≡ c ∷ up_to_own s cs
  kept_own r =
      let f : Delivered → Bool = λ e. is_own s e && at_most c.stamp e.stamp in
      let le : at_most c.stamp r.0.stamp ≡ true = elim r.1 [
        | inl q ↦ subst (λ (x : Delivered). at_most c.stamp x.stamp ≡ true) (sym q) (at_most_self c.stamp)
        | inr j ↦ (Decides-at_most c.stamp r.0.stamp).1 (elim (above r.0 j) [ inl k ↦ inl k | inr k ↦ inr (k.0, omega (arith, k.1)) ])
      ] in
      let t : list_any f (c ∷ cs) ≡ true = any_finds f r.0 (c ∷ cs) r.1 (and_from (is_own s r.0) (at_most c.stamp r.0.stamp) r.2 le) in
      cond-true (list_any f (c ∷ cs)) (c ∷ filter (λ d. list_any (λ e. is_own s e && at_most d.stamp e.stamp) (c ∷ cs)) cs) _ t ∙ ap (λ l. c ∷ l) up_same

  none_of : (rest : List Delivered) → ((d : Delivered) → In d cs → In d rest) → count_by (is_own s) rest ≡ 0 → count_by (is_own s) cs ≡ 0
  none_of rest sub z = elim (cases_eq (count_by (is_own s) cs) 0) [
    | inl e ↦ e
    | inr ne ↦
        let r = counted (is_own s) cs (omega (arith, ne)) in
        absurd (false≢true (sym (none_counted (is_own s) r.0 rest z (sub r.0 r.1)) ∙ r.2))
  ]

  -- rest: what stays held; cs: those of it that are delivered next
  held_here : (op : Op) (rest : List Delivered) → s.held ≡ c ∷ rest → 0 < unsettled s → ((d : Delivered) → In d cs → In d rest) →
      reply_of s (c ∷ cs) (Some (Held op)) ≡ first_of (reply_one s c rest (Some (Held op))) (reply_of (record after_one { held = rest }) cs (still (reply_one s c rest (Some (Held op))) (Some (Held op))))
  held_here op rest e w sub = elim (cases_eq (count_by (is_own s) rest) 0) [ inl z ↦ last z | inr nz ↦ more nz ]
    where
      all : unsettled s ≡ cond (is_own s c) 1 0 + count_by (is_own s) rest
      all = ap (count_by (is_own s)) e ∙ count_cons (is_own s) c rest

      here : count_by (is_own s) (c ∷ cs) ≡ cond (is_own s c) 1 0 + count_by (is_own s) cs
      here = count_cons (is_own s) c cs

      right : Bool → Option Reply
      right b = first_of (cond b (Some (reply_after s (c ∷ []) op)) None) (reply_of (record after_one { held = rest }) cs (still (cond b (Some (reply_after s (c ∷ []) op)) None) (Some (Held op))))

      own_c : (b : Bool) → is_own s c ≡ b → 0 < cond b 1 0 → is_own s c ≡ true
      own_c true q l = q
      own_c false q l = absurd (omega arith)

      last : count_by (is_own s) rest ≡ 0 → reply_of s (c ∷ cs) (Some (Held op)) ≡ first_of (reply_one s c rest (Some (Held op))) (reply_of (record after_one { held = rest }) cs (still (reply_one s c rest (Some (Held op))) (Some (Held op))))
      last z =
          let zc = none_of rest sub z in
          let o : is_own s c ≡ true = own_c (is_own s c) refl (omega (arith, w, all, z)) in
          let same : count_by (is_own s) (c ∷ cs) ≡ unsettled s = here ∙ ap (λ n. cond (is_own s c) 1 0 + n) (zc ∙ sym z) ∙ sym all in
          let up : up_to_own s (c ∷ cs) ≡ c ∷ [] = kept_own (c, inl refl, o) ∙ ap (λ l. c ∷ l) (none_own zc) in
          cond-true (count_by (is_own s) (c ∷ cs) == unsettled s) (Some (reply_after s (up_to_own s (c ∷ cs)) op)) None (eq-eqb _ _ same)
          ∙ ap (λ l. Some (reply_after s l op)) up
          ∙ sym (ap right (eq-eqb (count_by (is_own s) rest) 0 z))

      more : (count_by (is_own s) rest ≡ 0 → ⊥) → reply_of s (c ∷ cs) (Some (Held op)) ≡ first_of (reply_one s c rest (Some (Held op))) (reply_of (record after_one { held = rest }) cs (still (reply_one s c rest (Some (Held op))) (Some (Held op))))
      more nz = elim (cases_eq (count_by (is_own s) cs) (count_by (is_own s) rest)) [
        | inl q ↦
            let same : count_by (is_own s) (c ∷ cs) ≡ unsettled s = here ∙ ap (λ n. cond (is_own s c) 1 0 + n) q ∙ sym all in
            let r = counted (is_own s) cs (omega (arith, nz, q)) in
            cond-true (count_by (is_own s) (c ∷ cs) == unsettled s) (Some (reply_after s (up_to_own s (c ∷ cs)) op)) None (eq-eqb _ _ same)
            ∙ ap (λ l. Some (reply_after s l op)) (kept_own (r.0, inr r.1, r.2))
            ∙ ap Some (reply_on (up_to_own s cs) op)
            ∙ sym (cond-true (count_by (is_own s) cs == count_by (is_own s) rest) (Some (reply_after after_one (up_to_own s cs) op)) None (eq-eqb _ _ q))
            ∙ sym (ap right (ne_eqb (count_by (is_own s) rest) 0 nz))
        | inr ne ↦
            cond-false (count_by (is_own s) (c ∷ cs) == unsettled s) (Some (reply_after s (up_to_own s (c ∷ cs)) op)) None (ne_eqb _ _ (λ q. ne (omega (arith, q, here, all))))
            ∙ sym (cond-false (count_by (is_own s) cs == count_by (is_own s) rest) (Some (reply_after after_one (up_to_own s cs) op)) None (ne_eqb _ _ ne))
            ∙ sym (ap right (ne_eqb (count_by (is_own s) rest) 0 nz))
      ]

-- One step of the loop.
module _ (s : State) (c : Delivered) (rest : List Delivered) (e : s.held ≡ c ∷ rest) (rises : Rising s.held) (clear : is_clear s c.stamp ≡ true) where
  abbrev next : State
  next = popped s c rest

  abbrev cs : List Delivered
  cs = clear_casts next

  pub one_clear : clear_casts s ≡ c ∷ clear_casts (popped s c rest)
  one_clear = first_clear s c rest e clear

  above : (d : Delivered) → In d (clear_casts (popped s c rest)) → Below c.stamp d.stamp
  above d i = let r : Rising (c ∷ rest) = subst Rising e rises in r.0 d (in_filter d (λ d. is_clear s d.stamp) rest i).0

  one_reply : (running : Option Running) → Waits s running →
      reply_of s (clear_casts s) running ≡ first_of (reply_one s c rest running) (reply_of (popped s c rest) (clear_casts (popped s c rest)) (still (reply_one s c rest running) running))
  one_reply None w = refl
  one_reply (Some (Own stamp op)) w = ap (λ l. reply_of s l (Some (Own stamp op))) one_clear ∙ own_here s c cs above stamp op (is_stamp stamp c) refl rest
  one_reply (Some (Held op)) w =
      ap (λ l. reply_of s l (Some (Held op))) one_clear ∙ held_here s c cs above op rest e w (λ d i. (in_filter d (λ d. is_clear s d.stamp) rest i).0)

  pub one_due : Waits s s.running
      → reply_of s (clear_casts s) s.running
      ≡ first_of (reply_one s c rest s.running)
      (reply_of (popped s c rest) (clear_casts (popped s c rest)) (popped s c rest).running)
  one_due w = one_reply s.running w

  runs_on : (o q : Option Reply) (r : Option Running) (f : Option Running → Option Reply) → (f None ≡ None) → q ≡ first_of o (f (still o r)) → still q r ≡ still (f (still o r)) (still o r)
  runs_on None q r f z h = ap (λ x. still x r) h
  runs_on (Some x) q r f z h = ap (λ x. still x r) h ∙ sym (ap (λ x. still x None) z)

  pub one_state : Waits s s.running → delivered_state s ≡ delivered_state (popped s c rest)
  one_state w =
      let run = runs_on (reply_one s c rest s.running) (reply_of s (clear_casts s) s.running) s.running (reply_of (popped s c rest) (clear_casts (popped s c rest))) refl (one_due w) in
      let count : s.delivered + length (clear_casts s) ≡ s.delivered + 1 + length (clear_casts (popped s c rest)) = let z = ap length one_clear in omega (arith, z) in
      let copy : memory_after (ops_of (clear_casts s)) s.copy ≡ memory_after (ops_of (clear_casts (popped s c rest))) (after c.op s.copy) = ap (λ l. memory_after (ops_of l) s.copy) one_clear in
      let held : filter (λ c. not (is_clear s c.stamp)) s.held ≡ filter (λ c. not (is_clear s c.stamp)) rest =
      ap (filter (λ c. not (is_clear s c.stamp))) e ∙ cond-false (not (is_clear s c.stamp)) (c ∷ filter (λ c. not (is_clear s c.stamp)) rest) (filter (λ c. not (is_clear s c.stamp)) rest) (ap not clear) in
      ap (λ h. record s { held = h; copy = memory_after (ops_of (clear_casts s)) s.copy; delivered = s.delivered + length (clear_casts s); running = still (reply_of s (clear_casts s) s.running) s.running }) held
      ∙ ap (λ m. record s { held = filter (λ c. not (is_clear s c.stamp)) rest; copy = m; delivered = s.delivered + length (clear_casts s); running = still (reply_of s (clear_casts s) s.running) s.running }) copy
      ∙ ap (λ n. record s { held = filter (λ c. not (is_clear s c.stamp)) rest; copy = memory_after (ops_of (clear_casts (popped s c rest))) (after c.op s.copy); delivered = n; running = still (reply_of s (clear_casts s) s.running) s.running }) count
      ∙ ap (λ r. record s { held = filter (λ c. not (is_clear s c.stamp)) rest; copy = memory_after (ops_of (clear_casts (popped s c rest))) (after c.op s.copy); delivered = s.delivered + 1 + length (clear_casts (popped s c rest)); running = r }) run

-- Where the loop ends nothing more is to be done.
kept_all : (p : Delivered → Bool) (xs : List Delivered) → filter p xs ≡ [] → filter (λ c. not (p c)) xs ≡ xs
kept_all p [] h = refl
kept_all p (x ∷ xs) h = go (p x) refl h (kept_all p xs)
  where
    go : (b : Bool) → p x ≡ b → cond b (x ∷ filter p xs) (filter p xs) ≡ [] → (filter p xs ≡ [] → filter (λ c. not (p c)) xs ≡ xs) → cond (not (p x)) (x ∷ filter (λ c. not (p c)) xs) (filter (λ c. not (p c)) xs) ≡ x ∷ xs
    go true e k f = absurd (cc)
    go false e k f = cond-true (not (p x)) (x ∷ filter (λ c. not (p c)) xs) (filter (λ c. not (p c)) xs) (ap not e) ∙ ap (λ l. x ∷ l) (f k)

no_reply : (s : State) (running : Option Running) → Waits s running → reply_of s [] running ≡ None
no_reply s None w = refl
no_reply s (Some (Own stamp op)) w = refl
no_reply s (Some (Held op)) w = cond-false (0 == unsettled s) (Some (reply_after s (up_to_own s []) op)) None (ne_eqb 0 (unsettled s) (λ q. absurd (omega (arith, q, w))))

pub end_due : (s : State) → clear_casts s ≡ [] → Waits s s.running → reply_of s (clear_casts s) s.running ≡ None
end_due s e w = ap (λ l. reply_of s l s.running) e ∙ no_reply s s.running w

pub end_state : (s : State) → clear_casts s ≡ [] → Waits s s.running → delivered_state s ≡ s
end_state s e w =
    ap (λ h. record s { held = h; copy = memory_after (ops_of (clear_casts s)) s.copy; delivered = s.delivered + length (clear_casts s); running = still (reply_of s (clear_casts s) s.running) s.running }) (kept_all (λ c. is_clear s c.stamp) s.held e)
    ∙ ap (λ l. record s { copy = memory_after (ops_of l) s.copy; delivered = s.delivered + length l; running = still (reply_of s (clear_casts s) s.running) s.running }) e
    ∙ ap (λ n. record s { delivered = n; running = still (reply_of s (clear_casts s) s.running) s.running }) (let z : s.delivered + 0 ≡ s.delivered = omega arith in z)
    ∙ ap (λ o. record s { running = still o s.running }) (end_due s e w)
