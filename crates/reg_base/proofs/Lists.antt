-- Lists of casts: membership, insertion, a filter, and what makes one list a prefix of another.
use Rattle.std.proofs.Common.{◌≡◌, ◌⊎◌, Bool, true, false, not, List, [], ◌∷◌, ◌++◌, refl, sym, ap, ◌∙◌, subst, inl}
use Rattle.std.proofs.Common.{inr}
use Rattle.std.specs.Prelude.{cond}
use Rattle.std.specs.List.{filter}
use Rattle.reg_base.specs.declared.stamps.Delivered.{Delivered}
use Rattle.reg_base.specs.Order.{Below, below, In, Rising, insert, IsPrefixOf}
use Rattle.reg_base.proofs.Orders.{Decides-below, below_trans, below_irrefl, below_asym, cases_stamps}

pub in_left : {X : Type 0} (c : X) (xs ys : List X) → In c xs → In c (xs ++ ys)
in_left c [] ys h = absurd h
in_left c (x ∷ xs) ys (inl e) = inl e
in_left c (x ∷ xs) ys (inr h) = inr (in_left c xs ys h)

pub in_right : {X : Type 0} (c : X) (xs ys : List X) → In c ys → In c (xs ++ ys)
in_right c [] ys h = h
in_right c (x ∷ xs) ys h = inr (in_right c xs ys h)

pub in_cases : {X : Type 0} (c : X) (xs ys : List X) → In c (xs ++ ys) → In c xs ⊎ In c ys
in_cases c [] ys h = inr h
in_cases c (x ∷ xs) ys (inl e) = inl (inl e)
in_cases c (x ∷ xs) ys (inr h) = elim (in_cases c xs ys h) [ inl k ↦ inl (inr k) | inr k ↦ inr k ]

-- by the test b of the head
filtered_head : (c x : Delivered) (p : Delivered → Bool) (xs : List Delivered) (b : Bool) → p x ≡ b
    → In c (cond b (x ∷ filter p xs) (filter p xs)) → ((c ≡ x) × (p x ≡ true)) ⊎ In c (filter p xs)
filtered_head c x p xs true e (inl h) = inl (h, e)
filtered_head c x p xs true e (inr h) = inr h
filtered_head c x p xs false e h = inr h

pub in_filter : (c : Delivered) (p : Delivered → Bool) (xs : List Delivered) → In c (filter p xs)
    → In c xs × (p c ≡ true)
in_filter c p [] h = absurd h
in_filter c p (x ∷ xs) h = elim (filtered_head c x p xs (p x) refl h) [
  | inl k ↦ (inl k.0, ap p k.0 ∙ k.1)
  | inr k ↦ let r = in_filter c p xs k in (inr r.0, r.1)
]

kept_head : (c x : Delivered) (xs : List Delivered) (b : Bool) → b ≡ true → c ≡ x → In c (cond b (x ∷ xs) xs)
kept_head c x xs true e h = inl h
kept_head c x xs false e h = cc

kept_tail : (c x : Delivered) (xs : List Delivered) (b : Bool) → In c xs → In c (cond b (x ∷ xs) xs)
kept_tail c x xs true h = inr h
kept_tail c x xs false h = h

pub filter_in : (c : Delivered) (p : Delivered → Bool) (xs : List Delivered) → In c xs → p c ≡ true → In c (filter p xs)
filter_in c p [] h e = absurd h
filter_in c p (x ∷ xs) (inl k) e = kept_head c x (filter p xs) (p x) (ap p (sym k) ∙ e) k
filter_in c p (x ∷ xs) (inr k) e = kept_tail c x (filter p xs) (p x) (filter_in c p xs k e)

rising_kept : (x : Delivered) (xs : List Delivered) (b : Bool) → ((c : Delivered) → In c xs → Below x.stamp c.stamp)
    → Rising xs → Rising (cond b (x ∷ xs) xs)
rising_kept x xs true h r = (h, r)
rising_kept x xs false h r = r

pub rising_filter : (p : Delivered → Bool) (xs : List Delivered) → Rising xs → Rising (filter p xs)
rising_filter p [] r = tt
rising_filter p (x ∷ xs) r =
    rising_kept x (filter p xs) (p x) (λ c k. r.0 c (in_filter c p xs k).0) (rising_filter p xs r.1)

pub rising_append : (xs ys : List Delivered) → Rising xs → Rising ys
    → ((x y : Delivered) → In x xs → In y ys → Below x.stamp y.stamp) → Rising (xs ++ ys)
rising_append [] ys r s h = s
rising_append (x ∷ xs) ys r s h =
    (λ c k. elim (in_cases c xs ys k) [ inl a ↦ r.0 c a | inr a ↦ h x c (inl refl) a ], rising_append xs ys r.1 s (λ a b i j. h a b (inr i) j))

insert_cases : (d c x : Delivered) (xs ys : List Delivered) (b : Bool) → (In d ys → (d ≡ c) ⊎ In d xs)
    → In d (cond b (c ∷ x ∷ xs) (x ∷ ys)) → (d ≡ c) ⊎ In d (x ∷ xs)
insert_cases d c x xs ys true f (inl h) = inl h
insert_cases d c x xs ys true f (inr h) = inr h
insert_cases d c x xs ys false f (inl h) = inr (inl h)
insert_cases d c x xs ys false f (inr h) = elim (f h) [ inl k ↦ inl k | inr k ↦ inr (inr k) ]

pub in_insert : (d c : Delivered) (xs : List Delivered) → In d (insert c xs) → (d ≡ c) ⊎ In d xs
in_insert d c [] (inl h) = inl h
in_insert d c [] (inr h) = absurd h
in_insert d c (x ∷ xs) h = insert_cases d c x xs (insert c xs) (below c.stamp x.stamp) (in_insert d c xs) h

insert_here : (d c x : Delivered) (xs ys : List Delivered) (b : Bool) → (d ≡ c → In d ys) → d ≡ c
    → In d (cond b (c ∷ x ∷ xs) (x ∷ ys))
insert_here d c x xs ys true f h = inl h
insert_here d c x xs ys false f h = inr (f h)

pub insert_new : (d c : Delivered) (xs : List Delivered) → d ≡ c → In d (insert c xs)
insert_new d c [] h = inl h
insert_new d c (x ∷ xs) h = insert_here d c x xs (insert c xs) (below c.stamp x.stamp) (insert_new d c xs) h

insert_there : (d c x : Delivered) (xs ys : List Delivered) (b : Bool) → (In d xs → In d ys) → In d (x ∷ xs)
    → In d (cond b (c ∷ x ∷ xs) (x ∷ ys))
insert_there d c x xs ys true f h = inr h
insert_there d c x xs ys false f (inl h) = inl h
insert_there d c x xs ys false f (inr h) = inr (f h)

pub insert_old : (d c : Delivered) (xs : List Delivered) → In d xs → In d (insert c xs)
insert_old d c [] h = absurd h
insert_old d c (x ∷ xs) h = insert_there d c x xs (insert c xs) (below c.stamp x.stamp) (insert_old d c xs) h

-- the stamps are not the same
abbrev pub Apart : Delivered → List Delivered → Type 0
Apart c xs = (d : Delivered) → In d xs → Below d.stamp c.stamp ⊎ Below c.stamp d.stamp

-- d's place is passed on
moved : (P : Delivered → Type 0) (d c : Delivered) → d ≡ c → P c → P d
moved P d c e h = subst P (sym e) h

rising_put : (c x : Delivered) (xs ys : List Delivered) (b : Bool) → below c.stamp x.stamp ≡ b → Rising (x ∷ xs)
    → (Below x.stamp c.stamp ⊎ Below c.stamp x.stamp) → ((d : Delivered) → In d ys → (d ≡ c) ⊎ In d xs) → Rising ys
    → Rising (cond b (c ∷ x ∷ xs) (x ∷ ys))
rising_put c x xs ys true e r a f s =
    let h = (Decides-below c.stamp x.stamp).0 e in
    (λ d k. elim k [ inl q ↦ moved (λ d. Below c.stamp d.stamp) d x q h | inr q ↦ below_trans c.stamp x.stamp d.stamp h (r.0 d q) ], r)
rising_put c x xs ys false e r a f s =
    let h : Below x.stamp c.stamp = elim a [ inl q ↦ q | inr q ↦ absurd (let t = (Decides-below c.stamp x.stamp).1 q in cc) ] in
    (λ d k. elim (f d k) [ inl q ↦ moved (λ d. Below x.stamp d.stamp) d c q h | inr q ↦ r.0 d q ], s)

pub rising_insert : (c : Delivered) (xs : List Delivered) → Rising xs → Apart c xs → Rising (insert c xs)
rising_insert c [] r a = (λ d h. absurd h, tt)
rising_insert c (x ∷ xs) r a =
    rising_put c x xs (insert c xs) (below c.stamp x.stamp) refl r (a x (inl refl)) (λ d h. in_insert d c xs h) (rising_insert c xs r.1 (λ d h. a d (inr h)))

-- whatever stands in xs below something of ys stands in ys
abbrev pub Closed : List Delivered → List Delivered → Type 0
Closed xs ys = (c d : Delivered) → In c xs → In d ys → Below c.stamp d.stamp → In c ys

tail_closed : (x : Delivered) (xs ys : List Delivered) → Rising (x ∷ xs) → Closed (x ∷ xs) (x ∷ ys) → Closed xs ys
tail_closed x xs ys r h c d i j b = elim (h c d (inr i) (inr j) b) [
  | inl e ↦ absurd (below_irrefl x.stamp (subst (λ (z : Delivered). Below x.stamp z.stamp) e (r.0 c i)))
  | inr k ↦ k
]

head_not_below : (x y : Delivered) (xs ys : List Delivered) → Rising (y ∷ ys) → Closed (x ∷ xs) (y ∷ ys)
    → Below x.stamp y.stamp → ⊥
head_not_below x y xs ys r h b = elim (h x y (inl refl) (inl refl) b) [
  | inl e ↦ below_irrefl y.stamp (subst (λ (z : Delivered). Below z.stamp y.stamp) e b)
  | inr k ↦ below_asym x.stamp y.stamp b (r.0 x k)
]

-- Of two rising lists, each closed in the other, whose casts are told by their stamps, one is a prefix of the other.
pub prefixes : (xs ys : List Delivered) → Rising xs → Rising ys → Closed xs ys → Closed ys xs
    → ((c d : Delivered) → In c xs → In d ys → c.stamp ≡ d.stamp → c ≡ d) → IsPrefixOf xs ys ⊎ IsPrefixOf ys xs
prefixes [] ys r s h k u = inl (ys, refl)
prefixes (x ∷ xs) [] r s h k u = inr (x ∷ xs, refl)
prefixes (x ∷ xs) (y ∷ ys) r s h k u =
    let e : x ≡ y = u x y (inl refl) (inl refl) (elim (cases_stamps x.stamp y.stamp) [
      | inl q ↦ q
      | inr q ↦ absurd (elim q [ inl b ↦ head_not_below x y xs ys s h b | inr b ↦ head_not_below y x ys xs r k b ])
    ]) in
    let s' : Rising (x ∷ ys) = subst (λ z. Rising (z ∷ ys)) (sym e) s in
    let h' : Closed (x ∷ xs) (x ∷ ys) = subst (λ z. Closed (x ∷ xs) (z ∷ ys)) (sym e) h in
    let k' : Closed (x ∷ ys) (x ∷ xs) = subst (λ z. Closed (z ∷ ys) (x ∷ xs)) (sym e) k in
    elim (prefixes xs ys r.1 s.1 (tail_closed x xs ys r h') (tail_closed x ys xs s' k') (λ c d i j. u c d (inr i) (inr j))) [
      | inl p ↦ inl (p.0, ap (λ l. x ∷ l) p.1 ∙ ap (λ z. z ∷ ys) e)
      | inr p ↦ inr (p.0, ap (λ z. z ∷ (ys ++ p.0)) (sym e) ∙ ap (λ l. x ∷ l) p.1)
    ]

-- A test that holds of whatever stands below what passes keeps a front of a rising list.
abbrev pub DownIn : (Delivered → Bool) → List Delivered → Type 0
DownIn p xs = (a b : Delivered) → In a xs → In b xs → Below a.stamp b.stamp → p b ≡ true → p a ≡ true

pub none_kept : (p : Delivered → Bool) (xs : List Delivered) → ((b : Delivered) → In b xs → p b ≡ false)
    → filter p xs ≡ []
none_kept p [] h = refl
none_kept p (x ∷ xs) h =
    ap (λ b. cond b (x ∷ filter p xs) (filter p xs)) (h x (inl refl)) ∙ none_kept p xs (λ b i. h b (inr i))

front_head : (x : Delivered) (f g xs : List Delivered) (b : Bool) → f ++ g ≡ xs → (b ≡ false → f ≡ [])
    → cond b (x ∷ f) f ++ cond (not b) (x ∷ g) g ≡ x ∷ xs
front_head x f g xs true e h = ap (λ l. x ∷ l) e
front_head x f g xs false e h = ap (λ l. l ++ (x ∷ g)) (h refl) ∙ ap (λ l. x ∷ l) (ap (λ l. l ++ g) (sym (h refl)) ∙ e)

pub front_filter : (p : Delivered → Bool) (xs : List Delivered) → Rising xs → DownIn p xs
    → filter p xs ++ filter (λ c. not (p c)) xs ≡ xs
front_filter p [] r d = refl
front_filter p (x ∷ xs) r d =
    front_head x (filter p xs) (filter (λ c. not (p c)) xs) xs (p x) (front_filter p xs r.1 (λ a b i j. d a b (inr i) (inr j)))
    (λ e. none_kept p xs (λ b i. stays (p b) (p x) e (d x b (inl refl) (inr i) (r.0 b i))))
  where
    stays : (b a : Bool) → a ≡ false → (b ≡ true → a ≡ true) → b ≡ false
    stays true a e h = let t = h refl in cc
    stays false a e h = refl
