-- The entries of a map with one key more.
use Rattle.std.proofs.Common.{◌≡◌, ◌≢◌, ◌⊎◌, inl, inr, ℕ, ◌≤◌, Bool, true, false, cond, List, [], ◌∷◌, length, map}
use Rattle.std.proofs.Common.{Option, Some, None, refl, ap, sym, ◌∙◌, subst, arith}
use Rattle.std.specs.Option.{is_some}
use Rattle.std.specs.declared.cmp.Ordering.{Ordering}
use Rattle.std.specs.declared.cmp.Ordering.TheVariants.{Less, Equal, Greater}
use Rattle.std.specs.Ordering.{is_eq, match_ordering}
use Rattle.std.specs.Cmp.{IsTotalOrder}
use Rattle.std.specs.BTreeMap.{insert_entry, is_at}
use Rattle.std.specs.List.{AllByRecursion}
use Rattle.std.specs.List.Sorted.{IsStrictlySortedBy}
use Rattle.std.specs.Map.{keys_of, lookup}
use Rattle.std.proofs.lemmas.Cmp.{tied_itself}
use Rattle.std.proofs.lemmas.List.{length-map}
use Rattle.std.proofs.lemmas.Map.Keys.{sorted_head, sorted_tail}
use Rattle.std.proofs.lemmas.Map.Lookups.{CmpEqualImpliesEq}
use Rattle.reg_base.specs.Order.{In}
use Rattle.reg_outcomes.specs.Layers.{Adds, AreApart, Overflows}
use Rattle.reg_outcomes.proofs.Comparing.{equal_is}

none_of : {X : Type 0} (o : Option X) → is_some o ≡ false → o ≡ None
none_of None h = refl
none_of (Some x) h = absurd cc

module _ {K V Key : Type 0} (key_of : K → Key) (turns_of : V → List ℕ) (cmp : Key → Key → Ordering) (total : IsTotalOrder cmp) (exact : CmpEqualImpliesEq cmp) where
  abbrev read : K × V → Key × List ℕ
  read e = (key_of e.0, turns_of e.1)

  abbrev by_key : K → K → Ordering
  by_key a b = cmp (key_of a) (key_of b)

  -- the entries where the key compares so with that of the first
  abbrev put_at : Ordering → K → V → K × V → List (K × V) → List (K × V)
  put_at o k v e es = match_ordering o ((k, v) ∷ e ∷ es) ((e.0, v) ∷ es) (e ∷ insert_entry by_key es k v)

  abbrev look_at : Ordering → K → K × V → List (K × V) → Option V
  look_at o k e es = cond (is_eq o) (Some e.1) (lookup (is_at (by_key k)) es)

  kept_at : (o : Ordering) (k : K) (v : V) (e : K × V) (es : List (K × V)) (f : Key × List ℕ) → look_at o k e es ≡ None
      → (lookup (is_at (by_key k)) es ≡ None → In f (map read es) → In f (map read (insert_entry by_key es k v))) → In f (map read (e ∷ es)) → In f (map read (put_at o k v e es))
  kept_at Less k v e es f none rest h = inr h
  kept_at Equal k v e es f none rest h = absurd cc
  kept_at Greater k v e es f none rest (inl h) = inl h
  kept_at Greater k v e es f none rest (inr h) = inr (rest none h)

  kept : (k : K) (v : V) (es : List (K × V)) (f : Key × List ℕ) → lookup (is_at (by_key k)) es ≡ None → In f (map read es) → In f (map read (insert_entry by_key es k v))
  kept k v [] f none h = absurd h
  kept k v (e ∷ es) f none h = kept_at (by_key k e.0) k v e es f none (kept k v es f) h

  only_at : (o : Ordering) (k : K) (v : V) (e : K × V) (es : List (K × V)) (f : Key × List ℕ) → look_at o k e es ≡ None
      → (lookup (is_at (by_key k)) es ≡ None → In f (map read (insert_entry by_key es k v)) → In f (map read es) ⊎ (f ≡ read (k, v))) → In f (map read (put_at o k v e es)) → In f (map read (e ∷ es)) ⊎ (f ≡ read (k, v))
  only_at Less k v e es f none rest (inl h) = inr h
  only_at Less k v e es f none rest (inr h) = inl h
  only_at Equal k v e es f none rest h = absurd cc
  only_at Greater k v e es f none rest (inl h) = inl (inl h)
  only_at Greater k v e es f none rest (inr h) = elim (rest none h) [ inl old ↦ inl (inr old) | inr new ↦ inr new ]

  only : (k : K) (v : V) (es : List (K × V)) (f : Key × List ℕ) → lookup (is_at (by_key k)) es ≡ None → In f (map read (insert_entry by_key es k v)) → In f (map read es) ⊎ (f ≡ read (k, v))
  only k v [] f none (inl h) = inr h
  only k v [] f none (inr h) = absurd h
  only k v (e ∷ es) f none h = only_at (by_key k e.0) k v e es f none (only k v es f) h

  new_at : (o : Ordering) (k : K) (v : V) (e : K × V) (es : List (K × V)) → look_at o k e es ≡ None → (lookup (is_at (by_key k)) es ≡ None → In (read (k, v)) (map read (insert_entry by_key es k v))) → In (read (k, v)) (map read (put_at o k v e es))
  new_at Less k v e es none rest = inl refl
  new_at Equal k v e es none rest = absurd cc
  new_at Greater k v e es none rest = inr (rest none)

  new : (k : K) (v : V) (es : List (K × V)) → lookup (is_at (by_key k)) es ≡ None → In (read (k, v)) (map read (insert_entry by_key es k v))
  new k v [] none = inl refl
  new k v (e ∷ es) none = new_at (by_key k e.0) k v e es none (new k v es)

  found_at : (b : Bool) (k : K) (e : K × V) (es : List (K × V)) → is_eq (by_key k e.0) ≡ b → is_some (cond b (Some e.1) (lookup (is_at (by_key k)) es)) ≡ true
      → (is_some (lookup (is_at (by_key k)) es) ≡ true → (g : Key × List ℕ) × In g (map read es) × (g.0 ≡ key_of k)) → (g : Key × List ℕ) × In g (map read (e ∷ es)) × (g.0 ≡ key_of k)
  found_at true k e es same some rest = (read e, inl refl, sym (exact (key_of k) (key_of e.0) (equal_is (by_key k e.0) same)))
  found_at false k e es same some rest = let g = rest some in (g.0, inr g.1, g.2)

  pub found : (k : K) (es : List (K × V)) → is_some (lookup (is_at (by_key k)) es) ≡ true
      → (g : Key × List ℕ) × In g (map read es) × (g.0 ≡ key_of k)
  found k [] some = absurd cc
  found k (e ∷ es) some = found_at (is_eq (by_key k e.0)) k e es refl some (found k es)

  -- the key was there
  pub adds_there : (k : K) (turns : List ℕ) (es : List (K × V)) → is_some (lookup (is_at (by_key k)) es) ≡ true
      → Adds (λ f. f ≡ (key_of k, turns)) (map read es) (map read es)
  adds_there k turns es some = record {
    kept = λ f h. h;
    only = λ f h. inl h;
    added = λ f e. let g = found k es some in (g.0, g.1, g.2 ∙ sym (ap (λ (x : Key × List ℕ). x.0) e));
  }

  -- it was put
  pub adds_put : (k : K) (v : V) (turns : List ℕ) (es now : List (K × V)) → turns_of v ≡ turns
      → is_some (lookup (is_at (by_key k)) es) ≡ false → now ≡ insert_entry by_key es k v
      → Adds (λ f. f ≡ (key_of k, turns)) (map read es) (map read now)
  adds_put k v turns es now same none is =
      let absent : lookup (is_at (by_key k)) es ≡ None = none_of (lookup (is_at (by_key k)) es) none in
      let entry : read (k, v) ≡ (key_of k, turns) = ap (λ t. (key_of k, t)) same in
      subst (λ l. Adds (λ f. f ≡ (key_of k, turns)) (map read es) (map read l)) (sym is) (record {
        kept = λ f h. kept k v es f absent h;
        only = λ f h. elim (only k v es f absent h) [ inl old ↦ inl old | inr e ↦ inr (e ∙ entry) ];
        added = λ f e. (read (k, v), new k v es absent, sym (ap (λ (x : Key × List ℕ). x.0) e));
      })

  other_at : (b : Bool) (k : K) (e : K × V) (es : List (K × V)) (g : Key × List ℕ) → is_eq (by_key k e.0) ≡ b → is_some (cond b (Some e.1) (lookup (is_at (by_key k)) es)) ≡ false
      → (is_some (lookup (is_at (by_key k)) es) ≡ false → In g (map read es) → key_of k ≢ g.0) → In g (map read (e ∷ es)) → key_of k ≢ g.0
  other_at true k e es g same none rest h = absurd cc
  other_at false k e es g same none rest (inl h) = λ is.
      let tied : by_key k e.0 ≡ Equal = ap (λ x. cmp (key_of k) x) (sym (is ∙ ap (λ (x : Key × List ℕ). x.0) h)) ∙ tied_itself total (key_of k) in
      let yes : true ≡ false = sym (ap is_eq tied) ∙ same in
      cc
  other_at false k e es g same none rest (inr h) = rest none h

  other : (k : K) (es : List (K × V)) (g : Key × List ℕ) → is_some (lookup (is_at (by_key k)) es) ≡ false → In g (map read es) → key_of k ≢ g.0
  other k [] g none h = absurd h
  other k (e ∷ es) g none h = other_at (is_eq (by_key k e.0)) k e es g refl none (other k es g) h

  below : (k : K) (es : List (K × V)) (g : Key × List ℕ) → AllByRecursion (λ q. by_key k q ≡ Less) (keys_of es) → In g (map read es) → key_of k ≢ g.0
  below k [] g less h = absurd h
  below k (e ∷ es) g less (inl h) = λ is.
      let tied : by_key k e.0 ≡ Equal = ap (λ x. cmp (key_of k) x) (sym (is ∙ ap (λ (x : Key × List ℕ). x.0) h)) ∙ tied_itself total (key_of k) in
      let lower : by_key k e.0 ≡ Less = less.0 in
      cc
  below k (e ∷ es) g less (inr h) = below k es g less.1 h

  -- entries in order are apart
  pub apart : (es : List (K × V)) → IsStrictlySortedBy by_key (keys_of es) → AreApart (map read es)
  apart [] ordered = tt
  apart (e ∷ es) ordered = (λ g h. below e.0 es g (sorted_head by_key e.0 (keys_of es) ordered) h, apart es (sorted_tail by_key e.0 (keys_of es) ordered))

  -- there is no room for it
  pub overflows : (limit : ℕ) (k : K) (turns : List ℕ) (es : List (K × V)) → limit ≤ length es
      → is_some (lookup (is_at (by_key k)) es) ≡ false → IsStrictlySortedBy by_key (keys_of es)
      → Overflows limit (λ f. f ≡ (key_of k, turns)) (map read es)
  overflows limit k turns es full none ordered = record {
    found = (key_of k, turns) ∷ map read es;
    more = (let l = length-map es read in omega (arith, l));
    apart = (λ g h. other k es g none h, apart es ordered);
    only = λ f h. elim h [ inl e ↦ inr e | inr old ↦ inl old ];
  }
