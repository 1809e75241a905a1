-- What is told of one play more.
use Rattle.std.proofs.Common.{◌≡◌, ◌≢◌, ◌⊎◌, inl, inr, ℕ, zero, suc, ◌+◌, ◌<◌, ◌≤◌, Bool, true, false, cond, List, []}
use Rattle.std.proofs.Common.{◌∷◌, ◌++◌, length, Option, Some, None, refl, ap, sym, ◌∙◌, subst, arith, length-append}
use Rattle.std.specs.Prelude.{IfSome, ◌↔◌, ◌^◌, ◌-◌, not}
use Rattle.std.specs.Bool.{then_some}
use Rattle.std.specs.BTreeMap.{BTreeMap, get, Updates, is_at}
use Rattle.std.specs.Option.{option_or}
use Rattle.std.proofs.lemmas.Bool.{cases_Bool, false≢true}
use Rattle.std.proofs.lemmas.Option.{same_Some, slice_get_within}
use Rattle.reg_checkers.specs.History.{IsAt}
use Rattle.reg_checkers.proofs.Pushing.{at_push}
use Rattle.reg_outcomes.specs.declared.told.ToldAnswer.{ToldAnswer}
use Rattle.reg_outcomes.specs.declared.tables.tallies.Tally.{Tally}
use Rattle.reg_outcomes.specs.PlayTables.{Seen, HasOutcome, IsFirst, IsNoShorter, IsTally, IsTallyOf, Nothing}
use Rattle.reg_outcomes.specs.Counts.{IsShorter, IsShortest, TellsOf, key_cmp, IsCounted, HasRoom}
use Rattle.reg_outcomes.proofs.Those.{at_front, at_new, at_cases, those_more, those_same, no_those, those_few}
use Rattle.reg_outcomes.proofs.Ordering.{same_keys, tied_keys}

-- whether a play is of a kind
pub is_true : (b : Bool) → (b ≡ true) ↔ (b ≡ true)
is_true b = (λ e. e, λ e. e)

pub is_false : (b : Bool) → (not b ≡ true) ↔ (b ≡ false)
is_false true = (λ e. absurd (false≢true e), λ e. absurd (false≢true (sym e)))
is_false false = (λ e. refl, λ e. refl)

-- the first of a kind, of no plays and of one play more
pub first_none : (kind : Bool) → IsFirst kind [] None
first_none kind k s h = absurd cc

module _ (kind : Bool) (plays : List Seen) (s : Seen) where
  first_kept : (seed : ℕ) → IsFirst kind plays (Some seed) → IsFirst kind (plays ++ s ∷ []) (Some seed)
  first_kept seed (k, x, h, is, e, least) = (
    k,
    x,
    at_front plays (s ∷ []) k x h,
    is,
    e,
    λ j other at same. elim (at_push plays j s other at) [
      | inl old ↦ least j other old same
      | inr (j_is, is_new) ↦ let inside : k < length plays = slice_get_within plays k x h in omega (arith, inside, j_is)
    ],
  )

  first_now : s.linearizable ≡ kind → IsFirst kind plays None → IsFirst kind (plays ++ s ∷ []) (Some s.seed)
  first_now is none = (
    length plays,
    s,
    at_new plays s,
    is,
    refl,
    λ j other at same. elim (at_push plays j s other at) [
      | inl old ↦ absurd (none j other old same)
      | inr (j_is, is_new) ↦ omega (arith, j_is)
    ],
  )

  first_not : s.linearizable ≢ kind → IsFirst kind plays None → IsFirst kind (plays ++ s ∷ []) None
  first_not other none = λ k x at same. elim (at_push plays k s x at) [
    | inl old ↦ none k x old same
    | inr (k_is, is_new) ↦ other (sym (ap (λ (y : Seen). y.linearizable) is_new) ∙ same)
  ]

  pub first_joined : (o : Option ℕ) (such : Bool) → (such ≡ true) ↔ (s.linearizable ≡ kind) → IsFirst kind plays o
      → IsFirst kind (plays ++ s ∷ []) (option_or o (then_some such s.seed))
  first_joined None true is none = first_now (is.0 refl) none
  first_joined None false is none = first_not (λ e. false≢true (is.1 e)) none
  first_joined (Some seed) such is first = first_kept seed first

pub first_tally : (s : Seen) (in_time late : Option ℕ) → IsFirst true (s ∷ []) in_time → IsFirst false (s ∷ []) late
    → IsTally (s ∷ []) (record { count = 1; events = s.events; seed = s.seed; in_time = in_time; late = late })
first_tally s in_time late first other = record {
  count = refl;
  shortest = (0, s, refl, refl, refl);
  least = least;
  in_time = first;
  late = other;
}
  where
    least : (k : ℕ) (x : Seen) → IsAt (s ∷ []) k x → IsNoShorter (record { count = 1; events = s.events; seed = s.seed; in_time = in_time; late = late }) x
    least zero x h = let e : s ≡ x = same_Some s x h in inr (ap (λ (y : Seen). y.events) e, (let q = ap (λ (y : Seen). y.seed) e in omega (arith, q)))
    least (suc k) x h = absurd cc

below : (s : Seen) (t : Tally) (x : Seen) → IsShorter s t → IsNoShorter t x
    → (s.events < x.events) ⊎ ((s.events ≡ x.events) × (s.seed ≤ x.seed))
below s t x (inl a) (inl b) = inl (omega arith)
below s t x (inl a) (inr b) = let e = b.0 in inl (omega (arith, e))
below s t x (inr a) (inl b) = let e = a.0 in inl (omega (arith, e))
below s t x (inr a) (inr b) =
    let e = a.0 in let f = b.0 in let g = a.1 in let h = b.1 in inr (omega (arith, e, f), omega (arith, g, h))

module _ (plays : List Seen) (s : Seen) (t : Tally) (told : IsTally plays t) where
  one_more : length (plays ++ s ∷ []) ≡ length plays + 1
  one_more = length-append plays (s ∷ [])

  pub joined_tally : (events seed : ℕ) (in_time late : Option ℕ) → IsShortest s t events seed
      → IsFirst true (plays ++ s ∷ []) in_time → IsFirst false (plays ++ s ∷ []) late
      → IsTally (plays ++ s ∷ []) (record { count = t.count + 1; events = events; seed = seed; in_time = in_time; late = late })
  joined_tally events seed in_time late (inl (shorter, e, f)) first other = record {
    count = (let a = told.count in omega (arith, a, one_more));
    shortest = (length plays, s, at_new plays s, sym e, sym f);
    least = λ k x h. elim (at_cases plays s k x h) [
      | inl old ↦ elim (below s t x shorter (told.least k x old)) [ inl a ↦ inl (omega (arith, e, a)) | inr b ↦ let p = b.0 in let q = b.1 in inr (e ∙ p, omega (arith, f, q)) ]
      | inr new ↦ inr (e ∙ ap (λ (y : Seen). y.events) new, (let q = ap (λ (y : Seen). y.seed) new in omega (arith, f, q)))
    ];
    in_time = first;
    late = other;
  }
  joined_tally events seed in_time late (inr (longer, e, f)) first other =
      let old = told.shortest in
      record {
        count = (let a = told.count in omega (arith, a, one_more));
        shortest = (old.0, old.1, at_front plays (s ∷ []) old.0 old.1 old.2, old.3 ∙ sym e, old.4 ∙ sym f);
        least = λ k x h. elim (at_cases plays s k x h) [
          | inl old ↦ moved x (told.least k x old)
          | inr new ↦ moved x (subst (λ (y : Seen). IsNoShorter t y) new longer)
        ];
        in_time = first;
        late = other;
      }
    where
      moved : (x : Seen) → IsNoShorter t x → (events < x.events) ⊎ ((events ≡ x.events) × (seed ≤ x.seed))
      moved x (inl a) = inl (omega (arith, e))
      moved x (inr b) = let p = b.0 in let q = b.1 in inr (e ∙ p, omega (arith, f, q))

-- what is told of the plays with an outcome, where one more has it
pub told_first : (plays : List Seen) (s : Seen) (v : Tally) → s.is_finished ≡ true → TellsOf plays s.outcome None
    → IsTally (s ∷ []) v → IsTallyOf (plays ++ s ∷ []) s.outcome v
told_first plays s v done none tally =
    (s ∷ [], those_more s (record { finished = done; same = refl }) (no_those plays (λ k x h p. none k x h p.finished p.same)), tally)

pub told_more : (plays : List Seen) (s : Seen) (t v : Tally) → s.is_finished ≡ true → IsTallyOf plays s.outcome t
    → ((those : List Seen) → IsTally those t → IsTally (those ++ s ∷ []) v) → IsTallyOf (plays ++ s ∷ []) s.outcome v
told_more plays s t v done (those, are, tally) more =
    (those ++ s ∷ [], those_more s (record { finished = done; same = refl }) are, more those tally)

-- and where it has another, or isn't finished
pub told_still : (plays : List Seen) (s : Seen) (outcome : List ToldAnswer) (o : Option Tally) → ¬ HasOutcome outcome s
    → TellsOf plays outcome o → TellsOf (plays ++ s ∷ []) outcome o
told_still plays s outcome None other none = λ k x h done same. elim (at_cases plays s k x h) [
  | inl old ↦ none k x old done same
  | inr new ↦ other (subst (λ (y : Seen). HasOutcome outcome y) (sym new) (record { finished = done; same = same }))
]
told_still plays s outcome (Some t) other (those, are, tally) = (those, those_same s other are, tally)

module _ {K : Type 0} (items : K → List ToldAnswer) where
  -- the map after the play was counted
  pub tells_next : (plays : List Seen) (told new : BTreeMap K Tally) (key : K) (s : Seen) (v : Tally)
      → s.is_finished ≡ true → items key ≡ s.outcome → Updates (key_cmp items) told new key (Some v)
      → IsTallyOf (plays ++ s ∷ []) s.outcome v → ((q : K) → TellsOf plays (items q) (get (key_cmp items) told q)) → (q : K) → TellsOf (plays ++ s ∷ []) (items q) (get (key_cmp items) new q)
  tells_next plays told new key s v done is updates tally tells q = elim (cases_Bool (is_at (key_cmp items key) q)) [
    | inl at ↦
        let same : items key ≡ items q = same_keys (items key) (items q) at in
        let found : get (key_cmp items) new q ≡ Some v = updates.0 q ∙ ap (λ b. cond b (Some v) (get (key_cmp items) told q)) at in
        subst (λ o. TellsOf (plays ++ s ∷ []) (items q) o) (sym found) (subst (λ l. IsTallyOf (plays ++ s ∷ []) l v) (sym is ∙ same) tally)
    | inr at ↦
        let found : get (key_cmp items) new q ≡ get (key_cmp items) told q = updates.0 q ∙ ap (λ b. cond b (Some v) (get (key_cmp items) told q)) at in
        subst (λ o. TellsOf (plays ++ s ∷ []) (items q) o) (sym found)
        (told_still plays s (items q) (get (key_cmp items) told q) (λ h. false≢true (sym at ∙ tied_keys (items key) (items q) (is ∙ h.same))) (tells q))
  ]

  pub known_next : (plays : List Seen) (key : K) (s : Seen) → items key ≡ s.outcome
      → ((k : ℕ) (x : Seen) → IsAt plays k x → x.is_finished ≡ true → (q : K) × (items q ≡ x.outcome))
      → (k : ℕ) (x : Seen) → IsAt (plays ++ s ∷ []) k x → x.is_finished ≡ true → (q : K) × (items q ≡ x.outcome)
  known_next plays key s is known k x h done = elim (at_cases plays s k x h) [
    | inl old ↦ known k x old done
    | inr new ↦ (key, is ∙ ap (λ (y : Seen). y.outcome) new)
  ]

  -- a finished play was counted
  pub counted_next : (plays : List Seen) (told new : BTreeMap K Tally) (unfinished : ℕ) (key : K) (s : Seen) (v : Tally)
      → s.is_finished ≡ true → items key ≡ s.outcome → Updates (key_cmp items) told new key (Some v)
      → (TellsOf plays s.outcome (get (key_cmp items) told key) → IsTallyOf (plays ++ s ∷ []) s.outcome v) → IsCounted items plays told unfinished → IsCounted items (plays ++ s ∷ []) new unfinished
  counted_next plays told new unfinished key s v done is updates tally counted = record {
    tells = tells_next plays told new key s v done is updates (tally (subst (λ l. TellsOf plays l (get (key_cmp items) told key)) is (counted.tells key))) counted.tells;
    known = known_next plays key s is counted.known;
    others = (let o = counted.others in (o.0, those_same s (λ e. false≢true (sym e ∙ done)) o.1, o.2));
  }

  -- one that is not finished was
  pub counted_other : (plays : List Seen) (told : BTreeMap K Tally) (unfinished : ℕ) (s : Seen) → s.is_finished ≡ false
      → IsCounted items plays told unfinished → IsCounted items (plays ++ s ∷ []) told (unfinished + 1)
  counted_other plays told unfinished s undone counted = record {
    tells = λ q. told_still plays s (items q) (get (key_cmp items) told q) (λ h. false≢true (sym undone ∙ h.finished)) (counted.tells q);
    known = λ k x h done. elim (at_cases plays s k x h) [
      | inl old ↦ counted.known k x old done
      | inr new ↦ absurd (false≢true (sym undone ∙ (ap (λ (y : Seen). y.is_finished) new ∙ done)))
    ];
    others = (let o = counted.others in (o.0 ++ s ∷ [], those_more s undone o.1, (let n = o.2 in let l = length-append o.0 (s ∷ []) in omega (arith, n, l))));
  }

  -- no play was
  pub counted_none : (told : BTreeMap K Tally) → ((q : K) → get (key_cmp items) told q ≡ None)
      → IsCounted items [] told 0
  counted_none told empty = record {
    tells = λ q. subst (λ o. TellsOf [] (items q) o) (sym (empty q)) (λ k s h done same. absurd cc);
    known = λ k s h done. absurd cc;
    others = ([], Nothing, refl);
  }

  -- the counts are no more than the plays
  pub has_room : (plays : List Seen) (told : BTreeMap K Tally) (unfinished : ℕ) → length plays < 2 ^ 32 - 1
      → IsCounted items plays told unfinished → HasRoom items told
  has_room plays told unfinished few counted q = go (get (key_cmp items) told q) (counted.tells q)
    where
      go : (o : Option Tally) → TellsOf plays (items q) o → IfSome o (λ t. t.count < 2 ^ 32 - 1)
      go None h = tt
      go (Some t) (those, are, tally) = let l = those_few are in let n = tally.count in omega (arith, l, n)
