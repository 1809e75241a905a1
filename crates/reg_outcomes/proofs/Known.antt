-- What is known to come before each operation of a history, as it grows.
use Rattle.std.proofs.Common.{◌≡◌, ◌≢◌, inl, inr, ◌⊎◌, ℕ, zero, suc, ◌+◌, ◌*◌, ◌<◌, ◌≤◌, Bool, true, false, cond, List}
use Rattle.std.proofs.Common.{[], ◌∷◌, ◌++◌, length, get_or, Option, Some, None, IfSome, IsSome, MatchOption}
use Rattle.std.proofs.Common.{option_and_then, replicate, set, slice_get, Vec, refl, ap, ap₂, sym, ◌∙◌, subst, arith}
use Rattle.std.proofs.Common.{rules}
use Rattle.std.specs.Prelude.{◌==◌, ◌&&◌, slice_index}
use Rattle.std.specs.BTreeMap.{Updates, get, is_at}
use Rattle.std.specs.declared.cmp.Ordering.{Ordering}
use Rattle.std.specs.declared.cmp.Ordering.TheVariants.{Less, Equal, Greater}
use Rattle.std.specs.Ordering.{is_eq, nat_cmp}
use Rattle.std.proofs.lemmas.Bool.{cases_Bool, cases_eq, eq-eqb}
use Rattle.std.proofs.lemmas.Map.Lookups.{exact_unsigned, exact_pairs}
use Rattle.std.proofs.lemmas.Nat.{same_from_place}
use Rattle.std.proofs.lemmas.Option.{get_or_from_slice_get, none-some, same_Some, slice_get-get_or, slice_get_within}
use Rattle.reg_base.specs.declared.memory.OpId.{OpId}
use Rattle.reg_base.specs.declared.memory.Answer.{Answer}
use Rattle.reg_base.specs.Memory.{Memory, after, answer_of, register_of}
use Rattle.reg_checkers.specs.declared.entries.Entry.{Entry}
use Rattle.reg_checkers.specs.declared.entries.Entry.TheVariants.{Answered, Called}
use Rattle.reg_checkers.specs.declared.facts.Fact.{Fact}
use Rattle.reg_checkers.specs.declared.facts.Given.{Given}
use Rattle.reg_checkers.specs.Facts.{IsFactOf}
use Rattle.reg_checkers.specs.History.{IsAnswered, IsAt, IsFinished}
use Rattle.reg_checkers.specs.Progress.{op_of}
use Rattle.reg_checkers.proofs.Places.{get_set_other, get_set_same, same_at, within}
use Rattle.reg_outcomes.specs.declared.orders.before.Before.{Before}
use Rattle.reg_outcomes.specs.declared.orders.sources.Maker.{Maker}
use Rattle.reg_outcomes.specs.declared.orders.sources.Reader.{Reader}
use Rattle.reg_outcomes.specs.Forced.{AreCalledTo, AreForced, AreMakers, AreNone, Comes, Counts, Covers, HasMaker}
use Rattle.reg_outcomes.specs.Forced.{IsCount, IsMaker, IsMakerCalled, IsOnlyMaker, IsReader, Makers, Overwrites}
use Rattle.reg_outcomes.specs.Forced.{count_at, word_at}
use Rattle.reg_outcomes.specs.Losing.{IsAsker, value_cmp}
use Rattle.reg_outcomes.specs.Sought.{Sought}
use Rattle.reg_outcomes.proofs.Elements.{none_at_first}
use Rattle.reg_outcomes.proofs.Forced.{comes_through, own_comes}

-- each of a list of noughts
pub noughts : (count : ℕ) (xs : List ℕ) → xs ≡ replicate count 0 → (n k : ℕ) → slice_get xs n ≡ Some k → k ≡ 0
noughts count xs is n k here =
    sym (get_or_from_slice_get xs n k 0 here) ∙ ap (λ (l : List ℕ). slice_index l n) is ∙ none_at_first count n

-- a list of which nothing is read but nought, with one more
none_more : {X : Type 0} (f : X → Option ℕ) (xs : List X) (x : X) (p : ℕ) → ((k : ℕ) → f x ≡ Some k → k ≡ 0)
    → ((k : ℕ) → option_and_then f (slice_get xs p) ≡ Some k → k ≡ 0)
    → (k : ℕ) → option_and_then f (slice_get (xs ++ x ∷ []) p) ≡ Some k → k ≡ 0
none_more f [] x zero here all k is = here k is
none_more f [] x (suc p) here all k is = absurd (none-some k is)
none_more f (y ∷ ys) x zero here all k is = all k is
none_more f (y ∷ ys) x (suc p) here all k is = none_more f ys x p here all k is

pub none_pushed : {X : Type 0} (f : X → Option ℕ) (xs ys : List X) (x : X) (p : ℕ) → ys ≡ xs ++ x ∷ []
    → ((k : ℕ) → f x ≡ Some k → k ≡ 0) → ((k : ℕ) → option_and_then f (slice_get xs p) ≡ Some k → k ≡ 0)
    → (k : ℕ) → option_and_then f (slice_get ys p) ≡ Some k → k ≡ 0
none_pushed {X = X} f xs ys x p is here all k read =
    none_more f xs x p here all k (subst (λ (l : List X). option_and_then f (slice_get l p) ≡ Some k) is read)

pub none_forced : {A : Type 0} (s : Sought) (before : Before A) → AreNone before.counts.items → AreForced s before
none_forced s before none id p m k is lt =
    let e : k ≡ 0 = none id.process (id.number * before.processes + p) k is.1 in absurd (omega (arith, e, lt))

pub is_count : {A : Type 0} (before : Before A) (id : OpId) (p place : ℕ) (o : Option ℕ) → p < before.processes
    → place ≡ id.number * before.processes + p → o ≡ count_at place id.process before.counts.items
    → IfSome o (IsCount before id p)
is_count before id p place (Some k) lt at is =
    (lt, ap (λ n. count_at n id.process before.counts.items) (sym at) ∙ sym is)
is_count before id p place None lt at is = tt

-- where something is read, there is something
some_within : {X : Type 0} (f : X → Option ℕ) (xs : List X) (k : ℕ) → IsSome (option_and_then f (slice_get xs k))
    → k < length xs
some_within f [] k h = search rules
some_within f (x ∷ xs) zero h = omega arith
some_within f (x ∷ xs) (suc k) h = omega (arith, some_within f xs k h)

-- the row of a count that is there, and its place in it
pub row_of_count : {A : Type 0} (rows : Counts A) (q at : ℕ) (row : Vec ℕ A) → row ≡ get_or rows q row
    → IsSome (count_at at q rows) → (slice_get rows q ≡ Some row) × (at < length row.items)
row_of_count {A = A} rows q at row is some =
    let there : slice_get rows q ≡ Some row = slice_get-get_or rows q row (some_within (word_at at) rows q some) ∙ ap Some (sym is) in
    (there, some_within Some row.items at (and_some (slice_get row.items at) (subst (λ (o : Option (Vec ℕ A)). IsSome (option_and_then (word_at at) o)) there some)))
  where
    and_some : (o : Option ℕ) → IsSome o → IsSome (option_and_then Some o)
    and_some (Some k) h = h
    and_some None h = h

-- one count replaced
pub count_replaced : {A : Type 0} (rows : Counts A) (q : ℕ) (row new : Vec ℕ A) (at count : ℕ)
    → slice_get rows q ≡ Some row → new.items ≡ set row.items at count → at < length row.items → (place p k : ℕ)
    → count_at place p (set rows q new) ≡ Some k → (count_at place p rows ≡ Some k) ⊎ ((place ≡ at) × (p ≡ q) × (k ≡ count))
count_replaced rows q row new at count there is inside place p k read = elim (cases_eq p q) [
  | inr other ↦ inl (ap (option_and_then (word_at place)) (sym (get_set_other rows q p new other)) ∙ read)
  | inl same ↦
      let now : slice_get (set rows q new) p ≡ Some new = ap (slice_get (set rows q new)) same ∙ get_set_same rows q new (slice_get_within rows q row there) in
      let here : slice_get (set row.items at count) place ≡ Some k = ap (λ (l : List ℕ). slice_get l place) (sym is) ∙ (ap (option_and_then (word_at place)) (sym now) ∙ read) in
      elim (cases_eq place at) [
        | inr apart ↦ inl (ap (option_and_then (word_at place)) (ap (slice_get rows) same ∙ there) ∙ (sym (get_set_other row.items at place count apart) ∙ here))
        | inl in_place ↦ inr (in_place, same, same_Some k count (sym here ∙ (ap (slice_get (set row.items at count)) in_place ∙ get_set_same row.items at count inside)))
      ]
]

-- a count is one of those before, or the one that was replaced
pub count_is_one_of : {A : Type 0} (old new : Before A) (id : OpId) (process count q at : ℕ)
    → new.processes ≡ old.processes → process < old.processes → q ≡ id.process
    → at ≡ id.number * old.processes + process
    → ((place p k : ℕ) → count_at place p new.counts.items ≡ Some k → (count_at place p old.counts.items ≡ Some k) ⊎ ((place ≡ at) × (p ≡ q) × (k ≡ count))) → (x : OpId) (p k : ℕ) → IsCount new x p k
    → IsCount old x p k ⊎ ((x ≡ id) × (p ≡ process) × (k ≡ count))
count_is_one_of old new id process count q at same less own in_place replaced x p k (lt, is) =
    let lt_old : p < old.processes = subst (λ (n : ℕ). p < n) same lt in
    let is_old : count_at (x.number * old.processes + p) x.process new.counts.items ≡ Some k = subst (λ (n : ℕ). count_at (x.number * n + p) x.process new.counts.items ≡ Some k) same is in
    elim (replaced (x.number * old.processes + p) x.process k is_old) [
      | inl was ↦ inl (lt_old, was)
      | inr (place, of, now) ↦
          let both = same_from_place x.number p id.number process old.processes lt_old less (place ∙ in_place) in
          inr (ap₂ op_of (of ∙ own) both.0, both.1, now)
    ]

pub same_counts : {A : Type 0} (old new : Before A) → new.processes ≡ old.processes → new.counts ≡ old.counts
    → (x : OpId) (p k : ℕ) → IsCount new x p k → IsCount old x p k
same_counts {A = A} old new processes counts x p k (lt, is) = (
  subst (λ (n : ℕ). p < n) processes lt,
  subst (λ (n : ℕ). count_at (x.number * n + p) x.process old.counts.items ≡ Some k) processes (subst (λ (rows : Vec (Vec ℕ A) A). count_at (x.number * new.processes + p) x.process rows.items ≡ Some k) counts is),
)

-- a count that was raised tells what comes before, too
pub raised_forced : {A : Type 0} (s : Sought) (old new : Before A) (id : OpId) (process count : ℕ)
    → ((x : OpId) (p k : ℕ) → IsCount new x p k → IsCount old x p k ⊎ ((x ≡ id) × (p ≡ process) × (k ≡ count)))
    → AreForced s old → ((m : ℕ) → m < count → Comes s (op_of process m) id) → AreForced s new
raised_forced s old new id process count one_of forced comes x p m k is lt = elim (one_of x p k is) [
  | inl was ↦ forced x p m k was lt
  | inr (same, own, now) ↦ subst (λ (q : ℕ). Comes s (op_of q m) x) (sym own) (subst (λ (y : OpId). Comes s (op_of process m) y) (sym same) (comes m (omega (arith, lt, now))))
]

-- an operation, and those of its process before it, come before what it comes before
pub comes_with_own : (s : Sought) (a b : OpId) (n : ℕ) → IsFinished s.entries a → Comes s a b → n ≤ a.number + 1
    → (m : ℕ) → m < n → Comes s (op_of a.process m) b
comes_with_own s a b n fin comes le m lt = elim (cases_eq m a.number) [
  | inl same ↦ subst (λ (k : ℕ). Comes s (op_of a.process k) b) (sym same) comes
  | inr other ↦ comes_through s (op_of a.process m) a b fin (own_comes s a.process m a.number (omega (arith, le, lt, other))) comes
]

-- keys that compare as equal are equal
is_value : (a b : ℕ × ℕ) → is_at (value_cmp a) b ≡ true → a ≡ b
is_value a b h = exact_pairs nat_cmp nat_cmp exact_unsigned exact_unsigned a b (tied (value_cmp a b) h)
  where
    tied : (o : Ordering) → is_eq o ≡ true → o ≡ Equal
    tied Less h = absurd cc
    tied Equal h = refl
    tied Greater h = absurd cc

module _ (old new : Makers) (key : ℕ × ℕ) (maker : Maker) (updates : Updates value_cmp old new key (Some maker)) where
  pub maker_noted : (id : OpId) → Covers maker id → HasMaker new key id
  maker_noted id covers = (maker, updates.1, covers)

  pub maker_kept : (o : Option Maker) → o ≡ get value_cmp old key
      → IfSome o (λ m. (x : OpId) → Covers m x → Covers maker x) → (q : ℕ × ℕ) (x : OpId) → HasMaker old q x
      → HasMaker new q x
  maker_kept o is covers q x (m, had, there) = elim (cases_Bool (is_at (value_cmp key) q)) [
    | inl at ↦ (
      maker,
      updates.0 q ∙ ap (λ b. cond b (Some maker) (get value_cmp old q)) at,
      (let keeps : (y : OpId) → Covers m y → Covers maker y = subst (λ (z : Option Maker). IfSome z (λ l. (y : OpId) → Covers l y → Covers maker y)) (is ∙ ap (get value_cmp old) (is_value key q at) ∙ had) covers in keeps x there),
    )
    | inr not ↦ (m, updates.0 q ∙ ap (λ b. cond b (Some maker) (get value_cmp old q)) not ∙ had, there)
  ]

-- one entry more
pub called_more : (h l : List Entry) → l ≡ h → (k : ℕ) (e : Entry) (old new : Makers) → IsAt l k e → IsMakerCalled new e
    → ((q : ℕ × ℕ) (x : OpId) → HasMaker old q x → HasMaker new q x) → AreCalledTo k h old → AreCalledTo (k + 1) h new
called_more h l same k e old new here noted kept before j x lt there = elim (cases_eq j k) [
  | inl is ↦ subst (IsMakerCalled new) (same_at h k e x (subst (λ (es : List Entry). IsAt es k e) same here) (subst (λ (i : ℕ). IsAt h i x) is there)) noted
  | inr not ↦ still x (before j x (omega (arith, lt, not)) there)
]
  where
    still : (y : Entry) → IsMakerCalled old y → IsMakerCalled new y
    still (Called at id op) was = λ v is. kept (register_of op, v) id (was v is)
    still (Answered at id answer) was = tt

pub all_called : (h : List Entry) (n : ℕ) (makers : Makers) → length h ≤ n → AreCalledTo n h makers → AreMakers h makers
all_called h n makers le all value id (at, op, called, own, made) =
    let inside = within h called.0 (Called at id op) called.1 in
    subst (λ (r : ℕ). HasMaker makers (r, value.1) id) own (all called.0 (Called at id op) (omega (arith, inside, le)) called.1 value.1 made)

pub reader_is : (h : List Entry) (makers : Makers) (r : Reader) → AreMakers h makers
    → IsAsker h (r.id.process, r.value) r.id.number → r.source ≡ get value_cmp makers r.value → IsReader h r
reader_is h makers r all asker is =
    record { asker = asker; source = λ id maker. let there = all r.value id maker in (there.0, is ∙ there.1, there.2) }

pub covered : (h : List Entry) (r : Reader) (m : Maker) → r.source ≡ Some m → IsReader h r → (id : OpId)
    → IsMaker h r.value id → Covers m id
covered h r m is reader id maker =
    let there = reader.source id maker in
    let same : there.0 ≡ m = same_Some there.0 m (sym there.1 ∙ is) in
    subst (λ (n : Maker). Covers n id) same there.2

pub only_source : (h : List Entry) (r : Reader) (m : Maker) (o : Option OpId) → r.source ≡ Some m → IsReader h r
    → IfSome o (λ w. (x : OpId) → Covers m x → x ≡ w) → IfSome o (IsOnlyMaker h r.value)
only_source h r m (Some w) is reader only = λ id maker. only id (covered h r m is reader id maker)
only_source h r m None is reader only = tt

pub no_maker : (h : List Entry) (r : Reader) → r.source ≡ None → IsReader h r → (id : OpId) → IsMaker h r.value id → ⊥
no_maker h r is reader id maker = let there = reader.source id maker in none-some there.0 (sym is ∙ there.1)

pub overwrites_is : (h : List Entry) (id : OpId) (value : ℕ × ℕ) (f : Fact) (left : ℕ) → IsFactOf h id f
    → register_of f.op ≡ value.0
    → ((m : Memory) → register_of f.op < length m → IfSome f.answered (λ given. given.answer ≡ answer_of f.op m) → slice_index (after f.op m) (register_of f.op) ≡ left) → left ≢ value.1 → Overwrites h id value
overwrites_is h id value f left is own leaves apart = record {
  at = f.called;
  op = f.op;
  called = is.called;
  register = own;
  leaves = λ m inside right same. apart (sym (leaves m inside (answers m right f.answered is.answered)) ∙ same);
}
  where
    answers : (m : Memory) → ((t : ℕ) (answer : Answer) → IsAnswered h id t answer → answer ≡ answer_of f.op m) → (o : Option Given) → MatchOption o (¬ IsFinished h id) (λ r. IsAnswered h id r.at r.answer)
        → IfSome o (λ given. given.answer ≡ answer_of f.op m)
    answers m right (Some given) there = right given.at given.answer there
    answers m right None there = tt

pub other_id : (a b : OpId) → false ≡ ((a.process == b.process) && (a.number == b.number)) → a ≢ b
other_id a b differ e =
    let bad : false ≡ true = differ ∙ ap₂ (λ (x y : Bool). x && y) (eq-eqb a.process b.process (ap (λ (i : OpId). i.process) e)) (eq-eqb a.number b.number (ap (λ (i : OpId). i.number) e)) in
    cc
