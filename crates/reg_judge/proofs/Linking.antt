-- Lists of entries that stay alike as entries are added, and the part of a history at a register as entries are added.
use Rattle.std.proofs.Common.{◌≡◌, ◌≢◌, ◌⊎◌, ◌↔◌, inl, inr, ℕ, zero, suc, ◌<◌, Bool, true, false, cond, ◌||◌, ◌==◌}
use Rattle.std.proofs.Common.{List, [], ◌∷◌, ◌++◌, length, drop, get_or, set, refl, ap, ap₂, sym, ◌∙◌, subst, arith}
use Rattle.std.specs.List.{AllZip, filter, list_any}
use Rattle.std.proofs.lemmas.Bool.{false_from_ne_true}
use Rattle.std.proofs.lemmas.List.{take_at}
use Rattle.std.proofs.lemmas.Option.{same_Some}
use Rattle.reg_base.specs.declared.memory.OpId.{OpId}
use Rattle.reg_base.specs.declared.memory.Op.{Op}
use Rattle.reg_base.specs.declared.memory.Answer.{Answer}
use Rattle.reg_base.specs.Memory.{register_of}
use Rattle.reg_checkers.specs.declared.entries.Entry.{Entry}
use Rattle.reg_checkers.specs.declared.entries.Entry.TheVariants.{Called, Answered}
use Rattle.reg_checkers.specs.History.{IsAt, IsCalled, IsHistory, WasCalled}
use Rattle.reg_checkers.proofs.Histories.{answered_was_called}
use Rattle.reg_checkers.proofs.Noting.{history_front}
use Rattle.reg_checkers.proofs.OwnOrder.{zip_push}
use Rattle.reg_checkers.proofs.Places.{within}
use Rattle.reg_checkers.proofs.Pushing.{at_push}
use Rattle.reg_judge.specs.Alike.{AreAlike, IsLike, name_of}
use Rattle.reg_judge.specs.Parts.{calls_on, is_of, part_at}
use Rattle.reg_judge.proofs.PartFacts.{any_from, is_on, on_register}

-- Lists

pub not_pushed : {X : Type 0} (xs : List X) (x : X) → [] ≡ xs ++ x ∷ [] → ⊥
not_pushed [] x e = cc
not_pushed (y ∷ xs) x e = cc

pub same_pushed : {X : Type 0} (xs ys : List X) (x y : X) → xs ++ x ∷ [] ≡ ys ++ y ∷ [] → (xs ≡ ys) × (x ≡ y)
same_pushed [] [] x y e = (refl, ap (λ l. get_or l 0 x) e)
same_pushed [] (b ∷ ys) x y e = absurd (not_pushed ys y (ap (drop 1) e))
same_pushed (a ∷ xs) [] x y e = absurd (not_pushed xs x (sym (ap (drop 1) e)))
same_pushed (a ∷ xs) (b ∷ ys) x y e =
    let rest = same_pushed xs ys x y (ap (drop 1) e) in (ap₂ (λ h t. h ∷ t) (ap (λ l. get_or l 0 a) e) rest.0, rest.1)

-- what stands after one was set: that one, what stood, or nothing
abbrev pub AfterSet : {X : Type 0} → List X → ℕ → ℕ → X → X → X → Type 0
AfterSet xs p q v d x = ((q ≡ p) × (p < length xs) × (v ≡ x)) ⊎ (((q ≢ p) × (get_or xs q d ≡ x)) ⊎ (d ≡ x))

pub after_set : {X : Type 0} (xs : List X) (p q : ℕ) (v d x : X) → get_or (set xs p v) q d ≡ x → AfterSet xs p q v d x
after_set [] p q v d x e = inr (inr e)
after_set (y ∷ xs) zero zero v d x e = inl (refl, omega arith, e)
after_set (y ∷ xs) zero (suc q) v d x e = inr (inl ((λ s. absurd (omega (arith, s))), e))
after_set (y ∷ xs) (suc p) zero v d x e = inr (inl ((λ s. absurd (omega (arith, s))), e))
after_set (y ∷ xs) (suc p) (suc q) v d x e = go (after_set xs p q v d x e)
  where
    go : AfterSet xs p q v d x → AfterSet (y ∷ xs) (suc p) (suc q) v d x
    go (inl (same, lt, is)) = inl (ap suc same, omega (arith, lt), is)
    go (inr (inl (apart, is))) = inr (inl ((λ s. apart (omega (arith, s))), is))
    go (inr (inr is)) = inr (inr is)

-- Entries that stay alike

pub zip_length : {X Y : Type 0} (R : X → Y → Type 0) (xs : List X) (ys : List Y) → AllZip R xs ys
    → length xs ≡ length ys
zip_length R [] [] all = refl
zip_length R [] (y ∷ ys) all = absurd all
zip_length R (x ∷ xs) [] all = absurd all
zip_length R (x ∷ xs) (y ∷ ys) all = ap suc (zip_length R xs ys all.1)

abbrev Pair : List Entry → List Entry → Entry → Entry → ℕ → Entry → Entry → Type 0
Pair one other a b i x y = (IsAt one i x × IsAt other i y) ⊎ ((x ≡ a) × (y ≡ b))

pair_at : (one other : List Entry) (a b : Entry) (i : ℕ) (x y : Entry) → length one ≡ length other
    → IsAt (one ++ a ∷ []) i x → IsAt (other ++ b ∷ []) i y → Pair one other a b i x y
pair_at one other a b i x y many at_x at_y = go (at_push one i a x at_x) (at_push other i b y at_y)
  where
    go : IsAt one i x ⊎ ((i ≡ length one) × (x ≡ a)) → IsAt other i y ⊎ ((i ≡ length other) × (y ≡ b)) → Pair one other a b i x y
    go (inl p) (inl q) = inl (p, q)
    go (inl p) (inr (e, q)) = let lt = within one i x p in absurd (omega (arith, lt, e, many))
    go (inr (e, p)) (inl q) = let lt = within other i y q in absurd (omega (arith, lt, e, many))
    go (inr (e, p)) (inr (f, q)) = inr (p, q)

-- one entry more of each
pub alike_more : (r q : ℕ) (one other : List Entry) (a b : Entry) → AreAlike r q one other → IsLike r q a b
    → ((i : ℕ) (c d : Entry) → IsAt one i c → IsAt other i d → (name_of c ≡ name_of a) ↔ (name_of d ≡ name_of b))
    → AreAlike r q (one ++ a ∷ []) (other ++ b ∷ [])
alike_more r q one other a b are like new = record {
  entries = zip_push (IsLike r q) one other a b are.entries like;
  names = λ i j x y z w at_x at_y at_z at_w. go i j x y z w (pair_at one other a b i x y many at_x at_y) (pair_at one other a b j z w many at_z at_w);
}
  where
    many : length one ≡ length other
    many = zip_length (IsLike r q) one other are.entries

    go : (i j : ℕ) (x y z w : Entry) → Pair one other a b i x y → Pair one other a b j z w → (name_of x ≡ name_of z) ↔ (name_of y ≡ name_of w)
    go i j x y z w (inl (at_x, at_y)) (inl (at_z, at_w)) = are.names i j x y z w at_x at_y at_z at_w
    go i j x y z w (inl (at_x, at_y)) (inr (is_a, is_b)) =
        let n = new i x y at_x at_y in
        ((λ e. n.0 (e ∙ ap name_of is_a) ∙ sym (ap name_of is_b)), (λ e. n.1 (e ∙ ap name_of is_b) ∙ sym (ap name_of is_a)))
    go i j x y z w (inr (is_a, is_b)) (inl (at_z, at_w)) =
        let n = new j z w at_z at_w in
        ((λ e. ap name_of is_b ∙ sym (n.0 (sym e ∙ ap name_of is_a))), (λ e. ap name_of is_a ∙ sym (n.1 (sym e ∙ ap name_of is_b))))
    go i j x y z w (inr (x_a, y_b)) (inr (z_a, w_b)) = ((λ e. ap name_of y_b ∙ sym (ap name_of w_b)), (λ e. ap name_of x_a ∙ sym (ap name_of z_a)))

-- Histories

pub front_history : (places registers : ℕ) (es : List Entry) (e : Entry) → IsHistory places registers (es ++ e ∷ [])
    → IsHistory places registers es
front_history places registers es e good = subst (λ (l : List Entry). IsHistory places registers l) (take_at es (e ∷ []) (length es) refl) (history_front places registers (es ++ e ∷ []) (length es) good)

-- each name is that of a call
pub name_called : (places registers : ℕ) (es : List Entry) → IsHistory places registers es → (k : ℕ) (e : Entry)
    → IsAt es k e → WasCalled es (name_of e)
name_called places registers es good k (Called at id op) here = (at, op, (k, here))
name_called places registers es good k (Answered at id answer) here =
    answered_was_called places registers es good id at answer (k, here)

-- The part at a register

filter_same : {X : Type 0} (f g : X → Bool) (xs : List X) → ((k : ℕ) (x : X) → IsAt xs k x → f x ≡ g x)
    → filter f xs ≡ filter g xs
filter_same f g [] same = refl
filter_same f g (x ∷ xs) same =
    ap₂ (λ (b : Bool) (l : List _). cond b (x ∷ l) l) (same 0 x refl) (filter_same f g xs (λ k y at. same (suc k) y at))

filter_push : {X : Type 0} (f : X → Bool) (xs : List X) (x : X)
    → filter f (xs ++ x ∷ []) ≡ filter f xs ++ cond (f x) (x ∷ []) []
filter_push f [] x = refl
filter_push {X} f (y ∷ xs) x = go (f y) (filter_push f xs x)
  where
    go : (b : Bool) → filter f (xs ++ x ∷ []) ≡ filter f xs ++ cond (f x) (x ∷ []) [] → cond b (y ∷ filter f (xs ++ x ∷ [])) (filter f (xs ++ x ∷ [])) ≡ cond b (y ∷ filter f xs) (filter f xs) ++ cond (f x) (x ∷ []) []
    go true rest = ap (λ (l : List X). y ∷ l) rest
    go false rest = rest

any_push : {X : Type 0} (f : X → Bool) (xs : List X) (x : X) → f x ≡ false → list_any f (xs ++ x ∷ []) ≡ list_any f xs
any_push f [] x is = ap (λ (b : Bool). b || false) is
any_push f (y ∷ xs) x is = ap (λ (b : Bool). f y || b) (any_push f xs x is)

-- the call of another name is no call of this one
calls_other : (r : ℕ) (name id : OpId) (at : ℕ) (op : Op) → id ≢ name → calls_on r name (Called at id op) ≡ false
calls_other r name id at op apart = false_from_ne_true (calls_on r name (Called at id op)) (λ is. no (on_register r (Called at id op ∷ []) name (any_from (calls_on r name) (Called at id op ∷ []) 0 (Called at id op) refl is)))
  where
    no : (s : ℕ) × (o : Op) × IsCalled (Called at id op ∷ []) name s o × (register_of o ≡ r) → ⊥
    no (s, o, (zero, here), on) = apart (ap name_of (same_Some (Called at id op) (Called s name o) here))
    no (s, o, (suc k, here), on) = cc

pub part_call : (places registers r : ℕ) (es : List Entry) (at : ℕ) (id : OpId) (op : Op)
    → IsHistory places registers es → ¬ WasCalled es id
    → part_at r (es ++ Called at id op ∷ []) ≡ part_at r es ++ cond (register_of op == r) (Called at id op ∷ []) []
part_call places registers r es at id op good anew =
    let more = es ++ Called at id op ∷ [] in
    filter_push (is_of r more) es (Called at id op) ∙ ap (λ (l : List Entry). l ++ cond (register_of op == r) (Called at id op ∷ []) []) (filter_same (is_of r more) (is_of r es) es same)
  where
    same : (k : ℕ) (e : Entry) → IsAt es k e → is_of r (es ++ Called at id op ∷ []) e ≡ is_of r es e
    same k (Called s name o) here = refl
    same k (Answered s name answer) here = any_push (calls_on r name) es (Called at id op) (calls_other r name id at op (λ e. anew (subst (λ (x : OpId). WasCalled es x) (sym e) (name_called places registers es good k (Answered s name answer) here))))

pub part_answer : (r : ℕ) (es : List Entry) (at : ℕ) (id : OpId) (answer : Answer)
    → part_at r (es ++ Answered at id answer ∷ [])
    ≡ part_at r es ++ cond (is_on r es id) (Answered at id answer ∷ []) []
part_answer r es at id answer =
    let more = es ++ Answered at id answer ∷ [] in
    filter_push (is_of r more) es (Answered at id answer)
    ∙ ap₂ (λ (l : List Entry) (b : Bool). l ++ cond b (Answered at id answer ∷ []) []) (filter_same (is_of r more) (is_of r es) es same) (any_push (calls_on r id) es (Answered at id answer) refl)
  where
    same : (k : ℕ) (e : Entry) → IsAt es k e → is_of r (es ++ Answered at id answer ∷ []) e ≡ is_of r es e
    same k (Called s name o) here = refl
    same k (Answered s name given) here = any_push (calls_on r name) es (Answered at id answer) refl
