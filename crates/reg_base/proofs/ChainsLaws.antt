-- A chain leads to every name that has its hash.
use Rattle.std.proofs.Common.{◌≡◌, ◌≢◌, ℕ, zero, suc, ◌+◌, ◌<◌, ◌≤◌, ◌⊎◌, ◌||◌, inl, inr, Bool, true, false, List, []}
use Rattle.std.proofs.Common.{◌∷◌, ◌++◌, length, take, drop, replicate, get_or, set, eqb, Option, Some, None, slice_get}
use Rattle.std.proofs.Common.{String, string_bytes, refl, ap, sym, ◌∙◌, subst, arith, length-append}
use Rattle.std.specs.List.{fold, list_any}
use Rattle.std.specs.Prelude.{IfSome, IfNone, is_some}
use Rattle.std.specs.Str.{bytes_eq}
use Rattle.std.proofs.Math.Seq.{get_or-append_seam}
use Rattle.std.proofs.lemmas.Bool.{cases_order}
use Rattle.std.proofs.lemmas.Bool.Decides.{eqb_tells}
use Rattle.std.proofs.lemmas.List.{get_or_append_left, get_or-set_same, get_or-set_other, get_or-map, take-map}
use Rattle.std.proofs.lemmas.List.{take_more, length-take-le, length-set, length-replicate, get_or-replicate}
use Rattle.std.proofs.lemmas.List.{length-map, take_all, drop_all}
use Rattle.std.proofs.lemmas.Option.{slice_get_within, get_or_from_slice_get}
use Rattle.std.proofs.lemmas.Slice.Eq.{bytes_eq-Decides}
use Rattle.reg_base.specs.Names.{texts, repeat_after, first_repeat}
use Rattle.reg_base.proofs.NamesLaws.{repeat_step, repeat_here}
use Rattle.reg_base.specs.Chains.{mix, chain, chain_at, IsLastBelow, AreChains}

-- where a search stands: the name is at no place after this one, and this one is of its chain or the first
pub record Seeks (names : List (List ℕ)) (name : List ℕ) (place turn : ℕ) : Type 0 where
  pub behind : (other : ℕ) → place < other → slice_get names other ≢ Some name
  pub here : (place ≡ 0) ⊎ ((place < length names) × (chain_at names place ≡ chain name))
  pub turns : place + turn ≤ 4095

-- a name at a place has that place's chain
chain_there : (names : List (List ℕ)) (name : List ℕ) (place : ℕ) → slice_get names place ≡ Some name
    → chain_at names place ≡ chain name
chain_there names name place e = ap chain (get_or_from_slice_get names place name [] e)

-- a search begins at the last name of the chain
pub begins : (names : List (List ℕ)) (heads earlier : List ℕ) (name : List ℕ) (c place : ℕ)
    → AreChains names heads earlier → length names ≤ 4096 → c ≡ chain name → c < 4096 → place ≡ get_or heads c 0
    → Seeks names name place 0
begins names heads earlier name c place ok few is within at =
    record { behind = behind; here = here last.1; turns = turns last.1 }
  where
    last : IsLastBelow names c (length names) place
    last = subst (IsLastBelow names c (length names)) (sym at) (ok.last c within)

    behind : (other : ℕ) → place < other → slice_get names other ≢ Some name
    behind other lt e = last.0 other lt (slice_get_within names other name e) (chain_there names name other e ∙ sym is)

    here : (place ≡ 0) ⊎ ((place < length names) × (chain_at names place ≡ c)) → (place ≡ 0) ⊎ ((place < length names) × (chain_at names place ≡ chain name))
    here (inl z) = inl z
    here (inr w) = inr (w.0, w.1 ∙ is)

    turns : (place ≡ 0) ⊎ ((place < length names) × (chain_at names place ≡ c)) → place + 0 ≤ 4095
    turns (inl z) = omega arith
    turns (inr w) = omega (arith, w.0)

-- the next turn looks at the name before
pub goes_on : (names : List (List ℕ)) (heads earlier : List ℕ) (name : List ℕ) (place turn before : ℕ)
    → AreChains names heads earlier → Seeks names name place turn → slice_get names place ≢ Some name → place ≢ 0
    → before ≡ get_or earlier place 0 → Seeks names name before (turn + 1)
goes_on names heads earlier name place turn before ok seeks other_name inside at = from seeks.here
  where
    from : (place ≡ 0) ⊎ ((place < length names) × (chain_at names place ≡ chain name)) → Seeks names name before (turn + 1)
    from (inl z) = absurd (inside z)
    from (inr w) = record { behind = behind; here = here last.1; turns = turns last.1 }
      where
        last : IsLastBelow names (chain_at names place) place before
        last = subst (IsLastBelow names (chain_at names place) place) (sym at) (ok.before place w.0)

        behind : (other : ℕ) → before < other → slice_get names other ≢ Some name
        behind other lt e = by (cases_order other place)
          where
            by : (other ≡ place) ⊎ ((other < place) ⊎ (place < other)) → ⊥
            by (inl same) = other_name (subst (λ (k : ℕ). slice_get names k ≡ Some name) same e)
            by (inr (inl below)) = last.0 other lt below (chain_there names name other e ∙ sym w.1)
            by (inr (inr above)) = seeks.behind other above e

        here : (before ≡ 0) ⊎ ((before < place) × (chain_at names before ≡ chain_at names place)) → (before ≡ 0) ⊎ ((before < length names) × (chain_at names before ≡ chain name))
        here (inl z) = inl z
        here (inr v) = inr (omega (arith, v.0, w.0), v.1 ∙ w.1)

        turns : (before ≡ 0) ⊎ ((before < place) × (chain_at names before ≡ chain_at names place)) → before + (turn + 1) ≤ 4095
        turns (inl z) = omega (arith, z, positive, seeks.turns)
          where
            positive : 0 < place
            positive = at_least (cases_order place 0)
              where
                at_least : (place ≡ 0) ⊎ ((place < 0) ⊎ (0 < place)) → 0 < place
                at_least (inl y) = absurd (inside y)
                at_least (inr (inl y)) = omega (arith, y)
                at_least (inr (inr y)) = y
        turns (inr v) = omega (arith, v.0, seeks.turns)

-- one more name changes nothing below
kept : (names : List (List ℕ)) (name : List ℕ) (c end place : ℕ) → end ≤ length names → IsLastBelow names c end place
    → IsLastBelow (names ++ name ∷ []) c end place
kept names name c end place le last = (behind, here last.1)
  where
    same : (k : ℕ) → k < end → chain_at (names ++ name ∷ []) k ≡ chain_at names k
    same k lt = ap chain (get_or_append_left names (name ∷ []) [] k (omega (arith, lt, le)))

    behind : (other : ℕ) → place < other → other < end → chain_at (names ++ name ∷ []) other ≢ c
    behind other lt below e = last.0 other lt below (sym (same other below) ∙ e)

    here : (place ≡ 0) ⊎ ((place < end) × (chain_at names place ≡ c)) → (place ≡ 0) ⊎ ((place < end) × (chain_at (names ++ name ∷ []) place ≡ c))
    here (inl z) = inl z
    here (inr w) = inr (w.0, same place w.0 ∙ w.1)

-- a name of another chain after
passed : (names : List (List ℕ)) (c end place : ℕ) → chain_at names end ≢ c → IsLastBelow names c end place
    → IsLastBelow names c (end + 1) place
passed names c end place differs last = (behind, here last.1)
  where
    behind : (other : ℕ) → place < other → other < end + 1 → chain_at names other ≢ c
    behind other lt below e = by (cases_order other end)
      where
        by : (other ≡ end) ⊎ ((other < end) ⊎ (end < other)) → ⊥
        by (inl is) = differs (subst (λ (k : ℕ). chain_at names k ≡ c) is e)
        by (inr (inl l)) = last.0 other lt l e
        by (inr (inr g)) = absurd (omega (arith, g, below))

    here : (place ≡ 0) ⊎ ((place < end) × (chain_at names place ≡ c)) → (place ≡ 0) ⊎ ((place < end + 1) × (chain_at names place ≡ c))
    here (inl z) = inl z
    here (inr w) = inr (omega (arith, w.0), w.1)

-- one more name, at the head of its chain
pub one_more : (names : List (List ℕ)) (heads earlier : List ℕ) (name : List ℕ) → chain name < 4096
    → AreChains names heads earlier → length names < length earlier → length heads ≡ 4096
    → AreChains (names ++ name ∷ []) (set heads (chain name) (length names))
    (set earlier (length names) (get_or heads (chain name) 0))
one_more names heads earlier name within ok room wide = record { last = last; before = before }
  where
    more : List (List ℕ)
    more = names ++ name ∷ []

    n : ℕ
    n = length names

    v : ℕ
    v = get_or heads (chain name) 0

    long : length more ≡ n + 1
    long = length-append names (name ∷ [])

    new : chain_at more n ≡ chain name
    new = ap chain (get_or-append_seam names name [] [])

    last : (c : ℕ) → c < 4096 → IsLastBelow more c (length more) (get_or (set heads (chain name) n) c 0)
    last c lt = by (eqb_tells c (chain name))
      where
        by : ((eqb c (chain name) ≡ true) × (c ≡ chain name)) ⊎ ((eqb c (chain name) ≡ false) × (c ≢ chain name)) → IsLastBelow more c (length more) (get_or (set heads (chain name) n) c 0)
        by (inl is) =
            let at : get_or (set heads (chain name) n) c 0 ≡ n = ap (λ (k : ℕ). get_or (set heads (chain name) n) k 0) is.1 ∙ get_or-set_same heads (chain name) n 0 (omega (arith, within, wide)) in
            subst (IsLastBelow more c (length more)) (sym at) (
              (λ other gt below e. omega (arith, gt, below, long)),
              inr (omega (arith, long), new ∙ sym is.1),
            )
        by (inr not) =
            let at : get_or (set heads (chain name) n) c 0 ≡ get_or heads c 0 = get_or-set_other heads (chain name) c n 0 not.1 in
            subst (IsLastBelow more c (length more)) (sym at) (subst (λ (k : ℕ). IsLastBelow more c k (get_or heads c 0)) (sym long)
            (passed more c n (get_or heads c 0) (λ e. not.1 (sym e ∙ new)) (kept names name c n (get_or heads c 0) (omega arith) (ok.last c lt))))

    before : (place : ℕ) → place < length more → IsLastBelow more (chain_at more place) place (get_or (set earlier n v) place 0)
    before place lt = by (cases_order place n)
      where
        by : (place ≡ n) ⊎ ((place < n) ⊎ (n < place)) → IsLastBelow more (chain_at more place) place (get_or (set earlier n v) place 0)
        by (inl is) =
            let at : get_or (set earlier n v) n 0 ≡ v = get_or-set_same earlier n v 0 room in
            let base : IsLastBelow more (chain name) n v = kept names name (chain name) n v (omega arith) (ok.last (chain name) within) in
            subst (λ (k : ℕ). IsLastBelow more (chain_at more k) k (get_or (set earlier n v) k 0)) (sym is)
            (subst (λ (c : ℕ). IsLastBelow more c n (get_or (set earlier n v) n 0)) (sym new) (subst (IsLastBelow more (chain name) n) (sym at) base))
        by (inr (inl l)) =
            let same : chain_at more place ≡ chain_at names place = ap chain (get_or_append_left names (name ∷ []) [] place l) in
            let at : get_or (set earlier n v) place 0 ≡ get_or earlier place 0 = get_or-set_other earlier n place v 0 (λ e. omega (arith, e, l)) in
            subst (λ (c : ℕ). IsLastBelow more c place (get_or (set earlier n v) place 0)) (sym same)
            (subst (IsLastBelow more (chain_at names place) place) (sym at) (kept names name (chain_at names place) place (get_or earlier place 0) (omega (arith, l)) (ok.before place l)))
        by (inr (inr g)) = absurd (omega (arith, g, lt, long))

-- a name that stands at a place is one of them
pub stands_in : (names : List (List ℕ)) (name : List ℕ) (place : ℕ) → slice_get names place ≡ Some name
    → list_any (bytes_eq name) names ≡ true
stands_in [] name place e = absurd (cc)
stands_in (x ∷ xs) name zero e =
    let same : x ≡ name = cc in ap (λ b. b || list_any (bytes_eq name) xs) ((bytes_eq-Decides name x).1 (sym same))
stands_in (x ∷ xs) name (suc place) e =
    ap (λ b. bytes_eq name x || b) (stands_in xs name place e) ∙ or_true (bytes_eq name x)
  where
    or_true : (b : Bool) → (b || true) ≡ true
    or_true true = refl
    or_true false = refl

-- a name that stands at no place is none of them
pub stands_out : (names : List (List ℕ)) (name : List ℕ) → ((place : ℕ) → slice_get names place ≢ Some name)
    → list_any (bytes_eq name) names ≡ false
stands_out [] name none = refl
stands_out (x ∷ xs) name none =
    elim (bytes_eq name x) as (λ b. bytes_eq name x ≡ b → (b || list_any (bytes_eq name) xs) ≡ false) [
      | true ↦ λ e. absurd (none 0 (ap Some (sym ((bytes_eq-Decides name x).0 e))))
      | false ↦ λ e. stands_out xs name (λ place. none (suc place))
    ] refl

-- a hash is the number of a chain
within : (hash : ℕ) (name : List ℕ) → hash < 4096 → fold mix hash name < 4096
within hash [] lt = lt
within hash (letter ∷ name) lt = within (mix hash letter) name (omega arith)

-- the first so many names, their chains, and that no name so far stands earlier too
pub record Chained (names : List (List ℕ)) (place : ℕ) (heads earlier : List ℕ) : Type 0 where
  pub chains : AreChains (take place names) heads earlier
  pub wide : length heads ≡ 4096
  pub long : length earlier ≡ 4096
  pub repeats : repeat_after (take place names) (drop place names) ≡ first_repeat names

no_chains : (heads earlier : List ℕ) → ((c : ℕ) → c < 4096 → get_or heads c 0 ≡ 0) → AreChains [] heads earlier
no_chains heads earlier zeros = record {
  last = λ c lt. ((λ other gt below. absurd (omega (arith, below))), inl (zeros c lt));
  before = λ place lt. absurd (omega (arith, lt));
}

pub none_yet : (names : List (List ℕ)) → Chained names 0 (replicate 4096 0) (replicate 4096 0)
none_yet names = record {
  chains = no_chains (replicate 4096 0) (replicate 4096 0) (λ c lt. get_or-replicate {A = ℕ} 4096 c 0 0 lt);
  wide = length-replicate {A = ℕ} 4096 0;
  long = length-replicate {A = ℕ} 4096 0;
  repeats = refl;
}

-- one more name, which does not stand earlier
pub chained_next : (names : List (List ℕ)) (place : ℕ) (heads earlier heads' earlier' : List ℕ) (name : List ℕ)
    → Chained names place heads earlier → place < length names → length names ≤ 4096 → get_or names place [] ≡ name
    → list_any (bytes_eq name) (take place names) ≡ false → heads' ≡ set heads (chain name) place
    → earlier' ≡ set earlier place (get_or heads (chain name) 0) → Chained names (place + 1) heads' earlier'
chained_next names place heads earlier heads' earlier' name so lt few is out h e = record {
  chains = subst (λ ns. AreChains ns heads' earlier') (sym (take_more names place [] lt ∙ ap (λ n. take place names ++ n ∷ []) is)) more;
  wide = ap length h ∙ length-set heads (chain name) place ∙ so.wide;
  long = ap length e ∙ length-set earlier place (get_or heads (chain name) 0) ∙ so.long;
  repeats = repeat_step names place lt (ap (λ n. list_any (bytes_eq n) (take place names)) is ∙ out) ∙ so.repeats;
}
  where
    count : length (take place names) ≡ place
    count = length-take-le place names (omega (arith, lt))

    more : AreChains (take place names ++ name ∷ []) heads' earlier'
    more =
        let fits : length (take place names) < length earlier = omega (arith, count, lt, few, so.long) in
        let made = one_more (take place names) heads earlier name (within 0 name (omega arith)) so.chains fits so.wide in
        let P : List ℕ → List ℕ → Type 0 = λ x y. AreChains (take place names ++ name ∷ []) x y in
        subst (λ y. P heads' y) (sym (e ∙ ap (λ k. set earlier k (get_or heads (chain name) 0)) (sym count)))
        (subst (λ x. P x (set earlier (length (take place names)) (get_or heads (chain name) 0))) (sym (h ∙ ap (set heads (chain name)) (sym count))) made)

named : {A : Type 0} (names : List (String A)) (i : ℕ) (n : String A) (s : List ℕ) → i < length names
    → n ≡ get_or names i n → s ≡ string_bytes n → get_or (texts names) i [] ≡ s
named names i n s l e t = get_or-map string_bytes names i n [] l ∙ ap string_bytes (sym e) ∙ sym t

-- a name that was found among those so far is the first repeat
pub is_repeat : {A : Type 0} (names : List (String A)) (i : ℕ) (heads earlier : List ℕ) (n : String A) (s : List ℕ)
    (r : Option ℕ)
    → Chained (texts names) i heads earlier → i < length names → n ≡ get_or names i n → s ≡ string_bytes n
    → IfSome r (λ p. slice_get (texts (take i names)) p ≡ Some s) → is_some r ≡ true
    → first_repeat (texts names) ≡ Some i
is_repeat names i heads earlier n s None so lt e t found some = absurd (cc)
is_repeat names i heads earlier n s (Some p) so lt e t found some =
    let stands : list_any (bytes_eq s) (take i (texts names)) ≡ true = ap (list_any (bytes_eq s)) (take-map string_bytes i names) ∙ stands_in (texts (take i names)) s p found in
    sym so.repeats ∙ repeat_here (texts names) i (omega (arith, lt, length-map names string_bytes)) (ap (λ x. list_any (bytes_eq x) (take i (texts names))) (named names i n s lt e t) ∙ stands)

-- a name that was not found is chained
pub is_new : {A : Type 0} (names : List (String A)) (i : ℕ) (heads earlier heads' earlier' : List ℕ) (n : String A)
    (s : List ℕ) (r : Option ℕ)
    → Chained (texts names) i heads earlier → i < length names → length names ≤ 4096 → n ≡ get_or names i n
    → s ≡ string_bytes n → IfNone r ((p : ℕ) → slice_get (texts (take i names)) p ≢ Some s) → is_some r ≡ false
    → heads' ≡ set heads (chain s) i → earlier' ≡ set earlier i (get_or heads (chain s) 0)
    → Chained (texts names) (i + 1) heads' earlier'
is_new names i heads earlier heads' earlier' n s (Some p) so lt few e t none some h k = absurd (cc)
is_new names i heads earlier heads' earlier' n s None so lt few e t none some h k =
    let out : list_any (bytes_eq s) (take i (texts names)) ≡ false = ap (list_any (bytes_eq s)) (take-map string_bytes i names) ∙ stands_out (texts (take i names)) s none in
    let long = length-map names string_bytes in
    chained_next (texts names) i heads earlier heads' earlier' s so (omega (arith, lt, long)) (omega (arith, few, long)) (named names i n s lt e t) out h k

-- the names so far are a list of their own
pub so_far : {A : Type 0} (names : List (String A)) (i : ℕ) (heads earlier : List ℕ)
    → Chained (texts names) i heads earlier → AreChains (texts (take i names)) heads earlier
so_far names i heads earlier so = subst (λ ns. AreChains ns heads earlier) (take-map string_bytes i names) so.chains

-- at the end all are chained, and none stands earlier
pub all_chained : {A : Type 0} (names : List (String A)) (i : ℕ) (heads earlier : List ℕ)
    → Chained (texts names) i heads earlier → i ≡ length names
    → AreChains (texts names) heads earlier × (first_repeat (texts names) ≡ None)
all_chained names i heads earlier so is =
    let all : take i (texts names) ≡ texts names = take_all i (texts names) (omega (arith, is, length-map names string_bytes)) in
    let nil : drop i (texts names) ≡ [] = drop_all i (texts names) (omega (arith, is, length-map names string_bytes)) in (
      subst (λ ns. AreChains ns heads earlier) all so.chains,
      sym so.repeats ∙ ap (repeat_after (take i (texts names))) nil,
    )
