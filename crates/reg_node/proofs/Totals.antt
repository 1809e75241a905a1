-- An order is as long as all logs together whose entries it mentions.
use Rattle.std.proofs.Common.{◌≡◌, ℕ, zero, suc, ◌+◌, ◌<◌, List, [], ◌∷◌, length, map, Some, refl, arith}
use Rattle.std.specs.Prelude.{slice_get}
use Rattle.std.specs.List.{sum_by}
use Rattle.std.proofs.lemmas.List.Sums.{sum_by-cons}
use Rattle.reg_records.specs.Records.{mentions}
use Rattle.reg_node.proofs.Supported.{Share, AreSupported, mention_yes, mention_no}

-- the sum of the values at the numbers below n
total : (ℕ → ℕ) → ℕ → ℕ
total f zero = 0
total f (suc n) = f 0 + total (λ q. f (suc q)) n

total_same : (f g : ℕ → ℕ) (n : ℕ) → ((q : ℕ) → f q ≡ g q) → total f n ≡ total g n
unfolding total
total_same f g zero h = refl
total_same f g (suc n) h =
    let a = h 0 in
    let b = total_same (λ q. f (suc q)) (λ q. g (suc q)) n (λ q. h (suc q)) in
    omega (arith, a, b)

total_none : (f : ℕ → ℕ) (n : ℕ) → ((q : ℕ) → f q ≡ 0) → total f n ≡ 0
unfolding total
total_none f zero h = refl
total_none f (suc n) h =
    let a = h 0 in
    let b = total_none (λ q. f (suc q)) n (λ q. h (suc q)) in
    omega (arith, a, b)

-- one value is higher by one
total_more : (f g : ℕ → ℕ) (x n : ℕ) → x < n → f x ≡ suc (g x) → ((q : ℕ) → (x ≡ q → ⊥) → f q ≡ g q)
    → total f n ≡ suc (total g n)
unfolding total
total_more f g x zero lt here others = absurd (omega (arith, lt))
total_more f g zero (suc n) lt here others =
    let rest = total_same (λ q. f (suc q)) (λ q. g (suc q)) n (λ q. others (suc q) (λ e. let bad : ⊥ = omega (arith, e) in bad)) in
    omega (arith, here, rest)
total_more f g (suc x) (suc n) lt here others =
    let first = others 0 (λ e. let bad : ⊥ = omega (arith, e) in bad) in
    let rest = total_more (λ q. f (suc q)) (λ q. g (suc q)) x n (omega (arith, lt)) here (λ q ne. others (suc q) (λ e. ne (omega (arith, e)))) in
    omega (arith, first, rest)

total_mentions : (n : ℕ) (shares : ℕ → Share) (xs : List ℕ) → AreSupported n shares xs
    → total (λ q. mentions q xs) n ≡ length xs
total_mentions n shares [] s = total_none (λ q. mentions q []) n (λ q. refl)
total_mentions n shares (x ∷ xs) s =
    let more = total_more (λ q. mentions q (x ∷ xs)) (λ q. mentions q xs) x n s.0 (mention_yes x x xs refl) (λ q ne. mention_no q x xs ne) in
    let rest = total_mentions n shares xs s.2 in
    omega (arith, more, rest)

total_lengths : {X Y : Type 0} (log : X → List Y) (xs : List X) (f : ℕ → ℕ)
    → ((p : ℕ) (x : X) → slice_get xs p ≡ Some x → f p ≡ length (log x))
    → total f (length xs) ≡ sum_by length (map log xs)
unfolding total
total_lengths log [] f h = refl
total_lengths log (x ∷ xs) f h =
    let first = h 0 x refl in
    let rest = total_lengths log xs (λ q. f (suc q)) (λ p y at. h (suc p) y at) in
    let parts = sum_by-cons length (log x) (map log xs) in
    omega (arith, first, rest, parts)

-- where each process is mentioned once for each entry of its log
pub order_length : {X Y : Type 0} (log : X → List Y) (members : List X) (n : ℕ) (shares : ℕ → Share) (order : List ℕ)
    → length members ≡ n → AreSupported n shares order
    → ((p : ℕ) (x : X) → slice_get members p ≡ Some x → mentions p order ≡ length (log x)) → length order ≡ sum_by length (map log members)
order_length log members n shares order count s each =
    let a = total_mentions n shares order s in
    let b = total_lengths log members (λ q. mentions q order) each in
    let c : total (λ q. mentions q order) (length members) ≡ total (λ q. mentions q order) n = let e = count in (λ i. total (λ q. mentions q order) (e i)) in
    omega (arith, a, b, c)
