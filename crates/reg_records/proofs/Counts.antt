-- Lists by how often they mention each process.
use Rattle.std.proofs.Common.{◌≡◌, ◌⊎◌, inl, inr, ℕ, suc, ◌+◌, ◌<◌, ◌≤◌, Bool, cond, List, [], ◌∷◌, length, refl, ap}
use Rattle.std.proofs.Common.{sym, ◌∙◌, arith}
use Rattle.std.specs.Prelude.{◌==◌}
use Rattle.std.proofs.lemmas.Bool.{cases_eq, eq-eqb, ne_eqb}
use Rattle.std.proofs.lemmas.List.Sums.{sum_by-cons}
use Rattle.reg_records.specs.Records.{mentions}

head_yes : (p q : ℕ) (xs : List ℕ) → q ≡ p → mentions p (q ∷ xs) ≡ suc (mentions p xs)
head_yes p q xs e =
    let parts : mentions p (q ∷ xs) ≡ cond (q == p) 1 0 + mentions p xs = sum_by-cons (λ x. cond (x == p) 1 0) q xs in
    let one : ◌≡◌ {A = ℕ} (cond (q == p) 1 0) 1 = ap (λ (b : Bool). cond b 1 0) (eq-eqb q p e) in
    omega (arith, parts, one)

head_no : (p q : ℕ) (xs : List ℕ) → (q ≡ p → ⊥) → mentions p (q ∷ xs) ≡ mentions p xs
head_no p q xs other =
    let parts : mentions p (q ∷ xs) ≡ cond (q == p) 1 0 + mentions p xs = sum_by-cons (λ x. cond (x == p) 1 0) q xs in
    let none : ◌≡◌ {A = ℕ} (cond (q == p) 1 0) 0 = ap (λ (b : Bool). cond b 1 0) (ne_eqb q p other) in
    omega (arith, parts, none)

-- the list without the first mention of q
record Without (q : ℕ) (xs : List ℕ) : Type 0 where
  rest : List ℕ
  shorter : length xs ≡ suc (length rest)
  here : mentions q xs ≡ suc (mentions q rest)
  others : (p : ℕ) → (q ≡ p → ⊥) → mentions p xs ≡ mentions p rest

without : (q : ℕ) (xs : List ℕ) → 0 < mentions q xs → Without q xs
without q [] some = absurd (omega arith)
without q (x ∷ xs) some = by (λ (h : 0 < mentions q xs). without q xs h) (cases_eq x q)
  where
    by : (0 < mentions q xs → Without q xs) → (x ≡ q) ⊎ (x ≡ q → ⊥) → Without q (x ∷ xs)
    by rec (inl e) = record { rest = xs; shorter = refl; here = head_yes q x xs e; others = λ p other. head_no p x xs (λ same. other (sym e ∙ same)) }
    by rec (inr off) =
        let same = head_no q x xs off in
        let r = rec (let h : 0 < mentions q (x ∷ xs) = some in omega (arith, same, h)) in
        record {
          rest = x ∷ r.rest;
          shorter = ap suc r.shorter;
          here = same ∙ (r.here ∙ ap suc (sym (head_no q x r.rest off)));
          others = λ p other. more r p other (cases_eq x p);
        }
      where
        more : (r : Without q xs) (p : ℕ) → (q ≡ p → ⊥) → (x ≡ p) ⊎ (x ≡ p → ⊥) → mentions p (x ∷ xs) ≡ mentions p (x ∷ r.rest)
        more r p other (inl is) = head_yes p x xs is ∙ (ap suc (r.others p other) ∙ sym (head_yes p x r.rest is))
        more r p other (inr isnt) = head_no p x xs isnt ∙ (r.others p other ∙ sym (head_no p x r.rest isnt))

-- a list that mentions nothing more often than another one is no longer
pub no_longer : (xs ys : List ℕ) → ((p : ℕ) → mentions p xs ≤ mentions p ys) → length xs ≤ length ys
no_longer [] ys less = omega arith
no_longer (x ∷ xs) ys less =
    let some : 0 < mentions x ys = let h = head_yes x x xs refl in let l = less x in omega (arith, h, l) in
    let r = without x ys some in
    let rest : length xs ≤ length r.rest = no_longer xs r.rest (λ p. by r p (cases_eq x p)) in
    let shorter = r.shorter in omega (arith, shorter, rest)
  where
    by : (r : Without x ys) (p : ℕ) → (x ≡ p) ⊎ (x ≡ p → ⊥) → mentions p xs ≤ mentions p r.rest
    by r p (inl e) = let h = head_yes p x xs e in let l = less p in let there : mentions p ys ≡ suc (mentions p r.rest) = rw (← e) r.here in omega (arith, h, l, there)
    by r p (inr off) = let h = head_no p x xs off in let l = less p in let there = r.others p off in omega (arith, h, l, there)

-- and it is shorter, if it mentions something less often
pub shorter : (xs ys : List ℕ) (q : ℕ) → ((p : ℕ) → mentions p xs ≤ mentions p ys) → mentions q xs < mentions q ys
    → length xs < length ys
shorter xs ys q less fewer = no_longer (q ∷ xs) ys (λ p. by p (cases_eq q p))
  where
    by : (p : ℕ) → (q ≡ p) ⊎ (q ≡ p → ⊥) → mentions p (q ∷ xs) ≤ mentions p ys
    by p (inl e) = let h = head_yes p q xs e in let fewer_here : mentions p xs < mentions p ys = rw (← e) fewer in omega (arith, h, fewer_here)
    by p (inr off) = let h = head_no p q xs off in let l = less p in omega (arith, h, l)
