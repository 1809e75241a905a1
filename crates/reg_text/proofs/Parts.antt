-- The first mark of a text.
use Rattle.std.proofs.Common.{ℕ, suc, ◌≡◌, ◌+◌, ◌-◌, ◌==◌, not, ◌&&◌, Bool, true, false, cond, List, [], ◌∷◌, ◌++◌}
use Rattle.std.proofs.Common.{length, take, drop, refl, sym, ap, subst, ◌∙◌, arith, rules, None, Some}
use Rattle.std.specs.List.{list_all, position_from}
use Rattle.std.proofs.lemmas.List.{length-drop, take_all}
use Rattle.std.proofs.Math.Seq.{take-append_seam}
use Rattle.reg_text.specs.Parts.{Lacks}

abbrev pub is : ℕ → ℕ → Bool
is m b = b == m

pub none_there : (m k : ℕ) (bs : List ℕ) → position_from (is m) k bs ≡ None → Lacks m bs
none_there m k [] h = refl
none_there m k (b ∷ bs) h =
    elim (b == m) as (λ t. cond t (Some k) (position_from (is m) (k + 1) bs) ≡ None → (not t && list_all (λ c. not (c == m)) bs) ≡ true) [
      | true ↦ λ e. absurd (cc)
      | false ↦ λ e. none_there m (k + 1) bs e
    ] h

pub record Found (m : ℕ) (bs : List ℕ) (k i : ℕ) : Type 0 where
  pub at : ℕ
  pub is_at : i ≡ k + at
  pub split : bs ≡ take at bs ++ m ∷ drop (suc at) bs
  pub before : Lacks m (take at bs)

pub found_there : (m k : ℕ) (bs : List ℕ) (i : ℕ) → position_from (is m) k bs ≡ Some i → Found m bs k i
found_there m k [] i h = absurd (cc)
found_there m k (b ∷ bs) i h =
    elim (b == m) as (λ t. (b == m) ≡ t → cond t (Some k) (position_from (is m) (k + 1) bs) ≡ Some i → Found m (b ∷ bs) k i) [
      | true ↦ λ e g.
          let same : b ≡ m = search (rules, e) in
          let n : k ≡ i = cc in
          record { at = 0; is_at = omega arith; split = ap (λ x. x ∷ bs) same; before = refl }
      | false ↦ λ e g.
          let r = found_there m (k + 1) bs i g in
          let first : not (b == m) ≡ true = ap not e in
          record { at = suc r.at; is_at = omega (arith, r.is_at); split = ap (λ l. b ∷ l) r.split; before = rw first r.before }
    ] refl h

pub whole_there : (m k : ℕ) (front rest : List ℕ) → Lacks m front
    → position_from (is m) k (front ++ m ∷ rest) ≡ Some (k + length front)
whole_there m k [] rest h =
    let same : (m == m) ≡ true = search rules in
    let n : k ≡ k + 0 = omega arith in
    rw same (ap Some n)
whole_there m k (b ∷ front) rest h =
    elim (b == m) as (λ t. (not t && list_all (λ c. not (c == m)) front) ≡ true → cond t (Some k) (position_from (is m) (k + 1) (front ++ m ∷ rest)) ≡ Some (k + suc (length front))) [
      | true ↦ λ e. absurd (cc)
      | false ↦ λ e. let n : k + 1 + length front ≡ k + suc (length front) = omega arith in whole_there m (k + 1) front rest e ∙ ap Some n
    ] h

-- what stands past a place, as a slice to the end
pub rest_of : (bs : List ℕ) (j : ℕ) → take (length bs - j) (drop j bs) ≡ drop j bs
rest_of bs j = take_all (length bs - j) (drop j bs) (omega (arith, length-drop j bs))

pub cut_read : (m : ℕ) (bs : List ℕ) (i : ℕ) → position_from (is m) 0 bs ≡ Some i
    → (bs ≡ take i bs ++ m ∷ take (length bs - (i + 1)) (drop (i + 1) bs)) × Lacks m (take i bs)
cut_read m bs i h =
    let f = found_there m 0 bs i h in
    let n : i ≡ f.at = omega (arith, f.is_at) in
    let s : i + 1 ≡ suc f.at = omega (arith, f.is_at) in
    let P : ℕ → Type 0 = λ j. Lacks m (take j bs) in
    (f.split ∙ ap (λ j. take j bs ++ m ∷ drop (suc f.at) bs) (sym n) ∙ ap (λ j. take i bs ++ m ∷ drop j bs) (sym s) ∙ ap (λ l. take i bs ++ m ∷ l) (sym (rest_of bs (i + 1))), subst P (sym n) f.before)

after_seam : (m : ℕ) (front rest : List ℕ) → drop (length front + 1) (front ++ m ∷ rest) ≡ rest
after_seam m [] rest = refl
after_seam m (b ∷ front) rest =
    let n : suc (length front) + 1 ≡ suc (length front + 1) = omega arith in
    ap (λ j. drop j (b ∷ (front ++ m ∷ rest))) n ∙ after_seam m front rest

pub cut_whole : (m : ℕ) (bs : List ℕ) (front rest : List ℕ) → Lacks m front → bs ≡ front ++ m ∷ rest
    → position_from (is m) 0 bs ≡ Some (length front)
cut_whole m bs front rest h e = let n : 0 + length front ≡ length front = omega arith in ap (position_from (is m) 0) e ∙ whole_there m 0 front rest h ∙ ap Some n

pub cut_parts : (m : ℕ) (bs : List ℕ) (i : ℕ) (front rest : List ℕ) → position_from (is m) 0 bs ≡ Some i → Lacks m front
    → bs ≡ front ++ m ∷ rest
    → (take i bs ≡ front) × (take (length bs - (i + 1)) (drop (i + 1) bs) ≡ rest)
cut_parts m bs i front rest here h e =
    let there = cut_whole m bs front rest h e in
    let n : i ≡ length front = cc in
    (ap (take i) e ∙ ap (λ j. take j (front ++ m ∷ rest)) n ∙ take-append_seam front (m ∷ rest), rest_of bs (i + 1) ∙ ap (drop (i + 1)) e ∙ ap (λ j. drop (j + 1) (front ++ m ∷ rest)) n ∙ after_seam m front rest)
