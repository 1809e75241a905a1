-- First parts of a text with zeros behind them.
use Rattle.std.proofs.Common.{ℕ, ◌≡◌, ◌≢◌, ◌==◌, ◌↔◌, ◌⊎◌, ◌<◌, nat_lt, Bool, true, List, [], ◌∷◌, ◌++◌, refl, ap, sym}
use Rattle.std.proofs.Common.{drop, get_or, ◌∙◌, subst, inl, inr, lit<}
use Rattle.std.specs.List.{list_all}
use Rattle.std.proofs.lemmas.Bool.{eqb-true, ltb-true, lt-ltb}
use Rattle.std.proofs.lemmas.List.{append_cancel_left}
use Rattle.std.proofs.lemmas.List.Folds.{list_all-append}
use Rattle.reg_text.proofs.NamesLack.{both_true}
use Rattle.reg_node.specs.Headless.{IsPartAndZeros, IsShort, feeds}

abbrev AreZeros : List ℕ → Type 0
AreZeros l = list_all (λ b. b == 0) l ≡ true

pub of_zeros : (bytes text : List ℕ) → AreZeros bytes → IsPartAndZeros bytes text
of_zeros bytes text are = record { part = []; left = text; zeros = bytes; all = refl; of_text = refl; are = are }

pub more : (x : ℕ) (bytes text : List ℕ) → IsPartAndZeros bytes text → IsPartAndZeros (x ∷ bytes) (x ∷ text)
more x bytes text p = record { part = x ∷ p.part; left = p.left; zeros = p.zeros; all = ap (λ l. x ∷ l) p.all; of_text = ap (λ l. x ∷ l) p.of_text; are = p.are }

behind_zero : (x : ℕ) (bytes : List ℕ) → AreZeros (x ∷ bytes) → AreZeros bytes
behind_zero x bytes are = (both_true (x == 0) (list_all (λ b. b == 0) bytes) are).1

less_by : (x : ℕ) (bytes text part left zeros : List ℕ) → x ∷ bytes ≡ part ++ zeros → x ∷ text ≡ part ++ left
    → AreZeros zeros → IsPartAndZeros bytes text
less_by x bytes text [] left zeros all of_text are =
    of_zeros bytes text (behind_zero x bytes (subst AreZeros (sym all) are))
less_by x bytes text (y ∷ part) left zeros all of_text are =
    record { part = part; left = left; zeros = zeros; all = ap (drop 1) all; of_text = ap (drop 1) of_text; are = are }

pub less : (x : ℕ) (bytes text : List ℕ) → IsPartAndZeros (x ∷ bytes) (x ∷ text) → IsPartAndZeros bytes text
less x bytes text p = less_by x bytes text p.part p.left p.zeros p.all p.of_text p.are

other_by : (x y : ℕ) (bytes text part left zeros : List ℕ) → x ≢ y → x ∷ bytes ≡ part ++ zeros → y ∷ text ≡ part ++ left
    → AreZeros zeros → AreZeros (x ∷ bytes)
other_by x y bytes text [] left zeros other all of_text are = subst AreZeros (sym all) are
other_by x y bytes text (z ∷ part) left zeros other all of_text are =
    absurd (other (ap (λ l. get_or l 0 0) all ∙ sym (ap (λ l. get_or l 0 0) of_text)))

-- where the text goes on otherwise, nothing but zeros is left
pub other_is_zeros : (x y : ℕ) (bytes text : List ℕ) → x ≢ y → IsPartAndZeros (x ∷ bytes) (y ∷ text)
    → AreZeros (x ∷ bytes)
other_is_zeros x y bytes text other p = other_by x y bytes text p.part p.left p.zeros other p.all p.of_text p.are

ended_by : (bytes part left zeros : List ℕ) → bytes ≡ part ++ zeros → [] ≡ part ++ left → AreZeros zeros
    → AreZeros bytes
ended_by bytes [] left zeros all of_text are = subst AreZeros (sym all) are
ended_by bytes (z ∷ part) left zeros all of_text are = absurd (cc)

pub ended_is_zeros : (bytes : List ℕ) → IsPartAndZeros bytes [] → AreZeros bytes
ended_is_zeros bytes p = ended_by bytes p.part p.left p.zeros p.all p.of_text p.are

-- one byte further
pub further : (x y : ℕ) (bytes text rest left behind after : List ℕ) → rest ≡ x ∷ behind → left ≡ y ∷ after → x ≡ y
    → (IsPartAndZeros bytes text ↔ IsPartAndZeros rest left) → (IsPartAndZeros bytes text ↔ IsPartAndZeros behind after)
further x y bytes text rest left behind after r l same before =
    let left_is : left ≡ x ∷ after = l ∙ ap (λ z. z ∷ after) (sym same) in (
      λ p. less x behind after (subst (λ (t : List ℕ). IsPartAndZeros (x ∷ behind) t) left_is (subst (λ (t : List ℕ). IsPartAndZeros t left) r (before.0 p))),
      λ p. before.1 (subst (λ (t : List ℕ). IsPartAndZeros rest t) (sym left_is) (subst (λ (t : List ℕ). IsPartAndZeros t (x ∷ after)) (sym r) (more x behind after p))),
    )

module _ (bytes text rest left : List ℕ) (b : Bool) (told : b ≡ list_all (λ c. c == 0) rest) (before : IsPartAndZeros bytes text ↔ IsPartAndZeros rest left) where
  -- the text ends
  pub ended : left ≡ [] → (b ≡ true ↔ IsPartAndZeros bytes text)
  ended e = (
    λ t. before.1 (of_zeros rest left (sym told ∙ t)),
    λ p. told ∙ ended_is_zeros rest (subst (λ (t : List ℕ). IsPartAndZeros rest t) e (before.0 p)),
  )

  -- the text goes on otherwise
  pub parted : (x y : ℕ) (behind after : List ℕ) → rest ≡ x ∷ behind → left ≡ y ∷ after → x ≢ y
      → (b ≡ true ↔ IsPartAndZeros bytes text)
  parted x y behind after r l other = (
    λ t. before.1 (of_zeros rest left (sym told ∙ t)),
    λ p. told ∙ subst AreZeros (sym r) (other_is_zeros x y behind after other (subst (λ (t : List ℕ). IsPartAndZeros (x ∷ behind) t) l (subst (λ (t : List ℕ). IsPartAndZeros t left) r (before.0 p)))),
  )

pub no_feeds : (bytes : List ℕ) → AreZeros bytes → feeds bytes ≡ 0
no_feeds [] are = refl
no_feeds (x ∷ bytes) are =
    let both = both_true (x == 0) (list_all (λ b. b == 0) bytes) are in
    let is : x ≡ 0 = eqb-true x 0 both.0 in
    subst (λ (n : ℕ). feeds (n ∷ bytes) ≡ 0) (sym is) (no_feeds bytes both.1)

-- where all of the text stands first, and then nothing but zeros, no line feed is behind it
quiet_by : (text behind part left zeros : List ℕ) → text ++ behind ≡ part ++ zeros → text ≡ part ++ left
    → AreZeros zeros → feeds behind ≡ 0
quiet_by text behind [] left zeros all of_text are = no_feeds behind ((both_true (list_all (λ b. b == 0) text) (list_all (λ b. b == 0) behind) (sym (list_all-append (λ b. b == 0) text behind) ∙ subst AreZeros (sym all) are)).1)
quiet_by [] behind (x ∷ part) left zeros all of_text are = absurd (cc)
quiet_by (y ∷ text) behind (x ∷ part) left zeros all of_text are =
    quiet_by text behind part left zeros (ap (drop 1) all) (ap (drop 1) of_text) are

pub quiet : (bytes text behind : List ℕ) → bytes ≡ text ++ behind → IsPartAndZeros bytes text → feeds behind ≡ 0
quiet bytes text behind is p = quiet_by text behind p.part p.left p.zeros (sym is ∙ p.all) p.of_text p.are

-- all of the text stands first
pub whole : (bytes text behind : List ℕ) (b : Bool) → bytes ≡ text ++ behind → b ≡ nat_lt (feeds behind) 5
    → (b ≡ true ↔ (IsPartAndZeros bytes text ⊎ IsShort bytes text))
whole bytes text behind b is told =
    let few : IsPartAndZeros bytes text ⊎ IsShort bytes text → feeds behind < 5 = elim [
      | inl p ↦ subst (λ (n : ℕ). n < 5) (sym (quiet bytes text behind is p)) (lit< tt)
      | inr s ↦ subst (λ (l : List ℕ). feeds l < 5) (append_cancel_left text s.0 behind (sym s.1 ∙ is)) s.2
    ] in (λ t. inr (behind, is, ltb-true (feeds behind) 5 (sym told ∙ t)), λ h. told ∙ lt-ltb (feeds behind) 5 (few h))
