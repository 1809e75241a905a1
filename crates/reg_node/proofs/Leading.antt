-- Sealed lines at the start of bytes, passed one by one.
use Rattle.std.proofs.Common.{refl, ℕ, ◌≡◌, ◌+◌, ◌-◌, ◌<◌, List, [], ◌∷◌, ◌++◌, length, take, sym, ap, ◌∙◌, subst}
use Rattle.std.proofs.Common.{arith, append_assoc}
use Rattle.std.proofs.Math.Seq.{take-append_seam}
use Rattle.std.proofs.lemmas.List.{length-append}
use Rattle.reg_text.specs.Parts.{Lacks}
use Rattle.reg_text.proofs.Worded.{not_lacking}
use Rattle.reg_node.specs.Seals.{AreLines, crc_after, crc_behind, sealed, sealed_line}
use Rattle.reg_node.proofs.Sealed.{front_is, front_lacks, front_of}

-- of so many lines those that weren't passed are left, and then what stands behind them
pub record AreLeft (count passed : ℕ) (rest behind : List ℕ) : Type 0 where
  pub crc : ℕ
  pub lines : List (List ℕ)
  pub are : AreLines lines
  pub counted : length lines + passed ≡ count
  pub is : rest ≡ sealed crc lines ++ behind

first_is : (c : ℕ) (line : List ℕ) (lines : List (List ℕ)) (behind : List ℕ)
    → sealed c (line ∷ lines) ++ behind ≡ front_of c line ++ 10 ∷ (sealed (crc_behind c line) lines ++ behind)
first_is c line lines behind = append_assoc (sealed_line c line) (sealed (crc_behind c line) lines) behind ∙ front_is c line (sealed (crc_behind c line) lines ++ behind)

fewer_by : (count passed c : ℕ) (lines : List (List ℕ)) (rest behind after : List ℕ) → passed < count → AreLines lines
    → length lines + passed ≡ count → rest ≡ sealed c lines ++ behind
    → ((front more : List ℕ) → Lacks 10 front → rest ≡ front ++ 10 ∷ more → after ≡ more) → AreLeft count (passed + 1) after behind
fewer_by count passed c [] rest behind after less are counted is cut = absurd (omega (arith, less, counted))
fewer_by count passed c (line ∷ lines) rest behind after less are counted is cut = record {
  crc = crc_behind c line;
  lines = lines;
  are = are.1;
  counted = omega (arith, counted);
  is = cut (front_of c line) (sealed (crc_behind c line) lines ++ behind) (front_lacks c line are.0) (is ∙ first_is c line lines behind);
}

-- one more is passed
pub fewer : (count passed : ℕ) (rest behind after : List ℕ) → passed < count → AreLeft count passed rest behind
    → ((front more : List ℕ) → Lacks 10 front → rest ≡ front ++ 10 ∷ more → after ≡ more)
    → AreLeft count (passed + 1) after behind
fewer count passed rest behind after less left cut =
    fewer_by count passed left.crc left.lines rest behind after less left.are left.counted left.is cut

some_by : (count passed c : ℕ) (lines : List (List ℕ)) (rest behind : List ℕ) → passed < count → AreLines lines
    → length lines + passed ≡ count → rest ≡ sealed c lines ++ behind → ¬ Lacks 10 rest
some_by count passed c [] rest behind less are counted is = λ lacks. omega (arith, less, counted)
some_by count passed c (line ∷ lines) rest behind less are counted is = λ lacks.
    not_lacking 10 (front_of c line) (sealed (crc_behind c line) lines ++ behind) (subst (λ (l : List ℕ). Lacks 10 l) (is ∙ first_is c line lines behind) lacks)

-- where not all are passed, there is a line feed
pub some : (count passed : ℕ) (rest behind : List ℕ) → passed < count → AreLeft count passed rest behind
    → ¬ Lacks 10 rest
some count passed rest behind less left =
    some_by count passed left.crc left.lines rest behind less left.are left.counted left.is

none_by : (count passed c : ℕ) (lines : List (List ℕ)) (rest behind : List ℕ) → count ≡ passed
    → length lines + passed ≡ count → rest ≡ sealed c lines ++ behind → rest ≡ behind
none_by count passed c [] rest behind all counted is = is
none_by count passed c (line ∷ lines) rest behind all counted is = absurd (omega (arith, all, counted))

-- all are passed
pub none : (count passed : ℕ) (rest behind : List ℕ) → count ≡ passed → AreLeft count passed rest behind → rest ≡ behind
none count passed rest behind all left = none_by count passed left.crc left.lines rest behind all left.counted left.is

-- the lines of two lists of lines
pub sealed_both : (c : ℕ) (xs ys : List (List ℕ)) → sealed c (xs ++ ys) ≡ sealed c xs ++ sealed (crc_after c xs) ys
sealed_both c [] ys = refl
sealed_both c (x ∷ xs) ys =
    ap (λ t. sealed_line c x ++ t) (sealed_both (crc_behind c x) xs ys) ∙ sym (append_assoc (sealed_line c x) (sealed (crc_behind c x) xs) (sealed (crc_after (crc_behind c x) xs) ys))

are_front : (xs ys : List (List ℕ)) → AreLines (xs ++ ys) → AreLines xs
are_front [] ys are = tt
are_front (x ∷ xs) ys are = (are.0, are_front xs ys are.1)

are_behind : (xs ys : List (List ℕ)) → AreLines (xs ++ ys) → AreLines ys
are_behind [] ys are = are
are_behind (x ∷ xs) ys are = are_behind xs ys are.1

pub without : (a b : List ℕ) → take (length (a ++ b) - length b) (a ++ b) ≡ a
without a b =
    let long = length-append a b in
    ap (λ n. take n (a ++ b)) (let e : length (a ++ b) - length b ≡ length a = omega (arith, long) in e) ∙ take-append_seam a b

-- first the lines of a head are passed, and then others: they are what stands before the rest
module _ (c : ℕ) (head more others : List (List ℕ)) (bytes middle rest behind : List ℕ) (are : AreLines (head ++ (more ++ others))) (is : bytes ≡ sealed c (head ++ (more ++ others)) ++ behind) where
  abbrev tail : List ℕ
  tail = sealed (crc_after (crc_after c head) more) others ++ behind

  middle_is : sealed c (head ++ (more ++ others)) ++ behind ≡ sealed c head ++ (sealed (crc_after c head) (more ++ others) ++ behind)
  middle_is = ap (λ t. t ++ behind) (sealed_both c head (more ++ others)) ∙ append_assoc (sealed c head) (sealed (crc_after c head) (more ++ others)) behind

  rest_is : sealed (crc_after c head) (more ++ others) ++ behind ≡ sealed (crc_after c head) more ++ tail
  rest_is = ap (λ t. t ++ behind) (sealed_both (crc_after c head) more others) ∙ append_assoc (sealed (crc_after c head) more) (sealed (crc_after (crc_after c head) more) others) behind

  all_is : sealed c (head ++ (more ++ others)) ++ behind ≡ sealed c (head ++ more) ++ tail
  all_is =
      middle_is ∙ ap (λ t. sealed c head ++ t) rest_is ∙ sym (append_assoc (sealed c head) (sealed (crc_after c head) more) tail) ∙ ap (λ t. t ++ tail) (sym (sealed_both c head more))

  pub cut_off : ((d : ℕ) (lines : List (List ℕ)) (after : List ℕ) → AreLines lines → length lines ≡ length head
      → bytes ≡ sealed d lines ++ after → middle ≡ after)
      → ((d : ℕ) (lines : List (List ℕ)) (after : List ℕ) → AreLines lines → length lines ≡ length more → middle ≡ sealed d lines ++ after → rest ≡ after)
      → take (length bytes - length rest) bytes ≡ sealed c (head ++ more)
  cut_off first second =
      let one = first c head (sealed (crc_after c head) (more ++ others) ++ behind) (are_front head (more ++ others) are) refl (is ∙ middle_is) in
      let two = second (crc_after c head) more tail (are_front more others (are_behind head (more ++ others) are)) refl (one ∙ rest_is) in
      let all : bytes ≡ sealed c (head ++ more) ++ rest = is ∙ all_is ∙ ap (λ t. sealed c (head ++ more) ++ t) (sym two) in
      ap (λ b. take (length b - length rest) b) all ∙ without (sealed c (head ++ more)) rest
