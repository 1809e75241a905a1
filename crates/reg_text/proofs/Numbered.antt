-- Readers that stop at a line, and its number.
use Rattle.std.proofs.Common.{ℕ, suc, ◌≡◌, ◌==◌, ◌-◌, ◌<◌, ◌≤◌, ◌^◌, Bool, true, false, cond, Option, None, Some, List}
use Rattle.std.proofs.Common.{[], ◌∷◌, ◌++◌, length, refl, sym, ap, ◌∙◌, arith, append_assoc, length-append}
use Rattle.std.proofs.lemmas.List.{append_cancel_right, append-nil}
use Rattle.reg_text.specs.Lines.{begins_with, lines_of, shown, kept, is_kept, Rest, StandsIn, IsAsked, IsNumbered}
use Rattle.reg_text.specs.Reading.{GoesOn, IsNext, IsStopped}
use Rattle.reg_text.proofs.Split.{kept_line, skipped_line, none_kept}

kept_cons : (line : List ℕ) (xs ys : List (List ℕ)) (k : Bool) → is_kept line ≡ k → kept (xs ++ ys) ≡ kept xs ++ kept ys
    → kept (line ∷ (xs ++ ys)) ≡ kept (line ∷ xs) ++ kept ys
kept_cons line xs ys true is more =
    kept_line line (xs ++ ys) is ∙ ap (λ l. line ∷ l) more ∙ sym (ap (λ l. l ++ kept ys) (kept_line line xs is))
kept_cons line xs ys false is more =
    skipped_line line (xs ++ ys) is ∙ more ∙ sym (ap (λ l. l ++ kept ys) (skipped_line line xs is))

kept_append : (xs ys : List (List ℕ)) → kept (xs ++ ys) ≡ kept xs ++ kept ys
kept_append [] ys = sym (ap (λ l. l ++ kept ys) none_kept)
kept_append (line ∷ xs) ys = kept_cons line xs ys (is_kept line) refl (kept_append xs ys)

shown_append : (skips : Bool) (xs ys : List (List ℕ)) → shown skips (xs ++ ys) ≡ shown skips xs ++ shown skips ys
shown_append true xs ys = kept_append xs ys
shown_append false xs ys = refl

-- the first line of those to come is asked for, and the cursor goes on
pub asked_on : (old new : Rest) (line : List ℕ) (rest : List (List ℕ)) → IsAsked old new → old.left ≡ line ∷ rest
    → GoesOn old new
asked_on old new line rest asked e skips whole s =
    let at = ((asked skips whole s).1 line rest e).1 in
    record {
      passed = at.before ++ line ∷ [];
      lines = at.lines ∙ sym (append_assoc at.before (line ∷ []) new.all);
      number = (let a = length-append at.before (line ∷ []) in let n = at.number in omega (arith, a, n));
      left = at.left;
      skipping = at.skipping;
      few = at.few;
    }

pub stays : (r : Rest) → GoesOn r r
stays r skips whole s = s

pub goes_on : (a b c : Rest) → GoesOn a b → GoesOn b c → GoesOn a c
goes_on a b c first second skips whole s = second skips whole (first skips whole s)

-- the very next line stops the reader
pub stopped_now : (next : Option (List ℕ)) (old new : Rest) → IsNext old.left next → IsAsked old new
    → IsStopped [] next old new
stopped_now next old new comes asked =
    record { middle = old; read = refl; on = stays old; comes = comes; asked = asked }

-- it stops after these lines
pub stopped_behind : (xs before : List (List ℕ)) (next : Option (List ℕ)) (old mid new : Rest)
    → old.left ≡ xs ++ mid.left → GoesOn old mid → IsStopped before next mid new → IsStopped (xs ++ before) next old new
stopped_behind xs before next old mid new read on s = record {
  middle = s.middle;
  read = read ∙ ap (λ l. xs ++ l) s.read ∙ sym (append_assoc xs before s.middle.left);
  on = goes_on old mid s.middle on s.on;
  comes = s.comes;
  asked = s.asked;
}

-- a cursor that was not asked for any line yet
pub starts : (skips : Bool) (whole : List (List ℕ)) (r : Rest) → r.all ≡ whole → r.number ≡ 0
    → r.left ≡ shown skips whole → r.skips ≡ skips → length whole < 2 ^ 64 - 1 → StandsIn skips whole r
starts skips whole r all number left way few = record { passed = []; lines = sym all; number = number; left = left ∙ ap (shown skips) (sym all); skipping = way; few = few }

module _ (skips : Bool) (whole before : List (List ℕ)) (old new : Rest) (first : old.left ≡ shown skips whole) (s : StandsIn skips whole old) where
  line_numbered : (line : List ℕ) → IsStopped before (Some line) old new → IsNumbered skips whole new.number before (Some line)
  line_numbered line t =
      let met = (t.asked skips whole (t.on skips whole s)).1 line t.comes.0 t.comes.1 in
      let at = met.1 in
      let all : shown skips whole ≡ shown skips at.before ++ (shown skips (line ∷ []) ++ shown skips new.all) =
      ap (shown skips) at.lines ∙ shown_append skips at.before (line ∷ new.all) ∙ ap (λ l. shown skips at.before ++ l) (shown_append skips (line ∷ []) new.all) in
      let known : shown skips whole ≡ before ++ line ∷ new.left = sym first ∙ t.read ∙ ap (λ l. before ++ l) (t.comes.1 ∙ ap (λ l. line ∷ l) (sym met.0)) in
      let tail : shown skips (line ∷ []) ++ shown skips new.all ≡ line ∷ new.left = ap (λ l. l ++ shown skips new.all) at.shows ∙ ap (λ l. line ∷ l) (sym at.left) in
      (at.before, new.all, at.lines, append_cancel_right (shown skips at.before) before (line ∷ new.left) (sym (all ∙ ap (λ l. shown skips at.before ++ l) tail) ∙ known), at.shows, at.number)

  end_numbered : IsStopped before None old new → IsNumbered skips whole new.number before None
  end_numbered t =
      let at = (t.asked skips whole (t.on skips whole s)).0 t.comes in
      (sym first ∙ t.read ∙ ap (λ l. before ++ l) t.comes ∙ append-nil before, at)

  -- a reader that stops names the line, or the end
  pub stopped_numbered : (next : Option (List ℕ)) → IsStopped before next old new
      → IsNumbered skips whole new.number before next
  stopped_numbered None t = end_numbered t
  stopped_numbered (Some line) t = line_numbered line t

-- a text has no more lines than bytes
few_begin : (b : ℕ) (ls : List (List ℕ)) (n : ℕ) → length ls ≤ n → length (begins_with b ls) ≤ suc n
few_begin b [] n h = omega arith
few_begin b (l ∷ ls) n h = omega arith

pub few_lines : (bs : List ℕ) → length (lines_of bs) ≤ length bs
unfolding lines_of
few_lines [] = omega arith
few_lines (b ∷ bs) =
    elim (b == 10) as (λ t. length (cond t ([] ∷ lines_of bs) (begins_with b (lines_of bs))) ≤ suc (length bs)) [
      | true ↦ (let h = few_lines bs in omega (arith, h))
      | false ↦ few_begin b (lines_of bs) (length bs) (few_lines bs)
    ]
