-- A line that is asked for, wherever the cursor stands.
use Rattle.std.proofs.Common.{ℕ, ◌≡◌, ◌+◌, ◌-◌, ◌<◌, ◌^◌, min, Bool, true, false, List, [], ◌∷◌, ◌++◌, length, get_or}
use Rattle.std.proofs.Common.{drop, refl, sym, ap, ◌∙◌, subst, arith, append_assoc, length-append}
use Rattle.reg_text.specs.Lines.{shown, Rest, StandsIn, StandsAt, IsAsked}
use Rattle.reg_text.specs.Reading.{IsFound}
use Rattle.reg_text.proofs.Split.{kept_line, none_kept}

-- the line was found after lines that are skipped, in one of both ways
pub record IsMet (skips : Bool) (line : List ℕ) (old new : List (List ℕ)) (from to : ℕ) : Type 0 where
  pub skipped : List (List ℕ)
  pub lines : old ≡ skipped ++ line ∷ new
  pub shows : shown skips (line ∷ []) ≡ line ∷ []
  pub number : to ≡ from + length skipped + 1

pub met_kept : (line : List ℕ) (old new : List (List ℕ)) (from to : ℕ) → IsFound line old new from to
    → IsMet true line old new from to
met_kept line old new from to f = record { skipped = f.skipped; lines = f.lines; shows = kept_line line [] f.kept ∙ ap (λ l. line ∷ l) none_kept; number = f.number }

-- where no line is skipped it is the next one
pub met_next : (line : List ℕ) (old new : List (List ℕ)) (from to : ℕ) → from + length old < 2 ^ 64 - 1
    → old ≡ line ∷ new → to ≡ min (from + 1) (2 ^ 64 - 1) → IsMet false line old new from to
met_next line old new from to few e more =
    record { skipped = []; lines = e; shows = refl; number = (let n = ap length e in omega (arith, n)) }

pub end_next : (old : List (List ℕ)) (from to : ℕ) → from + length old < 2 ^ 64 - 1 → old ≡ []
    → to ≡ min (from + 1) (2 ^ 64 - 1) → to ≡ from + length old + 1
end_next old from to few e more = let n = ap length e in omega (arith, n)

-- the cursor over these lines
abbrev pub over : Bool → List (List ℕ) → ℕ → Rest
over skips all number = record { left = shown skips all; all = all; number = number; skips = skips }

module _ (skips : Bool) (all : List (List ℕ)) (number : ℕ) where
  within : (way : Bool) (whole : List (List ℕ)) → StandsIn way whole (over skips all number) → number + length all < 2 ^ 64 - 1
  within way whole s = (let a = ap length s.lines in let b = length-append s.passed all in let n = s.number in let f = s.few in omega (arith, a, b, n, f))

  no_line : {A : Type 0} {line : List ℕ} {rest : List (List ℕ)} → [] ≡ line ∷ rest → A
  no_line e = absurd (omega (arith, ap length e))

  -- a line was met
  pub asked_met : (found : List ℕ) (behind : List (List ℕ)) (to : ℕ) → shown skips all ≡ found ∷ shown skips behind
      → (number + length all < 2 ^ 64 - 1 → IsMet skips found all behind number to) → IsAsked (over skips all number) (over skips behind to)
  asked_met found behind to read met way whole s =
      let m = met (within way whole s) in (
        λ none. no_line (sym none ∙ read),
        λ line rest e.
            let same : found ≡ line = ap (λ l. get_or l 0 []) (sym read ∙ e) in (
              ap (drop 1) (sym read ∙ e),
              subst (λ l. StandsAt way whole l (over skips behind to)) same (record {
                before = s.passed ++ m.skipped;
                lines = s.lines ∙ ap (λ l. s.passed ++ l) m.lines ∙ sym (append_assoc s.passed m.skipped (found ∷ behind));
                number = (let a = length-append s.passed m.skipped in let b = s.number in let n = m.number in omega (arith, a, b, n));
                shows = subst (λ k. shown k (found ∷ []) ≡ found ∷ []) s.skipping m.shows;
                left = ap (λ k. shown k behind) s.skipping;
                skipping = s.skipping;
                few = s.few;
              }),
            ),
      )

  -- no line is left
  pub asked_none : (to : ℕ) (new : Rest) → shown skips all ≡ [] → new.number ≡ to
      → (number + length all < 2 ^ 64 - 1 → to ≡ number + length all + 1) → IsAsked (over skips all number) new
  asked_none to new read is end way whole s = (
    λ none.
        let a = ap length s.lines in
        let b = length-append s.passed all in
        let n = s.number in
        let e = end (within way whole s) in
        omega (arith, a, b, n, e, is),
    λ line rest e. no_line (sym read ∙ e),
  )
