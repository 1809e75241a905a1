-- Bytes of a text of EDN, one after another.
use Rattle.std.proofs.Common.{ℕ, ◌≡◌, ◌+◌, ◌<◌, ◌≤◌, List, [], ◌∷◌, true, false, Option, Result, Ok, Err, ap, drop}
use Rattle.std.proofs.Common.{get_or, length, if◌then◌else◌, sym, ◌∙◌}
use Rattle.reg_judge.proofs.Lists.{from_here, past_end}
use Rattle.reg_observed.specs.declared.faults.Why.{Why}
use Rattle.reg_observed.specs.declared.faults.Why.TheVariants.{Unfinished}
use Rattle.reg_observed.specs.Edn.{Scanned, behind, behind_blanks, byte_in, edn_from, is_blank, is_whole, line_behind}
use Rattle.reg_observed.specs.Edn.{told_by}
use Rattle.reg_observed.specs.Reading.{after_line}
use Rattle.reg_observed.specs.Told.{Telling}

-- one more byte, which tells this
pub byte_more : (line : ℕ) (s : Scanned) (text : List ℕ) (i : ℕ) (r : Result (Option Telling) Why) (next : Scanned)
    (below : ℕ)
    → i < length text
    → told_by s (byte_in (get_or text i 0) s) ≡ r → next ≡ behind s (byte_in (get_or text i 0) s) → below ≡ line_behind line (get_or text i 0)
    → edn_from line s (drop i text) ≡ after_line line r (edn_from below next (drop (i + 1) text))
unfolding edn_from
byte_more line s text i r next below inside tells is lies =
    let b = get_or text i 0 in
    let rest = drop (i + 1) text in
    ap (edn_from line s) (from_here text i 0 inside)
    ∙ ap (λ r. after_line line r (edn_from (line_behind line b) (behind s (byte_in b s)) rest)) tells
    ∙ ap (λ n. after_line line r (edn_from (line_behind line b) n rest)) (sym is)
    ∙ ap (λ n. after_line line r (edn_from n next rest)) (sym lies)

-- no byte is left
pub text_ends : (line : ℕ) (s : Scanned) (text : List ℕ) (i : ℕ) → length text ≤ i → is_whole s ≡ true
    → edn_from line s (drop i text) ≡ Ok []
unfolding edn_from
text_ends line s text i le whole =
    ap (edn_from line s) (past_end text i le) ∙ ap (λ b. if b then Ok [] else Err (line, Unfinished)) whole

pub text_breaks : (line : ℕ) (s : Scanned) (text : List ℕ) (i : ℕ) → length text ≤ i → is_whole s ≡ false
    → edn_from line s (drop i text) ≡ Err (line, Unfinished)
unfolding edn_from
text_breaks line s text i le broken =
    ap (edn_from line s) (past_end text i le) ∙ ap (λ b. if b then Ok [] else Err (line, Unfinished)) broken

-- a blank is passed over
pub blank_passed : (text : List ℕ) (i : ℕ) → i < length text → is_blank (get_or text i 0) ≡ true
    → behind_blanks (drop i text) ≡ behind_blanks (drop (i + 1) text)
unfolding behind_blanks
blank_passed text i inside blank = ap behind_blanks (from_here text i 0 inside) ∙ ap (λ b. if b then behind_blanks (drop (i + 1) text) else get_or text i 0 ∷ drop (i + 1) text) blank

-- all else stays
pub other_stays : (text : List ℕ) (i : ℕ) → i < length text → is_blank (get_or text i 0) ≡ false
    → behind_blanks (drop i text) ≡ drop i text
unfolding behind_blanks
other_stays text i inside other =
    ap behind_blanks (from_here text i 0 inside) ∙ ap (λ b. if b then behind_blanks (drop (i + 1) text) else get_or text i 0 ∷ drop (i + 1) text) other ∙ sym (from_here text i 0 inside)

-- nothing is left
pub blanks_alone : (text : List ℕ) (i : ℕ) → length text ≤ i → behind_blanks (drop i text) ≡ []
unfolding behind_blanks
blanks_alone text i le = ap behind_blanks (past_end text i le)
