-- What went out where the output failed.
use Rattle.std.proofs.Common.{ℕ, ◌≡◌, true, false, List, [], Option, Result, Ok, Err, sym, subst, append-nil}
use Rattle.std.specs.Prelude.{MatchResult}
use Rattle.std.specs.Result.{is_err}
use Rattle.std.specs.Io.KnownBytes.{Appends, Keeps}
use Rattle.reg_text.specs.Writing.{AppendsPart}
use Rattle.reg_text.proofs.Sent.{appends_kept}

-- all of the text went out, or a first part of it
abbrev pub GoesOut : {E : Type 0} → Result Unit E → Option (List ℕ) → Option (List ℕ) → List ℕ → Type 0
GoesOut r old new text = MatchResult r (λ _. Appends old new text) (λ _. AppendsPart old new text)

-- the writer failed
pub writing_failed : {X E : Type 0} (held : X → Option (List ℕ)) (r : Result Unit E) (a b c : X) (text : List ℕ) → c ≡ b
    → is_err r ≡ true → GoesOut r (held a) (held b) text → AppendsPart (held a) (held c) text
writing_failed held (Ok x) a b c text same failed out = absurd (cc)
writing_failed held (Err f) a b c text same failed out = subst (λ x. AppendsPart (held a) (held x) text) (sym same) out

-- it failed as it was flushed
pub flush_failed : {X E : Type 0} (held : X → Option (List ℕ)) (r : Result Unit E) (a b c d : X) (text : List ℕ) → d ≡ c
    → is_err r ≡ false → GoesOut r (held a) (held b) text → Keeps (held b) (held c) → AppendsPart (held a) (held d) text
flush_failed held (Ok x) a b c d text same done out kept = (text, [], append-nil text, subst (λ x. Appends (held a) (held x) text) (sym same) (appends_kept (held a) (held b) (held c) text out kept))
flush_failed held (Err f) a b c d text same done out kept = absurd (cc)

-- of a failure that is told in a certain way, that alone
pub told_part : {E : Type 0} (P : E → Type 0) (r : Result Unit E) (old new : Option (List ℕ)) (text : List ℕ)
    → MatchResult r (λ _. Appends old new text) (λ f. P f × AppendsPart old new text) → GoesOut r old new text
told_part P (Ok x) old new text out = out
told_part P (Err f) old new text out = out.1
