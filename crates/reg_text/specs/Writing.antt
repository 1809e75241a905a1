-- What went out where a writer failed.
use Rattle.std.specs.Prelude.{◌≡◌, ℕ, Bool, true, false, List, ◌++◌, Option, MatchResult, Result}
use Rattle.reg_text.specs.declared.writing.Sink.{Sink}
use Rattle.std.specs.Io.KnownBytes.{Appends, Keeps}

-- Known bytes grow by a first part of bs
abbrev pub AppendsPart : Option (List ℕ) → Option (List ℕ) → List ℕ → Type 0
AppendsPart old new bs = (part rest : List ℕ) × (part ++ rest ≡ bs) × Appends old new part

-- Known bytes grow by bs where a call succeeded, and else by a first part of it.
abbrev pub IsWritten : {T E : Type 0} → Result T E → Option (List ℕ) → Option (List ℕ) → List ℕ → Type 0
IsWritten result old new bs = MatchResult result (λ _. Appends old new bs) (λ _. AppendsPart old new bs)

-- The same, and no other fault comes than this one.
abbrev pub IsWrittenOr : {T E : Type 0} → E → Result T E → Option (List ℕ) → Option (List ℕ) → List ℕ → Type 0
IsWrittenOr fault result old new bs =
    MatchResult result (λ _. Appends old new bs) (λ f. (f ≡ fault) × AppendsPart old new bs)

-- What went out to a writer that has failed or not, before and after: all of it, or, where it fails, a first part;
-- nothing after a failure.
abbrev pub Sends : Bool → Bool → Option (List ℕ) → Option (List ℕ) → List ℕ → Type 0
Sends false false old new bs = Appends old new bs
Sends false true old new bs = AppendsPart old new bs
Sends true true old new bs = Keeps old new
Sends true false old new bs = ⊥

-- A sink keeps its writer, and this was put into it.
pub record Puts {X : Type 0} (contents : X → Option (List ℕ)) (old new : Sink X) (bs : List ℕ) : Type 0 where
  pub same : new.writer.ghost_name ≡ old.writer.ghost_name
  pub sent : Sends old.failed new.failed (contents old.writer.now) (contents new.writer.now) bs
