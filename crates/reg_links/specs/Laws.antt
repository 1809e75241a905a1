-- A link: what was queued and accepted, and what stands on the wires, whatever happens to the frames.
use Rattle.std.specs.Prelude.{ℕ, ◌≡◌, ◌+◌, ◌≤◌, ◌++◌, nat_eq, nat_lt, ◌&&◌, List, [], ◌∷◌, length, drop, take, Option}
use Rattle.std.specs.Prelude.{Some, None, if◌then◌else◌, slice_get, MatchOption, ⊤}
use Rattle.std.specs.List.{AllByRecursion}
use Rattle.reg_frames.specs.declared.bodies.Body.{Body}
use Rattle.reg_base.specs.declared.limits.TheConstants.{FRAME_NUMBERS}
use Rattle.reg_links.specs.Link.{Unacknowledged, next_of, with_queued, acknowledged}

-- What was queued; both ends; what was accepted; the data frames and the counts ever put, as numbers with bodies and as
-- numbers
pub record Link : Type 0 where
  pub queued : List Body
  pub out : Unacknowledged
  pub expected : ℕ
  pub accepted : List Body
  pub wire : List (ℕ × Body)
  pub back : List ℕ

-- A frame on the wire has the body that was queued under its number. A count is at most what was accepted.
pub record IsLink (l : Link) : Type 0 where
  pub next : next_of l.out ≡ length l.queued
  pub pending : l.out.pending ≡ drop l.out.first l.queued
  pub acknowledged : l.out.first ≤ l.expected
  pub within : l.expected ≤ length l.queued
  pub accepted : l.accepted ≡ take l.expected l.queued
  pub wire : AllByRecursion (λ f. slice_get l.queued f.0 ≡ Some f.1) l.wire
  pub back : AllByRecursion (λ n. n ≤ l.expected) l.back

-- a body is queued and put; the i-th pending body is put again; the k-th frame of the wire is taken, and a count put;
-- the k-th count of the wire back is taken
pub data LinkStep : Type 0 where
  Put : Body → LinkStep
  Resend : ℕ → LinkStep
  Take : ℕ → LinkStep
  Count : ℕ → LinkStep

-- an outbox queues a body while it has numbers, and puts it
abbrev pub queued : Link → Body → Link
queued l b =
    if nat_eq (next_of l.out) FRAME_NUMBERS
    then l
    else record l { queued = l.queued ++ b ∷ []; out = with_queued l.out b; wire = l.wire ++ (next_of l.out, b) ∷ [] }

abbrev pub resent : Link → ℕ → Option Body → Link
resent l i None = l
resent l i (Some b) = record l { wire = l.wire ++ (l.out.first + i, b) ∷ [] }

-- an inbox accepts the number expected, and its count is put back
abbrev pub taken : Link → Option (ℕ × Body) → Link
taken l None = l
taken l (Some f) =
    if nat_eq f.0 l.expected && nat_lt l.expected FRAME_NUMBERS
    then record l {
      expected = l.expected + 1;
      accepted = l.accepted ++ f.1 ∷ [];
      back = l.back ++ (l.expected + 1) ∷ [];
    }
    else record l { back = l.back ++ l.expected ∷ [] }

abbrev pub counted : Link → Option ℕ → Link
counted l None = l
counted l (Some n) = record l { out = acknowledged l.out n }

abbrev pub after : Link → LinkStep → Link
after l (Put b) = queued l b
after l (Resend i) = resent l i (slice_get l.out.pending i)
after l (Take k) = taken l (slice_get l.wire k)
after l (Count k) = counted l (slice_get l.back k)

abbrev pub IsNotAhead : Link → LinkStep → Type 0
IsNotAhead l (Count k) = MatchOption (slice_get l.back k) ⊤ (λ n. n ≤ next_of l.out)
IsNotAhead l s = ⊤

-- nothing was queued yet
abbrev pub unused : Link
unused =
    record { queued = []; out = record { first = 0; pending = [] }; expected = 0; accepted = []; wire = []; back = [] }

abbrev pub after_all : Link → List LinkStep → Link
after_all l [] = l
after_all l (s ∷ steps) = after_all (after l s) steps

-- what was accepted is the front of what was queued
abbrev pub AcceptsPrefix : Link → Type 0
AcceptsPrefix l = (rest : List Body) × (l.accepted ++ rest ≡ l.queued)
