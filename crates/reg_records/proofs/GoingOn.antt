-- More events after more events.
use Rattle.std.proofs.Common.{◌≡◌, ℕ, zero, suc, ◌+◌, ◌<◌, ◌≤◌, List, [], ◌∷◌, ◌++◌, length, Some, refl, sym, ap, ◌∙◌}
use Rattle.std.proofs.Common.{subst, inl, inr, arith, append_assoc, length-append}
use Rattle.std.specs.Prelude.{slice_get}
use Rattle.std.proofs.lemmas.Bool.{cases_lt}
use Rattle.std.proofs.lemmas.List.{append-nil}
use Rattle.reg_base.specs.declared.limits.TheConstants.{MOST_EVENTS}
use Rattle.reg_base.specs.declared.memory.Op.{Op}
use Rattle.reg_front.specs.declared.starts.Start.{Start}
use Rattle.reg_process.specs.declared.events.Event.{Event}
use Rattle.reg_process.specs.declared.events.Event.TheVariants.{Call, Take, Tick}
use Rattle.reg_world.specs.Worlds.{Made}
use Rattle.reg_world.proofs.run.Along.{few_events}
use Rattle.reg_records.specs.declared.faults.SettleFault.{SettleFault}
use Rattle.reg_records.specs.declared.faults.SettleFault.TheVariants.{Failed, TooManyEvents, OutOfMemory}
use Rattle.reg_records.specs.Rest.{IsLater}
use Rattle.reg_records.specs.RestParts.{distance_in, IsGoingOn, Moves, AreLaterSince, Misses, Halts}

pub at_first : {X : Type 0} (xs ys : List X) (k : ℕ) → k < length xs → slice_get (xs ++ ys) k ≡ slice_get xs k
at_first [] ys k l = absurd (omega (arith, l))
at_first (x ∷ xs) ys zero l = refl
at_first (x ∷ xs) ys (suc k) l = at_first xs ys k (omega (arith, l))

pub at_behind : {X : Type 0} (xs ys : List X) (k : ℕ) → slice_get (xs ++ ys) (length xs + k) ≡ slice_get ys k
at_behind [] ys k = let e : 0 + k ≡ k = omega arith in ap (slice_get ys) e
at_behind (x ∷ xs) ys k = let e : length (x ∷ xs) + k ≡ suc (length xs + k) = omega arith in ap (slice_get (x ∷ (xs ++ ys))) e ∙ at_behind xs ys k

pub longer : (start : Op → ℕ → Start) (old new : Made) → Moves start old new → length old.accepted ≤ length new.accepted
longer start old new M =
    let a = ap length M.accepted in let b = length-append old.accepted M.more in omega (arith, a, b)

pub moves_none : (start : Op → ℕ → Start) (m : Made) → IsGoingOn start m → Moves start m m
moves_none start m G = record { on = G; processes = refl; registers = refl; more = []; accepted = sym (append-nil m.accepted); grows = λ a b. omega arith }

pub moves_both : (start : Op → ℕ → Start) (old mid new : Made) → Moves start old mid → Moves start mid new
    → Moves start old new
moves_both start old mid new A B = record {
  on = B.on;
  processes = B.processes ∙ A.processes;
  registers = B.registers ∙ A.registers;
  more = A.more ++ B.more;
  accepted = B.accepted ∙ (ap (λ es. es ++ B.more) A.accepted ∙ append_assoc old.accepted A.more B.more);
  grows = λ a b. let x = A.grows a b in let y = B.grows a b in omega (arith, x, y);
}

pub later_none : (passed : ℕ → ℕ → ℕ) (m : Made) → AreLaterSince passed m m
later_none passed m = record { each = λ k e l at. absurd (past m.accepted k e l at) }
  where
    past : (es : List Event) (k : ℕ) (e : Event) → length es ≤ k → slice_get es k ≡ Some e → ⊥
    past [] k e l at = cc
    past (x ∷ es) zero e l at = omega (arith, l)
    past (x ∷ es) (suc k) e l at = past es k e (omega (arith, l)) at

later_event : (passed less : ℕ → ℕ → ℕ) → ((a b : ℕ) → less a b ≤ passed a b) → (e : Event) → IsLater passed e
    → IsLater less e
later_event passed less le (Call p op) h = h
later_event passed less le (Take a b number) h = let x = le a b in omega (arith, x, h)
later_event passed less le (Tick p) h = tt

pub later_weaker : (passed less : ℕ → ℕ → ℕ) (old new : Made) → ((a b : ℕ) → less a b ≤ passed a b)
    → AreLaterSince passed old new → AreLaterSince less old new
later_weaker passed less old new le L = record { each = λ k e l at. later_event passed less le e (L.each k e l at) }

pub later_both : (start : Op → ℕ → Start) (passed : ℕ → ℕ → ℕ) (old mid new : Made) → Moves start mid new
    → AreLaterSince passed old mid → AreLaterSince passed mid new → AreLaterSince passed old new
later_both start passed old mid new B L N = record {
  each = λ k e l at. elim (cases_lt k (length mid.accepted)) [
    | inl s ↦ L.each k e l (sym (ap (λ es. slice_get es k) B.accepted ∙ at_first mid.accepted B.more k s) ∙ at)
    | inr s ↦ N.each k e s at
  ];
}

-- one event more
pub later_one : (passed : ℕ → ℕ → ℕ) (old new : Made) (e : Event) → new.accepted ≡ old.accepted ++ e ∷ []
    → IsLater passed e → AreLaterSince passed old new
later_one passed old new e is later =
    record { each = λ k f l at. only old.accepted k f l (ap (λ es. slice_get es k) (sym is) ∙ at) }
  where
    only : (es : List Event) (k : ℕ) (f : Event) → length es ≤ k → slice_get (es ++ e ∷ []) k ≡ Some f → IsLater passed f
    only [] zero f l at = let q : e ≡ f = cc in subst (IsLater passed) q later
    only [] (suc k) f l at = absurd (cc)
    only (x ∷ es) zero f l at = absurd (omega (arith, l))
    only (x ∷ es) (suc k) f l at = only es k f (omega (arith, l)) at

-- an end after events
pub halts_both : (start : Op → ℕ → Start) (passed : ℕ → ℕ → ℕ) (old mid new : Made) (limit all : ℕ)
    (fault : SettleFault)
    → Moves start old mid → AreLaterSince passed old mid → length mid.accepted + limit ≤ length old.accepted + all
    → Halts start passed mid limit fault new → Halts start passed old all fault new
halts_both start passed old mid new limit all Failed M L le H = H
halts_both start passed old mid new limit all TooManyEvents M L le H = (moves_both start old mid new M H.0, later_both start passed old mid new H.0 L H.1, H.2, H.3, let x = H.4 in omega (arith, x, le))
halts_both start passed old mid new limit all OutOfMemory M L le H =
    (H.0, moves_both start old mid H.0 M H.1, later_both start passed old mid H.0 H.1 L H.2, H.3, H.4)

-- an event that was not made
pub halts_here : (start : Op → ℕ → Start) (passed : ℕ → ℕ → ℕ) (m new : Made) (e : Event) (limit : ℕ)
    (fault : SettleFault)
    → IsGoingOn start m → length m.accepted ≤ MOST_EVENTS → 0 < limit → 0 < distance_in start m
    → Misses start m e fault new → Halts start passed m limit fault new
halts_here start passed m new e limit Failed G few l far H = H
halts_here start passed m new e limit TooManyEvents G few l far H =
    let q : m ≡ new = sym H.1 in
    let full : length m.accepted ≡ MOST_EVENTS = let a = H.0 in let b = ap length G.accepted in omega (arith, a, b, few) in
    subst (λ (z : Made). Moves start m z × AreLaterSince passed m z × (0 < distance_in start z) × (length z.accepted ≡ MOST_EVENTS) × (length z.accepted < length m.accepted + limit)) q
    (moves_none start m G, later_none passed m, far, full, omega (arith, l))
halts_here start passed m new e limit OutOfMemory G few l far H =
    (m, moves_none start m G, later_none passed m, far, ((e, H.0), H.1))

pub halts_weaker : (start : Op → ℕ → Start) (passed less : ℕ → ℕ → ℕ) (m new : Made) (limit : ℕ) (fault : SettleFault)
    → ((a b : ℕ) → less a b ≤ passed a b) → Halts start passed m limit fault new → Halts start less m limit fault new
halts_weaker start passed less m new limit Failed le H = H
halts_weaker start passed less m new limit TooManyEvents le H =
    (H.0, later_weaker passed less m new le H.1, H.2, H.3, H.4)
halts_weaker start passed less m new limit OutOfMemory le H =
    (H.0, H.1, later_weaker passed less m H.0 le H.2, H.3, H.4)

pub few_going : (start : Op → ℕ → Start) (m : Made) → IsGoingOn start m → length m.accepted ≤ MOST_EVENTS
few_going start m G =
    let a = few_events start m.processes m.registers m.accepted in let b = ap length G.accepted in omega (arith, a, b)
