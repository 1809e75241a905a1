-- A run, event by event: what holds at its start, and is kept by each event, holds of every run.
use Rattle.std.proofs.Common.{◌≡◌, ℕ, ◌+◌, ◌<◌, ◌≤◌, List, [], ◌∷◌, ◌++◌, length, map, Option, Some, None, refl, sym}
use Rattle.std.proofs.Common.{ap, ◌∙◌, subst, arith, length-append}
use Rattle.std.specs.Prelude.{nat_lt}
use Rattle.std.proofs.lemmas.Bool.{cond_both, ltb-true}
use Rattle.std.proofs.lemmas.Option.{none-some}
use Rattle.reg_base.specs.declared.limits.TheConstants.{MOST_EVENTS}
use Rattle.reg_base.specs.declared.memory.Op.{Op}
use Rattle.reg_base.specs.declared.stamps.Delivered.{Delivered}
use Rattle.reg_front.specs.declared.starts.Start.{Start}
use Rattle.reg_process.specs.declared.steps.Step.{Step}
use Rattle.reg_process.specs.Process.{State, Outcome, step}
use Rattle.reg_process.specs.declared.events.Event.{Event}
use Rattle.reg_world.specs.declared.order.First.{First}
use Rattle.reg_world.specs.Nodes.{step_of, unseen}
use Rattle.reg_world.specs.Runs.{Cast}
use Rattle.reg_world.specs.World.{World, op_id, casts_in, first_of, delivered_of, move_of, moved, happens, run}
use Rattle.reg_world.specs.World.{empty_world, whole}
use Rattle.reg_world.proofs.run.Traced.{Past, Trace, casts_of, firsts, count_after, order_after, pasts_after, after}
use Rattle.reg_world.proofs.run.Traced.{plain, traced_by, pasts_along, no_pasts, traced}
use Rattle.reg_world.proofs.lists.Members.{map_append, from_end}

pub plain_firsts : (casts : List Cast) (at : ℕ) (ds : List Delivered)
    → map plain (map (first_of casts at) ds) ≡ firsts at ds
plain_firsts casts at [] = refl
plain_firsts casts at (d ∷ ds) = ap (λ l. record { cast = d; at = at } ∷ l) (plain_firsts casts at ds)

pub plain_casts : (fs : List First) → casts_of (map plain fs) ≡ map delivered_of fs
plain_casts [] = refl
plain_casts (f ∷ fs) = ap (λ l. delivered_of f ∷ l) (plain_casts fs)

-- an event makes a move, within the most events, or nothing
pub move_is : (n registers : ℕ) (w : World) (e : Event) (m : ℕ × Step) → move_of n registers w e ≡ Some m
    → (length w.accepted < MOST_EVENTS) × (step_of n registers w.nodes e ≡ Some m)
move_is n registers w e m =
    cond_both (nat_lt (length w.accepted) MOST_EVENTS) (step_of n registers w.nodes e) None (λ o. o ≡ Some m → (length w.accepted < MOST_EVENTS) × (step_of n registers w.nodes e ≡ Some m))
    (λ b h. (ltb-true (length w.accepted) MOST_EVENTS b, h)) (λ b h. absurd (none-some m h))

pub moves : (n registers : ℕ) (w : World) (e : Event) (P : Option (ℕ × Step) → Type 0)
    → P (step_of n registers w.nodes e) → P None → P (move_of n registers w e)
moves n registers w e P some none =
    cond_both (nat_lt (length w.accepted) MOST_EVENTS) (step_of n registers w.nodes e) None P (λ b. some) (λ b. none)

pub run_parts : (start : Op → ℕ → Start) (n registers : ℕ) (es more : List Event) (w : World)
    → run start n registers (es ++ more) w ≡ run start n registers more (run start n registers es w)
run_parts start n registers [] more w = refl
run_parts start n registers (e ∷ es) more w = run_parts start n registers es more (happens start n registers w e)

pub one_more : (start : Op → ℕ → Start) (n registers : ℕ) (events : List Event) (e : Event)
    → whole start n registers (events ++ e ∷ [])
    ≡ moved start (whole start n registers events) e (move_of n registers (whole start n registers events) e)
one_more start n registers events e = run_parts start n registers events (e ∷ []) (empty_world n registers)

pasts_more : (start : Op → ℕ → Start) (n registers : ℕ) (es : List Event) (e : Event) (w : World) (pasts : ℕ → Past)
    → let w' = run start n registers es w in pasts_along start n registers (es ++ e ∷ []) w pasts ≡ pasts_after start (traced_by w' (pasts_along start n registers es w pasts)) (move_of n registers w' e)
pasts_more start n registers [] e w pasts = refl
pasts_more start n registers (x ∷ es) e w pasts = pasts_more start n registers es e (happens start n registers w x) (pasts_after start (traced_by w pasts) (move_of n registers w x))

-- what a move adds to the order, seen without ids
order_moved : (start : Op → ℕ → Start) (w : World) (pasts : ℕ → Past) (e : Event) (m : ℕ × Step)
    → map plain (moved start w e (Some m)).order ≡ order_after start (traced_by w pasts) (Some m)
order_moved start w pasts e m =
    let R : State × Outcome = step start (w.nodes m.0).state m.1 in
    let at = length w.accepted in
    let casts = w.casts ++ casts_in (op_id m.0 (w.nodes m.0).state.calls) m.1 R.1.cast in
    let known : map delivered_of w.order ≡ casts_of (map plain w.order) = sym (plain_casts w.order) in
    map_append plain w.order (map (first_of casts at) (unseen (map delivered_of w.order) R.1.delivered))
    ∙ ap (λ l. map plain w.order ++ l) (plain_firsts casts at (unseen (map delivered_of w.order) R.1.delivered) ∙ ap (λ k. firsts at (unseen k R.1.delivered)) known)

pub moved_traced : (start : Op → ℕ → Start) (w : World) (pasts : ℕ → Past) (e : Event) (m : Option (ℕ × Step))
    → traced_by (moved start w e m) (pasts_after start (traced_by w pasts) m) ≡ after start (traced_by w pasts) m
moved_traced start w pasts e None = refl
moved_traced start w pasts e (Some m) =
    let count : length (w.accepted ++ e ∷ []) ≡ length w.accepted + 1 = length-append w.accepted (e ∷ []) in
    let v = after start (traced_by w pasts) (Some m) in
    (λ i. record { pasts = v.pasts; nodes = v.nodes; count = count i; order = order_moved start w pasts e m i })

pub traced_more : (start : Op → ℕ → Start) (n registers : ℕ) (events : List Event) (e : Event)
    → traced start n registers (events ++ e ∷ [])
    ≡ after start (traced start n registers events) (move_of n registers (whole start n registers events) e)
traced_more start n registers events e =
    let w = whole start n registers events in
    let pasts = pasts_along start n registers events (empty_world n registers) no_pasts in
    (λ i. traced_by (one_more start n registers events e i) (pasts_more start n registers events e (empty_world n registers) no_pasts i)) ∙ moved_traced start w pasts e (move_of n registers w e)

-- induction over the events
module _ (start : Op → ℕ → Start) (n registers : ℕ) (P : Trace → Type 0) where
  pub along : P (traced start n registers [])
      → ((events : List Event) (e : Event) → P (traced start n registers events)
      → P (after start (traced start n registers events) (move_of n registers (whole start n registers events) e)))
      → (events : List Event) → P (traced start n registers events)
  along first next events = from_end (λ es. P (traced start n registers es)) first (λ es e h. subst P (sym (traced_more start n registers es e)) (next es e h)) events

pub few_events : (start : Op → ℕ → Start) (n registers : ℕ) (events : List Event)
    → length (whole start n registers events).accepted ≤ MOST_EVENTS
few_events start n registers =
    along start n registers (λ v. v.count ≤ MOST_EVENTS) (omega arith)
    (λ events e h. within (move_of n registers (whole start n registers events) e) (length (whole start n registers events).accepted) h (λ m is. (move_is n registers (whole start n registers events) e m is).0))
  where
    within : (m : Option (ℕ × Step)) (k : ℕ) → k ≤ MOST_EVENTS → ((s : ℕ × Step) → m ≡ Some s → k < MOST_EVENTS) → count_after k m ≤ MOST_EVENTS
    within None k h less = h
    within (Some s) k h less = let z = less s refl in omega (arith, z)
