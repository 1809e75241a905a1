-- The step of an event, from the parts of a world.
use Rattle.std.proofs.Common.{◌≡◌, ℕ, zero, suc, ◌<◌, ◌≤◌, Bool, true, false, cond, List, [], ◌∷◌, length, None, Err}
use Rattle.std.proofs.Common.{refl, sym, ap, ◌∙◌, arith}
use Rattle.std.specs.Prelude.{nat_lt, ◌==◌, slice_get}
use Rattle.std.proofs.lemmas.Bool.{eqb-true, eq-eqb}
use Rattle.std.proofs.lemmas.Bool.Decides.{nat_tests}
use Rattle.reg_world.specs.declared.faults.WorldFault.TheVariants.{NoProcess, NoFrame, TooManyEvents}
use Rattle.reg_world.specs.Members.{Standing}
use Rattle.reg_base.specs.declared.limits.TheConstants.{MOST_EVENTS}
use Rattle.reg_process.specs.declared.events.Event.{Event}
use Rattle.reg_world.specs.Pages.{Pages}
use Rattle.reg_world.specs.WorldParts.{wire_in, frame_or, frame_in, found_step, found}

pub past_none : {X : Type 0} (xs : List X) (k : ℕ) → length xs ≤ k → slice_get xs k ≡ None
past_none [] k l = refl
past_none (x ∷ xs) zero l = absurd (omega arith)
past_none (x ∷ xs) (suc k) l = past_none xs k (omega arith)

pub less_true : (a b : ℕ) → a < b → nat_lt a b ≡ true
less_true a b h = grind (arith, nat_tests)

pub not_less : (a b : ℕ) → b ≤ a → nat_lt a b ≡ false
not_less a b h = grind (arith, nat_tests)

pub differ_false : (a b : ℕ) → (a ≡ b → ⊥) → (a == b) ≡ false
differ_false a b h = go (a == b) refl
  where
    go : (t : Bool) → (a == b) ≡ t → (a == b) ≡ false
    go true e = absurd (h (eqb-true a b e))
    go false e = e

pub frame_is : (members : List Standing) (from to number : ℕ) → from < length members → to < length members
    → (from ≡ to → ⊥)
    → frame_or (slice_get (wire_in (slice_get members from) to) number) ≡ frame_in members from to number
frame_is members from to number f t ne =
    let last = frame_or (slice_get (wire_in (slice_get members from) to) number) in
    sym (ap (λ b. cond b (cond (nat_lt to (length members)) (cond (from == to) (Err NoFrame) last) (Err NoProcess)) (Err NoProcess)) (less_true from (length members) f)
    ∙ (ap (λ b. cond b (cond (from == to) (Err NoFrame) last) (Err NoProcess)) (less_true to (length members) t)
    ∙ ap (λ b. cond b (Err NoFrame) last) (differ_false from to ne)))

pub no_sender : (members : List Standing) (from to number : ℕ) → length members ≤ from
    → Err NoProcess ≡ frame_in members from to number
no_sender members from to number f =
    let last = frame_or (slice_get (wire_in (slice_get members from) to) number) in
    sym (ap (λ b. cond b (cond (nat_lt to (length members)) (cond (from == to) (Err NoFrame) last) (Err NoProcess)) (Err NoProcess)) (not_less from (length members) f))

pub no_receiver : (members : List Standing) (from to number : ℕ) → from < length members → length members ≤ to
    → Err NoProcess ≡ frame_in members from to number
no_receiver members from to number f t =
    let last = frame_or (slice_get (wire_in (slice_get members from) to) number) in
    sym (ap (λ b. cond b (cond (nat_lt to (length members)) (cond (from == to) (Err NoFrame) last) (Err NoProcess)) (Err NoProcess)) (less_true from (length members) f)
    ∙ ap (λ b. cond b (cond (from == to) (Err NoFrame) last) (Err NoProcess)) (not_less to (length members) t))

pub no_wire : (members : List Standing) (from to number : ℕ) → from < length members → to < length members → from ≡ to
    → Err NoFrame ≡ frame_in members from to number
no_wire members from to number f t e =
    let last = frame_or (slice_get (wire_in (slice_get members from) to) number) in
    sym (ap (λ b. cond b (cond (nat_lt to (length members)) (cond (from == to) (Err NoFrame) last) (Err NoProcess)) (Err NoProcess)) (less_true from (length members) f)
    ∙ (ap (λ b. cond b (cond (from == to) (Err NoFrame) last) (Err NoProcess)) (less_true to (length members) t)
    ∙ ap (λ b. cond b (Err NoFrame) last) (eq-eqb from to e)))

-- no event is left
pub none_more : (members : List Standing) (b : Pages) (e : Event) → MOST_EVENTS ≤ length b.accepted
    → Err TooManyEvents ≡ found members b e
none_more members b e l =
    sym (ap (λ t. cond t (found_step members b e) (Err TooManyEvents)) (not_less (length b.accepted) MOST_EVENTS l))

pub one_more : (members : List Standing) (b : Pages) (e : Event) → length b.accepted < MOST_EVENTS
    → found_step members b e ≡ found members b e
one_more members b e l =
    sym (ap (λ t. cond t (found_step members b e) (Err TooManyEvents)) (less_true (length b.accepted) MOST_EVENTS l))
