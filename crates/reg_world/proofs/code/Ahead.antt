-- The events that a run has ahead.
use Rattle.std.proofs.Common.{◌≡◌, ℕ, zero, suc, ◌+◌, ◌<◌, Bool, false, List, [], ◌∷◌, length, drop, get_or, Some, refl}
use Rattle.std.proofs.Common.{ap, sym, subst, ◌∙◌, arith}
use Rattle.std.specs.Prelude.{slice_get}
use Rattle.reg_base.specs.declared.memory.Op.{Op}
use Rattle.reg_base.specs.Shape.{Extent}
use Rattle.reg_front.specs.declared.starts.Start.{Start}
use Rattle.reg_process.specs.declared.events.Event.{Event}
use Rattle.reg_world.specs.Pages.{Pages}
use Rattle.reg_world.specs.Members.{Standing}
use Rattle.reg_world.specs.WorldParts.{IsWorld}

first_of : (at : ℕ) (events : List Event) (e : Event) → Some e ≡ slice_get (drop at events) 0
    → (at < length events) × (get_or events at e ≡ e)
first_of zero [] e h = absurd (cc)
first_of (suc at) [] e h = absurd (cc)
first_of zero (x ∷ xs) e h = (omega arith, cc)
first_of (suc at) (x ∷ xs) e h = let r = first_of at xs e h in (let l = r.0 in omega (arith, l), r.1)

-- the first event that is ahead of so many is the next one
pub first_ahead : (at : ℕ) (events ahead : List Event) (e : Event) → ahead ≡ drop at events → Some e ≡ slice_get ahead 0
    → (at < length events) × (get_or events at e ≡ e)
first_ahead at events ahead e is h = first_of at events e (subst (λ (l : List Event). Some e ≡ slice_get l 0) is h)

drop_next : (at : ℕ) (events : List Event) → drop 1 (drop at events) ≡ drop (suc at) events
drop_next zero events = refl
drop_next (suc at) [] = refl
drop_next (suc at) (x ∷ xs) = drop_next at xs

pub next_ahead : (at : ℕ) (events old new : List Event) → old ≡ drop at events → new ≡ drop 1 old
    → new ≡ drop (at + 1) events
next_ahead at events old new is e =
    let k : suc at ≡ at + 1 = omega arith in
    e ∙ ap (drop 1) is ∙ drop_next at events ∙ ap (λ n. drop n events) k

-- the events ahead are no part of a world
pub with_ahead : (start : Op → ℕ → Start) (failed : Bool) (members : List Standing) (b new : Pages)
    (events : List Event)
    → IsWorld start failed members b → failed ≡ false → new ≡ record b { ahead = events }
    → IsWorld start false members new
with_ahead start failed members b new events I no_stop is =
    subst (λ (z : Pages). IsWorld start false members z) (sym is) (record {
      few = I.few;
      size = I.size;
      tells = record { accepted = I.tells.accepted; entries = I.tells.entries; order = I.tells.order; reads = I.tells.reads; tallies = I.tells.tallies };
      makes = I.makes;
      stand = λ h. record { each = (I.stand no_stop).each };
    })

pub same_extent : (a b : Extent) → a.processes ≡ b.processes → a.registers ≡ b.registers → a ≡ b
same_extent a b p r = λ i. record { processes = p i; registers = r i }
