-- Events are those of their outlines and values.
use Rattle.std.proofs.Common.{◌≡◌, ℕ, List, [], ◌∷◌, ◌++◌, map, refl, sym, ap, ◌∙◌, subst}
use Rattle.std.specs.List.{flat_map}
use Rattle.std.proofs.lemmas.List.{map-append, append-nil}
use Rattle.std.proofs.lemmas.Grind.{flat_map-append}
use Rattle.reg_base.specs.declared.memory.Op.TheVariants.{Read, Write, Swap, CompareAndSwap}
use Rattle.reg_process.specs.declared.events.Event.{Event}
use Rattle.reg_process.specs.declared.events.Event.TheVariants.{Call, Take, Tick}
use Rattle.reg_world.specs.declared.outlines.Outline.{Outline}
use Rattle.reg_world.specs.Outlines.{outline_of, values_of, events_of, AreOf}

again : (events : List Event) → events_of (map outline_of events) (flat_map values_of events) ≡ events
again [] = refl
again (Call p (Read r) ∷ es) = ap (λ l. Call p (Read r) ∷ l) (again es)
again (Call p (Write r v) ∷ es) = ap (λ l. Call p (Write r v) ∷ l) (again es)
again (Call p (Swap r v) ∷ es) = ap (λ l. Call p (Swap r v) ∷ l) (again es)
again (Call p (CompareAndSwap r e v) ∷ es) = ap (λ l. Call p (CompareAndSwap r e v) ∷ l) (again es)
again (Take from to number ∷ es) = ap (λ l. Take from to number ∷ l) (again es)
again (Tick p ∷ es) = ap (λ l. Tick p ∷ l) (again es)

of_these : (os : List Outline) (vs : List ℕ) (events : List Event) → AreOf os vs events → events_of os vs ≡ events
of_these os vs events these =
    ap (λ z. events_of z vs) these.outlines ∙ (ap (events_of (map outline_of events)) these.values ∙ again events)

with_one : (os : List Outline) (vs : List ℕ) (events : List Event) (e : Event) → AreOf os vs events
    → AreOf (os ++ outline_of e ∷ []) (vs ++ values_of e) (events ++ e ∷ [])
with_one os vs events e these = record {
  outlines = ap (λ z. z ++ outline_of e ∷ []) these.outlines ∙ sym (map-append outline_of events (e ∷ []));
  values =
      ap (λ z. z ++ values_of e) these.values
      ∙ (ap (λ z. flat_map values_of events ++ z) (sym (append-nil (values_of e))) ∙ sym (flat_map-append values_of events (e ∷ [])));
}

-- an event is added
pub added : (os new_os : List Outline) (vs new_vs : List ℕ) (e : Event) → AreOf os vs (events_of os vs)
    → new_os ≡ os ++ outline_of e ∷ [] → new_vs ≡ vs ++ values_of e
    → events_of new_os new_vs ≡ events_of os vs ++ e ∷ []
added os new_os vs new_vs e these outlined valued =
    ap (λ z. events_of z new_vs) outlined
    ∙ (ap (events_of (os ++ outline_of e ∷ [])) valued
    ∙ of_these (os ++ outline_of e ∷ []) (vs ++ values_of e) (events_of os vs ++ e ∷ []) (with_one os vs (events_of os vs) e these))

pub still_these : (os new_os : List Outline) (vs new_vs : List ℕ) (e : Event) → AreOf os vs (events_of os vs)
    → new_os ≡ os ++ outline_of e ∷ [] → new_vs ≡ vs ++ values_of e
    → AreOf new_os new_vs (events_of new_os new_vs)
still_these os new_os vs new_vs e these outlined valued =
    let one = with_one os vs (events_of os vs) e these in
    subst (AreOf new_os new_vs) (sym (added os new_os vs new_vs e these outlined valued))
    (record { outlines = outlined ∙ one.outlines; values = valued ∙ one.values })
