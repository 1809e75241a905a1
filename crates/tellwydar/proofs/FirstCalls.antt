-- What a first call makes of an empty history.
use Rattle.std.proofs.Common.{◌≡◌, ℕ, zero, suc, List, [], ◌∷◌, length, Option, Some, None, Result, Ok, Err, refl, sym}
use Rattle.std.proofs.Common.{ap, ◌∙◌, subst, arith}
use Rattle.std.specs.Prelude.{IfOk, MatchResult}
use Rattle.std.proofs.lemmas.Option.{same_Some, none-some}
use Rattle.reg_base.specs.declared.memory.Op.{Op}
use Rattle.reg_base.specs.declared.memory.OpId.{OpId}
use Rattle.reg_process.specs.declared.steps.Reply.{Reply}
use Rattle.reg_checkers.specs.declared.entries.Entry.{Entry}
use Rattle.reg_checkers.specs.declared.entries.Entry.TheVariants.{Called, Answered}
use Rattle.reg_checkers.specs.History.{IsAt, IsNext, WasCalled}
use Rattle.reg_process.specs.declared.events.Event.{Event}
use Rattle.reg_process.specs.declared.events.Event.TheVariants.{Call}
use Rattle.reg_world.specs.Histories.{AddsAnswer, Grows}
use Rattle.tellwydar.specs.Firsts.{first_id, first_entries}

none_called : (id : OpId) → WasCalled [] id → ⊥
none_called id (at, op, (k, here)) = none-some (Called at id op) here

first_number : (id : OpId) (k : ℕ) → id.number ≡ k → IsNext [] id → id.number ≡ 0
first_number id zero is next = is
first_number id (suc k) is next =
    absurd (none_called (record { process = id.process; number = 0 }) ((next 0).0 (omega (arith, is))))

abbrev id_of : Entry → OpId
id_of (Called at id op) = id
id_of (Answered at id answer) = id

only_called : (at k : ℕ) (id : OpId) (op : Op) (x : Entry) → IsAt (Called at id op ∷ []) k x → id_of x ≡ id
only_called at zero id op x here = ap id_of (sym (same_Some (Called at id op) x here))
only_called at (suc k) id op x here = absurd (none-some x here)

answers_is : (at p : ℕ) (op : Op) (reply : Option Reply) (new : List Entry)
    → AddsAnswer at (Called at (first_id p) op ∷ []) p reply new → new ≡ first_entries at p op reply
answers_is at p op None new is = is
answers_is at p op (Some reply) new (id, same, ((at1, op1, (k, here)), runs), is) =
    is ∙ ap (λ (z : OpId). Called at (first_id p) op ∷ Answered at z reply.answer ∷ []) (only_called at k (first_id p) op (Called at1 id op1) here)

first_is : (at p : ℕ) (op : Op) (reply : Option Reply) (old new : List Entry) → old ≡ []
    → Grows at old (Call p op) reply new → new ≡ first_entries at p op reply
first_is at p op reply old new none grows = go (subst (λ (l : List Entry). Grows at l (Call p op) reply new) none grows)
  where
    go : Grows at [] (Call p op) reply new → new ≡ first_entries at p op reply
    go (called, (id, same, next, is), adds) =
        let number = first_number id id.number refl next in
        let mine : id ≡ first_id p = λ i. record { process = same i; number = number i } in
        answers_is at p op reply new (subst (λ (l : List Entry). AddsAnswer at l p reply new) (is ∙ ap (λ (z : OpId). Called at z op ∷ []) mine) adds)

pub first_ok : {E : Type 0} (Refused : E → Type 0) (events : List Event) (p : ℕ) (op : Op)
    (result : Result (Option Reply) E) (old new : List Entry)
    → old ≡ [] → MatchResult result (λ reply. Grows (length events) old (Call p op) reply new) Refused
    → IfOk result (λ reply. new ≡ first_entries (length events) p op reply)
first_ok Refused events p op (Ok reply) old new none grows = first_is (length events) p op reply old new none grows
first_ok Refused events p op (Err e) old new none grows = tt
