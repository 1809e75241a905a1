-- The calls of a turn: of one process the next operation of its script.
use Rattle.std.proofs.Common.{◌≡◌, ℕ, zero, suc, ◌+◌, ◌<◌, List, [], ◌∷◌, ◌++◌, length, map, take, set, replicate, refl}
use Rattle.std.proofs.Common.{sym, ap, ◌∙◌, inl, inr, arith, append-nil, get_or-set_same, get_or-set_other}
use Rattle.std.specs.Prelude.{cond, ◌==◌, slice_index}
use Rattle.std.proofs.lemmas.Bool.{cond-true, cond-false, eq-eqb, ne_eqb}
use Rattle.std.proofs.lemmas.Grind.{flat_map-append}
use Rattle.std.proofs.lemmas.List.{take_more}
use Rattle.std.proofs.lemmas.Option.{slice_get_within}
use Rattle.std.proofs.Math.Seq.{take-length}
use Rattle.reg_base.specs.declared.memory.Op.{Op}
use Rattle.reg_base.specs.Order.{In}
use Rattle.reg_process.specs.declared.events.Event.{Event}
use Rattle.reg_process.specs.declared.events.Event.TheVariants.{Call, Take, Tick}
use Rattle.reg_process.specs.Process.{no_peer, pending_of}
use Rattle.reg_checkers.specs.History.{IsAt}
use Rattle.reg_outcomes.proofs.Elements.{has_at}
use Rattle.reg_records.specs.Rest.{IsLater}
use Rattle.reg_workload.specs.Plays.{call_at, calls_of}
use Rattle.reg_outcomes.specs.Interleavings.{script_of}
use Rattle.reg_outcomes.specs.Showing.{caller_in, callers}
use Rattle.reg_outcomes.proofs.TurningMoves.{IsQuiet}
use Rattle.reg_outcomes.proofs.MissingWalk.{length_of_script}

pub later_quiet : (passed : ℕ → ℕ → ℕ) (e : Event) → IsLater passed e → IsQuiet e
later_quiet passed (Call p op) h = h
later_quiet passed (Take from to number) h = tt
later_quiet passed (Tick p) h = tt

quiet_calls : (q : ℕ) (more : List Event) → ((e : Event) → In e more → IsQuiet e) → calls_of q more ≡ []
quiet_calls q [] h = refl
quiet_calls q (Call p op ∷ more) h = absurd (h (Call p op) (inl refl))
quiet_calls q (Take from to number ∷ more) h = quiet_calls q more (λ e i. h e (inr i))
quiet_calls q (Tick p ∷ more) h = quiet_calls q more (λ e i. h e (inr i))

-- so the processes that call are those of before, and this one
quiet_callers : (more : List Event) → ((e : Event) → In e more → IsQuiet e) → callers more ≡ []
quiet_callers [] h = refl
quiet_callers (Call p op ∷ more) h = absurd (h (Call p op) (inl refl))
quiet_callers (Take from to number ∷ more) h = quiet_callers more (λ e i. h e (inr i))
quiet_callers (Tick p ∷ more) h = quiet_callers more (λ e i. h e (inr i))

pub turn_callers : (p : ℕ) (op : Op) (events more : List Event) (turns : List ℕ) → ((e : Event) → In e more → IsQuiet e)
    → callers events ≡ turns → callers ((events ++ Call p op ∷ []) ++ more) ≡ turns ++ p ∷ []
turn_callers p op events more turns h old =
    flat_map-append caller_in (events ++ Call p op ∷ []) more
    ∙ ap (λ l. callers (events ++ Call p op ∷ []) ++ l) (quiet_callers more h)
    ∙ append-nil (callers (events ++ Call p op ∷ []))
    ∙ flat_map-append caller_in events (Call p op ∷ [])
    ∙ ap (λ l. l ++ p ∷ []) old

-- a call, and then none
turn_calls : (q p : ℕ) (op : Op) (events more : List Event) → ((e : Event) → In e more → IsQuiet e)
    → calls_of q ((events ++ Call p op ∷ []) ++ more) ≡ calls_of q events ++ cond (p == q) (op ∷ []) []
turn_calls q p op events more h =
    flat_map-append (call_at q) (events ++ Call p op ∷ []) more
    ∙ ap (λ l. calls_of q (events ++ Call p op ∷ []) ++ l) (quiet_calls q more h)
    ∙ append-nil (calls_of q (events ++ Call p op ∷ []))
    ∙ flat_map-append (call_at q) events (Call p op ∷ [])
    ∙ ap (λ l. calls_of q events ++ l) (append-nil (cond (p == q) (op ∷ []) []))

pub index_set : (next : List ℕ) (p x : ℕ) → p < length next → slice_index (set next p x) p ≡ x
index_set next p x l = get_or-set_same next p x 0 l

pub index_other : (next : List ℕ) (p q x : ℕ) → (q ≡ p → ⊥) → slice_index (set next p x) q ≡ slice_index next q
index_other next p q x ne = get_or-set_other next p q x 0 ne

-- the process that has its turn called one operation more, and each other one none
pub own_calls : (p : ℕ) (op : Op) (events more : List Event) (script : List Op) (k j : ℕ)
    → ((e : Event) → In e more → IsQuiet e) → calls_of p events ≡ take k script → IsAt script k op → j ≡ k + 1
    → calls_of p ((events ++ Call p op ∷ []) ++ more) ≡ take j script
own_calls p op events more script k j h old at e =
    turn_calls p p op events more h
    ∙ ap (λ l. calls_of p events ++ l) (cond-true (p == p) (op ∷ []) [] (eq-eqb p p refl))
    ∙ ap (λ l. l ++ op ∷ []) old
    ∙ ap (λ x. take k script ++ x ∷ []) (sym (has_at script k op op at))
    ∙ sym (take_more script k op (slice_get_within script k op at))
    ∙ ap (λ z. take z script) (sym e)

pub other_calls : (p q : ℕ) (op : Op) (events more : List Event) (called : List Op)
    → ((e : Event) → In e more → IsQuiet e) → calls_of q events ≡ called → (q ≡ p → ⊥)
    → calls_of q ((events ++ Call p op ∷ []) ++ more) ≡ called
other_calls p q op events more called h old ne =
    turn_calls q p op events more h
    ∙ ap (λ l. calls_of q events ++ l) (cond-false (p == q) (op ∷ []) [] (ne_eqb p q (λ e. ne (sym e))))
    ∙ append-nil (calls_of q events) ∙ old

-- none was called
pub take_none : {X : Type 0} (xs : List X) (k : ℕ) → k ≡ 0 → [] ≡ take k xs
take_none [] zero e = refl
take_none [] (suc k) e = refl
take_none (x ∷ xs) zero e = refl
take_none (x ∷ xs) (suc k) e = absurd (omega (arith, e))

-- or all were
pub all_called : (scripts : List (List Op)) (next : List ℕ) (p : ℕ) → next ≡ map length scripts
    → take (slice_index next p) (script_of scripts p) ≡ script_of scripts p
all_called scripts next p e = ap (λ l. take (slice_index l p) (script_of scripts p)) e ∙ ap (λ k. take k (script_of scripts p)) (length_of_script scripts p) ∙ take-length (script_of scripts p)

pub none_pending : (n : ℕ) → pending_of (replicate n no_peer) ≡ 0
none_pending zero = refl
none_pending (suc n) = let e = none_pending n in omega (arith, e)
