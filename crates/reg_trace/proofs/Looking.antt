-- The states after the events of a run, one after another, and the registers of a copy.
use Rattle.std.proofs.Common.{ℕ, zero, suc, ◌≡◌, ◌+◌, ◌<◌, ◌≤◌, List, [], ◌∷◌, ◌++◌, length, drop, get_or, append_assoc}
use Rattle.std.proofs.Common.{append-nil, refl, sym, ap, ap₂, ◌∙◌, arith, drop-cons, unwrap_or}
use Rattle.std.proofs.lemmas.List.{drop_all}
use Rattle.std.specs.Prelude.{slice_index, slice_get, cond, ◌==◌}
use Rattle.std.proofs.lemmas.Bool.{ne_eqb, eq-eqb}
use Rattle.reg_base.specs.declared.memory.Op.{Op}
use Rattle.reg_front.specs.declared.starts.Start.{Start}
use Rattle.reg_process.specs.declared.events.Event.{Event}
use Rattle.reg_world.specs.Worlds.{Made, with_event}
use Rattle.reg_trace.specs.declared.data.looks.Kept.{Kept}
use Rattle.reg_trace.specs.Looks.{Look, kept_of, look_behind, looks_from}

-- one more state told
pub one_told : (start : Op → ℕ → Start) (w new : Made) (looks pushed all : List Look) (m : Look) (events : List Event)
    (i : ℕ) (d : Event)
    → i < length events → new ≡ with_event start w (get_or events i d) → m ≡ look_behind start w (get_or events i d)
    → pushed ≡ looks ++ m ∷ [] → looks ++ looks_from start w (drop i events) ≡ all
    → pushed ++ looks_from start new (drop (i + 1) events) ≡ all
one_told start w new looks pushed all m events i d lt is_new is_m is_pushed so =
    let e = get_or events i d in
    let k : i + 1 ≡ suc i = omega arith in
    let rest = looks_from start (with_event start w e) (drop (suc i) events) in
    ap₂ (λ (a : List Look) (v : Made). a ++ looks_from start v (drop (i + 1) events)) is_pushed is_new
    ∙ (ap (λ (j : ℕ). (looks ++ m ∷ []) ++ looks_from start (with_event start w e) (drop j events)) k
    ∙ (append_assoc looks (m ∷ []) rest
    ∙ (ap (λ (f : Look). looks ++ f ∷ rest) is_m
    ∙ (ap (λ (es : List Event). looks ++ looks_from start w es) (sym (drop-cons events i d lt)) ∙ so))))

-- all states told
pub all_told : (start : Op → ℕ → Start) (w : Made) (looks all : List Look) (events : List Event) (i : ℕ)
    → length events ≤ i → looks ++ looks_from start w (drop i events) ≡ all → looks ≡ all
all_told start w looks all events i ge so =
    sym (append-nil looks) ∙ (ap (λ (es : List Event). looks ++ looks_from start w es) (sym (drop_all i events ge)) ∙ so)

-- one more register that is not 0
pub kept_more : (values : List ℕ) (r value : ℕ) → value ≡ slice_index values r → (value ≡ 0 → ⊥)
    → kept_of values (r + 1) ≡ kept_of values r ++ record { register = r; value = value } ∷ []
kept_more values r value is differs =
    let k : r + 1 ≡ suc r = omega arith in
    ap (kept_of values) k
    ∙ ap (λ (l : List Kept). kept_of values r ++ l) (sym (ap (λ v. cond (v == 0) [] (record { register = r; value = v } ∷ [])) is)
    ∙ ap (λ b. cond b [] (record { register = r; value = value } ∷ [])) (ne_eqb value 0 differs))

-- one more that is
pub kept_same : (values : List ℕ) (r value : ℕ) → value ≡ slice_index values r → value ≡ 0
    → kept_of values (r + 1) ≡ kept_of values r
kept_same values r value is none =
    let k : r + 1 ≡ suc r = omega arith in
    ap (kept_of values) k
    ∙ (ap (λ (l : List Kept). kept_of values r ++ l) (sym (ap (λ v. cond (v == 0) [] (record { register = r; value = v } ∷ [])) is)
    ∙ ap (λ b. cond b [] (record { register = r; value = value } ∷ [])) (eq-eqb value 0 none)) ∙ append-nil (kept_of values r))
