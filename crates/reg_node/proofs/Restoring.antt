-- The writes with which a chapter is opened, value by value.
use Rattle.std.proofs.Common.{◌≡◌, ℕ, ◌+◌, ◌==◌, List, [], ◌∷◌, ◌++◌, length, take, replicate, get_or, refl, ap, ap₂}
use Rattle.std.proofs.Common.{sym, ◌∙◌, subst, arith, ◌<◌, append-nil, append_assoc, length-append}
use Rattle.std.proofs.lemmas.Bool.{cond_both, eqb-true}
use Rattle.std.proofs.lemmas.List.{length-take-le, set_at, take_more}
use Rattle.reg_base.specs.declared.memory.Op.{Op}
use Rattle.reg_base.specs.declared.memory.Op.TheVariants.{Write}
use Rattle.reg_base.specs.Memory.{memory, memory_after}
use Rattle.reg_node.specs.Openings.{opening_of, write_of, writes_from}

-- one more value
writes_push : (register : ℕ) (values : List ℕ) (value : ℕ)
    → writes_from register (values ++ value ∷ [])
    ≡ writes_from register values ++ write_of (register + length values) value
writes_push register [] value =
    let at : register ≡ register + 0 = omega arith in
    append-nil (write_of register value) ∙ ap (λ (r : ℕ). write_of r value) at
writes_push register (v ∷ vs) value =
    let at : register + 1 + length vs ≡ register + length (v ∷ vs) = omega arith in
    ap (λ (ops : List Op). write_of register v ++ ops) (writes_push (register + 1) vs value ∙ ap (λ (r : ℕ). writes_from (register + 1) vs ++ write_of r value) at)
    ∙ sym (append_assoc (write_of register v) (writes_from (register + 1) vs) (write_of (register + length (v ∷ vs)) value))

pub opening_more : (values : List ℕ) (i : ℕ) → i < length values
    → opening_of (take (i + 1) values) ≡ opening_of (take i values) ++ write_of i (get_or values i 0)
opening_more values i within =
    ap opening_of (take_more values i 0 within) ∙ (writes_push 0 (take i values) (get_or values i 0)
    ∙ ap (λ (r : ℕ). opening_of (take i values) ++ write_of r (get_or values i 0)) (let size = length-take-le i values (omega (arith, within)) in omega (arith, size)))

-- with the first values there, and the others 0, the writes of the others give them all
abbrev Restored : List ℕ → List ℕ → Type 0
Restored done rest = memory_after (writes_from (length done) rest) (done ++ replicate (length rest) 0) ≡ done ++ rest

-- the value behind those that are there is there too
value_there : (done : List ℕ) (value : ℕ) (rest : List ℕ) → Restored (done ++ value ∷ []) rest
    → memory_after (writes_from (length done + 1) rest) (done ++ value ∷ replicate (length rest) 0)
    ≡ done ++ value ∷ rest
value_there done value rest more =
    let size : length done + 1 ≡ length (done ++ value ∷ []) = sym (length-append done (value ∷ [])) in
    ap₂ (λ (r : ℕ) (m : List ℕ). memory_after (writes_from r rest) m) size (sym (append_assoc done (value ∷ []) (replicate (length rest) 0)))
    ∙ (more ∙ append_assoc done (value ∷ []) rest)

restored : (done rest : List ℕ) → Restored done rest
restored done [] = refl
restored done (value ∷ rest) =
    let there = value_there done value rest (restored (done ++ value ∷ []) rest) in
    cond_both (value == 0) [] (Write (length done) value ∷ []) (λ (ops : List Op). memory_after (ops ++ writes_from (length done + 1) rest) (done ++ 0 ∷ replicate (length rest) 0) ≡ done ++ value ∷ rest)
    (λ e. subst (λ (v : ℕ). memory_after (writes_from (length done + 1) rest) (done ++ v ∷ replicate (length rest) 0) ≡ done ++ value ∷ rest) (eqb-true value 0 e) there)
    (λ _. ap (λ (m : List ℕ). memory_after (writes_from (length done + 1) rest) m) (set_at done 0 (replicate (length rest) 0) value (length done) refl) ∙ there)

pub opening_restores : (values : List ℕ) → memory (length values) (opening_of values) ≡ values
opening_restores values = restored [] values
