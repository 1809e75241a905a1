-- What the threads of a crew performed.
use Rattle.std.proofs.Common.{◌≡◌, ℕ, zero, suc, ◌+◌, ◌⊎◌, inl, inr, Bool, true, false, List, [], ◌∷◌, ◌++◌, length}
use Rattle.std.proofs.Common.{map, drop, refl, ap, sym, subst, ◌∙◌, arith, Some, Result, Ok, Err, OnOk, IfOk}
use Rattle.std.specs.Prelude.{is_ok}
use Rattle.std.proofs.lemmas.Option.{same_Some}
use Rattle.reg_base.specs.declared.memory.Op.{Op}
use Rattle.reg_checkers.specs.History.{IsAt}
use Rattle.reg_checkers.proofs.Places.{at_map}
use Rattle.reg_checkers.proofs.Pushing.{at_push}
use Rattle.reg_records.specs.declared.entries.Receipt.{Receipt}
use Rattle.reg_live.specs.Passes.{Held, AreOwn, IsListOf}
use Rattle.reg_live.specs.Scripts.{ops_of, IsBack, AreStarted, ArePerformed}

-- what stands first after n elements
pub drop_at : {X : Type 0} (xs : List X) (n : ℕ) (x : X) (rest : List X) → drop n xs ≡ x ∷ rest
    → IsAt xs n x × (rest ≡ drop (n + 1) xs)
drop_at [] zero x rest h = absurd cc
drop_at [] (suc n) x rest h = absurd cc
drop_at (y ∷ ys) zero x rest h =
    let here : y ≡ x = cc in let more : ys ≡ rest = cc in (ap Some here, sym more)
drop_at (y ∷ ys) (suc n) x rest h =
    let below = drop_at ys n x rest h in
    let next : suc n + 1 ≡ suc (n + 1) = omega arith in
    (below.0, below.1 ∙ ap (λ (m : ℕ). drop m (y ∷ ys)) (sym next))

-- lists with the same elements at the same places
same_at : {X : Type 0} (xs ys : List X) → length xs ≡ length ys → ((k : ℕ) (x : X) → IsAt xs k x → IsAt ys k x)
    → xs ≡ ys
same_at [] [] len at = refl
same_at [] (y ∷ ys) len at = absurd cc
same_at (x ∷ xs) [] len at = absurd cc
same_at (x ∷ xs) (y ∷ ys) len at =
    let head : y ≡ x = same_Some y x (at zero x refl) in
    let rest : xs ≡ ys = same_at xs ys (omega arith) (λ k z here. at (suc k) z here) in
    cc

-- one more thread, for the next script
pub started_push : (scripts : List (List Op)) (threads : List (ℕ × List Op)) (t : ℕ × List Op) (n : ℕ)
    → ((k : ℕ) (u : ℕ × List Op) → IsAt threads k u → (u.0 ≡ k) × IsAt scripts k u.1)
    → length threads ≡ n → t.0 ≡ n → IsAt scripts n t.1 → (k : ℕ) (u : ℕ × List Op) → IsAt (threads ++ t ∷ []) k u → (u.0 ≡ k) × IsAt scripts k u.1
started_push scripts threads t n each len own script k u at = go (at_push threads k t u at)
  where
    go : IsAt threads k u ⊎ ((k ≡ length threads) × (u ≡ t)) → (u.0 ≡ k) × IsAt scripts k u.1
    go (inl here) = each k u here
    go (inr (e, same)) =
        let place : n ≡ k = sym (e ∙ len) in
        subst (λ (v : ℕ × List Op). (v.0 ≡ k) × IsAt scripts k v.1) (sym same) (subst (λ (q : ℕ). (t.0 ≡ q) × IsAt scripts q t.1) place (own, script))

-- the k-th pass is that of the k-th thread, and has performed its script
abbrev pub AreBack : List (ℕ × List Op) → List Held → Type 0
AreBack threads passes = (k : ℕ) (pass : Held) → IsAt passes k pass → (t : ℕ × List Op) × IsAt threads k t × (pass.me ≡ t.0) × (ops_of pass.receipts ≡ t.1)

pub back_push : (threads : List (ℕ × List Op)) (old new : List Held) (process : ℕ) (script : List Op) (n : ℕ)
    → AreBack threads old → length old ≡ n → IsAt threads n (process, script) → IsBack old process script new
    → AreBack threads new
back_push threads old new process script n are len thread is k pass at =
    go (at_push old k is.pass pass (subst (λ (l : List Held). IsAt l k pass) is.pushed at))
  where
    go : IsAt old k pass ⊎ ((k ≡ length old) × (pass ≡ is.pass)) → (t : ℕ × List Op) × IsAt threads k t × (pass.me ≡ t.0) × (ops_of pass.receipts ≡ t.1)
    go (inl here) = are k pass here
    go (inr (e, same)) =
        let place : n ≡ k = sym (e ∙ len) in
        subst (λ (p : Held). (t : ℕ × List Op) × IsAt threads k t × (p.me ≡ t.0) × (ops_of p.receipts ≡ t.1)) (sym same) ((process, script), subst (λ (q : ℕ). IsAt threads q (process, script)) place thread, is.own, is.ops)

-- once all are back
pub performed_back : (scripts : List (List Op)) (threads : List (ℕ × List Op)) (passes : List Held)
    → AreBack threads passes → length passes ≡ length threads → AreStarted scripts threads → ArePerformed scripts passes
performed_back scripts threads passes are len started = record { each = each; all = len ∙ started.all }
  where
    each : (k : ℕ) (pass : Held) → IsAt passes k pass → (pass.me ≡ k) × IsAt scripts k (ops_of pass.receipts)
    each k pass at =
        let back = are k pass at in
        let of = started.each k back.0 back.1 in
        (back.2 ∙ of.0, subst (λ (s : List Op). IsAt scripts k s) (sym back.3) of.1)

-- the receipts of a closed cluster are for the scripts that its passes performed
pub receipts_are : (scripts : List (List Op)) (passes : List Held) (lists : List (List Receipt)) → AreOwn passes lists
    → length lists ≡ length passes → ArePerformed scripts passes → map ops_of lists ≡ scripts
receipts_are scripts passes lists own len are =
    same_at (map ops_of lists) scripts (omega (arith, length_map lists, len, are.all)) at
  where
    length_map : (ls : List (List Receipt)) → length (map ops_of ls) ≡ length ls
    length_map [] = refl
    length_map (l ∷ ls) = ap suc (length_map ls)

    at : (k : ℕ) (ops : List Op) → IsAt (map ops_of lists) k ops → IsAt scripts k ops
    at k ops here =
        let from = at_map ops_of lists k ops here in
        let one : IsListOf passes k from.0 = own k from.0 from.1 in
        let performed = are.each one.one.0 one.pass one.one.1 in
        let place : one.one.0 ≡ k = sym performed.0 ∙ one.process in
        let same : ops_of one.pass.receipts ≡ ops = ap ops_of one.same ∙ from.2 in
        subst (λ (s : List Op). IsAt scripts k s) same (subst (λ (q : ℕ). IsAt scripts q (ops_of one.pass.receipts)) place performed.1)

-- what is told goes on only where it was so far
pub told_step : {E P Q S : Type 0} (old new : Result (Unit {0}) E) → OnOk old P → OnOk new ((old ≡ Ok tt) × Q)
    → (P → Q → S) → OnOk new S
told_step old (Err e) p q f = tt
told_step (Ok u) (Ok v) p q f = f p q.1
told_step (Err e) (Ok v) p q f = absurd (let bad = q.0 in cc)

pub told_so : {E P : Type 0} (told : Result (Unit {0}) E) (u : Unit {0}) → told ≡ Ok u → OnOk told P → P
told_so (Ok v) u is p = p
told_so (Err e) u is p = absurd cc

-- what is told of any scripts that were started, told of those that were, where all callers were started
pub where_all : {T X E Y L : Type 0} (started : Result X E) (all : Bool) (told : Result T Y) (A : L → Type 0)
    (Q : T → L → Type 0) (s : L)
    → all ≡ is_ok started → OnOk started (A s) → OnOk told (all ≡ true) → IfOk told (λ (c : T). (l : L) → A l → Q c l)
    → IfOk told (λ (c : T). Q c s)
where_all started all (Err y) A Q s is are was each = tt
where_all (Ok x) all (Ok c) A Q s is are was each = each s are
where_all (Err e) all (Ok c) A Q s is are was each = absurd (cc)
