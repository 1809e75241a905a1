-- What further entries, and one process more, tell.
use Rattle.std.proofs.Common.{◌≡◌, ℕ, ◌+◌, List, [], ◌∷◌, ◌++◌, Option, Some, None, false, refl, sym, ap, ◌∙◌, arith}
use Rattle.std.proofs.Common.{append-nil, append_assoc}
use Rattle.std.specs.List.{flat_map, range_with_len}
use Rattle.std.proofs.lemmas.Grind.{flat_map-append}
use Rattle.std.specs.Prelude.{◌==◌}
use Rattle.std.proofs.lemmas.Bool.{cond-false}
use Rattle.reg_base.specs.declared.memory.Answer.{Answer}
use Rattle.reg_base.specs.declared.memory.Op.{Op}
use Rattle.reg_base.specs.declared.memory.OpId.{OpId}
use Rattle.reg_checkers.specs.declared.entries.Entry.{Entry}
use Rattle.reg_checkers.specs.declared.entries.Entry.TheVariants.{Answered}
use Rattle.reg_outcomes.specs.declared.told.ToldAnswer.{ToldAnswer}
use Rattle.reg_outcomes.specs.Told.{called_last, told_in, told_at, told_from, told_of, outcome_of}
use Rattle.reg_workload.proofs.InOrder.{range_more}

-- the operation that a process called last, after entries
abbrev pub last_in : ℕ → Option Op → List Entry → Option Op
last_in p last [] = last
last_in p last (e ∷ es) = last_in p (called_last p last e) es

pub last_push : (p : ℕ) (last : Option Op) (es : List Entry) (e : Entry)
    → last_in p last (es ++ e ∷ []) ≡ called_last p (last_in p last es) e
last_push p last [] e = refl
last_push p last (x ∷ es) e = last_push p (called_last p last x) es e

-- entries tell what they tell after those before them
pub told_append : (p : ℕ) (last : Option Op) (es fs : List Entry)
    → told_from p last (es ++ fs) ≡ told_from p last es ++ told_from p (last_in p last es) fs
told_append p last [] fs = refl
told_append p last (e ∷ es) fs =
    ap (λ l. told_at p last e ++ l) (told_append p (called_last p last e) es fs)
    ∙ sym (append_assoc (told_at p last e) (told_from p (called_last p last e) es) (told_from p (last_in p (called_last p last e) es) fs))

pub told_push : (p : ℕ) (last : Option Op) (es : List Entry) (e : Entry)
    → told_from p last (es ++ e ∷ []) ≡ told_from p last es ++ told_at p (last_in p last es) e
told_push p last es e =
    told_append p last es (e ∷ []) ∙ ap (λ l. told_from p last es ++ l) (append-nil (told_at p (last_in p last es) e))

-- an answer of another process
pub none_of_other : (p : ℕ) (last : Option Op) (at : ℕ) (id : OpId) (a : Answer) → (id.process == p) ≡ false
    → told_at p last (Answered at id a) ≡ []
none_of_other p None at id a away = refl
none_of_other p (Some op) at id a away = cond-false (id.process == p) (told_in op id a) [] away

-- no process, and one process more
pub outcome_none : (es : List Entry) → [] ≡ outcome_of 0 es
unfolding outcome_of
outcome_none es = refl

pub outcome_next : (n : ℕ) (es : List Entry) (old new : List ToldAnswer) → old ≡ outcome_of n es
    → new ≡ old ++ told_of n es → new ≡ outcome_of (n + 1) es
unfolding outcome_of
outcome_next n es old new e f =
    f ∙ ap (λ l. l ++ told_of n es) e ∙ sym (ap (flat_map (λ p. told_of p es)) (range_more 0 n n (omega arith)) ∙ (flat_map-append (λ p. told_of p es) (range_with_len 0 n) (n ∷ []) ∙ ap (λ l. flat_map (λ p. told_of p es) (range_with_len 0 n) ++ l) (append-nil (told_of n es))))
