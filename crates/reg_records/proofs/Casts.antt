-- How many casts are left on a link.
use Rattle.std.proofs.Common.{◌≡◌, ℕ, zero, suc, ◌+◌, List, [], ◌∷◌, ◌++◌, Some, drop, cond, refl, sym, ap, ◌∙◌, arith}
use Rattle.std.specs.Prelude.{slice_get}
use Rattle.std.specs.List.{count_by}
use Rattle.std.proofs.lemmas.List.Sums.{sum_by-cons, sum_by-append}
use Rattle.reg_frames.specs.declared.bodies.Body.{Body}
use Rattle.reg_frames.specs.declared.bodies.Body.TheVariants.{Ack}
use Rattle.reg_records.specs.Rest.{is_cast}

-- a body, as a number
abbrev pub weight : Body → ℕ
weight body = cond (is_cast body) 1 0

pub casts_cons : (b : Body) (bs : List Body) → count_by is_cast (b ∷ bs) ≡ weight b + count_by is_cast bs
casts_cons b bs = sum_by-cons weight b bs

-- the body at the place is left, and is not once the place is passed
pub casts_passed : (k : ℕ) (bs : List Body) (b : Body) → slice_get bs k ≡ Some b
    → count_by is_cast (drop k bs) ≡ weight b + count_by is_cast (drop (k + 1) bs)
casts_passed k [] b h = absurd (let e : Some b ≡ Some b = refl in cc)
casts_passed zero (x ∷ xs) b h = let e : x ≡ b = cc in casts_cons x xs ∙ ap (λ z. weight z + count_by is_cast xs) e
casts_passed (suc k) (x ∷ xs) b h =
    let q : k + 1 ≡ k + 1 = refl in
    let e : suc k + 1 ≡ suc (k + 1) = omega arith in
    casts_passed k xs b h ∙ ap (λ j. weight b + count_by is_cast (drop j (x ∷ xs))) (sym e)

-- an acknowledgement at the end is none
pub casts_acked : (k : ℕ) (bs : List Body) (time : ℕ)
    → count_by is_cast (drop k (bs ++ Ack time ∷ [])) ≡ count_by is_cast (drop k bs)
casts_acked zero bs time = let a = sum_by-append weight bs (Ack time ∷ []) in omega (arith, a)
casts_acked (suc zero) [] time = refl
casts_acked (suc (suc k)) [] time = refl
casts_acked (suc k) (x ∷ xs) time = casts_acked k xs time
