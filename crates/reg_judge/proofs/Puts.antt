-- A function with another value at one place.
use Rattle.std.proofs.Common.{◌≡◌, ◌≢◌, ℕ, Option, Some, None, cond, ap}
use Rattle.std.proofs.lemmas.Bool.{eq-eqb, ne_eqb}
use Rattle.reg_judge.specs.Completing.{put}

pub put_here : {X : Type 0} (f : ℕ → X) (p : ℕ) (x : X) (q : ℕ) → q ≡ p → put f p x q ≡ x
put_here f p x q e = ap (λ b. cond b x (f q)) (eq-eqb q p e)

pub put_there : {X : Type 0} (f : ℕ → X) (p : ℕ) (x : X) (q : ℕ) → q ≢ p → put f p x q ≡ f q
put_there f p x q apart = ap (λ b. cond b x (f q)) (ne_eqb q p apart)

pub none_some : {X : Type 0} (o : Option X) (x : X) → o ≡ None → o ≡ Some x → ⊥
none_some o x none some = cc
