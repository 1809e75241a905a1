-- Two readings that are both wanted.
use Rattle.std.proofs.Common.{◌≡◌, sym, subst, Option, Some, None, IfSome}
use Rattle.std.specs.Prelude.{IsSomeAnd}
use Rattle.std.specs.Option.{option_zip}

pub zip_read : {A B : Type 0} {P : A → Type 0} {Q : B → Type 0} (R : A × B → Type 0) (x : Option A) (y : Option B)
    → IfSome x P → IfSome y Q → ((a : A) (b : B) → P a → Q b → R (a, b)) → IfSome (option_zip x y) R
zip_read R None y p q both = tt
zip_read R (Some a) None p q both = tt
zip_read R (Some a) (Some b) p q both = both a b p q

pub zip_whole : {A B : Type 0} {Q : B → Type 0} (R : A × B → Type 0) (x : Option A) (y : Option B) (a : A) → x ≡ Some a
    → IsSomeAnd y Q → ((b : B) → Q b → R (a, b)) → IsSomeAnd (option_zip x y) R
zip_whole R x None a e q both = absurd q
zip_whole R x (Some b) a e q both = subst (λ z. IsSomeAnd (option_zip z (Some b)) R) (sym e) (both b q)
