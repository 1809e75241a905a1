-- One thing put after another.
use Rattle.std.proofs.Common.{ℕ, ◌≡◌, List, ◌++◌, Option}
use Rattle.reg_text.specs.declared.writing.Sink.{Sink}
use Rattle.reg_text.specs.Writing.{Puts}
use Rattle.reg_text.proofs.Sent.{puts_two, puts_as}

infixr 5 ◌▸◌
-- one thing, and then another
pub ◌▸◌ : {S : Type 0} {held : S → Option (List ℕ)} {a b c : Sink S} {xs ys : List ℕ} → Puts held a b xs
    → Puts held b c ys → Puts held a c (xs ++ ys)
◌▸◌ {S} {held} {a} {b} {c} {xs} {ys} p q = puts_two held a b c xs ys p q

-- a thing, by an equal text
pub as_text : {S : Type 0} {held : S → Option (List ℕ)} {a b : Sink S} {xs ys : List ℕ} → xs ≡ ys → Puts held a b xs
    → Puts held a b ys
as_text {S} {held} {a} {b} {xs} {ys} e p = puts_as held a b xs ys e p
