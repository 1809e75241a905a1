-- What joined texts lack.
use Rattle.std.proofs.Common.{ℕ, zero, suc, ◌≡◌, ◌<◌, ◌==◌, ◌^◌, not, List, [], ◌∷◌, ◌++◌, length, replicate, codes}
use Rattle.std.proofs.Common.{None, refl, arith}
use Rattle.std.specs.List.{list_all}
use Rattle.std.specs.Fmt.{decimal}
use Rattle.reg_base.specs.declared.memory.Op.{Op}
use Rattle.reg_base.specs.declared.memory.Op.TheVariants.{Read, Write, Swap, CompareAndSwap}
use Rattle.reg_base.specs.Names.{names_fault}
use Rattle.reg_text.specs.Parts.{Lacks}
use Rattle.reg_text.specs.Ops.{name_of, valued, compared, op_text, OpFits}
use Rattle.reg_text.proofs.NamesLack.{both_true, nth_lacks}
use Rattle.reg_text.proofs.NumbersLack.{decimal_lacks}

pub joined : (m : ℕ) (a b : List ℕ) → Lacks m a → Lacks m b → Lacks m (a ++ b)
joined m [] b h k = k
joined m (x ∷ a) b h k =
    let both = both_true (not (x == m)) (list_all (λ c. not (c == m)) a) h in
    rw (both.0) (joined m a b both.1 k)

pub spaces_lack : (n : ℕ) → Lacks 10 (replicate n 32)
spaces_lack zero = refl
spaces_lack (suc n) = spaces_lack n

pub number : (n : ℕ) → n < 2 ^ 64 → Lacks 10 (decimal n)
number n small = decimal_lacks 10 n (omega arith) small

valued_lacks : (names : List (List ℕ)) (r v : ℕ) → names_fault names ≡ None → r < length names → v < 2 ^ 64
    → Lacks 10 (valued names r v)
valued_lacks names r v ok fits small = joined 10 (name_of names r) (32 ∷ decimal v) (nth_lacks 10 names r (omega arith) ok fits) (joined 10 (32 ∷ []) (decimal v) refl (number v small))

compared_lacks : (names : List (List ℕ)) (r e v : ℕ) → names_fault names ≡ None → r < length names → e < 2 ^ 64
    → v < 2 ^ 64 → Lacks 10 (compared names r e v)
compared_lacks names r e v ok fits low small =
    joined 10 (name_of names r) (32 ∷ (decimal e ++ 32 ∷ decimal v)) (nth_lacks 10 names r (omega arith) ok fits)
    (joined 10 (32 ∷ []) (decimal e ++ 32 ∷ decimal v) refl (joined 10 (decimal e) (32 ∷ decimal v) (number e low) (joined 10 (32 ∷ []) (decimal v) refl (number v small))))

pub op_lacks : (names : List (List ℕ)) (op : Op) → names_fault names ≡ None → OpFits names op
    → Lacks 10 (op_text names op)
op_lacks names (Read r) ok fits =
    joined 10 (codes "read ") (name_of names r) refl (nth_lacks 10 names r (omega arith) ok fits)
op_lacks names (Write r v) ok fits =
    joined 10 (codes "write ") (valued names r v) refl (valued_lacks names r v ok fits.0 fits.1)
op_lacks names (Swap r v) ok fits =
    joined 10 (codes "swap ") (valued names r v) refl (valued_lacks names r v ok fits.0 fits.1)
op_lacks names (CompareAndSwap r e v) ok fits =
    joined 10 (codes "cas ") (compared names r e v) refl (compared_lacks names r e v ok fits.0 fits.1 fits.2)
