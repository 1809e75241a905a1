-- Reading an operation back.
use Rattle.std.proofs.Common.{ℕ, zero, suc, ◌≡◌, ◌<◌, ◌^◌, ◌↔◌, List, [], ◌∷◌, ◌++◌, length, drop, get_or, refl, sym}
use Rattle.std.proofs.Common.{ap, ◌∙◌, arith, Option, None, Some, IfSome, slice_get, codes}
use Rattle.std.specs.Fmt.{decimal}
use Rattle.reg_base.specs.Names.{names_fault}
use Rattle.reg_base.specs.declared.memory.Op.{Op}
use Rattle.reg_base.specs.declared.memory.Op.TheVariants.{Read, Write, Swap, CompareAndSwap}
use Rattle.reg_text.proofs.Formed.{first_same}
use Rattle.reg_text.specs.Parts.{Lacks}
use Rattle.reg_base.specs.Memory.{register_of}
use Rattle.reg_text.specs.Ops.{op_text, valued, compared, OpFits}
use Rattle.reg_text.specs.Reading.{HasValue}
use Rattle.reg_text.proofs.NumbersLack.{decimal_lacks}
use Rattle.reg_text.proofs.NamesLack.{is_got, got_is, nth_lacks}

-- what a search for a name tells
abbrev pub Finds : List (List ℕ) → List ℕ → Option ℕ → Type 0
Finds names name r = (i : ℕ) → (r ≡ Some i) ↔ (slice_get names i ≡ Some name)

pub found : (names : List (List ℕ)) (name : List ℕ) (r : Option ℕ) → Finds names name r
    → IfSome r (λ i. Finds names name (Some i))
found names name None F = tt
found names name (Some i) F = F

pub read_same : (names : List (List ℕ)) (text name : List ℕ) (reg : ℕ) (op : Op) → Finds names name (Some reg)
    → text ≡ codes "read " ++ name → OpFits names op → text ≡ op_text names op → Some (Read reg) ≡ Some op
read_same names text name reg (Read r) F s fits e =
    let same : name ≡ get_or names r [] = cc in
    let k : Some reg ≡ Some r = (F r).1 (is_got names r fits ∙ ap Some (sym same)) in
    let n : reg ≡ r = cc in
    ap (λ x. Some (Read x)) n
read_same names text name reg (Write r v) F s fits e = absurd (omega (arith, ap (λ l. get_or l 0 0) (sym s ∙ e)))
read_same names text name reg (Swap r v) F s fits e = absurd (omega (arith, ap (λ l. get_or l 0 0) (sym s ∙ e)))
read_same names text name reg (CompareAndSwap r x v) F s fits e = absurd (omega (arith, first_same (sym s ∙ e)))

pub unread : (names : List (List ℕ)) (text name : List ℕ) (op : Op) → Finds names name None
    → text ≡ codes "read " ++ name → OpFits names op → text ≡ op_text names op → ⊥
unread names text name (Read r) F s fits e =
    let same : name ≡ get_or names r [] = ap (drop 5) (sym s ∙ e) in
    let k : None ≡ Some r = (F r).1 (is_got names r fits ∙ ap Some (sym same)) in
    absurd (cc)
unread names text name (Write r v) F s fits e = omega (arith, first_same (sym s ∙ e))
unread names text name (Swap r v) F s fits e = omega (arith, first_same (sym s ∙ e))
unread names text name (CompareAndSwap r x v) F s fits e = omega (arith, first_same (sym s ∙ e))

-- what is read of a register and a value, where the text is theirs
abbrev pub Gives : List (List ℕ) → List ℕ → Option (ℕ × ℕ) → Type 0
Gives names rest found = (r v : ℕ) → r < length names → v < 2 ^ 64 → rest ≡ valued names r v → found ≡ Some (r, v)

pub unwritten : (names : List (List ℕ)) (text rest : List ℕ) (op : Op) → Gives names rest None
    → text ≡ codes "write " ++ rest → OpFits names op → text ≡ op_text names op → ⊥
unwritten names text rest (Read r) G s fits e = omega (arith, first_same (sym s ∙ e))
unwritten names text rest (Write r v) G s fits e =
    let none = G r v fits.0 fits.1 (ap (drop 6) (sym s ∙ e)) in
    absurd (cc)
unwritten names text rest (Swap r v) G s fits e = omega (arith, first_same (sym s ∙ e))
unwritten names text rest (CompareAndSwap r x v) G s fits e = omega (arith, first_same (sym s ∙ e))

pub unswapped : (names : List (List ℕ)) (text rest : List ℕ) (op : Op) → Gives names rest None
    → text ≡ codes "swap " ++ rest → OpFits names op → text ≡ op_text names op → ⊥
unswapped names text rest (Read r) G s fits e = omega (arith, first_same (sym s ∙ e))
unswapped names text rest (Write r v) G s fits e = omega (arith, first_same (sym s ∙ e))
unswapped names text rest (Swap r v) G s fits e =
    let none = G r v fits.0 fits.1 (ap (drop 5) (sym s ∙ e)) in
    absurd (cc)
unswapped names text rest (CompareAndSwap r x v) G s fits e = omega (arith, first_same (sym s ∙ e))

-- what is read of a register and two values, where the text is theirs
abbrev pub GivesTwo : List (List ℕ) → List ℕ → Option (ℕ × ℕ × ℕ) → Type 0
GivesTwo names rest found =
    (r x v : ℕ) → r < length names → x < 2 ^ 64 → v < 2 ^ 64 → rest ≡ compared names r x v → found ≡ Some (r, x, v)

pub uncompared : (names : List (List ℕ)) (text rest : List ℕ) (op : Op) → GivesTwo names rest None
    → text ≡ codes "cas " ++ rest → OpFits names op → text ≡ op_text names op → ⊥
uncompared names text rest (Read r) G s fits e = omega (arith, first_same (sym s ∙ e))
uncompared names text rest (Write r v) G s fits e = omega (arith, first_same (sym s ∙ e))
uncompared names text rest (Swap r v) G s fits e = omega (arith, first_same (sym s ∙ e))
uncompared names text rest (CompareAndSwap r x v) G s fits e =
    let none = G r x v fits.0 fits.1 fits.2 (ap (drop 4) (sym s ∙ e)) in
    absurd (cc)

pub compare_same : (names : List (List ℕ)) (text rest : List ℕ) (reg expected value : ℕ) (op : Op)
    → GivesTwo names rest (Some (reg, expected, value)) → text ≡ codes "cas " ++ rest → OpFits names op
    → text ≡ op_text names op
    → Some (CompareAndSwap reg expected value) ≡ Some op
compare_same names text rest reg expected value (Read r) G s fits e = absurd (omega (arith, first_same (sym s ∙ e)))
compare_same names text rest reg expected value (Write r v) G s fits e = absurd (omega (arith, first_same (sym s ∙ e)))
compare_same names text rest reg expected value (Swap r v) G s fits e = absurd (omega (arith, first_same (sym s ∙ e)))
compare_same names text rest reg expected value (CompareAndSwap r x v) G s fits e =
    let k = G r x v fits.0 fits.1 fits.2 (ap (drop 4) (sym s ∙ e)) in
    let same : ◌≡◌ {A = ℕ × ℕ × ℕ} (reg, expected, value) (r, x, v) = cc in
    ap (λ (p : ℕ × ℕ × ℕ). Some (CompareAndSwap p.0 p.1 p.2)) same

pub write_same : (names : List (List ℕ)) (text rest : List ℕ) (reg value : ℕ) (op : Op)
    → Gives names rest (Some (reg, value)) → text ≡ codes "write " ++ rest → OpFits names op → text ≡ op_text names op
    → Some (Write reg value) ≡ Some op
write_same names text rest reg value (Read r) G s fits e = absurd (omega (arith, first_same (sym s ∙ e)))
write_same names text rest reg value (Write r v) G s fits e =
    let k = G r v fits.0 fits.1 (ap (drop 6) (sym s ∙ e)) in
    let same : ◌≡◌ {A = ℕ × ℕ} (reg, value) (r, v) = cc in
    ap (λ (p : ℕ × ℕ). Some (Write p.0 p.1)) same
write_same names text rest reg value (Swap r v) G s fits e = absurd (omega (arith, first_same (sym s ∙ e)))
write_same names text rest reg value (CompareAndSwap r x v) G s fits e = absurd (omega (arith, first_same (sym s ∙ e)))

pub swap_same : (names : List (List ℕ)) (text rest : List ℕ) (reg value : ℕ) (op : Op)
    → Gives names rest (Some (reg, value)) → text ≡ codes "swap " ++ rest → OpFits names op → text ≡ op_text names op
    → Some (Swap reg value) ≡ Some op
swap_same names text rest reg value (Read r) G s fits e = absurd (omega (arith, first_same (sym s ∙ e)))
swap_same names text rest reg value (Write r v) G s fits e = absurd (omega (arith, first_same (sym s ∙ e)))
swap_same names text rest reg value (Swap r v) G s fits e =
    let k = G r v fits.0 fits.1 (ap (drop 5) (sym s ∙ e)) in
    let same : ◌≡◌ {A = ℕ × ℕ} (reg, value) (r, v) = cc in
    ap (λ (p : ℕ × ℕ). Some (Swap p.0 p.1)) same
swap_same names text rest reg value (CompareAndSwap r x v) G s fits e = absurd (omega (arith, first_same (sym s ∙ e)))

-- a text that begins with no operation's word
pub unspelt : (names : List (List ℕ)) (text : List ℕ) (op : Op) → ((rest : List ℕ) → text ≡ codes "read " ++ rest → ⊥)
    → ((rest : List ℕ) → text ≡ codes "write " ++ rest → ⊥) → ((rest : List ℕ) → text ≡ codes "swap " ++ rest → ⊥)
    → ((rest : List ℕ) → text ≡ codes "cas " ++ rest → ⊥) → text ≡ op_text names op → ⊥
unspelt names text (Read r) read write swap cas e = read (get_or names r []) e
unspelt names text (Write r v) read write swap cas e = write (valued names r v) e
unspelt names text (Swap r v) read write swap cas e = swap (valued names r v) e
unspelt names text (CompareAndSwap r x v) read write swap cas e = cas (compared names r x v) e

-- a name and a value that are cut at the space between them
abbrev pub IsCut : List ℕ → List ℕ → List ℕ → Type 0
IsCut text name digits =
    (front back : List ℕ) → Lacks 32 front → text ≡ front ++ 32 ∷ back → (name ≡ front) × (digits ≡ back)

pub valued_split : (names : List (List ℕ)) (text name digits : List ℕ) (r v : ℕ) → names_fault names ≡ None
    → IsCut text name digits → r < length names → text ≡ valued names r v
    → (slice_get names r ≡ Some name) × (digits ≡ decimal v)
valued_split names text name digits r v ok cut l e =
    let both = cut (get_or names r []) (decimal v) (nth_lacks 32 names r (omega arith) ok l) e in
    (is_got names r l ∙ ap Some (sym both.0), both.1)

pub valued_read : (names : List (List ℕ)) (text name digits : List ℕ) (reg value : ℕ) → text ≡ name ++ 32 ∷ digits
    → Finds names name (Some reg) → digits ≡ decimal value
    → (text ≡ valued names reg value) × (reg < length names)
valued_read names text name digits reg value cut F n =
    let t = got_is names reg name ((F reg).0 refl) in
    (cut ∙ ap (λ l. l ++ 32 ∷ digits) t.1 ∙ ap (λ l. get_or names reg [] ++ 32 ∷ l) n, t.0)

-- a name and two values
pub compared_split : (names : List (List ℕ)) (text name values expected value : List ℕ) (r x v : ℕ)
    → names_fault names ≡ None → IsCut text name values → IsCut values expected value → r < length names → x < 2 ^ 64
    → text ≡ compared names r x v
    → (slice_get names r ≡ Some name) × (expected ≡ decimal x) × (value ≡ decimal v)
compared_split names text name values expected value r x v ok cut again l small e =
    let both = cut (get_or names r []) (decimal x ++ 32 ∷ decimal v) (nth_lacks 32 names r (omega arith) ok l) e in
    let two = again (decimal x) (decimal v) (decimal_lacks 32 x (omega arith) small) both.1 in
    (is_got names r l ∙ ap Some (sym both.0), two.0, two.1)

pub compared_read : (names : List (List ℕ)) (text name values expected value : List ℕ) (reg x v : ℕ)
    → text ≡ name ++ 32 ∷ values → values ≡ expected ++ 32 ∷ value → Finds names name (Some reg) → expected ≡ decimal x
    → value ≡ decimal v
    → (text ≡ compared names reg x v) × (reg < length names)
compared_read names text name values expected value reg x v cut again F n m =
    let t = got_is names reg name ((F reg).0 refl) in
    (cut ∙ ap (λ l. l ++ 32 ∷ values) t.1 ∙ ap (λ l. get_or names reg [] ++ 32 ∷ l) (again ∙ ap (λ l. l ++ 32 ∷ value) n ∙ ap (λ l. decimal x ++ 32 ∷ l) m), t.0)

pub missing : (names : List (List ℕ)) (r : ℕ) → slice_get names r ≡ None → [] ≡ get_or names r []
missing [] r h = refl
missing (n ∷ names) zero h = absurd (cc)
missing (n ∷ names) (suc r) h = missing names r h

-- an operation within the limits, from its parts
pub op_fits : (names : List (List ℕ)) (op : Op) → register_of op < length names → HasValue op → OpFits names op
op_fits names (Read r) l v = l
op_fits names (Write r w) l v = (l, v)
op_fits names (Swap r w) l v = (l, v)
op_fits names (CompareAndSwap r x w) l v = (l, v.0, v.1)
