-- Names on lines of their own.
use Rattle.std.proofs.Common.{ℕ, zero, suc, ◌≡◌, ◌<◌, List, [], ◌∷◌, ◌++◌, codes, length, map, get_or, None, Some}
use Rattle.std.proofs.Common.{slice_get, true, refl, sym, ap, ◌∙◌, subst, arith}
use Rattle.std.specs.Fmt.{decimal}
use Rattle.reg_base.specs.Names.{is_name, names_fault}
use Rattle.reg_text.specs.Reading.{IsBlock}
use Rattle.reg_text.proofs.NamesLack.{well_spelt}
use Rattle.reg_history.specs.Counted.{counted_lines}

each : (ns : List (List ℕ)) → ((r : ℕ) → r < length ns → is_name (get_or ns r []) ≡ true) → (k : ℕ) (x : List ℕ)
    → slice_get ns k ≡ Some x → is_name x ≡ true
each [] h k x e = absurd (cc)
each (n ∷ ns) h zero x e =
    let same : n ≡ x = cc in
    let P : List ℕ → Type 0 = λ l. is_name l ≡ true in
    subst P same (h 0 (omega arith))
each (n ∷ ns) h (suc k) x e = each ns (λ r l. h (suc r) (omega arith)) k x e

pub all_spelt : (ns : List (List ℕ)) → names_fault ns ≡ None → (k : ℕ) (x : List ℕ) → slice_get ns k ≡ Some x
    → is_name x ≡ true
all_spelt ns ok = each ns (λ r l. well_spelt ns r ok l)

pub map_same : (ns : List (List ℕ)) → map (λ n. n) ns ≡ ns
map_same [] = refl
map_same (n ∷ ns) = ap (λ l. n ∷ l) (map_same ns)

pub listed : (ns old rest : List (List ℕ)) (count : ℕ) → names_fault ns ≡ None → length ns ≡ count → old ≡ ns ++ rest
    → IsBlock (λ n. n) (λ _ n. is_name n ≡ true) count old rest ns
listed ns old rest count ok size e =
    record { lines = e ∙ ap (λ l. l ++ rest) (sym (map_same ns)); fit = λ k x h. all_spelt ns ok k x h; count = size }

pub some_name : (ns : List (List ℕ)) → names_fault ns ≡ None → 0 < length ns
some_name [] ok = absurd (cc)
some_name (n ∷ ns) ok = omega arith

-- the count of names, and a line for each
pub counted_names : (old mid rest ns : List (List ℕ)) (count : ℕ) → old ≡ (codes "registers " ++ decimal count) ∷ mid
    → mid ≡ ns ++ rest → length ns ≡ count → old ≡ counted_lines (codes "registers ") (λ name. name) ns rest
counted_names old mid rest ns count e f size =
    e ∙ ap (λ l. (codes "registers " ++ decimal count) ∷ l) (f ∙ ap (λ l. l ++ rest) (sym (map_same ns))) ∙ ap (λ k. (codes "registers " ++ decimal k) ∷ (map (λ name. name) ns ++ rest)) (sym size)
