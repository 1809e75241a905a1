-- The line of a count, and the lines of as many elements.
use Rattle.std.proofs.Common.{ℕ, ◌≡◌, ◌≤◌, List, ◌∷◌, ◌++◌, length, map, sym, ap, ◌∙◌, arith}
use Rattle.std.specs.Fmt.{decimal}
use Rattle.reg_text.specs.Reading.{IsBlock}
use Rattle.reg_history.specs.LineForms.{IsCounted}

-- what stands after the count
pub block_of : {X : Type 0} (mark : List ℕ) (line_of : X → List ℕ) (Fits : List X → X → Type 0) (limit n : ℕ)
    (old mid rest : List (List ℕ)) (ys : List X)
    → ((k : ℕ) (r : List (List ℕ)) → k ≤ limit → old ≡ (mark ++ decimal k) ∷ r → (n ≡ k) × (mid ≡ r))
    → IsCounted mark line_of Fits limit old rest ys → IsBlock line_of Fits n mid rest ys
block_of mark line_of Fits limit n old mid rest ys count b =
    let both = count (length ys) (map line_of ys ++ rest) b.few b.lines in
    record { lines = both.1; fit = b.fit; count = sym both.0 }

-- the count, and as many elements
pub counted_of : {X : Type 0} (mark : List ℕ) (line_of : X → List ℕ) (Fits : List X → X → Type 0) (limit n : ℕ)
    (old mid rest : List (List ℕ)) (ys : List X)
    → n ≤ limit → old ≡ (mark ++ decimal n) ∷ mid
    → IsBlock line_of Fits n mid rest ys → IsCounted mark line_of Fits limit old rest ys
counted_of mark line_of Fits limit n old mid rest ys few e b =
    record { lines = e ∙ ap (λ l. (mark ++ decimal n) ∷ l) b.lines ∙ ap (λ k. (mark ++ decimal k) ∷ (map line_of ys ++ rest)) (sym b.count); fit = b.fit; few = omega (arith, b.count, few) }
