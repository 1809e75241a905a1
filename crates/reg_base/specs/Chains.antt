-- Chains of names, by which a name is found. They carry a proof: no promise speaks of them.
use Rattle.std.specs.Prelude.{ℕ, ◌+◌, ◌*◌, ◌%◌, ◌≡◌, ◌≢◌, ◌<◌, ◌⊎◌, List, length, get_or, []}
use Rattle.std.specs.List.{fold}

-- how many chains there are
abbrev pub chains : ℕ
chains = 4096

-- the hash of a name goes over its letters
abbrev pub mix : ℕ → ℕ → ℕ
mix hash letter = (hash * 31 + letter) % chains

-- the chain of a name
abbrev pub chain : List ℕ → ℕ
chain name = fold mix 0 name

-- the chain of the name at a place
abbrev pub chain_at : List (List ℕ) → ℕ → ℕ
chain_at names place = chain (get_or names place [])

-- Of the places below the end, this is the last one whose name is in the chain; 0 also stands for none.
abbrev pub IsLastBelow : List (List ℕ) → ℕ → ℕ → ℕ → Type 0
IsLastBelow names c end place =
    ((other : ℕ) → place < other → other < end → chain_at names other ≢ c)
    × ((place ≡ 0) ⊎ ((place < end) × (chain_at names place ≡ c)))

-- each chain's last name, and for each name the one before it in its chain
pub record AreChains (names : List (List ℕ)) (heads earlier : List ℕ) : Type 0 where
  pub last : (c : ℕ) → c < chains → IsLastBelow names c (length names) (get_or heads c 0)
  pub before : (place : ℕ) → place < length names
      → IsLastBelow names (chain_at names place) place (get_or earlier place 0)
