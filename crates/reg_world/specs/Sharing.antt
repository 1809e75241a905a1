-- The wires of one process, whose common items are kept once. They carry a proof: no promise speaks of them.
use Rattle.std.specs.Prelude.{ℕ, ◌≡◌, ◌≤◌, List, [], ◌∷◌, length, take, slice_index_or}

-- what is kept of a wire: how many of the common items it has, or all of its own
pub record Strip (X : Type 0) : Type 0 where
  pub shared : ℕ
  pub own : List X

abbrev pub no_items : {X : Type 0} → Strip X
no_items = record { shared = 0; own = [] }

abbrev pub own_or_shared : {X : Type 0} → List X → List X → List X
own_or_shared [] shared = shared
own_or_shared (f ∷ fs) shared = f ∷ fs

-- the items of a wire
abbrev pub items_in : {X : Type 0} → List X → Strip X → List X
items_in common s = own_or_shared s.own (take s.shared common)

-- no wire has more of the common items than there are
abbrev pub AreInCommon : {X : Type 0} → List X → List (Strip X) → Type 0
AreInCommon common strips = (r : ℕ) → (slice_index_or strips r no_items).shared ≤ length common

-- what was there still comes first
abbrev pub IsLonger : {X : Type 0} → List X → List X → Type 0
IsLonger old new = take (length old) new ≡ old
