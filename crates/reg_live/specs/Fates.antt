-- What becomes of the parcels on a rough road. They carry a proof: no promise speaks of them.
use Rattle.std.specs.Prelude.{ℕ, ◌≡◌, ◌%◌, ◌==◌, ◌&&◌, Bool, not, nat_lt, Option, Some, None, if◌then◌else◌}
use Rattle.reg_live.specs.declared.roads.Parcel.{Parcel}
use Rattle.reg_live.specs.declared.roughs.Fate.{Fate}
use Rattle.reg_live.specs.declared.roughs.Fate.TheVariants.{Lost, Kept, Put}
use Rattle.reg_base.specs.Words.{says}

-- what becomes of a parcel that isn't lost: whether it is put twice, whether its last word is even, and whether one is
-- kept back already
abbrev pub fate_by : Bool → Bool → Bool → Fate
fate_by twice even keeps = if even && not keeps then Kept twice else Put twice

-- what becomes of a parcel that isn't lost, by the next two words, and the source after them
abbrev pub fate_left : {W : Type 0} → (W → ℕ × W) → ℕ → Bool → W → Fate × W
fate_left next_word repeat keeps w = (
  fate_by (says repeat (next_word w).0) ((next_word (next_word w).1).0 % 2 == 0) keeps,
  (next_word (next_word w).1).1,
)

-- What becomes of a parcel, and the source of words after it: of a lost one a single word is drawn, and else three.
abbrev pub fate_of : {W : Type 0} → (W → ℕ × W) → ℕ → ℕ → Bool → W → Fate × W
fate_of next_word loss repeat keeps w =
    if says loss (next_word w).0 then (Lost, (next_word w).1) else fate_left next_word repeat keeps (next_word w).1

-- what is put of a parcel, after a copy of it where there is one, and which one is kept back from then on
abbrev pub IsSorted : Fate → Option Parcel → Parcel → Option Parcel → Option Parcel → Option Parcel → Type 0
IsSorted Lost kept parcel after this earlier = (after ≡ kept) × (this ≡ None) × (earlier ≡ None)
IsSorted (Kept twice) kept parcel after this earlier = (after ≡ Some parcel) × (this ≡ None) × (earlier ≡ None)
IsSorted (Put twice) kept parcel after this earlier = (after ≡ None) × (this ≡ Some parcel) × (earlier ≡ kept)
