-- A frame in one word of 32 bits. They carry a proof: no promise speaks of them.
use Rattle.std.specs.Prelude.{ℕ, zero, suc, ◌≡◌, ◌+◌, ◌-◌, ◌<◌, List, [], ◌∷◌, Bool, true, false, cond, nat_lt, refl}
use Rattle.std.proofs.Common.{arith}
use Rattle.std.proofs.lemmas.Bool.Decides.{nat_tests}
use Rattle.reg_world.specs.declared.words.TheConstants.{FIRST_COUNT, FIRST_OTHER, MOST_SLOTS}
use Rattle.reg_world.specs.declared.words.Slot.{Slot}
use Rattle.reg_world.specs.declared.words.Slot.TheVariants.{Data, Count, Other}

-- what a word says
abbrev pub slot_of : ℕ → Slot
slot_of bits =
    cond (nat_lt bits FIRST_COUNT) (Data bits)
    (cond (nat_lt bits FIRST_OTHER) (Count (bits - FIRST_COUNT)) (Other (bits - FIRST_OTHER)))

-- the word that says a slot
abbrev pub bits_of : Slot → ℕ
bits_of (Data number) = number
bits_of (Count count) = FIRST_COUNT + count
bits_of (Other place) = FIRST_OTHER + place

-- a word is that of what it says
pub bits_again : (bits : ℕ) → bits_of (slot_of bits) ≡ bits
bits_again bits = first (nat_lt bits FIRST_COUNT) refl
  where
    second : (t : Bool) → nat_lt bits FIRST_COUNT ≡ false → nat_lt bits FIRST_OTHER ≡ t
        → bits_of (cond t (Count (bits - FIRST_COUNT)) (Other (bits - FIRST_OTHER))) ≡ bits
    second true e f = grind (arith, nat_tests)
    second false e f = grind (arith, nat_tests)

    first : (t : Bool) → nat_lt bits FIRST_COUNT ≡ t
        → bits_of
        (cond t (Data bits) (cond (nat_lt bits FIRST_OTHER) (Count (bits - FIRST_COUNT)) (Other (bits - FIRST_OTHER))))
        ≡ bits
    first true e = refl
    first false e = second (nat_lt bits FIRST_OTHER) e refl

-- the slots of so many data frames, of the numbers from this one on
abbrev pub data_slots : ℕ → ℕ → List Slot
data_slots first zero = []
data_slots first (suc count) = Data first ∷ data_slots (first + 1) count

-- the slot has room in a word
abbrev pub HasRoom : Slot → Type 0
HasRoom (Data number) = number < FIRST_COUNT
HasRoom (Count count) = count < MOST_SLOTS
HasRoom (Other place) = place < MOST_SLOTS
