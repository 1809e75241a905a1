-- Words of data frames whose numbers follow each other.
use Rattle.std.proofs.Common.{◌≡◌, ℕ, zero, suc, ◌+◌, ◌<◌, ◌≤◌, List, [], ◌∷◌, ◌++◌, map, length, take, get_or, set}
use Rattle.std.proofs.Common.{refl, sym, ap, ◌∙◌, subst, inl, inr, arith}
use Rattle.std.specs.Prelude.{nat_lt}
use Rattle.std.proofs.lemmas.Bool.Decides.{nat_tests}
use Rattle.std.proofs.lemmas.Bool.{cond_both}
use Rattle.std.proofs.lemmas.List.{length-map}
use Rattle.reg_base.specs.Order.{In}
use Rattle.reg_frames.specs.declared.bodies.Body.{Body}
use Rattle.reg_frames.specs.declared.bodies.Frame.{Frame}
use Rattle.reg_frames.specs.declared.bodies.Frame.TheVariants.{Numbered}
use Rattle.reg_process.specs.Process.{numbered_from}
use Rattle.reg_world.specs.Packed.{Kept, frame_of, IsKept, Grows, frames_on, AreKept}
use Rattle.reg_world.specs.Sent.{AreOn}
use Rattle.reg_world.specs.Words.{slot_of, data_slots}
use Rattle.reg_world.specs.declared.words.TheConstants.{FIRST_COUNT}
use Rattle.reg_world.specs.declared.words.Slot.{Slot}
use Rattle.reg_world.specs.declared.words.Slot.TheVariants.{Data, Count, Other}
use Rattle.reg_world.proofs.lists.Members.{map_in}
use Rattle.reg_world.proofs.Sharing.{longer_same}
use Rattle.reg_world.proofs.Packing.{put_on_one, still_kept, wire_at}

pub number_slot : (bits : ℕ) → bits < FIRST_COUNT → slot_of bits ≡ Data bits
number_slot bits l = cond_both (nat_lt bits FIRST_COUNT) (Data bits) _ (λ s. s ≡ Data bits) (λ _. refl) (λ e. absurd (grind (arith, nat_tests)))

pub slots_more : (first n : ℕ) → data_slots first (suc n) ≡ data_slots first n ++ Data (first + n) ∷ []
slots_more first zero = ap (λ i. Data i ∷ []) (let e : first ≡ first + 0 = omega arith in e)
slots_more first (suc n) = ap (λ l. Data first ∷ l) (slots_more (first + 1) n ∙ ap (λ i. data_slots (first + 1) n ++ Data i ∷ []) (let e : first + 1 + n ≡ first + suc n = omega arith in e))

pub slots_taken : (first count n : ℕ) → count ≤ n → take count (data_slots first n) ≡ data_slots first count
slots_taken first zero n l = refl
slots_taken first (suc count) zero l = absurd (omega (arith, l))
slots_taken first (suc count) (suc n) l = ap (λ z. Data first ∷ z) (slots_taken (first + 1) count n (omega (arith, l)))

pub slots_kept : (k : Kept) (first count : ℕ) → first + count ≤ length k.bodies → (s : Slot)
    → In s (data_slots first count) → IsKept k s
slots_kept k first zero l s i = absurd i
slots_kept k first (suc count) l s (inl e) =
    subst (IsKept k) (sym e) (let here : first < length k.bodies = omega (arith, l) in here)
slots_kept k first (suc count) l s (inr i) = slots_kept k (first + 1) count (omega (arith, l)) s i

-- a data frame that is on the wire is the one of its number
data_is : (k : Kept) (s : Slot) (i : ℕ) (b : Body) → k.others ≡ [] → IsKept k s → Numbered i b ≡ frame_of k s
    → frame_of k (Data i) ≡ Numbered i b
data_is k (Data number) i b none kept is =
    let same : i ≡ number = cc in
    ap (λ n. frame_of k (Data n)) same ∙ sym is
data_is k (Count count) i b none kept is = absurd (let bad : ⊥ = cc in bad)
data_is k (Other place) i b none kept is = absurd (let z = ap length none in omega (arith, z, kept))

-- and so data frames that are on the wire are told by their numbers
pub slots_say : (k : Kept) (strip : List Slot) (first : ℕ) (bodies : List Body) → k.others ≡ []
    → ((s : Slot) → In s strip → IsKept k s) → AreOn (map (frame_of k) strip) (numbered_from first bodies)
    → map (frame_of k) (data_slots first (length bodies)) ≡ numbered_from first bodies
slots_say k strip first [] none kept on = refl
slots_say k strip first (b ∷ bs) none kept on =
    let there = map_in (frame_of k) (Numbered first b) strip (on (Numbered first b) (inl refl)) in
    ap (λ f. f ∷ map (frame_of k) (data_slots (first + 1) (length bs))) (data_is k there.0 first b none (kept there.0 there.1) there.2)
    ∙ ap (λ fs. Numbered first b ∷ fs) (slots_say k strip (first + 1) bs none kept (λ f i. on f (inr i)))

same_grows : (k : Kept) → Grows k k
same_grows k = record { bodies = longer_same k.bodies k.bodies refl; others = longer_same k.others k.others refl }

-- words of bodies that are kept go to the end of a wire
pub again_kept : (k : Kept) (strips strips1 : List (List Slot)) (r first count : ℕ) (more : List Slot)
    → AreKept k strips → r < length strips → first + count ≤ length k.bodies → more ≡ data_slots first count
    → strips1 ≡ set strips r (get_or strips r [] ++ more) → AreKept k strips1
again_kept k strips strips1 r first count more K l few is pushed =
    subst (AreKept k) (sym pushed) (still_kept k k strips r (get_or strips r [] ++ more) more (same_grows k) K l (λ s i. slots_kept k first count few s (subst (In s) is i)) refl)

-- and say the frames that are there already
pub again_says : (k : Kept) (strips strips1 : List (List Slot)) (wires : List (List Frame)) (r to first count : ℕ)
    (more : List Slot)
    → frames_on k strips ≡ wires → AreKept k strips → r ≡ to → to < length wires → k.others ≡ []
    → more ≡ data_slots first count
    → strips1 ≡ set strips r (get_or strips r [] ++ more) → (bodies : List Body) → length bodies ≡ count → AreOn (get_or wires to []) (numbered_from first bodies)
    → frames_on k strips1 ≡ set wires to (get_or wires to [] ++ numbered_from first bodies)
again_says k strips strips1 wires r to first count more view K same l none is pushed bodies size on =
    let here : to < length strips = let a = ap length view in let b = length-map strips (map (frame_of k)) in omega (arith, a, b, l) in
    let on_strip : AreOn (map (frame_of k) (get_or strips to [])) (numbered_from first bodies) =
    subst (λ wire. AreOn wire (numbered_from first bodies)) (sym (ap (λ z. get_or z to []) view) ∙ wire_at k strips to) on in
    let say : map (frame_of k) more ≡ numbered_from first bodies =
    ap (map (frame_of k)) (is ∙ ap (data_slots first) (sym size)) ∙ slots_say k (get_or strips to []) first bodies none (K to) on_strip in
    ap (frames_on k) (pushed ∙ ap (λ j. set strips j (get_or strips j [] ++ more)) same)
    ∙ (put_on_one k k strips to (get_or strips to [] ++ more) more (numbered_from first bodies) (same_grows k) K here say refl
    ∙ ap (λ z. set z to (get_or z to [] ++ numbered_from first bodies)) view)
