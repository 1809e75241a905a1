-- Frames as words, by what is kept of their process.
use Rattle.std.proofs.Common.{◌≡◌, ℕ, zero, suc, ◌<◌, List, [], ◌∷◌, ◌++◌, map, length, get_or, set, replicate, Some}
use Rattle.std.proofs.Common.{None, Result, Ok, Err, refl, sym, ap, ◌∙◌, subst, inl, inr, arith}
use Rattle.std.specs.Prelude.{slice_get, option_map, OnOk, OnErr}
use Rattle.std.proofs.lemmas.Bool.{cases_eq}
use Rattle.std.proofs.lemmas.List.{get_or-take, map-set, map-append, get_or-map, get_or-set_same, get_or-set_other}
use Rattle.std.proofs.lemmas.List.{length-map}
use Rattle.reg_base.specs.Order.{In}
use Rattle.reg_base.proofs.Lists.{in_cases}
use Rattle.reg_frames.specs.declared.bodies.Body.TheVariants.{Ack}
use Rattle.reg_frames.specs.declared.bodies.Frame.{Frame}
use Rattle.reg_frames.specs.declared.bodies.Frame.TheVariants.{Numbered, Got}
use Rattle.reg_world.specs.declared.words.Slot.{Slot}
use Rattle.reg_world.specs.declared.words.Slot.TheVariants.{Data, Count, Other}
use Rattle.reg_world.specs.Sharing.{IsLonger}
use Rattle.reg_world.specs.Packed.{Kept, frame_of, IsKept, Grows, frames_on, AreKept}
use Rattle.reg_world.proofs.Sharing.{longer_length}

longer_at : {X : Type 0} (old new : List X) (n : ℕ) (d : X) → IsLonger old new → n < length old
    → get_or new n d ≡ get_or old n d
longer_at old new n d longer l = sym (get_or-take (length old) new n d l) ∙ ap (λ z. get_or z n d) longer

pub frame_stays : (old new : Kept) (s : Slot) → Grows old new → IsKept old s → frame_of new s ≡ frame_of old s
frame_stays old new (Data number) G k = ap (Numbered number) (longer_at old.bodies new.bodies number (Ack 0) G.bodies k)
frame_stays old new (Count count) G k = refl
frame_stays old new (Other place) G k = longer_at old.others new.others place (Got 0) G.others k

pub kept_stays : (old new : Kept) (s : Slot) → Grows old new → IsKept old s → IsKept new s
kept_stays old new (Data number) G k = let l = longer_length old.bodies new.bodies G.bodies in omega (arith, k, l)
kept_stays old new (Count count) G k = tt
kept_stays old new (Other place) G k = let l = longer_length old.others new.others G.others in omega (arith, k, l)

strip_stays : (old new : Kept) (strip : List Slot) → Grows old new → ((s : Slot) → In s strip → IsKept old s)
    → map (frame_of new) strip ≡ map (frame_of old) strip
strip_stays old new [] G k = refl
strip_stays old new (s ∷ ss) G k =
    ap (λ f. f ∷ map (frame_of new) ss) (frame_stays old new s G (k s (inl refl)))
    ∙ ap (λ fs. frame_of old s ∷ fs) (strip_stays old new ss G (λ x i. k x (inr i)))

all_stay : (old new : Kept) (strips : List (List Slot)) → Grows old new → AreKept old strips
    → frames_on new strips ≡ frames_on old strips
all_stay old new [] G k = refl
all_stay old new (s ∷ ss) G k =
    ap (λ f. f ∷ frames_on new ss) (strip_stays old new s G (k 0))
    ∙ ap (λ fs. map (frame_of old) s ∷ fs) (all_stay old new ss G (λ r. k (suc r)))

pub all_kept : (old new : Kept) (strips : List (List Slot)) → Grows old new → AreKept old strips → AreKept new strips
all_kept old new strips G k = λ r s i. kept_stays old new s G (k r s i)

-- frames are put on one wire
pub put_on_one : (old new : Kept) (strips : List (List Slot)) (r : ℕ) (strip more : List Slot) (frames : List Frame)
    → Grows old new → AreKept old strips → r < length strips → map (frame_of new) more ≡ frames
    → strip ≡ get_or strips r [] ++ more
    → frames_on new (set strips r strip) ≡ set (frames_on old strips) r (get_or (frames_on old strips) r [] ++ frames)
put_on_one old new strips r strip more frames G k l say pushed =
    map-set (map (frame_of new)) strips r strip
    ∙ (ap (λ z. set z r (map (frame_of new) strip)) (all_stay old new strips G k)
    ∙ ap (set (frames_on old strips) r)
    (ap (map (frame_of new)) pushed
    ∙ (map-append (frame_of new) (get_or strips r []) more
    ∙ (ap (λ z. map (frame_of new) (get_or strips r []) ++ z) say
    ∙ ap (λ z. z ++ frames) (strip_stays old new (get_or strips r []) G (k r) ∙ sym (get_or-map (map (frame_of old)) strips r [] [] l))))))

pub only_in : {X : Type 0} (x y : X) → In x (y ∷ []) → x ≡ y
only_in x y (inl e) = e
only_in x y (inr h) = absurd h

pub still_kept : (old new : Kept) (strips : List (List Slot)) (r : ℕ) (strip more : List Slot) → Grows old new
    → AreKept old strips → r < length strips → ((s : Slot) → In s more → IsKept new s)
    → strip ≡ get_or strips r [] ++ more → AreKept new (set strips r strip)
still_kept old new strips r strip more G k l now pushed = λ q x i. elim (cases_eq q r) [
  | inl e ↦
      let here : get_or (set strips r strip) q [] ≡ get_or strips r [] ++ more = ap (λ z. get_or (set strips r strip) z []) e ∙ (get_or-set_same strips r strip [] l ∙ pushed) in
      elim (in_cases x (get_or strips r []) more (subst (In x) here i)) [
        | inl j ↦ kept_stays old new x G (k r x j)
        | inr j ↦ now x j
      ]
  | inr ne ↦ kept_stays old new x G (k q x (subst (In x) (get_or-set_other strips r q strip [] ne) i))
]

pub none_kept : (k : Kept) (n : ℕ) → AreKept k (replicate n [])
none_kept k zero r s i = absurd i
none_kept k (suc n) zero s i = absurd i
none_kept k (suc n) (suc r) s i = none_kept k n r s i

pub no_frames : (k : Kept) (n : ℕ) → frames_on k (replicate n []) ≡ replicate n []
no_frames k zero = refl
no_frames k (suc n) = ap (λ l. [] ∷ l) (no_frames k n)

-- the wire of a process, with no frame where there is no such process
pub wire_at : (k : Kept) (strips : List (List Slot)) (r : ℕ)
    → get_or (frames_on k strips) r [] ≡ map (frame_of k) (get_or strips r [])
wire_at k [] r = refl
wire_at k (s ∷ ss) zero = refl
wire_at k (s ∷ ss) (suc r) = wire_at k ss r

pub got_mapped : {X Y : Type 0} (f : X → Y) (xs : List X) (n : ℕ)
    → slice_get (map f xs) n ≡ option_map f (slice_get xs n)
got_mapped f [] n = refl
got_mapped f (x ∷ xs) zero = refl
got_mapped f (x ∷ xs) (suc n) = got_mapped f xs n

pub frame_found : (k : Kept) (strips : List (List Slot)) (wires : List (List Frame)) (r to number : ℕ)
    (strip : List Slot) (s : Slot) (f : Frame)
    → frames_on k strips ≡ wires → r ≡ to → strip ≡ get_or strips r []
    → Some s ≡ slice_get strip number → f ≡ frame_of k s → Some f ≡ slice_get (get_or wires to []) number
frame_found k strips wires r to number strip s f view same here at is =
    ap Some is
    ∙ (ap (option_map (frame_of k)) at
    ∙ (sym (got_mapped (frame_of k) strip number)
    ∙ (ap (λ z. slice_get (map (frame_of k) z) number) here
    ∙ (ap (λ z. slice_get z number) (sym (wire_at k strips r))
    ∙ (ap (λ z. slice_get (get_or z r []) number) view ∙ ap (λ z. slice_get (get_or wires z []) number) same)))))

pub none_found : (k : Kept) (strips : List (List Slot)) (wires : List (List Frame)) (r to number : ℕ)
    → frames_on k strips ≡ wires → r ≡ to
    → None ≡ slice_get (get_or strips r []) number → None ≡ slice_get (get_or wires to []) number
none_found k strips wires r to number view same at =
    ap (option_map (frame_of k)) at
    ∙ (sym (got_mapped (frame_of k) (get_or strips r []) number)
    ∙ (ap (λ z. slice_get z number) (sym (wire_at k strips r))
    ∙ (ap (λ z. slice_get (get_or z r []) number) view ∙ ap (λ z. slice_get (get_or wires z []) number) same)))

-- words are pushed, or memory is refused
pub after_push : {T E : Type 0} (res : Result T E) (old new : Kept) (strips strips1 : List (List Slot)) (r : ℕ)
    (more : List Slot)
    → Grows old new → AreKept old strips → r < length strips → ((s : Slot) → In s more → IsKept new s)
    → OnOk res (strips1 ≡ set strips r (get_or strips r [] ++ more)) → OnErr res (strips1 ≡ strips) → AreKept new strips1
after_push (Ok u) old new strips strips1 r more G k l now pushed kept =
    subst (AreKept new) (sym pushed) (still_kept old new strips r (get_or strips r [] ++ more) more G k l now refl)
after_push (Err e) old new strips strips1 r more G k l now pushed kept =
    subst (AreKept new) (sym kept) (all_kept old new strips G k)

pub count_is : (k : Kept) (strips : List (List Slot)) (wires : List (List Frame)) (r to n : ℕ)
    → frames_on k strips ≡ wires → r ≡ to → n ≡ length (get_or strips r []) → n ≡ length (get_or wires to [])
count_is k strips wires r to n view same is =
    is ∙ (sym (length-map (get_or strips r []) (frame_of k))
    ∙ (ap length (sym (wire_at k strips r)) ∙ (ap (λ z. length (get_or z r [])) view ∙ ap (λ z. length (get_or wires z [])) same)))
