-- What an event puts goes to its wires.
use Rattle.std.proofs.Common.{◌≡◌, ◌≢◌, ℕ, zero, suc, ◌+◌, ◌<◌, List, [], ◌∷◌, ◌++◌, map, length, take, min, get_or}
use Rattle.std.proofs.Common.{set, Option, Some, None, refl, sym, ap, subst, ◌∙◌, inl, inr, arith, add-one, length-set}
use Rattle.std.proofs.Common.{set-set, ◌-◌, true, false}
use Rattle.std.specs.Prelude.{slice_get, ◌==◌}
use Rattle.std.proofs.lemmas.Bool.{cases_lt, cond_both}
use Rattle.std.proofs.lemmas.List.{map-append, append-nil, append_assoc, set-get_or, get_or-set_same, length-take}
use Rattle.std.specs.Option.{is_some}
use Rattle.reg_base.specs.declared.limits.TheConstants.{MOST_RESENT}
use Rattle.reg_base.specs.Order.{In}
use Rattle.reg_frames.specs.declared.bodies.Body.{Body}
use Rattle.reg_frames.specs.declared.bodies.Frame.{Frame}
use Rattle.reg_frames.specs.declared.puts.Put.{Put}
use Rattle.reg_process.specs.Process.{State, peer_at, numbered_from, resent}
use Rattle.reg_process.specs.Puts.{puts, put_to}
use Rattle.reg_process.specs.declared.known.Known.{Known}
use Rattle.reg_process.specs.Known.{known_of}
use Rattle.reg_world.specs.Sent.{sent, AreOn}
use Rattle.reg_world.proofs.code.Sending.{sent_both}
use Rattle.reg_base.proofs.Lists.{in_left, in_right}
use Rattle.reg_world.proofs.lists.Members.{in_map}

pub length-sent : (ps : List Put) (wires : List (List Frame)) → length (sent ps wires) ≡ length wires
length-sent [] wires = refl
length-sent (p ∷ ps) wires = length-sent ps (set wires p.to (get_or wires p.to [] ++ p.frame ∷ [])) ∙ length-set wires p.to (get_or wires p.to [] ++ p.frame ∷ [])

puts_in : (frames : ℕ → List Frame) (r n : ℕ) (f : Frame) → r < n → In f (frames r) → In (put_to r f) (puts frames n)
puts_in frames r zero f l i = absurd (omega arith)
puts_in frames r (suc n) f l i = elim (cases_lt r n) [
  | inl less ↦ in_left (put_to r f) (puts frames n) (map (put_to n) (frames n)) (puts_in frames r n f less i)
  | inr not_less ↦
      let same : r ≡ n = omega (arith, l, not_less) in
      in_right (put_to r f) (puts frames n) (map (put_to n) (frames n)) (subst_in same (in_map (put_to r) f (frames r) i))
]
  where
    subst_in : r ≡ n → In (put_to r f) (map (put_to r) (frames r)) → In (put_to r f) (map (put_to n) (frames n))
    subst_in e = subst (λ k. In (put_to r f) (map (put_to k) (frames k))) e

-- where frames are put for a process, it has a wire
pub has_wire : (frames : ℕ → List Frame) (r n k : ℕ) → ((p : Put) → In p (puts frames n) → p.to < k) → r < n
    → frames r ≢ [] → r < k
has_wire frames r n k all l some = go (frames r) refl
  where
    go : (fs : List Frame) → frames r ≡ fs → r < k
    go [] e = absurd (some e)
    go (f ∷ fs) e = all (put_to r f) (puts_in frames r n f l (subst (In f) (sym e) (inl refl)))

-- the frames for one process more
pub more_sent : (frames : ℕ → List Frame) (r : ℕ) (before wires wires1 : List (List Frame))
    → wires ≡ sent (puts frames r) before → wires1 ≡ sent (map (put_to r) (frames r)) wires
    → wires1 ≡ sent (puts frames (r + 1)) before
more_sent frames r before wires wires1 so_far now =
    now
    ∙ (ap (sent (map (put_to r) (frames r))) so_far
    ∙ (sym (sent_both (puts frames r) (map (put_to r) (frames r)) before)
    ∙ sym (ap (λ n. sent (puts frames n) before) (add-one r))))

-- first some frames for a process, and then others
pub both_sent : (r : ℕ) (fs gs : List Frame) (before wires wires1 : List (List Frame))
    → wires ≡ sent (map (put_to r) fs) before → wires1 ≡ sent (map (put_to r) gs) wires
    → wires1 ≡ sent (map (put_to r) (fs ++ gs)) before
both_sent r fs gs before wires wires1 first then =
    then
    ∙ (ap (sent (map (put_to r) gs)) first
    ∙ (sym (sent_both (map (put_to r) fs) (map (put_to r) gs) before)
    ∙ ap (λ ps. sent ps before) (sym (map-append (put_to r) fs gs))))

take_next : {X : Type 0} (xs : List X) (i : ℕ) (x : X) → Some x ≡ slice_get xs i → take (suc i) xs ≡ take i xs ++ x ∷ []
take_next [] i x h = absurd cc
take_next (y ∷ ys) zero x h = let e : x ≡ y = cc in ap (λ z. z ∷ []) (sym e)
take_next (y ∷ ys) (suc i) x h = ap (λ l. y ∷ l) (take_next ys i x h)

-- one frame more of those that are put again
pub again_sent : (r i : ℕ) (fs : List Frame) (f : Frame) (before wires wires1 : List (List Frame))
    → Some f ≡ slice_get fs i → wires ≡ sent (map (put_to r) (take i fs)) before
    → wires1 ≡ set wires r (get_or wires r [] ++ f ∷ []) → wires1 ≡ sent (map (put_to r) (take (i + 1) fs)) before
again_sent r i fs f before wires wires1 at so_far now =
    both_sent r (take i fs) (f ∷ []) before wires wires1 so_far now
    ∙ ap (λ l. sent (map (put_to r) l) before) (sym (take_next fs i f at) ∙ ap (λ k. take k fs) (sym (add-one i)))

-- none is left
pub all_again : {X : Type 0} (xs : List X) (i : ℕ) → None ≡ slice_get xs i → take i xs ≡ xs
all_again [] zero h = refl
all_again [] (suc i) h = refl
all_again (x ∷ xs) zero h = absurd cc
all_again (x ∷ xs) (suc i) h = ap (λ l. x ∷ l) (all_again xs i h)

-- a frame stays on its wire
still_on_one : (wires : List (List Frame)) (q : ℕ) (g : Frame) (r : ℕ) (f : Frame) → In f (get_or wires r [])
    → In f (get_or (set wires q (get_or wires q [] ++ g ∷ [])) r [])
still_on_one [] q g r f i = absurd i
still_on_one (w ∷ ws) zero g zero f i = in_left f w (g ∷ []) i
still_on_one (w ∷ ws) zero g (suc r) f i = i
still_on_one (w ∷ ws) (suc q) g zero f i = i
still_on_one (w ∷ ws) (suc q) g (suc r) f i = still_on_one ws q g r f i

pub still_on : (ps : List Put) (wires : List (List Frame)) (r : ℕ) (f : Frame) → In f (get_or wires r [])
    → In f (get_or (sent ps wires) r [])
still_on [] wires r f i = i
still_on (p ∷ ps) wires r f i =
    still_on ps (set wires p.to (get_or wires p.to [] ++ p.frame ∷ [])) r f (still_on_one wires p.to p.frame r f i)

-- frames for one process, all at once
pub all_sent : (wires : List (List Frame)) (r : ℕ) (fs : List Frame) → r < length wires
    → sent (map (put_to r) fs) wires ≡ set wires r (get_or wires r [] ++ fs)
all_sent wires r [] l = sym (ap (set wires r) (append-nil (get_or wires r [])) ∙ set-get_or wires r [])
all_sent wires r (f ∷ fs) l =
    let one = set wires r (get_or wires r [] ++ f ∷ []) in
    let same : get_or one r [] ≡ get_or wires r [] ++ f ∷ [] = get_or-set_same wires r (get_or wires r [] ++ f ∷ []) [] l in
    all_sent one r fs (let z = length-set wires r (get_or wires r [] ++ f ∷ []) in omega (arith, z, l))
    ∙ (ap (λ z. set one r (z ++ fs)) same
    ∙ (set-set wires r (get_or wires r [] ++ f ∷ []) ((get_or wires r [] ++ f ∷ []) ++ fs)
    ∙ ap (set wires r) (append_assoc (get_or wires r []) (f ∷ []) fs)))

-- what a tick puts again for a process for which it puts some
pub resent_is : (s : State) (r : ℕ) (o : Option Frame) → o ≡ slice_get (resent s r) 0 → is_some o ≡ true
    → resent s r ≡ numbered_from (peer_at s r).first (take MOST_RESENT (peer_at s r).pending)
resent_is s r o at some =
    cond_both (r == s.me) [] (numbered_from (peer_at s r).first (take MOST_RESENT (peer_at s r).pending)) (λ fs. o ≡ slice_get fs 0 → fs ≡ numbered_from (peer_at s r).first (take MOST_RESENT (peer_at s r).pending))
    (λ _ h. absurd (let bad : false ≡ true = sym (ap is_some h) ∙ some in let e : ⊥ = cc in e))
    (λ _ h. refl)
    at

-- what the wires put again at once is all that a tick puts for the process
pub all_at_once : (s : State) (r count : ℕ) (known : Known) (wires wires1 : List (List Frame))
    → resent s r ≡ numbered_from (peer_at s r).first (take MOST_RESENT (peer_at s r).pending)
    → known ≡ known_of (peer_at s r) → count ≡ min (known.next - known.first) MOST_RESENT
    → r < length wires → AreOn (get_or wires r []) (resent s r)
    → ((bodies : List Body) → length bodies ≡ count → AreOn (get_or wires r []) (numbered_from known.first bodies) → wires1 ≡ set wires r (get_or wires r [] ++ numbered_from known.first bodies))
    → wires1 ≡ sent (map (put_to r) (resent s r)) wires
all_at_once s r count known wires wires1 is told many l on again =
    let p = peer_at s r in
    let bodies = take MOST_RESENT p.pending in
    let from : known.first ≡ p.first = ap (λ (k : Known). k.first) told in
    let next : known.next ≡ p.first + length p.pending = ap (λ (k : Known). k.next) told in
    let size = length-take MOST_RESENT p.pending in
    let frames : numbered_from known.first bodies ≡ resent s r = ap (λ i. numbered_from i bodies) from ∙ sym is in
    again bodies (omega (arith, size, many, from, next)) (subst (AreOn (get_or wires r [])) (sym frames) on)
    ∙ (ap (λ fs. set wires r (get_or wires r [] ++ fs)) frames ∙ sym (all_sent wires r (resent s r) l))
