-- The frames of an event go to the ends of their wires.
use Rattle.std.proofs.Common.{◌≡◌, ℕ, zero, suc, ◌<◌, List, [], ◌∷◌, ◌++◌, map, length, get_or, set, replicate, refl}
use Rattle.std.proofs.Common.{sym, ap, ◌∙◌, inl, inr, arith, length-append}
use Rattle.std.proofs.lemmas.List.{append_assoc, append-nil, set_at, get_or_at}
use Rattle.reg_base.specs.Order.{In}
use Rattle.reg_frames.specs.declared.bodies.Frame.{Frame}
use Rattle.reg_frames.specs.declared.puts.Put.{Put}
use Rattle.reg_process.specs.Puts.{puts, put_to}
use Rattle.reg_world.specs.Sent.{sent}
use Rattle.reg_world.specs.Members.{listed}
use Rattle.reg_base.proofs.Lists.{in_cases}
use Rattle.reg_world.proofs.lists.Members.{map_in}

pub sent_both : (xs ys : List Put) (wires : List (List Frame)) → sent (xs ++ ys) wires ≡ sent ys (sent xs wires)
sent_both [] ys wires = refl
sent_both (x ∷ xs) ys wires = sent_both xs ys (set wires x.to (get_or wires x.to [] ++ x.frame ∷ []))

-- frames for one process
sent_one : (n : ℕ) (fs : List Frame) (xs rest : List (List Frame)) (w : List Frame) → length xs ≡ n
    → sent (map (put_to n) fs) (xs ++ w ∷ rest) ≡ xs ++ (w ++ fs) ∷ rest
sent_one n [] xs rest w e = ap (λ z. xs ++ z ∷ rest) (sym (append-nil w))
sent_one n (f ∷ fs) xs rest w e =
    let got : get_or (xs ++ w ∷ rest) n [] ≡ w = get_or_at xs w rest [] n e in
    ap (λ z. sent (map (put_to n) fs) (set (xs ++ w ∷ rest) n (z ++ f ∷ []))) got
    ∙ (ap (sent (map (put_to n) fs)) (set_at xs w rest (w ++ f ∷ []) n e)
    ∙ (sent_one n fs xs rest (w ++ f ∷ []) e ∙ ap (λ z. xs ++ z ∷ rest) (append_assoc w (f ∷ []) fs)))

pub length-listed : {X : Type 0} (f : ℕ → X) (n : ℕ) → length (listed f n) ≡ n
length-listed f zero = refl
length-listed f (suc n) =
    let a = length-append (listed f n) (f n ∷ []) in let b = length-listed f n in omega (arith, a, b)

sent_listed : (wire frames : ℕ → List Frame) (n : ℕ) (rest : List (List Frame))
    → sent (puts frames n) (listed wire n ++ rest) ≡ listed (λ b. wire b ++ frames b) n ++ rest
sent_listed wire frames zero rest = refl
sent_listed wire frames (suc n) rest =
    let both : ℕ → List Frame = λ b. wire b ++ frames b in
    ap (sent (puts frames n ++ map (put_to n) (frames n))) (append_assoc (listed wire n) (wire n ∷ []) rest)
    ∙ (sent_both (puts frames n) (map (put_to n) (frames n)) (listed wire n ++ (wire n ∷ rest))
    ∙ (ap (sent (map (put_to n) (frames n))) (sent_listed wire frames n (wire n ∷ rest))
    ∙ (sent_one n (frames n) (listed both n) rest (wire n) (length-listed both n)
    ∙ sym (append_assoc (listed both n) (both n ∷ []) rest))))

pub sent_all : (wire frames : ℕ → List Frame) (n : ℕ)
    → sent (puts frames n) (listed wire n) ≡ listed (λ b. wire b ++ frames b) n
sent_all wire frames n =
    ap (sent (puts frames n)) (sym (append-nil (listed wire n))) ∙ (sent_listed wire frames n [] ∙ append-nil (listed (λ b. wire b ++ frames b) n))

pub listed_empty : {X : Type 0} (x : X) (n : ℕ) → replicate n x ≡ listed (λ _. x) n
listed_empty x zero = refl
listed_empty x (suc n) = turn x n ∙ ap (λ l. l ++ x ∷ []) (listed_empty x n)
  where
    turn : {X : Type 0} (x : X) (n : ℕ) → x ∷ replicate n x ≡ replicate n x ++ x ∷ []
    turn x zero = refl
    turn x (suc n) = ap (λ l. x ∷ l) (turn x n)

-- each frame is put for one of n processes
pub puts_within : (frames : ℕ → List Frame) (n : ℕ) (p : Put) → In p (puts frames n) → p.to < n
puts_within frames zero p h = absurd h
puts_within frames (suc n) p h = elim (in_cases p (puts frames n) (map (put_to n) (frames n)) h) [
  | inl i ↦ let l = puts_within frames n p i in omega (arith, l)
  | inr i ↦ let m = map_in (put_to n) p (frames n) i in let e = ap (λ (z : Put). z.to) m.2 in omega (arith, e)
]
