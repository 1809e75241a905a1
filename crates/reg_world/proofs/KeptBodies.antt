-- Bodies by what is kept of them.
use Rattle.std.proofs.Common.{◌≡◌, ℕ, suc, ◌<◌, List, [], ◌∷◌, ◌++◌, length, get_or, refl, sym, ap, ◌∙◌, subst, inl}
use Rattle.std.proofs.Common.{inr, arith}
use Rattle.std.proofs.lemmas.List.{map-append, get_or-map, get_or_append_left, length-append, length-map}
use Rattle.std.proofs.lemmas.List.{get_or_default}
use Rattle.std.proofs.Math.Seq.{get_or-append_seam}
use Rattle.reg_base.specs.declared.memory.Op.TheVariants.{Read}
use Rattle.reg_frames.specs.declared.bodies.Body.{Body}
use Rattle.reg_frames.specs.declared.bodies.Body.TheVariants as body
use Rattle.reg_world.specs.declared.bodies.ShortBody.{ShortBody}
use Rattle.reg_world.specs.declared.bodies.ShortBody.TheVariants.{Ack, Cast}
use Rattle.reg_world.specs.declared.bodies.KeptCast.{KeptCast}
use Rattle.reg_world.specs.Bodies.{cast_of, body_of, bodies_of, IsThere, AreThere}
use Rattle.reg_world.proofs.Packing.{only_in}
use Rattle.reg_world.proofs.lists.Bodies.{place_split}
use Rattle.reg_world.proofs.code.Noted.{at_index}

-- with one more cast the bodies are the same
pub of_more : (shorts : List ShortBody) (casts : List KeptCast) (c : KeptCast) → AreThere shorts casts
    → bodies_of shorts (casts ++ c ∷ []) ≡ bodies_of shorts casts
of_more [] casts c there = refl
of_more (Ack time ∷ shorts) casts c there =
    ap (λ (l : List Body). body.Ack time ∷ l) (of_more shorts casts c (λ k o i. there (suc k) o i))
of_more (Cast place ∷ shorts) casts c there =
    ap (λ (b : KeptCast). cast_of b ∷ bodies_of shorts (casts ++ c ∷ [])) (get_or_append_left casts (c ∷ []) (record { time = 0; op = Read 0 }) place (there 0 (Cast place) refl))
    ∙ ap (λ (l : List Body). body_of casts (Cast place) ∷ l) (of_more shorts casts c (λ k o i. there (suc k) o i))

is_there_more : (casts : List KeptCast) (c : KeptCast) (o : ShortBody) → IsThere casts o → IsThere (casts ++ c ∷ []) o
is_there_more casts c (Ack time) here = tt
is_there_more casts c (Cast place) here = let l = length-append casts (c ∷ []) in omega (arith, here, l)

pub there_more : (shorts : List ShortBody) (casts : List KeptCast) (c : KeptCast) → AreThere shorts casts
    → AreThere shorts (casts ++ c ∷ [])
there_more shorts casts c there = λ k o i. is_there_more casts c o (there k o i)

pub there_last : (shorts : List ShortBody) (casts : List KeptCast) (o : ShortBody) → AreThere shorts casts
    → IsThere casts o → AreThere (shorts ++ o ∷ []) casts
there_last shorts casts o there here = λ k x i. elim (place_split shorts (o ∷ []) k x i) [
  | inl h ↦ there k x h
  | inr h ↦ subst (IsThere casts) (sym (only_in x o h.1)) here
]

-- the cast that was added last is there
pub last_is_there : (casts : List KeptCast) (c : KeptCast) → IsThere (casts ++ c ∷ []) (Cast (length casts))
last_is_there casts c = let l = length-append casts (c ∷ []) in omega (arith, l)

-- a body that is added
pub of_last : (shorts : List ShortBody) (casts : List KeptCast) (o : ShortBody)
    → bodies_of (shorts ++ o ∷ []) casts ≡ bodies_of shorts casts ++ body_of casts o ∷ []
of_last shorts casts o = map-append (body_of casts) shorts (o ∷ [])

pub of_cast : (shorts : List ShortBody) (casts : List KeptCast) (c : KeptCast) → AreThere shorts casts
    → bodies_of (shorts ++ Cast (length casts) ∷ []) (casts ++ c ∷ []) ≡ bodies_of shorts casts ++ cast_of c ∷ []
of_cast shorts casts c there =
    of_last shorts (casts ++ c ∷ []) (Cast (length casts))
    ∙ (ap (λ (b : KeptCast). bodies_of shorts (casts ++ c ∷ []) ++ cast_of b ∷ []) (get_or-append_seam casts c [] (record { time = 0; op = Read 0 }))
    ∙ ap (λ (l : List Body). l ++ cast_of c ∷ []) (of_more shorts casts c there))

-- the cast with a number, where the short body under it speaks of this one
pub there_at : (shorts : List ShortBody) (casts : List KeptCast) (number place : ℕ) (o : ShortBody)
    → AreThere shorts casts → number < length (bodies_of shorts casts) → o ≡ get_or shorts number o → o ≡ Cast place
    → place < length casts
there_at shorts casts number place o there l is cast =
    let size = length-map shorts (body_of casts) in subst (IsThere casts) cast (there number o (at_index shorts number o (omega (arith, l, size)) is))

pub cast_at : (shorts : List ShortBody) (casts : List KeptCast) (number place : ℕ) (o : ShortBody) (c : KeptCast)
    (e : Body)
    → AreThere shorts casts → number < length (bodies_of shorts casts) → o ≡ get_or shorts number o → o ≡ Cast place
    → c ≡ get_or casts place c → cast_of c ≡ get_or (bodies_of shorts casts) number e
cast_at shorts casts number place o c e there l is cast kept =
    let size = length-map shorts (body_of casts) in
    ap cast_of (kept ∙ get_or_default casts place c (record { time = 0; op = Read 0 }) (there_at shorts casts number place o there l is cast))
    ∙ (ap (body_of casts) (sym cast ∙ is) ∙ sym (get_or-map (body_of casts) shorts number o e (omega (arith, l, size))))

-- a cast was added, and then the short body that speaks of it
pub pushed_there : (shorts shorts1 : List ShortBody) (casts casts1 : List KeptCast) (c : KeptCast) (place : ℕ)
    → AreThere shorts casts → place ≡ length casts → casts1 ≡ casts ++ c ∷ [] → shorts1 ≡ shorts ++ Cast place ∷ []
    → AreThere shorts1 casts1
pushed_there shorts shorts1 casts casts1 c place there last cast short =
    subst (AreThere shorts1) (sym cast) (subst (λ (l : List ShortBody). AreThere l (casts ++ c ∷ [])) (sym (short ∙ ap (λ (p : ℕ). shorts ++ Cast p ∷ []) last))
    (there_last shorts (casts ++ c ∷ []) (Cast (length casts)) (there_more shorts casts c there) (last_is_there casts c)))

pub pushed_bodies : (shorts shorts1 : List ShortBody) (casts casts1 : List KeptCast) (c : KeptCast) (place : ℕ)
    → AreThere shorts casts → place ≡ length casts → casts1 ≡ casts ++ c ∷ [] → shorts1 ≡ shorts ++ Cast place ∷ []
    → bodies_of shorts1 casts1 ≡ bodies_of shorts casts ++ cast_of c ∷ []
pushed_bodies shorts shorts1 casts casts1 c place there last cast short =
    ap (bodies_of shorts1) cast
    ∙ (ap (λ (l : List ShortBody). bodies_of l (casts ++ c ∷ [])) (short ∙ ap (λ (p : ℕ). shorts ++ Cast p ∷ []) last) ∙ of_cast shorts casts c there)

-- memory was refused to the short body
pub kept_there : (shorts shorts1 : List ShortBody) (casts casts1 : List KeptCast) (c : KeptCast) → AreThere shorts casts
    → casts1 ≡ casts ++ c ∷ [] → shorts1 ≡ shorts → AreThere shorts1 casts1
kept_there shorts shorts1 casts casts1 c there cast same =
    subst (AreThere shorts1) (sym cast) (subst (λ (l : List ShortBody). AreThere l (casts ++ c ∷ [])) (sym same) (there_more shorts casts c there))

pub kept_bodies : (shorts shorts1 : List ShortBody) (casts casts1 : List KeptCast) (c : KeptCast)
    → AreThere shorts casts → casts1 ≡ casts ++ c ∷ [] → shorts1 ≡ shorts
    → bodies_of shorts1 casts1 ≡ bodies_of shorts casts
kept_bodies shorts shorts1 casts casts1 c there cast same =
    ap (bodies_of shorts1) cast ∙ (ap (λ (l : List ShortBody). bodies_of l (casts ++ c ∷ [])) same ∙ of_more shorts casts c there)
