-- The notes of lines, one line after another.
use Rattle.std.proofs.Common.{ℕ, ◌≡◌, true, false, List, [], ◌∷◌, ◌++◌, refl, sym, ap, ◌∙◌, append_assoc, append-nil}
use Rattle.std.specs.Prelude.{String, string_bytes}
use Rattle.reg_base.specs.Names.{texts}
use Rattle.reg_text.specs.Lines.{is_kept}
use Rattle.reg_trace.specs.Notes.{above_first, comment_of, notes_above, spaced}

no_notes : notes_above [] ≡ []
unfolding notes_above
no_notes = refl

kept_above : (line : List ℕ) (lines : List (List ℕ)) → is_kept line ≡ true
    → notes_above (line ∷ lines) ≡ [] ∷ notes_above lines
unfolding notes_above
kept_above line lines h = rw h refl

said_above : (line : List ℕ) (lines : List (List ℕ)) → is_kept line ≡ false
    → notes_above (line ∷ lines) ≡ above_first (comment_of line) (notes_above lines)
unfolding notes_above
said_above line lines h = rw h refl

spaced-nil : (a : List ℕ) → spaced a [] ≡ a
spaced-nil [] = refl
spaced-nil (b ∷ a) = refl

spaced_assoc : (a b c : List ℕ) → spaced (spaced a b) c ≡ spaced a (spaced b c)
spaced_assoc [] b c = refl
spaced_assoc (x ∷ a) [] c = refl
spaced_assoc (x ∷ a) (y ∷ b) [] = refl
spaced_assoc (x ∷ a) (y ∷ b) (z ∷ c) = append_assoc (x ∷ a) (32 ∷ y ∷ b) (32 ∷ z ∷ c)

-- the first note goes on with a comment
above_more : (note words : List ℕ) (notes : List (List ℕ))
    → above_first (spaced note words) notes ≡ above_first note (above_first words notes)
above_more note words [] = refl
above_more note words (n ∷ notes) = ap (λ t. t ∷ notes) (spaced_assoc note words n)

above_none : (notes : List (List ℕ)) → above_first [] notes ≡ notes
above_none [] = refl
above_none (n ∷ notes) = refl

texts_more : {A : Type 0} (above : List (String A)) (note : String A)
    → texts (above ++ note ∷ []) ≡ texts above ++ string_bytes note ∷ []
texts_more [] note = refl
texts_more (a ∷ above) note = ap (λ t. string_bytes a ∷ t) (texts_more above note)

-- one more line that is kept: its note is whole
pub one_kept : {A : Type 0} (above pushed : List (String A)) (note new : String A) (line : List ℕ)
    (before lines all : List (List ℕ))
    → before ≡ line ∷ lines → is_kept line ≡ true → pushed ≡ above ++ note ∷ [] → string_bytes new ≡ []
    → texts above ++ above_first (string_bytes note) (notes_above before) ≡ all → texts pushed ++ above_first (string_bytes new) (notes_above lines) ≡ all
one_kept {A} above pushed note new line before lines all cut h push none so =
    ap (λ (p : List (String A)). texts p ++ above_first (string_bytes new) (notes_above lines)) push
    ∙ (ap (λ t. t ++ above_first (string_bytes new) (notes_above lines)) (texts_more above note)
    ∙ (append_assoc (texts above) (string_bytes note ∷ []) (above_first (string_bytes new) (notes_above lines))
    ∙ (ap (λ w. texts above ++ string_bytes note ∷ above_first w (notes_above lines)) none
    ∙ (ap (λ t. texts above ++ string_bytes note ∷ t) (above_none (notes_above lines))
    ∙ (ap (λ n. texts above ++ n ∷ notes_above lines) (sym (spaced-nil (string_bytes note)))
    ∙ (ap (λ ns. texts above ++ above_first (string_bytes note) ns) (sym (kept_above line lines h) ∙ ap notes_above (sym cut)) ∙ so))))))

-- one more comment, or an empty line
pub one_said : (above : List (List ℕ)) (note words new line : List ℕ) (before lines all : List (List ℕ))
    → before ≡ line ∷ lines → is_kept line ≡ false → words ≡ comment_of line → new ≡ spaced note words
    → above ++ above_first note (notes_above before) ≡ all → above ++ above_first new (notes_above lines) ≡ all
one_said above note words new line before lines all cut h is_words is_new so =
    ap (λ w. above ++ above_first w (notes_above lines)) is_new
    ∙ (ap (λ ns. above ++ ns) (above_more note words (notes_above lines))
    ∙ (ap (λ w. above ++ above_first note (above_first w (notes_above lines))) is_words
    ∙ (ap (λ ns. above ++ above_first note ns) (sym (said_above line lines h) ∙ ap notes_above (sym cut)) ∙ so)))

-- no line is left
pub all_noted : (above : List (List ℕ)) (note : List ℕ) (before all : List (List ℕ)) → before ≡ []
    → above ++ above_first note (notes_above before) ≡ all → above ≡ all
all_noted above note before all none so =
    sym (append-nil above) ∙ (ap (λ ns. above ++ above_first note ns) (sym (ap notes_above none ∙ no_notes)) ∙ so)
