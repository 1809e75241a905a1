-- Whether a text is words, each after a space.
use Rattle.std.proofs.Common.{ℕ, suc, ◌≡◌, ◌+◌, ◌<◌, ◌≤◌, ◌==◌, true, false, List, [], ◌∷◌, ◌++◌, length, drop, refl}
use Rattle.std.proofs.Common.{sym, ap, subst, ◌∙◌, arith, append_assoc, append-nil, length-append}
use Rattle.std.specs.List.{list_all}
use Rattle.std.proofs.lemmas.Grind.{flat_map-append}
use Rattle.reg_text.specs.Words.{names_text, HasWords}
use Rattle.reg_text.specs.Reading.{Starts}
use Rattle.reg_text.specs.Forms.{is_word}
use Rattle.reg_text.specs.Parts.{Lacks}
use Rattle.reg_text.proofs.NamesLack.{both_true}
use Rattle.reg_text.proofs.Formed.{word_lacks}
use Rattle.reg_text.proofs.Split.{empty_is}
use Rattle.reg_text.proofs.Worded.{Cuts, each_word, name_at, starts}

one_more : (ws : List (List ℕ)) (w : List ℕ) → list_all is_word ws ≡ true → is_word w ≡ true
    → list_all is_word (ws ++ w ∷ []) ≡ true
one_more [] w h k = rw k refl
one_more (v ∷ ws) w h k =
    let both = both_true (is_word v) (list_all is_word ws) h in
    rw (both.0) (one_more ws w both.1 k)

-- words were seen, and whatever the words of the text are, those that are left follow
pub record Seen (all now : List ℕ) (i : ℕ) : Type 0 where
  pub words : List (List ℕ)
  pub text : all ≡ names_text words ++ now
  pub good : list_all is_word words ≡ true
  pub short : i + length now ≤ length all
  pub only : (ws : List (List ℕ)) → list_all is_word ws ≡ true → all ≡ names_text ws → now ≡ names_text (drop i ws)

pub seen : (all : List ℕ) → Seen all all 0
seen all = record { words = []; text = refl; good = refl; short = omega arith; only = λ ws h e. e }

pub sees : (all now : List ℕ) (i : ℕ) (word after : List ℕ) → Seen all now i → (length now == 0) ≡ false
    → now ≡ 32 ∷ (word ++ after) → Cuts now word after → is_word word ≡ true → Seen all after (i + 1)
sees all now i word after t some e cuts good =
    let up : i + 1 ≡ suc i = omega arith in
    record {
      words = t.words ++ word ∷ [];
      text = t.text ∙ ap (λ l. names_text t.words ++ l) e ∙ sym (append_assoc (names_text t.words) (32 ∷ word) after) ∙ ap (λ l. (names_text t.words ++ l) ++ after) (sym (append-nil (32 ∷ word))) ∙ ap (λ l. l ++ after) (sym (flat_map-append (λ n. 32 ∷ n) t.words (word ∷ [])));
      good = one_more t.words word t.good good;
      short = omega (arith, t.short, ap length e, length-append word after);
      only = λ ws h f.
          let n = name_at ws now i some (t.only ws h f) in
          let P : List ℕ → Type 0 = λ l. is_word l ≡ true in
          let fine : is_word n.name ≡ true = subst P n.here (each_word ws i h n.within) in
          let c = cuts n.name (names_text (drop (suc i) ws)) (word_lacks n.name fine) (starts (drop (suc i) ws)) n.text in
          c.1 ∙ ap (λ j. names_text (drop j ws)) (sym up);
    }

pub none_next : (all now : List ℕ) (i : ℕ) → Seen all now i → (length now == 0) ≡ false
    → ((w a : List ℕ) → Lacks 32 w → Starts 32 a → now ≡ 32 ∷ (w ++ a) → ⊥)
    → (ws : List (List ℕ)) → list_all is_word ws ≡ true → all ≡ names_text ws → ⊥
none_next all now i t some none ws h f =
    let n = name_at ws now i some (t.only ws h f) in
    let P : List ℕ → Type 0 = λ l. is_word l ≡ true in
    let fine : is_word n.name ≡ true = subst P n.here (each_word ws i h n.within) in
    none n.name (names_text (drop (suc i) ws)) (word_lacks n.name fine) (starts (drop (suc i) ws)) n.text

pub bad_next : (all now : List ℕ) (i : ℕ) (word after : List ℕ) → Seen all now i → (length now == 0) ≡ false
    → Cuts now word after → is_word word ≡ false
    → (ws : List (List ℕ)) → list_all is_word ws ≡ true → all ≡ names_text ws → ⊥
bad_next all now i word after t some cuts bad ws h f =
    let n = name_at ws now i some (t.only ws h f) in
    let P : List ℕ → Type 0 = λ l. is_word l ≡ true in
    let fine : is_word n.name ≡ true = subst P n.here (each_word ws i h n.within) in
    let c = cuts n.name (names_text (drop (suc i) ws)) (word_lacks n.name fine) (starts (drop (suc i) ws)) n.text in
    let both = sym bad ∙ ap is_word c.0 ∙ fine in
    absurd (cc)

some_words : (ws : List (List ℕ)) (all : List ℕ) → all ≡ names_text ws → (length all == 0) ≡ false → 0 < length ws
some_words [] all e some = let none : (length all == 0) ≡ true = ap (λ l. length l == 0) e in absurd (cc)
some_words (w ∷ ws) all e some = omega arith

pub all_seen : (all now : List ℕ) (i : ℕ) → Seen all now i → (length all == 0) ≡ false → now ≡ [] → HasWords all
all_seen all now i t some e =
    let whole : all ≡ names_text t.words = t.text ∙ ap (λ l. names_text t.words ++ l) e ∙ append-nil (names_text t.words) in
    (t.words, ((some_words t.words all whole some, t.good), whole))

-- words are no empty text
pub no_words : (text : List ℕ) (ws : List (List ℕ)) → (length text == 0) ≡ true → 0 < length ws → text ≡ names_text ws
    → ⊥
no_words text [] none some e = omega (arith, some)
no_words text (w ∷ ws) none some e =
    let nil : [] ≡ 32 ∷ (w ++ names_text ws) = sym (empty_is text none) ∙ e in
    absurd (cc)
