-- Reading names from left to right.
use Rattle.std.proofs.Common.{ℕ, zero, suc, ◌≡◌, ◌+◌, ◌<◌, ◌≤◌, ◌==◌, nat_lt, nat_eq, not, ◌⊎◌, inl, inr, Bool, true}
use Rattle.std.proofs.Common.{false, cond, List, [], ◌∷◌, ◌++◌, length, take, drop, get_or, Option, Some, None, refl}
use Rattle.std.proofs.Common.{sym, ap, subst, ◌∙◌, arith, rules, append_assoc, append-nil, length-append}
use Rattle.std.specs.List.{list_all}
use Rattle.std.specs.Str.{IsUtf8}
use Rattle.std.proofs.lemmas.Grind.{flat_map-append}
use Rattle.std.proofs.lemmas.Bool.Decides.{nat_tests}
use Rattle.reg_base.specs.Names.{names_fault, first_bad, first_repeat, worst_place}
use Rattle.reg_base.specs.declared.limits.TheConstants.{MOST_REGISTERS}
use Rattle.reg_base.specs.declared.naming.NamesFault.TheVariants.{NoName, TooManyNames}
use Rattle.reg_text.specs.Parts.{Lacks}
use Rattle.reg_text.specs.declared.faults.Why.{Why}
use Rattle.reg_text.specs.declared.faults.Why.TheVariants.{Range, Name}
use Rattle.reg_text.specs.Words.{names_text, IsNamesWhy}
use Rattle.reg_text.specs.Reading.{Starts}
use Rattle.reg_text.specs.Forms.{is_word}
use Rattle.reg_text.proofs.NamesLack.{both_true}
use Rattle.reg_text.proofs.Named.{word_text}
use Rattle.reg_text.proofs.Formed.{word_lacks}

pub not_lacking : (m : ℕ) (front rest : List ℕ) → Lacks m (front ++ m ∷ rest) → ⊥
not_lacking m [] rest h =
    let same : (m == m) ≡ true = search rules in
    let both = both_true (not (m == m)) (list_all (λ b. not (b == m)) rest) h in
    let other : not true ≡ true = ap not (sym same) ∙ both.0 in
    absurd (cc)
not_lacking m (b ∷ front) rest h =
    not_lacking m front rest (both_true (not (b == m)) (list_all (λ c. not (c == m)) (front ++ m ∷ rest)) h).1

-- a word that was cut off, and one at the end
pub cut_word : (rest w a word after : List ℕ) → (rest ≡ w ++ 32 ∷ a) × Lacks 32 w
    → ((front back : List ℕ) → Lacks 32 front → rest ≡ front ++ 32 ∷ back → (w ≡ front) × (a ≡ back))
    → Lacks 32 word → Starts 32 after → rest ≡ word ++ after → w ≡ word
cut_word rest w a word after read whole lacks (inl e) same =
    let plain : rest ≡ word = same ∙ ap (λ l. word ++ l) e ∙ append-nil word in
    let P : List ℕ → Type 0 = λ l. Lacks 32 l in
    absurd (not_lacking 32 w a (subst P (sym plain ∙ read.0) lacks))
cut_word rest w a word after read whole lacks (inr s) same = (whole word s.0 lacks (same ∙ ap (λ l. word ++ l) s.1)).0

pub starts : (ns : List (List ℕ)) → Starts 32 (names_text ns)
starts [] = inl refl
starts (n ∷ ns) = inr (n ++ names_text ns, refl)

few_parts : (a b : Bool) (p q : Option ℕ) → cond a (Some NoName) (cond b (Some TooManyNames) (worst_place p q)) ≡ None
    → b ≡ false
few_parts true b p q h = absurd (cc)
few_parts false true p q h = absurd (cc)
few_parts false false p q h = refl

pub few : (ns : List (List ℕ)) → names_fault ns ≡ None → length ns ≤ MOST_REGISTERS
few ns h =
    let m = few_parts (nat_eq (length ns) 0) (nat_lt MOST_REGISTERS (length ns)) (first_bad ns) (first_repeat ns) h in
    grind (arith, nat_tests)

pub each_word : (ws : List (List ℕ)) (i : ℕ) → list_all is_word ws ≡ true → i < length ws
    → is_word (get_or ws i []) ≡ true
each_word [] i h l = absurd (omega (arith, l))
each_word (w ∷ ws) zero h l = (both_true (is_word w) (list_all is_word ws) h).0
each_word (w ∷ ws) (suc i) h l = each_word ws i (both_true (is_word w) (list_all is_word ws) h).1 (omega (arith, l))

pub record Worded (all now : List ℕ) (xs : List (List ℕ)) (i : ℕ) : Type 0 where
  pub text : all ≡ names_text xs ++ now
  pub count : length xs ≡ i
  pub only : (ns : List (List ℕ)) → list_all is_word ns ≡ true → all ≡ names_text ns
      → (xs ≡ take i ns) × (now ≡ names_text (drop i ns)) × (i ≤ length ns)

pub worded : (all : List ℕ) → Worded all all [] 0
worded all = record { text = refl; count = refl; only = λ ns ok e. (refl, e, omega arith) }

pub record NextName (ns : List (List ℕ)) (now : List ℕ) (i : ℕ) : Type 0 where
  pub name : List ℕ
  pub within : i < length ns
  pub here : get_or ns i [] ≡ name
  pub text : now ≡ 32 ∷ (name ++ names_text (drop (suc i) ns))
  pub front : take (suc i) ns ≡ take i ns ++ name ∷ []

pub name_at : (ns : List (List ℕ)) (now : List ℕ) (i : ℕ) → (length now == 0) ≡ false → now ≡ names_text (drop i ns)
    → NextName ns now i
name_at [] [] zero some e = absurd (cc)
name_at [] [] (suc i) some e = absurd (cc)
name_at [] (b ∷ now) zero some e = absurd (cc)
name_at [] (b ∷ now) (suc i) some e = absurd (cc)
name_at (n ∷ ns) now zero some e = record { name = n; within = omega arith; here = refl; text = e; front = refl }
name_at (n ∷ ns) now (suc i) some e =
    let r = name_at ns now i some e in
    record { name = r.name; within = omega (arith, r.within); here = r.here; text = r.text; front = ap (λ l. n ∷ l) r.front }

abbrev pub Cuts : List ℕ → List ℕ → List ℕ → Type 0
Cuts now word after = (w a : List ℕ) → Lacks 32 w → Starts 32 a → now ≡ 32 ∷ (w ++ a) → (word ≡ w) × (after ≡ a)

pub adds : (all now : List ℕ) (xs : List (List ℕ)) (i : ℕ) (word after : List ℕ) → Worded all now xs i
    → (length now == 0) ≡ false → now ≡ 32 ∷ (word ++ after) → Cuts now word after
    → Worded all after (xs ++ word ∷ []) (i + 1)
adds all now xs i word after t some e cuts =
    let up : i + 1 ≡ suc i = omega arith in
    record {
      text = t.text ∙ ap (λ l. names_text xs ++ l) e ∙ sym (append_assoc (names_text xs) (32 ∷ word) after) ∙ ap (λ l. (names_text xs ++ l) ++ after) (sym (append-nil (32 ∷ word))) ∙ ap (λ l. l ++ after) (sym (flat_map-append (λ n. 32 ∷ n) xs (word ∷ [])));
      count = length-append xs (word ∷ []) ∙ ap (λ k. k + 1) t.count;
      only = λ ns ok f.
          let o = t.only ns ok f in
          let n = name_at ns now i some o.1 in
          let P : List ℕ → Type 0 = λ l. is_word l ≡ true in
          let good : is_word n.name ≡ true = subst P n.here (each_word ns i ok n.within) in
          let c = cuts n.name (names_text (drop (suc i) ns)) (word_lacks n.name good) (starts (drop (suc i) ns)) n.text in
          (ap (λ l. l ++ word ∷ []) o.0 ∙ ap (λ l. take i ns ++ l ∷ []) c.0 ∙ sym n.front ∙ ap (λ j. take j ns) (sym up), c.1 ∙ ap (λ j. names_text (drop j ns)) (sym up), omega (arith, n.within));
    }

pub no_word : (all now : List ℕ) (xs : List (List ℕ)) (i : ℕ) → Worded all now xs i → (length now == 0) ≡ false
    → ((w a : List ℕ) → Lacks 32 w → Starts 32 a → now ≡ 32 ∷ (w ++ a) → ⊥) → (ns : List (List ℕ)) → list_all is_word ns ≡ true → all ≡ names_text ns → ⊥
no_word all now xs i t some none ns ok f =
    let o = t.only ns ok f in
    let n = name_at ns now i some o.1 in
    let P : List ℕ → Type 0 = λ l. is_word l ≡ true in
    let good : is_word n.name ≡ true = subst P n.here (each_word ns i ok n.within) in
    none n.name (names_text (drop (suc i) ns)) (word_lacks n.name good) (starts (drop (suc i) ns)) n.text

pub no_text : (all now : List ℕ) (xs : List (List ℕ)) (i : ℕ) (word after : List ℕ) → Worded all now xs i
    → (length now == 0) ≡ false → Cuts now word after → (IsUtf8 word → ⊥) → (ns : List (List ℕ))
    → list_all is_word ns ≡ true → all ≡ names_text ns → ⊥
no_text all now xs i word after t some cuts bad ns ok f =
    let o = t.only ns ok f in
    let n = name_at ns now i some o.1 in
    let P : List ℕ → Type 0 = λ l. is_word l ≡ true in
    let Q : List ℕ → Type 0 = λ l. IsUtf8 l in
    let good : is_word n.name ≡ true = subst P n.here (each_word ns i ok n.within) in
    let c = cuts n.name (names_text (drop (suc i) ns)) (word_lacks n.name good) (starts (drop (suc i) ns)) n.text in
    bad (subst Q (sym c.0) (word_text n.name good))

all_taken : (ns : List (List ℕ)) (i : ℕ) → i ≤ length ns → [] ≡ names_text (drop i ns) → take i ns ≡ ns
all_taken [] zero l e = refl
all_taken [] (suc i) l e = absurd (omega arith)
all_taken (n ∷ ns) zero l e = absurd (cc)
all_taken (n ∷ ns) (suc i) l e = ap (λ t. n ∷ t) (all_taken ns i (omega arith) e)

pub finished : (all now : List ℕ) (xs : List (List ℕ)) (i : ℕ) → Worded all now xs i → now ≡ []
    → (all ≡ names_text xs) × ((ns : List (List ℕ)) → list_all is_word ns ≡ true → all ≡ names_text ns → xs ≡ ns)
finished all now xs i t e = (
  t.text ∙ ap (λ l. names_text xs ++ l) e ∙ append-nil (names_text xs),
  λ ns ok f. let o = t.only ns ok f in o.0 ∙ all_taken ns i o.2 (sym e ∙ o.1),
)

-- so many words were read, and more follow
pub left_over : (all now : List ℕ) (xs : List (List ℕ)) (i : ℕ) → Worded all now xs i → (length now == 0) ≡ false
    → (ns : List (List ℕ)) → list_all is_word ns ≡ true → all ≡ names_text ns
    → (xs ≡ take i ns) × (i < length ns)
left_over all now xs i t some ns ok f = let o = t.only ns ok f in (o.0, (name_at ns now i some o.1).within)

-- why there are more words than may be
pub more_why : (limit : ℕ) (ws xs : List (List ℕ)) (why : Why) → (xs ≡ take limit ws) × (limit < length ws)
    → ((why ≡ Range) × (names_fault xs ≡ None)) ⊎ ((why ≡ Name) × ¬ (names_fault xs ≡ None)) → IsNamesWhy limit ws why
more_why limit ws xs why left (inl h) =
    let P : Why → Type 0 = λ w. IsNamesWhy limit ws w in
    subst P (sym h.0) (left.1, ap names_fault (sym left.0) ∙ h.1)
more_why limit ws xs why left (inr h) =
    let P : Why → Type 0 = λ w. IsNamesWhy limit ws w in
    subst P (sym h.0) (λ none. h.1 (ap names_fault left.0 ∙ none))
