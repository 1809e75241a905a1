-- Sealed lines: one more, and that bytes are those of one list of lines alone.
use Rattle.std.proofs.Common.{ℕ, ◌≡◌, ◌==◌, ◌-◌, not, true, List, [], ◌∷◌, ◌++◌, length, drop, get_or, refl, sym, ap}
use Rattle.std.proofs.Common.{◌∙◌, subst, append_assoc, append-nil}
use Rattle.std.specs.List.{list_all}
use Rattle.std.specs.Int.{bytes_high_first}
use Rattle.hex.specs.Hex.{encode_with}
use Rattle.reg_text.specs.Lines.{text_of}
use Rattle.reg_text.specs.Parts.{Lacks}
use Rattle.reg_text.proofs.Joining.{joined}
use Rattle.reg_text.proofs.NamesLack.{both_true}
use Rattle.reg_text.proofs.Worded.{not_lacking}
use Rattle.reg_node.specs.Seals.{AreLines, IsSealed, IsTorn, crc_after, crc_behind, crc_over, first_crc, seal_text}
use Rattle.reg_node.specs.Seals.{sealed, sealed_line}
use Rattle.reg_node.specs.Unsealing.{IsBegunBy}
use Rattle.reg_node.proofs.Signs.{clear_hex}

pub seal_long : (c : ℕ) → length (seal_text c) ≡ 8
unfolding encode_with
seal_long c = refl

seal_lacks : (c : ℕ) → Lacks 10 (seal_text c)
seal_lacks c = (clear_hex (bytes_high_first 4 (4294967295 - c))).1

-- what stands before the line feed of a sealed line
abbrev pub front_of : ℕ → List ℕ → List ℕ
front_of c line = seal_text (crc_over c line) ++ 32 ∷ line

pub front_lacks : (c : ℕ) (line : List ℕ) → Lacks 10 line → Lacks 10 (front_of c line)
front_lacks c line h =
    joined 10 (seal_text (crc_over c line)) (32 ∷ line) (seal_lacks (crc_over c line)) (joined 10 (32 ∷ []) line refl h)

pub front_is : (c : ℕ) (line rest : List ℕ) → sealed_line c line ++ rest ≡ front_of c line ++ 10 ∷ rest
front_is c line rest =
    append_assoc (seal_text (crc_over c line)) (32 ∷ (line ++ 10 ∷ [])) rest
    ∙ ap (λ l. seal_text (crc_over c line) ++ 32 ∷ l) (append_assoc line (10 ∷ []) rest)
    ∙ sym (append_assoc (seal_text (crc_over c line)) (32 ∷ line) (10 ∷ rest))

pub torn_without_feed : (c : ℕ) (tail : List ℕ) → Lacks 10 tail → IsTorn c tail
torn_without_feed c tail lacks = λ line rest h e. not_lacking 10 (front_of c line) rest (subst (λ (l : List ℕ). Lacks 10 l) (e ∙ front_is c line rest) lacks)

lacks_behind : (m : ℕ) (a b : List ℕ) → Lacks m (a ++ b) → Lacks m b
lacks_behind m [] b h = h
lacks_behind m (x ∷ a) b h = lacks_behind m a b (both_true (not (x == m)) (list_all (λ c. not (c == m)) (a ++ b)) h).1

-- the parts of the first line, put together
pub put_back : (bytes front rest seal behind line : List ℕ) (crc own : ℕ) → bytes ≡ front ++ 10 ∷ rest → Lacks 10 front
    → front ≡ seal ++ behind → behind ≡ 32 ∷ line → seal ≡ seal_text own → own ≡ crc_over crc line
    → (bytes ≡ sealed_line crc line ++ rest) × Lacks 10 line
put_back bytes front rest seal behind line crc own read lacks front_is_both behind_is seal_is own_is =
    let same : front ≡ front_of crc line = front_is_both ∙ ap (λ s. s ++ behind) (seal_is ∙ ap seal_text own_is) ∙ ap (λ b. seal_text (crc_over crc line) ++ b) behind_is in (
      read ∙ ap (λ f. f ++ 10 ∷ rest) same ∙ sym (front_is crc line rest),
      lacks_behind 10 (32 ∷ []) line (lacks_behind 10 (seal_text (crc_over crc line)) (32 ∷ line) (subst (λ (l : List ℕ). Lacks 10 l) same lacks)),
    )

-- one line more
pub sealed_more : (c : ℕ) (ls : List (List ℕ)) (l : List ℕ)
    → sealed c (ls ++ l ∷ []) ≡ sealed c ls ++ sealed_line (crc_after c ls) l
sealed_more c [] l = append-nil (sealed_line c l)
sealed_more c (x ∷ ls) l =
    ap (λ t. sealed_line c x ++ t) (sealed_more (crc_behind c x) ls l) ∙ sym (append_assoc (sealed_line c x) (sealed (crc_behind c x) ls) (sealed_line (crc_after (crc_behind c x) ls) l))

pub crc_more : (c : ℕ) (ls : List (List ℕ)) (l : List ℕ) → crc_after c (ls ++ l ∷ []) ≡ crc_behind (crc_after c ls) l
crc_more c [] l = refl
crc_more c (x ∷ ls) l = crc_more (crc_behind c x) ls l

text_more : (ls : List (List ℕ)) (l : List ℕ) → text_of (ls ++ l ∷ []) ≡ text_of ls ++ (l ++ 10 ∷ [])
text_more [] l = append-nil (l ++ 10 ∷ [])
text_more (x ∷ ls) l =
    ap (λ t. (x ++ 10 ∷ []) ++ t) (text_more ls l) ∙ sym (append_assoc (x ++ 10 ∷ []) (text_of ls) (l ++ 10 ∷ []))

lines_more : (ls : List (List ℕ)) (l : List ℕ) → AreLines ls → Lacks 10 l → AreLines (ls ++ l ∷ [])
lines_more [] l are lacks = (lacks, tt)
lines_more (x ∷ ls) l are lacks = (are.0, lines_more ls l are.1 lacks)

pub begun : (bytes : List ℕ) → IsBegunBy bytes [] first_crc bytes
begun bytes = record { lines = []; read = refl; are = tt; text_is = refl; crc_is = refl }

pub begun_more : (bytes text new rest after line : List ℕ) (crc behind : ℕ) → IsBegunBy bytes text crc rest
    → rest ≡ sealed_line crc line ++ after → Lacks 10 line → behind ≡ crc_behind crc line
    → new ≡ text ++ (line ++ 10 ∷ []) → IsBegunBy bytes new behind after
begun_more bytes text new rest after line crc behind b read lacks next grown = record {
  lines = b.lines ++ line ∷ [];
  read = b.read ∙ ap (λ t. sealed first_crc b.lines ++ t) (read ∙ ap (λ c. sealed_line c line ++ after) b.crc_is) ∙ sym (append_assoc (sealed first_crc b.lines) (sealed_line (crc_after first_crc b.lines) line) after)
      ∙ ap (λ t. t ++ after) (sym (sealed_more first_crc b.lines line));
  are = lines_more b.lines line b.are lacks;
  text_is = grown ∙ ap (λ t. t ++ (line ++ 10 ∷ [])) b.text_is ∙ sym (text_more b.lines line);
  crc_is = next ∙ ap (λ c. crc_behind c line) b.crc_is ∙ sym (crc_more first_crc b.lines line);
}

pub grown : (old new : List ℕ) (crc behind : ℕ) (lines : List (List ℕ)) (line : List ℕ) → IsSealed old crc lines
    → new ≡ old ++ sealed_line crc line → behind ≡ crc_behind crc line → IsSealed new behind (lines ++ line ∷ [])
grown old new crc behind lines line is added next = record {
  text = added ∙ ap (λ t. t ++ sealed_line crc line) is.text ∙ ap (λ c. sealed first_crc lines ++ sealed_line c line) is.crc ∙ sym (sealed_more first_crc lines line);
  crc = next ∙ ap (λ c. crc_behind c line) is.crc ∙ sym (crc_more first_crc lines line);
}

-- a further line, told otherwise
pub grown_as : {old new : List ℕ} {crc behind : ℕ} {lines : List (List ℕ)} (line other : List ℕ)
    → IsSealed old crc lines → ((ls : List (List ℕ)) → IsSealed old crc ls → IsSealed new behind (ls ++ line ∷ []))
    → line ≡ other → IsSealed new behind (lines ++ other ∷ [])
grown_as {old} {new} {crc} {behind} {lines} line other is grows same =
    subst (λ (l : List ℕ). IsSealed new behind (lines ++ l ∷ [])) same (grows lines is)

-- a line is found in one way
same_front : (x y a b : List ℕ) → Lacks 10 x → Lacks 10 y → x ++ 10 ∷ a ≡ y ++ 10 ∷ b → (x ≡ y) × (a ≡ b)
same_front [] [] a b h k e = (refl, ap (drop 1) e)
same_front [] (d ∷ y) a b h k e =
    let first : 10 ≡ d = ap (λ l. get_or l 0 0) e in
    let P : ℕ → Type 0 = λ n. not (n == 10) ≡ true in
    let wrong : not (10 == 10) ≡ true = subst P (sym first) (both_true (not (d == 10)) (list_all (λ c. not (c == 10)) y) k).0 in
    absurd (cc)
same_front (d ∷ x) [] a b h k e =
    let first : d ≡ 10 = ap (λ l. get_or l 0 0) e in
    let P : ℕ → Type 0 = λ n. not (n == 10) ≡ true in
    let wrong : not (10 == 10) ≡ true = subst P first (both_true (not (d == 10)) (list_all (λ c. not (c == 10)) x) h).0 in
    absurd (cc)
same_front (d ∷ x) (f ∷ y) a b h k e =
    let first : d ≡ f = ap (λ l. get_or l 0 0) e in
    let rest = same_front x y a b (both_true (not (d == 10)) (list_all (λ c. not (c == 10)) x) h).1 (both_true (not (f == 10)) (list_all (λ c. not (c == 10)) y) k).1 (ap (drop 1) e) in
    (ap (λ n. n ∷ x) first ∙ ap (λ l. f ∷ l) rest.0, rest.1)

behind_seal : (c : ℕ) (x a : List ℕ) → drop 9 (front_of c x ++ 10 ∷ a) ≡ x ++ 10 ∷ a
unfolding encode_with
behind_seal c x a = refl

one : (c : ℕ) (x y a b : List ℕ) → Lacks 10 x → Lacks 10 y → sealed_line c x ++ a ≡ sealed_line c y ++ b
    → (x ≡ y) × (a ≡ b)
one c x y a b h k e =
    same_front x y a b h k (sym (behind_seal c x a) ∙ ap (drop 9) (sym (front_is c x a) ∙ e ∙ front_is c y b) ∙ behind_seal c y b)

pub unique : (c : ℕ) (xs ys : List (List ℕ)) (t s : List ℕ) → AreLines xs → AreLines ys
    → sealed c xs ++ t ≡ sealed c ys ++ s → IsTorn (crc_after c xs) t → IsTorn (crc_after c ys) s → (xs ≡ ys) × (t ≡ s)
unique c [] [] t s ax ay e tx ty = (refl, e)
unique c [] (y ∷ ys) t s ax ay e tx ty = absurd (tx y (sealed (crc_behind c y) ys ++ s) ay.0 (e ∙ append_assoc (sealed_line c y) (sealed (crc_behind c y) ys) s))
unique c (x ∷ xs) [] t s ax ay e tx ty = absurd (ty x (sealed (crc_behind c x) xs ++ t) ax.0 (sym e ∙ append_assoc (sealed_line c x) (sealed (crc_behind c x) xs) t))
unique c (x ∷ xs) (y ∷ ys) t s ax ay e tx ty =
    let shape = sym (append_assoc (sealed_line c x) (sealed (crc_behind c x) xs) t) ∙ e ∙ append_assoc (sealed_line c y) (sealed (crc_behind c y) ys) s in
    let both = one c x y (sealed (crc_behind c x) xs ++ t) (sealed (crc_behind c y) ys ++ s) ax.0 ay.0 shape in
    let P : List ℕ → Type 0 = λ z. sealed (crc_behind c x) xs ++ t ≡ sealed (crc_behind c z) ys ++ s → IsTorn (crc_after (crc_behind c z) ys) s → (x ∷ xs ≡ z ∷ ys) × (t ≡ s) in
    let here : P x = λ f torn. let r = unique (crc_behind c x) xs ys t s ax.1 ay.1 f tx torn in (ap (λ l. x ∷ l) r.0, r.1) in
    subst P both.0 here both.1 ty
