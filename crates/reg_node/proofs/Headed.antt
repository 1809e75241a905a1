-- What a crash leaves of a log before its head is whole, counted by line feeds.
use Rattle.std.proofs.Common.{ℕ, ◌≡◌, ◌≢◌, ◌<◌, ◌+◌, ◌==◌, ◌^◌, ◌⊎◌, inl, inr, not, true, List, [], ◌∷◌, ◌++◌, length}
use Rattle.std.proofs.Common.{Bool, false, cond, refl, sym, ap, ◌∙◌, subst, arith, append_assoc, append-nil, codes}
use Rattle.std.proofs.Common.{lit<, drop, get_or}
use Rattle.std.specs.List.{list_all}
use Rattle.std.specs.Fmt.{decimal}
use Rattle.std.proofs.lemmas.List.Sums.{sum_by-append}
use Rattle.reg_text.specs.Parts.{Lacks}
use Rattle.reg_text.proofs.NamesLack.{both_true}
use Rattle.reg_base.specs.Shape.{Extent}
use Rattle.reg_front.specs.declared.named.Front.{Front}
use Rattle.reg_front.specs.Table.{front_name}
use Rattle.reg_text.specs.Words.{names_text}
use Rattle.reg_node.specs.declared.transcripts.logs.LogId.{LogId}
use Rattle.reg_node.specs.Headless.{IsHeadless, feeds, first_lines, first_text}
use Rattle.reg_node.specs.LogFaults.{IsNoLog}
use Rattle.reg_node.specs.LogTexts.{IsJournal, begun_with, log_lines, log_text}
use Rattle.reg_node.specs.Seals.{AreLines, crc_after, crc_behind, first_crc, sealed, sealed_line}
use Rattle.reg_node.proofs.Journals.{are_first, are_lines}
use Rattle.reg_node.proofs.Leading.{sealed_both}
use Rattle.reg_node.proofs.Parted.{no_feeds}
use Rattle.reg_node.proofs.Sealed.{front_is, front_lacks, front_of, sealed_more}

both_feeds : (a b : List ℕ) → feeds (a ++ b) ≡ feeds a + feeds b
both_feeds a b = sum_by-append (λ x. cond (x == 10) 1 0) a b

is_other : (b : Bool) → not b ≡ true → b ≡ false
is_other true e = absurd (cc)
is_other false e = refl

lacks_feeds : (l : List ℕ) → Lacks 10 l → feeds l ≡ 0
lacks_feeds [] lacks = refl
lacks_feeds (x ∷ l) lacks =
    let both = both_true (not (x == 10)) (list_all (λ c. not (c == 10)) l) lacks in
    let one : Bool → ℕ = λ b. 0 + cond b 1 0 in
    let here : feeds (x ∷ []) ≡ 0 = ap one (is_other (x == 10) both.0) in
    let rest = lacks_feeds l both.1 in
    let all = both_feeds (x ∷ []) l in
    omega (arith, here, rest, all)

line_is : (c : ℕ) (line : List ℕ) → sealed_line c line ≡ front_of c line ++ 10 ∷ []
line_is c line = sym (append-nil (sealed_line c line)) ∙ front_is c line []

line_feeds : (c : ℕ) (line : List ℕ) → Lacks 10 line → feeds (sealed_line c line) ≡ 1
line_feeds c line lacks =
    ap feeds (line_is c line) ∙ both_feeds (front_of c line) (10 ∷ []) ∙ ap (λ n. n + 1) (lacks_feeds (front_of c line) (front_lacks c line lacks))

-- as many line feeds as lines
sealed_feeds : (c : ℕ) (lines : List (List ℕ)) → AreLines lines → feeds (sealed c lines) ≡ length lines
sealed_feeds c [] are = refl
sealed_feeds c (line ∷ lines) are =
    let own = line_feeds c line are.0 in
    let rest = sealed_feeds (crc_behind c line) lines are.1 in
    let all = both_feeds (sealed_line c line) (sealed (crc_behind c line) lines) in
    omega (arith, own, rest, all)

module _ (id : LogId) (cluster : id.cluster < 2 ^ 64) (process : id.process < 2 ^ 64) (chapter : id.chapter < 2 ^ 64) where
  first_feeds : feeds (first_text id) ≡ 4
  first_feeds = sealed_feeds first_crc (first_lines id) (are_first id cluster process chapter)

  few : (bytes : List ℕ) → IsHeadless id bytes → feeds bytes < 9
  few bytes (inl p) =
      let all = ap feeds p.all ∙ both_feeds p.part p.zeros in
      let text = sym first_feeds ∙ ap feeds p.of_text ∙ both_feeds p.part p.left in
      let none = no_feeds p.zeros p.are in
      omega (arith, all, text, none)
  few bytes (inr s) =
      let all = ap feeds s.1 ∙ both_feeds (first_text id) s.0 in
      let text = first_feeds in
      let short = s.2 in
      omega (arith, all, text, short)

  -- no log is spelled
  pub no_log : (bytes : List ℕ) → IsHeadless id bytes → IsNoLog bytes
  no_log bytes h = λ j tail good s.
      let all = ap feeds s.all ∙ both_feeds (log_text j) tail in
      let lines = sealed_feeds first_crc (log_lines j) (are_lines j good) in
      let less = few bytes h in
      omega (arith, all, lines, less)

-- two ways to part a list
parts : (a b x y : List ℕ) → a ++ b ≡ x ++ y
    → ((u : List ℕ) × (x ≡ a ++ u) × (b ≡ u ++ y)) ⊎ ((u : List ℕ) × (a ≡ x ++ u) × (y ≡ u ++ b))
parts [] b x y e = inl (x, refl, e)
parts (d ∷ a) b [] y e = inr (d ∷ a, refl, sym e)
parts (d ∷ a) b (f ∷ x) y e =
    let first : d ≡ f = ap (λ l. get_or l 0 0) e in
    let further : ((u : List ℕ) × (x ≡ a ++ u) × (b ≡ u ++ y)) ⊎ ((u : List ℕ) × (a ≡ x ++ u) × (y ≡ u ++ b)) → ((u : List ℕ) × (f ∷ x ≡ (d ∷ a) ++ u) × (b ≡ u ++ y)) ⊎ ((u : List ℕ) × (d ∷ a ≡ (f ∷ x) ++ u) × (y ≡ u ++ b)) = elim [
      | inl s ↦ inl (s.0, ap (λ z. z ∷ x) (sym first) ∙ ap (λ l. d ∷ l) s.1, s.2)
      | inr s ↦ inr (s.0, ap (λ z. z ∷ a) first ∙ ap (λ l. f ∷ l) s.1, s.2)
    ] in further (parts a b x y (ap (drop 1) e))

some_feed : (front u left : List ℕ) → left ≢ [] → u ++ left ≡ front ++ 10 ∷ [] → 0 < feeds left
some_feed front u left some e =
    let by : ((w : List ℕ) × (front ≡ u ++ w) × (left ≡ w ++ 10 ∷ [])) ⊎ ((w : List ℕ) × (u ≡ front ++ w) × (10 ∷ [] ≡ w ++ left)) → 0 < feeds left = elim [
      | inl s ↦ let all = ap feeds s.2 ∙ both_feeds s.0 (10 ∷ []) in omega (arith, all)
      | inr s ↦ last_feed s.0 left some s.2
    ] in by (parts u left front (10 ∷ []) e)
  where
    last_feed : (w left : List ℕ) → left ≢ [] → 10 ∷ [] ≡ w ++ left → 0 < feeds left
    last_feed [] left some e = subst (λ (l : List ℕ). 0 < feeds l) e (lit< tt)
    last_feed (x ∷ []) left some e = absurd (some (sym (ap (drop 1) e)))
    last_feed (x ∷ y ∷ w) left some e = absurd (cc)

-- a first part of a text that ends with a line feed has one less
less_feeds : (front u left : List ℕ) → left ≢ [] → u ++ left ≡ front ++ 10 ∷ [] → feeds u < feeds (front ++ 10 ∷ [])
less_feeds front u left some e =
    let one = some_feed front u left some e in
    let all = sym (ap feeds e) ∙ both_feeds u left in
    omega (arith, one, all)

module _ (id : LogId) (front : Front) (shape : Extent) (names : List (List ℕ)) (good : IsJournal (begun_with id front shape names)) where
  -- the lines of the head behind the first four, but for the last one
  abbrev middle : List (List ℕ)
  middle = (codes "begun " ++ decimal id.begun) ∷ codes "tellwydar record 1" ∷ (codes "front " ++ front_name front) ∷ (codes "processes " ++ decimal shape.processes) ∷ []

  abbrev last : List ℕ
  last = codes "registers" ++ names_text names

  abbrev behind_first : ℕ
  behind_first = crc_after first_crc (first_lines id)

  abbrev before_feed : List ℕ
  before_feed = sealed behind_first middle ++ front_of (crc_after behind_first middle) last

  rest_is : sealed behind_first (middle ++ last ∷ []) ≡ before_feed ++ 10 ∷ []
  rest_is =
      sealed_more behind_first middle last
      ∙ ap (λ t. sealed behind_first middle ++ t) (line_is (crc_after behind_first middle) last)
      ∙ sym (append_assoc (sealed behind_first middle) (front_of (crc_after behind_first middle) last) (10 ∷ []))

  head_is : log_text (begun_with id front shape names) ≡ first_text id ++ (before_feed ++ 10 ∷ [])
  head_is = sealed_both first_crc (first_lines id) (middle ++ last ∷ []) ∙ ap (λ t. first_text id ++ t) rest_is

  five : feeds (before_feed ++ 10 ∷ []) ≡ 5
  five = sym (ap feeds rest_is) ∙ sealed_feeds behind_first (middle ++ last ∷ []) (are_lines (begun_with id front shape names) good).1.1.1.1

  -- what a crash can leave of the head has no whole head
  pub is_left : (part left zeros : List ℕ) → log_text (begun_with id front shape names) ≡ part ++ left → left ≢ []
      → list_all (λ b. b == 0) zeros ≡ true → IsHeadless id (part ++ zeros)
  is_left part left zeros text some are =
      let by : ((u : List ℕ) × (first_text id ≡ part ++ u) × (left ≡ u ++ (before_feed ++ 10 ∷ []))) ⊎ ((u : List ℕ) × (part ≡ first_text id ++ u) × (before_feed ++ 10 ∷ [] ≡ u ++ left)) → IsHeadless id (part ++ zeros) = elim [
        | inl s ↦ inl (record { part = part; left = s.0; zeros = zeros; all = refl; of_text = s.1; are = are })
        | inr s ↦ inr (s.0 ++ zeros, ap (λ l. l ++ zeros) s.1 ∙ append_assoc (first_text id) s.0 zeros, short s.0 s.2)
      ] in by (parts part left (first_text id) (before_feed ++ 10 ∷ []) (sym text ∙ head_is))
    where
      short : (u : List ℕ) → before_feed ++ 10 ∷ [] ≡ u ++ left → feeds (u ++ zeros) < 5
      short u e =
          let less = less_feeds before_feed u left some (sym e) in
          let all = both_feeds u zeros in
          let none = no_feeds zeros are in
          let whole = five in
          omega (arith, less, all, none, whole)
