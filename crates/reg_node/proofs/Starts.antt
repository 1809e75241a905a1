-- The bytes of the start of a message, and the CRC-32 of names with a space between two.
use Rattle.std.proofs.Common.{◌≡◌, ℕ, zero, suc, ◌+◌, ◌<◌, ◌≤◌, ◌^◌, ◌==◌, Bool, true, false, List, [], ◌∷◌, ◌++◌}
use Rattle.std.proofs.Common.{length, take, drop, get_or, refl, sym, ap, ap₂, ◌∙◌, arith, append_assoc, append-nil}
use Rattle.std.proofs.Common.{drop-cons, take-append-drop}
use Rattle.std.specs.Prelude.{if◌then◌else◌}
use Rattle.std.specs.Int.{w16, w32, w64, from_be_bytes, to_be_bytes}
use Rattle.std.proofs.lemmas.Bool.{ne_eqb}
use Rattle.std.proofs.lemmas.Grind.{flat_map-append}
use Rattle.std.proofs.lemmas.List.{drop-drop, drop_all, length-take-le, take_more}
use Rattle.std.proofs.lemmas.Nat.{from_be_bytes-to_be_bytes_2, from_be_bytes-to_be_bytes_4, from_be_bytes-to_be_bytes_8}
use Rattle.reg_text.specs.Words.{names_text}
use Rattle.reg_node.specs.Chapters.{bit}
use Rattle.reg_node.specs.declared.messages.Greeting.{Greeting}
use Rattle.reg_node.specs.declared.messages.Message.{Message}
use Rattle.reg_node.specs.declared.messages.MessageStart.{MessageStart}
use Rattle.reg_node.specs.Messages.{AreInRange, SpellsMessage, SpellsStart, greeting_bytes, spaced, start_bytes}
use Rattle.reg_node.specs.Seals.{crc_byte, crc_over, first_crc}

-- a number stands in these bytes, and the others behind it
field : (k n : ℕ) (m number behind : List ℕ) → number ≡ take k (drop n m) → drop k (drop n m) ≡ behind
    → drop n m ≡ number ++ behind
field k n m number behind is rest = sym (take-append-drop k (drop n m)) ∙ ap₂ (λ x y. x ++ y) (sym is) rest

-- a byte stands there, and the others behind it
byte : (n : ℕ) (m behind : List ℕ) → n < length m → drop (suc n) m ≡ behind → drop n m ≡ get_or m n 0 ∷ behind
byte n m behind within rest = drop-cons m n 0 within ∙ ap (λ x. get_or m n 0 ∷ x) rest

-- what is read is spelled so
pub start_read : (m : List ℕ) (registers names cluster begun chapter : ℕ) → length m ≡ 33 → take 3 m ≡ 84 ∷ 87 ∷ 3 ∷ []
    → to_be_bytes w16 registers ≡ take 2 (drop 5 m) → to_be_bytes w32 names ≡ take 4 (drop 7 m)
    → to_be_bytes w64 cluster ≡ take 8 (drop 11 m)
    → to_be_bytes w64 begun ≡ take 8 (drop 21 m) → to_be_bytes w32 chapter ≡ take 4 (drop 29 m)
    → m ≡ start_bytes (record { front = get_or m 3 0; processes = get_or m 4 0; registers = registers; names = names; cluster = cluster; sender = get_or m 19 0; receiver = get_or m 20 0; begun = begun; chapter = chapter })
start_read m registers names cluster begun chapter size mark is_registers is_names is_cluster is_begun is_chapter =
    let end : drop 29 m ≡ to_be_bytes w32 chapter = field 4 29 m (to_be_bytes w32 chapter) [] is_chapter (drop-drop 4 29 m ∙ drop_all 33 m (omega (arith, size))) ∙ append-nil (to_be_bytes w32 chapter) in
    let log = field 8 21 m (to_be_bytes w64 begun) (to_be_bytes w32 chapter) is_begun (drop-drop 8 21 m ∙ end) in
    let who = byte 19 m _ (omega (arith, size)) (byte 20 m _ (omega (arith, size)) log) in
    let of = field 8 11 m (to_be_bytes w64 cluster) _ is_cluster (drop-drop 8 11 m ∙ who) in
    let named = field 4 7 m (to_be_bytes w32 names) _ is_names (drop-drop 4 7 m ∙ of) in
    let shape = field 2 5 m (to_be_bytes w16 registers) _ is_registers (drop-drop 2 5 m ∙ named) in
    let front = byte 3 m _ (omega (arith, size)) (byte 4 m _ (omega (arith, size)) shape) in
    field 3 0 m (84 ∷ 87 ∷ 3 ∷ []) _ (sym mark) front

-- a byte more, and the rest
pub message_read : (m : List ℕ) (s : MessageStart) → 33 < length m → SpellsStart (take 33 m) s
    → SpellsMessage m (record { start = s; brings = get_or m 33 0 })
message_read m s more is = record {
  rest = drop 34 m;
  spelled = sym (take-append-drop 33 m) ∙ ap₂ (λ x y. x ++ y) is.spelled (drop-cons m 33 0 more);
  within = is.within;
}

-- one name more
spaced_more : (names : List (List ℕ)) (name : List ℕ) (i : ℕ) → length names ≡ i
    → spaced (names ++ name ∷ []) ≡ spaced names ++ (if i == 0 then name else 32 ∷ name)
spaced_more [] name i e = append-nil name ∙ ap (λ k. if k == 0 then name else 32 ∷ name) e
spaced_more (x ∷ xs) name i e =
    let test : (i == 0) ≡ false = ne_eqb i 0 (λ none. absurd (omega (arith, e, none))) in
    ap (λ t. x ++ t) (flat_map-append (λ n. 32 ∷ n) xs (name ∷ []) ∙ ap (λ t. names_text xs ++ t) (append-nil (32 ∷ name)))
    ∙ sym (append_assoc x (names_text xs) (32 ∷ name))
    ∙ ap (λ b. (x ++ names_text xs) ++ (if b then name else 32 ∷ name)) (sym test)

over_both : (c : ℕ) (a b : List ℕ) → crc_over c (a ++ b) ≡ crc_over (crc_over c a) b
over_both c [] b = refl
over_both c (x ∷ a) b = over_both (crc_byte c x) a b

pub names_more : (names : List (List ℕ)) (i crc new : ℕ) (name : List ℕ) → i < length names
    → crc ≡ crc_over first_crc (spaced (take i names)) → name ≡ get_or names i []
    → new ≡ crc_over crc (if i == 0 then name else 32 ∷ name) → new ≡ crc_over first_crc (spaced (take (i + 1) names))
names_more names i crc new name within so_far is next =
    let size = length-take-le i names (omega (arith, within)) in
    next
    ∙ ap (λ c. crc_over c (if i == 0 then name else 32 ∷ name)) so_far
    ∙ sym (over_both first_crc (spaced (take i names)) (if i == 0 then name else 32 ∷ name))
    ∙ ap (crc_over first_crc) (sym (spaced_more (take i names) name i size) ∙ ap (λ n. spaced (take i names ++ n ∷ [])) is ∙ ap spaced (sym (take_more names i [] within)))

-- numbers of their size have bytes of their own
same_two : (a b : ℕ) → a < 2 ^ 16 → b < 2 ^ 16 → to_be_bytes w16 a ≡ to_be_bytes w16 b → a ≡ b
same_two a b h k e = sym (from_be_bytes-to_be_bytes_2 a h) ∙ ap (from_be_bytes w16) e ∙ from_be_bytes-to_be_bytes_2 b k

same_four : (a b : ℕ) → a < 2 ^ 32 → b < 2 ^ 32 → to_be_bytes w32 a ≡ to_be_bytes w32 b → a ≡ b
same_four a b h k e = sym (from_be_bytes-to_be_bytes_4 a h) ∙ ap (from_be_bytes w32) e ∙ from_be_bytes-to_be_bytes_4 b k

same_eight : (a b : ℕ) → a < 2 ^ 64 → b < 2 ^ 64 → to_be_bytes w64 a ≡ to_be_bytes w64 b → a ≡ b
same_eight a b h k e =
    sym (from_be_bytes-to_be_bytes_8 a h) ∙ ap (from_be_bytes w64) e ∙ from_be_bytes-to_be_bytes_8 b k

-- what begins with the bytes of two starts begins with those of one
pub start_again : (s t : MessageStart) (a b : List ℕ) → AreInRange s → AreInRange t
    → start_bytes s ++ a ≡ start_bytes t ++ b → (s ≡ t) × (a ≡ b)
start_again s t a b h k e =
    let part : (n m : ℕ) → take m (drop n (start_bytes s ++ a)) ≡ take m (drop n (start_bytes t ++ b)) = λ n m. ap (λ l. take m (drop n l)) e in
    let front : s.front ≡ t.front = ap (λ l. get_or l 3 0) e in
    let processes : s.processes ≡ t.processes = ap (λ l. get_or l 4 0) e in
    let registers = same_two s.registers t.registers h.registers k.registers (part 5 2) in
    let names = same_four s.names t.names h.names k.names (part 7 4) in
    let cluster = same_eight s.cluster t.cluster h.cluster k.cluster (part 11 8) in
    let sender : s.sender ≡ t.sender = ap (λ l. get_or l 19 0) e in
    let receiver : s.receiver ≡ t.receiver = ap (λ l. get_or l 20 0) e in
    let begun = same_eight s.begun t.begun h.begun k.begun (part 21 8) in
    let chapter = same_four s.chapter t.chapter h.chapter k.chapter (part 29 4) in (
      ap (λ x. record s { front = x }) front
          ∙ ap (λ x. record s { front = t.front; processes = x }) processes
          ∙ ap (λ x. record s { front = t.front; processes = t.processes; registers = x }) registers
          ∙ ap (λ x. record s { front = t.front; processes = t.processes; registers = t.registers; names = x }) names
          ∙ ap (λ x. record s { front = t.front; processes = t.processes; registers = t.registers; names = t.names; cluster = x }) cluster
          ∙ ap (λ x. record t { sender = x; receiver = s.receiver; begun = s.begun; chapter = s.chapter }) sender
          ∙ ap (λ x. record t { receiver = x; begun = s.begun; chapter = s.chapter }) receiver
          ∙ ap (λ x. record t { begun = x; chapter = s.chapter }) begun
          ∙ ap (λ x. record t { chapter = x }) chapter,
      ap (drop 33) e,
    )

pub message_again : (bytes : List ℕ) (m n : Message) → SpellsMessage bytes m → SpellsMessage bytes n → m ≡ n
message_again bytes m n h k =
    let both = start_again m.start n.start (m.brings ∷ h.rest) (n.brings ∷ k.rest) h.within k.within (sym h.spelled ∙ k.spelled) in
    let brings : m.brings ≡ n.brings = ap (λ l. get_or l 0 0) both.1 in
    ap (λ x. record m { start = x }) both.0 ∙ ap (λ x. record n { brings = x }) brings

-- Greetings

wants_again : (b : ℕ) → b ≤ 1 → b ≡ bit (b == 1) 1
wants_again zero few = refl
wants_again (suc zero) few = refl
wants_again (suc (suc b)) few = absurd (omega (arith, few))

pub greeting_read : (m : List ℕ) (accepted : ℕ) → length m ≡ 9 → get_or m 0 0 ≤ 1
    → to_be_bytes w64 accepted ≡ take 8 (drop 1 m)
    → m ≡ greeting_bytes (record { is_wanting = get_or m 0 0 == 1; accepted = accepted })
greeting_read m accepted size few is =
    let number : drop 1 m ≡ to_be_bytes w64 accepted = field 8 1 m (to_be_bytes w64 accepted) [] is (drop-drop 8 1 m ∙ drop_all 9 m (omega (arith, size))) ∙ append-nil (to_be_bytes w64 accepted) in
    byte 0 m (to_be_bytes w64 accepted) (omega (arith, size)) number ∙ ap (λ b. b ∷ to_be_bytes w64 accepted) (wants_again (get_or m 0 0) few)

one_bit : (b : Bool) → bit b 1 ≤ 1
one_bit true = omega arith
one_bit false = omega arith

pub greeting_size : (m : List ℕ) (g : Greeting) → m ≡ greeting_bytes g → (length m ≡ 9) × (get_or m 0 0 ≤ 1)
greeting_size m g is =
    (ap length is, (let e = ap (λ l. get_or l 0 0) is in let f = one_bit g.is_wanting in omega (arith, e, f)))
