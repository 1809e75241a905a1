-- The data is plain text.
use Rattle.std.proofs.Common.{ℕ, zero, suc, ◌≡◌, ◌+◌, ◌/◌, ◌%◌, ◌<◌, ◌≤◌, ◌==◌, Bool, true, false, List, [], ◌∷◌, ◌++◌}
use Rattle.std.proofs.Common.{length, map, get_or, codes, Option, None, Some, refl, sym, ap₂, ◌∙◌, subst, arith, inl}
use Rattle.std.proofs.Common.{inr, nat_lt, nat_le, ◌&&◌, if◌then◌else◌}
use Rattle.std.specs.Prelude.{flat_map, not}
use Rattle.std.specs.List.{All, list_all}
use Rattle.std.specs.Char.{digit_char, is_ascii_lowercase}
use Rattle.std.specs.Char.Escape.{encode_utf16, hex_digit_at}
use Rattle.std.specs.Str.{chars}
use Rattle.std.specs.Fmt.{decimal, digits, digits_onto, digit_glyph}
use Rattle.std.proofs.lemmas.Bool.{cases_order}
use Rattle.std.proofs.lemmas.Bool.Decides.{nat_tests}
use Rattle.std.proofs.lemmas.Grind.{flat_map-append}
use Rattle.std.proofs.lemmas.List.Elements.{All-append, All-nil}
use Rattle.reg_base.specs.declared.limits.TheConstants.{LONGEST_NAME}
use Rattle.reg_base.specs.declared.memory.Answer.{Answer}
use Rattle.reg_base.specs.declared.memory.Answer.TheVariants.{Done, Value, Unequal}
use Rattle.reg_base.specs.declared.memory.Op.{Op}
use Rattle.reg_base.specs.declared.memory.Op.TheVariants.{Read, Write, Swap, CompareAndSwap}
use Rattle.reg_base.specs.declared.stamps.Delivered.{Delivered}
use Rattle.reg_base.specs.Names.{is_name, names_fault}
use Rattle.reg_frames.specs.declared.bodies.Body.{Body}
use Rattle.reg_frames.specs.declared.bodies.Body.TheVariants.{Cast, Ack}
use Rattle.reg_frames.specs.declared.bodies.Frame.{Frame}
use Rattle.reg_frames.specs.declared.bodies.Frame.TheVariants.{Numbered, Got}
use Rattle.reg_front.specs.declared.named.Front.{Front}
use Rattle.reg_front.specs.declared.named.Front.TheVariants.{Linear, LocalRead, LocalWrite}
use Rattle.reg_front.specs.Table.{front_name}
use Rattle.reg_text.specs.Ops.{answer_text, op_text}
use Rattle.reg_trace.specs.declared.figures.Bar.{Bar}
use Rattle.reg_trace.specs.declared.figures.End.{End}
use Rattle.reg_trace.specs.declared.moments.Sent.{Sent}
use Rattle.reg_checkers.specs.declared.entries.Point.{Point}
use Rattle.reg_process.specs.declared.known.Known.{Known}
use Rattle.reg_process.specs.declared.steps.Reply.{Reply}
use Rattle.reg_process.specs.Process.{Running, Own, Held}
use Rattle.reg_inputs.specs.Schedules.{event_text}
use Rattle.reg_text.proofs.NamesLack.{both_true, well_spelt}
use Rattle.reg_process.specs.declared.events.Event.{Event}
use Rattle.reg_process.specs.declared.events.Event.TheVariants.{Call, Take, Tick}
use Rattle.reg_trace.specs.declared.data.looks.Kept.{Kept}
use Rattle.reg_trace.specs.Data.{Data, data_text, head_text, order_text, points_part, run_text}
use Rattle.reg_trace.specs.Json.{joined, lines_text, list_text, numbers_text, quoted}
use Rattle.reg_trace.specs.Looks.{Look}
use Rattle.reg_trace.specs.Parts.{bar_part, body_part, end_part, frame_part, kept_part, look_part, moment_part}
use Rattle.reg_trace.specs.Parts.{peer_part, reply_part, running_part, sent_part, taken_part}
use Rattle.reg_trace.specs.Noted.{Noted, noted}
use Rattle.reg_trace.specs.Plain.{IsPiece, IsPlainText, is_plain}
use Rattle.reg_trace.specs.Strings.{char_text, escape_of, is_bare, string_text, unit_text}
use Rattle.reg_trace.specs.Rows.{arrow_row, cast_row, delivery_row, first_row, id_row, point_row, read_row}

-- a plain character that is no backslash
abbrev is_single : ℕ → Bool
is_single c = is_plain c && not (c == 92)

both : (xs ys : List ℕ) → list_all is_plain xs ≡ true → list_all is_plain ys ≡ true
    → list_all is_plain (xs ++ ys) ≡ true
both [] ys h k = k
both (x ∷ xs) ys h k =
    let b = both_true (is_plain x) (list_all is_plain xs) h in
    rw (b.0) (both xs ys b.1 k)

infixr 5 ◌⊳◌
-- one plain text after another
◌⊳◌ : {xs ys : List ℕ} → IsPlainText xs → IsPlainText ys → IsPlainText (xs ++ ys)
◌⊳◌ {xs} {ys} p q = record {
  plain = both xs ys p.plain q.plain;
  pieces = p.pieces ++ q.pieces;
  escaped = All-append IsPiece p.pieces q.pieces p.escaped q.escaped;
  whole = ap₂ (λ (a b : List ℕ). a ++ b) p.whole q.whole ∙ sym (flat_map-append (λ piece. piece) p.pieces q.pieces);
}

-- no text at all
nothing : IsPlainText []
nothing = record { plain = refl; pieces = []; escaped = All-nil IsPiece; whole = refl }

one_piece : (piece : List ℕ) → IsPiece piece → All IsPiece (piece ∷ [])
one_piece piece is zero d l = is
one_piece piece is (suc k) d l = absurd (omega (arith, l))

-- a character
single : (c : ℕ) → is_single c ≡ true → IsPlainText (c ∷ [])
single c h =
    let b = both_true (is_plain c) (not (c == 92)) h in
    record { plain = rw (b.0) refl; pieces = (c ∷ []) ∷ []; escaped = one_piece (c ∷ []) (inl (c, b.0, b.1, refl)); whole = refl }

-- a text that is written out
lit : (text : List ℕ) → list_all is_single text ≡ true → IsPlainText text
lit [] e = nothing
lit (c ∷ text) e =
    let b = both_true (is_single c) (list_all is_single text) e in
    single c b.0 ⊳ lit text b.1

-- ---- numbers, names and operations

plain_low : (c : ℕ) → 48 ≤ c → c ≤ 57 → is_single c ≡ true
plain_low c low high = grind (arith, nat_tests)

plain_letter : (c : ℕ) → 97 ≤ c → c ≤ 122 → is_single c ≡ true
plain_letter c low high = grind (arith, nat_tests)

lowercase : (c : ℕ) → is_ascii_lowercase c ≡ true → is_single c ≡ true
lowercase c h =
    let low : 97 ≤ c = grind (arith, nat_tests) in
    let high : c ≤ 122 = grind (arith, nat_tests) in
    plain_letter c low high

glyph : (n : ℕ) → is_single (digit_glyph false (n % 10)) ≡ true
glyph n =
    let small : n % 10 < 10 = omega arith in
    let is : digit_glyph false (n % 10) ≡ 48 + n % 10 = grind (arith, nat_tests) in
    subst (λ c. is_single c ≡ true) (sym is) (plain_low (48 + n % 10) (omega arith) (omega arith))

digits_plain : (k n : ℕ) (acc : List ℕ) → list_all is_single acc ≡ true
    → list_all is_single (digits_onto k 10 false n acc) ≡ true
digits_plain zero n acc h = h
digits_plain (suc k) n acc h =
    let one : list_all is_single (digit_glyph false (n % 10) ∷ acc) ≡ true = rw (glyph n) h in
    elim (n / 10 == 0) as (λ b. list_all is_single (if b then digit_glyph false (n % 10) ∷ acc else digits_onto k 10 false (n / 10) (digit_glyph false (n % 10) ∷ acc)) ≡ true) [
      | true ↦ one
      | false ↦ digits_plain k (n / 10) (digit_glyph false (n % 10) ∷ acc) one
    ]

number : (n : ℕ) → IsPlainText (decimal n)
unfolding digits
number n = lit (decimal n) (digits_plain 64 n [] refl)

letters : (l : List ℕ) → list_all is_ascii_lowercase l ≡ true → list_all is_single l ≡ true
letters [] h = refl
letters (c ∷ l) h =
    let b = both_true (is_ascii_lowercase c) (list_all is_ascii_lowercase l) h in
    rw (lowercase c b.0) (letters l b.1)

spelt : (name : List ℕ) → is_name name ≡ true → IsPlainText name
spelt name h =
    let a = both_true (nat_lt 0 (length name)) (nat_le (length name) LONGEST_NAME && list_all is_ascii_lowercase name) h in
    lit name (letters name (both_true (nat_le (length name) LONGEST_NAME) (list_all is_ascii_lowercase name) a.1).1)

past : (names : List (List ℕ)) (r : ℕ) → length names ≤ r → get_or names r [] ≡ []
past [] r l = refl
past (n ∷ names) zero l = absurd (omega (arith, l))
past (n ∷ names) (suc r) l = past names r (omega (arith, l))

name : (names : List (List ℕ)) → names_fault names ≡ None → (r : ℕ) → IsPlainText (get_or names r [])
name names ok r = elim (cases_order r (length names)) [
  | inl e ↦ subst IsPlainText (sym (past names r (omega (arith, e)))) (lit [] refl)
  | inr o ↦ elim o [
    | inl l ↦ spelt (get_or names r []) (well_spelt names r ok l)
    | inr g ↦ subst IsPlainText (sym (past names r (omega (arith, g)))) (lit [] refl)
  ]
]

operation : (names : List (List ℕ)) → names_fault names ≡ None → (op : Op) → IsPlainText (op_text names op)
operation names ok (Read r) = lit (codes "read ") refl ⊳ name names ok r
operation names ok (Write r v) = lit (codes "write ") refl ⊳ (name names ok r ⊳ (lit (32 ∷ []) refl ⊳ number v))
operation names ok (Swap r v) = lit (codes "swap ") refl ⊳ (name names ok r ⊳ (lit (32 ∷ []) refl ⊳ number v))
operation names ok (CompareAndSwap r e v) =
    lit (codes "cas ") refl ⊳ (name names ok r ⊳ (lit (32 ∷ []) refl ⊳ (number e ⊳ (lit (32 ∷ []) refl ⊳ number v))))

event : (names : List (List ℕ)) → names_fault names ≡ None → (e : Event) → IsPlainText (event_text names e)
event names ok (Call p op) = lit (codes "call ") refl ⊳ (number p ⊳ (lit (32 ∷ []) refl ⊳ operation names ok op))
event names ok (Take from to place) =
    lit (codes "take ") refl ⊳ (number from ⊳ (lit (32 ∷ []) refl ⊳ (number to ⊳ (lit (32 ∷ []) refl ⊳ number place))))
event names ok (Tick p) = lit (codes "tick ") refl ⊳ number p

answer : (a : Answer) → IsPlainText (answer_text a)
answer Done = lit (codes "done") refl
answer (Value v) = lit (codes "value ") refl ⊳ number v
answer Unequal = lit (codes "unequal") refl

front_plain : (f : Front) → IsPlainText (front_name f)
front_plain Linear = lit (front_name Linear) refl
front_plain LocalRead = lit (front_name LocalRead) refl
front_plain LocalWrite = lit (front_name LocalWrite) refl

-- ---- lists

tail_plain : {X : Type 0} (f : X → List ℕ) (xs : List X) → ((x : X) → IsPlainText (f x))
    → IsPlainText (flat_map (λ other. 44 ∷ other) (map f xs))
tail_plain f [] h = lit [] refl
tail_plain f (x ∷ xs) h = (lit (44 ∷ []) refl ⊳ h x) ⊳ tail_plain f xs h

joined_plain : {X : Type 0} (f : X → List ℕ) (xs : List X) → ((x : X) → IsPlainText (f x))
    → IsPlainText (joined (map f xs))
joined_plain f [] h = lit [] refl
joined_plain f (x ∷ xs) h = h x ⊳ tail_plain f xs h

list_plain : {X : Type 0} (f : X → List ℕ) (xs : List X) → ((x : X) → IsPlainText (f x)) → IsPlainText (list_text f xs)
list_plain f xs h = lit (codes "[") refl ⊳ (joined_plain f xs h ⊳ lit (codes "]") refl)

lines_plain : {X : Type 0} (f : X → List ℕ) (xs : List X) → ((x : X) → IsPlainText (f x))
    → IsPlainText (lines_text f xs)
lines_plain f xs h = lit (91 ∷ 10 ∷ []) refl ⊳ (joined_plain (λ x. f x ++ 10 ∷ []) xs (λ x. h x ⊳ lit (10 ∷ []) refl) ⊳ lit (codes "]") refl)

numbers : (ns : List ℕ) → IsPlainText (numbers_text ns)
numbers ns = list_plain decimal ns number

quotes : (text : List ℕ) → IsPlainText text → IsPlainText (quoted text)
quotes text h = lit (34 ∷ []) refl ⊳ (h ⊳ lit (34 ∷ []) refl)

-- ---- strings

flat_plain : {X : Type 0} (f : X → List ℕ) (xs : List X) → ((x : X) → IsPlainText (f x)) → IsPlainText (flat_map f xs)
flat_plain f [] h = nothing
flat_plain f (x ∷ xs) h = h x ⊳ flat_plain f xs h

bare_single : (u : ℕ) → is_bare u ≡ true → is_single u ≡ true
bare_single u h = grind (arith, nat_tests)

hex_plain : (d : ℕ) → d < 16 → is_plain (digit_char d) ≡ true
hex_plain d small = grind (arith, nat_tests)

hex_at : (worth u : ℕ) → is_plain (hex_digit_at worth u) ≡ true
hex_at worth u = hex_plain (u / worth % 16) (omega arith)

escape : (u : ℕ) → IsPlainText (escape_of u)
escape u = record {
  plain = rw (hex_at 0x1000 u, hex_at 0x100 u, hex_at 0x10 u, hex_at 1 u) refl;
  pieces = escape_of u ∷ [];
  escaped = one_piece (escape_of u) (inr (u, refl));
  whole = refl;
}

unit_plain : (u : ℕ) → IsPlainText (unit_text u)
unit_plain u = elim (is_bare u) as (λ b. is_bare u ≡ b → IsPlainText (if b then u ∷ [] else escape_of u)) [
  | true ↦ λ e. single u (bare_single u e)
  | false ↦ λ e. escape u
] refl

-- whatever the text
string_plain : (text : List ℕ) → IsPlainText (string_text text)
string_plain text = lit (34 ∷ []) refl ⊳ (flat_plain char_text (chars text) (λ c. flat_plain unit_text (encode_utf16 c) unit_plain) ⊳ lit (34 ∷ []) refl)

-- ---- the parts

module _ (names : List (List ℕ)) (ok : names_fault names ≡ None) where
  cast_plain : (c : Delivered) → IsPlainText (cast_row names c)
  cast_plain c = numbers (c.stamp.time ∷ c.stamp.process ∷ [])

  peer_plain : (k : Option Known) → IsPlainText (peer_part names k)
  peer_plain None = lit (codes "null") refl
  peer_plain (Some k) = numbers (k.seen ∷ k.expected ∷ k.first ∷ k.next ∷ [])

  kept_plain : (k : Kept) → IsPlainText (kept_part names k)
  kept_plain k = (lit (codes "[") refl ⊳ number k.register) ⊳ ((lit (codes ",\"") refl ⊳ number k.value) ⊳ lit (codes "\"]") refl)

  running_plain : (r : Option Running) → IsPlainText (running_part r)
  running_plain None = lit (codes "null") refl
  running_plain (Some (Own stamp op)) = (lit (codes "[\"cast\",") refl ⊳ number stamp.time) ⊳ lit (codes "]") refl
  running_plain (Some (Held op)) = lit (codes "[\"held\"]") refl

  look_plain : (l : Look) → IsPlainText (look_part names l)
  look_plain l =
      (lit (codes "{\"peers\":") refl ⊳ list_plain (peer_part names) l.peers peer_plain)
      ⊳ ((lit (codes ",\"held\":") refl ⊳ list_plain (cast_row names) l.held cast_plain)
      ⊳ ((lit (codes ",\"copy\":") refl ⊳ list_plain (kept_part names) l.copy kept_plain)
      ⊳ ((lit (codes ",\"delivered\":") refl ⊳ number l.delivered)
      ⊳ (lit (codes ",\"running\":") refl ⊳ (running_plain l.running ⊳ lit (codes "}") refl)))))

  body_plain : (n : ℕ) (b : Body) → IsPlainText (body_part names n b)
  body_plain n (Cast time op) = (lit (codes "[\"cast\",") refl ⊳ number n) ⊳ ((lit (codes ",") refl ⊳ number time) ⊳ (lit (codes ",") refl ⊳ (quotes (op_text names op) (operation names ok op) ⊳ lit (codes "]") refl)))
  body_plain n (Ack time) = (lit (codes "[\"ack\",") refl ⊳ number n) ⊳ ((lit (codes ",") refl ⊳ number time) ⊳ lit (codes "]") refl)

  frame_plain : (f : Frame) → IsPlainText (frame_part names f)
  frame_plain (Numbered n body) = body_plain n body
  frame_plain (Got count) = (lit (codes "[\"count\",") refl ⊳ number count) ⊳ lit (codes "]") refl

  taken_plain : (f : Option Frame) → IsPlainText (taken_part names f)
  taken_plain None = lit (codes "null") refl
  taken_plain (Some f) = frame_plain f

  sent_plain : (s : Sent) → IsPlainText (sent_part names s)
  sent_plain s = (lit (codes "[") refl ⊳ number s.to) ⊳ ((lit (codes ",") refl ⊳ number s.place) ⊳ (lit (codes ",") refl ⊳ (frame_plain s.frame ⊳ lit (codes "]") refl)))

  reply_plain : (r : Option Reply) → IsPlainText (reply_part r)
  reply_plain None = lit (codes "null") refl
  reply_plain (Some r) = lit (codes "{\"answer\":") refl ⊳ (quotes (answer_text r.answer) (answer r.answer) ⊳ ((lit (codes ",\"place\":") refl ⊳ number r.place) ⊳ lit (codes "}") refl))

  moment_plain : (n : Noted) → IsPlainText (moment_part names n)
  moment_plain n =
      lit (codes "{\"event\":") refl ⊳ (quotes (event_text names n.fact.event) (event names ok n.fact.event)
      ⊳ ((lit (codes ",\"process\":") refl ⊳ number n.fact.process)
      ⊳ (lit (codes ",\"frame\":") refl ⊳ (taken_plain n.fact.frame
      ⊳ ((lit (codes ",\"clock\":") refl ⊳ number n.fact.clock)
      ⊳ ((lit (codes ",\"delivered\":") refl ⊳ list_plain (delivery_row names) n.fact.delivered (λ d. cast_plain d.cast))
      ⊳ (lit (codes ",\"reply\":") refl ⊳ (reply_plain n.fact.reply
      ⊳ ((lit (codes ",\"sent\":") refl ⊳ list_plain (sent_part names) n.fact.sent sent_plain)
      ⊳ (lit (codes ",\"note\":") refl ⊳ (string_plain n.note ⊳ lit (codes "}") refl)))))))))))

  end_plain : (e : Option End) → IsPlainText (end_part e)
  end_plain None = lit (codes "null") refl
  end_plain (Some e) = (lit (codes "{\"at\":") refl ⊳ number e.at) ⊳ (lit (codes ",\"text\":") refl ⊳ (quotes (answer_text e.answer) (answer e.answer) ⊳ lit (codes "}") refl))

  bar_plain : (b : Bar) → IsPlainText (bar_part names b)
  bar_plain b =
      (lit (codes "{\"process\":") refl ⊳ number b.id.process)
      ⊳ ((lit (codes ",\"number\":") refl ⊳ number b.id.number)
      ⊳ (lit (codes ",\"op\":") refl ⊳ (quotes (op_text names b.op) (operation names ok b.op)
      ⊳ ((lit (codes ",\"call\":") refl ⊳ number b.call)
      ⊳ (lit (codes ",\"answer\":") refl ⊳ (end_plain b.end
      ⊳ lit (codes "}") refl))))))

  points_plain : (points : Option (List Point)) → IsPlainText (points_part names points)
  points_plain None = lit (codes "null") refl
  points_plain (Some points) = lines_plain (point_row names) points (λ p. numbers (p.id.process ∷ p.id.number ∷ p.at ∷ []))

each_name : (names : List (List ℕ)) → ((r : ℕ) → IsPlainText (get_or names r [])) → IsPlainText (list_text quoted names)
each_name names h = lit (codes "[") refl ⊳ (all names h ⊳ lit (codes "]") refl)
  where
    rest : (ns : List (List ℕ)) → ((r : ℕ) → IsPlainText (get_or ns r [])) → IsPlainText (flat_map (λ other. 44 ∷ other) (map quoted ns))
    rest [] k = lit [] refl
    rest (n ∷ ns) k = (lit (44 ∷ []) refl ⊳ quotes n (k 0)) ⊳ rest ns (λ r. k (suc r))

    all : (ns : List (List ℕ)) → ((r : ℕ) → IsPlainText (get_or ns r [])) → IsPlainText (joined (map quoted ns))
    all [] k = lit [] refl
    all (n ∷ ns) k = quotes n (k 0) ⊳ rest ns (λ r. k (suc r))

pub data_plain : (d : Data) → names_fault d.names ≡ None → IsPlainText (data_text d)
data_plain d ok = head ⊳ (run ⊳ order)
  where
    head : IsPlainText (head_text d)
    head =
        lit (codes "{\"version\":1,\n\"title\":") refl ⊳ (string_plain d.notes.title
        ⊳ ((lit (codes ",\n\"processes\":") refl ⊳ number d.processes)
        ⊳ (lit (codes ",\n\"registers\":") refl ⊳ (each_name d.names (name d.names ok)
        ⊳ (lit (codes ",\n\"front\":") refl ⊳ quotes (front_name d.front) (front_plain d.front))))))

    run : IsPlainText (run_text d)
    run =
        (lit (codes ",\n\"events\":") refl ⊳ lines_plain (moment_part d.names) (noted d.facts d.notes.notes) (moment_plain d.names ok))
        ⊳ ((lit (codes ",\n\"states\":") refl ⊳ lines_plain (look_part d.names) d.looks (look_plain d.names ok))
        ⊳ ((lit (codes ",\n\"arrows\":") refl ⊳ lines_plain (arrow_row d.names) d.arrows (λ a. numbers (a.from ∷ a.to ∷ a.place ∷ a.puts ∷ a.takes ∷ [])))
        ⊳ (lit (codes ",\n\"operations\":") refl ⊳ lines_plain (bar_part d.names) d.bars (bar_plain d.names ok))))

    order : IsPlainText (order_text d)
    order =
        (lit (codes ",\n\"order\":") refl ⊳ lines_plain (first_row d.names) d.order (λ f. numbers (f.stamp.time ∷ f.stamp.process ∷ f.id.number ∷ f.at ∷ [])))
        ⊳ ((lit (codes ",\n\"reads\":") refl ⊳ lines_plain (read_row d.names) d.reads (λ r. numbers (r.id.process ∷ r.id.number ∷ r.place ∷ [])))
        ⊳ ((lit (codes ",\n\"witness\":") refl ⊳ lines_plain (id_row d.names) d.witness (λ id. numbers (id.process ∷ id.number ∷ [])))
        ⊳ (lit (codes ",\n\"points\":") refl ⊳ (points_plain d.names ok d.points
        ⊳ lit (codes "}") refl))))
