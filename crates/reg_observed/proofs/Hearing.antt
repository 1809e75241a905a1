-- More events that are heard.
use Rattle.std.proofs.Common.{ℕ, ◌≡◌, ◌+◌, List, [], ◌∷◌, ◌++◌, Option, None, Some, slice_get, Result, Ok, Err, refl}
use Rattle.std.proofs.Common.{ap, sym, ◌∙◌, append_assoc, append-nil, subst, zero, suc, length, ◌<◌, arith}
use Rattle.std.proofs.lemmas.Option.{same_Some, slice_get_within}
use Rattle.reg_observed.specs.declared.events.Event.{Event}
use Rattle.reg_observed.specs.declared.faults.Why.{Why}
use Rattle.reg_observed.specs.declared.heard.Vocabulary.{Vocabulary}
use Rattle.reg_observed.specs.Told.{Telling}
use Rattle.reg_observed.specs.Heard.{Extends, Widens, Speaks}
use Rattle.reg_observed.specs.JsonLines.{line_says}
use Rattle.reg_observed.specs.Reading.{Tellings, in_front, after_line, lines_tell, AreEvents, Hears, Nothing, Call}
use Rattle.reg_observed.specs.declared.heard.Heard.{Heard as Told}

-- a number keeps its word
kept : (xs ys : List (List ℕ)) (i : ℕ) (x : List ℕ) → slice_get xs i ≡ Some x → slice_get (xs ++ ys) i ≡ Some x
kept [] ys i x h = absurd (cc)
kept (y ∷ xs) ys zero x h = h
kept (y ∷ xs) ys (suc i) x h = kept xs ys i x h

kept_in : (xs zs : List (List ℕ)) (i : ℕ) (x : List ℕ) → Extends xs zs → slice_get xs i ≡ Some x
    → slice_get zs i ≡ Some x
kept_in xs zs i x (ys, e) h = ap (λ l. slice_get l i) e ∙ kept xs ys i x h

pub still_speaks : (v w : Vocabulary) → Widens v w → (told : ℕ × Telling) (e : Event) → Speaks v told e
    → Speaks w told e
still_speaks v w wider told e s = record {
  line = s.line;
  process = kept_in v.processes w.processes e.process told.1.process wider.processes s.process;
  moment = s.moment;
  act = s.act;
  key = kept_in v.keys w.keys e.key told.1.key wider.keys s.key;
  expected = kept_in v.values w.values e.expected told.1.expected wider.values s.expected;
  value = kept_in v.values w.values e.value told.1.value wider.values s.value;
}

pub one_more : (v w : Vocabulary) → Widens v w
    → (ts : List (ℕ × Telling)) (es : List Event) (told : ℕ × Telling) (e : Event) → AreEvents v ts es → Speaks w told e
    → AreEvents w (ts ++ told ∷ []) (es ++ e ∷ [])
one_more v w wider [] [] told e all s = (s, tt)
one_more v w wider [] (f ∷ es) told e all s = absurd all
one_more v w wider (t ∷ ts) [] told e all s = absurd all
one_more v w wider (t ∷ ts) (f ∷ es) told e all s =
    (still_speaks v w wider t f all.0, one_more v w wider ts es told e all.1 s)

-- these are told first
abbrev pub all_in_front : List (ℕ × Telling) → Tellings → Tellings
all_in_front [] others = others
all_in_front (told ∷ ts) others = in_front told (all_in_front ts others)

front_push : (ts : List (ℕ × Telling)) (told : ℕ × Telling) (others : Tellings)
    → all_in_front ts (in_front told others) ≡ all_in_front (ts ++ told ∷ []) others
front_push [] told others = refl
front_push (t ∷ ts) told others = ap (in_front t) (front_push ts told others)

pub front_refused : (ts : List (ℕ × Telling)) (refused : ℕ × Why) → all_in_front ts (Err refused) ≡ Err refused
front_refused [] refused = refl
front_refused (t ∷ ts) refused = ap (in_front t) (front_refused ts refused)

pub front_all : (ts : List (ℕ × Telling)) → all_in_front ts (Ok []) ≡ Ok ts
front_all [] = refl
front_all (t ∷ ts) = ap (in_front t) (front_all ts)

-- what a loop over a text keeps: these were told, and the whole is they and what is told of the rest
pub record Heard (v : Vocabulary) (events : List Event) (whole rest : Tellings) : Type 0 where
  pub told : List (ℕ × Telling)
  pub are : AreEvents v told events
  pub is_whole : whole ≡ all_in_front told rest

-- nothing is left
pub heard_all : (v : Vocabulary) (events : List Event) (whole rest : Tellings) → Heard v events whole rest
    → rest ≡ Ok [] → (told : List (ℕ × Telling)) × (whole ≡ Ok told) × AreEvents v told events
heard_all v events whole rest heard e =
    (heard.told, heard.is_whole ∙ (ap (all_in_front heard.told) e ∙ front_all heard.told), heard.are)

-- what comes next is refused
pub refused_next : (v : Vocabulary) (events : List Event) (whole rest : Tellings) (refused : ℕ × Why)
    → Heard v events whole rest → rest ≡ Err refused → whole ≡ Err refused
refused_next v events whole rest refused heard e =
    heard.is_whole ∙ (ap (all_in_front heard.told) e ∙ front_refused heard.told refused)

-- one more is heard
pub heard_more : (old new : Told) (whole rest others : Tellings) (next : ℕ) (o : Option Telling)
    → Heard old.words old.events.items whole rest → rest ≡ after_line next (Ok o) others → Hears old new next o
    → Heard new.words new.events.items whole others
heard_more old new whole rest others next o heard e hears = go o e hears
  where
    go : (o : Option Telling) → rest ≡ after_line next (Ok o) others → Hears old new next o → Heard new.words new.events.items whole others
    go None e (Nothing same) =
        let P : Told → Type 0 = λ h. Heard h.words h.events.items whole others in
        let here : Heard old.words old.events.items whole others = record { told = heard.told; are = heard.are; is_whole = heard.is_whole ∙ ap (all_in_front heard.told) e } in
        subst P (sym same) here
    go (Some told) e (Call event wider s grown) = record {
      told = heard.told ++ (next, told) ∷ [];
      are = let P : List Event → Type 0 = λ es. AreEvents new.words (heard.told ++ (next, told) ∷ []) es in subst P (sym grown) (one_more old.words new.words wider heard.told old.events.items (next, told) event heard.are s);
      is_whole = heard.is_whole ∙ (ap (all_in_front heard.told) e ∙ front_push heard.told (next, told) others);
    }

-- lines that are left: none, or one that says this and others
pub no_line : (next : ℕ) (lines : List (List ℕ)) → lines ≡ [] → lines_tell next lines ≡ Ok []
unfolding lines_tell
no_line next lines e = ap (lines_tell next) e

pub line_more : (next : ℕ) (lines : List (List ℕ)) (line : List ℕ) (left : List (List ℕ))
    (r : Result (Option Telling) Why)
    → lines ≡ line ∷ left → line_says line ≡ r → lines_tell next lines ≡ after_line next r (lines_tell (next + 1) left)
unfolding lines_tell
line_more next lines line left r e says =
    ap (lines_tell next) e ∙ ap (λ r. after_line next r (lines_tell (next + 1) left)) says

pub hears_nothing : (h : Told) (number : ℕ) (o : Option Telling) → o ≡ None → Hears h h number o
hears_nothing h number o e = let P : Option Telling → Type 0 = λ o. Hears h h number o in subst P (sym e) (Nothing refl)

pub hears_call : (old new : Told) (number : ℕ) (o : Option Telling) (told : Telling) (e : Event) → o ≡ Some told
    → Widens old.words new.words → Speaks new.words (number, told) e → new.events.items ≡ old.events.items ++ e ∷ []
    → Hears old new number o
hears_call old new number o told e is wider s grown =
    let P : Option Telling → Type 0 = λ o. Hears old new number o in subst P (sym is) (Call e wider s grown)

-- what speaks with some words speaks with more
pub all_speak : (v w : Vocabulary) → Widens v w → (ts : List (ℕ × Telling)) (es : List Event) → AreEvents v ts es
    → AreEvents w ts es
all_speak v w wider [] [] all = tt
all_speak v w wider [] (e ∷ es) all = absurd all
all_speak v w wider (t ∷ ts) [] all = absurd all
all_speak v w wider (t ∷ ts) (e ∷ es) all = (still_speaks v w wider t e all.0, all_speak v w wider ts es all.1)

pub no_wider : (xs : List (List ℕ)) → Extends xs xs
no_wider xs = ([], sym (append-nil xs))

pub kept_word : (xs zs : List (List ℕ)) (i : ℕ) (x : List ℕ) → Extends xs zs → slice_get xs i ≡ Some x
    → slice_get zs i ≡ Some x
kept_word = kept_in

pub wider_by : (xs ys zs : List (List ℕ)) → Extends xs ys → Extends ys zs → Extends xs zs
wider_by xs ys zs (ms, a) (bs, b) = (ms ++ bs, b ∙ ap (λ l. l ++ bs) a ∙ append_assoc xs ms bs)

-- each event's process has a word
pub processes_within : (v : Vocabulary) (n : ℕ) (ts : List (ℕ × Telling)) (es : List Event) → n ≡ length v.processes
    → AreEvents v ts es → (k : ℕ) (e : Event) → slice_get es k ≡ Some e → e.process < n
processes_within v n [] [] is all k e h = absurd (cc)
processes_within v n [] (f ∷ es) is all k e h = absurd all
processes_within v n (t ∷ ts) [] is all k e h = absurd all
processes_within v n (t ∷ ts) (f ∷ es) is all zero e h =
    let less : f.process < length v.processes = slice_get_within v.processes f.process t.1.process all.0.process in
    let P : Event → Type 0 = λ x. x.process < n in
    subst P (same_Some f e h) (omega arith)
processes_within v n (t ∷ ts) (f ∷ es) is all (suc k) e h = processes_within v n ts es is all.1 k e h
