-- The lines of a trace as they are put are its text.
use Rattle.std.proofs.Common.{ℕ, zero, suc, ◌≡◌, ◌+◌, ◌<◌, List, [], ◌∷◌, ◌++◌, length, take, map, flat_map, get_or}
use Rattle.std.proofs.Common.{codes, Option, None, Some, sym, ap, ap₂, ◌∙◌, arith}
use Rattle.std.proofs.Common.{append_assoc, append-nil}
use Rattle.std.specs.Fmt.{decimal}
use Rattle.std.proofs.lemmas.Grind.{flat_map-append}
use Rattle.std.proofs.lemmas.List.{take_more}
use Rattle.std.proofs.lemmas.List.Folds.{flat_map-map}
use Rattle.reg_text.specs.declared.writing.Sink.{Sink}
use Rattle.reg_text.specs.Lines.{text_of, lines_by}
use Rattle.reg_text.specs.Writing.{Puts}
use Rattle.reg_text.proofs.Sent.{puts_two, puts_as, puts_four}
use Rattle.reg_inputs.specs.Schedules.{event_text}
use Rattle.reg_trace.specs.Moments.{Fact}
use Rattle.reg_trace.specs.Traces.{answers_lines, delivers_lines, drops_lines, holds_line, moment_lines, puts_line}
use Rattle.reg_trace.specs.Traces.{takes_lines, trace_lines, trace_text}

-- the text of one line
pub one_line : (line : List ℕ) → line ++ 10 ∷ [] ≡ text_of (line ∷ [])
one_line line = sym (append-nil (line ++ 10 ∷ []))

text_append : (xs ys : List (List ℕ)) → text_of (xs ++ ys) ≡ text_of xs ++ text_of ys
text_append xs ys = flat_map-append (λ line. line ++ 10 ∷ []) xs ys

text_map : {X : Type 0} (f : X → List ℕ) (xs : List X) → text_of (map f xs) ≡ lines_by f xs
text_map f xs = flat_map-map (λ line. line ++ 10 ∷ []) f xs

-- the parts of an event, as they are put
moment_parts : (names : List (List ℕ)) (number : ℕ) (f : Fact)
    → ((decimal number ++ (codes " " ++ event_text names f.event)) ++ 10 ∷ []) ++ (text_of (takes_lines names f.event f.frame) ++ (text_of (drops_lines f.expected) ++ (((codes "    clock " ++ decimal f.clock) ++ 10 ∷ []) ++ (text_of (flat_map (delivers_lines names) f.delivered) ++ (text_of (answers_lines f.reply) ++ (lines_by holds_line f.waits ++ lines_by (puts_line names f.process) f.sent))))))
    ≡ text_of (moment_lines names number f)
moment_parts names number f =
    let head : List ℕ = (decimal number ++ (codes " " ++ event_text names f.event)) ++ 10 ∷ [] in
    let takes : List (List ℕ) = takes_lines names f.event f.frame in
    let drops : List (List ℕ) = drops_lines f.expected in
    let line : List ℕ = codes "    clock " ++ decimal f.clock in
    let delivers : List (List ℕ) = flat_map (delivers_lines names) f.delivered in
    let answers : List (List ℕ) = answers_lines f.reply in
    let holds : List (List ℕ) = map holds_line f.waits in
    let puts : List (List ℕ) = map (puts_line names f.process) f.sent in
    sym (
    ap (λ l. head ++ l) (text_append takes (drops ++ (line ∷ (delivers ++ (answers ++ (holds ++ puts)))))
    ∙ ap (λ l. text_of takes ++ l) (text_append drops (line ∷ (delivers ++ (answers ++ (holds ++ puts))))
    ∙ ap (λ l. text_of drops ++ ((line ++ 10 ∷ []) ++ l)) (text_append delivers (answers ++ (holds ++ puts))
    ∙ ap (λ l. text_of delivers ++ l) (text_append answers (holds ++ puts)
    ∙ ap (λ l. text_of answers ++ l) (text_append holds puts
    ∙ ap₂ (λ (x y : List ℕ). x ++ y) (text_map holds_line f.waits) (text_map (puts_line names f.process) f.sent))))))
    )

pub moment_put : {S : Type 0} (held : S → Option (List ℕ)) (names : List (List ℕ)) (number : ℕ) (f : Fact)
    (a b t c d e h j k : Sink S)
    → Puts held a b ((decimal number ++ (codes " " ++ event_text names f.event)) ++ 10 ∷ []) → Puts held b t (text_of (takes_lines names f.event f.frame)) → Puts held t c (text_of (drops_lines f.expected)) → Puts held c d ((codes "    clock " ++ decimal f.clock) ++ 10 ∷ [])
    → Puts held d e (text_of (flat_map (delivers_lines names) f.delivered)) → Puts held e h (text_of (answers_lines f.reply)) → Puts held h j (lines_by holds_line f.waits) → Puts held j k (lines_by (puts_line names f.process) f.sent) → Puts held a k (text_of (moment_lines names number f))
moment_put held names number f a b t c d e h j k one two turn three four five waits six =
    let head : List ℕ = (decimal number ++ (codes " " ++ event_text names f.event)) ++ 10 ∷ [] in
    let takes : List ℕ = text_of (takes_lines names f.event f.frame) in
    let drops : List ℕ = text_of (drops_lines f.expected) in
    let clock : List ℕ = (codes "    clock " ++ decimal f.clock) ++ 10 ∷ [] in
    let delivers : List ℕ = text_of (flat_map (delivers_lines names) f.delivered) in
    let answers : List ℕ = text_of (answers_lines f.reply) in
    let holds : List ℕ = lines_by holds_line f.waits in
    let puts : List ℕ = lines_by (puts_line names f.process) f.sent in
    puts_as held a k (head ++ (takes ++ (drops ++ (clock ++ (delivers ++ (answers ++ (holds ++ puts))))))) (text_of (moment_lines names number f)) (moment_parts names number f)
    (puts_four held a b t c k head takes drops (clock ++ (delivers ++ (answers ++ (holds ++ puts)))) one two turn (puts_four held c d e h k clock delivers answers (holds ++ puts) three four five (puts_two held h j k holds puts waits six)))

-- the lines of a value, where there is one
abbrev pub lines_at : (ℕ → List (List ℕ)) → Option ℕ → List (List ℕ)
lines_at f None = []
lines_at f (Some x) = f x

-- the lines of one more of these
block_more : {X : Type 0} (f : X → List (List ℕ)) (xs : List X) (i : ℕ) (d : X) → i < length xs
    → text_of (flat_map f (take (i + 1) xs)) ≡ text_of (flat_map f (take i xs)) ++ text_of (f (get_or xs i d))
block_more f xs i d l =
    ap (λ t. text_of (flat_map f t)) (take_more xs i d l)
    ∙ (ap text_of (flat_map-append f (take i xs) (get_or xs i d ∷ []) ∙ ap (λ t. flat_map f (take i xs) ++ t) (append-nil (f (get_or xs i d))))
    ∙ text_append (flat_map f (take i xs)) (f (get_or xs i d)))

-- one more of these was put
pub block_put : {S X : Type 0} (held : S → Option (List ℕ)) (a b c : Sink S) (f : X → List (List ℕ)) (xs : List X)
    (i : ℕ) (d : X)
    → i < length xs → Puts held a b (text_of (flat_map f (take i xs))) → Puts held b c (text_of (f (get_or xs i d)))
    → Puts held a c (text_of (flat_map f (take (i + 1) xs)))
block_put held a b c f xs i d l p q =
    puts_as held a c (text_of (flat_map f (take i xs)) ++ text_of (f (get_or xs i d))) (text_of (flat_map f (take (i + 1) xs))) (sym (block_more f xs i d l))
    (puts_two held a b c (text_of (flat_map f (take i xs))) (text_of (f (get_or xs i d))) p q)

-- the lines of one more event
lines_more : (names : List (List ℕ)) (number : ℕ) (facts : List Fact) (i : ℕ) (d : Fact) → i < length facts
    → trace_lines names number (take (i + 1) facts)
    ≡ trace_lines names number (take i facts) ++ moment_lines names (number + i) (get_or facts i d)
lines_more names number [] i d l = absurd (omega (arith, l))
lines_more names number (f ∷ fs) zero d l =
    let k : number + 0 ≡ number = omega arith in
    append-nil (moment_lines names number f) ∙ ap (λ m. moment_lines names m f) (sym k)
lines_more names number (f ∷ fs) (suc i) d l =
    let k : number + 1 + i ≡ number + suc i = omega arith in
    let j : suc i + 1 ≡ suc (i + 1) = omega arith in
    ap (λ m. trace_lines names number (take m (f ∷ fs))) j
    ∙ ap (λ lines. moment_lines names number f ++ lines) (lines_more names (number + 1) fs i d (omega (arith, l)) ∙ ap (λ m. trace_lines names (number + 1) (take i fs) ++ moment_lines names m (get_or fs i d)) k)
    ∙ sym (append_assoc_lines (moment_lines names number f) (trace_lines names (number + 1) (take i fs)) (moment_lines names (number + suc i) (get_or fs i d)))
  where
    append_assoc_lines : (xs ys zs : List (List ℕ)) → (xs ++ ys) ++ zs ≡ xs ++ (ys ++ zs)
    append_assoc_lines xs ys zs = append_assoc xs ys zs

-- one more event was put
pub trace_more : {S : Type 0} (held : S → Option (List ℕ)) (names : List (List ℕ)) (facts : List Fact) (i : ℕ)
    (d : Fact) (a b c : Sink S)
    → i < length facts → Puts held a b (trace_text names (take i facts))
    → Puts held b c (text_of (moment_lines names i (get_or facts i d)))
    → Puts held a c (trace_text names (take (i + 1) facts))
trace_more held names facts i d a b c l p q =
    let before : List (List ℕ) = trace_lines names 0 (take i facts) in
    let k : 0 + i ≡ i = omega arith in
    let lines : trace_lines names 0 (take (i + 1) facts) ≡ before ++ moment_lines names i (get_or facts i d) = lines_more names 0 facts i d l ∙ ap (λ m. before ++ moment_lines names m (get_or facts i d)) k in
    puts_as held a c (text_of before ++ text_of (moment_lines names i (get_or facts i d))) (trace_text names (take (i + 1) facts)) (sym (ap text_of lines ∙ text_append before (moment_lines names i (get_or facts i d))))
    (puts_two held a b c (text_of before) (text_of (moment_lines names i (get_or facts i d))) p q)
