-- What is put in several parts.
use Rattle.std.proofs.Common.{ℕ, ◌≡◌, ◌+◌, ◌<◌, List, [], ◌∷◌, ◌++◌, length, take, get_or, codes, Option, sym, ap, ◌∙◌}
use Rattle.std.proofs.Common.{append-nil}
use Rattle.std.specs.Fmt.{decimal}
use Rattle.std.proofs.lemmas.Grind.{flat_map-append}
use Rattle.std.proofs.lemmas.List.{take_more}
use Rattle.std.proofs.lemmas.List.Folds.{flat_map-map}
use Rattle.reg_front.specs.Table.{front_name}
use Rattle.reg_text.specs.declared.writing.Sink.{Sink}
use Rattle.reg_text.specs.Words.{names_text}
use Rattle.reg_text.specs.Writing.{Puts}
use Rattle.reg_text.proofs.Sent.{puts_two, puts_as, puts_four}
use Rattle.reg_text.specs.Lines.{lines_by}
use Rattle.reg_inputs.specs.Schedules.{Plan, event_text}
use Rattle.reg_inputs.specs.ScheduleText.{schedule_text}

-- one more name
names_more : (names : List (List ℕ)) (i : ℕ) → i < length names
    → names_text (take (i + 1) names) ≡ names_text (take i names) ++ (32 ∷ get_or names i [])
names_more names i l =
    ap names_text (take_more names i [] l) ∙ flat_map-append (λ n. 32 ∷ n) (take i names) (get_or names i [] ∷ []) ∙ ap (λ x. names_text (take i names) ++ x) (append-nil (32 ∷ get_or names i []))

pub puts_name : {S : Type 0} (held : S → Option (List ℕ)) (a b c : Sink S) (names : List (List ℕ)) (i : ℕ)
    → i < length names → Puts held a b (names_text (take i names)) → Puts held b c (32 ∷ get_or names i [])
    → Puts held a c (names_text (take (i + 1) names))
puts_name held a b c names i l p q =
    puts_as held a c (names_text (take i names) ++ (32 ∷ get_or names i [])) (names_text (take (i + 1) names)) (sym (names_more names i l))
    (puts_two held a b c (names_text (take i names)) (32 ∷ get_or names i []) p q)

-- the parts of a schedule are its text
pub schedule_put : {S : Type 0} (held : S → Option (List ℕ)) (p : Plan) (a b c d e : Sink S)
    → Puts held a b (codes "processes " ++ decimal p.shape.processes ++ 10 ∷ [])
    → Puts held b c (codes "registers" ++ (names_text p.names ++ 10 ∷ []))
    → Puts held c d (codes "front" ++ (32 ∷ front_name p.front ++ 10 ∷ [])) → Puts held d e (lines_by (event_text p.names) p.events) → Puts held a e (schedule_text p)
schedule_put held p a b c d e h i j k =
    let s : List ℕ = codes "processes " ++ decimal p.shape.processes ++ 10 ∷ [] in
    let t : List ℕ = codes "registers" ++ (names_text p.names ++ 10 ∷ []) in
    let u : List ℕ = codes "front" ++ (32 ∷ front_name p.front ++ 10 ∷ []) in
    let v : List ℕ = lines_by (event_text p.names) p.events in
    let whole : s ++ (t ++ (u ++ v)) ≡ schedule_text p = ap (λ l. s ++ (t ++ (u ++ l))) (sym (flat_map-map (λ line. line ++ 10 ∷ []) (event_text p.names) p.events)) in
    puts_as held a e (s ++ (t ++ (u ++ v))) (schedule_text p) whole (puts_four held a b c d e s t u v h i j k)
