-- The lines of a report have no line feeds of their own.
use Rattle.std.proofs.Common.{ℕ, suc, ◌≡◌, ◌-◌, ◌<◌, ◌==◌, ◌^◌, ◌&&◌, nat_lt, nat_le, not, true, List, [], ◌∷◌, ◌++◌}
use Rattle.std.proofs.Common.{length, map, replicate, codes, get_or, Option, None, Some, slice_get, refl, sym, ap, ◌∙◌}
use Rattle.std.proofs.Common.{subst, arith, rules, append_assoc, append-nil, inl, inr, ◌⊎◌}
use Rattle.std.proofs.lemmas.List.{append_cancel_right}
use Rattle.std.specs.List.{list_all}
use Rattle.std.specs.Fmt.{decimal}
use Rattle.std.specs.Str.{IsUtf8}
use Rattle.reg_text.proofs.Texts.{letters_text}
use Rattle.std.proofs.lemmas.Grind.{flat_map-append}
use Rattle.reg_base.specs.declared.memory.OpId.{OpId}
use Rattle.reg_base.specs.declared.memory.Answer.{Answer}
use Rattle.reg_base.specs.declared.memory.Answer.TheVariants.{Done, Value, Unequal}
use Rattle.reg_base.specs.Names.{is_name, names_fault}
use Rattle.reg_checkers.specs.declared.entries.Entry.{Entry}
use Rattle.reg_checkers.specs.declared.entries.Entry.TheVariants.{Called, Answered}
use Rattle.reg_text.specs.Columns.{to_right, to_left}
use Rattle.reg_text.specs.Parts.{Lacks}
use Rattle.reg_checkers.specs.declared.entries.Point.{Point}
use Rattle.reg_text.specs.Lines.{text_of, lines_of}
use Rattle.reg_history.specs.Counted.{counted_lines}
use Rattle.reg_history.specs.Reports.{Contents, tail_lines, lines_in, registers_lines, newer_registers_lines}
use Rattle.reg_history.specs.Reports.{IsReportIn, PointsFit, is_front}
use Rattle.reg_text.proofs.NamesLack.{both_true, name_lacks, well_spelt}
use Rattle.reg_text.proofs.Joining.{joined, spaces_lack, number, op_lacks}
use Rattle.reg_text.proofs.Split.{AllLack, lines_text, line_last, none_left, text_lines}
use Rattle.reg_text.specs.Ops.{op_text, answer_text}
use Rattle.reg_history.specs.EntryLines.{columns_text, entry_text, AnswerFits, ColumnsFit, EntryFits}
use Rattle.reg_history.specs.IdLines.{id_text, IdFits, point_text, PointFits}
use Rattle.reg_history.specs.declared.versions.Version.{Version}
use Rattle.reg_history.specs.declared.versions.Version.TheVariants.{One, Two, Three}
use Rattle.reg_history.specs.Versions.{version_line}
use Rattle.reg_history.proofs.Fewer.{few_processes}
use Rattle.reg_text.proofs.Worded.{few}
use Rattle.reg_history.proofs.Listed.{all_spelt}
use Rattle.reg_history.specs.declared.report_limits.TheConstants.{LONGEST_FRONT}
use Rattle.reg_text.specs.Words.{names_text, is_front_letter}

answer_lacks : (x : Answer) → AnswerFits x → Lacks 10 (answer_text x)
answer_lacks Done fits = refl
answer_lacks Unequal fits = refl
answer_lacks (Value v) fits = joined 10 (codes "value ") (decimal v) refl (number v fits)

columns_lack : (version : Version) (at process n : ℕ) (rest : List ℕ) → ColumnsFit version at process n → Lacks 10 rest
    → Lacks 10 (columns_text at process n rest)
columns_lack version at process n rest fits h =
    let tail1 = joined 10 (codes "  ") rest refl h in
    let tail2 = joined 10 (to_left 6 (decimal n)) (codes "  " ++ rest) (joined 10 (decimal n) (replicate (6 - length (decimal n)) 32) (number n (omega (arith, fits.number_fits))) (spaces_lack (6 - length (decimal n)))) tail1 in
    let tail3 = joined 10 (codes "  #") (to_left 6 (decimal n) ++ (codes "  " ++ rest)) refl tail2 in
    let tail4 = joined 10 (to_left 3 (decimal process)) (codes "  #" ++ (to_left 6 (decimal n) ++ (codes "  " ++ rest))) (joined 10 (decimal process) (replicate (3 - length (decimal process)) 32) (number process (omega (arith, fits.process_fits, few_processes version))) (spaces_lack (3 - length (decimal process)))) tail3 in
    let tail5 = joined 10 (codes "  p") (to_left 3 (decimal process) ++ (codes "  #" ++ (to_left 6 (decimal n) ++ (codes "  " ++ rest)))) refl tail4 in
    joined 10 (to_right 8 (decimal at)) (codes "  p" ++ (to_left 3 (decimal process) ++ (codes "  #" ++ (to_left 6 (decimal n) ++ (codes "  " ++ rest))))) (joined 10 (replicate (8 - length (decimal at)) 32) (decimal at) (spaces_lack (8 - length (decimal at))) (number at (omega (arith, fits.at_fits)))) tail5

entry_lacks : (version : Version) (names : List (List ℕ)) (e : Entry) → names_fault names ≡ None
    → EntryFits version names e → Lacks 10 (entry_text names e)
entry_lacks version names (Called at id op) ok fits = columns_lack version at id.process id.number (codes "call    " ++ op_text names op) fits.0 (joined 10 (codes "call    ") (op_text names op) refl (op_lacks names op ok fits.1))
entry_lacks version names (Answered at id x) ok fits = columns_lack version at id.process id.number (codes "answer  " ++ answer_text x) fits.0 (joined 10 (codes "answer  ") (answer_text x) refl (answer_lacks x fits.1))

id_lacks : (version : Version) (id : OpId) → IdFits version id → Lacks 10 (id_text id)
id_lacks version id fits =
    joined 10 (codes "p") (decimal id.process ++ 32 ∷ (codes "#" ++ decimal id.number)) refl
    (joined 10 (decimal id.process) (32 ∷ (codes "#" ++ decimal id.number)) (number id.process (omega (arith, fits.0, few_processes version)))
    (joined 10 (codes " #") (decimal id.number) refl (number id.number (omega (arith, fits.1)))))

point_lacks : (version : Version) (p : Point) → PointFits version p → Lacks 10 (point_text p)
point_lacks version p fits =
    joined 10 (codes "p") (decimal p.id.process ++ 32 ∷ (codes "#" ++ (decimal p.id.number ++ 32 ∷ (codes "at " ++ decimal p.at)))) refl
    (joined 10 (decimal p.id.process) (32 ∷ (codes "#" ++ (decimal p.id.number ++ 32 ∷ (codes "at " ++ decimal p.at)))) (number p.id.process (omega (arith, fits.0.0, few_processes version)))
    (joined 10 (codes " #") (decimal p.id.number ++ 32 ∷ (codes "at " ++ decimal p.at)) refl
    (joined 10 (decimal p.id.number) (32 ∷ (codes "at " ++ decimal p.at)) (number p.id.number (omega (arith, fits.0.1)))
    (joined 10 (codes " at ") (decimal p.at) refl (number p.at (omega (arith, fits.1)))))))

all_lack : {X : Type 0} (f : X → List ℕ) (xs : List X) → ((k : ℕ) (x : X) → slice_get xs k ≡ Some x → Lacks 10 (f x))
    → AllLack (map f xs)
all_lack f [] h = tt
all_lack f (x ∷ xs) h = (h 0 x refl, all_lack f xs (λ k y e. h (suc k) y e))

pub both_lack : (a b : List (List ℕ)) → AllLack a → AllLack b → AllLack (a ++ b)
both_lack [] b h k = k
both_lack (x ∷ a) b h k = (h.0, both_lack a b h.1 k)

pub front_lack : (a b : List (List ℕ)) → AllLack (a ++ b) → AllLack a
front_lack [] b h = tt
front_lack (x ∷ a) b h = (h.0, front_lack a b h.1)

letters_lack : (l : List ℕ) → list_all is_front_letter l ≡ true → Lacks 10 l
letters_lack [] h = refl
letters_lack (b ∷ l) h =
    let both = both_true (is_front_letter b) (list_all is_front_letter l) h in
    let first : not (b == 10) ≡ true = search (rules, both.0) in
    rw first (letters_lack l both.1)

front_lacks : (w : List ℕ) → is_front w ≡ true → Lacks 10 w
front_lacks w h =
    let rest = both_true (nat_lt 0 (length w)) (nat_le (length w) LONGEST_FRONT && list_all is_front_letter w) h in
    letters_lack w (both_true (nat_le (length w) LONGEST_FRONT) (list_all is_front_letter w) rest.1).1

names_lack_from : (ns : List (List ℕ)) → ((r : ℕ) → r < length ns → is_name (get_or ns r []) ≡ true)
    → Lacks 10 (names_text ns)
names_lack_from [] h = refl
names_lack_from (n ∷ ns) h = joined 10 (32 ∷ n) (names_text ns) (joined 10 (32 ∷ []) n refl (name_lacks 10 n (omega arith) (h 0 (omega arith)))) (names_lack_from ns (λ r l. h (suc r) (omega arith)))

names_lack : (ns : List (List ℕ)) → names_fault ns ≡ None → Lacks 10 (names_text ns)
names_lack ns ok = names_lack_from ns (λ r l. well_spelt ns r ok l)

counted_lack : {X : Type 0} (mark : List ℕ) (f : X → List ℕ) (xs : List X) (rest : List (List ℕ)) → Lacks 10 mark
    → length xs < 2 ^ 64 → ((k : ℕ) (x : X) → slice_get xs k ≡ Some x → Lacks 10 (f x)) → AllLack rest
    → AllLack (counted_lines mark f xs rest)
counted_lack mark f xs rest m small all h =
    (joined 10 mark (decimal (length xs)) m (number (length xs) small), both_lack (map f xs) rest (all_lack f xs all) h)

tail_lack : (version : Version) (points : Option (List Point)) → PointsFit version points → AllLack (tail_lines points)
tail_lack version None fits = (refl, tt)
tail_lack version (Some ps) fits = counted_lack (codes "points ") point_text ps (codes "end" ∷ []) refl (omega (arith, fits.1)) (λ k p e. point_lacks version p (fits.0 k p e)) (refl, tt)

version_lacks : (version : Version) → Lacks 10 (version_line version)
version_lacks One = refl
version_lacks Two = refl
version_lacks Three = refl

newer_registers_lack : (names rest : List (List ℕ)) → names_fault names ≡ None → AllLack rest
    → AllLack (newer_registers_lines names rest)
newer_registers_lack names rest ok h =
    counted_lack (codes "registers ") (λ name. name) names rest refl (omega (arith, few names ok)) (λ k n here. name_lacks 10 n (omega arith) (all_spelt names ok k n here)) h

registers_lack : (version : Version) (names rest : List (List ℕ)) → names_fault names ≡ None → AllLack rest
    → AllLack (registers_lines version names rest)
registers_lack One names rest ok h = (joined 10 (codes "registers") (names_text names) refl (names_lack names ok), h)
registers_lack Two names rest ok h = newer_registers_lack names rest ok h
registers_lack Three names rest ok h = newer_registers_lack names rest ok h

pub report_lack : (version : Version) (r : Contents) → IsReportIn version r → AllLack (lines_in version r)
report_lack version r ok = (
  version_lacks version,
  (
    joined 10 (codes "front ") r.front refl (front_lacks r.front ok.front),
    (
      joined 10 (codes "processes ") (decimal r.shape.processes) refl (number r.shape.processes (omega (arith, ok.processes, few_processes version))),
      registers_lack version r.names _ ok.names
          (counted_lack (codes "history ") (entry_text r.names) r.entries _ refl (omega (arith, ok.range.few_entries)) (λ k e h. entry_lacks version r.names e ok.names (ok.entries k e h))
          (counted_lack (codes "order ") id_text r.order (tail_lines r.points) refl (omega (arith, ok.range.few_ids)) (λ k id h. id_lacks version id (ok.range.ids k id h)) (tail_lack version r.points ok.range.points_fit))),
    ),
  ),
)

-- the last line is the word end
abbrev pub EndsIn : List (List ℕ) → Type 0
EndsIn lines = (body : List (List ℕ)) × (lines ≡ body ++ codes "end" ∷ [])

behind : (a b : List (List ℕ)) → EndsIn b → EndsIn (a ++ b)
behind a b e = (a ++ e.0, ap (λ l. a ++ l) e.1 ∙ sym (append_assoc a e.0 (codes "end" ∷ [])))

tail_ends : (points : Option (List Point)) → EndsIn (tail_lines points)
tail_ends None = ([], refl)
tail_ends (Some ps) =
    behind ((codes "points " ++ decimal (length ps)) ∷ map point_text ps) (codes "end" ∷ []) ([], refl)

body_ends : (r : Contents)
    → EndsIn
    (counted_lines (codes "history ") (entry_text r.names) r.entries
    (counted_lines (codes "order ") id_text r.order (tail_lines r.points)))
body_ends r =
    behind ((codes "history " ++ decimal (length r.entries)) ∷ map (entry_text r.names) r.entries) _
    (behind ((codes "order " ++ decimal (length r.order)) ∷ map id_text r.order) (tail_lines r.points) (tail_ends r.points))

registers_end : (version : Version) (names rest : List (List ℕ)) → EndsIn rest
    → EndsIn (registers_lines version names rest)
registers_end One names rest e = behind ((codes "registers" ++ names_text names) ∷ []) rest e
registers_end Two names rest e =
    behind ((codes "registers " ++ decimal (length names)) ∷ map (λ name. name) names) rest e
registers_end Three names rest e =
    behind ((codes "registers " ++ decimal (length names)) ∷ map (λ name. name) names) rest e

pub report_ends : (version : Version) (r : Contents) → EndsIn (lines_in version r)
report_ends version r =
    behind (version_line version ∷ (codes "front " ++ r.front) ∷ (codes "processes " ++ decimal r.shape.processes) ∷ []) _ (registers_end version r.names _ (body_ends r))

-- the lines of a text of a report
pub lines_with : (bs : List ℕ) (ls : List (List ℕ)) → AllLack ls → EndsIn ls
    → (bs ≡ text_of ls) ⊎ (bs ++ 10 ∷ [] ≡ text_of ls) → lines_of bs ≡ ls
lines_with bs ls lack ends (inl e) = ap lines_of (e ∙ sym (append-nil (text_of ls))) ∙ lines_text ls [] lack ∙ ap (λ l. ls ++ l) none_left ∙ append-nil ls
lines_with bs ls lack ends (inr e) =
    let body = ends.0 in
    let fed : text_of ls ≡ (text_of body ++ codes "end") ++ 10 ∷ [] =
    ap text_of ends.1 ∙ flat_map-append (λ line. line ++ 10 ∷ []) body (codes "end" ∷ []) ∙ sym (append_assoc (text_of body) (codes "end") (10 ∷ [])) in
    let cut : bs ≡ text_of body ++ codes "end" = append_cancel_right bs (text_of body ++ codes "end") (10 ∷ []) (e ∙ fed) in
    let P : List (List ℕ) → Type 0 = AllLack in
    ap lines_of cut ∙ lines_text body (codes "end") (front_lack body (codes "end" ∷ []) (subst P ends.1 lack)) ∙ ap (λ l. body ++ l) (line_last 101 (codes "nd") refl) ∙ sym ends.1

pub text_with : (bs : List ℕ) (ls : List (List ℕ)) → lines_of bs ≡ ls → (bs ≡ text_of ls) ⊎ (bs ++ 10 ∷ [] ≡ text_of ls)
text_with bs ls e =
    let P : List (List ℕ) → Type 0 = λ l. (bs ≡ text_of l) ⊎ (bs ++ 10 ∷ [] ≡ text_of l) in subst P e (text_lines bs)

pub front_text : (w : List ℕ) → is_front w ≡ true → IsUtf8 w
front_text w h =
    let rest = both_true (nat_lt 0 (length w)) (nat_le (length w) LONGEST_FRONT && list_all is_front_letter w) h in
    letters_text w (both_true (nat_le (length w) LONGEST_FRONT) (list_all is_front_letter w) rest.1).1
