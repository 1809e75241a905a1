-- The lines as they are written are those of the text.
use Rattle.std.specs.List.{list_all}
use Rattle.std.proofs.Common.{Bool, true, false, cond, ℕ, ◌≡◌, List, [], ◌∷◌, ◌++◌, length, map, codes, Option, Some}
use Rattle.std.proofs.Common.{refl, sym, ap, subst, ◌∙◌, append_assoc, append-nil}
use Rattle.std.specs.Fmt.{decimal}
use Rattle.reg_text.specs.declared.writing.Sink.{Sink}
use Rattle.reg_text.specs.Writing.{Puts}
use Rattle.reg_text.proofs.Sent.{puts_two, puts_as}
use Rattle.std.proofs.lemmas.Grind.{flat_map-append}
use Rattle.std.proofs.lemmas.List.Folds.{flat_map-map}
use Rattle.reg_base.specs.declared.memory.OpId.{OpId}
use Rattle.reg_text.specs.Lines.{text_of, lines_by}
use Rattle.reg_checkers.specs.declared.entries.Point.{Point}
use Rattle.reg_checkers.specs.declared.entries.Entry.{Entry}
use Rattle.reg_history.specs.Counted.{counted_lines}
use Rattle.reg_history.specs.Reports.{Contents, newer_head_lines, tail_lines, text_in, report_text}
use Rattle.reg_history.specs.declared.versions.Version.{Version}
use Rattle.reg_history.specs.declared.versions.Version.TheVariants.{Two, Three}
use Rattle.reg_history.specs.Versions.{version_for, version_line, is_older_entry}
use Rattle.reg_history.specs.EntryLines.{entry_text}
use Rattle.reg_history.specs.IdLines.{id_text, point_text}

pub counted_text : {X : Type 0} (mark : List ℕ) (f : X → List ℕ) (xs : List X) (rest : List (List ℕ))
    → text_of (counted_lines mark f xs rest)
    ≡ (mark ++ decimal (length xs) ++ 10 ∷ []) ++ (lines_by f xs ++ text_of rest)
counted_text mark f xs rest =
    ap (λ l. (mark ++ decimal (length xs) ++ 10 ∷ []) ++ l) (flat_map-append (λ line. line ++ 10 ∷ []) (map f xs) rest ∙ ap (λ l. l ++ text_of rest) (flat_map-map (λ line. line ++ 10 ∷ []) f xs))

columns_end : (a p n x y : List ℕ)
    → (a ++ (codes "  p" ++ (p ++ (codes "  #" ++ (n ++ x))))) ++ y
    ≡ a ++ (codes "  p" ++ (p ++ (codes "  #" ++ (n ++ (x ++ y)))))
columns_end a p n x y =
    append_assoc a (codes "  p" ++ (p ++ (codes "  #" ++ (n ++ x)))) y
    ∙ ap (λ l. a ++ (codes "  p" ++ l)) (append_assoc p (codes "  #" ++ (n ++ x)) y ∙ ap (λ l. p ++ (codes "  #" ++ l)) (append_assoc n x y))

pub entry_joined : (a p n mark rest : List ℕ)
    → (a ++ (codes "  p" ++ (p ++ (codes "  #" ++ (n ++ mark))))) ++ (rest ++ 10 ∷ [])
    ≡ (a ++ (codes "  p" ++ (p ++ (codes "  #" ++ (n ++ (mark ++ rest)))))) ++ 10 ∷ []
entry_joined a p n mark rest =
    columns_end a p n mark (rest ++ 10 ∷ [])
    ∙ ap (λ l. a ++ (codes "  p" ++ (p ++ (codes "  #" ++ (n ++ l))))) (sym (append_assoc mark rest (10 ∷ [])))
    ∙ sym (columns_end a p n (mark ++ rest) (10 ∷ []))

pub head_text : (front : List ℕ) (p : ℕ) (names : List (List ℕ))
    → (codes "front " ++ front ++ 10 ∷ []) ++ ((codes "processes " ++ decimal p ++ 10 ∷ []) ++ ((codes "registers " ++ decimal (length names) ++ 10 ∷ []) ++ lines_by (λ name. name) names)) ≡ text_of (newer_head_lines front p names [])
head_text front p names =
    ap (λ l. (codes "front " ++ front ++ 10 ∷ []) ++ ((codes "processes " ++ decimal p ++ 10 ∷ []) ++ l))
    (ap (λ l. (codes "registers " ++ decimal (length names) ++ 10 ∷ []) ++ l) (sym (append-nil (lines_by (λ name. name) names))) ∙ sym (counted_text (codes "registers ") (λ name. name) names []))

pub puts_four : {S : Type 0} (held : S → Option (List ℕ)) (a b d e f : Sink S) (s t u v : List ℕ) → Puts held a b s
    → Puts held b d t → Puts held d e u → Puts held e f v → Puts held a f (s ++ (t ++ (u ++ v)))
puts_four held a b d e f s t u v p q r l =
    puts_two held a b f s (t ++ (u ++ v)) p (puts_two held b d f t (u ++ v) q (puts_two held d e f u v r l))

puts_five : {S : Type 0} (held : S → Option (List ℕ)) (a b d e f h : Sink S) (s t u v w : List ℕ) → Puts held a b s
    → Puts held b d t → Puts held d e u → Puts held e f v → Puts held f h w
    → Puts held a h (s ++ (t ++ (u ++ (v ++ w))))
puts_five held a b d e f h s t u v w p q r l m =
    puts_two held a b h s (t ++ (u ++ (v ++ w))) p (puts_two held b d h t (u ++ (v ++ w)) q (puts_two held d e h u (v ++ w) r (puts_two held e f h v w l m)))

puts_six : {S : Type 0} (held : S → Option (List ℕ)) (a b d e f h k : Sink S) (s t u v w x : List ℕ) → Puts held a b s
    → Puts held b d t → Puts held d e u → Puts held e f v → Puts held f h w → Puts held h k x
    → Puts held a k (s ++ (t ++ (u ++ (v ++ (w ++ x)))))
puts_six held a b d e f h k s t u v w x p q r l m n =
    puts_two held a b k s (t ++ (u ++ (v ++ (w ++ x)))) p (puts_five held b d e f h k t u v w x q r l m n)

head_split : (front : List ℕ) (p : ℕ) (names rest : List (List ℕ))
    → newer_head_lines front p names [] ++ rest ≡ newer_head_lines front p names rest
head_split front p names rest =
    ap (λ l. (codes "front " ++ front) ∷ (codes "processes " ++ decimal p) ∷ (codes "registers " ++ decimal (length names)) ∷ l) (append_assoc (map (λ name. name) names) [] rest)

-- what stands after the first line
abbrev behind_first : Contents → List ℕ
behind_first r =
    text_of (newer_head_lines r.front r.shape.processes r.names []) ++ ((codes "history " ++ decimal (length r.entries) ++ 10 ∷ []) ++ (lines_by (entry_text r.names) r.entries ++ ((codes "order " ++ decimal (length r.order) ++ 10 ∷ []) ++ (lines_by id_text r.order ++ text_of (tail_lines r.points)))))

abbrev lists_lines : Contents → List (List ℕ)
lists_lines r = counted_lines (codes "history ") (entry_text r.names) r.entries (counted_lines (codes "order ") id_text r.order (tail_lines r.points))

core : (r : Contents) → behind_first r ≡ text_of (newer_head_lines r.front r.shape.processes r.names (lists_lines r))
core r = sym (
    ap text_of (sym (head_split r.front r.shape.processes r.names (lists_lines r)))
    ∙ flat_map-append (λ line. line ++ 10 ∷ []) (newer_head_lines r.front r.shape.processes r.names []) (lists_lines r)
    ∙ ap (λ l. text_of (newer_head_lines r.front r.shape.processes r.names []) ++ l) (counted_text (codes "history ") (entry_text r.names) r.entries (counted_lines (codes "order ") id_text r.order (tail_lines r.points))
    ∙ ap (λ l. (codes "history " ++ decimal (length r.entries) ++ 10 ∷ []) ++ (lines_by (entry_text r.names) r.entries ++ l)) (counted_text (codes "order ") id_text r.order (tail_lines r.points))))

-- the text in one of the versions that are written
text_written : (newest : Bool) (r : Contents)
    → (version_line (cond newest Two Three) ++ 10 ∷ []) ++ behind_first r ≡ text_in (cond newest Two Three) r
text_written true r = ap (λ l. (version_line Two ++ 10 ∷ []) ++ l) (core r)
text_written false r = ap (λ l. (version_line Three ++ 10 ∷ []) ++ l) (core r)

-- the parts of a report as the writer has them
pub record Parts : Type 0 where
  pub version : Version
  pub front : List ℕ
  pub processes : ℕ
  pub entries : List Entry
  pub ids : List OpId

pub record ArePartsOf (r : Contents) (p : Parts) : Type 0 where
  pub version_is : p.version ≡ version_for p.entries
  pub front_is : p.front ≡ r.front
  pub processes_is : p.processes ≡ r.shape.processes
  pub entries_is : p.entries ≡ r.entries
  pub ids_is : p.ids ≡ r.order

abbrev parts_text : Contents → Parts → List ℕ
parts_text r p =
    (version_line p.version ++ 10 ∷ []) ++ (text_of (newer_head_lines p.front p.processes r.names []) ++ ((codes "history " ++ decimal (length p.entries) ++ 10 ∷ []) ++ (lines_by (entry_text r.names) p.entries ++ ((codes "order " ++ decimal (length p.ids) ++ 10 ∷ []) ++ (lines_by id_text p.ids ++ text_of (tail_lines r.points))))))

pub report_written : {S : Type 0} (held : S → Option (List ℕ)) (r : Contents) (p : Parts) → ArePartsOf r p
    → (a z b d e f h k : Sink S)
    → Puts held a z (version_line p.version ++ 10 ∷ []) → Puts held z b (text_of (newer_head_lines p.front p.processes r.names [])) → Puts held b d (codes "history " ++ decimal (length p.entries) ++ 10 ∷ []) → Puts held d e (lines_by (entry_text r.names) p.entries)
    → Puts held e f (codes "order " ++ decimal (length p.ids) ++ 10 ∷ []) → Puts held f h (lines_by id_text p.ids) → Puts held h k (text_of (tail_lines r.points)) → Puts held a k (report_text r)
report_written held r p is a z b d e f h k first s t u v n q =
    let versioned : p.version ≡ version_for r.entries = is.version_is ∙ ap version_for is.entries_is in
    let same : parts_text r p ≡ (version_line (version_for r.entries) ++ 10 ∷ []) ++ behind_first r = rw (versioned, is.front_is, is.processes_is, is.entries_is, is.ids_is) refl in
    puts_as held a k (parts_text r p) (report_text r) (same ∙ text_written (list_all is_older_entry r.entries) r)
    (puts_two held a z k (version_line p.version ++ 10 ∷ []) (text_of (newer_head_lines p.front p.processes r.names []) ++ ((codes "history " ++ decimal (length p.entries) ++ 10 ∷ []) ++ (lines_by (entry_text r.names) p.entries ++ ((codes "order " ++ decimal (length p.ids) ++ 10 ∷ []) ++ (lines_by id_text p.ids ++ text_of (tail_lines r.points)))))) first
    (puts_six held z b d e f h k (text_of (newer_head_lines p.front p.processes r.names [])) (codes "history " ++ decimal (length p.entries) ++ 10 ∷ []) (lines_by (entry_text r.names) p.entries) (codes "order " ++ decimal (length p.ids) ++ 10 ∷ []) (lines_by id_text p.ids) (text_of (tail_lines r.points)) s t u v n q))

pub points_written : {S : Type 0} (held : S → Option (List ℕ)) (a b d e : Sink S) (ps : List Point)
    → Puts held a b (codes "points " ++ decimal (length ps) ++ 10 ∷ []) → Puts held b d (lines_by point_text ps)
    → Puts held d e (codes "end" ++ 10 ∷ []) → Puts held a e (text_of (tail_lines (Some ps)))
points_written held a b d e ps s t u =
    let P : List ℕ → Type 0 = λ l. Puts held a e l in
    subst P (ap (λ l. (codes "points " ++ decimal (length ps) ++ 10 ∷ []) ++ l) (ap (λ l. lines_by point_text ps ++ l) refl) ∙ sym (counted_text (codes "points ") point_text ps (codes "end" ∷ [])))
    (puts_two held a b e (codes "points " ++ decimal (length ps) ++ 10 ∷ []) (lines_by point_text ps ++ (codes "end" ++ 10 ∷ [])) s (puts_two held b d e (lines_by point_text ps) (codes "end" ++ 10 ∷ []) t u))
