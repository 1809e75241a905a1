-- What is put in several parts.
use Rattle.std.proofs.Common.{ℕ, ◌+◌, List, [], ◌∷◌, ◌++◌, length, map, replicate, codes, Option, sym, ap}
use Rattle.std.specs.Fmt.{decimal}
use Rattle.std.specs.List.{flat_map}
use Rattle.std.proofs.lemmas.Grind.{flat_map-append}
use Rattle.std.proofs.lemmas.List.{replicate_more}
use Rattle.reg_text.specs.declared.writing.Sink.{Sink}
use Rattle.reg_text.specs.Columns.{to_right}
use Rattle.reg_text.specs.Lines.{text_of}
use Rattle.reg_text.specs.Writing.{Puts}
use Rattle.reg_text.proofs.Sent.{puts_two, puts_as, puts_four}
use Rattle.reg_outcomes.specs.PlayTables.{Line}
use Rattle.reg_outcomes.specs.AllText.{told_text}
use Rattle.reg_outcomes.specs.TableText.{line_text, play_text, table_text, undrawn_lines}

module _ {S : Type 0} (held : S → Option (List ℕ)) where
  -- one more space
  pub puts_space : (a b c : Sink S) (n : ℕ) → Puts held a b (replicate n 32) → Puts held b c (32 ∷ [])
      → Puts held a c (replicate (n + 1) 32)
  puts_space a b c n p q = puts_as held a c (replicate n 32 ++ 32 ∷ []) (replicate (n + 1) 32) (replicate_more n 32) (puts_two held a b c (replicate n 32) (32 ∷ []) p q)

  -- the parts of a line
  pub puts_line : (l : Line) (a b c d e f : Sink S) → Puts held a b (to_right 8 (decimal l.tally.count))
      → Puts held b c (codes "  ") → Puts held c d (flat_map told_text l.outcome) → Puts held d e (play_text l.tally)
      → Puts held e f (10 ∷ [])
      → Puts held a f (line_text l ++ 10 ∷ [])
  puts_line l a b c d e f p q r s t =
      puts_two held a e f (line_text l) (10 ∷ []) (puts_four held a b c d e (to_right 8 (decimal l.tally.count)) (codes "  ") (flat_map told_text l.outcome) (play_text l.tally) p q r s) t

  -- the lines as they are put are those of the text
  pub puts_table : (plays unfinished : ℕ) (undrawn : Option ℕ) (ls : List Line) (a b c d e f : Sink S)
      → Puts held a b ((codes "plays " ++ decimal plays) ++ 10 ∷ [])
      → Puts held b c ((codes "outcomes " ++ decimal (length ls)) ++ 10 ∷ [])
      → Puts held c d (text_of (map line_text ls)) → Puts held d e ((codes "unfinished " ++ decimal unfinished) ++ 10 ∷ []) → Puts held e f (text_of (undrawn_lines undrawn)) → Puts held a f (table_text plays ls unfinished undrawn)
  puts_table plays unfinished undrawn ls a b c d e f p q r s t =
      let x : List ℕ = (codes "plays " ++ decimal plays) ++ 10 ∷ [] in
      let y : List ℕ = (codes "outcomes " ++ decimal (length ls)) ++ 10 ∷ [] in
      let z : List ℕ = (codes "unfinished " ++ decimal unfinished) ++ 10 ∷ [] in
      let rows : List ℕ = text_of (map line_text ls) in
      let last : List ℕ = text_of (undrawn_lines undrawn) in
      let behind : List (List ℕ) = (codes "unfinished " ++ decimal unfinished) ∷ undrawn_lines undrawn in
      puts_as held a f (x ++ (y ++ (rows ++ (z ++ last)))) (table_text plays ls unfinished undrawn)
      (ap (λ l. x ++ (y ++ l)) (sym (flat_map-append (λ line. line ++ 10 ∷ []) (map line_text ls) behind)))
      (puts_four held a b c d f x y rows (z ++ last) p q r (puts_two held d e f z last s t))
