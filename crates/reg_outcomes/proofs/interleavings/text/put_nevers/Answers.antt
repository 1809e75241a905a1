use Rattle.std.proofs.Common.{◌≡◌, ◌++◌, ◌∷◌, [], ℕ, List, length, map, codes, Option, None, Some, ap, sym, arith}
use Rattle.std.proofs.Common.{append-nil}
use Rattle.std.specs.Prelude.{Vec}
use Rattle.std.specs.Fmt.{decimal}
use Rattle.std.specs.Option.{option_map}
use Rattle.std.proofs.lemmas.List.{length-map}
use Rattle.reg_text.proofs.Sent.{puts_as, puts_two}
use Rattle.reg_text.specs.Lines.{text_of}
use Rattle.reg_outcomes.specs.declared.told.ToldAnswer.{ToldAnswer}
use Rattle.reg_outcomes.specs.declared.interleavings.nevers.TheConstants.{MOST_NEVERS}
use Rattle.reg_outcomes.specs.AllText.{never_lines, values_text}
use Rattle.reg_outcomes.proofs.interleavings.text.put_nevers.Goals as goal

-- the text of what a list holds
abbrev text_in : {A : Type 0} → Option (Vec (Vec ToldAnswer A) A) → List ℕ
text_in found = text_of (never_lines (option_map (λ list. map (λ v. v.items) list.items) found))

pub returns-in-Some : goal.returns-in-Some
returns-in-Some g c =
    let held = g.W.Write.contents in
    let list : List (Vec ToldAnswer g.row.A.Denot) = c.in-Some.list.items in
    let lists : List (List ToldAnswer) = map (λ v. v.items) list in
    let many : c.len.result ≡ length lists = (let a = c.in-Some.list.ok.0 in let b = c.len.ensures in let d = length-map list (λ v. v.items) in omega (arith, a, b, d)) in
    puts_as held c.args.sink.now c.put_list.new.sink (text_of (never_lines (Some lists))) (text_in c.args.nevers.now) (ap text_in (sym c.in-Some.is))
    (puts_two held c.args.sink.now c.put_count-in-Some.new.sink c.put_list.new.sink ((codes "never " ++ decimal (length lists)) ++ 10 ∷ []) (text_of (map values_text lists))
    (puts_as held c.args.sink.now c.put_count-in-Some.new.sink ((codes "never " ++ decimal c.len.result) ++ 10 ∷ []) ((codes "never " ++ decimal (length lists)) ++ 10 ∷ []) (ap (λ n. (codes "never " ++ decimal n) ++ 10 ∷ []) many) c.put_count-in-Some.ensures)
    (puts_as held c.put_count-in-Some.new.sink c.put_list.new.sink (text_of (map values_text (map (λ v. v.items) c.as_slice.result.now))) (text_of (map values_text lists))
    (ap (λ (l : List (Vec ToldAnswer g.row.A.Denot)). text_of (map values_text (map (λ v. v.items) l))) c.as_slice.ensures.value) c.put_list.ensures))

pub returns-in-None : goal.returns-in-None
returns-in-None g c =
    let line : List ℕ = (codes "never over " ++ decimal MOST_NEVERS) ++ 10 ∷ [] in
    let held = g.W.Write.contents in
    puts_as held c.args.sink.now c.put_count.new.sink (text_of (never_lines None)) (text_in c.args.nevers.now) (ap text_in (sym c.in-None.is))
    (puts_as held c.args.sink.now c.put_count.new.sink line (text_of (never_lines None)) (sym (append-nil line)) c.put_count.ensures)
