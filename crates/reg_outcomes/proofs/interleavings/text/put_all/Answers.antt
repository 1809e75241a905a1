use Rattle.std.proofs.Common.{◌≡◌, ◌++◌, ◌∷◌, [], List, length, map, codes, ap, arith}
use Rattle.std.specs.Fmt.{decimal}
use Rattle.std.specs.Option.{option_map}
use Rattle.reg_text.proofs.Sent.{puts_as}
use Rattle.reg_text.specs.Lines.{text_of}
use Rattle.reg_outcomes.specs.Interleavings.{Interleaving}
use Rattle.reg_outcomes.specs.AllText.{outcome_text}
use Rattle.reg_outcomes.proofs.Writing.{puts_all}
use Rattle.reg_outcomes.proofs.interleavings.text.put_all.Goals as goal

pub returns : goal.returns
returns g c =
    let held = g.W.Write.contents in
    let found : List Interleaving = c.args.all.now.list.items in
    let nevers = option_map (λ list. map (λ v. v.items) list.items) c.args.nevers.now in
    let many : c.len.result ≡ length found = (let a = c.args.all.now.list.ok.0 in let b = c.len.ensures in omega (arith, a, b)) in
    puts_all held c.args.operations c.args.all.now.stages found nevers c.args.sink.now c.put_count.new.sink c.put_count-2.new.sink c.put_count-3.new.sink c.put_lines.new.sink c.put_nevers.new.sink
    c.put_count.ensures c.put_count-2.ensures
    (puts_as held c.put_count-2.new.sink c.put_count-3.new.sink ((codes "outcomes " ++ decimal c.len.result) ++ 10 ∷ []) ((codes "outcomes " ++ decimal (length found)) ++ 10 ∷ []) (ap (λ n. (codes "outcomes " ++ decimal n) ++ 10 ∷ []) many) c.put_count-3.ensures)
    (puts_as held c.put_count-3.new.sink c.put_lines.new.sink (text_of (map outcome_text c.as_slice.result.now)) (text_of (map outcome_text found)) (ap (λ (l : List Interleaving). text_of (map outcome_text l)) c.as_slice.ensures.value) c.put_lines.ensures)
    c.put_nevers.ensures
