use Rattle.std.proofs.Common.{◌≡◌, ◌∷◌, ◌++◌, [], codes, ap, sym, ◌∙◌, append_assoc}
use Rattle.std.specs.Fmt.{decimal}
use Rattle.reg_text.proofs.Sent.{puts_as, puts_four}
use Rattle.reg_trace.specs.Traces.{holds_line, stamp_text}
use Rattle.reg_trace.proofs.trace_text.put_wait.Goals as goal

pub returns : goal.returns
returns g c =
    let held = g.W.Write.contents in
    let stamp = stamp_text c.args.wait.stamp in
    let unheard = decimal c.args.wait.unheard in
    let end = codes " was not heard past it" in
    let line : codes "    holds " ++ (stamp ++ ((codes ": p" ++ unheard) ++ (end ++ 10 ∷ []))) ≡ holds_line c.args.wait ++ 10 ∷ [] =
    sym (ap (λ l. codes "    holds " ++ l) (append_assoc stamp (codes ": p" ++ (unheard ++ end)) (10 ∷ []) ∙ ap (λ l. stamp ++ (codes ": p" ++ l)) (append_assoc unheard end (10 ∷ [])))) in
    puts_as held c.args.sink.now c.put-2.new.self (codes "    holds " ++ (stamp ++ ((codes ": p" ++ unheard) ++ (end ++ 10 ∷ [])))) (holds_line c.args.wait ++ 10 ∷ []) line
    (puts_four held c.args.sink.now c.put.new.self c.put_stamp.new.sink c.put_number.new.sink c.put-2.new.self (codes "    holds ") stamp (codes ": p" ++ unheard) (end ++ 10 ∷ []) c.put.ensures c.put_stamp.ensures c.put_number.ensures c.put-2.ensures)
