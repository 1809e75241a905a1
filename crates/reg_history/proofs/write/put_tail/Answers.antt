use Rattle.std.proofs.Common.{List, Option, Some, option_map, subst, sym, ap}
use Rattle.reg_checkers.specs.declared.entries.Point.{Point}
use Rattle.reg_text.specs.Lines.{text_of}
use Rattle.reg_text.specs.Writing.{Puts}
use Rattle.reg_history.specs.Reports.{tail_lines}
use Rattle.reg_history.proofs.Writing.{points_written}
use Rattle.reg_history.proofs.write.put_tail.Goals as goal

pub returns-in-Some : goal.returns-in-Some
returns-in-Some g c =
    let held = g.W.Write.contents in
    let P : Option (List Point) → Type 0 = λ o. Puts held c.args.sink.now c.put_line.new.sink (text_of (tail_lines o)) in
    let Q : List Point → Type 0 = λ l. Puts held c.args.sink.now c.put_line.new.sink (text_of (tail_lines (Some l))) in
    subst P (sym (ap (option_map (λ v. v.items)) c.in-Some.is))
    (subst Q c.as_slice-points.ensures.value (points_written held c.args.sink.now c.put_count.new.sink c.put_points.new.sink c.put_line.new.sink c.as_slice-points.result.now c.put_count.ensures c.put_points.ensures c.put_line.ensures))
