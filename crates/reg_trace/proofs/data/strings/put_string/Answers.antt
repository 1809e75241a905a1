use Rattle.std.proofs.Common.{◌∙◌, sym, ap}
use Rattle.std.specs.Prelude.{flat_map}
use Rattle.std.proofs.lemmas.Iterator.{YieldsList-from_chars}
use Rattle.std.proofs.lemmas.Iterator.Consumers.{YieldsList-end}
use Rattle.reg_trace.proofs.LookedBehind.{◌▸◌, as_text}
use Rattle.reg_trace.proofs.Spelling.{each_same, puts_more}
use Rattle.reg_trace.specs.Strings.{char_text}
use Rattle.reg_trace.proofs.data.strings.put_string.Goals as goal

pub loop-c-preserved : goal.loop-c-preserved
loop-c-preserved g c =
    puts_more g.W.Write.contents c.put.new.self c.loop-c.sink c.put_char.new.sink char_text c.loop-c.yielded c.in-Some.c c.loop-c.invariant c.put_char.ensures

pub returns : goal.returns
returns g c =
    let all = YieldsList-end (YieldsList-from_chars c.args.text.now c.utf8.text cc) c.loop-c.yielded _ c.loop-c.yielded_by _ _ c.in-None.is c.next.ensures.steps in
    c.put.ensures ▸ (as_text (ap (flat_map char_text) (sym (each_same c.loop-c.yielded) ∙ all.0)) c.loop-c.invariant ▸ c.put-2.ensures)
