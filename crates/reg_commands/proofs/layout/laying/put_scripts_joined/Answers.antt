use Rattle.std.proofs.Common.{arith, rules, ◌≡◌, ◌<◌, ◌++◌, length, get_or, ap, sym, ◌∙◌}
use Rattle.reg_text.proofs.Sent.{puts_as}
use Rattle.reg_commands.specs.Layout.{between, script_array}
use Rattle.reg_commands.proofs.Joined.{puts_item}
use Rattle.reg_commands.proofs.layout.laying.put_scripts_joined.Goals as goal

pub loop-place-preserved : goal.loop-place-preserved
loop-place-preserved g c =
    let held = g.W.Write.contents in
    let names = c.args.names.now in
    let scripts = c.args.scripts.now in
    let place = c.loop-place.place in
    let this = c.index-scripts-place.result in
    let within : place < length scripts = omega arith in
    let here : get_or scripts place this ≡ this = search rules in
    let same = c.as_slice.ensures.value ∙ ap (λ script. script.items) (sym here) in
    puts_item held c.args.sink.now c.loop-place.sink c.put_script_at.new.sink (λ script. script_array names script.items) scripts place this within c.loop-place.invariant
    (puts_as held c.loop-place.sink c.put_script_at.new.sink (between place ++ script_array names c.as_slice.result.now) (between place ++ script_array names (get_or scripts place this).items) (ap (λ ops. between place ++ script_array names ops) same) c.put_script_at.ensures)
