use Rattle.std.proofs.Common.{ℕ, codes, map, subst}
use Rattle.std.specs.Fmt.{decimal}
use Rattle.reg_inputs.specs.Loads.{Load}
use Rattle.reg_text.specs.Writing.{Puts}
use Rattle.reg_commands.specs.Layout.{key_line, load_text, scripts_array}
use Rattle.reg_commands.proofs.Joined.{puts_load}
use Rattle.reg_commands.proofs.layout.laying.put_load.Goals as goal

pub returns : goal.returns
returns g c =
    let held = g.W.Write.contents in
    let w = c.work.inside in
    let load : Load = record { shape = w.shape; names = w.names; front = w.front; scripts = map (λ s. s.items) w.scripts.items; seed = w.seed; loss = w.loss; repeat = w.repeat; budget = w.budget } in
    let budget = subst (λ (n : ℕ). Puts held c.args.sink.now c.put_number_line.new.sink (key_line (codes "budget") (decimal n))) c.from.ensures c.put_number_line.ensures in
    let loss = subst (λ (n : ℕ). Puts held c.put_front.new.sink c.put_number_line-2.new.sink (key_line (codes "loss") (decimal n))) c.from-2.ensures c.put_number_line-2.ensures in
    let repeat = subst (λ (n : ℕ). Puts held c.put_registers.new.sink c.put_number_line-3.new.sink (key_line (codes "repeat") (decimal n))) c.from-3.ensures c.put_number_line-3.ensures in
    let scripts = subst (λ lists. Puts held c.put_number_line-3.new.sink c.put_scripts_line.new.sink (key_line (codes "scripts") (scripts_array w.names (map (λ s. s.items) lists)))) c.as_slice.ensures.value c.put_scripts_line.ensures in
    subst (λ (l : Load). Puts held c.args.sink.now c.put_number_line-4.new.sink (load_text l)) c.work.view_is
    (puts_load held load c.args.sink.now c.put_number_line.new.sink c.put_front.new.sink c.put_number_line-2.new.sink c.put_registers.new.sink c.put_number_line-3.new.sink c.put_scripts_line.new.sink c.put_number_line-4.new.sink
    budget c.put_front.ensures loss c.put_registers.ensures repeat scripts c.put_number_line-4.ensures)
