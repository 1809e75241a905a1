use Rattle.std.proofs.Common.{◌≡◌, ℕ, List, ◌++◌, codes, ap, sym, ◌∙◌, subst, append_assoc}
use Rattle.std.specs.Fmt.{HasWritten, decimal}
use Rattle.reg_cli.specs.StopLines.{stop_text}
use Rattle.reg_cli.proofs.stops.StopDisplay.fmt.Goals as goal

pub returns-in-Behind-clause-writes : goal.returns-in-Behind-clause-writes
returns-in-Behind-clause-writes g c plain ok =
    let process : List ℕ = decimal c.in-Behind.process in
    let length : List ℕ = decimal c.in-Behind.length in
    let text : stop_text c.args.self.now ≡ codes "process " ++ (process ++ (codes ": behind " ++ length)) =
    ap stop_text c.in-Behind.is ∙ ap (λ (t : List ℕ). codes "process " ++ t) (append_assoc process (codes ": behind ") length) in
    subst (λ (t : List ℕ). HasWritten g.W.Write.write_str_gives c.args.f.now t c.write-in-Behind.new.self) (sym text) (c.write-in-Behind.ensures.writes plain ok)
