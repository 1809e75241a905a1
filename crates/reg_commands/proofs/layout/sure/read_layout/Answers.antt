use Rattle.std.proofs.Common.{◌≡◌, rules}
use Rattle.reg_commands.specs.Layout.{load_text}
use Rattle.reg_commands.proofs.Held.{holds}
use Rattle.reg_commands.proofs.layout.sure.read_layout.Goals as goal

pub returns-then-eq : goal.returns-then-eq
returns-then-eq g c =
    let same : c.args.text.now ≡ load_text c.in_ok-work.work = search rules in
    holds c.args.text.now c.in_ok-work.work c.in_ok-work.ensures same
