use Rattle.std.proofs.Common.{◌≡◌, List, ◌∙◌, length, map, sym}
use Rattle.reg_records.specs.declared.entries.Receipt.{Receipt}
use Rattle.reg_live.proofs.Performing.{receipts_are}
use Rattle.reg_live.proofs.scripts.close_ended.Goals as goal

pub returns-in-Ok-clause-performed : goal.returns-in-Ok-clause-performed
returns-in-Ok-clause-performed g c = λ scripts are.
    let lists : List (List Receipt) = map (λ v. v.items) c.in-Ok.closed.receipts.items in
    let len : length lists ≡ length c.args.passes.items = c.in-Ok.ensures.lived.each ∙ sym c.in-Ok.ensures.each.all in
    receipts_are scripts c.args.passes.items lists c.in-Ok.ensures.own len are
