use Rattle.std.proofs.Common.{rules}
use Rattle.reg_node.proofs.Starts.{start_read}
use Rattle.reg_node.proofs.messages.MessageStart.read.Goals as goal

pub returns : goal.returns
returns c =
    let form = c.may_be_start.ensures.0 c.if-not-may_be_start.false in
    record {
      spelled = start_read c.args.bytes.now c.two_at.result c.four_at.result c.number_at.result c.number_at-2.result c.four_at-2.result form.0 form.1 c.two_at.ensures c.four_at.ensures c.number_at.ensures c.number_at-2.ensures c.four_at-2.ensures;
      within = record { front = search rules; processes = search rules; registers = search rules; names = search rules; cluster = search rules; sender = search rules; receiver = search rules; begun = search rules; chapter = search rules };
    }
