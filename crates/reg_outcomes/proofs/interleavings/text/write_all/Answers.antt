use Rattle.std.proofs.Common.{map, rules}
use Rattle.std.specs.Option.{option_map}
use Rattle.reg_text.proofs.Sent.{went_out}
use Rattle.reg_outcomes.specs.AllText.{all_text}
use Rattle.reg_outcomes.proofs.interleavings.text.write_all.Goals as goal

pub returns : goal.returns
returns g c =
    went_out g.W.Write.contents c.new-sink.result c.put_all.new.sink c.args.writer.now _ (all_text c.args.operations c.args.all.now.stages c.args.all.now.list.items (option_map (λ list. map (λ v. v.items) list.items) c.args.nevers.now)) c.finish.result c.new-sink.ensures.failed c.new-sink.ensures.now (search rules) c.put_all.ensures c.finish.ensures
