use Rattle.std.proofs.Common.{ap, nat_lt}
use Rattle.reg_node.proofs.Parted.{whole}
use Rattle.reg_node.proofs.transcripts.headless.lacks_head.Goals as goal

pub returns-in-Some : goal.returns-in-Some
returns-in-Some c = whole c.args.bytes.now c.args.text.now c.in-Some.behind.now _ c.in-Some.ensures.read (ap (λ n. nat_lt n 5) c.feeds.ensures.value)
