use Rattle.reg_node.proofs.Sealed.{grown}
use Rattle.reg_node.proofs.transcripts.sealing.seal.Goals as goal

pub returns-clause-grows : goal.returns-clause-grows
returns-clause-grows g c = λ lines is.
    grown c.args.text.now.items c.put_sealed.new.text.items c.args.crc c.in_ok-behind.behind lines c.args.line.now is c.in_ok-behind.ensures.added c.in_ok-behind.ensures.crc
