use Rattle.std.proofs.Common.{◌∷◌, ◌++◌, [], ap, ◌∙◌, append_assoc}
use Rattle.reg_node.proofs.Sealed.{begun_more}
use Rattle.reg_node.proofs.transcripts.sealing.unseal.Goals as goal

pub loop-line-preserved : goal.loop-line-preserved
loop-line-preserved g c =
    begun_more c.args.bytes.now c.loop-line.text.items c.push.new.self.items c.loop-line.rest.now c.in-Some.after.now c.in-Some.line.now c.loop-line.crc c.in-Some.behind c.loop-line.invariant
    c.in-Some.ensures.read.0 c.in-Some.ensures.read.1 c.in-Some.ensures.crc
    (c.in_ok-push.ensures.items ∙ ap (λ l. l ++ 10 ∷ []) c.in_ok-extend_from_slice.ensures.items ∙ append_assoc c.loop-line.text.items c.in-Some.line.now (10 ∷ []))
