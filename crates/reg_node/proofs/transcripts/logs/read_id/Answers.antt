use Rattle.std.proofs.Common.{arith}
use Rattle.reg_node.proofs.Owned.{same_id}
use Rattle.reg_node.proofs.transcripts.logs.read_id.Goals as goal

pub returns-clause-whole : goal.returns-clause-whole
returns-clause-whole c = λ id rest cluster process chapter begun e.
    let first = c.in_ok-expect_line.ensures.whole _ e in
    let second = c.in_ok-cluster.ensures.whole id.cluster _ (omega (arith, cluster)) first in
    let third = c.in_ok-process.ensures.whole id.process _ (omega (arith, process)) second.1 in
    let fourth = c.in_ok-chapter.ensures.whole id.chapter _ (omega (arith, chapter)) third.1 in
    let fifth = c.in_ok-begun.ensures.whole id.begun rest (omega (arith, begun)) fourth.1 in
    (same_id c.in_ok-cluster.cluster c.in_ok-process.process c.in_ok-chapter.chapter c.in_ok-begun.begun id second.0 third.0 fourth.0 fifth.0, fifth.1)
