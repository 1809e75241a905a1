use Rattle.std.proofs.Common.{[], ◌++◌, codes, refl, ◌∙◌}
use Rattle.std.specs.Fmt.{decimal}
use Rattle.reg_node.proofs.Sealed.{grown_as}
use Rattle.reg_node.proofs.transcripts.beginning.begin_first.Goals as goal

pub returns : goal.returns
returns g c =
    let a = grown_as {lines = []} (codes "tellwydar log 1") (codes "tellwydar log 1") (record { text = c.new-bytes.ensures.items; crc = refl }) c.in_ok-crc.ensures.grows refl in
    let b = grown_as c.as_bytes.result.now (codes "cluster " ++ decimal c.args.id.cluster) a c.in_ok-crc-2.ensures.grows (c.as_bytes.ensures.value ∙ c.in_ok-cluster.ensures.ok) in
    let d = grown_as c.as_bytes-2.result.now (codes "process " ++ decimal c.args.id.process) b c.in_ok-crc-3.ensures.grows (c.as_bytes-2.ensures.value ∙ c.in_ok-process.ensures.ok) in
    grown_as c.as_bytes-3.result.now (codes "chapter " ++ decimal c.args.id.chapter) d c.in_ok-crc-4.ensures.grows (c.as_bytes-3.ensures.value ∙ c.in_ok-chapter.ensures.ok)
