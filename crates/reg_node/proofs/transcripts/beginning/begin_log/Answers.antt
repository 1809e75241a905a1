use Rattle.std.proofs.Common.{◌++◌, codes, refl, ap, ◌∙◌}
use Rattle.std.specs.Fmt.{decimal}
use Rattle.reg_front.specs.Table.{front_name}
use Rattle.reg_text.specs.Words.{names_text}
use Rattle.reg_node.proofs.Sealed.{grown_as}
use Rattle.reg_node.proofs.transcripts.beginning.begin_log.Goals as goal

pub returns : goal.returns
returns g c =
    let a = grown_as c.as_bytes.result.now (codes "begun " ++ decimal c.args.id.begun) c.in_ok-bytes.ensures c.in_ok-crc.ensures.grows (c.as_bytes.ensures.value ∙ c.in_ok-begun.ensures.ok) in
    let b = grown_as (codes "tellwydar record 1") (codes "tellwydar record 1") a c.in_ok-crc-2.ensures.grows refl in
    let d = grown_as c.as_bytes-2.result.now (codes "front " ++ front_name c.args.front) b c.in_ok-crc-3.ensures.grows (c.as_bytes-2.ensures.value ∙ c.in_ok-front.ensures.ok ∙ ap (λ n. codes "front " ++ n) c.name-front.ensures) in
    let e = grown_as c.as_bytes-3.result.now (codes "processes " ++ decimal c.args.shape.processes) d c.in_ok-crc-4.ensures.grows (c.as_bytes-3.ensures.value ∙ c.in_ok-processes.ensures.ok ∙ ap (λ n. codes "processes " ++ decimal n) c.processes-processes.ensures.value) in
    grown_as c.as_bytes-4.result.now (codes "registers" ++ names_text c.args.names.now) e c.in_ok-crc-5.ensures.grows (c.as_bytes-4.ensures.value ∙ c.in_ok-registers.ensures)
