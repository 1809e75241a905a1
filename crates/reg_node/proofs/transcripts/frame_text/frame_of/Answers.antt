use Rattle.std.proofs.Common.{◌≡◌, ◌∙◌, sym}
use Rattle.reg_frames.specs.Spelling.{spelling}
use Rattle.reg_node.proofs.Hexes.{read_back}
use Rattle.reg_node.proofs.transcripts.frame_text.frame_of.Goals as goal

pub returns-in-Ok-clause-whole : goal.returns-in-Ok-clause-whole
returns-in-Ok-clause-whole g c = λ f fits long is.
    let both = sym c.in-Ok.is ∙ c.from_hex.ensures ∙ read_back f c.args.text.now g.row.N long is in
    let same : c.in-Ok.bytes ≡ spelling f = cc in
    c.spelled.ensures.whole f fits (c.as_slice.ensures ∙ same) is

pub returns-in-Err-clause-whole : goal.returns-in-Err-clause-whole
returns-in-Err-clause-whole g c = λ f fits long is.
    let both = sym c.in-Err.is ∙ c.from_hex.ensures ∙ read_back f c.args.text.now g.row.N long is in
    absurd (cc)
