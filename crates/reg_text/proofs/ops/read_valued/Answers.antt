use Rattle.std.proofs.Common.{◌∙◌, ap₂}
use Rattle.std.specs.Option.{option_zip}
use Rattle.reg_text.proofs.Spelling.{found, valued_split, valued_read}
use Rattle.reg_text.proofs.Zipped.{zip_read}
use Rattle.reg_text.proofs.ops.read_valued.Goals as goal

pub returns-clause-read : goal.returns-clause-read
returns-clause-read g c =
    rw c.zip.ensures (zip_read _ c.find.result c.numeral.result (found c.args.names.now c.in_ok-name.name.now c.find.result c.find.ensures) c.numeral.ensures.read
    (λ register value finds number.
    let t = valued_read c.args.names.now c.args.text.now c.in_ok-name.name.now c.in_ok-name.digits.now register value c.in_ok-name.ensures.read.0 finds number.0 in
    (t.0, t.1, number.1)))

pub returns-clause-whole : goal.returns-clause-whole
returns-clause-whole g c = λ r v l small e.
    let split = valued_split c.args.names.now c.args.text.now c.in_ok-name.name.now c.in_ok-name.digits.now r v c.requires c.in_ok-name.ensures.whole l e in
    c.zip.ensures ∙ ap₂ (λ x y. option_zip x y) ((c.find.ensures r).1 split.0) (c.numeral.ensures.whole v small split.1)
