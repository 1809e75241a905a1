use Rattle.std.proofs.Common.{◌≡◌, Ok}
use Rattle.std.proofs.lemmas.Fmt.{parse-decimal}
use Rattle.reg_text.proofs.Decimals.{read_back, utf8_text, ok_same, no_error}
use Rattle.reg_text.proofs.fields.parsed.Goals as goal

pub returns-in-Ok-parse-clause-read : goal.returns-in-Ok-parse-clause-read
returns-in-Ok-parse-clause-read c =
    let same = c.in-Ok.ensures.cases.0 in
    read_back c.args.bytes.now c.parse.result c.in-Ok-parse.number (rw same at c.parse.ensures.value.0) c.in-Ok-parse.is c.requires

pub returns-in-Ok-parse-clause-whole : goal.returns-in-Ok-parse-clause-whole
returns-in-Ok-parse-clause-whole c = λ n small d.
    let same = c.in-Ok.ensures.cases.0 in
    let told : c.parse.result ≡ Ok n = parse-decimal 64 n c.args.bytes.now c.parse.result small small d (rw same at c.parse.ensures.value.0) in
    ok_same c.parse.result c.in-Ok-parse.number n c.in-Ok-parse.is told

pub returns-in-Err-parse-clause-whole : goal.returns-in-Err-parse-clause-whole
returns-in-Err-parse-clause-whole c = λ n small d.
    let same = c.in-Ok.ensures.cases.0 in
    let told : c.parse.result ≡ Ok n = parse-decimal 64 n c.args.bytes.now c.parse.result small small d (rw same at c.parse.ensures.value.0) in
    no_error c.parse.result _ n c.in-Err-parse.is told

pub returns-in-Err-clause-whole : goal.returns-in-Err-clause-whole
returns-in-Err-clause-whole c = λ n small d. absurd (c.in-Err.ensures.cases.0 (utf8_text c.args.bytes.now n small d))
