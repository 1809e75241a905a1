use Rattle.std.proofs.Common.{◌∷◌, ◌∙◌, ap, sym}
use Rattle.reg_node.specs.Seals.{crc_over, seal_text}
use Rattle.reg_node.proofs.Sealed.{front_is, front_lacks, front_of, put_back, seal_long}
use Rattle.reg_node.proofs.transcripts.sealing.next_sealed.Goals as goal

pub returns-in_err-seal-clause-whole : goal.returns-in_err-seal-clause-whole
returns-in_err-seal-clause-whole c = λ line rest lacks e.
    let front = c.in_ok-front.ensures.whole (front_of c.args.crc line) rest (front_lacks c.args.crc line lacks) (e ∙ front_is c.args.crc line rest) in
    absurd (c.in_err-seal.ensures.whole (seal_text (crc_over c.args.crc line)) (32 ∷ line) front.0 (seal_long (crc_over c.args.crc line)))

pub returns-in_err-line-clause-whole : goal.returns-in_err-line-clause-whole
returns-in_err-line-clause-whole c = λ line rest lacks e.
    let front = c.in_ok-front.ensures.whole (front_of c.args.crc line) rest (front_lacks c.args.crc line lacks) (e ∙ front_is c.args.crc line rest) in
    let seal = c.in_ok-seal.ensures.whole (seal_text (crc_over c.args.crc line)) (32 ∷ line) front.0 (seal_long (crc_over c.args.crc line)) in
    absurd (c.in_err-line.ensures.whole line seal.1)

pub returns-then-is_seal-clause-read : goal.returns-then-is_seal-clause-read
returns-then-is_seal-clause-read c =
    put_back c.args.bytes.now c.in_ok-front.front.now c.in_ok-front.rest.now c.in_ok-seal.seal.now c.in_ok-seal.behind.now c.in_ok-line.line.now c.args.crc c.over-own.result
    c.in_ok-front.ensures.read.0 c.in_ok-front.ensures.read.1 c.in_ok-seal.ensures.read.0 c.in_ok-line.ensures.read (c.is_seal.ensures.0 c.if-is_seal.true) c.over-own.ensures

pub returns-then-is_seal-clause-whole : goal.returns-then-is_seal-clause-whole
returns-then-is_seal-clause-whole c = λ line rest lacks e.
    let front = c.in_ok-front.ensures.whole (front_of c.args.crc line) rest (front_lacks c.args.crc line lacks) (e ∙ front_is c.args.crc line rest) in
    let seal = c.in_ok-seal.ensures.whole (seal_text (crc_over c.args.crc line)) (32 ∷ line) front.0 (seal_long (crc_over c.args.crc line)) in
    (c.in_ok-line.ensures.whole line seal.1, front.1)

pub returns-else-is_seal-clause-whole : goal.returns-else-is_seal-clause-whole
returns-else-is_seal-clause-whole c = λ line rest lacks e.
    let front = c.in_ok-front.ensures.whole (front_of c.args.crc line) rest (front_lacks c.args.crc line lacks) (e ∙ front_is c.args.crc line rest) in
    let seal = c.in_ok-seal.ensures.whole (seal_text (crc_over c.args.crc line)) (32 ∷ line) front.0 (seal_long (crc_over c.args.crc line)) in
    let same = c.in_ok-line.ensures.whole line seal.1 in
    let is = c.is_seal.ensures.1 (seal.0 ∙ ap seal_text (sym (c.over-own.ensures ∙ ap (crc_over c.args.crc) same))) in
    let no = c.if-is_seal.false in
    absurd (cc)
