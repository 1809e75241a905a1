use Rattle.std.proofs.Common.{refl, ap, ◌∙◌, ◌++◌, codes}
use Rattle.reg_text.proofs.NamesLack.{got_is}
use Rattle.reg_text.proofs.Spelling.{read_same, unread, unwritten, unswapped, uncompared, write_same, swap_same}
use Rattle.reg_text.proofs.Spelling.{compare_same, unspelt}
use Rattle.reg_text.proofs.ops.read_op.Goals as goal

pub returns-in-Some-clause-read : goal.returns-in-Some-clause-read
returns-in-Some-clause-read g c =
    let t = got_is c.args.names.now c.in_ok-register.register c.in-Some.name.now ((c.in_ok-register.ensures c.in_ok-register.register).0 refl) in
    (c.in-Some.ensures.read ∙ ap (λ l. codes "read " ++ l) t.1, t.0)

pub returns-in-Some-clause-whole : goal.returns-in-Some-clause-whole
returns-in-Some-clause-whole g c = λ op fits e. read_same c.args.names.now c.args.text.now c.in-Some.name.now c.in_ok-register.register op c.in_ok-register.ensures c.in-Some.ensures.read fits e

pub returns-in_err-register-clause-whole : goal.returns-in_err-register-clause-whole
returns-in_err-register-clause-whole g c = λ op fits e. absurd (unread c.args.names.now c.args.text.now c.in-Some.name.now op c.in_err-register.ensures c.in-Some.ensures.read fits e)

pub returns-in-Some-skip-clause-read : goal.returns-in-Some-skip-clause-read
returns-in-Some-skip-clause-read g c =
    let read = c.in_ok-register-2.ensures.read in
    (c.in-Some-skip.ensures.read ∙ ap (λ l. codes "write " ++ l) read.0, (read.1, read.2))

pub returns-in-Some-skip-clause-whole : goal.returns-in-Some-skip-clause-whole
returns-in-Some-skip-clause-whole g c = λ op fits e.
    write_same c.args.names.now c.args.text.now c.in-Some-skip.rest.now c.in_ok-register-2.register c.in_ok-register-2.value op c.in_ok-register-2.ensures.whole c.in-Some-skip.ensures.read fits e

pub returns-in_err-register-2-clause-whole : goal.returns-in_err-register-2-clause-whole
returns-in_err-register-2-clause-whole g c = λ op fits e. absurd (unwritten c.args.names.now c.args.text.now c.in-Some-skip.rest.now op c.in_err-register-2.ensures.whole c.in-Some-skip.ensures.read fits e)

pub returns-in-Some-skip-2-clause-read : goal.returns-in-Some-skip-2-clause-read
returns-in-Some-skip-2-clause-read g c =
    let read = c.in_ok-register-3.ensures.read in
    (c.in-Some-skip-2.ensures.read ∙ ap (λ l. codes "swap " ++ l) read.0, (read.1, read.2))

pub returns-in-Some-skip-2-clause-whole : goal.returns-in-Some-skip-2-clause-whole
returns-in-Some-skip-2-clause-whole g c = λ op fits e.
    swap_same c.args.names.now c.args.text.now c.in-Some-skip-2.rest.now c.in_ok-register-3.register c.in_ok-register-3.value op c.in_ok-register-3.ensures.whole c.in-Some-skip-2.ensures.read fits e

pub returns-in_err-register-3-clause-whole : goal.returns-in_err-register-3-clause-whole
returns-in_err-register-3-clause-whole g c = λ op fits e. absurd (unswapped c.args.names.now c.args.text.now c.in-Some-skip-2.rest.now op c.in_err-register-3.ensures.whole c.in-Some-skip-2.ensures.read fits e)

pub returns-in_err-rest-clause-whole : goal.returns-in_err-rest-clause-whole
returns-in_err-rest-clause-whole g c = λ op fits e.
    absurd (unspelt c.args.names.now c.args.text.now op c.in_default.ensures.whole c.in_default-skip.ensures.whole c.in_default-skip-2.ensures.whole c.in_err-rest.ensures.whole e)

pub returns-in_err-register-4-clause-whole : goal.returns-in_err-register-4-clause-whole
returns-in_err-register-4-clause-whole g c = λ op fits e. absurd (uncompared c.args.names.now c.args.text.now c.in_ok-rest.rest.now op c.in_err-register-4.ensures.whole c.in_ok-rest.ensures.read fits e)

pub returns-clause-read : goal.returns-clause-read
returns-clause-read g c =
    let read = c.in_ok-register-4.ensures.read in
    (c.in_ok-rest.ensures.read ∙ ap (λ l. codes "cas " ++ l) read.0, (read.1, read.2, read.3))

pub returns-clause-whole : goal.returns-clause-whole
returns-clause-whole g c = λ op fits e.
    compare_same c.args.names.now c.args.text.now c.in_ok-rest.rest.now c.in_ok-register-4.register c.in_ok-register-4.expected c.in_ok-register-4.value op c.in_ok-register-4.ensures.whole c.in_ok-rest.ensures.read fits e
