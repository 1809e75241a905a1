use Rattle.std.proofs.Common.{◌≡◌, rules}
use Rattle.toml.specs.View.{view}
use Rattle.reg_front.specs.Table.{front_name}
use Rattle.reg_inputs.proofs.Accessors.{text_is, front_known, front_unknown}
use Rattle.reg_inputs.proofs.values.front_of.Goals as goal

pub returns-in-Some-from_name-clause-fault : goal.returns-in-Some-from_name-clause-fault
returns-in-Some-from_name-clause-fault c =
    let is = text_is (view c.args.value.now) c.in-Some.name.now c.in-Some.ensures in
    let named : front_name c.in-Some-from_name.front ≡ c.in-Some.name.now = (c.in-Some-from_name.ensures c.in-Some-from_name.front).0 (search rules) in
    let known = front_known c.in-Some-from_name.front c.in-Some.name.now named in
    (cc, rw (is, known))

pub returns-in-Some-from_name-clause-whole : goal.returns-in-Some-from_name-clause-whole
returns-in-Some-from_name-clause-whole c = λ f e.
    let is = text_is (view c.args.value.now) c.in-Some.name.now c.in-Some.ensures in
    let named : front_name f ≡ c.in-Some.name.now = cc in
    let some = (c.in-Some-from_name.ensures f).1 named in
    cc

pub returns-in-None-clause-fault : goal.returns-in-None-clause-fault
returns-in-None-clause-fault c =
    let is = text_is (view c.args.value.now) c.in-Some.name.now c.in-Some.ensures in
    let unknown = front_unknown c.in-Some.name.now (λ f e. let some = (c.in-None.ensures f).1 e in absurd (cc)) in
    rw (is, unknown)

pub returns-in-None-clause-whole : goal.returns-in-None-clause-whole
returns-in-None-clause-whole c = λ f e.
    let is = text_is (view c.args.value.now) c.in-Some.name.now c.in-Some.ensures in
    let named : front_name f ≡ c.in-Some.name.now = cc in
    let some = (c.in-None.ensures f).1 named in
    absurd (cc)
