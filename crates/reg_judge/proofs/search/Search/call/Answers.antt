use Rattle.std.proofs.Common.{◌<◌, length, sym, subst, arith}
use Rattle.std.proofs.lemmas.Result.{on_ok_weaker}
use Rattle.reg_checkers.proofs.Noting.{read_at}
use Rattle.reg_judge.specs.Acts.{act_in}
use Rattle.reg_judge.specs.Searching.{IsCallOf}
use Rattle.reg_judge.proofs.Stepping.{none_if, read_none, read_one}
use Rattle.reg_judge.proofs.search.Search.call.Goals as goal

pub returns-in_default-clause-layers : goal.returns-in_default-clause-layers
returns-in_default-clause-layers g c = read_none (act_in c.args.rows.now) c.args.id c.args.self.now.layers.items

pub returns-then-is_some-clause-layers : goal.returns-then-is_some-clause-layers
returns-then-is_some-clause-layers g c = read_none (act_in c.args.rows.now) c.args.id c.args.self.now.layers.items

pub returns-clause-layers : goal.returns-clause-layers
returns-clause-layers g c =
    let call = c.in-Some.call in
    let layers = c.args.self.now.layers.items in
    let i = c.from-2.result in
    let old = c.index_mut-layer.result.now in
    let is = subst (IsCallOf c.args.rows.now c.args.needs.now c.args.id) c.in-Some.is c.call_of-call.ensures in
    let inside : i < length layers = (let lt = c.requires.register call.act is.0 in let e = c.from-2.ensures in omega (arith, lt, e)) in
    let here = read_at layers i old old (sym c.index_mut-layer.ensures.value) inside in
    on_ok_weaker c.read_at_once.result
    (λ reads. read_one (act_in c.args.rows.now) c.args.id layers i old c.read_at_once.new.layer call.act here is.0 (sym c.from-2.ensures) (none_if call.act.makes c.if-is_some.ensures) reads)
    c.read_at_once.ensures
