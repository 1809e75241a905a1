use Rattle.std.proofs.Common.{rules, sym}
use Rattle.reg_checkers.proofs.Noting.{read_at}
use Rattle.reg_live.proofs.closing.list_of.Goals as goal

pub returns-in-Ok : goal.returns-in-Ok
returns-in-Ok g c = record {
  pass = c.pass-item.result;
  one = (c.loop-pass.pass-index, read_at c.args.passes.now c.loop-pass.pass-index c.pass-item.result c.pass-item.result (sym c.pass-item.is) c.loop-pass-test.true);
  process = search rules;
  same = search rules;
}
