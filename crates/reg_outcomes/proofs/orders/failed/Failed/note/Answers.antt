use Rattle.std.proofs.Common.{arith}
use Rattle.reg_outcomes.specs.Layers.{stage_of}
use Rattle.reg_outcomes.proofs.Noting.{noted_at, refused_at}
use Rattle.reg_outcomes.proofs.orders.failed.Failed.note.Goals as goal

pub returns-clause-noted : goal.returns-clause-noted
returns-clause-noted g c = noted_at c.args.self.now.layers.items c.args.placed (stage_of c.args.stage) c.index_mut-layer.result.now c.note_in.new.layer c.note_in.result (omega arith) c.index_mut-layer.ensures.value c.note_in.ensures.adds

pub returns-clause-refused : goal.returns-clause-refused
returns-clause-refused g c = refused_at c.args.self.now.layers.items c.args.placed (stage_of c.args.stage) c.index_mut-layer.result.now c.args.self.now.limit c.note_in.result (omega arith) c.index_mut-layer.ensures.value c.note_in.ensures.refused
