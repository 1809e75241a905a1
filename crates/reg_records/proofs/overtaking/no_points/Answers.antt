use Rattle.reg_records.proofs.Given.{no_points}
use Rattle.reg_records.proofs.Overtaken.{stale_read_in_place, stale_read_overtaken, unseen_write_in_place}
use Rattle.reg_records.proofs.Overtaken.{unseen_write_overtaken}
use Rattle.reg_records.specs.Runs.{stale_read_history, unseen_write_history}
use Rattle.reg_world.specs.World.{op_id}
use Rattle.reg_records.proofs.overtaking.no_points.Goals as goal

pub returns-clause-all : goal.returns-clause-all
returns-clause-all c = no_points

pub returns-clause-local_read : goal.returns-clause-local_read
returns-clause-local_read c =
    no_points 3 1 stale_read_history (op_id 0 0) (op_id 1 0) stale_read_in_place stale_read_overtaken

pub returns-clause-local_write : goal.returns-clause-local_write
returns-clause-local_write c =
    no_points 2 1 unseen_write_history (op_id 0 0) (op_id 1 0) unseen_write_in_place unseen_write_overtaken
