-- Each run, and what overtakes what in it.
use Rattle.std.proofs.Common.{◌<◌, refl, arith}
use Rattle.reg_base.specs.declared.memory.Op.TheVariants.{Read, Write, Swap, CompareAndSwap}
use Rattle.reg_base.specs.declared.memory.Answer.TheVariants.{Done, Value}
use Rattle.reg_front.specs.Table.{local_read, local_write}
use Rattle.reg_front.specs.Keeps.{local_read_keeps, local_write_keeps}
use Rattle.reg_checkers.specs.History.{IsHistory}
use Rattle.reg_world.specs.World.{op_id}
use Rattle.reg_records.specs.Overtaking.{Overtakes}
use Rattle.reg_records.specs.Runs.{stale_read, stale_read_history, stale_after_swap, stale_after_swap_history}
use Rattle.reg_records.specs.Runs.{stale_after_cas, stale_after_cas_history, new_then_old, new_then_old_history}
use Rattle.reg_records.specs.Runs.{new_then_old_at_once_history, unseen_write, unseen_write_history, overtaking_swap}
use Rattle.reg_records.specs.Runs.{overtaking_swap_history, overtaking_cas, overtaking_cas_history, overtaking_write}
use Rattle.reg_records.specs.Runs.{overtaking_write_history}
use Rattle.reg_records.proofs.Given.{given_in_place, always}

pub stale_read_in_place : IsHistory 3 1 stale_read_history
stale_read_in_place = given_in_place local_read 3 1 stale_read stale_read_history local_read_keeps (record { accepted = refl; history = refl })

pub stale_read_overtaken : Overtakes 1 stale_read_history (op_id 1 0) (op_id 0 0)
stale_read_overtaken = record {
  earlier = (4, 5, Done, Read 0, (1, refl), (2, refl), (let z : 4 < 5 = omega arith in z));
  finished = (5, Value 0, (3, refl));
  always = always 3 1 stale_read_history stale_read_in_place (op_id 1 0) (op_id 0 0) refl refl;
}

pub stale_after_swap_in_place : IsHistory 3 1 stale_after_swap_history
stale_after_swap_in_place = given_in_place local_read 3 1 stale_after_swap stale_after_swap_history local_read_keeps (record { accepted = refl; history = refl })

pub stale_after_swap_overtaken : Overtakes 1 stale_after_swap_history (op_id 1 0) (op_id 0 0)
stale_after_swap_overtaken = record {
  earlier = (4, 5, Value 0, Read 0, (1, refl), (2, refl), (let z : 4 < 5 = omega arith in z));
  finished = (5, Value 0, (3, refl));
  always = always 3 1 stale_after_swap_history stale_after_swap_in_place (op_id 1 0) (op_id 0 0) refl refl;
}

pub stale_after_cas_in_place : IsHistory 3 1 stale_after_cas_history
stale_after_cas_in_place = given_in_place local_read 3 1 stale_after_cas stale_after_cas_history local_read_keeps (record { accepted = refl; history = refl })

pub stale_after_cas_overtaken : Overtakes 1 stale_after_cas_history (op_id 1 0) (op_id 0 0)
stale_after_cas_overtaken = record {
  earlier = (4, 5, Done, Read 0, (1, refl), (2, refl), (let z : 4 < 5 = omega arith in z));
  finished = (5, Value 0, (3, refl));
  always = always 3 1 stale_after_cas_history stale_after_cas_in_place (op_id 1 0) (op_id 0 0) refl refl;
}

pub new_then_old_in_place : IsHistory 3 1 new_then_old_history
new_then_old_in_place = given_in_place local_read 3 1 new_then_old new_then_old_history local_read_keeps (record { accepted = refl; history = refl })

pub new_then_old_overtaken : Overtakes 1 new_then_old_history (op_id 2 0) (op_id 1 0)
new_then_old_overtaken = record {
  earlier = (4, 5, Value 5, Read 0, (2, refl), (3, refl), (let z : 4 < 5 = omega arith in z));
  finished = (5, Value 0, (4, refl));
  always = always 3 1 new_then_old_history new_then_old_in_place (op_id 2 0) (op_id 1 0) refl refl;
}

pub new_then_old_at_once_in_place : IsHistory 3 1 new_then_old_at_once_history
new_then_old_at_once_in_place = given_in_place local_write 3 1 new_then_old new_then_old_at_once_history local_write_keeps (record { accepted = refl; history = refl })

pub new_then_old_at_once_overtaken : Overtakes 1 new_then_old_at_once_history (op_id 2 0) (op_id 1 0)
new_then_old_at_once_overtaken = record {
  earlier = (4, 5, Value 5, Read 0, (3, refl), (4, refl), (let z : 4 < 5 = omega arith in z));
  finished = (5, Value 0, (5, refl));
  always = always 3 1 new_then_old_at_once_history new_then_old_at_once_in_place (op_id 2 0) (op_id 1 0) refl refl;
}

pub unseen_write_in_place : IsHistory 2 1 unseen_write_history
unseen_write_in_place = given_in_place local_write 2 1 unseen_write unseen_write_history local_write_keeps (record { accepted = refl; history = refl })

pub unseen_write_overtaken : Overtakes 1 unseen_write_history (op_id 1 0) (op_id 0 0)
unseen_write_overtaken = record {
  earlier = (0, 1, Done, Read 0, (1, refl), (2, refl), (let z : 0 < 1 = omega arith in z));
  finished = (1, Value 0, (3, refl));
  always = always 2 1 unseen_write_history unseen_write_in_place (op_id 1 0) (op_id 0 0) refl refl;
}

pub overtaking_swap_in_place : IsHistory 2 1 overtaking_swap_history
overtaking_swap_in_place = given_in_place local_write 2 1 overtaking_swap overtaking_swap_history local_write_keeps (record { accepted = refl; history = refl })

pub overtaking_swap_overtaken : Overtakes 1 overtaking_swap_history (op_id 0 0) (op_id 1 0)
overtaking_swap_overtaken = record {
  earlier = (0, 1, Done, Swap 0 7, (1, refl), (2, refl), (let z : 0 < 1 = omega arith in z));
  finished = (2, Value 0, (3, refl));
  always = always 2 1 overtaking_swap_history overtaking_swap_in_place (op_id 0 0) (op_id 1 0) refl refl;
}

pub overtaking_cas_in_place : IsHistory 2 1 overtaking_cas_history
overtaking_cas_in_place = given_in_place local_write 2 1 overtaking_cas overtaking_cas_history local_write_keeps (record { accepted = refl; history = refl })

pub overtaking_cas_overtaken : Overtakes 1 overtaking_cas_history (op_id 0 0) (op_id 1 0)
overtaking_cas_overtaken = record {
  earlier = (0, 1, Done, CompareAndSwap 0 0 7, (1, refl), (2, refl), (let z : 0 < 1 = omega arith in z));
  finished = (2, Done, (3, refl));
  always = always 2 1 overtaking_cas_history overtaking_cas_in_place (op_id 0 0) (op_id 1 0) refl refl;
}

pub overtaking_write_in_place : IsHistory 2 1 overtaking_write_history
overtaking_write_in_place = given_in_place local_write 2 1 overtaking_write overtaking_write_history local_write_keeps (record { accepted = refl; history = refl })

pub overtaking_write_overtaken : Overtakes 1 overtaking_write_history (op_id 0 0) (op_id 1 0)
overtaking_write_overtaken = record {
  earlier = (0, 1, Done, Write 0 7, (1, refl), (2, refl), (let z : 0 < 1 = omega arith in z));
  finished = (1, Done, (3, refl));
  always = always 2 1 overtaking_write_history overtaking_write_in_place (op_id 0 0) (op_id 1 0) refl refl;
}
