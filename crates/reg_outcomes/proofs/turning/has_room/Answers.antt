use Rattle.std.specs.Prelude.{◌*◌, ◌≤◌, map}
use Rattle.std.proofs.Common.{arith}
use Rattle.std.proofs.Math.Nat.{mul-le-mul}
use Rattle.reg_outcomes.proofs.Leading.{few_operations, most_operations}
use Rattle.reg_outcomes.proofs.turning.has_room.Goals as goal

pub count_operations-operations-requires : goal.count_operations-operations-requires
count_operations-operations-requires g c =
    few_operations (map (λ v. v.items) c.args.scripts.now) c.args.registers c.requires

pub overflow_mul-result : goal.overflow_mul-result
overflow_mul-result g c =
    let most = most_operations (map (λ v. v.items) c.args.scripts.now) c.args.registers c.requires in
    let count = c.count_operations-operations.ensures in
    let few = c.most_events_of_turn.ensures.few in
    let fewer : c.count_operations-operations.result ≤ 4194240 = omega (arith, most, count) in
    let less : c.count_operations-operations.result * c.most_events_of_turn.result ≤ 4194240 * 12289 = mul-le-mul fewer few in
    omega (arith, less)
