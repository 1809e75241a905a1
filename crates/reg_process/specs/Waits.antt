-- What running operations wait for, as the code keeps it. They carry a proof: no promise speaks of them.
use Rattle.reg_process.specs.declared.awaited.Awaited.{Awaited}
use Rattle.reg_process.specs.declared.awaited.Awaited.TheVariants.{Cast, Settling}
use Rattle.reg_process.specs.Process.{Running, Own, Held}

abbrev pub running_of : Awaited → Running
running_of (Cast stamp op) = Own stamp op
running_of (Settling op) = Held op

abbrev pub awaited_of : Running → Awaited
awaited_of (Own stamp op) = Cast stamp op
awaited_of (Held op) = Settling op
