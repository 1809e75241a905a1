use Rattle.std.proofs.Common.{◌<◌, length, sym, subst}
use Rattle.reg_base.specs.Order.{In}
use Rattle.reg_frames.specs.declared.puts.Put.{Put}
use Rattle.reg_process.specs.Sending.{puts_of}
use Rattle.reg_world.specs.Members.{Standing}
use Rattle.reg_world.proofs.members.Member.put.Goals as goal

pub put_sends-requires : goal.put_sends-requires
put_sends-requires g c = subst (λ (x : Standing). (p : Put) → In p (puts_of c.args.sends.now) → p.to < length x.wires) (sym c.self.view_is) c.requires
