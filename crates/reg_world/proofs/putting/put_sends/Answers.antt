use Rattle.std.proofs.Common.{◌<◌, length, refl, subst, inl}
use Rattle.reg_base.specs.Order.{In}
use Rattle.reg_frames.specs.declared.bodies.Frame.TheVariants.{Got}
use Rattle.reg_frames.specs.declared.puts.Put.{Put}
use Rattle.reg_process.specs.declared.sends.Sends.{Sends}
use Rattle.reg_process.specs.Puts.{put_to}
use Rattle.reg_process.specs.Sending.{puts_of}
use Rattle.reg_world.proofs.putting.put_sends.Goals as goal

pub put-requires : goal.put-requires
put-requires g c =
    subst (λ (s : Sends). (p : Put) → In p (puts_of s) → p.to < length (g.W.WireStore.wires c.args.wires.now)) c.in-Count.is c.requires (put_to c.in-Count.to (Got c.in-Count.count)) (inl refl)

pub put_all-requires : goal.put_all-requires
put_all-requires g c = subst (λ (s : Sends). (p : Put) → In p (puts_of s) → p.to < length (g.W.WireStore.wires c.args.wires.now)) c.in-Broadcast.is c.requires
