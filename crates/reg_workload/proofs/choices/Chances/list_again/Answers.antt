use Rattle.std.proofs.Common.{sym, subst}
use Rattle.reg_workload.specs.declared.choices.Choice.{Choice}
use Rattle.reg_workload.specs.declared.choices.Choice.TheVariants.{Call as CallNext, Take as TakeNext, Tick as PutAgain}
use Rattle.reg_workload.specs.Listed.{AreOthersListed, Acts, Passes, IsWithin}
use Rattle.reg_workload.proofs.Placing.{relisted, wire_relisted}
use Rattle.reg_workload.proofs.choices.Chances.list_again.Goals as goal

pub returns-in-Call : goal.returns-in-Call
returns-in-Call g c =
    let start = g.F.FrontEnd.start in
    let s = c.args.player.now in
    let p = c.in-Call.process in
    let before : AreOthersListed start s (CallNext p) c.args.self.now = subst (λ (x : Choice). AreOthersListed start s x c.args.self.now) c.in-Call.is c.requires.others in
    relisted start s (Acts (CallNext p)) (λ _. ⊥) (λ _ _. ⊥) p c.args.self.now c.list.new.self before c.list.ensures (λ q ne a. ne (sym a))

pub list-requires-in-Take-clause-known : goal.list-requires-in-Take-clause-known
list-requires-in-Take-clause-known g c =
    let start = g.F.FrontEnd.start in
    let s = c.args.player.now in
    let to = c.in-Take.to in
    let x = TakeNext c.in-Take.from to c.in-Take.number in
    let others : AreOthersListed start s x c.args.self.now = subst (λ (y : Choice). AreOthersListed start s y c.args.self.now) c.in-Take.is c.requires.others in
    let within : IsWithin s.made.processes x = subst (λ (y : Choice). IsWithin s.made.processes y) c.in-Take.is c.requires.within in
    λ q l. (wire_relisted start s (Acts x) (Passes x) c.in-Take.from to c.args.self.now c.list_wire.new.self others c.list_wire.ensures (λ a b h. h)).known to q within.1 l (λ a. a)

pub returns-in-Take : goal.returns-in-Take
returns-in-Take g c =
    let start = g.F.FrontEnd.start in
    let s = c.args.player.now in
    let from = c.in-Take.from in
    let to = c.in-Take.to in
    let x = TakeNext from to c.in-Take.number in
    let before : AreOthersListed start s x c.args.self.now = subst (λ (y : Choice). AreOthersListed start s y c.args.self.now) c.in-Take.is c.requires.others in
    let wire = wire_relisted start s (Acts x) (Passes x) from to c.args.self.now c.list_wire.new.self before c.list_wire.ensures (λ p q h. h) in
    relisted start s (Acts x) (λ _. ⊥) (λ _ _. ⊥) to c.list_wire.new.self c.list-in-Take.new.self wire c.list-in-Take.ensures (λ q ne a. ne (sym a))

pub returns-in-Tick : goal.returns-in-Tick
returns-in-Tick g c =
    let start = g.F.FrontEnd.start in
    let s = c.args.player.now in
    let p = c.in-Tick.process in
    let before : AreOthersListed start s (PutAgain p) c.args.self.now = subst (λ (x : Choice). AreOthersListed start s x c.args.self.now) c.in-Tick.is c.requires.others in
    relisted start s (Acts (PutAgain p)) (λ _. ⊥) (λ _ _. ⊥) p c.args.self.now c.list-in-Tick.new.self before c.list-in-Tick.ensures (λ q ne a. ne (sym a))
