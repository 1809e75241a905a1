use Rattle.reg_world.proofs.unlisted.UnlistedWiresWireStore.put_again.Goals as goal

pub returns-clause-again : goal.returns-clause-again
returns-clause-again g c = rw (← c.self.view_is) c.put_again.ensures.again
