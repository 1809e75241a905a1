use Rattle.std.proofs.Common.{◌≤◌, length, sym, subst}
use Rattle.reg_base.specs.Names.{texts}
use Rattle.reg_base.specs.Chains.{AreChains}
use Rattle.reg_base.specs.declared.limits.TheConstants.{MOST_REGISTERS}
use Rattle.reg_base.proofs.NamesLaws.{found_is, few_names}
use Rattle.reg_base.proofs.naming.Names.find.Goals as goal

pub find-requires : goal.find-requires
find-requires g c = record {
  chains = subst (λ names. AreChains (texts names) c.self.inside.chains.heads c.self.inside.chains.earlier) (sym c.deref.ensures.value) c.self.invariant.1;
  few = subst (λ names. length names ≤ MOST_REGISTERS) (sym c.deref.ensures.value) (few_names c.self.inside.names.items c.self.invariant.0);
}

pub returns : goal.returns
returns g c =
    found_is c.self.inside.names.items c.args.self.now c.args.name.now c.find.result c.self.view_is c.self.invariant.0
    (rw (← c.deref.ensures.value) c.find.ensures.some) (rw (← c.deref.ensures.value) c.find.ensures.none)
