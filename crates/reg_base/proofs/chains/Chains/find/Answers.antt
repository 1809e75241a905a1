use Rattle.std.proofs.Common.{◌≤◌, length, get_or, refl, ap, string_bytes, arith, rules}
use Rattle.std.proofs.lemmas.List.{length-map}
use Rattle.reg_base.specs.Names.{texts}
use Rattle.reg_base.proofs.ChainsLaws.{begins, goes_on}
use Rattle.reg_base.proofs.chains.Chains.find.Goals as goal

pub loop-turn-init : goal.loop-turn-init
loop-turn-init g c =
    let few : length (texts c.args.names.now) ≤ 4096 = omega (arith, length-map c.args.names.now string_bytes, c.requires.few) in
    begins (texts c.args.names.now) c.args.self.now.heads c.args.self.now.earlier c.args.name.now c.chain_of.result (get_or c.args.self.now.heads c.chain_of.result 0) c.requires.chains few c.chain_of.ensures.value c.chain_of.ensures.within refl

pub loop-turn-preserved : goal.loop-turn-preserved
loop-turn-preserved g c =
    goes_on (texts c.args.names.now) c.args.self.now.heads c.args.self.now.earlier c.args.name.now c.loop-turn.place c.loop-turn._turn (get_or c.args.self.now.earlier c.from-in-loop-turn.result 0) c.requires.chains c.loop-turn.invariant
    (grind arith) (grind arith) (ap (λ k. get_or c.args.self.now.earlier k 0) c.from-in-loop-turn.ensures)

pub returns-then-stands_at-clause-some : goal.returns-then-stands_at-clause-some
returns-then-stands_at-clause-some g c = search rules
