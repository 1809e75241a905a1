use Rattle.std.proofs.Common.{rules, arith, ◌≡◌, ◌++◌, ◌∷◌, [], List, ℕ, length, sym, subst}
use Rattle.std.proofs.lemmas.Grind.{common_steps}
use Rattle.reg_checkers.specs.History.{IsAt}
use Rattle.reg_live.specs.Passes.{Held, new_pass}
use Rattle.reg_live.proofs.Owning.{new_push}
use Rattle.reg_live.proofs.clusters.new_passes.Goals as goal

pub loop-me-preserved : goal.loop-me-preserved
loop-me-preserved g c =
    let pushed : c.push.new.self.items ≡ c.loop-me.passes.items ++ c.new.result ∷ [] = search rules in
    let len : length c.loop-me.passes.items ≡ c.loop-me.me = let e = c.loop-me.invariant.len in grind (arith, common_steps) in
    let is : c.new.result ≡ new_pass c.args.shape c.loop-me.me = search rules in
    record {
      each = subst (λ (xs : List Held). (p : ℕ) (h : Held) → IsAt xs p h → h ≡ new_pass c.args.shape p) (sym pushed) (new_push c.args.shape c.loop-me.passes.items c.loop-me.me c.new.result c.loop-me.invariant.each len is);
      len = grind (arith, common_steps);
    }
