use Rattle.std.proofs.Common.{◌≡◌, ◌+◌, List, [], ◌∷◌, ◌++◌, take, get_or, ap, ◌∙◌}
use Rattle.reg_base.specs.declared.memory.Answer.TheVariants.{Done}
use Rattle.reg_outcomes.specs.declared.told.ToldAnswer.{ToldAnswer}
use Rattle.reg_outcomes.specs.Combining.{IsLonger, lists_of}
use Rattle.reg_outcomes.proofs.Combining.{longer_cases, longer_more}
use Rattle.reg_outcomes.proofs.Growing.{grows_put, grows_then}
use Rattle.reg_outcomes.proofs.interleavings.nevers.add_longer.Goals as goal

pub loop-value-preserved : goal.loop-value-preserved
loop-value-preserved g c =
    let values = c.args.values.now in
    let n = c.loop-value.value-index in
    let combination = c.args.combination.now in
    let d : ToldAnswer = record { process = 0; number = 0; answer = Done } in
    let told : List ToldAnswer = combination ++ get_or values n d ∷ [] in
    grows_then (IsLonger (take n values) combination) (λ y. y ≡ told) (IsLonger (take (n + 1) values) combination) (lists_of c.args.combinations.now) (lists_of c.loop-value.combinations) (lists_of c.insert.new.self)
    (λ to h. longer_more values combination to n d c.loop-value-test.true h) (λ to h. longer_cases values combination to n d c.loop-value-test.true h) c.loop-value.invariant
    (grows_put (λ v. v.items) c.push.new.self told c.loop-value.combinations.keys c.insert.new.self.keys
    (c.in_ok-push.ensures.items ∙ ap (λ (l : List ToldAnswer). l ++ get_or values n d ∷ []) (c.in_ok-extend_from_slice.ensures.items ∙ ap (λ (l : List ToldAnswer). l ++ combination) c.in_ok-longer.ensures.items)) c.in_ok-insert.ensures.keys)
