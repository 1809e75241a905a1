use Rattle.std.proofs.Common.{ℕ, List, ◌++◌, map, ap, sym, ◌∙◌, append-nil}
use Rattle.std.specs.Prelude.{Vec}
use Rattle.reg_outcomes.specs.declared.told.ToldAnswer.{ToldAnswer}
use Rattle.reg_outcomes.specs.Interleavings.{Interleaving}
use Rattle.reg_outcomes.specs.Layers.{interleaving_of}
use Rattle.reg_outcomes.proofs.Stepping.{one_behind}
use Rattle.reg_outcomes.proofs.interleavings.outcomes.listed.Goals as goal

pub loop-told-init : goal.loop-told-init
loop-told-init g c =
    let left : List Interleaving = map interleaving_of c.into_iter-told-iterator.result in
    ap (λ (l : List Interleaving). l ++ left) c.new-list.ensures.items ∙ ap (λ (l : List (Vec ToldAnswer g.row.A.Denot × Vec ℕ g.row.A.Denot)). map interleaving_of l) c.into_iter-told-iterator.ensures.into_iter_gives.0

pub loop-told-preserved : goal.loop-told-preserved
loop-told-preserved g c =
    let left : List Interleaving = map interleaving_of c.next.new.self in
    let one : Interleaving = interleaving_of (c.in-Some.told, c.in-Some.turns) in
    ap (λ (l : List Interleaving). l ++ left) c.in_ok-push.ensures.items
    ∙ one_behind c.loop-told.list.items (map interleaving_of c.loop-told.told-iterator) left (map interleaving_of c.args.outcomes.entries) one c.loop-told.invariant
    (ap (λ (l : List (Vec ToldAnswer g.row.A.Denot × Vec ℕ g.row.A.Denot)). map interleaving_of l) c.in-Some.ensures.steps)

pub returns-clause-list : goal.returns-clause-list
returns-clause-list g c =
    let list = c.loop-told.list.items in
    sym (append-nil list) ∙ ap (λ (l : List (Vec ToldAnswer g.row.A.Denot × Vec ℕ g.row.A.Denot)). list ++ map interleaving_of l) (sym c.in-None.ensures.steps.0) ∙ c.loop-told.invariant
