use Rattle.std.proofs.Common.{◌≡◌, ◌+◌, inl, inr, List, [], ◌∷◌, ◌++◌, map, ap, sym, ◌∙◌, subst, arith, append-nil}
use Rattle.std.specs.Prelude.{Vec}
use Rattle.std.proofs.lemmas.List.{length-map}
use Rattle.reg_outcomes.specs.declared.told.ToldAnswer.{ToldAnswer}
use Rattle.reg_outcomes.specs.Nevers.{tells}
use Rattle.reg_outcomes.specs.Combining.{Grows, IsLonger, IsLongerOf, lists_of}
use Rattle.reg_outcomes.proofs.Combining.{is_longer, longer_of_cases, longer_of_more, next_all, over}
use Rattle.reg_outcomes.proofs.Growing.{grows_none, grows_then, once}
use Rattle.reg_outcomes.proofs.Stepping.{among, one_behind}
use Rattle.reg_outcomes.proofs.interleavings.nevers.next_combinations.Goals as goal

pub loop-combination-init : goal.loop-combination-init
loop-combination-init g c =
    let values : List ToldAnswer = c.in_ok-values.values.items in (
      c.into_iter-combination-iterator.ensures.into_iter_gives.0,
      subst (λ (l : List (Vec ToldAnswer g.row.A.Denot)). Grows (IsLongerOf values []) [] (map (λ v. v.items) l)) (sym c.new-next.ensures.empty) (grows_none (IsLongerOf values []) [] (λ to h. absurd h.1)),
      once (λ v. v.items) c.new-next.result.keys c.new-next.ensures.ordered,
    )

pub returns-then-len-most : goal.returns-then-len-most
returns-then-len-most g c =
    let item : Vec ToldAnswer g.row.A.Denot = c.in-Some.combination in
    let outcomes = tells c.args.outcomes.now in
    let values : List ToldAnswer = c.in_ok-values.values.items in
    let yielded = c.loop-combination.yielded in
    let old = lists_of c.loop-combination.next in
    let now = lists_of c.add_longer.new.combinations in
    let split = one_behind yielded c.loop-combination.combination-iterator c.next.new.self c.args.combinations.keys item c.loop-combination.invariant.0 c.in-Some.ensures.steps in
    let added = subst (λ (vs : List ToldAnswer). Grows (IsLonger vs item.items) old now) c.deref-in-loop-combination.ensures.value (subst (λ (t : List ToldAnswer). Grows (IsLonger c.deref-in-loop-combination.result.now t) old now) c.deref.ensures.value c.in_ok-add_longer.ensures) in
    let grown = grows_then (IsLongerOf values (map (λ v. v.items) yielded)) (IsLonger values item.items) (IsLongerOf values (map (λ v. v.items) (yielded ++ item ∷ []))) [] old now
    (λ to h. longer_of_more (λ v. v.items) values yielded item to h) (λ to h. longer_of_cases (λ v. v.items) values yielded item to h) c.loop-combination.invariant.1 added in
    let within = c.requires.whole.2 in
    over outcomes c.requires.whole.0 c.requires.whole.1 (λ (v : Vec ToldAnswer g.row.A.Denot). v.items) (c.args.place + 1) 256 c.add_longer.new.combinations.keys (omega (arith, within)) (once (λ v. v.items) c.add_longer.new.combinations.keys c.len.ensures.ordered)
    (λ to h. elim (grown.only to h) [
      | inl none ↦ absurd none
      | inr from ↦ is_longer outcomes c.args.place values from.0 to c.in_ok-values.ensures (c.requires.all.only from.0 (among (λ v. v.items) (yielded ++ item ∷ []) c.next.new.self c.args.combinations.keys from.0 split from.1)) from.2
    ])
    (let a = length-map c.args.outcomes.now (λ i. i.told) in let b = c.if-len-most.true in let d = c.len.ensures.len in omega (arith, a, b, d))

pub loop-combination-preserved : goal.loop-combination-preserved
loop-combination-preserved g c =
    let item : Vec ToldAnswer g.row.A.Denot = c.in-Some.combination in
    let values : List ToldAnswer = c.in_ok-values.values.items in
    let yielded = c.loop-combination.yielded in
    let old = lists_of c.loop-combination.next in
    let now = lists_of c.add_longer.new.combinations in
    let added = subst (λ (vs : List ToldAnswer). Grows (IsLonger vs item.items) old now) c.deref-in-loop-combination.ensures.value (subst (λ (t : List ToldAnswer). Grows (IsLonger c.deref-in-loop-combination.result.now t) old now) c.deref.ensures.value c.in_ok-add_longer.ensures) in (
      one_behind yielded c.loop-combination.combination-iterator c.next.new.self c.args.combinations.keys item c.loop-combination.invariant.0 c.in-Some.ensures.steps,
      grows_then (IsLongerOf values (map (λ v. v.items) yielded)) (IsLonger values item.items) (IsLongerOf values (map (λ v. v.items) (yielded ++ item ∷ []))) [] old now
          (λ to h. longer_of_more (λ v. v.items) values yielded item to h) (λ to h. longer_of_cases (λ v. v.items) values yielded item to h) c.loop-combination.invariant.1 added,
      once (λ v. v.items) c.add_longer.new.combinations.keys c.len.ensures.ordered,
    )

pub returns : goal.returns
returns g c =
    let outcomes = tells c.args.outcomes.now in
    let values : List ToldAnswer = c.in_ok-values.values.items in
    let yielded = c.loop-combination.yielded in
    let all : yielded ≡ c.args.combinations.keys = sym (append-nil yielded) ∙ ap (λ l. yielded ++ l) (sym c.in-None.ensures.steps.0) ∙ c.loop-combination.invariant.0 in
    next_all outcomes c.args.place values (lists_of c.args.combinations) (lists_of c.loop-combination.next) c.in_ok-values.ensures c.requires.all
    (λ to h. elim (c.loop-combination.invariant.1.only to h) [ inl none ↦ absurd none | inr from ↦ subst (λ (l : List (Vec ToldAnswer g.row.A.Denot)). IsLongerOf values (map (λ v. v.items) l) to) all from ])
    (λ to from. c.loop-combination.invariant.1.added to (subst (λ (l : List (Vec ToldAnswer g.row.A.Denot)). IsLongerOf values (map (λ v. v.items) l) to) (sym all) from)) c.loop-combination.invariant.2
