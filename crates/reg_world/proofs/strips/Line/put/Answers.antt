use Rattle.std.proofs.Common.{◌∙◌, ◌++◌, ◌∷◌, ◌≡◌, ◌<◌, [], List, length, take, refl, sym, ap, subst, arith, rules}
use Rattle.std.proofs.lemmas.Bool.Decides.{nat_tests}
use Rattle.std.proofs.lemmas.Result.{on_ok_weaker}
use Rattle.std.specs.Prelude.{OnOk}
use Rattle.reg_world.specs.Sharing.{Strip, items_in}
use Rattle.reg_world.proofs.Sharing.{longer_more, longer_same, none_own, put_own, put_next, put_same}
use Rattle.reg_world.proofs.strips.Line.put.Goals as goal

pub returns-then-not-is_empty-clause-items : goal.returns-then-not-is_empty-clause-items
returns-then-not-is_empty-clause-items g c =
    let own = c.self.inside.own in
    let common = c.args.common.now.items in
    let some : 0 < length own.items = grind (arith, nat_tests) in
    on_ok_weaker c.push.result
    (λ put. put_own (take c.self.inside.shared common) own.items c.push.new.items.items (c.args.item ∷ []) some put ∙ ap (λ (s : Strip g.row.T.Denot). items_in common s ++ c.args.item ∷ []) c.self.view_is)
    c.push.ensures.put

pub returns-then-self-len-clause-items : goal.returns-then-self-len-clause-items
returns-then-self-len-clause-items g c =
    let own = c.self.inside.own in
    let old = c.args.common.now in
    let new = c.push-then-self-len.new.items in
    let none : length own.items ≡ 0 = grind (arith, nat_tests) in
    put_next old.items new.items own.items c.self.inside.shared c.len-self-inside.result c.args.item none (omega (arith, old.ok.0, c.len.ensures, c.if-self-len.true)) (omega (arith, new.ok.0, c.len-self-inside.ensures)) c.in_ok-push.ensures.put ∙ ap (λ (s : Strip g.row.T.Denot). items_in old.items s ++ c.args.item ∷ []) c.self.view_is

pub returns-then-self-len-clause-longer : goal.returns-then-self-len-clause-longer
returns-then-self-len-clause-longer g c =
    longer_more c.args.common.now.items c.push-then-self-len.new.items.items (c.args.item ∷ []) c.in_ok-push.ensures.put

pub returns-in_err-push-clause-longer : goal.returns-in_err-push-clause-longer
returns-in_err-push-clause-longer g c =
    longer_same c.args.common.now.items c.push-then-self-len.new.items.items c.in_err-push.ensures.kept

pub returns-then-is-clause-items : goal.returns-then-is-clause-items
returns-then-is-clause-items g c =
    let common = c.args.common.now.items in
    let none : length c.self.inside.own.items ≡ 0 = grind (arith, nat_tests) in
    let shared = ap (λ (s : Strip g.row.T.Denot). s.shared) c.self.view_is in
    put_same common c.self.inside.own.items c.self.inside.shared c.index.result.now c.args.item none (omega (arith, shared, c.requires, c.if-self-len.false, c.len.ensures, c.args.common.now.ok.0)) (search rules) ∙ ap (λ (s : Strip g.row.T.Denot). items_in common s ++ c.args.item ∷ []) c.self.view_is

pub returns-clause-items : goal.returns-clause-items
returns-clause-items g c =
    let now = c.args.self.now in
    subst (λ (l : List g.row.T.Denot). OnOk c.part.result (items_in l c.part.new.self ≡ items_in l now ++ c.args.item ∷ [])) c.deref.ensures.value c.part.ensures.items

pub returns-then-not-is_empty-clause-longer : goal.returns-then-not-is_empty-clause-longer
returns-then-not-is_empty-clause-longer g c = longer_same c.args.common.now.items c.args.common.now.items refl

pub returns-then-is-clause-longer : goal.returns-then-is-clause-longer
returns-then-is-clause-longer g c = longer_same c.args.common.now.items c.args.common.now.items refl

pub returns-clause-longer : goal.returns-clause-longer
returns-clause-longer g c = longer_same c.args.common.now.items c.args.common.now.items refl

pub part-requires-clause-own : goal.part-requires-clause-own
part-requires-clause-own g c =
    let none : length c.self.inside.own.items ≡ 0 = grind (arith, nat_tests) in
    sym (ap (λ (s : Strip g.row.T.Denot). s.own) c.self.view_is) ∙ none_own c.self.inside.own.items none
