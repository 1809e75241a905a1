use Rattle.std.proofs.Common.{◌≡◌, ◌<◌, ◌++◌, [], List, length, map, set, get_or, ap, ◌∙◌, subst, arith}
use Rattle.std.proofs.lemmas.List.{length-map}
use Rattle.std.proofs.lemmas.Result.{on_ok_weaker, on_err_weaker}
use Rattle.reg_world.specs.Sharing.{items_in}
use Rattle.reg_world.proofs.Sharing.{put_on_one, keep_on_one, shared_at, still_shared}
use Rattle.reg_world.proofs.strips.Strips.push_all.Goals as goal

pub returns-clause-pushed : goal.returns-clause-pushed
returns-clause-pushed g c =
    let old = c.self.inside.common.items in
    let new = c.put_all.new.common.items in
    let strips = c.self.inside.lines.items in
    let d = c.index_mut.result.now in
    let r = c.args.to in
    let s = c.args.items.now in
    let l : r < length strips = let a = ap length c.self.view_is in let b = length-map strips (items_in old) in let e = c.requires in omega (arith, a, b, e) in
    let is : d ≡ get_or strips r d = c.index_mut.ensures.value in
    on_ok_weaker c.put_all.result
    (λ put. subst (λ (z : List (List g.row.T.Denot)). map (items_in new) (set strips r c.put_all.new.self) ≡ set z r (get_or z r [] ++ s)) c.self.view_is
    (put_on_one old new strips r c.put_all.new.self d s c.put_all.ensures.longer c.self.invariant l
    (put ∙ ap (λ x. items_in old x ++ s) is)))
    c.put_all.ensures.items

pub returns-clause-kept : goal.returns-clause-kept
returns-clause-kept g c =
    let old = c.self.inside.common.items in
    let new = c.put_all.new.common.items in
    let strips = c.self.inside.lines.items in
    let d = c.index_mut.result.now in
    let r = c.args.to in
    let l : r < length strips = let a = ap length c.self.view_is in let b = length-map strips (items_in old) in let e = c.requires in omega (arith, a, b, e) in
    on_err_weaker c.put_all.result
    (λ kept. keep_on_one old new strips r c.put_all.new.self d c.put_all.ensures.longer c.self.invariant l (kept ∙ ap (items_in old) c.index_mut.ensures.value) ∙ c.self.view_is)
    c.put_all.ensures.kept

pub put_all-requires : goal.put_all-requires
put_all-requires g c =
    let a = ap length c.self.view_is in let b = length-map c.self.inside.lines.items (items_in c.self.inside.common.items) in let e = c.requires in
    shared_at c.self.inside.common.items c.self.inside.lines.items c.args.to c.index_mut.result.now (omega (arith, a, b, e)) c.index_mut.ensures.value c.self.invariant

pub index_mut-requires : goal.index_mut-requires
index_mut-requires g c =
    let a = ap length c.self.view_is in let b = length-map c.self.inside.lines.items (items_in c.self.inside.common.items) in let e = c.requires in
    omega (arith, a, b, e)

pub invariant_of-self : goal.invariant_of-self
invariant_of-self g c =
    let a = ap length c.self.view_is in let b = length-map c.self.inside.lines.items (items_in c.self.inside.common.items) in let e = c.requires in
    still_shared c.self.inside.common.items c.put_all.new.common.items c.self.inside.lines.items c.args.to c.put_all.new.self c.put_all.ensures.longer c.self.invariant (omega (arith, a, b, e)) c.put_all.ensures.shared
