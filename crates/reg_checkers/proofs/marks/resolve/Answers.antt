use Rattle.std.proofs.Common.{◌≡◌, ◌+◌, List, [], ◌∷◌, take, length, get_or, Some, ap, subst, sym, ◌∙◌, arith}
use Rattle.std.proofs.Common.{length-append}
use Rattle.std.specs.List.{AllZip}
use Rattle.std.proofs.lemmas.Option.{slice_get-get_or, slice_get_within}
use Rattle.reg_base.specs.declared.memory.OpId.{OpId}
use Rattle.reg_checkers.specs.declared.facts.Fact.{Fact}
use Rattle.reg_checkers.specs.Table.{cell}
use Rattle.reg_checkers.proofs.OwnOrder.{zip_more, zip_all, stand_more}
use Rattle.reg_checkers.proofs.marks.resolve.Goals as goal

no_id : OpId
no_id = record { process = 0; number = 0 }

pub loop-k-init : goal.loop-k-init
loop-k-init g c = record {
  each = subst (λ (xs : List Fact). AllZip (λ (id : OpId) (f : Fact). cell c.args.rows.now id ≡ Some f) [] xs) (sym c.in_ok-facts.ensures.items) tt;
  stand = λ k id less at. absurd (omega arith);
  size = ap length c.in_ok-facts.ensures.items;
  room = let z = c.in_ok-facts.ensures.capacity in omega (arith, z);
}

pub returns-in_default : goal.returns-in_default
unfolding no_id
returns-in_default g c =
    (c.loop-k.k, get_or c.args.ids.now c.loop-k.k no_id, slice_get-get_or c.args.ids.now c.loop-k.k no_id c.loop-k-test.true, c.in_default.ensures)

pub push_reserved-requires : goal.push_reserved-requires
push_reserved-requires g c =
    let size = c.loop-k.invariant.size in
    let room = c.loop-k.invariant.room in
    omega (arith, size, room, c.loop-k-test.true)

pub loop-k-preserved : goal.loop-k-preserved
unfolding no_id
loop-k-preserved g c =
    let rows = c.args.rows.now in
    let ids = c.args.ids.now in
    let k = c.loop-k.k in
    let here = slice_get-get_or ids k no_id c.loop-k-test.true in
    let before = c.loop-k.invariant in record {
      each = subst (λ (xs : List Fact). AllZip (λ (id : OpId) (f : Fact). cell rows id ≡ Some f) (take (k + 1) ids) xs) (sym c.push_reserved.ensures.items)
          (zip_more (λ (id : OpId) (f : Fact). cell rows id ≡ Some f) ids c.loop-k.facts.items k no_id c.in-Some.fact c.loop-k-test.true before.each c.in-Some.ensures.0);
      stand = stand_more rows ids k (get_or ids k no_id) here c.in-Some.ensures.1 before.stand;
      size = ap length c.push_reserved.ensures.items ∙ (length-append c.loop-k.facts.items (c.in-Some.fact ∷ []) ∙ ap (λ n. n + 1) before.size);
      room = let z = c.push_reserved.ensures.capacity in let y = before.room in omega (arith, z, y);
    }

pub returns : goal.returns
returns g c =
    let rows = c.args.rows.now in
    let ids = c.args.ids.now in record {
      each = zip_all (λ (id : OpId) (f : Fact). cell rows id ≡ Some f) ids c.loop-k.facts.items c.loop-k.k c.loop-k-test.false c.loop-k.invariant.each;
      stand = λ k id at. c.loop-k.invariant.stand k id (let inside = slice_get_within ids k id at in omega (arith, c.loop-k-test.false)) at;
    }
