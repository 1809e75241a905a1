use Rattle.std.proofs.Common.{◌≡◌, ℕ, ◌+◌, ◌<◌, List, [], ◌∷◌, ◌++◌, take, length, get_or, ap, sym, ◌∙◌, arith, add-one}
use Rattle.std.proofs.lemmas.List.{take_all, length-map, length-take-le, map-append}
use Rattle.std.proofs.Math.Seq.{take-suc}
use Rattle.reg_base.specs.declared.memory.OpId.{OpId}
use Rattle.reg_checkers.specs.declared.entries.Point.{Point}
use Rattle.reg_checkers.specs.Checks.{ids_of}
use Rattle.reg_checkers.proofs.points.ids_of_points.Goals as goal

-- what a read past the end would give
blank_point : Point
blank_point = record { id = record { process = 0; number = 0 }; at = 0 }

-- one more id
one_more : (ps : List Point) (i : ℕ) (d : Point) → i < length ps
    → ids_of (take (i + 1) ps) ≡ ids_of (take i ps) ++ (get_or ps i d).id ∷ []
one_more ps i d less = ap (λ n. ids_of (take n ps)) (add-one i) ∙ ap ids_of (take-suc ps i d less) ∙ map-append (λ (p : Point). p.id) (take i ps) (get_or ps i d ∷ [])

so_many : (ps : List Point) (i : ℕ) → i < length ps → length (ids_of (take i ps)) ≡ i
so_many ps i less = length-map (take i ps) (λ (p : Point). p.id) ∙ length-take-le i ps (omega (arith, less))

pub loop-point-init : goal.loop-point-init
loop-point-init g c =
    record { items = c.in_ok-ids.ensures.items; room = let z = c.in_ok-ids.ensures.capacity in omega (arith, z) }

pub push_reserved-requires : goal.push_reserved-requires
push_reserved-requires g c =
    let size = ap length c.loop-point.invariant.items ∙ so_many c.args.points.now c.loop-point.point-index c.loop-point-test.true in
    let room = c.loop-point.invariant.room in
    omega (arith, size, room, c.loop-point-test.true)

pub loop-point-preserved : goal.loop-point-preserved
unfolding blank_point
loop-point-preserved g c = record {
  items =
      let ps = c.args.points.now in
      let i = c.loop-point.point-index in
      c.push_reserved.ensures.items ∙ ap (λ (l : List OpId). l ++ (get_or ps i blank_point).id ∷ []) c.loop-point.invariant.items ∙ sym (one_more ps i blank_point c.loop-point-test.true);
  room = let z = c.push_reserved.ensures.capacity in let y = c.loop-point.invariant.room in omega (arith, z, y);
}

pub returns : goal.returns
returns g c = c.loop-point.invariant.items ∙ ap ids_of (take_all c.loop-point.point-index c.args.points.now c.loop-point-test.false)
