use Rattle.std.proofs.Common.{◌≡◌, ◌∷◌, ◌++◌, [], replicate, sym, ap, ◌∙◌, arith, add-one}
use Rattle.std.proofs.lemmas.Grind.{common_steps}
use Rattle.reg_process.proofs.Again.{replicate_more}
use Rattle.reg_process.proofs.puts.new_inboxes.Goals as goal

pub loop-i-init : goal.loop-i-init
loop-i-init g c =
    record { items = c.in_ok-all.ensures.items; room = let z = c.in_ok-all.ensures.capacity in omega (arith, z) }

pub loop-i-preserved : goal.loop-i-preserved
loop-i-preserved g c = record {
  items =
      c.push_reserved.ensures.items
      ∙ ap (λ l. l ++ c.new.result ∷ []) c.loop-i.invariant.items
      ∙ ap (λ x. replicate c.loop-i._i 0 ++ x ∷ []) c.new.ensures
      ∙ replicate_more c.loop-i._i 0
      ∙ sym (ap (λ n. replicate n 0) (add-one c.loop-i._i));
  room = let z = c.push_reserved.ensures.capacity in let y = c.loop-i.invariant.room in omega (arith, z, y);
}

pub returns : goal.returns
returns g c =
    let end : c.loop-i._i ≡ c.args.count = let t = c.loop-i-test.false in omega (arith, t) in
    c.loop-i.invariant.items ∙ ap (λ n. replicate n 0) end

pub push_reserved-requires : goal.push_reserved-requires
push_reserved-requires g c = grind (arith, common_steps)
